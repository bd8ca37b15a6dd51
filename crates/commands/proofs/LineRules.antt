-- What a line says, by its first octet and its length: the rules.
-- Assumes nothing.
use mathlib.Core.Path.{◌≡◌, refl}
use mathlib.Core.Bool.{Bool}
use mathlib.Core.List.{List, [], ◌∷◌}
use Prim.Native.Nat.{ℕ, ◌≤◌, ◌<◌}
use native.Mathlib.Omega.{arith}
use borrow.Author.Tests.{eq-eqb, ne_eqb, lt-ltb, le-ltb}
use lib.ListN.{length, get_or}
use Rattle.common.specs.Lent.{lent}
use Rattle.commands.specs.declared.line.Line.TheVariants.{Skipped, Unread}
use Rattle.commands.specs.Command.{command_of}
use Rattle.commands.specs.Line.{said_by, or_unread, line_of}

pub line_none : (line : List ℕ) (ready : Bool) (out : List ℕ) → length line ≡ 0 → line_of line ready out ≡ lent Skipped out
unfolding line_of
line_none [] ready out h = refl
line_none (x ∷ line) ready out h = absurd (omega arith)

pub line_comment :
    (line : List ℕ) (ready : Bool) (out : List ℕ) → (length line ≡ 0 → ⊥) → get_or line 0 0 ≡ 0x23 → line_of line ready out ≡ lent Skipped out
unfolding line_of
line_comment [] ready out h c = absurd (h refl)
line_comment (x ∷ line) ready out h c = rw (eq-eqb x 0x23 c)

pub line_long :
    (line : List ℕ) (ready : Bool) (out : List ℕ) → (length line ≡ 0 → ⊥) → (get_or line 0 0 ≡ 0x23 → ⊥) → 4095 < length line
    → line_of line ready out ≡ lent Unread out
unfolding line_of
line_long [] ready out h c w = absurd (h refl)
line_long (x ∷ line) ready out h c w = rw (ne_eqb x 0x23 c, lt-ltb 4095 (length (x ∷ line)) w)

pub line_said :
    (line : List ℕ) (ready : Bool) (out : List ℕ) → (length line ≡ 0 → ⊥) → (get_or line 0 0 ≡ 0x23 → ⊥) → length line ≤ 4095
    → line_of line ready out ≡ or_unread (said_by (command_of line ready) line out)
unfolding line_of
line_said [] ready out h c w = absurd (h refl)
line_said (x ∷ line) ready out h c w = rw (ne_eqb x 0x23 c, le-ltb 4095 (length (x ∷ line)) w)

pub ruleset line_rules = (line_none, line_comment, line_long, line_said)
