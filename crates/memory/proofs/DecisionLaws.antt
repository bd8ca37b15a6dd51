-- What becomes of a segment: no two decisions are given alike.
-- Assumes nothing.
use mathlib.Core.List.{[], ◌∷◌}
use mathlib.Core.Path.{◌≡◌, refl}
use Rattle.std.specs.Prelude.{Ok, Err}
use Prim.Native.Nat.{◌-◌}
use lib.ListN.{get_or}
use Rattle.common.specs.Paper.{Paper, Refusal, Given}
use Rattle.common.proofs.PaperLaws.{told_apart}
use Rattle.memory.specs.declared.decision.Decision.TheVariants.{Repeat, Join, Open}
use Rattle.memory.specs.declared.decision.Refusal.TheVariants.{Stale, Differs, NoEntryLeft, NoSlotLeft}
use Rattle.memory.specs.Decision.{Word, repeats, joins, opens, Decided, paper, PaperApart}

-- ---- how a decision is given
abbrev read : Paper Word → Decided
read (Given repeats v) = Ok (Repeat (get_or v 0 0))
read (Given joins v) = Ok (Join (get_or v 0 0))
read (Given opens v) = Ok (Open (get_or v 0 0))
read (Refusal n v) = Err (get_or (Stale ∷ Differs ∷ NoEntryLeft ∷ []) (n - 9) NoSlotLeft)

back : (d : Decided) → read (paper d) ≡ d
back (Ok (Repeat bits)) = refl
back (Ok (Join slot)) = refl
back (Ok (Open slot)) = refl
back (Err Stale) = refl
back (Err Differs) = refl
back (Err NoEntryLeft) = refl
back (Err NoSlotLeft) = refl

pub paper_apart : PaperApart
paper_apart = told_apart paper read back
