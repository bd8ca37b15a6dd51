-- Two outcomes of whatever kind that differ in the replay list alone, and whose lists agree. Assumes nothing.
--   unlisted       a receiver with its replay list emptied
--   Alike          they are the same but for the list, and their lists agree
--   alike_choice   so are two choices on one test
use mathlib.Core.Bool.{Bool, true, false}
use mathlib.Core.List.{List}
use mathlib.Core.Path.{◌≡◌, refl}
use Rattle.std.specs.Prelude.{if◌then◌else◌}
use Rattle.memory.specs.declared.replay.Entry.{Entry}
use Rattle.memory.specs.Replay.{no_entries}
use Rattle.receiver.specs.declared.state.Receiver.{Receiver}
use Rattle.receiver.specs.State.{with_replay}

abbrev pub unlisted : Receiver → Receiver
unlisted r = with_replay r no_entries

-- `left` is the receiver of an outcome, and `bare` an outcome with that receiver's list emptied
pub record Alike {T : Type 0} (Both : List Entry → List Entry → Type 0) (left : T → Receiver) (bare : T → T) (x y : T) : Type 0 where
  pub same : bare x ≡ bare y
  pub lists : Both (left x).replay (left y).replay

-- two choices on one test
pub alike_choice :
    {T : Type 0} {Both : List Entry → List Entry → Type 0} {left : T → Receiver} {bare : T → T} (c : Bool) {x y u v : T}
    → (c ≡ true → Alike Both left bare x u) → (c ≡ false → Alike Both left bare y v) → Alike Both left bare (if c then x else y) (if c then u else v)
alike_choice true f g = f refl
alike_choice false f g = g refl
