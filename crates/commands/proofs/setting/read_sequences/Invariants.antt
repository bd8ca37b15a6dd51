-- `setting::read_sequences` meets its contract: what the line's numbers are to come to is what the fields that are left come to, behind the numbers read.
-- Assumes nothing.
use mathlib.Core.Path.{◌≡◌}
use lib.ListN.{length, drop}
use Rattle.text.specs.Field.{fields}
use Rattle.commands.specs.Setting.{sequences_of}
use Rattle.commands.proofs.SettingLaws.{sequences_from}
use Rattle.commands.proofs.setting.read_sequences.Given as goal

abbrev pub invariant-loop-digits : goal.invariant-loop-digits
invariant-loop-digits l =
    (goal.iterator-loop-digits).can_next l.digits-iterator
    × (goal.iterator-loop-digits).is_finite l.digits-iterator
    × (sequences_of (drop 1 (fields l.line)) ≡ sequences_from l.count l.next (drop (length l.yielded) (drop 1 (fields l.line))))
