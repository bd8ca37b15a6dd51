-- `listing::list` meets its contract: what the line's PDUs are to come to is what those of the fields that are left come to, put behind the PDUs read.
-- Assumes nothing.
use mathlib.Core.Path.{◌≡◌}
use lib.ListN.{length, drop}
use Rattle.common.specs.Lent.{lent}
use Rattle.text.specs.Field.{fields}
use Rattle.commands.specs.Listing.{listing}
use Rattle.commands.proofs.ListingLaws.{list_from}
use Rattle.commands.proofs.listing.list.Given as goal

abbrev pub invariant-loop-digits : goal.invariant-loop-digits
invariant-loop-digits l =
    (goal.iterator-loop-digits).can_next l.digits-iterator
    × (goal.iterator-loop-digits).is_finite l.digits-iterator
    × (length l.out ≡ length l.initial.out)
    × (listing (drop 1 (fields l.line)) l.initial.out ≡ list_from (lent l.to l.out) (drop (length l.yielded) (drop 1 (fields l.line))))
