-- A search by halving, for any test that holds up to some place, and not from there on: where it ceases to hold.
--   halve n p low high   the place, looked for from low to high in at most n looks
use Rattle.std.specs.Prelude.{Bool, ℕ, zero, suc, ◌+◌, ◌/◌, ltb, if◌then◌else◌}

-- look in the middle: where the test holds there the place is behind it, else it is not
unfoldable pub halve : ℕ → (ℕ → Bool) → ℕ → ℕ → ℕ
halve zero p low high = low
halve (suc n) p low high =
    let mid = (low + high) / 2 in
    if ltb low high then (if p mid then halve n p (mid + 1) high else halve n p low mid) else
    low
