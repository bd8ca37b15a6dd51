-- `memory::session::len_with` meets its contract: the last segment tells the length by its end, and any other leaves it.
-- Assumes nothing.
use Prim.Native.Nat.{◌≤◌}
use native.Mathlib.Omega.{arith}
use Rattle.memory.proofs.SessionLaws.{place_most, length_told, length_kept}
use Rattle.memory.proofs.session.len_with.Goals as goal

pub overflow_add-result : goal.overflow_add-result
overflow_add-result c =
    let p : c.octet_place.result ≤ 372 = rw c.octet_place.ensures (place_most _ _) in
    omega (arith, c.octets_end.ensures.within)

pub returns-then-sego-s : goal.returns-then-sego-s
returns-then-sego-s c = length_told _ _ _ c.if-sego-s.true c.octet_place.ensures c.octets_end.ensures.exact

pub returns : goal.returns
returns c = search length_kept
