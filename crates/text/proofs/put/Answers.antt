-- `text::put` meets its contract: at the end of the buffer nothing is put, and else what fits of the text is copied there.
-- Assumes nothing.
use mathlib.Core.Path.{refl}
use Prim.Native.Nat.{◌-◌}
use native.Mathlib.Omega.{arith}
use lib.ListN.{length, length-take}
use Rattle.text.proofs.WrittenLaws.{put_full, put_copied}
use Rattle.text.proofs.put.Goals as goal

pub returns-then-out-at : goal.returns-then-out-at
returns-then-out-at c = put_full _ _ _ c.if-out-at.true

pub returns-then-s-room : goal.returns-then-s-room
returns-then-s-room c =
    let a = c.args in
    let part = length-take (length a.out.now - a.at) a.s.now in
    put_copied a.s.now a.out.now a.at (omega arith) (length a.out.now - a.at) _ refl c.copy.ensures
    (omega (arith, part))

pub returns : goal.returns
returns c =
    let a = c.args in
    let part = length-take (length a.out.now - a.at) a.s.now in
    put_copied a.s.now a.out.now a.at (omega arith) (length a.out.now - a.at) _ refl c.copy.ensures
    (omega (arith, part))
