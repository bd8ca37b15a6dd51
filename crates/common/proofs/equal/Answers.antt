-- `common::equal` meets its contract: the differences, gathered by or, are none exactly where the octets are the same.
-- Assumes nothing.
use Rattle.std.proofs.Common.{◌∙◌, ap}
use borrow.Author.Tests.{ne_eqb}
use lib.Dec.{eqb}
use Prim.Native.Nat.{ℕ}
use lib.ListN.{length}
use Rattle.common.proofs.Same.{same_lengths, same_gathered}
use Rattle.common.proofs.equal.Goals as goal

pub returns-then-a-b : goal.returns-then-a-b
returns-then-a-b c = ap (λ (d : ℕ). eqb d 0) c.differences.ensures ∙ same_gathered c.args.a.now c.args.b.now c.if-a-b.true

pub returns-else-a-b : goal.returns-else-a-b
returns-else-a-b c =
    let a = c.args.a.now in
    let b = c.args.b.now in
    ne_eqb (length a) (length b) c.if-a-b.false ∙ same_lengths a b c.if-a-b.false
