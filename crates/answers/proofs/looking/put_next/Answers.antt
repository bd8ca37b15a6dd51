-- `looking::put_next` meets its contract: after some of the elements their numbers are written.
-- Assumes nothing.
use mathlib.Core.List.{List}
use mathlib.Core.Path.{ap, ◌∙◌}
use Prim.Native.Nat.{ℕ}
use lib.ListN.{take}
use lib.Seq.{take_all}
use Rattle.text.specs.Writer.{writing}
use Rattle.text.proofs.WriterLaws.{writing_then}
use Rattle.answers.specs.Answer.{named}
use Rattle.answers.specs.Looking.{placed_text}
use Rattle.answers.proofs.PlacedLaws.{placed_begun, placed_on}
use Rattle.answers.proofs.looking.put_next.Goals as goal

pub loop-seq-init : goal.loop-seq-init
loop-seq-init c = placed_begun _ _

pub loop-seq-preserved : goal.loop-seq-preserved
loop-seq-preserved c = placed_on _ _ 0 _ _ _ _ c.loop-seq-test.true c.loop-seq.invariant c.number.ensures

pub returns : goal.returns
returns c =
    let next = c.args.next in
    let all = take_all c.loop-seq.seq-index (take c.min-n.result next) c.loop-seq-test.false ∙ ap (λ (n : ℕ). take n next) c.min-n.ensures in
    let text = ap (λ (l : List ℕ). writing (placed_text (λ i seq. named " " 6 seq) 0 l) c.put.new.self) all in
    writing_then _ _ _ c.put.ensures (writing_then _ _ _ (c.loop-seq.invariant ∙ text) c.put-2.ensures)
