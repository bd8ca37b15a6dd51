-- `input::take_block` meets its contract: what comes of the rest of the block is what comes of all of it. No call changes the length of a buffer,
-- and what is left of the block falls.
-- Assumes nothing.
use mathlib.Core.Path.{◌≡◌, refl}
use Prim.Native.Nat.{◌≤◌}
use native.Mathlib.Omega.{arith}
use borrow.Author.Rules.{rules}
use lib.ListN.{length, take}
use Rattle.common.specs.Lent.{lent}
use Rattle.console.specs.Step.{console}
use Rattle.console.specs.Input.{reader}
use Rattle.console.proofs.InputLaws.{all_read}
use Rattle.console.proofs.TurnLaws.{answered_long, answered_end, ended_hear, ended_step, turn_whole, turn_part}
use Rattle.text.specs.Writer.{writing, standing}
use Rattle.console.proofs.input.take_block.Goals as goal

pub loop-at-smaller-in-Hear : goal.loop-at-smaller-in-Hear
loop-at-smaller-in-Hear c = omega (arith, c.gather-piece.ensures.further, c.loop-at-test.true)

pub loop-at-preserved-in-Hear : goal.loop-at-preserved-in-Hear
unfolding writing
loop-at-preserved-in-Hear c =
    let loop = c.loop-at in
    let room : 8192 ≤ length loop.out = omega (arith, loop.invariant.2, c.requires) in
    let exact = rw c.new-w.ensures at c.hear-receiver.ensures.exact in
    let end = answered_end _ _ _ _ _ exact in
    let left : lent (length c.text-written.result.now) c.out-1.given.0 ≡ standing c.hear-receiver.new.w = search rules in
    let long = answered_long _ _ _ _ _ _ _ left exact in
    let heard =
    ended_hear _ _ _ _ _ _ _ _ _ _ c.flushed-written.ensures room left loop.desk loop.receiver _ _ _
    c.read-said.ensures c.in-Hear.is c.first-pdu.ensures exact c.hear-receiver.ensures.fits in (
      omega (arith, loop.invariant.0, c.gather-piece.auto.line),
      omega (arith, loop.invariant.1, c.read-said.auto.octets),
      omega (arith, loop.invariant.2, long),
      turn_whole _ _ _ _ _ _ _ _ _ _ _ loop.invariant.0 c.gather-piece.ensures.gathers loop.invariant.3 _ _ c.if-piece.true c.first-whole.ensures heard,
    )

pub loop-at-smaller-in_default : goal.loop-at-smaller-in_default
loop-at-smaller-in_default c = omega (arith, c.gather-piece.ensures.further, c.loop-at-test.true)

pub loop-at-preserved-in_default : goal.loop-at-preserved-in_default
unfolding writing
loop-at-preserved-in_default c =
    let loop = c.loop-at in
    let room : 8192 ≤ length loop.out = omega (arith, loop.invariant.2, c.requires) in
    let exact = rw c.new-w-in_default.ensures at c.step-next.ensures.exact in
    let end = answered_end _ _ _ _ _ exact in
    let left : lent (length c.text-written-in_default.result.now) c.out-in_default-1.given.0 ≡ standing c.step-next.new.w = search rules in
    let long = answered_long _ _ _ _ _ _ _ left exact in
    let done =
    ended_step _ _ _ _ _ _ _ _ _ _ c.flushed-written.ensures room left (console loop.desk loop.receiver) _
    c.read-said.ensures exact c.step-next.ensures.fits in (
      omega (arith, loop.invariant.0, c.gather-piece.auto.line),
      omega (arith, loop.invariant.1, c.read-said.auto.octets),
      omega (arith, loop.invariant.2, long),
      turn_whole _ _ _ _ _ _ _ _ _ _ _ loop.invariant.0 c.gather-piece.ensures.gathers loop.invariant.3 _ _ c.if-piece.true c.first-whole.ensures done,
    )

pub loop-at-preserved : goal.loop-at-preserved
loop-at-preserved c =
    let loop = c.loop-at in (
      search rules,
      search rules,
      search rules,
      turn_part _ _ _ _ _ _ _ _ _ _ _ loop.invariant.0 c.gather-piece.ensures.gathers loop.invariant.3 c.if-piece.false,
    )

pub returns : goal.returns
returns c =
    let loop = c.loop-at in
    let left =
    reader (console loop.desk loop.receiver) (take loop.gathered loop.line) loop.octets (lent loop.written loop.out) in
    all_read _ left _ loop.at _ (omega (arith, c.loop-at-test.false)) loop.invariant.3

pub loop-at-init : goal.loop-at-init
loop-at-init c = (refl, refl, refl, refl)
