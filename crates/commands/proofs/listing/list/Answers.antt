-- `listing::list` meets its contract: what the line's PDUs are to come to is what those of the fields that are left come to, put behind the PDUs read.
-- Assumes nothing.
use mathlib.Core.Path.{◌≡◌, sym, ◌∙◌}
use native.Mathlib.Omega.{arith}
use lib.ListN.{length, drop}
use Rattle.std.proofs.Common.{rules, tests, of_calls}
use Rattle.std.proofs.lemmas.List.{length_push}
use Rattle.std.proofs.lemmas.Iterator.Adapters.{YieldsList-from_skip}
use Rattle.std.proofs.lemmas.Iterator.Consumers.{YieldsList-at, YieldsList-turn, YieldsList-end}
use Rattle.std.proofs.lemmas.Iterator.Splits.{YieldsList-from_slice_split}
use Rattle.text.specs.Field.{is, fields}
use Rattle.text.proofs.FieldLaws.{fields_are_parts}
use Rattle.commands.proofs.ListingLaws.{pdu_at_most, list_start, list_on, list_wrong, list_end}
use Rattle.commands.proofs.listing.list.Goals as goal

pub loop-digits-init : goal.loop-digits-init
loop-digits-init c = (search of_calls, search of_calls, search rules, list_start c.args.line.now c.args.out.now (omega arith))

pub returns-in_err-n : goal.returns-in_err-n
returns-in_err-n c =
    let l = c.loop-digits in
    let line = c.args.line.now in
    let turn = YieldsList-turn
    (YieldsList-at c.into_iter-digits-iterator.ensures.into_iter_gives
    (YieldsList-from_skip 1
    (YieldsList-at c.skip-digits-items.ensures.source
    (YieldsList-from_slice_split _ (is 32) line c.split.ensures.rest c.split.ensures.done c.split.ensures.closure (λ x r q k. search (rules, tests))))
    c.skip-digits-items.ensures.count))
    l.yielded _ l.yielded_by _ _ c.in-Some.digits c.in-Some.is c.next.ensures.steps in
    let here = rw (fields_are_parts line) at turn in
    let none = list_wrong _ _ l.to l.out _ here _ c.in_err-n.ensures in
    rw c.from_residual.ensures (none ∙ sym l.invariant.3)

pub overflow_cast-len : goal.overflow_cast-len
overflow_cast-len c = omega (arith, pdu_at_most _ _ c.read.result c.read.ensures c.in_ok-n.n c.in_ok-n.was)

pub loop-digits-preserved : goal.loop-digits-preserved
loop-digits-preserved c =
    let l = c.loop-digits in
    let line = c.args.line.now in
    let turn = YieldsList-turn
    (YieldsList-at c.into_iter-digits-iterator.ensures.into_iter_gives
    (YieldsList-from_skip 1
    (YieldsList-at c.skip-digits-items.ensures.source
    (YieldsList-from_slice_split _ (is 32) line c.split.ensures.rest c.split.ensures.done c.split.ensures.closure (λ x r q k. search (rules, tests))))
    c.skip-digits-items.ensures.count))
    l.yielded _ l.yielded_by _ _ c.in-Some.digits c.in-Some.is c.next.ensures.steps in
    let here = rw (fields_are_parts line) at turn in
    let long : length c.read.new.out ≡ 0xFF = search rules in
    let on =
    list_on _ _ l.to l.out _ here _ c.in_ok-n.n c.put-from.result c.put-to.result c.first.result.now _ _ c.in_ok-n.ensures
    long c.first.ensures c.put-from.ensures c.put-to.ensures in
    (search of_calls, search of_calls, search rules, rw (length_push l.yielded c.in-Some.digits) (l.invariant.3 ∙ on))

pub returns : goal.returns
returns c =
    let l = c.loop-digits in
    let line = c.args.line.now in
    let end = YieldsList-end
    (YieldsList-at c.into_iter-digits-iterator.ensures.into_iter_gives
    (YieldsList-from_skip 1
    (YieldsList-at c.skip-digits-items.ensures.source
    (YieldsList-from_slice_split _ (is 32) line c.split.ensures.rest c.split.ensures.done c.split.ensures.closure (λ x r q k. search (rules, tests))))
    c.skip-digits-items.ensures.count))
    l.yielded _ l.yielded_by _ _ c.in-None.is c.next.ensures.steps in
    let all = rw (fields_are_parts line) at end in
    list_end (drop 1 (fields line)) (length l.yielded) l.to l.out (omega (arith, all.1)) ∙ sym l.invariant.3
