-- `setting::read_sequences` meets its contract: what the line's numbers are to come to is what the fields that are left come to, behind the numbers read.
-- Assumes nothing.
use mathlib.Core.Path.{sym, ◌∙◌}
use native.Mathlib.Omega.{arith}
use lib.ListN.{length, drop}
use Rattle.std.proofs.Common.{rules, tests, of_calls}
use Rattle.std.proofs.lemmas.List.{length_push}
use Rattle.std.proofs.lemmas.Iterator.Adapters.{YieldsList-from_skip}
use Rattle.std.proofs.lemmas.Iterator.Consumers.{YieldsList-at, YieldsList-turn, YieldsList-end}
use Rattle.std.proofs.lemmas.Iterator.Splits.{YieldsList-from_slice_split}
use Rattle.text.specs.Field.{is, fields}
use Rattle.text.proofs.FieldLaws.{fields_are_parts}
use Rattle.commands.proofs.SettingLaws.{read_start, read_on, read_wrong, read_end}
use Rattle.commands.proofs.setting.read_sequences.Goals as goal

pub loop-digits-init : goal.loop-digits-init
loop-digits-init c = (search of_calls, search of_calls, read_start (drop 1 (fields c.args.line.now)))

pub returns-in_err-seq : goal.returns-in_err-seq
returns-in_err-seq c =
    let l = c.loop-digits in
    let line = c.args.line.now in
    let turn = YieldsList-turn
    (YieldsList-at c.into_iter-digits-iterator.ensures.into_iter_gives
    (YieldsList-from_skip 1
    (YieldsList-at c.skip-digits-items.ensures.source
    (YieldsList-from_slice_split _ (is 32) line c.split.ensures.rest c.split.ensures.done c.split.ensures.closure (λ x r q k. search (rules, tests))))
    c.skip-digits-items.ensures.count))
    l.yielded _ l.yielded_by _ _ c.in-Some.digits c.in-Some.is c.next.ensures.steps in
    let here = rw (fields_are_parts line) at turn in
    c.from_residual.ensures ∙ read_wrong _ _ l.count l.next _ here c.in_err-seq.ensures ∙ sym l.invariant.2

pub loop-digits-preserved : goal.loop-digits-preserved
loop-digits-preserved c =
    let l = c.loop-digits in
    let line = c.args.line.now in
    let turn = YieldsList-turn
    (YieldsList-at c.into_iter-digits-iterator.ensures.into_iter_gives
    (YieldsList-from_skip 1
    (YieldsList-at c.skip-digits-items.ensures.source
    (YieldsList-from_slice_split _ (is 32) line c.split.ensures.rest c.split.ensures.done c.split.ensures.closure (λ x r q k. search (rules, tests))))
    c.skip-digits-items.ensures.count))
    l.yielded _ l.yielded_by _ _ c.in-Some.digits c.in-Some.is c.next.ensures.steps in
    let here = rw (fields_are_parts line) at turn in
    let on = l.invariant.2 ∙ read_on _ _ l.count l.next _ here _ c.in_ok-seq.ensures in
    (search of_calls, search of_calls, rw (length_push l.yielded c.in-Some.digits, c.counted-count.ensures, c.with_next-after.ensures) on)

pub returns : goal.returns
returns c =
    let l = c.loop-digits in
    let line = c.args.line.now in
    let end = YieldsList-end
    (YieldsList-at c.into_iter-digits-iterator.ensures.into_iter_gives
    (YieldsList-from_skip 1
    (YieldsList-at c.skip-digits-items.ensures.source
    (YieldsList-from_slice_split _ (is 32) line c.split.ensures.rest c.split.ensures.done c.split.ensures.closure (λ x r q k. search (rules, tests))))
    c.skip-digits-items.ensures.count))
    l.yielded _ l.yielded_by _ _ c.in-None.is c.next.ensures.steps in
    let all = rw (fields_are_parts line) at end in
    read_end (drop 1 (fields line)) (length l.yielded) l.count l.next (omega (arith, all.1)) ∙ sym l.invariant.2
