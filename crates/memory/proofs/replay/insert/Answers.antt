-- `memory::replay::insert` meets its contract: each return is one rule of `inserted`. What stands at the source's place has a source, so that is a place of the list.
-- Assumes nothing.
use mathlib.Core.Path.{sym, ◌∙◌}
use native.Mathlib.Omega.{arith}
use Rattle.memory.proofs.ReplayLaws.{last_free_law, last_used, found_within, insert_zero, insert_own, insert_between, insert_full}
use Rattle.memory.proofs.replay.insert.Goals as goal

pub offset_bounds-after-found : goal.offset_bounds-after-found
offset_bounds-after-found c =
    let w = found_within c.args.replay c.args.e.src _ c.find-found.ensures (λ z. c.if-e-eq0.false (sym c.if-found-e.true ∙ z)) in
    omega (arith, w, c.well_formed.0.1.0.1)

pub bounds-after-found : goal.bounds-after-found
bounds-after-found c =
    let w = found_within c.args.replay c.args.e.src _ c.find-found.ensures (λ z. c.if-e-eq0.false (sym c.if-found-e.true ∙ z)) in
    omega (arith, w, c.well_formed.0.1.0.1)

pub returns-then-found-e : goal.returns-then-found-e
returns-then-found-e c =
    insert_own _ _ c.if-e-eq0.false _ c.find-found.ensures c.if-found-e.true

pub returns-then-replay-eq0 : goal.returns-then-replay-eq0
returns-then-replay-eq0 c =
    insert_between _ _ c.if-e-eq0.false _ c.find-found.ensures c.if-found-e.false (last_free_law _ c.if-replay-eq0.true) _ c.shift.ensures

pub returns : goal.returns
returns c =
    insert_full _ _ c.if-e-eq0.false _ c.find-found.ensures c.if-found-e.false (last_used _ c.if-replay-eq0.false)

pub returns-then-e-eq0 : goal.returns-then-e-eq0
returns-then-e-eq0 c = search insert_zero
