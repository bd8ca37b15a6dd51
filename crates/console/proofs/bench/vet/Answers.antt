-- `bench::vet` meets its contract: as much of a buffer of zeros is lent as `room` said, and what vetting gave is put behind the answers.
-- Assumes nothing.
use mathlib.Core.Path.{ap}
use lib.ListN.{length}
use Rattle.console.proofs.BenchLaws.{vetted_long, vetted, vetted_short}
use Rattle.console.proofs.bench.vet.Goals as goal

pub slice_bounds-first-end : goal.slice_bounds-first-end
slice_bounds-first-end c =
    let left = c.vet-vetted.new.out in
    vetted_long left c.longest-message.result c.within-n.result c.vet-vetted.auto.out (ap length c.longest-message.ensures)

pub returns : goal.returns
returns c =
    let long = c.vet-vetted.auto.out in
    let a = c.args in record {
      exact = vetted a.d a.ctl a.list.now _ _ c.longest-message.ensures c.within-n.ensures.value _ _ c.vet-vetted.ensures long
          _ c.first.ensures _ _ c.put_vetted.ensures;
      fits = vetted_short a.d a.ctl a.list.now _ _ c.longest-message.ensures c.within-n.ensures.value _ _ c.vet-vetted.ensures long;
    }
