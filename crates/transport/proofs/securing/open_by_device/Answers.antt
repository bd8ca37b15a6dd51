-- `transport::securing::open_by_device` meets its contract: a key that does not open the message keeps the buffer.
-- Assumes nothing.
use Rattle.transport.proofs.SecuringLaws.{device_not}
use Rattle.transport.proofs.securing.open_by_device.Goals as goal

pub returns-then-not-open_by : goal.returns-then-not-open_by
returns-then-not-open_by c =
    let a = c.args in
    device_not a.device a.e a.sealed.now a.out.now c.open_by.ensures c.if-not-open_by.true
