-- `radio::gorephan_open` meets its contract: each return is one rule of `open_done`, and the tests before it say which; a PDU of wrong
-- length or with a foreign NID is refused before the keys are read. The number does not wrap, since what an opening tells is small.
-- Assumes nothing.
use native.Mathlib.Omega.{arith}
use Rattle.radio.proofs.ClearPduLaws.{written_most}
use Rattle.radio.proofs.OpenLaws.{paper_most, opened_small, header_small, open_rules}
use Rattle.radio.proofs.gorephan_open.Goals as goal

pub returns-then-out-lt-PDU : goal.returns-then-out-lt-PDU
returns-then-out-lt-PDU c = search open_rules

pub returns-then-pdu-lt14 : goal.returns-then-pdu-lt14
returns-then-pdu-lt14 c = search open_rules

pub returns-then-pdu-gt-PDU : goal.returns-then-pdu-gt-PDU
returns-then-pdu-gt-PDU c = search open_rules

pub returns-then-foreign : goal.returns-then-foreign
returns-then-foreign c = search open_rules

pub write-n-requires : goal.write-n-requires
write-n-requires c =
    let l = header_small (opened_small _ _ _ _ c.open-o.ensures) c.in-Ok.is in
    (l.len_most, omega arith)

pub pack-requires : goal.pack-requires
pack-requires c =
    let b = opened_small _ _ _ _ c.open-o.ensures in
    let l = header_small b c.in-Ok.is in
    let n = written_most _ _ l.len_most _ c.write-n.ensures in
    let k = l.key_low in
    (omega arith, b.trials_most, omega arith, omega arith)

pub pack-requires-in-Err : goal.pack-requires-in-Err
pack-requires-in-Err c =
    let b = opened_small _ _ _ _ c.open-o.ensures in
    (omega (arith, paper_most c.in-Err.refusal), b.trials_most, omega arith, omega arith)

pub returns-in-Ok : goal.returns-in-Ok
returns-in-Ok c = search open_rules

pub returns-in-Err : goal.returns-in-Err
returns-in-Err c = search open_rules
