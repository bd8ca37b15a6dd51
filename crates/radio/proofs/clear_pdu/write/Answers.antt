-- `radio::clear_pdu::write` meets its contract: the first octets of all that could be written are the clear PDU.
-- Assumes nothing.
use mathlib.Core.Path.{◌≡◌, sym}
use borrow.Author.Rules.{rules}
use lib.ListN.{length}
use lib.Seq.{length-take-le}
use Rattle.radio.proofs.ClearPduLaws.{clear_written}
use Rattle.radio.proofs.clear_pdu.write.Goals as goal

pub slice_bounds-copy-end : goal.slice_bounds-copy-end
slice_bounds-copy-end c = sym (length-take-le _ _ ((search rules)))

pub returns : goal.returns
returns c =
    let a = c.args in
    let n : length c.octets_of-clear.result ≡ 25 = search rules in
    clear_written a.first a.h c.requires.0 c.octets_of-clear.ensures n a.out.now c.requires.1 c.copy.ensures
