-- `radio::clear_pdu::octets_of` meets its contract: six octets of the front and eighteen of the body are the lists of them.
-- Assumes nothing.
use mathlib.Core.Path.{◌≡◌}
use borrow.Author.Rules.{rules}
use lib.ListN.{length}
use Rattle.radio.proofs.ClearPduLaws.{octets_read}
use Rattle.radio.proofs.clear_pdu.octets_of.Goals as goal

pub returns : goal.returns
returns c =
    let b = c.clear_body-b in
    let f = c.clear_front-f in
    let a = c.args in
    let six : length f.result ≡ 6 = search rules in
    let eighteen : length b.result ≡ 18 = search rules in
    octets_read a.first a.h six eighteen f.ensures b.ensures
