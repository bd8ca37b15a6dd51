-- `modes::ccm::seal_with` meets its contract: each answer is its law; what is written is the encrypted message and behind it the first octets of the MIC block.
-- Assumes nothing.
use mathlib.Core.Path.{refl}
use native.Mathlib.Omega.{arith}
use Rattle.modes.proofs.CcmLaws.{seal_written, seal_with_done}
use Rattle.modes.proofs.ccm.seal_with.Goals as goal

pub returns : goal.returns
returns c =
    let a = c.args in
    let et = c.mic_octets-t.ensures in
    let em = c.mac_block-mic.ensures in
    let ec = c.counter_mode.ensures in
    let few = c.if-additional-gt-LONGEST_DATA.false in
    let fits = c.if-n-gt-LONGEST.false in
    let room = c.if-out-n.false in
    seal_with_done a.ks a.nonce a.size a.additional.now a.message.now a.out.now few fits (omega (arith, et))
    (seal_written a.ks a.nonce a.size a.additional.now a.message.now a.out.now et em _ _ ec (omega (arith, et)) refl c.copy.ensures)
