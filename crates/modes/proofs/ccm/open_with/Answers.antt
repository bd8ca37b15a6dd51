-- `modes::ccm::open_with` meets its contract: each answer is its law; the message is decrypted beside the buffer, and copied only where the MIC is right.
-- Assumes nothing.
use mathlib.Core.Path.{◌∙◌}
use borrow.Author.Rules.{rules}
use Rattle.modes.proofs.CcmLaws.{front_room, front_length, front_copied, open_with_done}
use Rattle.modes.proofs.ccm.open_with.Goals as goal

pub slice_bounds-clear-end-2 : goal.slice_bounds-clear-end-2
slice_bounds-clear-end-2 c =
    let a = c.args in
    front_room a.ks a.nonce a.size a.additional.now a.sealed.now c.mic_octets-t.ensures c.decrypt.ensures _

pub slice_bounds-copy-end : goal.slice_bounds-copy-end
slice_bounds-copy-end c =
    let a = c.args in
    front_length a.ks a.nonce a.size a.additional.now a.sealed.now c.mic_octets-t.ensures c.decrypt.ensures _

pub returns : goal.returns
returns c =
    let a = c.args in
    let et = c.mic_octets-t.ensures in
    let ed = c.decrypt.ensures in
    let room = c.if-out-n.false in
    let copied = c.copy.ensures ∙ front_copied a.ks a.nonce a.size a.additional.now a.sealed.now et ed _ a.out.now room in
    open_with_done a.ks a.nonce a.size a.additional.now a.sealed.now a.out.now (c.if-additional-gt-LONGEST_DATA.false) et
    c.if-sealed-t.false c.if-n-gt-LONGEST.false room ed (search rules) copied
