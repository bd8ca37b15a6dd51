-- The PDU of an acknowledgement carries its seven octets in the header that the element stamped, sealed by the network key; so the speaker, which holds that key, opens it to this header
-- and reads the form that was written. It comes from the DST of the message that the speaker keeps, to the element that speaks, with the SeqZero of its SeqAuth: so it fits, and has a bit
-- set, and marks what it names. Assumes nothing.
--   acknowledgement_read   it does
use mathlib.Core.Bool.{true, false}
use mathlib.Core.List.{List}
use mathlib.Core.Path.{◌≡◌, refl, sym, ap, ◌∙◌, subst}
use Prim.Native.Nat.{ℕ, ◌+◌, ◌%◌, ◌^◌, ◌<◌}
use native.Mathlib.Nat.{lt_of_lt_of_le}
use native.Mathlib.Omega.{arith}
use borrow.Author.Tests.{eq-eqb, eqb-true, ne_eqb}
use lib.Bits.{bit_or}
use lib.Dec.{eqb}
use lib.ListN.{length}
use lib.Pow.{pow_mono}
use Rattle.std.specs.Prelude.{Ok, if◌then◌else◌}
use Rattle.common.specs.Bits.{all_bits}
use Rattle.std.specs.Prelude.{Ok, Err}
use Rattle.common.specs.Lent.{Lent, lent}
use Rattle.common.proofs.Tests.{by_test}
use Rattle.network.specs.declared.header.Header.{Header}
use Rattle.network.specs.declared.opening.Opening.{Opening}
use Rattle.network.specs.Candidates.{key_at, candidates, opens}
use Rattle.network.specs.Opening.{opening}
use Rattle.network.specs.Sealing.{sealable}
use Rattle.network.specs.Address.{is_unicast}
use Rattle.network.proofs.AddressLaws.{unicast_bounds, unicast_some}
use Rattle.network.proofs.SealOpen.{open_seal}
use Rattle.memory.specs.declared.outgoing.Acknowledged as memory
use Rattle.memory.specs.declared.outgoing.Effect.{Effect}
use Rattle.memory.specs.declared.outgoing.Effect.TheVariants.{Nothing, Marked, Completed}
use Rattle.memory.specs.declared.outgoing.Outgoing.{Outgoing}
use Rattle.memory.specs.declared.pair.Pair.{Pair}
use Rattle.memory.specs.Outgoing.{no_outgoing, fits_outgoing, heard_with, with_heard, effected, acknowledging}
use Rattle.memory.proofs.OutgoingLaws.{heard_within}
use Rattle.node.specs.declared.addresses.Node.{Node}
use Rattle.node.specs.Addresses.{for_node}
use Rattle.node.specs.Made.{WellMade}
use Rattle.node.proofs.Addressed.{local_for}
use Rattle.receiver.specs.declared.answer.Answer.TheVariants.{Acknowledgement}
use Rattle.receiver.specs.declared.answer.Taken.{Taken}
use Rattle.receiver.specs.declared.state.Receiver.{Receiver}
use Rattle.receiver.specs.Passing.{Passes}
use Rattle.receiver.specs.State.{with_outgoing}
use Rattle.receiver.specs.Whole.{admitted}
use Rattle.receiver.proofs.Good.{good_fresh}
use Rattle.receiver.proofs.Laws.Form.{taken_acknowledgement}
use Rattle.receiver.proofs.Laws.Heard.{caching, Leaves, heard_new}
use Rattle.sending.specs.declared.acknowledge.Chosen.{Chosen}
use Rattle.sending.specs.Segment.{element_at}
use Rattle.sending.specs.Transmission.{sending_iv, address_of}
use Rattle.sending.proofs.Laws.Stamped.{sending_near}
use Rattle.demands.specs.Acknowledged.{Speaker, OpensTo, Hears, Marks, AcknowledgementRead}
use Rattle.demands.specs.Call.{Hear, Heard, step}
use Rattle.demands.specs.Interleaved.{Ask, Arrival, node_of, speech_at, come, Arrives, behind}
use Rattle.demands.specs.Speech.{Speech, last_of}
use Rattle.demands.proofs.AcknowledgementLaws as ack
use Rattle.demands.proofs.AskLaws.{address_of_law, asked_made}
use Rattle.demands.proofs.ComeLaws.{each_at}
use Rattle.demands.proofs.Interleaved.{seen_before}
use Rattle.demands.proofs.SceneLaws.{same_scene, filled_within}
use Rattle.demands.proofs.SpeechCut.{last_low}

-- ---- the speaker
module _ (out : Outgoing) (h : Header) (zero bits : ℕ) (fits : fits_outgoing out h false zero ≡ true) (some : bits ≡ 0 → ⊥) (low : out.terms.segn < 32)
    (within : bits < 2 ^ (out.terms.segn + 1)) where
  abbrev effect : memory.Acknowledged
  effect = acknowledging out h false zero bits

  abbrev heard : ℕ
  heard = bit_or out.heard bits

  heard_is : heard ≡ heard_with out bits
  heard_is = sym (heard_within out bits low within)

  all_heard : heard ≡ all_bits out.terms.segn → effect ≡ effected Completed no_outgoing
  unfolding acknowledging
  all_heard e = rw (fits, ne_eqb bits 0 some, ← heard_is, eq-eqb heard (all_bits out.terms.segn) e) refl

  some_heard :
      (heard ≡ all_bits out.terms.segn → ⊥)
      → effect ≡ effected (if eqb heard out.heard then Nothing else Marked) (with_heard out heard)
  unfolding acknowledging
  some_heard n =
      rw (fits, ne_eqb bits 0 some, ← heard_is, ne_eqb heard (all_bits out.terms.segn) n)
      (by_test (eqb heard out.heard) (λ t. let e = eqb-true heard out.heard t in rw (t, e) refl) (λ t. rw t refl))

module _ (r : Receiver) (made : WellMade r.node) (element net src : ℕ) (s : Speech) (bits : ℕ) (buf : List ℕ) (there : net < r.node.networks)
    (address : address_of r.node element ≡ s.dst) (from : src ≡ s.src) (unicast : is_unicast s.src ≡ true) (some : bits ≡ 0 → ⊥)
    (last : last_of r.node s < 32) (within : bits < 2 ^ (last_of r.node s + 1))
    (speaker : Receiver) (fwd msg : List ℕ) (sp : Speaker speaker r.node s) where
  abbrev c : Chosen
  c = record { auth = s.auth; dst = s.dst; bits = bits }

  abbrev head : Header
  head = ack.h r element net src c buf

  abbrev sent : List ℕ
  sent = ack.pdu r element net src c buf

  abbrev zero : ℕ
  zero = s.auth.seq % 8192

  -- the place of its network key
  abbrev place : ℕ
  place = length (candidates r.node.materials net (key_at r.node.materials net).nid) + 1

  -- the message that is kept is the one acknowledged
  fits : fits_outgoing speaker.out head false zero ≡ true
  unfolding fits_outgoing
  fits =
      let kept : speaker.out.src ≡ 0 → ⊥ = λ z. unicast_some s.src unicast (sym sp.src_kept ∙ z) in
      let its-zero : zero ≡ speaker.out.auth.seq % 8192 = ap (λ (p : Pair). p.seq % 8192) (sym sp.auth_kept) in
      rw (
        ne_eqb speaker.out.src 0 kept,
        eq-eqb head.dst speaker.out.src (from ∙ sym sp.src_kept),
        eq-eqb zero (speaker.out.auth.seq % 8192) its-zero,
        eq-eqb head.src speaker.out.terms.dst (address ∙ sym sp.dst_kept),
      )
      refl

  -- its key is the first that opens it
  module _ (can : sealable (key_at r.node.materials net) head ≡ true)
      (first : (j : ℕ) → j < net → (key_at r.node.materials j).nid ≡ (key_at r.node.materials net).nid → opens r.node.materials (sending_iv r.node) sent j ≡ false) where
    opens_so : opening speaker.node.materials speaker.node.networks speaker.node.iv sent ≡ record { trials = place; opened = Ok head }
    opens_so =
        let most = made.networks_most in
        let unicast-most = (unicast_bounds s.src unicast).1 in
        let formed-so = ack.formed r element net src c buf (omega arith) in
        rw (sp.materials_same, sp.networks_same, sp.iv_same)
        (open_seal r.node.materials r.node.networks r.node.iv head can formed-so
        (record { held = omega arith; near = sending_near r.node made; none_before = first }))

    pub head_is : OpensTo speaker sent head
    head_is = ap (λ (x : Opening). x.opened) opens_so

  module _ (can : sealable (key_at r.node.materials net) head ≡ true) (hears : Hears speaker r.node net sent fwd msg) where
    abbrev marked : memory.Acknowledged
    marked = acknowledging speaker.out head false zero bits

    abbrev taken : Lent Taken
    taken =
        lent (record { answer = Ok (Acknowledgement head.src bits marked.effect); trials = 0; receiver = with_outgoing (admitted (caching speaker head) head) marked.out }) msg

    leaves : Leaves speaker sent fwd msg place taken
    leaves =
        let opened = head_is can hears.own_key_first in
        let low : bits < 2 ^ 32 = lt_of_lt_of_le within (pow_mono {j = 32} (omega arith)) in
        let passes : Passes speaker sent fwd msg place head =
        record {
          opened = record { wide = hears.room_forward; big = hears.room_message; opens = opens_so can hears.own_key_first };
          other = rw address sp.other_node;
          new = hears.new head opened;
        } in
        let admits = hears.admits head opened in
        let here : for_node speaker.node src ≡ true = rw from (local_for speaker.node s.src unicast sp.its_element) in
        heard_new passes here taken
        (taken_acknowledgement (caching speaker head) head msg false zero bits (ack.form_is r element net src c buf low) admits)

    pub read_marks : Marks speaker.out s.dst bits msg (step speaker (Hear sent fwd msg))
    read_marks =
        let l = leaves in
        let its-last = sp.segn_kept in
        let there : bits < 2 ^ (speaker.out.terms.segn + 1) = rw its-last within in
        let o = step speaker (Hear sent fwd msg) in
        let says : (e : Effect) (kept : Outgoing) → marked ≡ effected e kept → (o.answer ≡ Heard (Ok (Acknowledgement s.dst bits e))) × (o.receiver.out ≡ kept) =
        λ e kept q. (
          ap Heard
              (l.answers ∙ ap (λ (n : ℕ). Ok (Acknowledgement n bits marked.effect)) address ∙ ap (λ (x : memory.Acknowledged). Ok (Acknowledgement s.dst bits x.effect)) q),
          ap (λ (x : Receiver). x.out) l.left_is ∙ ap (λ (x : memory.Acknowledged). x.out) q,
        ) in
        record {
          completes = λ e. says Completed no_outgoing (all_heard speaker.out head zero bits fits some (omega arith) there e);
          marks = λ n. says _ _ (some_heard speaker.out head zero bits fits some (omega arith) there n);
          message_stays = l.message_is;
        }

pub acknowledgement_read : AcknowledgementRead
acknowledgement_read setup speeches before net src k buf msg later c f m speaker fwd left sp hears =
    let node = node_of setup in
    let s = speech_at speeches k in
    let r = behind setup speeches before in
    let bits = come k before in
    let element = element_at node s.dst in
    let chosen : Chosen = record { auth = s.auth; dst = s.dst; bits = bits } in
    let a : Arrival = record { event = Ask net src; forward = buf; message = msg } in
    let sc = seen_before setup speeches before a later c in
    let same = same_scene sc in
    let well = (good_fresh setup c.ready).node_made in
    let w = c.speakable k f.one_of in
    let wide = (each_at (Arrives node speeches c.spent) before a later c.arrives).room_forward in
    let address = address_of_law node well speeches c.speakable c.spent before r sc net src buf wide k f in
    let there : net < r.node.networks = rw same f.key_there in
    let last : last_of r.node s < 32 = rw same (last_low node s w) in
    let within : bits < 2 ^ (last_of r.node s + 1) = rw same (filled_within node speeches c.spent r (λ j. come j before) sc k w f.one_of) in
    let its-speaker = subst (λ (n : Node). Speaker speaker n s) (sym same) sp in
    let x = asked_made node well speeches c.speakable c.spent before r sc net src buf wide k f m in
    let Heard : List ℕ → Type 0 = λ p. Hears speaker node net p fwd left → Marks speaker.out s.dst bits left (step speaker (Hear p fwd left)) in
    let heard : Heard (ack.pdu r element net src chosen buf) =
    λ y. read_marks r sc.good.node_made element net src s bits buf there address f.its_source w.from_unicast f.some_come last within speaker fwd left its-speaker x.can
    (subst (λ (n : Node). Hears speaker n net (ack.pdu r element net src chosen buf) fwd left) (sym same) y) in
    subst Heard (sym x.pdu_is) heard hears
