-- An acknowledgement as it goes out, and as it is read. Its seven octets stand in the header that the element stamps, which can be sealed where a SEQ is left; so where a PDU was made it is
-- that header's, and its form is the one that was written. Assumes nothing.
--   unstamped, h, pdu   the header before and after it is stamped, and its PDU
--   goes_out            it is sent, where a SEQ is left
--   made_by_law         what was made
--   formed, form_is     what is read
use mathlib.Core.Bool.{true, false}
use mathlib.Core.List.{List}
use mathlib.Core.Path.{◌≡◌, refl, sym, ap, ◌∙◌, subst}
use Prim.Native.Nat.{ℕ, ◌%◌, ◌^◌, ◌≤◌, ◌<◌}
use native.Mathlib.Omega.{arith}
use lib.ListN.{length, take, drop, replicate}
use Rattle.std.specs.Prelude.{Result, Some}
use Rattle.common.specs.Lent.{Lent}
use Rattle.common.specs.Lists.{padded}
use Rattle.keys.proofs.Widths.{nid_low}
use Rattle.network.specs.declared.header.Header.{Header}
use Rattle.network.specs.Address.{is_unicast}
use Rattle.network.specs.Candidates.{network_key_places, key_at}
use Rattle.network.specs.Pdu.{pdu_octets, pdu_of}
use Rattle.network.specs.Sealing.{sealable}
use Rattle.network.specs.SealOpen.{Formed}
use Rattle.network.proofs.AddressLaws.{unicast_kind_law, addresses_allowed_law}
use Rattle.network.proofs.Sealed.{sealable_where}
use Rattle.network.proofs.TrialLaws.{onto_zeros, take_padded}
use Rattle.transport.specs.declared.form.Form.TheVariants as form
use Rattle.transport.specs.Form.{form_of}
use Rattle.transport.specs.ReadsBack.{Carries}
use Rattle.transport.specs.Segment.{acknowledgement_octets}
use Rattle.transport.proofs.ReadsBack.{acknowledgement_reads_back}
use Rattle.node.specs.Made.{WellMade}
use Rattle.receiver.specs.declared.answer.Refusal.{Refusal}
use Rattle.receiver.specs.declared.state.Receiver.{Receiver}
use Rattle.sending.specs.declared.acknowledge.Chosen.{Chosen}
use Rattle.sending.specs.declared.answer.Answer as said_answer
use Rattle.sending.specs.declared.answer.Spoken.{Spoken}
use Rattle.sending.specs.Acknowledge.{acknowledgement_header}
use Rattle.sending.specs.Request.{unnamed_ttl}
use Rattle.sending.specs.Transmission.{sending_iv, address_of, next_seq, stamped}
use Rattle.sending.proofs.Laws.Shapes.{header_sent, acknowledgement_long, acknowledgement_out}
use Rattle.sending.proofs.Laws.Stamped.{stamps}
use Rattle.sending.proofs.Laws.Transmitted.{saying, Sends, saying_is}
use Rattle.demands.specs.Call.{made_by, length_by, left_said}
use Rattle.demands.specs.ReadBack.{pdu_made}
use Rattle.demands.proofs.SentLaws.{said_by_law}

module _ (r : Receiver) (element net src : ℕ) (c : Chosen) (buf : List ℕ) where
  abbrev seq_zero : ℕ
  seq_zero = c.auth.seq % 8192

  abbrev seven_octets : List ℕ
  seven_octets = acknowledgement_octets false seq_zero c.bits

  -- what is to be stamped, and the header that is sealed
  abbrev pub unstamped : Header
  unstamped = acknowledgement_header (sending_iv r.node) net src c

  abbrev pub h : Header
  h = header_sent r element net (sending_iv r.node) true unnamed_ttl src seven_octets

  header_is : stamped r element unstamped ≡ h
  header_is = acknowledgement_out r element (sending_iv r.node) net src c

  key_is : unstamped.key ≡ net
  key_is = sym (stamps r element unstamped).key_stays ∙ ap (λ (x : Header). x.key) header_is

  -- it has seven octets
  seven : length seven_octets ≡ 7
  seven = acknowledgement_long false seq_zero c.bits

  short : length seven_octets ≤ 16
  short = let l = seven in omega arith

  -- ---- it goes out: an SEQ is left, and both addresses are unicast
  module _ (made : WellMade r.node) (there : net < r.node.networks) (left : next_seq r element ≤ 0xFFFFFF) (from : is_unicast (address_of r.node element) ≡ true)
      (to : is_unicast src ≡ true) (wide : pdu_octets ≤ length buf) where
    can_seal : sealable (key_at r.node.materials net) h ≡ true
    can_seal =
        let l = seven in
        let nid : (key_at r.node.materials net).nid ≤ 127 = rw (made.derived net there) (nid_low _) in
        let allowed = addresses_allowed_law true (address_of r.node element) src from (rw (unicast_kind_law src to) refl) in
        sealable_where (key_at r.node.materials net) h nid (omega arith) left allowed (omega arith) (omega arith)

    sends : Sends r element unstamped buf
    sends =
        let most = made.networks_most in
        let keys = r.node.materials in
        let low : net < network_key_places = omega arith in
        record {
          seq_left = left;
          key_there = subst (λ (k : ℕ). k < network_key_places) (sym key_is) low;
          wide = wide;
          can =
              subst (λ (k : ℕ). sealable (key_at keys k) (stamped r element unstamped) ≡ true) (sym key_is)
              (subst (λ (z : Header). sealable (key_at keys net) z ≡ true) (sym header_is) can_seal);
        }

    pub goes_out : made_by (saying r element unstamped buf).answer.answer ≡ true
    goes_out = ap (λ (s : Lent Spoken). made_by s.answer.answer) (saying_is r element unstamped buf sends)

  -- ---- the PDU that was made
  abbrev pub pdu : List ℕ
  pdu = pdu_of (key_at r.node.materials net) h

  pub record Made (s : Lent Spoken) : Type 0 where
    pub can : sealable (key_at r.node.materials net) h ≡ true
    pub pdu_is : pdu_made (left_said s) ≡ pdu

  pub made_by_law : made_by (saying r element unstamped buf).answer.answer ≡ true → Made (saying r element unstamped buf)
  made_by_law m =
      let x = said_by_law r element buf unstamped m in
      let b = (saying r element unstamped buf).buffer in
      let y = stamped r element unstamped in
      let keys = r.node.materials in
      record {
        can =
            subst (λ (z : Header). sealable (key_at keys net) z ≡ true) header_is (subst (λ (k : ℕ). sealable (key_at keys k) y ≡ true) key_is x.transmitted_is.can);
        pdu_is =
            ap (λ (a : Result said_answer.Answer Refusal). take (length_by a) b) x.says ∙ x.transmitted_is.pdu ∙ ap (λ (k : ℕ). pdu_of (key_at keys k) y) key_is
            ∙ ap (pdu_of (key_at keys net)) header_is;
      }

  -- ---- as it is read
  pub formed : src < 65536 → Formed h
  formed d = record { dst_fits = d; zeros_behind = ap (padded 16) (take_padded 16 seven_octets short) }

  carries : Carries h true seven_octets
  carries = record { behind = drop (length seven_octets) (replicate 16 0); ctl_is = refl; begins = sym (onto_zeros 16 seven_octets short) }

  pub form_is : c.bits < 2 ^ 32 → form_of h ≡ Some (form.Acknowledgement false seq_zero c.bits)
  form_is low = acknowledgement_reads_back h false seq_zero c.bits carries seven (omega arith) low
