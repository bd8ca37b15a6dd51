-- The sender behind the call that began a message in segments: segment 0 is sent, the message is kept, and the next SEQ of its element is one more. So whatever is called then, the PDUs made of
-- it are segments of its speech, and each segment that is not heard yet can be made, since all that sealing asks for follows from the request's being allowed. Assumes nothing.
--   laws_begun                 what is made of it
--   last_begun                 its SegN, as it is answered
--   holds_begun, keeps_begun   the sender behind the call
--   holds_after, kept_after    and behind any calls that leave the message kept
--   can_begun, goes_begun      a segment of it can be sealed, and is made
use mathlib.Core.Bool.{true, false}
use mathlib.Core.List.{List, ◌∷◌}
use mathlib.Core.Path.{◌≡◌, refl, ap, subst}
use Prim.Native.Nat.{ℕ, suc, ◌+◌, ◌≤◌, ◌<◌, min}
use native.Mathlib.Omega.{arith}
use lib.ListN.{length}
use lib.Seq.{get_or-set_same}
use Rattle.common.specs.Bits.{has_bit}
use Rattle.common.specs.Lent.{Lent}
use Rattle.network.specs.Address.{is_unicast}
use Rattle.network.specs.Candidates.{network_key_places, key_at}
use Rattle.network.specs.Pdu.{pdu_octets}
use Rattle.network.specs.Sealing.{sealable}
use Rattle.network.proofs.AddressLaws.{unicast_some}
use Rattle.memory.specs.declared.outgoing.Outgoing.{Outgoing}
use Rattle.memory.specs.declared.session.Terms.{Terms}
use Rattle.node.specs.declared.addresses.Node.{Node}
use Rattle.node.specs.Addresses.{element_places}
use Rattle.node.specs.Made.{WellMade}
use Rattle.node.proofs.SetupLaws.{local_is_unicast}
use Rattle.receiver.specs.declared.state.Receiver.{Receiver}
use Rattle.receiver.specs.Good.{Good}
use Rattle.sending.specs.declared.answer.Spoken.{Spoken}
use Rattle.sending.specs.declared.request.Request.{Request}
use Rattle.sending.specs.Request.{ttl_of}
use Rattle.sending.specs.Transmission.{next_seq}
use Rattle.sending.proofs.Laws.Allowed.{Asked, ttl_low, sendable_allowed}
use Rattle.sending.proofs.Laws.Stamped.{address_local}
use Rattle.demands.specs.Call.{Call, SendSegment, Outcome, left_said, step, after}
use Rattle.demands.specs.GoesOut.{accepted, StaysKept}
use Rattle.demands.specs.ReadBack.{say_call, goes_whole, said_by, pdu_made, Piece, pieces, seg_n_as, Shared}
use Rattle.demands.specs.Speech.{Words, Speech, is_control, last_of, header_of}
use Rattle.demands.proofs.Invariant.{good_step}
use Rattle.demands.proofs.Pieces.{Of, Laws, Holds, can_told, pdu_told, pieces_told, holds_behind, kept_behind, segment_goes}
use Rattle.demands.proofs.SaidLaws.{request_of, fits_of, held, Kept, kept, address_if_control}
use Rattle.demands.proofs.SentLaws.{StartedBy, kept_as, sending_as, step_is}
use Rattle.demands.proofs.SpeechCut.{Cut, cut_fits, cut_low}
use Rattle.demands.proofs.SpeechSegment.{cut_sealable}

module _ (sender : Receiver) (good : Good sender) (node : Node) (shared : Shared sender.node node) (q : Request) (words : Words)
    (a : accepted sender q words ≡ true) where
  abbrev s : Speech
  s = said_by sender q words

  abbrev ttl : ℕ
  ttl = ttl_of q.ttl

  abbrev own : WellMade sender.node
  own = good.node_made

  abbrev o : Outgoing
  o = kept_as sender q words

  abbrev first : ℕ
  first = next_seq sender q.element

  abbrev asked : Asked sender.node q
  asked = request_of sender node shared q words a

  pub there : q.element < min sender.node.elements element_places
  there = asked.element_there

  pub ttl_fits : ttl ≤ 127
  ttl_fits = ttl_low q.ttl asked.ttl_allowed_law

  -- the element's address is unicast
  pub from_unicast : is_unicast s.src ≡ true
  from_unicast = local_is_unicast sender.node own s.src (address_local sender.node own q.element there)

  pub keeping : Kept sender node shared q s o
  keeping = kept sender node shared q words a

  pub segn_is : o.terms.segn ≡ last_of node s
  segn_is = ap (λ (t : Terms). t.segn) keeping.terms_is

  -- the sender that holds the message
  abbrev pub HoldsIt : Receiver → ℕ → Type 0
  HoldsIt r k = Holds sender own node shared q there s refl o keeping r k

  -- ---- a segment can be sealed, and is made
  module _ (w : goes_whole words ≡ false) (well : WellMade node) where
    cut : Cut node s
    cut = cut_fits node s (fits_of sender node shared q words a w)

    pub last_most : last_of node s < 32
    last_most = cut_low node s cut

    key_low : q.network < min node.networks network_key_places
    key_low = held sender node shared q words a

    pub can_begun : (n seq : ℕ) → n ≤ last_of node s → seq ≤ 0xFFFFFF → sealable (key_at node.materials q.network) (header_of node s n seq ttl) ≡ true
    can_begun n seq last fits =
        let low = key_low in
        let destination = sendable_allowed sender.node own q.dst (is_control words) (address_if_control sender node shared q words a) asked.sendable in
        cut_sealable node s n cut last well (omega arith) from_unicast destination seq ttl fits ttl_fits

    pub goes_begun :
        (r : Receiver) (k n : ℕ) (room : List ℕ) → (r.out.src ≡ 0 → ⊥) → HoldsIt r k → n ≤ last_of node s → has_bit r.out.heard n ≡ false → pdu_octets ≤ length room
        → next_seq r q.element ≤ first + 8191 → next_seq r q.element ≤ 0xFFFFFF → (step r (SendSegment n room)).made ≡ true
    goes_begun r k n room z h last unheard wide near left_seq =
        let low = key_low in
        let most = last_most in
        segment_goes sender own node shared q there s refl o keeping r k n room z h (omega arith) (can_begun n (next_seq r q.element) last left_seq) last (omega arith)
        unheard wide near left_seq

  -- ---- behind the call
  module _ (buf : List ℕ) (g : StartedBy sender q.element o (sending_as sender q words buf)) where
    abbrev said : Lent Spoken
    said = sending_as sender q words buf

    abbrev behind : Receiver
    behind = said.answer.receiver

    good_behind : Good behind
    good_behind = subst (λ (x : Outcome). Good x.receiver) (step_is sender q words buf) (good_step sender (say_call q words buf) good)

    pub raised_begun : next_seq behind q.element ≡ first + 1
    raised_begun =
        let t = there in
        let places = good.next_well.places in
        rw g.leaves (get_or-set_same sender.next q.element (first + 1) 0 (omega arith))

    pub out_begun : behind.out ≡ o
    out_begun = rw g.leaves refl

    pub holds_begun : HoldsIt behind (suc first)
    holds_begun =
        let e = raised_begun in
        record { good = good_behind; fixed_is = rw g.leaves refl; still = rw g.leaves (λ _. refl); from = omega arith }

    pub keeps_begun : behind.out.src ≡ 0 → ⊥
    keeps_begun = rw (g.leaves, keeping.src_is) (unicast_some s.src from_unicast)

    -- and behind any calls that leave the message kept
    pub holds_after : (l : List Call) → StaysKept behind l → HoldsIt (after behind l) (suc first)
    holds_after l e = holds_behind sender own node shared q there s refl o keeping l behind (suc first) e holds_begun

    pub kept_after : (l : List Call) → StaysKept behind l → (after behind l).out.src ≡ 0 → ⊥
    kept_after l e = kept_behind sender own node shared q there s refl o keeping l behind e

    -- segment 0
    abbrev zeroth : Piece
    zeroth = record { segment = 0; pdu = pdu_made (left_said said) }

    of_zero : Of node s ttl first zeroth
    of_zero =
        record {
          pdu_is = rw g.says (pdu_told sender own node shared q there s refl o keeping sender 0 refl g.len _ g.transmitted_is);
          can = can_told sender own node shared q there s refl o keeping sender 0 refl g.len _ g.transmitted_is;
          segment_there = omega arith;
          near = omega arith;
        }

    pub laws_begun : (l : List Call) → Laws node s ttl first (zeroth ∷ pieces behind l)
    laws_begun l =
        (first, record { of = of_zero; from = omega arith }, pieces_told sender own node shared q there s refl o keeping l behind (suc first) holds_begun)

    pub last_begun : seg_n_as (left_said said).answer ≡ last_of node s
    last_begun = rw g.says segn_is
