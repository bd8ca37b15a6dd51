-- What sending accepts goes out in full. A request that is allowed names an element, whose address is unicast since
-- setup made it; a network key that is held, whose NID has 7 bits since it was derived; a TTL of 7 bits; a DST that may
-- be sent to; and a message whose transport PDUs have their length. That is all that sealing asks for, so it refuses
-- none, and with an SEQ left and a buffer the call makes its PDU. A message in segments is then kept (Begun): each later
-- call finds it, and a segment of it that is not heard yet, with a number within 8,191 of the first, is made. Assumes
-- nothing.
use mathlib.Core.Bool.{Bool, true, false, true≢false}
use mathlib.Core.List.{List, ◌∷◌}
use mathlib.Core.Path.{◌≡◌, refl, sym, ap, ◌∙◌, subst}
use Prim.Native.Nat.{ℕ, zero, suc, ◌+◌, ◌≤◌, ◌<◌}
use native.Mathlib.Omega.{arith}
use borrow.Author.Tests.{leb-true}
use lib.Dec.{leb}
use lib.ListN.{length}
use Rattle.std.specs.Prelude.{Result}
use Rattle.common.specs.Bits.{has_bit}
use Rattle.common.specs.Lent.{Lent}
use Rattle.common.specs.Lists.{tab_from}
use Rattle.common.proofs.BitLaws.{has_none}
use Rattle.common.proofs.Tests.{by_test}
use Rattle.keys.proofs.Widths.{nid_low}
use Rattle.network.specs.declared.header.Header.{Header}
use Rattle.network.specs.Candidates.{network_key_places, key_at}
use Rattle.network.specs.Pdu.{pdu_octets}
use Rattle.network.specs.Sealing.{most_transport, sealable}
use Rattle.network.proofs.AddressLaws.{addresses_allowed_law}
use Rattle.network.proofs.Sealed.{sealable_where}
use Rattle.transport.specs.declared.securing.MessageKey.{MessageKey}
use Rattle.transport.specs.Segment.{access_octet, control_octet}
use Rattle.transport.proofs.SecureOpen.{secured_length}
use Rattle.memory.specs.declared.outgoing.Outgoing.{Outgoing}
use Rattle.node.specs.declared.addresses.Node.{Node}
use Rattle.node.specs.Made.{WellMade}
use Rattle.receiver.specs.declared.answer.Refusal.{Refusal}
use Rattle.receiver.specs.declared.state.Receiver.{Receiver}
use Rattle.receiver.specs.Good.{Good}
use Rattle.sending.specs.declared.answer.Answer as said_answer
use Rattle.sending.specs.declared.answer.Spoken.{Spoken}
use Rattle.sending.specs.declared.request.Request.{Request}
use Rattle.sending.specs.Access as access
use Rattle.sending.specs.Request.{ttl_of, to_address}
use Rattle.sending.specs.Segment.{segment_header, starting}
use Rattle.sending.specs.Transmission.{next_seq, stamped}
use Rattle.sending.proofs.Laws.Allowed.{Asked, whole_short, sendable_allowed, control_allows}
use Rattle.sending.proofs.Laws.Calls.{access_whole, access_begun, control_whole, control_begun}
use Rattle.sending.proofs.Laws.Stamped.{stamps}
use Rattle.sending.proofs.Laws.Transmitted.{saying, Sends, saying_is, starting_is}
use Rattle.demands.specs.Call.{Call, SendSegment, Said, Outcome, made_by, left_said, step, run, after}
use Rattle.demands.specs.GoesOut.{rest_as, accepted, pdu_count, GoesOut, StaysKept, SegmentGoes}
use Rattle.demands.specs.Interleaved.{Each}
use Rattle.demands.specs.ReadBack.{say_call, goes_whole, said_by, seg_n_as, Shared}
use Rattle.demands.specs.Speech.{Words, Access, Control, Speech, key_of, envelope_of, akf_of, aid_of, octets_of, last_of}
use Rattle.demands.proofs.Begun.{there, ttl_fits, from_unicast, keeping, segn_is, HoldsIt, last_most}
use Rattle.demands.proofs.Begun.{can_begun, goes_begun, raised_begun, out_begun, holds_begun, keeps_begun, holds_after, kept_after, last_begun}
use Rattle.demands.proofs.Pieces.{header_is, key_number, key_is, leaves_out, raised, holds_more}
use Rattle.demands.proofs.SaidLaws.{access_stamped, control_stamped, request_of}
use Rattle.demands.proofs.SentLaws.{header_as, kept_as, sending_as, said_by_law, StartedBy, started_by, Way, Whole, Begun, way, step_is}
use Rattle.demands.proofs.SpeechCut.{cut_is}
use Rattle.demands.proofs.WholeSent.{whole_header}

-- a call made a PDU, and so does each that sends the rest of its message
abbrev All : List ℕ → Outcome → Type 0
All buf o = Each (λ x. x.made ≡ true) (o ∷ run o.receiver (rest_as o.answer buf))

-- the sender has its own keys
pub shared_itself : (node : Node) → Shared node node
shared_itself node =
    record { networks_same = refl; materials_same = refl; applications_same = refl; appkeys_same = refl; device_same = refl; iv_same = refl }

-- ---- a request that is allowed
module _ (sender : Receiver) (good : Good sender) (q : Request) (words : Words) (buf : List ℕ) (a : accepted sender q words ≡ true) (wide : pdu_octets ≤ length buf) where
  abbrev node : Node
  node = sender.node

  abbrev shared : Shared node node
  shared = shared_itself node

  abbrev s : Speech
  s = said_by sender q words

  abbrev ttl : ℕ
  ttl = ttl_of q.ttl

  abbrev well : WellMade node
  well = good.node_made

  abbrev first : ℕ
  first = next_seq sender q.element

  asked : Asked node q
  asked = request_of sender node shared q words a

  key_low : q.network < network_key_places
  key_low = let n = asked.network_there in omega arith

  -- ---- whole
  whole_can :
      (ctl : Bool) (pdu : List ℕ) → (ctl ≡ true → to_address q.dst ≡ true) → first ≤ 0xFFFFFF → 1 ≤ length pdu → length pdu ≤ most_transport ctl
      → sealable (key_at node.materials q.network) (whole_header s ctl ttl pdu) ≡ true
  whole_can ctl pdu plain left_seq some most =
      let n = asked.network_there in
      let nid : (key_at node.materials q.network).nid ≤ 127 = rw (well.derived q.network (omega arith)) (nid_low _) in
      let allowed = addresses_allowed_law ctl s.src s.dst (from_unicast sender good node shared q words a) (sendable_allowed node well q.dst ctl plain asked.sendable) in
      sealable_where (key_at node.materials q.network) (whole_header s ctl ttl pdu) nid (ttl_fits sender good node shared q words a) left_seq allowed some most

  whole_made :
      (h : Header) (ctl : Bool) (pdu : List ℕ) → (ctl ≡ true → to_address q.dst ≡ true) → first ≤ 0xFFFFFF → stamped sender q.element h ≡ whole_header s ctl ttl pdu → 1 ≤ length pdu
      → length pdu ≤ most_transport ctl → made_by (saying sender q.element h buf).answer.answer ≡ true
  whole_made h ctl pdu plain left_seq e some most =
      let k = key_low in
      let ek : h.key ≡ q.network = sym (stamps sender q.element h).key_stays ∙ ap (λ (x : Header). x.key) e in
      let own-header = subst (λ (x : Header). sealable (key_at node.materials q.network) x ≡ true) (sym e) (whole_can ctl pdu plain left_seq some most) in
      let own_key = subst (λ (n : ℕ). sealable (key_at node.materials n) (stamped sender q.element h) ≡ true) (sym ek) own-header in
      let c : Sends sender q.element h buf = record { seq_left = left_seq; key_there = omega arith; wide = wide; can = own_key } in
      ap (λ (x : Lent Spoken). made_by x.answer.answer) (saying_is sender q.element h buf c)

  -- ---- in segments
  module _ (w : goes_whole words ≡ false) where
    abbrev o : Outgoing
    o = kept_as sender q words

    abbrev last : ℕ
    last = last_of node s

    start_made : first ≤ 0xFFFFFF → made_by (starting sender q.element o buf).answer.answer ≡ true
    start_made left_seq =
        let own = keeping sender good node shared q words a in
        let low = there sender good node shared q words a in
        let key = key_is sender well node shared q low s refl o own sender 0 refl in
        let header = header_is sender well node shared q low s refl o own sender 0 refl in
        let number = key_number sender well node shared q low s refl o own sender 0 refl in
        let c : Sends sender q.element (segment_header o 0) buf =
        record {
          seq_left = left_seq;
          key_there = subst (λ (x : ℕ). x < network_key_places) (sym number) key_low;
          wide = wide;
          can = rw (key, header) (can_begun sender good node shared q words a w well 0 first (omega arith) left_seq);
        } in
        ap (λ (x : Lent Spoken). made_by x.answer.answer) (starting_is sender q.element o buf c)

    abbrev Held : Receiver → ℕ → Type 0
    Held r k = HoldsIt sender good node shared q words a r k

    -- segment n and those behind it
    rest_made :
        first + (last + 1) ≤ 0x1000000 → (m n : ℕ) (r : Receiver) (k : ℕ) → (r.out.src ≡ 0 → ⊥) → Held r k → r.out.heard ≡ 0 → next_seq r q.element ≡ first + n
        → n + m ≡ last + 1 → Each (λ x. x.made ≡ true) (run r (tab_from (λ j. SendSegment j buf) n m))
    rest_made enough zero n r k z h clear next e = tt {0}
    rest_made enough (suc m) n r k z h clear next e =
        let own = keeping sender good node shared q words a in
        let low = there sender good node shared q words a in
        let most = last_most sender good node shared q words a w well in
        let here = goes_begun sender good node shared q words a w well r k n buf z h (omega arith) (rw clear (has_none n)) wide (omega arith) (omega arith) in
        let stays = leaves_out sender well node shared q low s refl o own r k n buf z h here in
        let up = raised sender well node shared q low s refl o own r k n buf z h here in
        let more = holds_more sender well node shared q low s refl o own r k n buf z h here in
        let kept : (step r (SendSegment n buf)).receiver.out.src ≡ 0 → ⊥ = rw stays z in
        let unheard : (step r (SendSegment n buf)).receiver.out.heard ≡ 0 = rw stays clear in
        (here, rest_made enough m (suc n) (step r (SendSegment n buf)).receiver (suc (next_seq r q.element)) kept more unheard (omega arith) (omega arith))

    begun_all :
        first + (last + 1) ≤ 0x1000000 → StartedBy sender q.element o (sending_as sender q words buf) → made_by (sending_as sender q words buf).answer.answer ≡ true
        → All buf (left_said (sending_as sender q words buf))
    begun_all enough g m =
        let behind = (sending_as sender q words buf).answer.receiver in
        let kept = keeps_begun sender good node shared q words a buf g in
        let h = holds_begun sender good node shared q words a buf g in
        let up = raised_begun sender good node shared q words a buf g in
        let clear : behind.out.heard ≡ 0 = rw (out_begun sender good node shared q words a buf g) (keeping sender good node shared q words a).unheard in
        let segn = segn_is sender good node shared q words a in
        (m, rw (g.says, segn) (rest_made enough last 1 behind (suc first) kept h clear up (omega arith)))

-- ---- each way
module _ (sender : Receiver) (good : Good sender) (q : Request) (buf : List ℕ) (wide : pdu_octets ≤ length buf) where
  said_all : (element : ℕ) (h : Header) → made_by (saying sender element h buf).answer.answer ≡ true → All buf (left_said (saying sender element h buf))
  said_all element h m = let g = said_by_law sender element buf h m in (m, rw g.says (tt {0}))

  -- a whole access message has 6 to 16 octets, and a TransMIC of 4
  access_goes :
      (key : MessageKey) (szmic : Bool) (payload : List ℕ) → access.access_allowed sender q key szmic (length payload) ≡ true → access.is_whole szmic (length payload) ≡ true
      → next_seq sender q.element ≤ 0xFFFFFF → made_by (saying sender q.element (header_as sender q (Access key szmic payload)) buf).answer.answer ≡ true
  access_goes key true payload a w left_seq = absurd (true≢false (whole_short true (length payload) w).0)
  access_goes key false payload a w left_seq =
      let words = Access key false payload in
      let node = sender.node in
      let s = said_by sender q words in
      let short = (whole_short false (length payload) w).1 in
      let l : length (octets_of node s) ≡ length payload + 4 =
      rw (cut_is node s words refl) (secured_length (key_of node key) (envelope_of node s key false) s.label payload) in
      whole_made sender good q words buf a wide (header_as sender q words) false (access_octet false (akf_of key) (aid_of node key) ∷ octets_of node s)
      (λ f. absurd (true≢false (sym f))) left_seq
      (access_stamped sender node (shared_itself node) q key payload a) (omega arith) (omega arith)

  abbrev Enough : Words → Type 0
  Enough words = next_seq sender q.element + pdu_count sender.node (said_by sender q words) ≤ 0x1000000

  goes : (words : Words) → accepted sender q words ≡ true → Enough words → All buf (left_said (sending_as sender q words buf))
  goes (Access key szmic payload) a enough =
      by_test (access.is_whole szmic (length payload))
      (λ w.
      let left_seq : next_seq sender q.element + 1 ≤ 0x1000000 = rw w at enough in
      rw (access_whole sender buf wide q key szmic payload a w)
      (said_all q.element (header_as sender q (Access key szmic payload)) (access_goes key szmic payload a w (omega arith))))
      (λ w.
      let words = Access key szmic payload in
      let numbers : next_seq sender q.element + (last_of sender.node (said_by sender q words) + 1) ≤ 0x1000000 = rw w at enough in
      let m = start_made sender good q words buf a wide w (omega arith) in
      let said = access_begun sender buf wide q key szmic payload a w in
      begun_all sender good q words buf a wide w numbers (rw said (started_by sender q.element buf _ m)) (rw said m))
  goes (Control code parameters) a enough =
      by_test (leb (length parameters) 11)
      (λ w.
      let words = Control code parameters in
      let short = leb-true (length parameters) 11 w in
      let left_seq : next_seq sender q.element + 1 ≤ 0x1000000 = rw w at enough in
      rw (control_whole sender buf wide q code parameters a w)
      (said_all q.element (header_as sender q words)
      (whole_made sender good q words buf a wide (header_as sender q words) true (control_octet false code ∷ parameters)
      (λ _. (control_allows sender q code (length parameters) a).no_label) (omega arith)
      (control_stamped sender sender.node (shared_itself sender.node) q code parameters) (omega arith) (omega arith))))
      (λ w.
      let words = Control code parameters in
      let numbers : next_seq sender q.element + (last_of sender.node (said_by sender q words) + 1) ≤ 0x1000000 = rw w at enough in
      let m = start_made sender good q words buf a wide w (omega arith) in
      let said = control_begun sender buf wide q code parameters a w in
      begun_all sender good q words buf a wide w numbers (rw said (started_by sender q.element buf _ m)) (rw said m))

pub goes_out : GoesOut
goes_out sender q (Access key szmic payload) buf good a wide enough = goes sender good q buf wide (Access key szmic payload) a enough
goes_out sender q (Control code parameters) buf good a wide enough = goes sender good q buf wide (Control code parameters) a enough

-- ---- any segment, while the message is kept
module _ (sender : Receiver) (good : Good sender) (q : Request) (words : Words) (buf : List ℕ) (l : List Call) (n : ℕ) (room : List ℕ) (w : goes_whole words ≡ false)
    (wide : pdu_octets ≤ length room) where
  abbrev Goes : Outcome → Type 0
  Goes x =
      let r = after x.receiver l in
      StaysKept x.receiver l → n ≤ seg_n_as x.answer → has_bit r.out.heard n ≡ false → next_seq r q.element ≤ next_seq sender q.element + 8191
      → next_seq r q.element ≤ 0xFFFFFF → (step r (SendSegment n room)).made ≡ true

  goes_way : Way sender q words (sending_as sender q words buf) → Goes (left_said (sending_as sender q words buf))
  goes_way (Whole a v g) e last unheard near left_seq = absurd (true≢false (sym v ∙ w))
  goes_way (Begun a v g) e last unheard near left_seq =
      let node = sender.node in
      let shared = shared_itself node in
      let behind = (sending_as sender q words buf).answer.receiver in
      let h = holds_after sender good node shared q words a buf g l e in
      let z = kept_after sender good node shared q words a buf g l e in
      goes_begun sender good node shared q words a w good.node_made (after behind l) _ n room z h (rw (last_begun sender good node shared q words a buf g) at last)
      unheard wide near left_seq

pub segment_goes_out : SegmentGoes
segment_goes_out sender q words buf l n room good sent w kept last unheard wide near left_seq =
    let e = step_is sender q words buf in
    let made = subst (λ (x : Outcome). x.made ≡ true) e sent in
    subst (Goes sender good q words buf l n room w wide) (sym e) (goes_way sender good q words buf l n room w wide (way sender q words buf made)) kept last unheard near left_seq

-- ---- SegN, as the call that began a message answers it
last_way :
    (sender : Receiver) (good : Good sender) (q : Request) (words : Words) (buf : List ℕ) → goes_whole words ≡ false → Way sender q words (sending_as sender q words buf)
    → seg_n_as (left_said (sending_as sender q words buf)).answer ≡ last_of sender.node (said_by sender q words)
last_way sender good q words buf w (Whole a v g) = absurd (true≢false (sym v ∙ w))
last_way sender good q words buf w (Begun a v g) = last_begun sender good sender.node (shared_itself sender.node) q words a buf g

pub last_answered :
    (sender : Receiver) (q : Request) (words : Words) (buf : List ℕ) → Good sender → (step sender (say_call q words buf)).made ≡ true → goes_whole words ≡ false
    → seg_n_as (step sender (say_call q words buf)).answer ≡ last_of sender.node (said_by sender q words)
last_answered sender q words buf good sent w =
    let e = step_is sender q words buf in
    let By : Outcome → Type 0 = λ x. seg_n_as x.answer ≡ last_of sender.node (said_by sender q words) in
    subst By (sym e) (last_way sender good q words buf w (way sender q words buf (subst (λ (x : Outcome). x.made ≡ true) e sent)))

-- 0 where it goes whole
whole_way :
    (sender : Receiver) (q : Request) (words : Words) (buf : List ℕ) → goes_whole words ≡ true → Way sender q words (sending_as sender q words buf)
    → seg_n_as (left_said (sending_as sender q words buf)).answer ≡ 0
whole_way sender q words buf w (Whole a v g) = ap (λ (x : Result said_answer.Answer Refusal). seg_n_as (Said x)) g.says
whole_way sender q words buf w (Begun a v g) = absurd (true≢false (sym w ∙ v))

pub whole_answered :
    (sender : Receiver) (q : Request) (words : Words) (buf : List ℕ) → (step sender (say_call q words buf)).made ≡ true → goes_whole words ≡ true
    → seg_n_as (step sender (say_call q words buf)).answer ≡ 0
whole_answered sender q words buf sent w =
    let e = step_is sender q words buf in
    let By : Outcome → Type 0 = λ x. seg_n_as x.answer ≡ 0 in
    subst By (sym e) (whole_way sender q words buf w (way sender q words buf (subst (λ (x : Outcome). x.made ≡ true) e sent)))
