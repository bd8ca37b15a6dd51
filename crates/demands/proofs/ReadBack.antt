-- Demand 2. A call that made a PDU went one of two ways. Whole: its PDU is sealed from the header of the message, so a fresh receiver opens it, finds nothing against it, and the message's key,
-- which both hold, opens what it secured; every further copy is in the cache (WholeRead). In segments: the sender keeps the secured octets, and while it does, every call that makes a segment
-- seals the speech's, with a number of the same element that rises (Pieces, Begun). So the PDUs made are segments of one speech, within 8,191 of SeqAuth, no number spent on two: heard in any
-- order and with any TTL they are a scene of demand 3 with one speaker (SegmentsHeard). What each hands up adds up to one message (ReadOnce). That both sides agree on keys, nonce and lengths
-- follows from the request's being allowed. Assumes nothing.
use mathlib.Core.Bool.{Bool, true, false, true≢false}
use mathlib.Core.List.{List, [], ◌∷◌}
use mathlib.Core.Path.{◌≡◌, refl, sym, ap, ap₂, ◌∙◌, subst}
use Prim.Native.Nat.{ℕ, ◌+◌, ◌≤◌}
use native.Mathlib.Omega.{arith}
use borrow.Author.Tests.{leb-true}
use lib.ListN.{length}
use Rattle.std.specs.Prelude.{Result, Ok}
use Rattle.common.specs.Lent.{Lent}
use Rattle.keys.specs.declared.NetworkKeys.{NetworkKeys}
use Rattle.network.specs.declared.header.Header.{Header}
use Rattle.network.specs.Candidates.{key_at}
use Rattle.network.specs.Pdu.{pdu_of}
use Rattle.network.specs.Sealing.{sealable}
use Rattle.transport.specs.Segment.{access_octet, control_octet}
use Rattle.transport.proofs.SecureOpen.{secured_length}
use Rattle.node.specs.declared.addresses.Node.{Node}
use Rattle.node.specs.declared.setup.Setup.{Setup}
use Rattle.receiver.specs.declared.answer.Refusal.{Refusal}
use Rattle.receiver.specs.declared.state.Receiver.{Receiver}
use Rattle.receiver.specs.Fresh.{setting_up}
use Rattle.receiver.proofs.Good.{good_fresh}
use Rattle.sending.specs.declared.answer.Answer as said_answer
use Rattle.sending.specs.declared.answer.Spoken.{Spoken}
use Rattle.sending.specs.declared.request.Request.{Request}
use Rattle.sending.specs.Request.{ttl_of}
use Rattle.sending.specs.Transmission.{stamped}
use Rattle.sending.proofs.Laws.Allowed.{whole_short}
use Rattle.sending.proofs.Laws.Stamped.{stamps}
use Rattle.demands.specs.Call.{Call, Said, Outcome, left_said}
use Rattle.demands.specs.GoesOut.{accepted}
use Rattle.demands.specs.Interleaved.{node_of, Each}
use Rattle.demands.specs.ReadBack.{goes_whole, said_by, pdu_made, Piece, pieces, pieces_as, seg_n_as, Hearing, Between, Hears, ReadInFull, ReadBack}
use Rattle.demands.specs.Speech.{Words, Access, Control, Speech, key_of, akf_of, aid_of, envelope_of, octets_of, last_of, Speakable}
use Rattle.demands.proofs.Begun.{ttl_fits, from_unicast, laws_begun, last_begun}
use Rattle.demands.proofs.ReadOnce.{read_once}
use Rattle.demands.proofs.SaidLaws.{access_read, opcode_range, words_of, near, held, access_stamped, control_stamped}
use Rattle.demands.proofs.SegmentsHeard.{each_read, each_within}
use Rattle.demands.proofs.SentLaws.{SaidBy, StartedBy, header_as, kept_as, sending_as, Way, Whole, Begun, way, step_is}
use Rattle.demands.proofs.SpeechCut.{cut_is, last_low}
use Rattle.demands.proofs.WholeRead.{Sendable, each_whole, whole_within}
use Rattle.demands.proofs.WholeSent.{whole_header, Reaches, Heard, formed, access_whole, control_whole}

module _ (sender : Receiver) (setup : Setup) (q : Request) (words : Words) (buf : List ℕ) (b : Between sender setup q words) (l : List Call) where
  abbrev node : Node
  node = node_of setup

  abbrev s : Speech
  s = said_by sender q words

  abbrev ttl : ℕ
  ttl = ttl_of q.ttl

  abbrev said : Lent Spoken
  said = sending_as sender q words buf

  -- what was made, by the answer to the first call
  abbrev first : Piece
  first = record { segment = 0; pdu = pdu_made (left_said said) }

  abbrev made_as : Outcome → List Piece
  made_as x = record { segment = 0; pdu = pdu_made x } ∷ pieces_as x.answer x.receiver l

  -- these PDUs are read, SegN being n
  abbrev Read : List Piece → ℕ → Type 0
  Read ps n = (heard : List Hearing) → Each (Hears node s ps) heard → ReadInFull setup s ps n heard

  abbrev ReadAs : Outcome → Type 0
  ReadAs x = Read (made_as x) (seg_n_as x.answer)

  -- ---- in segments
  module _ (a : accepted sender q words ≡ true) (w : goes_whole words ≡ false) (g : StartedBy sender q.element (kept_as sender q words) said) where
    -- the speech is one that the receiver is to read
    speaks : Speakable node s
    speaks =
        record {
          from_unicast = from_unicast sender b.good node b.shared q words a;
          for_here = b.for_here;
          dst_fits = b.dst_fits;
          held = held sender node b.shared q words a;
          near = near sender node b.shared q b.good.node_made;
          words_read = words_of sender node b.shared q b.good.node_made (good_fresh setup b.ready).node_made words a w b.holds_label_law b.own_message_first;
        }

    abbrev ps : List Piece
    ps = first ∷ pieces said.answer.receiver l

    read_these : Read ps (last_of node s)
    read_these heard e =
        let fits = ttl_fits sender b.good node b.shared q words a in
        let laws = laws_begun sender b.good node b.shared q words a buf g l in
        let each = each_read setup b.ready s speaks b.other_node w ttl fits ps laws heard e in
        let inside = each_within setup b.ready s speaks b.other_node w ttl fits ps laws heard e in
        record { each = each; once = read_once node s ps (last_of node s) (last_low node s speaks) heard _ inside each }

    read_segments : ReadAs (left_said said)
    read_segments =
        let these : made_as (left_said said) ≡ ps = ap (λ (x : Result said_answer.Answer Refusal). first ∷ pieces_as (Said x) said.answer.receiver l) g.says in
        let last = last_begun sender b.good node b.shared q words a buf g in
        subst (λ (x : List Piece). Read x (seg_n_as (left_said said).answer)) (sym these) (subst (Read ps) (sym last) read_these)

  -- ---- whole
  module _ (a : accepted sender q words ≡ true) (g : SaidBy sender q.element (header_as sender q words) said) (ctl : Bool) (octet : ℕ) (body : List ℕ)
      (short : length (octet ∷ body) ≤ 16) (shape : stamped sender q.element (header_as sender q words) ≡ whole_header s ctl ttl (octet ∷ body))
      (hands_up : (ready : (setting_up setup).answer ≡ Ok tt) (t : ℕ) (fwd msg : List ℕ)
      → (let h = whole_header s ctl t (octet ∷ body) in Reaches setup s h fwd msg → Heard setup ready s t fwd msg h)) where
    abbrev h : Header
    h = whole_header s ctl ttl (octet ∷ body)

    abbrev key : NetworkKeys
    key = key_at node.materials q.network

    -- it is sealed by the receiver's key, which the sender's is
    own_key : key_at sender.node.materials (header_as sender q words).key ≡ key
    own_key =
        let e = sym (stamps sender q.element (header_as sender q words)).key_stays ∙ ap (λ (x : Header). x.key) shape in
        ap (key_at sender.node.materials) e ∙ ap (λ (k : List NetworkKeys). key_at k q.network) b.shared.materials_same

    pdu_one : first.pdu ≡ pdu_of key h
    pdu_one = rw g.says (g.transmitted_is.pdu ∙ ap₂ pdu_of own_key shape)

    sendable : Sendable setup s ctl (octet ∷ body) ttl (ttl_fits sender b.good node b.shared q words a)
    sendable =
        record {
          can = sym (ap₂ sealable own_key shape) ∙ g.transmitted_is.can;
          formed = λ t. formed setup b.ready s t [] [] ctl octet body short b.dst_fits;
          receives = λ t none.
              record { held = held sender node b.shared q words a; near = near sender node b.shared q b.good.node_made; none_before = none };
          other = b.other_node;
          here = b.for_here;
          hands_up = hands_up;
        }

    read_these_whole : Read (first ∷ []) 0
    read_these_whole heard e =
        let fits = ttl_fits sender b.good node b.shared q words a in
        let each = each_whole setup s ctl (octet ∷ body) ttl fits b.ready sendable first refl pdu_one heard e in
        let inside = whole_within setup s ctl (octet ∷ body) ttl fits b.ready sendable first refl pdu_one heard e in
        record { each = each; once = read_once node s (first ∷ []) 0 (omega arith) heard _ inside each }

    read_one : ReadAs (left_said said)
    read_one =
        let these : made_as (left_said said) ≡ first ∷ [] = ap (λ (x : Result said_answer.Answer Refusal). first ∷ pieces_as (Said x) said.answer.receiver l) g.says in
        let none : seg_n_as (left_said said).answer ≡ 0 = ap (λ (x : Result said_answer.Answer Refusal). seg_n_as (Said x)) g.says in
        subst (λ (x : List Piece). Read x (seg_n_as (left_said said).answer)) (sym these) (subst (Read (first ∷ [])) (sym none) read_these_whole)

-- ---- by the words
module _ (sender : Receiver) (setup : Setup) (q : Request) (buf : List ℕ) (l : List Call) where
  read_whole :
      (words : Words) (b : Between sender setup q words) → accepted sender q words ≡ true → goes_whole words ≡ true
      → SaidBy sender q.element (header_as sender q words) (sending_as sender q words buf)
      → ReadAs sender setup q words buf b l (left_said (sending_as sender q words buf))
  read_whole (Access key true payload) b a w g = absurd (true≢false (whole_short true (length payload) w).0)
  read_whole (Access key false payload) b a w g =
      let words = Access key false payload in
      let node = node_of setup in
      let s = said_by sender q words in
      let few = (whole_short false (length payload) w).1 in
      let made = (good_fresh setup b.ready).node_made in
      let read = access_read sender node b.shared q b.good.node_made made key false payload a b.holds_label_law b.own_message_first in
      let long : length (octets_of node s) ≡ length payload + 4 =
      rw (cut_is node s words refl) (secured_length (key_of node key) (envelope_of node s key false) s.label payload) in
      read_one sender setup q words buf b l a g false (access_octet false (akf_of key) (aid_of node key)) (octets_of node s) (omega arith)
      (access_stamped sender node b.shared q key payload a)
      (λ ready t fwd msg p. access_whole setup ready s t fwd msg made key payload refl read few p)
  read_whole (Control code parameters) b a w g =
      let words = Control code parameters in
      let node = node_of setup in
      let s = said_by sender q words in
      let few = leb-true (length parameters) 11 w in
      let range = opcode_range sender node b.shared q code parameters a in
      read_one sender setup q words buf b l a g true (control_octet false code) parameters (omega arith) (control_stamped sender node b.shared q code parameters)
      (λ ready t fwd msg p. control_whole setup ready s t fwd msg code parameters refl range few p)

  read_way : (words : Words) (b : Between sender setup q words) → Way sender q words (sending_as sender q words buf) → ReadAs sender setup q words buf b l (left_said (sending_as sender q words buf))
  read_way words b (Whole a w g) = read_whole words b a w g
  read_way words b (Begun a w g) = read_segments sender setup q words buf b l a w g

pub read_back : ReadBack
read_back sender setup q words buf l heard t =
    let b = t.between in
    let e = step_is sender q words buf in
    let sent = subst (λ (x : Outcome). x.made ≡ true) e t.sent in
    subst (ReadAs sender setup q words buf b l) (sym e) (read_way sender setup q buf l words b (way sender q words buf sent)) heard t.hears
