-- What a sender says is a speech that a receiver with the same keys, and the label that it is said to, is to read: a request that is allowed names keys that both hold,
-- and its message has a length that fits. What the sender
-- keeps of it are the speech's octets, and each segment's header is the speech's. Assumes nothing.
--   access_read, words_of             the speech is one that the receiver is to read
--   fits_of                           its length fits
--   Kept, kept                        the message that is kept is the speech's
--   header_said, key_said             a segment's header, stamped, and its key
--   access_stamped, control_stamped   the header of a message that goes whole, stamped
use mathlib.Core.Bool.{Bool, true, false, true≢false}
use mathlib.Core.List.{List, [], ◌∷◌}
use mathlib.Core.Logic.{◌⊎◌}
use mathlib.Core.Path.{◌≡◌, refl, sym, ap, ◌∙◌, subst}
use Prim.Native.Nat.{ℕ, ◌+◌, ◌≤◌, ◌<◌, min}
use native.Mathlib.Omega.{arith}
use borrow.Author.Tests.{eq-eqb, lt-ltb, ltb-true, leb-false}
use lib.ListN.{length, take}
use Rattle.common.proofs.Tests.{by_choice}
use Rattle.keys.specs.Derivation.{label_address}
use Rattle.network.specs.declared.header.Header.{Header}
use Rattle.network.specs.Candidates.{network_key_places}
use Rattle.transport.specs.declared.securing.Envelope.{Envelope}
use Rattle.transport.specs.declared.securing.MessageKey.{MessageKey}
use Rattle.transport.specs.declared.securing.MessageKey.TheVariants.{Application, Device}
use Rattle.transport.specs.declared.securing.Opener.{Opener}
use Rattle.transport.specs.declared.securing.Opener.TheVariants as opener
use Rattle.transport.specs.Ranges.{OpcodeInRange}
use Rattle.transport.specs.SecureOpen as message
use Rattle.transport.specs.SecureOpen.{place_of}
use Rattle.transport.specs.Securing.{application_key_places, label_places, secured, application_key_at, label_at, fits_key, is_virtual, pairs}
use Rattle.transport.specs.Segment.{message_octets, access_octet, control_octet}
use Rattle.transport.proofs.SecureOpen.{secured_length, tried_alone, tried_labelled}
use Rattle.memory.specs.declared.outgoing.Outgoing.{Outgoing}
use Rattle.node.specs.declared.addresses.Node.{Node}
use Rattle.node.specs.Addresses.{held_by}
use Rattle.node.specs.Made.{WellMade}
use Rattle.receiver.specs.declared.state.Receiver.{Receiver}
use Rattle.sending.specs.declared.access.KeyUsed.{KeyUsed}
use Rattle.sending.specs.declared.request.Destination.{Destination}
use Rattle.sending.specs.declared.request.Destination.TheVariants.{Address, Label}
use Rattle.sending.specs.declared.request.Request.{Request}
use Rattle.sending.specs.Access as access
use Rattle.sending.specs.Control as control
use Rattle.sending.specs.Request.{ttl_of, dst_of, additional_for, destination_allowed, to_address}
use Rattle.sending.specs.Segment.{segment_header}
use Rattle.sending.specs.Transmission.{sending_iv, address_of, next_seq, stamped}
use Rattle.sending.proofs.Laws.Allowed.{Asked, AccessAllowed, access_allows, application_there, ControlAllowed, control_allows}
use Rattle.sending.proofs.Laws.Allowed.{address_plain, label_is_virtual, unicast_dst, address_bare, unicast_no_label}
use Rattle.sending.proofs.Laws.Shapes.{whole_access_law, whole_control_law, segment_out, keeps_access, keeps_control, envelope_is}
use Rattle.sending.proofs.Laws.Stamped.{stamps, sending_near}
use Rattle.demands.specs.GoesOut.{accepted}
use Rattle.demands.specs.ReadBack.{goes_whole, said_by, Shared, OwnMessageFirst}
use Rattle.demands.specs.Speech.{Words, Access, Control, Speech, is_control, key_of, aid_of, akf_of, envelope_of, octets_of, last_of, segment_of, header_of, Fits, WordsRead}
use Rattle.demands.specs.Speech.{label_place, HoldsLabel, opener_of, LabelRead}
use Rattle.demands.proofs.OpenerLaws.{label_there}
use Rattle.demands.proofs.SentLaws.{header_as, kept_as}
use Rattle.demands.proofs.SpeechCut.{WordsFit}
use Rattle.demands.proofs.SpeechSegment.{terms_of}
use Rattle.demands.proofs.WholeSent.{whole_header}

module _ (sender : Receiver) (node : Node) (shared : Shared sender.node node) (q : Request) where
  -- ---- the keys are the same
  pub record KeySame (key : MessageKey) : Type 0 where
    pub akf_same : (access.keyed sender.node key).akf ≡ akf_of key
    pub aid_same : (access.keyed sender.node key).aid ≡ aid_of node key
    pub key_same : (access.keyed sender.node key).key ≡ key_of node key

  pub key_same : (key : MessageKey) → access.key_allowed sender.node q key ≡ true → KeySame key
  key_same (Application i) a =
      let h = (application_there sender.node q i a).0 in
      let four = lt-ltb i application_key_places (omega arith) in
      record {
        akf_same = rw four refl;
        aid_same = rw (four, shared.appkeys_same) refl;
        key_same = rw (four, shared.appkeys_same) refl;
      }
  key_same Device a = record { akf_same = refl; aid_same = refl; key_same = shared.device_same }

  -- ---- an access message
  module _ (key : MessageKey) (szmic : Bool) (payload : List ℕ) (allowed : access.access_allowed sender q key szmic (length payload) ≡ true) where
    abbrev s : Speech
    s = said_by sender q (Access key szmic payload)

    abbrev k : KeyUsed
    k = access.keyed sender.node key

    abbrev e : Envelope
    e = access.envelope_of sender q k szmic

    passed : AccessAllowed sender.node q key szmic (length payload)
    passed = access_allows sender q key szmic (length payload) allowed

    pub keys_allowed : access.key_allowed sender.node q key ≡ true
    keys_allowed = passed.key_allowed_law

    pub envelope_same : e ≡ envelope_of node s key szmic
    envelope_same = let c = key_same key keys_allowed in envelope_is sender q k szmic ∙ rw (c.akf_same, c.aid_same) refl

    pub octets_same : secured k.key e (additional_for sender.node q.dst) payload ≡ octets_of node s
    unfolding octets_of
    octets_same = let c = key_same key keys_allowed in rw (c.key_same, envelope_same) refl

    pub access_fits : Fits payload (octets_of node s) message_octets
    access_fits =
        let l = secured_length k.key e (additional_for sender.node q.dst) payload in
        record { some = passed.some_payload; enough = subst (λ (c : List ℕ). length c ≤ message_octets) octets_same (rw l (rw envelope_same passed.payload_most)) }

  -- ---- the receiver holds the key, and the label, and the pair is the first that opens the message
  module _ (made : WellMade sender.node) (made_here : WellMade node) where
    -- an address that is given is not virtual, and goes with no label; a label's address is derived from it
    plain_label : (d : Destination) → destination_allowed sender.node d ≡ true → is_virtual (dst_of sender.node d) ≡ false → additional_for sender.node d ≡ []
    plain_label (Address a) t f = refl
    plain_label (Label j) t f = absurd (true≢false (sym (label_is_virtual sender.node made j t) ∙ f))

    derived_label :
        (d : Destination) → destination_allowed sender.node d ≡ true → is_virtual (dst_of sender.node d) ≡ true
        → dst_of sender.node d ≡ label_address (additional_for sender.node d)
    derived_label (Address a) t v = absurd (true≢false (sym v ∙ address_plain sender.node a t))
    derived_label (Label j) t v = made.label_derived j (let h = ltb-true j (min sender.node.labelled label_places) t in omega arith)

    module _ (i : ℕ) (szmic : Bool) (payload : List ℕ) (allowed : access.access_allowed sender q (Application i) szmic (length payload) ≡ true)
        (holds : is_virtual (dst_of sender.node q.dst) ≡ true → HoldsLabel node (additional_for sender.node q.dst)) where
      abbrev said : Speech
      said = said_by sender q (Access (Application i) szmic payload)

      abbrev under : Envelope
      under = envelope_of node said (Application i) szmic

      sendable : destination_allowed sender.node q.dst ≡ true
      sendable = (passed (Application i) szmic payload allowed).asks.sendable

      label_read : LabelRead node said
      label_read = record { virtual = holds; other = plain_label q.dst sendable }

      there : (i < min node.applications application_key_places) × (fits_key under (application_key_at node.appkeys i) ≡ true)
      there =
          let k = application_there sender.node q i (keys_allowed (Application i) szmic payload allowed) in
          let aid = (application_key_at node.appkeys i).aid in
          (rw (sym shared.applications_same) k.0, rw (eq-eqb aid aid refl, sym shared.appkeys_same) (eq-eqb _ q.network k.1))

      label_place_law : is_virtual said.dst ≡ true → place_of (held_by node) under (opener.Labelled i (label_place node said.label)) < length (pairs (held_by node) under)
      label_place_law t =
          let h = holds t in
          let low = h.held in
          let octets = label_there node made_here said.label h in
          let same : (label_at node.labels (label_place node said.label)).address ≡ said.dst =
          made_here.label_derived (label_place node said.label) (omega arith) ∙ ap label_address octets ∙ sym (derived_label q.dst sendable t) in
          tried_labelled (held_by node) under i there.0 there.1 (label_place node said.label) low same t

      tried : place_of (held_by node) under (opener_of node said (Application i)) < length (pairs (held_by node) under)
      tried =
          by_choice (λ (x : Opener). place_of (held_by node) under x < length (pairs (held_by node) under)) (is_virtual said.dst)
          label_place_law (tried_alone (held_by node) under i there.0 there.1)

      application_reads :
          OwnMessageFirst node said (Access (Application i) szmic payload) → (msg : List ℕ)
          → message.Receives (held_by node) (opener_of node said (Application i)) under (octets_of node said) msg
      application_reads first msg = record { akf_set = refl; tried = tried; none_before = first msg }

    pub access_read :
        (key : MessageKey) (szmic : Bool) (payload : List ℕ) → access.access_allowed sender q key szmic (length payload) ≡ true
        → (is_virtual (dst_of sender.node q.dst) ≡ true → HoldsLabel node (additional_for sender.node q.dst))
        → (let s = said_by sender q (Access key szmic payload) in OwnMessageFirst node s (Access key szmic payload) → WordsRead node s (Access key szmic payload))
    access_read (Application i) szmic payload a h f =
        (access_fits (Application i) szmic payload a, λ msg _. application_reads i szmic payload a h f msg, label_read i szmic payload a h)
    access_read Device szmic payload a h f =
        let u = keys_allowed Device szmic payload a in
        (access_fits Device szmic payload a, unicast_dst sender.node q.dst u, address_bare sender.node q.dst (unicast_no_label q.dst u))

  -- ---- a control message; one that is segmented has more than 11 parameters
  module _ (code : ℕ) (parameters : List ℕ) (allowed : control.control_allowed sender q code (length parameters) ≡ true) where
    passed_control : ControlAllowed sender.node q code (length parameters)
    passed_control = control_allows sender q code (length parameters) allowed

    pub opcode_range : OpcodeInRange code
    opcode_range = record { not_zero = passed_control.opcode_least; opcode_fits = passed_control.opcode_most }

  -- ---- the speech is one that the receiver is to read
  pub request_of : (words : Words) → accepted sender q words ≡ true → Asked sender.node q
  request_of (Access key szmic payload) a = (passed key szmic payload a).asks
  request_of (Control code parameters) a = (passed_control code parameters a).asks

  -- a control message goes to an address
  pub address_if_control : (words : Words) → accepted sender q words ≡ true → is_control words ≡ true → to_address q.dst ≡ true
  address_if_control (Access key szmic payload) a c = absurd (true≢false (sym c))
  address_if_control (Control code parameters) a c = (passed_control code parameters a).no_label

  -- its length fits
  pub fits_of : (words : Words) → accepted sender q words ≡ true → goes_whole words ≡ false → WordsFit node (said_by sender q words) words
  fits_of (Access key szmic payload) a w = access_fits key szmic payload a
  fits_of (Control code parameters) a w =
      let n = leb-false (length parameters) 11 w in
      record { some = omega arith; enough = (passed_control code parameters a).parameters_most }

  -- which is not virtual
  pub control_plain :
      (d : Destination) → to_address d ≡ true → destination_allowed sender.node d ≡ true → is_virtual (dst_of sender.node d) ≡ false
  control_plain (Address a) t e = address_plain sender.node a e
  control_plain (Label j) t e = absurd (true≢false (sym t))

  module _ (made : WellMade sender.node) where
    pub words_of :
        WellMade node → (words : Words) → accepted sender q words ≡ true → goes_whole words ≡ false
        → (is_virtual (dst_of sender.node q.dst) ≡ true → HoldsLabel node (additional_for sender.node q.dst))
        → (let s = said_by sender q words in OwnMessageFirst node s words → WordsRead node s words)
    words_of here (Access key szmic payload) a w h f = access_read made here key szmic payload a h f
    words_of here (Control code parameters) a w h f =
        let p = passed_control code parameters a in
        (fits_of (Control code parameters) a w, opcode_range code parameters a, control_plain q.dst p.no_label p.asks.sendable)

    pub near : (sending_iv sender.node ≡ node.iv) ⊎ (sending_iv sender.node + 1 ≡ node.iv)
    near =
        subst (λ (i : ℕ). (sending_iv sender.node ≡ i) ⊎ (sending_iv sender.node + 1 ≡ i)) shared.iv_same (sending_near sender.node made)

  pub held : (words : Words) → accepted sender q words ≡ true → q.network < min node.networks network_key_places
  held words a = rw (sym shared.networks_same) (request_of words a).network_there

  -- ---- what is kept
  pub record Kept (s : Speech) (o : Outgoing) : Type 0 where
    pub src_is : o.src ≡ s.src
    pub auth_is : o.auth ≡ s.auth
    pub terms_is : o.terms ≡ terms_of node s
    pub octets_are : take o.len o.bytes ≡ octets_of node s
    pub ttl_is : o.ttl ≡ ttl_of q.ttl
    pub unheard : o.heard ≡ 0

  pub kept : (words : Words) → accepted sender q words ≡ true → Kept (said_by sender q words) (kept_as sender q words)
  unfolding last_of octets_of
  kept (Access key szmic payload) a =
      let s = said_by sender q (Access key szmic payload) in
      let c = key_same key (keys_allowed key szmic payload a) in
      let m = octets_same key szmic payload a in
      let f = (access_fits key szmic payload a).enough in
      let x = envelope_same key szmic payload a in
      let k = access.keyed sender.node key in
      let o = keeps_access (access.envelope_of sender q k szmic) q k (additional_for sender.node q.dst) payload in
      record {
        src_is = o.src_is ∙ rw x refl;
        auth_is = o.auth_is ∙ rw x refl;
        terms_is = o.terms_is ∙ rw (m, x, c.akf_same, c.aid_same) refl;
        octets_are = o.octets_are (rw m f) ∙ m;
        ttl_is = o.ttl_is;
        unheard = o.unheard;
      }
  kept (Control code parameters) a =
      let f = (passed_control code parameters a).parameters_most in
      let o = keeps_control sender q code parameters in
      record {
        src_is = o.src_is;
        auth_is = o.auth_is;
        terms_is = o.terms_is;
        octets_are = o.octets_are (omega arith);
        ttl_is = o.ttl_is;
        unheard = o.unheard;
      }

  -- ---- a segment's header is the speech's
  module _ (s : Speech) (o : Outgoing) (c : Kept s o) (r : Receiver) (element n : ℕ) (address : address_of r.node element ≡ s.src) where
    pub header_said : stamped r element (segment_header o n) ≡ header_of node s n (next_seq r element) (ttl_of q.ttl)
    unfolding header_of segment_of
    header_said = segment_out r element o n ∙ rw (c.terms_is, c.auth_is, c.octets_are, c.ttl_is, address) refl

    pub key_said : (segment_header o n).key ≡ s.network
    unfolding header_of
    key_said = sym (stamps r element (segment_header o n)).key_stays ∙ ap (λ (x : Header). x.key) header_said

  -- ---- a message that goes whole has the header of its speech
  pub access_stamped :
      (key : MessageKey) (payload : List ℕ) → access.access_allowed sender q key false (length payload) ≡ true
      → (let words = Access key false payload in
      let s = said_by sender q words in
      stamped sender q.element (header_as sender q words) ≡ whole_header s false (ttl_of q.ttl) (access_octet false (akf_of key) (aid_of node key) ∷ octets_of node s))
  access_stamped key payload a =
      let c = key_same key (keys_allowed key false payload a) in
      let k = access.keyed sender.node key in
      whole_access_law sender q.element (access.envelope_of sender q k false) q k (additional_for sender.node q.dst) payload
      ∙ rw (octets_same key false payload a, envelope_same key false payload a, c.akf_same, c.aid_same) refl

  pub control_stamped :
      (code : ℕ) (parameters : List ℕ)
      → (let words = Control code parameters in
      stamped sender q.element (header_as sender q words) ≡ whole_header (said_by sender q words) true (ttl_of q.ttl) (control_octet false code ∷ parameters))
  control_stamped code parameters = whole_control_law sender q.element (sending_iv sender.node) q (dst_of sender.node q.dst) code parameters
