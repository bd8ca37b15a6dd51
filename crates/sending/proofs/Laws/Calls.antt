-- A call that sends refuses and leaves everything, or transmits a header and says so, or begins a message. What holds on each of these ways holds of the call:
-- one walk down each call's chain of tests, with the tests that hold at its end. Assumes nothing.
--   walk_..                        each call
--   .._whole, .._begun, .._sent    what a call says where its tests pass
--   acknowledgement_..             an acknowledgement, sent or refused
--   chosen_..                      what is acknowledged
use mathlib.Core.Bool.{Bool, true, false}
use mathlib.Core.List.{List}
use mathlib.Core.Path.{◌≡◌, refl}
use Prim.Native.Nat.{ℕ, ◌≤◌, ◌<◌, min}
use borrow.Author.Tests.{ne_eqb, lt-ltb, le-ltb}
use lib.Dec.{leb, ltb}
use lib.ListN.{length}
use Rattle.std.specs.Prelude.{Option, None, Some, if◌then◌else◌}
use Rattle.common.specs.Bits.{all_bits}
use Rattle.common.specs.Lent.{Lent, lent}
use Rattle.common.proofs.Tests.{by_test, by_choice}
use Rattle.network.specs.declared.header.Header.{Header}
use Rattle.network.specs.Address.{is_unicast}
use Rattle.network.specs.Pdu.{pdu_octets}
use Rattle.network.specs.Candidates.{network_key_places}
use Rattle.transport.specs.declared.securing.MessageKey.{MessageKey}
use Rattle.memory.specs.declared.outgoing.Outgoing.{Outgoing}
use Rattle.memory.specs.declared.replay.Entry.{Entry}
use Rattle.memory.specs.declared.session.Session.{Session}
use Rattle.memory.specs.Replay.{look_up}
use Rattle.memory.specs.Session.{session_slots, session_at, session_place}
use Rattle.node.specs.Addresses.{element_places, is_local}
use Rattle.receiver.specs.declared.answer.Refusal.{Refusal}
use Rattle.receiver.specs.declared.answer.Refusal.TheVariants as refusal
use Rattle.receiver.specs.declared.state.Receiver.{Receiver}
use Rattle.sending.specs.declared.acknowledge.Chosen.{Chosen}
use Rattle.sending.specs.declared.answer.Spoken.{Spoken}
use Rattle.sending.specs.declared.request.Request.{Request}
use Rattle.sending.specs.Access.{keyed, is_whole, access_allowed, envelope_of, whole_header, outgoing_of, saying_access, sending_access}
use Rattle.sending.specs.Acknowledge.{chosen_by, chosen, acknowledgement_header, saying_acknowledgement, acknowledging_from, acknowledging_as, acknowledging_by, acknowledging}
use Rattle.sending.specs.Answer.{refused_at}
use Rattle.sending.specs.Control as control
use Rattle.sending.specs.Request.{dst_of, additional_for}
use Rattle.sending.specs.Segment.{segment_header, starting, element_at, element_of, segment_allowed, sending_segment_from, sending_segment}
use Rattle.sending.specs.Transmission.{sending_iv}
use Rattle.sending.proofs.Laws.Transmitted.{checked, saying}
use Rattle.sending.proofs.Octets.{local_low}

-- what a message is sent as: an access message whole, or begun; a control message whole
abbrev pub access_header : Receiver → Request → MessageKey → Bool → List ℕ → Header
access_header r q key szmic payload = let k = keyed r.node key in whole_header (envelope_of r q k szmic) q k (additional_for r.node q.dst) payload

abbrev pub access_outgoing : Receiver → Request → MessageKey → Bool → List ℕ → Outgoing
access_outgoing r q key szmic payload = let k = keyed r.node key in outgoing_of (envelope_of r q k szmic) q k (additional_for r.node q.dst) payload

abbrev pub control_header : Receiver → Request → ℕ → List ℕ → Header
control_header r q opcode parameters = control.whole_header (sending_iv r.node) q (dst_of r.node q.dst) opcode parameters

module _ (r : Receiver) (buf : List ℕ) (P : Lent Spoken → Type 0) (refused : (n : Refusal) → checked n ≡ true → P (lent (refused_at r n) buf)) where
  abbrev short : Lent Spoken
  short = lent (refused_at r refusal.ShortBuffer) buf

  abbrev outside : Lent Spoken
  outside = lent (refused_at r refusal.OutsideRules) buf

  module _ (q : Request) (key : MessageKey) (szmic : Bool) (payload : List ℕ) where
    abbrev allowed : Bool
    allowed = access_allowed r q key szmic (length payload)

    abbrev whole : Bool
    whole = is_whole szmic (length payload)

    pub walk_access :
        (allowed ≡ true → whole ≡ true → P (saying r q.element (access_header r q key szmic payload) buf))
        → (allowed ≡ true → whole ≡ false → P (starting r q.element (access_outgoing r q key szmic payload) buf))
        → P (sending_access r q key szmic payload buf)
    unfolding sending_access saying_access
    walk_access said started =
        by_choice P (ltb (length buf) pdu_octets) {x = short} {y = if allowed then saying_access r q key szmic payload buf else outside} (λ _. refused refusal.ShortBuffer refl)
        (λ _. by_choice P allowed {x = saying_access r q key szmic payload buf} {y = outside}
        (λ a. by_choice P whole {x = saying r q.element (access_header r q key szmic payload) buf}
        {y = starting r q.element (access_outgoing r q key szmic payload) buf} (said a) (started a))
        (λ _. refused refusal.OutsideRules refl))

  module _ (q : Request) (opcode : ℕ) (parameters : List ℕ) where
    abbrev fine : Bool
    fine = control.control_allowed r q opcode (length parameters)

    pub walk_control :
        (fine ≡ true → leb (length parameters) 11 ≡ true → P (saying r q.element (control_header r q opcode parameters) buf))
        → (fine ≡ true → leb (length parameters) 11 ≡ false → P (starting r q.element (control.outgoing_of r q opcode parameters) buf))
        → P (control.sending_control r q opcode parameters buf)
    unfolding control.sending_control control.saying_control
    walk_control said started =
        let h = control_header r q opcode parameters in
        by_choice P (ltb (length buf) pdu_octets) {x = short} {y = if fine then control.saying_control r q opcode parameters buf else outside} (λ _. refused refusal.ShortBuffer refl)
        (λ _. by_choice P fine {x = control.saying_control r q opcode parameters buf} {y = outside}
        (λ a. by_choice P (leb (length parameters) 11) {x = saying r q.element h buf} {y = starting r q.element (control.outgoing_of r q opcode parameters) buf}
        (said a) (started a))
        (λ _. refused refusal.OutsideRules refl))

  pub walk_segment :
      (n : ℕ)
      → (let element = element_at r.node r.out.src in
      (element < element_places → segment_allowed r element n ≡ true → P (saying r element (segment_header r.out n) buf)) → P (sending_segment r n buf))
  unfolding sending_segment sending_segment_from element_of
  walk_segment n said =
      let element = element_at r.node r.out.src in
      let sent = saying r element (segment_header r.out n) buf in
      let e = element_of r.node r.out.src in
      by_choice P (ltb (length buf) pdu_octets) {x = short} {y = sending_segment_from e r n buf} (λ _. refused refusal.ShortBuffer refl)
      (λ _. by_choice (λ (x : Option ℕ). P (sending_segment_from x r n buf)) (is_local r.node r.out.src) {x = Some element} {y = None}
      (λ t. by_choice P (segment_allowed r element n) {x = sent} {y = outside} (said (local_low r.node r.out.src t)) (λ _. refused refusal.OutsideRules refl))
      (λ _. refused refusal.OutsideRules refl))

  module _ (net src : ℕ) where
    walk_from :
        (c : Chosen)
        → (let element = element_at r.node c.dst in
        (element < element_places → P (saying r element (acknowledgement_header (sending_iv r.node) net src c) buf))
        → P (acknowledging_from (element_of r.node c.dst) r net src c buf))
    unfolding acknowledging_from saying_acknowledgement element_of
    walk_from c said =
        by_choice (λ (x : Option ℕ). P (acknowledging_from x r net src c buf)) (is_local r.node c.dst) {x = Some (element_at r.node c.dst)} {y = None}
        (λ t. said (local_low r.node c.dst t)) (λ _. refused refusal.OutsideRules refl)

    walk_as :
        (x : Option Chosen)
        → ((c : Chosen) → x ≡ Some c → is_unicast c.dst ≡ true
        → (let element = element_at r.node c.dst in
        element < element_places → P (saying r element (acknowledgement_header (sending_iv r.node) net src c) buf)))
        → P (acknowledging_as x r net src buf)
    unfolding acknowledging_as
    walk_as None said = refused refusal.OutsideRules refl
    walk_as (Some c) said =
        by_choice P (is_unicast c.dst) {x = acknowledging_from (element_of r.node c.dst) r net src c buf} {y = outside} (λ u. walk_from c (said c refl u))
        (λ _. refused refusal.OutsideRules refl)

    pub walk_acknowledge :
        ((c : Chosen) → chosen r.replay r.sessions src ≡ Some c → is_unicast c.dst ≡ true
        → (let element = element_at r.node c.dst in
        element < element_places → P (saying r element (acknowledgement_header (sending_iv r.node) net src c) buf)))
        → P (acknowledging r net src buf)
    unfolding acknowledging_by
    walk_acknowledge said =
        let x = chosen r.replay r.sessions src in
        by_choice P (ltb (length buf) pdu_octets) {x = short}
        {y = if ltb net (min r.node.networks network_key_places) then acknowledging_as x r net src buf else outside} (λ _. refused refusal.ShortBuffer refl)
        (λ _. by_choice P (ltb net (min r.node.networks network_key_places)) {x = acknowledging_as x r net src buf} {y = outside} (λ _. walk_as x said)
        (λ _. refused refusal.OutsideRules refl))

-- ---- where the tests pass
module _ (r : Receiver) (buf : List ℕ) (wide : pdu_octets ≤ length buf) where
  module _ (q : Request) (key : MessageKey) (szmic : Bool) (payload : List ℕ) (a : access_allowed r q key szmic (length payload) ≡ true) where
    pub access_whole : is_whole szmic (length payload) ≡ true → sending_access r q key szmic payload buf ≡ saying r q.element (access_header r q key szmic payload) buf
    unfolding sending_access saying_access
    access_whole w = rw (le-ltb (length buf) pdu_octets wide, a, w) refl

    pub access_begun :
        is_whole szmic (length payload) ≡ false
        → sending_access r q key szmic payload buf ≡ starting r q.element (access_outgoing r q key szmic payload) buf
    unfolding sending_access saying_access
    access_begun w = rw (le-ltb (length buf) pdu_octets wide, a, w) refl

  module _ (q : Request) (opcode : ℕ) (parameters : List ℕ) (a : control.control_allowed r q opcode (length parameters) ≡ true) where
    pub control_whole :
        leb (length parameters) 11 ≡ true
        → control.sending_control r q opcode parameters buf ≡ saying r q.element (control_header r q opcode parameters) buf
    unfolding control.sending_control control.saying_control
    control_whole w = rw (le-ltb (length buf) pdu_octets wide, a, w) refl

    pub control_begun :
        leb (length parameters) 11 ≡ false
        → control.sending_control r q opcode parameters buf ≡ starting r q.element (control.outgoing_of r q opcode parameters) buf
    unfolding control.sending_control control.saying_control
    control_begun w = rw (le-ltb (length buf) pdu_octets wide, a, w) refl

  pub segment_sent :
      (n element : ℕ) → is_local r.node r.out.src ≡ true → element_at r.node r.out.src ≡ element → segment_allowed r element n ≡ true
      → sending_segment r n buf ≡ saying r element (segment_header r.out n) buf
  unfolding sending_segment sending_segment_from element_of
  segment_sent n element own e a = rw (le-ltb (length buf) pdu_octets wide, own, e, a) refl

  -- of what is chosen
  module _ (net src : ℕ) (c : Chosen) (e : chosen r.replay r.sessions src ≡ Some c) where
    pub acknowledgement_sent :
        net < min r.node.networks network_key_places → is_unicast c.dst ≡ true → is_local r.node c.dst ≡ true
        → acknowledging r net src buf ≡ saying_acknowledgement r (element_at r.node c.dst) net src c buf
    unfolding acknowledging_by acknowledging_as acknowledging_from element_of
    acknowledgement_sent there unicast own =
        rw (e, le-ltb (length buf) pdu_octets wide, lt-ltb net (min r.node.networks network_key_places) there, unicast, own) refl

    -- it was not sent to a unicast address
    pub acknowledgement_not_unicast : is_unicast c.dst ≡ false → acknowledging r net src buf ≡ lent (refused_at r refusal.OutsideRules) buf
    unfolding acknowledging_by acknowledging_as
    acknowledgement_not_unicast other =
        by_test (ltb net (min r.node.networks network_key_places))
        (λ t. rw (e, le-ltb (length buf) pdu_octets wide, t, other) refl)
        (λ t. rw (le-ltb (length buf) pdu_octets wide, t) refl)

  -- ---- an acknowledgement is refused 14: the network key is not there, or nothing is chosen
  pub acknowledgement_no_key :
      (net src : ℕ) → min r.node.networks network_key_places ≤ net → acknowledging r net src buf ≡ lent (refused_at r refusal.OutsideRules) buf
  unfolding acknowledging_by
  acknowledgement_no_key net src past = rw (le-ltb (length buf) pdu_octets wide, le-ltb net (min r.node.networks network_key_places) past) refl

  pub acknowledgement_none :
      (net src : ℕ) → chosen r.replay r.sessions src ≡ None → acknowledging r net src buf ≡ lent (refused_at r refusal.OutsideRules) buf
  unfolding acknowledging_by acknowledging_as
  acknowledgement_none net src e =
      by_test (ltb net (min r.node.networks network_key_places))
      (λ t. rw (e, le-ltb (length buf) pdu_octets wide, t) refl)
      (λ t. rw (le-ltb (length buf) pdu_octets wide, t) refl)

-- ---- an acknowledgement is said as any header is
pub acknowledgement_said :
    (r : Receiver) (element net src : ℕ) (c : Chosen) (buf : List ℕ)
    → saying_acknowledgement r element net src c buf ≡ saying r element (acknowledgement_header (sending_iv r.node) net src c) buf
unfolding saying_acknowledgement
acknowledgement_said r element net src c buf = refl

-- ---- what is acknowledged of a source
-- no source is 0
pub chosen_zero : (replay : List Entry) (sessions : List Session) → chosen replay sessions 0 ≡ None
unfolding chosen_by
chosen_zero replay sessions = refl

module _ (replay : List Entry) (sessions : List Session) (src : ℕ) (z : src ≡ 0 → ⊥) where
  abbrev own : ℕ
  own = session_place sessions (record { src = src })

  pub chosen_session :
      (s : Session) → own < session_slots → session_at sessions (own) ≡ s
      → chosen replay sessions src ≡ Some (record { auth = s.auth; dst = s.terms.dst; bits = s.filled })
  unfolding chosen_by
  chosen_session s p held = rw (ne_eqb src 0 z, lt-ltb (own) session_slots p, held) refl

  module _ (e : Entry) (p : session_slots ≤ own) (held : look_up replay src ≡ e) where
    pub chosen_last :
        (e.last.dst ≡ 0 → ⊥) → chosen replay sessions src ≡ Some (record { auth = e.last.auth; dst = e.last.dst; bits = all_bits e.last.segn })
    unfolding chosen_by
    chosen_last d = rw (ne_eqb src 0 z, le-ltb own session_slots p, held, ne_eqb e.last.dst 0 d) refl

    pub chosen_none : e.last.dst ≡ 0 → chosen replay sessions src ≡ None
    unfolding chosen_by
    chosen_none d = rw (ne_eqb src 0 z, le-ltb own session_slots p, held, d) refl
