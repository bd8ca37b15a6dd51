-- What a request has passed that is allowed: each test of the definitions, as a fact. Assumes nothing.
--   Asked, ttl_low                        the request itself; its TTL has 7 bits
--   access_allows, control_allows         the message besides
--   application_there                     an application key that may be used is there, and bound to the network key
--   whole_short                           a message that goes whole is short
--   access_alone, control_alone           a segmented message is begun where none is kept
--   address_plain, label_is_virtual       an address that may be sent to is not virtual; a label's is
--   unicast_.., address_bare              the device key's messages go to a unicast address; to an address goes no additional data
--   sendable_allowed                      the DST of a destination that may be sent to is one that may be sealed
--   asked_spared                          and is not reserved
--   segment_allowed_law, segment_allows   a segment is allowed where its tests pass, and there alone
use mathlib.Core.Bool.{Bool, true, false, ◌||◌, not, false≢true}
use mathlib.Core.Logic.{◌⊎◌, inl, inr, ⊎_elim}
use mathlib.Core.List.{[]}
use mathlib.Core.Path.{◌≡◌, refl, ap}
use Prim.Native.Nat.{ℕ, ◌+◌, ◌≤◌, ◌<◌, min}
use native.Mathlib.Omega.{arith}
use borrow.Author.Tests.{eqb-true, ne_eqb, ltb-true, leb-true, le-leb}
use lib.Dec.{eqb, leb, ltb}
use Rattle.std.specs.Prelude.{Option, None, Some}
use Rattle.common.specs.Bits.{has_bit}
use Rattle.common.proofs.Tests.{and_first, and_second}
use Rattle.keys.proofs.Widths.{label_virtual}
use Rattle.modes.specs.Ccm.{mic_octets}
use Rattle.network.specs.declared.address.AddressKind.{AddressKind}
use Rattle.network.specs.declared.address.AddressKind.TheVariants as address
use Rattle.network.specs.Address.{kind_of, is_unicast, is_reserved, destination_kind}
use Rattle.network.proofs.AddressLaws.{kind_in, not_reserved}
use Rattle.network.specs.Candidates.{network_key_places}
use Rattle.node.specs.declared.addresses.Node.{Node}
use Rattle.transport.specs.declared.securing.MessageKey.{MessageKey}
use Rattle.transport.specs.declared.securing.MessageKey.TheVariants.{Application}
use Rattle.transport.specs.Securing.{application_key_places, label_places, trans_mic, application_key_at, label_at, virtual_kind, is_virtual}
use Rattle.transport.specs.Segment.{message_octets}
use Rattle.node.specs.Addresses.{element_places}
use Rattle.node.specs.Made.{WellMade}
use Rattle.receiver.specs.declared.state.Receiver.{Receiver}
use Rattle.sending.specs.declared.request.Destination.{Destination}
use Rattle.sending.specs.declared.request.Destination.TheVariants.{Address, Label}
use Rattle.sending.specs.declared.request.Request.{Request}
use Rattle.sending.specs.Access.{key_allowed, is_whole, size_allowed, access_allowed}
use Rattle.sending.specs.Control.{control_allowed}
use Rattle.sending.specs.Request.{ttl_of, ttl_allowed, sendable_kind, dst_of, additional_for, destination_allowed, to_unicast, to_address, request_allowed}
use Rattle.sending.specs.Segment.{segment_allowed}
use Rattle.sending.specs.Transmission.{next_seq}

-- the element and the network key are there; destination and TTL may be sent to and with
pub record Asked (node : Node) (q : Request) : Type 0 where
  pub element_there : q.element < min node.elements element_places
  pub network_there : q.network < min node.networks network_key_places
  pub sendable : destination_allowed node q.dst ≡ true
  pub ttl_allowed_law : ttl_allowed q.ttl ≡ true

asked : (node : Node) (q : Request) → request_allowed node q ≡ true → Asked node q
unfolding request_allowed
asked node q e =
    let element = ltb q.element (min node.elements element_places) in
    let network = ltb q.network (min node.networks network_key_places) in
    let e1 = and_second element _ e in
    let e2 = and_second network _ e1 in
    record {
      element_there = ltb-true q.element (min node.elements element_places) (and_first element _ e);
      network_there = ltb-true q.network (min node.networks network_key_places) (and_first network _ e1);
      sendable = and_first (destination_allowed node q.dst) _ e2;
      ttl_allowed_law = and_second (destination_allowed node q.dst) _ e2;
    }

pub ttl_low : (t : Option ℕ) → ttl_allowed t ≡ true → ttl_of t ≤ 127
ttl_low None e = omega arith
ttl_low (Some n) e = leb-true n 127 (and_second (not (eqb n 1)) (leb n 127) e)

-- ---- an access message: its key may be used, and its payload has an octet and leaves room for the TransMIC
pub record AccessAllowed (node : Node) (q : Request) (key : MessageKey) (szmic : Bool) (len : ℕ) : Type 0 where
  pub asks : Asked node q
  pub key_allowed_law : key_allowed node q key ≡ true
  pub some_payload : 1 ≤ len
  pub payload_most : len + mic_octets (trans_mic szmic) ≤ message_octets

size_some : (szmic : Bool) (len : ℕ) → size_allowed szmic len ≡ true → 1 ≤ len
unfolding size_allowed
size_some szmic len e = leb-true 1 len (and_first (leb 1 len) _ e)

size_most : (szmic : Bool) (len : ℕ) → size_allowed szmic len ≡ true → len + mic_octets (trans_mic szmic) ≤ message_octets
unfolding size_allowed
size_most true len e = let m = leb-true len 376 (and_second (leb 1 len) _ e) in omega arith
size_most false len e = let m = leb-true len 380 (and_second (leb 1 len) _ e) in omega arith

pub access_allows :
    (r : Receiver) (q : Request) (key : MessageKey) (szmic : Bool) (len : ℕ) → access_allowed r q key szmic len ≡ true → AccessAllowed r.node q key szmic len
unfolding access_allowed
access_allows r q key szmic len e =
    let e1 = and_second (request_allowed r.node q) _ e in
    let sized = and_first (size_allowed szmic len) _ (and_second (key_allowed r.node q key) _ e1) in
    record {
      asks = asked r.node q (and_first (request_allowed r.node q) _ e);
      key_allowed_law = and_first (key_allowed r.node q key) _ e1;
      some_payload = size_some szmic len sized;
      payload_most = size_most szmic len sized;
    }

-- an application key that may be used is there, and bound to the network key named
pub application_there :
    (node : Node) (q : Request) (i : ℕ) → key_allowed node q (Application i) ≡ true
    → (i < min node.applications application_key_places) × ((application_key_at node.appkeys i).bound ≡ q.network)
application_there node q i e =
    let there = ltb i (min node.applications application_key_places) in
    let bound = (application_key_at node.appkeys i).bound in
    (ltb-true i (min node.applications application_key_places) (and_first there _ e), eqb-true bound q.network (and_second there _ e))

-- one that goes whole has the TransMIC of 4 octets, and 11 octets at most
pub whole_short : (szmic : Bool) (len : ℕ) → is_whole szmic len ≡ true → (szmic ≡ false) × (len ≤ 11)
unfolding is_whole
whole_short true len e = absurd (false≢true e)
whole_short false len e = (refl, leb-true len 11 e)

-- ---- a control message: it goes to an address, its opcode is 0x01-0x7F, and it has at most 256 parameters
pub record ControlAllowed (node : Node) (q : Request) (opcode len : ℕ) : Type 0 where
  pub asks : Asked node q
  pub no_label : to_address q.dst ≡ true
  pub opcode_least : 1 ≤ opcode
  pub opcode_most : opcode ≤ 0x7F
  pub parameters_most : len ≤ 256

pub control_allows :
    (r : Receiver) (q : Request) (opcode len : ℕ) → control_allowed r q opcode len ≡ true → ControlAllowed r.node q opcode len
unfolding control_allowed
control_allows r q opcode len e =
    let e0 = and_second (request_allowed r.node q) _ e in
    let e1 = and_second (to_address q.dst) _ e0 in
    let e2 = and_second (leb 1 opcode) _ e1 in
    let e3 = and_second (leb opcode 0x7F) _ e2 in
    record {
      asks = asked r.node q (and_first (request_allowed r.node q) _ e);
      no_label = and_first (to_address q.dst) _ e0;
      opcode_least = leb-true 1 opcode (and_first (leb 1 opcode) _ e1);
      opcode_most = leb-true opcode 0x7F (and_first (leb opcode 0x7F) _ e2);
      parameters_most = leb-true len 256 (and_first (leb len 256) _ e3);
    }

-- ---- a segmented message is begun where none is kept
pub access_alone :
    (r : Receiver) (q : Request) (key : MessageKey) (szmic : Bool) (len : ℕ) → access_allowed r q key szmic len ≡ true → is_whole szmic len ≡ false → r.out.src ≡ 0
unfolding access_allowed
access_alone r q key szmic len a w =
    let e1 = and_second (request_allowed r.node q) _ a in
    let e2 = and_second (key_allowed r.node q key) _ e1 in
    let e3 : is_whole szmic len || eqb r.out.src 0 ≡ true = and_second (size_allowed szmic len) _ e2 in
    eqb-true r.out.src 0 (rw w at e3)

pub control_alone : (r : Receiver) (q : Request) (opcode len : ℕ) → control_allowed r q opcode len ≡ true → leb len 11 ≡ false → r.out.src ≡ 0
unfolding control_allowed
control_alone r q opcode len a w =
    let e0 = and_second (request_allowed r.node q) _ a in
    let e1 = and_second (to_address q.dst) _ e0 in
    let e2 = and_second (leb 1 opcode) _ e1 in
    let e3 = and_second (leb opcode 0x7F) _ e2 in
    let e4 : leb len 11 || eqb r.out.src 0 ≡ true = and_second (leb len 256) _ e3 in
    eqb-true r.out.src 0 (rw w at e4)

-- ---- a destination that may be sent to: a unicast address, a group, or a label held, whose address is virtual
only_sendable : (k : AddressKind) → sendable_kind k ≡ true → (k ≡ address.Unicast) ⊎ (k ≡ address.Group)
only_sendable address.Unassigned e = absurd (false≢true e)
only_sendable address.Unicast e = inl refl
only_sendable address.Virtual e = absurd (false≢true e)
only_sendable address.Group e = inr refl
only_sendable address.Reserved e = absurd (false≢true e)

-- an address that is given as a number is not virtual
pub address_plain : (node : Node) (a : ℕ) → destination_allowed node (Address a) ≡ true → is_virtual a ≡ false
unfolding is_virtual
address_plain node a e = ⊎_elim (ap virtual_kind) (ap virtual_kind) (only_sendable (kind_of a) e)

-- the device key's messages go to a unicast address, with no additional data
pub unicast_dst : (node : Node) (d : Destination) → to_unicast d ≡ true → is_unicast (dst_of node d) ≡ true
unicast_dst node (Address a) e = e
unicast_dst node (Label j) e = absurd (false≢true e)

pub address_bare : (node : Node) (d : Destination) → to_address d ≡ true → additional_for node d ≡ []
address_bare node (Address a) e = refl
address_bare node (Label j) e = absurd (false≢true e)

pub unicast_no_label : (d : Destination) → to_unicast d ≡ true → to_address d ≡ true
unicast_no_label (Address a) e = refl
unicast_no_label (Label j) e = absurd (false≢true e)

module _ (node : Node) (made : WellMade node) where
  label_kind : (j : ℕ) → destination_allowed node (Label j) ≡ true → kind_of (label_at node.labels j).address ≡ address.Virtual
  label_kind j e =
      let h = ltb-true j (min node.labelled label_places) e in
      let v = label_virtual (label_at node.labels j).octets in
      kind_in address.Virtual (label_at node.labels j).address (rw (made.label_derived j (omega arith)) v)

  -- a label's address is virtual
  pub label_is_virtual : (j : ℕ) → destination_allowed node (Label j) ≡ true → is_virtual (label_at node.labels j).address ≡ true
  unfolding is_virtual
  label_is_virtual j e = ap virtual_kind (label_kind j e)

  -- the DST passes refusal 4's rule, of a control message where it is no label's
  pub sendable_allowed :
      (d : Destination) (ctl : Bool) → (ctl ≡ true → to_address d ≡ true) → destination_allowed node d ≡ true → destination_kind ctl (kind_of (dst_of node d)) ≡ true
  sendable_allowed (Address a) ctl n e = ⊎_elim (ap (destination_kind ctl)) (ap (destination_kind ctl)) (only_sendable (kind_of a) e)
  sendable_allowed (Label j) true n e = absurd (false≢true (n refl))
  sendable_allowed (Label j) false n e = ap (destination_kind false) (label_kind j e)

-- and is not reserved: of a label, whose address is derived from it, where setup made the node
sendable_spared : (node : Node) (d : Destination) → (to_address d ≡ false → WellMade node) → destination_allowed node d ≡ true → is_reserved (dst_of node d) ≡ false
sendable_spared node (Address a) made e =
    ⊎_elim (λ k. not_reserved a address.Unicast k refl) (λ k. not_reserved a address.Group k refl) (only_sendable (kind_of a) e)
sendable_spared node (Label j) made e = not_reserved (label_at node.labels j).address address.Virtual (label_kind node (made refl) j e) refl

pub asked_spared : {node : Node} {q : Request} → (to_address q.dst ≡ false → WellMade node) → Asked node q → is_reserved (dst_of node q.dst) ≡ false
asked_spared {node = node} {q = q} made a = sendable_spared node q.dst made a.sendable

-- ---- a segment: a message is kept, it is one of it and not yet heard, and the SEQ is at most 8,191 after that of segment 0
pub segment_allowed_law :
    (r : Receiver) (element n : ℕ) → (r.out.src ≡ 0 → ⊥) → n ≤ r.out.terms.segn → n ≤ 31 → has_bit r.out.heard n ≡ false
    → next_seq r element ≤ r.out.auth.seq + 8191 → segment_allowed r element n ≡ true
unfolding segment_allowed
segment_allowed_law r element n z last low unheard near =
    rw (
      ne_eqb r.out.src 0 z,
      le-leb n r.out.terms.segn last,
      le-leb n 31 low,
      unheard,
      le-leb (next_seq r element) (r.out.auth.seq + 8191) near,
    ) refl

-- and where it is allowed, it is one of the message, and its SEQ is near
pub record SegmentAllows (r : Receiver) (element n : ℕ) : Type 0 where
  pub segment_there : n ≤ r.out.terms.segn
  pub near : next_seq r element ≤ r.out.auth.seq + 8191

pub segment_allows : (r : Receiver) (element n : ℕ) → segment_allowed r element n ≡ true → SegmentAllows r element n
unfolding segment_allowed
segment_allows r element n e =
    let e1 = and_second (not (eqb r.out.src 0)) _ e in
    let e2 = and_second (leb n r.out.terms.segn) _ e1 in
    let e3 = and_second (leb n 31) _ e2 in
    record {
      segment_there = leb-true n r.out.terms.segn (and_first (leb n r.out.terms.segn) _ e1);
      near = leb-true (next_seq r element) (r.out.auth.seq + 8191) (and_second (not (has_bit r.out.heard n)) _ e3);
    }
