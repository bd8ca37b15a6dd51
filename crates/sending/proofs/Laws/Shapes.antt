-- What a message is sent and kept as. A transport PDU goes out in the header of the request, with what its element stamps on; a message in segments is kept with its octets,
-- and each of its segments is the four octets in front and a chunk of them. Assumes nothing.
--   header_sent                           the header of a transport PDU, as an element sends it
--   whole_access_law, whole_control_law   a message that goes in one PDU is sent so
--   segment_out                           and so is each segment of the message that is kept
--   acknowledgement_long, _out            and an acknowledgement, of seven octets
--   segment_unheard                       whatever of it is heard
--   Keeps, keeps_access, keeps_control    what is kept of a message in segments
--   envelope_is                           what the second nonce rests on
use mathlib.Core.Bool.{Bool, true, false}
use mathlib.Core.List.{List, ◌∷◌}
use mathlib.Core.Path.{◌≡◌, refl}
use Prim.Native.Nat.{ℕ, ◌%◌, ◌≤◌}
use native.Mathlib.Omega.{arith}
use lib.ListN.{length, get_or, take, length-append}
use Rattle.common.specs.Lists.{padded}
use Rattle.common.proofs.Lists.{length_tab}
use Rattle.network.specs.declared.header.Header.{Header}
use Rattle.network.specs.Octets.{octets}
use Rattle.network.proofs.OctetsLaws.{length_octets}
use Rattle.network.proofs.TrialLaws.{take_padded}
use Rattle.transport.specs.declared.securing.Envelope.{Envelope}
use Rattle.transport.specs.Securing.{secured}
use Rattle.transport.specs.Segment.{message_octets, access_octet, control_octet, full_octets, last_segment, segment_at, acknowledgement_number, acknowledgement_octets}
use Rattle.memory.specs.declared.outgoing.Outgoing.{Outgoing}
use Rattle.memory.specs.declared.pair.Pair.{Pair}
use Rattle.memory.specs.declared.session.Terms.{Terms}
use Rattle.memory.specs.Outgoing.{with_heard}
use Rattle.receiver.specs.declared.state.Receiver.{Receiver}
use Rattle.sending.specs.declared.access.KeyUsed.{KeyUsed}
use Rattle.sending.specs.declared.acknowledge.Chosen.{Chosen}
use Rattle.sending.specs.declared.request.Request.{Request}
use Rattle.sending.specs.Access.{envelope_of, whole_pdu, whole_header, outgoing_of}
use Rattle.sending.specs.Acknowledge.{acknowledgement_header}
use Rattle.sending.specs.Control as control
use Rattle.sending.specs.Request.{unnamed_ttl, ttl_of, dst_of}
use Rattle.sending.specs.Segment.{segment_pdu, segment_header}
use Rattle.sending.specs.Transmission.{sending_iv, address_of, next_seq, stamped}

-- an acknowledgement has seven octets
pub acknowledgement_long : (obo : Bool) (seq_zero bits : ℕ) → length (acknowledgement_octets obo seq_zero bits) ≡ 7
unfolding acknowledgement_octets
acknowledgement_long obo seq_zero bits =
    let n = acknowledgement_number obo seq_zero in
    let e = length-append (octets 2 n) (octets 4 bits) in
    let two = length_octets 2 n in
    let four = length_octets 4 bits in
    omega arith

-- ---- as it is sent
module _ (r : Receiver) (element : ℕ) where
  -- the element's next SEQ and address, and the transport PDU in an array of 16
  abbrev pub header_sent : (key iv : ℕ) (ctl : Bool) (ttl dst : ℕ) → List ℕ → Header
  header_sent key iv ctl ttl dst pdu =
      record {
        key = key;
        iv = iv;
        ctl = ctl;
        ttl = ttl;
        seq = next_seq r element;
        src = address_of r.node element;
        dst = dst;
        len = length pdu;
        transport = padded 16 pdu;
      }

  -- SEG 0, AKF, AID; then the secured message
  pub whole_access_law :
      (e : Envelope) (q : Request) (k : KeyUsed) (additional payload : List ℕ)
      → stamped r element (whole_header e q k additional payload)
      ≡ header_sent q.network e.iv false (ttl_of q.ttl) e.dst (access_octet false k.akf k.aid ∷ secured k.key e additional payload)
  unfolding stamped whole_header whole_pdu
  whole_access_law e q k additional payload = refl

  -- SEG 0, opcode; then the parameters
  pub whole_control_law :
      (iv : ℕ) (q : Request) (dst opcode : ℕ) (parameters : List ℕ)
      → stamped r element (control.whole_header iv q dst opcode parameters)
      ≡ header_sent q.network iv true (ttl_of q.ttl) dst (control_octet false opcode ∷ parameters)
  unfolding stamped control.whole_header
  whole_control_law iv q dst opcode parameters = refl

  -- octet 0, SZMIC, SeqZero, SegO, SegN; then chunk SegO of what is kept
  pub segment_out :
      (o : Outgoing) (seg_o : ℕ)
      → (let t = o.terms in
      stamped r element (segment_header o seg_o)
      ≡ header_sent t.key o.auth.iv t.ctl o.ttl t.dst
      (segment_at (full_octets t.ctl) t.first t.szmic (o.auth.seq % 8192) t.segn (take o.len o.bytes) seg_o))
  unfolding stamped segment_header segment_pdu
  segment_out o seg_o = refl

  -- the seven octets of an acknowledgement, OBO 0
  pub acknowledgement_out :
      (iv net src : ℕ) (c : Chosen)
      → stamped r element (acknowledgement_header iv net src c)
      ≡ header_sent net iv true unnamed_ttl src (acknowledgement_octets false (c.auth.seq % 8192) c.bits)
  unfolding stamped acknowledgement_header
  acknowledgement_out iv net src c = rw (acknowledgement_long false (c.auth.seq % 8192) c.bits) refl

-- what is heard of a message is no part of its segments
pub segment_unheard : (o : Outgoing) (heard seg_o : ℕ) → segment_header (with_heard o heard) seg_o ≡ segment_header o seg_o
unfolding segment_header segment_pdu
segment_unheard o heard seg_o = refl

-- ---- as it is kept
-- whose it is, its SeqAuth, what its segments have in common, its TTL, its octets; nothing of it is acknowledged yet
pub record Keeps (o : Outgoing) (src : ℕ) (auth : Pair) (terms : Terms) (ttl : ℕ) (octets : List ℕ) : Type 0 where
  pub src_is : o.src ≡ src
  pub auth_is : o.auth ≡ auth
  pub terms_is : o.terms ≡ terms
  pub ttl_is : o.ttl ≡ ttl
  pub unheard : o.heard ≡ 0
  pub len_is : o.len ≡ length octets
  pub places : length o.bytes ≡ message_octets
  pub octets_are : length octets ≤ message_octets → take o.len o.bytes ≡ octets

padded_long : (m : List ℕ) → length (padded message_octets m) ≡ message_octets
padded_long m = length_tab (λ i. get_or m i 0) message_octets

-- SegN is one less than the chunks of 12
pub keeps_access :
    (e : Envelope) (q : Request) (k : KeyUsed) (additional payload : List ℕ)
    → (let m = secured k.key e additional payload in
    Keeps (outgoing_of e q k additional payload) e.src (record { iv = e.iv; seq = e.seq })
    (record {
      ctl = false;
      first = access_octet true k.akf k.aid;
      szmic = e.szmic;
      segn = last_segment 12 (length m);
      dst = e.dst;
      key = q.network;
    }) (ttl_of q.ttl) m)
unfolding outgoing_of
keeps_access e q k additional payload =
    let m = secured k.key e additional payload in
    record { src_is = refl; auth_is = refl; terms_is = refl; ttl_is = refl; unheard = refl; len_is = refl; places = padded_long m; octets_are = take_padded message_octets m }

-- or of 8
pub keeps_control :
    (r : Receiver) (q : Request) (opcode : ℕ) (parameters : List ℕ)
    → Keeps (control.outgoing_of r q opcode parameters) (address_of r.node q.element) (record { iv = sending_iv r.node; seq = next_seq r q.element })
    (record {
      ctl = true;
      first = control_octet true opcode;
      szmic = false;
      segn = last_segment 8 (length parameters);
      dst = dst_of r.node q.dst;
      key = q.network;
    }) (ttl_of q.ttl) parameters
unfolding control.outgoing_of
keeps_control r q opcode parameters =
    let m = parameters in
    record { src_is = refl; auth_is = refl; terms_is = refl; ttl_is = refl; unheard = refl; len_is = refl; places = padded_long m; octets_are = take_padded message_octets m }

-- ---- the second nonce: what is stamped on the first PDU
pub envelope_is :
    (r : Receiver) (q : Request) (k : KeyUsed) (szmic : Bool)
    → envelope_of r q k szmic
    ≡ record {
      network = q.network;
      akf = k.akf;
      aid = k.aid;
      szmic = szmic;
      iv = sending_iv r.node;
      seq = next_seq r q.element;
      src = address_of r.node q.element;
      dst = dst_of r.node q.dst;
    }
unfolding envelope_of
envelope_is r q k szmic = refl
