-- The PDUs made of a message in segments, heard in any order: a scene of demand 3 with one speaker, whatever TTL a relay left, so each is answered as demand 3 has it. Assumes nothing.
--   each_read      what each hearing hands up, stores and counts
--   each_within    none is a segment past SegN
use mathlib.Core.Bool.{false, true≢false}
use mathlib.Core.List.{List, [], ◌∷◌}
use mathlib.Core.Path.{◌≡◌, refl, sym, ◌∙◌, subst}
use Prim.Native.Nat.{ℕ, zero, suc, ◌≤◌, ◌<◌}
use native.Mathlib.Omega.{arith}
use lib.ListN.{length}
use Rattle.std.specs.Prelude.{Ok}
use Rattle.common.specs.Bits.{with_bit}
use Rattle.network.specs.Candidates.{key_at}
use Rattle.network.specs.Pdu.{pdu_octets}
use Rattle.network.proofs.Sealed.{within}
use Rattle.transport.specs.Segment.{message_octets}
use Rattle.node.specs.declared.addresses.Node.{Node}
use Rattle.node.specs.declared.setup.Setup.{Setup}
use Rattle.node.specs.Addresses.{is_local}
use Rattle.node.specs.Made.{WellMade}
use Rattle.receiver.specs.declared.state.Receiver.{Receiver}
use Rattle.receiver.specs.Fresh.{setting_up}
use Rattle.receiver.proofs.Good.{good_fresh}
use Rattle.demands.specs.Call.{Hear, Outcome, step}
use Rattle.demands.specs.Interleaved as scene
use Rattle.demands.specs.Interleaved.{Event, Segment, Foreign, Spent, start, node_of, speech_at, come_with, Comes, Each}
use Rattle.demands.specs.ReadBack.{goes_whole, Piece, Incoming, Made, Relayed, Unopened, Hearing, piece_at, relayed_with}
use Rattle.demands.specs.ReadBack.{pdu_heard, hear_call, came_with, OwnKeyFirst, ComesAs, Hears, Reads, ReadsAs, ReadsEach}
use Rattle.demands.specs.Speech.{Speech, last_of, header_of, segment_pdu, Speakable}
use Rattle.demands.proofs.ArrivalLaws as arrival
use Rattle.demands.proofs.ArrivalLaws.{Next, event_next}
use Rattle.demands.proofs.Pieces.{Law, Laws, number_at, place_law, spent_on, spent_is}
use Rattle.demands.proofs.ReadOnce.{Within, AllWithin}
use Rattle.demands.proofs.RelayLaws.{relayed_sealed}
use Rattle.demands.proofs.SceneLaws.{Scenery, begins}
use Rattle.demands.proofs.SpeechSegment.{formed}

module _ (setup : Setup) (ready : (setting_up setup).answer ≡ Ok tt) (s : Speech) (speaks : Speakable (node_of setup) s) (other : is_local (node_of setup) s.src ≡ false)
    (cut : goes_whole s.words ≡ false) (ttl : ℕ) (ttl_fits : ttl ≤ 127) (ps : List Piece) (laws : Laws (node_of setup) s ttl s.auth.seq ps) where
  abbrev node : Node
  node = node_of setup

  abbrev one : List Speech
  one = s ∷ []

  abbrev last : ℕ
  last = last_of node s

  abbrev segment : ℕ → ℕ
  segment i = (piece_at ps i).segment

  abbrev number : ℕ → ℕ
  number i = number_at node s ttl ps s.auth.seq laws i

  -- the sender's book
  abbrev spent : Spent
  spent k n = spent_on node s ttl ps s.auth.seq laws n

  one_speaks : (k : ℕ) → k < 1 → Speakable node (speech_at one k)
  one_speaks zero h = speaks
  one_speaks (suc k) h = absurd (omega arith)

  one_other : (k : ℕ) → k < 1 → is_local node (speech_at one k).src ≡ false
  one_other zero h = other
  one_other (suc k) h = absurd (omega arith)

  -- ---- the PDU at a place
  module _ (i : ℕ) (there : i < length ps) where
    law : Law node s ttl s.auth.seq (number i) (piece_at ps i)
    law = place_law node s ttl ps s.auth.seq laws i there

    -- passed on, it is the segment with another TTL
    relayed_is : (t : ℕ) → relayed_with node s (piece_at ps i).pdu t ≡ segment_pdu node s (segment i) (number i) t
    unfolding header_of
    relayed_is t =
        let h = header_of node s (segment i) (number i) ttl in
        let whole = formed node s speaks (segment i) law.of.segment_there (number i) ttl in
        relayed_sealed node s h (piece_at ps i).pdu refl refl law.of.pdu_is law.of.can whole t

    sent_with : (t : ℕ) → t ≤ 127 → OwnKeyFirst node s (segment_pdu node s (segment i) (number i) t) → scene.Sent node one spent 0 (segment i) (number i) t
    unfolding header_of
    sent_with t fits first =
        let bounds = within (key_at node.materials s.network) (header_of node s (segment i) (number i) ttl) law.of.can in
        record {
          one_of = omega arith;
          segment_there = law.of.segment_there;
          number_spent = spent_is node s ttl ps s.auth.seq laws i there;
          in_time = record { later = law.from; near = law.of.near };
          seq_fits = bounds.seq_fits;
          ttl_fits = fits;
          own_key_first = record { held = speaks.held; near = speaks.near; none_before = first };
        }

  -- ---- one hearing, in the middle of the scene
  made : WellMade node
  made = (good_fresh setup ready).node_made

  -- what it is to leave: this of the outcome, and these segments come
  record Steps (r : Receiver) (Left : Outcome → Type 0) (bits : ℕ) (pdu fwd msg : List ℕ) : Type 0 where
    reads : Left (step r (Hear pdu fwd msg))
    more : ℕ → ℕ
    more_is : more 0 ≡ bits
    scenery : Scenery node one spent (step r (Hear pdu fwd msg)).receiver more

  module _ (r : Receiver) (filled : ℕ → ℕ) (sc : Scenery node one spent r filled) (fwd msg : List ℕ) (wide : pdu_octets ≤ length fwd) (big : message_octets ≤ length msg) where
    next : (e : Event) → Comes node one spent e → Next node one spent r filled e (scene.call_as node one e fwd msg)
    next = event_next node one spent made (omega arith) one_speaks (λ j k hj hk _. omega arith) r filled sc fwd msg wide big

    -- a segment, with any TTL
    copy_steps :
        (i : ℕ) → i < length ps → (t : ℕ) → t ≤ 127 → (pdu : List ℕ) → pdu ≡ segment_pdu node s (segment i) (number i) t → OwnKeyFirst node s pdu
        → Steps r (Reads node s last (filled 0) (segment i)) (with_bit (filled 0) (segment i)) pdu fwd msg
    copy_steps i there t fits pdu e first =
        let event = Segment 0 (segment i) (number i) t in
        let x = next event (sent_with i there t fits (subst (OwnKeyFirst node s) e first)) in
        subst (λ (p : List ℕ). Steps r (Reads node s last (filled 0) (segment i)) (with_bit (filled 0) (segment i)) p fwd msg) (sym e)
        (record {
          reads =
              record {
                hands = arrival.hands x;
                stores = λ new missing. arrival.stores x new (rw new at missing);
                again = λ w _. absurd (true≢false (sym w ∙ cut));
                counts = arrival.counts x;
              };
          more = λ k. come_with k (filled k) event;
          more_is = refl;
          scenery = x.scenery;
        })

    hearing_steps : (w : Incoming) → ComesAs node s ps w → Steps r (ReadsAs node s ps last (filled 0) w) (came_with ps (filled 0) w) (pdu_heard node s ps w) fwd msg
    hearing_steps (Made i) v = let there = v.place_there in copy_steps i there ttl ttl_fits _ (law i there).of.pdu_is v.own_key_first
    hearing_steps (Relayed i t) v = let there = v.0.place_there in copy_steps i there t v.1 _ (relayed_is i there t) v.0.own_key_first
    hearing_steps (Unopened pdu) v =
        let x = next (Foreign pdu) v in
        record { reads = arrival.hands x; more = λ k. come_with k (filled k) (Foreign pdu); more_is = refl; scenery = x.scenery }

  -- ---- all of them
  reads_from : (l : List Hearing) → Each (Hears node s ps) l → (r : Receiver) (filled : ℕ → ℕ) → Scenery node one spent r filled → ReadsEach node s ps last r (filled 0) l
  reads_from [] e r filled sc = tt {0}
  reads_from (h ∷ l) e r filled sc =
      let x = hearing_steps r filled sc h.forward h.message e.0.room_forward e.0.room_message h.what e.0.comes in
      let q = (step r (hear_call node s ps h)).receiver in
      (x.reads, subst (λ (b : ℕ). ReadsEach node s ps last q b l) x.more_is (reads_from l e.1 q x.more x.scenery))

  pub each_read : (l : List Hearing) → Each (Hears node s ps) l → ReadsEach node s ps last (start setup) 0 l
  each_read l e = reads_from l e (start setup) (λ _. 0) (begins setup ready one spent one_speaks one_other)

  within_as : (w : Incoming) → ComesAs node s ps w → Within ps last w
  within_as (Made i) v = (law i v.place_there).of.segment_there
  within_as (Relayed i t) v = (law i v.0.place_there).of.segment_there
  within_as (Unopened pdu) v = tt {0}

  pub each_within : (l : List Hearing) → Each (Hears node s ps) l → AllWithin ps last l
  each_within [] e = tt {0}
  each_within (h ∷ l) e = (within_as h.what e.0.comes, each_within l e.1)
