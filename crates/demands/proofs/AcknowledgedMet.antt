-- The premises of `AcknowledgementRead` hold of the instance. Numbers and addresses are computed; what the ciphers give is not. The box's message goes out, so it is kept as it was said; what is
-- kept else is what setup made, so nothing is in its cache and every message is admitted; and with one network key none is tried earlier. Assumes nothing.
use mathlib.Core.Bool.{Bool, true, false, false≢true}
use mathlib.Core.List.{List, [], ◌∷◌}
use mathlib.Core.Path.{◌≡◌, refl, sym, ap, ◌∙◌, subst}
use Prim.Native.Nat.{ℕ, ◌+◌, ◌^◌, ◌≤◌, ◌<◌}
use native.Mathlib.Omega.{arith}
use lib.ListN.{get_or, replicate}
use Rattle.std.specs.Prelude.{Ok}
use Rattle.common.specs.Bits.{has_bit, with_bit}
use Rattle.common.specs.Search.{first}
use Rattle.network.specs.declared.header.Header.{Header}
use Rattle.network.specs.Address.{kind_of, is_unicast}
use Rattle.network.specs.IvIndex.{iv_index_sent}
use Rattle.network.specs.Pdu.{pdu_octets}
use Rattle.transport.specs.declared.securing.MessageKey.TheVariants.{Application}
use Rattle.transport.specs.Segment.{message_octets}
use Rattle.memory.specs.declared.cache.Cache.{Cache}
use Rattle.memory.specs.declared.outgoing.Outgoing.{Outgoing}
use Rattle.memory.specs.declared.replay.Entry.{Entry}
use Rattle.memory.specs.declared.session.Terms.{Terms}
use Rattle.memory.specs.Cache.{seen}
use Rattle.node.specs.declared.addresses.Node.{Node}
use Rattle.node.specs.Addresses.{is_local}
use Rattle.node.specs.Made.{WellMade}
use Rattle.node.specs.Setup.{bound_within, keys_valid, next_within, elements_valid, groups_valid, index_valid, valid, network_key_at, material_at, bound_key_at, next_at, node_of, next_of, making}
use Rattle.receiver.specs.declared.state.Receiver.{Receiver}
use Rattle.receiver.specs.Fresh.{setting_up}
use Rattle.receiver.specs.Whole.{admission}
use Rattle.receiver.proofs.Good.{good_fresh}
use Rattle.receiver.proofs.Laws.Fixed.{fixed_heard}
use Rattle.receiver.proofs.Laws.Fresh.{fresh_unseen, fresh_admits}
use Rattle.sending.specs.declared.acknowledge.Chosen.{Chosen}
use Rattle.sending.specs.Access.{is_whole, size_allowed, access_allowed}
use Rattle.sending.specs.Acknowledge.{acknowledging}
use Rattle.sending.specs.Request.{request_allowed}
use Rattle.sending.specs.Segment.{element_at}
use Rattle.sending.specs.Transmission.{sending_iv, address_of, next_seq}
use Rattle.demands.specs.Acknowledged.{Speaker, OpensTo, Hears}
use Rattle.demands.specs.Call.{SendAccess, step, after}
use Rattle.demands.specs.GoesOut.{accepted, pdu_count}
use Rattle.demands.specs.Instance.{shed, humidity, boxes, arrival, so_far, behind_it, to_shed, box, speaking, acknowledgement, AcknowledgementMet}
use Rattle.demands.specs.Interleaved.{Event, Segment, Foreign, Ask, Own, Arrival, start, speech_at, call_as, call_of, calls, come, Each, behind, AskedOf}
use Rattle.demands.specs.ReadBack.{goes_whole, said_by, Shared}
use Rattle.demands.specs.Speech.{Words, Access, Speech, last_of, segment_pdu}
use Rattle.demands.proofs.Acknowledged.{head_is}
use Rattle.demands.proofs.AcknowledgementLaws as ack
use Rattle.demands.proofs.AskLaws.{address_of_law, asked_made}
use Rattle.demands.proofs.Begun.{last_most}
use Rattle.demands.proofs.GoesOut.{shared_itself, goes_out}
use Rattle.demands.proofs.Instance.{node, holds, scene_met}
use Rattle.demands.proofs.Interleaved.{acknowledges, seen_before}
use Rattle.demands.proofs.KeptLaws.{Kept, kept_own}
use Rattle.demands.proofs.SaidLaws as said
use Rattle.demands.proofs.SceneLaws.{Scenery, same_scene, filled_within}
use Rattle.demands.proofs.SpeechCut.{last_low}
use Rattle.demands.proofs.SentLaws.{sending_as, Way, Whole, Begun, way}

-- ---- the box speaks
abbrev words : Words
words = Access (Application 0) false (replicate 20 0x5a)

abbrev buf : List ℕ
buf = replicate pdu_octets 0

box_ready : (setting_up box).answer ≡ Ok tt
unfolding setting_up making valid keys_valid bound_within elements_valid next_within groups_valid index_valid first kind_of
box_ready = refl

shared : Shared (start box).node node
unfolding setting_up making valid keys_valid bound_within elements_valid next_within groups_valid index_valid first kind_of node_of bound_key_at network_key_at material_at
shared = record { networks_same = refl; materials_same = refl; applications_same = refl; appkeys_same = refl; device_same = refl; iv_same = refl }

request_accepted : accepted (start box) to_shed words ≡ true
unfolding setting_up making valid keys_valid bound_within elements_valid next_within groups_valid index_valid first kind_of node_of bound_key_at access_allowed request_allowed size_allowed is_whole
request_accepted = refl

-- it goes in segments
in_segments : goes_whole words ≡ false
unfolding is_whole
in_segments = refl

box_number : next_seq (start box) 0 ≡ 0x000100
unfolding setting_up making valid keys_valid bound_within elements_valid next_within groups_valid index_valid first kind_of next_of next_at
box_number = refl

numbers_left : next_seq (start box) 0 + pdu_count (start box).node (said_by (start box) to_shed words) ≤ 0x1000000
numbers_left =
    let good = good_fresh box box_ready in
    let own = (start box).node in
    let few = last_most (start box) good own (shared_itself own) to_shed words request_accepted in_segments good.node_made in
    let first = box_number in
    rw in_segments (omega arith)

-- what it says is the speech, an element of its own says it, and the shed's is none
record SaidAs : Type 0 where
  speech_is : said_by (start box) to_shed words ≡ humidity
  own_element : is_local (start box).node 0x0002 ≡ true
  other_element : is_local (start box).node 0x0001 ≡ false

said_as : SaidAs
unfolding setting_up making valid keys_valid bound_within elements_valid next_within groups_valid index_valid first kind_of node_of next_of next_at address_of sending_iv iv_index_sent is_local
said_as = record { speech_is = refl; own_element = refl; other_element = refl }

not_whole : is_whole false 20 ≡ true → ⊥
unfolding is_whole
not_whole e = false≢true e

speaker_by : Way (start box) to_shed words (sending_as (start box) to_shed words buf) → Speaker speaking node humidity
speaker_by (Whole a w s) = absurd (not_whole w)
speaker_by (Begun a w s) =
    let k = said.kept (start box) node shared to_shed words request_accepted in
    let is = said_as.speech_is in
    let out-is = ap (λ (r : Receiver). r.out) s.leaves in
    let node-is = ap (λ (r : Receiver). r.node) s.leaves in
    record {
      networks_same = ap (λ (n : Node). n.networks) node-is ∙ shared.networks_same;
      materials_same = ap (λ (n : Node). n.materials) node-is ∙ shared.materials_same;
      iv_same = ap (λ (n : Node). n.iv) node-is ∙ shared.iv_same;
      its_element = ap (λ (n : Node). is_local n 0x0002) node-is ∙ said_as.own_element;
      other_node = ap (λ (n : Node). is_local n 0x0001) node-is ∙ said_as.other_element;
      src_kept = ap (λ (o : Outgoing). o.src) out-is ∙ k.src_is ∙ ap (λ (s : Speech). s.src) is;
      dst_kept = ap (λ (o : Outgoing). o.terms.dst) out-is ∙ ap (λ (t : Terms). t.dst) k.terms_is;
      auth_kept = ap (λ (o : Outgoing). o.auth) out-is ∙ k.auth_is ∙ ap (λ (s : Speech). s.auth) is;
      segn_kept = ap (λ (o : Outgoing). o.terms.segn) out-is ∙ ap (λ (t : Terms). t.segn) k.terms_is ∙ ap (last_of node) is;
    }

speaks : Speaker speaking node humidity
speaks = speaker_by (way (start box) to_shed words buf (goes_out (start box) to_shed words buf (good_fresh box box_ready) request_accepted (omega arith) numbers_left).0)

stays : Kept (start box) speaking
stays = kept_own (start box) (SendAccess to_shed (Application 0) false (replicate 20 0x5a) buf) refl

-- ---- the shed acknowledges
abbrev r : Receiver
r = behind shed boxes so_far

seen_so : Scenery node boxes scene_met.0.spent r (λ k. come k so_far)
seen_so = seen_before shed boxes so_far (arrival (Ask 0 0x0002)) behind_it scene_met.0

asked : AskedOf node boxes so_far 0 0x0002 0
unfolding has_bit with_bit is_unicast kind_of
asked = let n = holds.one_network in record { one_of = omega arith; its_source = refl; some_come = λ e. omega arith; to_unicast_law = refl; key_there = omega arith }

-- hearing uses no number
abbrev is_heard : Event → Bool
is_heard (Segment k i seq ttl) = true
is_heard (Foreign pdu) = true
is_heard (Ask net src) = false
is_heard (Own c) = false

next_heard : (q : Receiver) (e : Event) (fwd msg : List ℕ) → is_heard e ≡ true → (step q (call_as node boxes e fwd msg)).receiver.next ≡ q.next
next_heard q (Segment k i seq ttl) fwd msg h = (fixed_heard q fwd msg (segment_pdu node (speech_at boxes k) i seq ttl)).next_stays
next_heard q (Foreign pdu) fwd msg h = (fixed_heard q fwd msg pdu).next_stays
next_heard q (Ask net src) fwd msg h = absurd (false≢true h)
next_heard q (Own c) fwd msg h = absurd (false≢true h)

next_behind : (q : Receiver) (l : List Arrival) → Each (λ a. is_heard a.event ≡ true) l → (after q (calls node boxes l)).next ≡ q.next
next_behind q [] e = refl
next_behind q (a ∷ l) e = next_behind (step q (call_of node boxes a)).receiver l e.1 ∙ next_heard q a.event a.forward a.message e.0

next_is : r.next ≡ (start shed).next
next_is = next_behind (start shed) so_far (refl, (refl, (refl, (refl, tt {0}))))

element_is : element_at node 0x0001 ≡ 0
unfolding setting_up making valid keys_valid bound_within elements_valid next_within groups_valid index_valid first kind_of node_of
element_is = refl

first_number : get_or (start shed).next 0 0 ≤ 0xFFFFFF
unfolding setting_up making valid keys_valid bound_within elements_valid next_within groups_valid index_valid first kind_of next_of next_at
first_number = omega arith

number_left : next_seq r (element_at node 0x0001) ≤ 0xFFFFFF
number_left = rw (element_is, next_is) first_number

made : acknowledgement.made ≡ true
made = (acknowledges shed boxes so_far 0 0x0002 buf (replicate message_octets 0) behind_it scene_met.0).goes_out 0 asked number_left

-- ---- the box hears it
abbrev element : ℕ
element = element_at node 0x0001

abbrev c : Chosen
c = record { auth = humidity.auth; dst = 0x0001; bits = come 0 so_far }

abbrev head : Header
head = ack.h r element 0 0x0002 c buf

abbrev sent : List ℕ
sent = ack.pdu r element 0 0x0002 c buf

abbrev message : List ℕ
message = replicate message_octets 0

well : WellMade node
well = (good_fresh shed scene_met.0.ready).node_made

it_made : ack.Made r element 0 0x0002 c buf (acknowledging r 0 0x0002 buf)
it_made = asked_made node well boxes scene_met.0.speakable scene_met.0.spent so_far r seen_so 0 0x0002 buf (omega arith) 0 asked made

from_shed : address_of r.node element ≡ 0x0001
from_shed = address_of_law node well boxes scene_met.0.speakable scene_met.0.spent so_far r seen_so 0 0x0002 buf (omega arith) 0 asked

opens_to_law : OpensTo speaking sent head
opens_to_law =
    let same = same_scene seen_so in
    let w = scene_met.0.speakable 0 (omega arith) in
    let there : 0 < r.node.networks = rw same asked.key_there in
    let last : last_of r.node humidity < 32 = rw same (last_low node humidity w) in
    let within : come 0 so_far < 2 ^ (last_of r.node humidity + 1) =
    rw same (filled_within node boxes scene_met.0.spent r (λ k. come k so_far) seen_so 0 w (omega arith)) in
    head_is r seen_so.good.node_made element 0 0x0002 humidity (come 0 so_far) buf there from_shed refl w.from_unicast asked.some_come last within speaking buf message
    (subst (λ (n : Node). Speaker speaking n humidity) (sym same) speaks) it_made.can (λ j h. absurd (omega arith))

opened_as : (h : Header) → OpensTo speaking sent h → h ≡ head
opened_as h o = cc (o, opens_to_law)

hears : Hears speaking node 0 sent buf message
hears =
    let some : head.src ≡ 0 → ⊥ = λ z. let one = sym from_shed ∙ z in omega arith in
    record {
      own_key_first = λ j h. absurd (omega arith);
      new =
          λ h o. ap (λ (x : Header). seen speaking.cache x) (opened_as h o) ∙ ap (λ (k : Cache). seen k head) stays.cache_stays ∙ fresh_unseen box head some;
      admits =
          λ h o. ap (λ (x : Header). admission speaking.replay x) (opened_as h o) ∙ ap (λ (l : List Entry). admission l head) stays.replay_stays ∙ fresh_admits box head;
      room_forward = omega arith;
      room_message = omega arith;
    }

pub acknowledgement_met : AcknowledgementMet
acknowledgement_met =
    let heard_as = subst (λ (p : List ℕ). Hears speaking node 0 p buf message) (sym it_made.pdu_is) hears in
    let opens = subst (λ (p : List ℕ). OpensTo speaking p head) (sym it_made.pdu_is) opens_to_law in
    (asked, made, speaks, heard_as, head, opens)
