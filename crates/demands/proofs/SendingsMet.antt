-- The premises of demand 2 hold of each message. A sender that has the shed's keys, whose request is accepted and which has numbers left, sends it in full, so the PDU at a place is the segment
-- of that number; the shed has one key of each kind, so none is tried earlier. What is left is computed: the requests are allowed, SegN, and that each segment is among what is heard. A box
-- that was used before is what setup made but for its next SEQ, its cache and its replay list: a message that goes whole is not kept, and hearing begins none. Assumes nothing.
use mathlib.Core.Bool.{Bool, true, false, ◌||◌, true≢false}
use mathlib.Core.List.{List, [], ◌∷◌, map}
use mathlib.Core.Path.{◌≡◌, refl, sym, ap, ap₂, ◌∙◌, subst}
use Prim.Native.Nat.{ℕ, suc, ◌+◌, ◌≤◌}
use native.Mathlib.Omega.{arith}
use lib.Dec.{eqb}
use lib.ListN.{length, get_or, replicate}
use Rattle.std.specs.Prelude.{Ok}
use Rattle.common.specs.Bits.{has_bit, with_bit, all_bits}
use Rattle.common.specs.Search.{first}
use Rattle.common.proofs.Tests.{by_test}
use Rattle.network.specs.Address.{kind_of, is_reserved}
use Rattle.network.specs.IvIndex.{iv_index_sent}
use Rattle.network.specs.Opening.{opening}
use Rattle.transport.specs.declared.securing.MessageKey.TheVariants.{Application}
use Rattle.transport.specs.Segment.{message_octets, last_segment}
use Rattle.transport.proofs.SecureOpen.{secured_length}
use Rattle.memory.specs.declared.outgoing.Outgoing.{Outgoing}
use Rattle.node.specs.declared.addresses.Node.{Node}
use Rattle.node.specs.declared.setup.Setup.{Setup}
use Rattle.node.specs.Addresses.{element_places, is_local, answers_to, for_node}
use Rattle.node.specs.Setup.{bound_within, keys_valid, next_within, elements_valid, groups_valid, index_valid, valid, network_key_at, material_at, bound_key_at, next_at, node_of, next_of, making}
use Rattle.node.proofs.IndexLaws.{same_node}
use Rattle.receiver.specs.declared.state.Receiver.{Receiver}
use Rattle.receiver.specs.Fresh.{setting_up}
use Rattle.receiver.specs.Good.{Good}
use Rattle.receiver.proofs.Good.{good_fresh}
use Rattle.receiver.proofs.Laws.Fixed.{Fixed, fixed_heard}
use Rattle.receiver.proofs.Laws.Outgoing.{outgoing_heard}
use Rattle.sending.specs.declared.request.Request.{Request}
use Rattle.sending.specs.Access.{is_whole, size_allowed, access_allowed}
use Rattle.sending.specs.Control.{control_allowed}
use Rattle.sending.specs.Request.{request_allowed}
use Rattle.sending.specs.Transmission.{sending_iv, address_of, next_seq}
use Rattle.sending.proofs.Laws.Allowed.{access_alone}
use Rattle.sending.proofs.Laws.Transmitted.{used, used_own}
use Rattle.demands.specs.Call.{Hear, step}
use Rattle.demands.specs.GoesOut.{outcomes, accepted, pdu_count, rest_of}
use Rattle.demands.specs.Instance.{shed, bench, to_shed, report, lent_pdu, hearing, Told, overheard, short}
use Rattle.demands.specs.Instance.{heard_twice, command, heard_backwards, updating, to_box, greeting, greeted, in_use, SendingsMet}
use Rattle.demands.specs.Interleaved as scene
use Rattle.demands.specs.Interleaved.{start, is_last_missing, Each, handed}
use Rattle.demands.specs.ReadBack.{say_call, goes_whole, said_by, Piece, made_of, seg_n_as, Incoming, Made, Relayed, Unopened}
use Rattle.demands.specs.ReadBack.{piece_at, is_piece, brings, Shared, OwnMessageFirst, Between, OneOf, ComesAs, Hears, Telling}
use Rattle.demands.specs.Refusal.{no_key_opens}
use Rattle.demands.specs.Speech.{Words, Speech, key_of, envelope_of, octets_of, last_of, hand_up}
use Rattle.demands.proofs.Begun.{last_most}
use Rattle.demands.proofs.GoesOut.{shared_itself, goes_out, last_answered, whole_answered}
use Rattle.demands.proofs.InOrder.{each_below, row_full}
use Rattle.demands.proofs.Instance.{ready, node, holds, short_foreign}
use Rattle.demands.proofs.Invariant.{good_step}
use Rattle.demands.proofs.Pieces.{Row}
use Rattle.demands.proofs.ReadBack.{read_back}
use Rattle.demands.proofs.SentLaws.{sending_as, Way, Whole, Begun, way}
use Rattle.demands.proofs.SpeechCut.{cut_is}
use Rattle.transport.specs.Securing.{application_key_at, is_virtual}
use Rattle.demands.proofs.OpenerLaws.{plain_first}

-- ---- what is heard, by the places of what was made
-- these are places up to n, TTLs of 7 bits, or PDUs that no key opens
abbrev Placed : ℕ → Incoming → Type 0
Placed n (Made i) = i ≤ n
Placed n (Relayed i ttl) = (i ≤ n) × (ttl ≤ 127)
Placed n (Unopened pdu) = no_key_opens (opening node.materials node.networks node.iv pdu).opened ≡ true

-- whether place i is among them
abbrev is_place : ℕ → Incoming → Bool
is_place i (Made j) = eqb j i
is_place i (Relayed j ttl) = eqb j i
is_place i (Unopened pdu) = false

abbrev among : ℕ → List Incoming → Bool
among i [] = false
among i (w ∷ l) = is_place i w || among i l

-- ---- a message that is accepted, of a sender with the keys of the node that it is for
module _ (sender : Receiver) (setup : Setup) (q : Request) (words : Words) (between : Between sender setup q words) (a : accepted sender q words ≡ true)
    (low : next_seq sender q.element ≤ 1) where
  numbers_left : next_seq sender q.element + pdu_count sender.node (said_by sender q words) ≤ 0x1000000
  numbers_left =
      let good = between.good in
      by_test (goes_whole words) (λ t. rw t (omega arith))
      (λ t.
      let few = last_most sender good sender.node (shared_itself sender.node) q words a t good.node_made in
      rw t (omega arith))

  in_full : Each (λ o. o.made ≡ true) (outcomes sender q words lent_pdu)
  in_full = goes_out sender q words lent_pdu between.good a (omega arith) numbers_left

-- ---- one for the shed
module _ (sender : Receiver) (words : Words) (between : Between sender shed to_shed words) (a : accepted sender to_shed words ≡ true) (low : next_seq sender 0 ≤ 1) where
  abbrev said : Speech
  said = said_by sender to_shed words

  abbrev all_made : Each (λ o. o.made ≡ true) (outcomes sender to_shed words lent_pdu)
  all_made = in_full sender shed to_shed words between a low

  -- ---- and SegN is n
  module _ (n : ℕ) (last : seg_n_as (step sender (say_call to_shed words lent_pdu)).answer ≡ n) where
    abbrev ps : List Piece
    ps = made_of sender to_shed words lent_pdu (rest_of sender to_shed words lent_pdu)

    row : Row ps 0 (suc n)
    row = subst (λ (m : ℕ). Row ps 0 (suc m)) last (row_full sender shed to_shed words lent_pdu between all_made)

    -- no network key is before the first
    one_of : (i : ℕ) (pdu : List ℕ) → i ≤ n → OneOf node said ps i pdu
    one_of i pdu h = let l = row.long in record { place_there = omega arith; own_key_first = λ j b. absurd (omega arith) }

    comes : (w : Incoming) → Placed n w → ComesAs node said ps w
    comes (Made i) h = one_of i _ h
    comes (Relayed i ttl) h = (one_of i _ h.0, h.1)
    comes (Unopened pdu) h = h

    hears : (l : List Incoming) → Each (Placed n) l → Each (Hears node said ps) (map hearing l)
    hears [] e = tt {0}
    hears (w ∷ l) e = (record { comes = comes w e.0; room_forward = omega arith; room_message = omega arith }, hears l e.1)

    segment_is : (i : ℕ) → i ≤ n → (piece_at ps i).segment ≡ i
    segment_is i h = row.place_is i (omega arith) ∙ omega arith

    is_place_law : (i : ℕ) (w : Incoming) → Placed n w → is_piece ps i w ≡ is_place i w
    is_place_law i (Made j) h = ap (λ (x : ℕ). eqb x i) (segment_is j h)
    is_place_law i (Relayed j ttl) h = ap (λ (x : ℕ). eqb x i) (segment_is j h.0)
    is_place_law i (Unopened pdu) h = refl

    brings_is : (i : ℕ) (l : List Incoming) → Each (Placed n) l → brings ps i (map hearing l) ≡ among i l
    brings_is i [] e = refl
    brings_is i (w ∷ l) e = ap₂ (λ (x y : Bool). x || y) (is_place_law i w e.0) (brings_is i l e.1)

    told : (l : List Incoming) → Each (Placed n) l → ((i : ℕ) → i ≤ n → among i l ≡ true) → Told sender words l
    told l e all = (record { between = between; sent = all_made.0; hears = hears l e }, λ i h. brings_is i l e ∙ all i (omega arith))

-- ---- a box that was set up
bench_ready : (setting_up bench).answer ≡ Ok tt
unfolding setting_up making valid keys_valid bound_within elements_valid next_within groups_valid index_valid first kind_of
bench_ready = refl

updating_ready : (setting_up updating).answer ≡ Ok tt
unfolding setting_up making valid keys_valid bound_within elements_valid next_within groups_valid index_valid first kind_of
updating_ready = refl

-- it differs from the shed in its address and flag alone
same_keys : Shared (start bench).node node
unfolding setting_up making valid keys_valid bound_within elements_valid next_within groups_valid index_valid first kind_of node_of bound_key_at network_key_at material_at
same_keys = record { networks_same = refl; materials_same = refl; applications_same = refl; appkeys_same = refl; device_same = refl; iv_same = refl }

updating_keys : Shared (start updating).node node
unfolding setting_up making valid keys_valid bound_within elements_valid next_within groups_valid index_valid first kind_of node_of bound_key_at network_key_at material_at
updating_keys = record { networks_same = refl; materials_same = refl; applications_same = refl; appkeys_same = refl; device_same = refl; iv_same = refl }

-- and the shed from it
keys_back : Shared (start shed).node (start bench).node
unfolding setting_up making valid keys_valid bound_within elements_valid next_within groups_valid index_valid first kind_of node_of bound_key_at network_key_at material_at
keys_back = record { networks_same = refl; materials_same = refl; applications_same = refl; appkeys_same = refl; device_same = refl; iv_same = refl }

box_here : for_node (start bench).node 0x0002 ≡ true
unfolding setting_up making valid keys_valid bound_within elements_valid next_within groups_valid index_valid first kind_of node_of is_reserved answers_to for_node is_local
box_here = refl

box_bound : (application_key_at (start bench).node.appkeys 0).bound ≡ 0
unfolding setting_up making valid keys_valid bound_within elements_valid next_within groups_valid index_valid first kind_of node_of bound_key_at
box_bound = refl

box_application : (start bench).node.applications ≡ 1
unfolding setting_up making valid keys_valid bound_within elements_valid next_within groups_valid index_valid first kind_of node_of
box_application = refl

-- each is another node to the one that hears it
record Apart : Type 0 where
  bench_other : is_local node (address_of (start bench).node 0) ≡ false
  updating_other : is_local node (address_of (start updating).node 0) ≡ false
  shed_other : is_local (start bench).node (address_of (start shed).node 0) ≡ false

apart : Apart
unfolding setting_up making valid keys_valid bound_within elements_valid next_within groups_valid index_valid first kind_of node_of address_of is_local
apart = record { bench_other = refl; updating_other = refl; shed_other = refl }

-- requests are within the rules
record Allowed : Type 0 where
  report_allowed : accepted (start bench) to_shed report ≡ true
  short_allowed : accepted (start bench) to_shed short ≡ true
  command_allowed : accepted (start bench) to_shed command ≡ true
  updating_allowed : accepted (start updating) to_shed report ≡ true
  shed_allowed : accepted (start shed) to_box short ≡ true

allowed : Allowed
unfolding setting_up making valid keys_valid bound_within elements_valid next_within groups_valid index_valid first kind_of node_of bound_key_at access_allowed control_allowed request_allowed
    size_allowed is_whole
allowed = record { report_allowed = refl; short_allowed = refl; command_allowed = refl; updating_allowed = refl; shed_allowed = refl }

-- which of them go whole
record Ways : Type 0 where
  report_cut : goes_whole report ≡ false
  short_whole : goes_whole short ≡ true
  command_cut : goes_whole command ≡ false

ways : Ways
unfolding is_whole
ways = record { report_cut = refl; short_whole = refl; command_cut = refl }

-- next SEQs
record Numbers : Type 0 where
  none_sent : next_seq (start bench) 0 ≡ 0
  none_updating : next_seq (start updating) 0 ≡ 0
  none_shed : next_seq (start shed) 0 ≡ 0
  all_places : length (start bench).next ≡ element_places

numbers : Numbers
unfolding setting_up making valid keys_valid bound_within elements_valid next_within groups_valid index_valid first kind_of next_of next_at
numbers = record { none_sent = refl; none_updating = refl; none_shed = refl; all_places = refl }

-- with the flag set
before_index : sending_iv (start updating).node ≡ 0x12345677
unfolding setting_up making valid keys_valid bound_within elements_valid next_within groups_valid index_valid first kind_of node_of sending_iv iv_index_sent
before_index = refl

-- ---- SegN
-- 20 octets and a TransMIC of 8 make three segments; 12 parameters two
report_last : (sender : Receiver) → last_of sender.node (said_by sender to_shed report) ≡ 2
unfolding last_of last_segment
report_last sender =
    let s = said_by sender to_shed report in
    let own = sender.node in
    rw (cut_is own s report refl, secured_length (key_of own (Application 0)) (envelope_of own s (Application 0) true) [] (replicate 20 0x5a)) refl

command_last : (sender : Receiver) → last_of sender.node (said_by sender to_shed command) ≡ 1
unfolding last_of last_segment octets_of
command_last sender = refl

-- ---- the messages
-- its element is none of the shed's
abbrev OtherNode : Receiver → Type 0
OtherNode sender = is_local node (address_of sender.node 0) ≡ false

-- the premises on both nodes, for a message to the shed under its first application key, or a control message
to_shed_law :
    (sender : Receiver) (words : Words) → Good sender → Shared sender.node node → OtherNode sender → OwnMessageFirst node (said_by sender to_shed words) words
    → Between sender shed to_shed words
unfolding is_virtual kind_of
to_shed_law sender words good shared other own =
    record {
      good = good;
      ready = ready;
      shared = shared;
      other_node = other;
      for_here = holds.here;
      dst_fits = omega arith;
      holds_label_law = λ t. absurd (true≢false (sym t));
      own_message_first = own;
    }

-- the shed's address is not virtual
shed_plain : is_virtual 0x0001 ≡ false
unfolding is_virtual kind_of
shed_plain = refl

-- a report in three segments, from any sender
module _ (sender : Receiver) (good : Good sender) (shared : Shared sender.node node) (other : OtherNode sender) (a : accepted sender to_shed report ≡ true) (low : next_seq sender 0 ≤ 1) where
  report_between : Between sender shed to_shed report
  report_between = to_shed_law sender report good shared other
      (λ msg j h. let a = holds.one_application in let z = plain_first node (said_by sender to_shed report) true shed_plain (omega arith) holds.bound_there in absurd (omega arith))

  report_seg_n : seg_n_as (step sender (say_call to_shed report lent_pdu)).answer ≡ 2
  report_seg_n =
      let made = (in_full sender shed to_shed report report_between a low).0 in
      last_answered sender to_shed report lent_pdu good made ways.report_cut ∙ report_last sender

  report_told : Told sender report overheard
  report_told =
      told sender report report_between a low 2 report_seg_n overheard
      (omega arith, (short_foreign, ((omega arith, omega arith), ((omega arith, omega arith), (omega arith, tt {0})))))
      (λ i h. each_below (λ (k : ℕ). among k overheard ≡ true) 0 3 (refl, (refl, (refl, tt {0}))) i (omega arith) (omega arith))

-- eight octets in one PDU, from any sender
module _ (sender : Receiver) (good : Good sender) (shared : Shared sender.node node) (other : OtherNode sender) (a : accepted sender to_shed short ≡ true) (low : next_seq sender 0 ≤ 1) where
  short_between : Between sender shed to_shed short
  short_between = to_shed_law sender short good shared other
      (λ msg j h. let a = holds.one_application in let z = plain_first node (said_by sender to_shed short) false shed_plain (omega arith) holds.bound_there in absurd (omega arith))

  short_made : (step sender (say_call to_shed short lent_pdu)).made ≡ true
  short_made = (in_full sender shed to_shed short short_between a low).0

  short_told : Told sender short heard_twice
  short_told =
      told sender short short_between a low 0 (whole_answered sender to_shed short lent_pdu short_made ways.short_whole) heard_twice
      (short_foreign, ((omega arith, omega arith), (omega arith, tt {0})))
      (λ i h. each_below (λ (k : ℕ). among k heard_twice ≡ true) 0 1 (refl, tt {0}) i (omega arith) (omega arith))

good_bench : Good (start bench)
good_bench = good_fresh bench bench_ready

few : next_seq (start bench) 0 ≤ 1
few = let n = numbers.none_sent in omega arith

command_between : Between (start bench) shed to_shed command
command_between = to_shed_law (start bench) command good_bench same_keys apart.bench_other (tt {0})

command_told : Told (start bench) command heard_backwards
command_told =
    let made = (in_full (start bench) shed to_shed command command_between allowed.command_allowed few).0 in
    told (start bench) command command_between allowed.command_allowed few 1
    (last_answered (start bench) to_shed command lent_pdu good_bench made ways.command_cut ∙ command_last (start bench)) heard_backwards
    (omega arith, ((omega arith, omega arith), (omega arith, tt {0})))
    (λ i h. each_below (λ (k : ℕ). among k heard_backwards ≡ true) 0 2 (refl, (refl, tt {0})) i (omega arith) (omega arith))

-- ---- a box that was used: it hears a message of the shed's
to_box_law : Between (start shed) bench to_box short
unfolding is_virtual kind_of
to_box_law =
    record {
      good = good_fresh shed ready;
      ready = bench_ready;
      shared = keys_back;
      other_node = apart.shed_other;
      for_here = box_here;
      dst_fits = omega arith;
      holds_label_law = λ t. absurd (true≢false (sym t));
      own_message_first = λ msg j h. let a = box_application in let z = plain_first (start bench).node (said_by (start shed) to_box short) false refl (omega arith) box_bound in absurd (omega arith);
    }

shed_made : (step (start shed) (say_call to_box short lent_pdu)).made ≡ true
shed_made = (in_full (start shed) bench to_box short to_box_law allowed.shed_allowed (let n = numbers.none_shed in omega arith)).0

telling : Telling (start shed) bench to_box short lent_pdu [] (hearing (Made 0) ∷ [])
telling =
    record {
      between = to_box_law;
      sent = shed_made;
      hears = (
        record {
          comes = record { place_there = omega arith; own_key_first = λ j b. absurd (omega arith) };
          room_forward = omega arith;
          room_message = omega arith;
        },
        tt {0},
      );
    }

missing : is_last_missing 0 0 0 ≡ true
unfolding has_bit with_bit all_bits
missing = refl

message_heard : handed greeted ≡ hand_up (scene.node_of bench) (said_by (start shed) to_box short) ∷ []
message_heard =
    let last = whole_answered (start shed) to_box short lent_pdu shed_made ways.short_whole in
    (read_back (start shed) bench to_box short lent_pdu [] (hearing (Made 0) ∷ []) telling).each.0.hands ∙ rw (last, missing) refl

-- ---- and sends one whole: it is what setup made but for its numbers, its cache and its replay list
abbrev message : List ℕ
message = replicate message_octets 0

abbrev heard : Receiver
heard = greeted.receiver

heard_fixed : Fixed (start bench) heard
heard_fixed = fixed_heard (start bench) lent_pdu message greeting

heard_node : heard.node ≡ (start bench).node
heard_node = same_node heard.node (start bench).node heard_fixed.setup_stays heard_fixed.index_stays

good_heard : Good heard
good_heard = good_step (start bench) (Hear greeting lent_pdu message) good_bench

heard_keys : Shared heard.node node
heard_keys = subst (λ (n : Node). Shared n node) (sym heard_node) same_keys

-- hearing begins no message
none_kept : (start bench).out.src ≡ 0
none_kept = access_alone (start bench) to_shed (Application 0) true 20 allowed.report_allowed ways.report_cut

none_heard : heard.out.src ≡ 0
none_heard = outgoing_heard (λ (o : Outgoing). o.src ≡ 0) (start bench) refl none_kept (λ _. none_kept) lent_pdu message greeting

-- a request is allowed by the node and by what is kept
same_allowed : (r : Receiver) (szmic : Bool) (len : ℕ) → r.node ≡ (start bench).node → r.out.src ≡ 0
    → access_allowed r to_shed (Application 0) szmic len ≡ access_allowed (start bench) to_shed (Application 0) szmic len
unfolding access_allowed
same_allowed r szmic len e z = rw (e, z, none_kept) refl

heard_allowed : accepted heard to_shed short ≡ true
heard_allowed = same_allowed heard false 8 heard_node none_heard ∙ allowed.short_allowed

heard_number : next_seq heard 0 ≡ 0
heard_number = ap (λ (l : List ℕ). get_or l 0 0) heard_fixed.next_stays ∙ numbers.none_sent

sent_by : Way heard to_shed short (sending_as heard to_shed short lent_pdu) → in_use ≡ used heard 0
sent_by (Whole a w g) = g.leaves
sent_by (Begun a w g) = absurd (true≢false (sym ways.short_whole ∙ w))

-- a message that goes whole uses a number, and is not kept
used_is : in_use ≡ used heard 0
used_is = sent_by (way heard to_shed short lent_pdu (short_made heard good_heard heard_keys (rw heard_node apart.bench_other) heard_allowed (let n = heard_number in omega arith)))

used_node : in_use.node ≡ (start bench).node
used_node = ap (λ (r : Receiver). r.node) used_is ∙ heard_node

used_allowed : accepted in_use to_shed report ≡ true
used_allowed = same_allowed in_use true 20 used_node (ap (λ (r : Receiver). r.out.src) used_is ∙ none_heard) ∙ allowed.report_allowed

number_used : next_seq in_use 0 ≡ 1
number_used =
    let n = heard_number in
    let places = ap length heard_fixed.next_stays ∙ numbers.all_places in
    ap (λ (r : Receiver). next_seq r 0) used_is ∙ used_own heard 0 (omega arith) ∙ omega arith

pub sendings_met : SendingsMet
sendings_met =
    record {
      in_segments = report_told (start bench) good_bench same_keys apart.bench_other allowed.report_allowed few;
      whole = short_told (start bench) good_bench same_keys apart.bench_other allowed.short_allowed few;
      control = command_told;
      under_flag =
          report_told (start updating) (good_fresh updating updating_ready) updating_keys apart.updating_other allowed.updating_allowed
          (let n = numbers.none_updating in omega arith);
      index_before = before_index;
      told_in_use =
          report_told in_use (good_step heard (say_call to_shed short lent_pdu) good_heard) (subst (λ (n : Node). Shared n node) (sym used_node) same_keys)
          (rw used_node apart.bench_other) used_allowed (let n = number_used in omega arith);
      message_heard = message_heard;
      number_used = number_used;
    }
