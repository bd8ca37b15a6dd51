-- The premises hold of the crowd. Numbers, addresses and lengths are compared and computed, and so is which segments come; what a cipher gives is not, but where both network keys have a
-- PDU's NID (CrowdKeys). All other speakers use the first network key, so that none is tried earlier, and the one application key likewise. Assumes nothing.
use mathlib.Core.Bool.{Bool, true, false, ◌&&◌}
use mathlib.Core.List.{List, [], ◌∷◌}
use mathlib.Core.Logic.{◌⊎◌, inl, inr}
use mathlib.Core.Path.{◌≡◌, refl, ap, ◌∙◌, sym}
use Prim.Native.Nat.{ℕ, zero, suc, ◌+◌, ◌-◌, ◌%◌, ◌≤◌, ◌<◌}
use native.Mathlib.Omega.{arith}
use borrow.Author.Tests.{eqb-true, leb-true}
use lib.Dec.{eqb, leb}
use lib.ListN.{length, replicate}
use Rattle.std.specs.Prelude.{Ok, is_some, Err}
use Rattle.common.specs.Bits.{has_bit, with_bit, all_bits}
use Rattle.common.specs.Search.{first, picked}
use Rattle.common.specs.Trials.{tries_from}
use Rattle.common.proofs.BitLaws.{has_all}
use Rattle.common.proofs.Tests.{and_first, and_second}
use Rattle.modes.specs.Ccm.{mic_octets}
use Rattle.keys.specs.declared.NetworkKeys.{NetworkKeys}
use Rattle.keys.specs.Derivation.{k2}
use Rattle.network.specs.declared.opening.Refusal.TheVariants.{WrongLength, NoCandidate, NotAuthentic}
use Rattle.network.specs.Address.{kind_of, is_unicast, is_reserved}
use Rattle.network.specs.Candidates.{key_at, candidates, opens, searched}
use Rattle.network.specs.IvIndex.{iv_index_heard}
use Rattle.network.specs.Octets.{octets}
use Rattle.network.specs.Opening.{judged, under, opening}
use Rattle.network.specs.Trial.{tried}
use Rattle.transport.specs.declared.securing.MessageKey.{MessageKey}
use Rattle.transport.specs.declared.securing.MessageKey.TheVariants.{Application, Device}
use Rattle.transport.specs.LeadsBack.{SegmentOf}
use Rattle.transport.specs.Securing.{trans_mic, application_key_at, is_virtual}
use Rattle.transport.specs.Segment.{message_octets, control_octet, segment_number, segment_front, last_segment}
use Rattle.transport.proofs.SecureOpen.{secured_length}
use Rattle.node.specs.Addresses.{is_local, listens, answers_to, for_node}
use Rattle.node.specs.Setup.{bound_within, keys_valid, next_within, elements_valid, groups_valid, index_valid, valid, material_at, bound_key_at, group_at, node_of, making}
use Rattle.node.specs.declared.addresses.Node.{Node}
use Rattle.receiver.specs.Fresh.{setting_up}
use Rattle.crowd.specs.Crowd.{second_key, hall, box_ttl, crowd, lasts, too_short, other_nid, forged, sent, descending, others, alternating, rush, CrowdMet}
use Rattle.demands.specs.Instance.{network_key, arrival, order}
use Rattle.demands.specs.Interleaved as scene
use Rattle.demands.specs.Interleaved.{Event, Segment, Foreign, Ask, Own, Arrival, Each, Spent, speech_at, come, Comes, Arrives, AllCome}
use Rattle.demands.specs.Speech.{Access, Speech, key_of, envelope_of, octets_of, last_of, segment_of, header_of, segment_pdu, WordsRead, Speakable, network_place}
use Rattle.crowd.proofs.CrowdKeys.{first_keys, first_is, second_keys, second_is, pdu0, sealed_0, pdu1, sealed_1, tried_0, tried_1, forged_first, forged_second}
use Rattle.demands.proofs.InOrder.{◌then◌, each_table, each_below}
use Rattle.demands.proofs.SpeechCut.{cut_is, last_low}
use Rattle.demands.proofs.OpenerLaws.{plain_read, plain_label}

ready : (setting_up hall).answer ≡ Ok tt
unfolding setting_up making valid keys_valid bound_within elements_valid next_within groups_valid index_valid first kind_of
ready = refl

abbrev node : Node
node = scene.node_of hall

-- what the receiver holds
record Held : Type 0 where
  two_networks : node.networks ≡ 2
  one_application : node.applications ≡ 1
  bound_there : (application_key_at node.appkeys 0).bound ≡ 0
  index : node.iv ≡ 0x12345678
  here : for_node node 0x0001 ≡ true
  in_group : for_node node 0xC001 ≡ true
  of_all : for_node node 0xFFFF ≡ true
  first_derived : key_at node.materials 0 ≡ k2 network_key
  second_derived : key_at node.materials 1 ≡ k2 second_key

holds : Held
unfolding setting_up making valid keys_valid bound_within elements_valid next_within groups_valid index_valid first kind_of node_of material_at bound_key_at group_at is_reserved answers_to
    for_node is_local listens
holds =
    record {
      two_networks = refl;
      one_application = refl;
      bound_there = refl;
      index = refl;
      here = refl;
      in_group = refl;
      of_all = refl;
      first_derived = refl;
      second_derived = refl;
    }

first_key : key_at node.materials 0 ≡ first_keys
first_key = holds.first_derived ∙ first_is

second_key_law : key_at node.materials 1 ≡ second_keys
second_key_law = holds.second_derived ∙ second_is

-- ---- the speeches
-- a secured message has its TransMIC behind it
secured_octets :
    (s : Speech) (key : MessageKey) (szmic : Bool) (payload : List ℕ) → s.words ≡ Access key szmic payload
    → length (octets_of node s) ≡ length payload + mic_octets (trans_mic szmic)
secured_octets s key szmic payload e =
    rw (cut_is node s (Access key szmic payload) e) (secured_length (key_of node key) (envelope_of node s key szmic) s.label payload)

segn_is : (k : ℕ) → k < 8 → last_of node (speech_at crowd k) ≡ lasts k
unfolding last_of last_segment octets_of
segn_is k h =
    each_below (λ (n : ℕ). last_of node (speech_at crowd n) ≡ lasts n) 0 8
    (rw (secured_octets (speech_at crowd 0) (Application 0) false (replicate 380 0x5a) refl) refl
    then rw (secured_octets (speech_at crowd 1) (Application 0) true (replicate 4 0x11) refl) refl
    then rw (secured_octets (speech_at crowd 2) (Application 0) false (replicate 20 0x22) refl) refl
    then refl
    then rw (secured_octets (speech_at crowd 4) Device false (replicate 20 0x44) refl) refl
    then refl
    then refl
    then rw (secured_octets (speech_at crowd 7) (Application 0) false (replicate 20 0x66) refl) refl
    then tt {0})
    k (omega arith) h

-- of a message under the application key and the first network key, of a length that fits
by_application :
    (s : Speech) (szmic : Bool) (payload : List ℕ) → s.words ≡ Access (Application 0) szmic payload → s.network ≡ 0 → is_virtual s.dst ≡ false → s.label ≡ [] → 1 ≤ length payload
    → length payload + mic_octets (trans_mic szmic) ≤ message_octets → WordsRead node s (Access (Application 0) szmic payload)
by_application s szmic payload e n plain bare some most =
    let a = holds.one_application in
    let long = secured_octets s (Application 0) szmic payload e in (
      record { some = some; enough = omega arith },
      λ msg room. plain_read node s szmic (octets_of node s) msg plain (omega arith) (holds.bound_there ∙ sym n),
      plain_label node s plain bare,
    )

-- who may speak so
spoken :
    (s : Speech) → is_unicast s.src ≡ true → for_node node s.dst ≡ true → s.dst < 65536 → s.network < 2
    → (s.auth.iv ≡ 0x12345678) ⊎ (s.auth.iv + 1 ≡ 0x12345678) → WordsRead node s s.words → Speakable node s
spoken s from here wide key near words =
    let n = holds.two_networks in
    record {
      from_unicast = from;
      for_here = here;
      dst_fits = wide;
      held = omega arith;
      near = rw holds.index near;
      words_read = words;
    }

speaks : (k : ℕ) → k < 8 → Speakable node (speech_at crowd k)
unfolding is_unicast is_virtual kind_of
speaks k h =
    let here = holds.here in
    let all = holds.of_all in
    let long = secured_octets (speech_at crowd 4) Device false (replicate 20 0x44) refl in
    each_below (λ (n : ℕ). Speakable node (speech_at crowd n)) 0 8
    (spoken (speech_at crowd 0) refl here (omega arith) (omega arith) (inl refl)
    (by_application (speech_at crowd 0) false (replicate 380 0x5a) refl refl refl refl (omega arith) (omega arith))
    then spoken (speech_at crowd 1) refl here (omega arith) (omega arith) (inl refl)
    (by_application (speech_at crowd 1) true (replicate 4 0x11) refl refl refl refl (omega arith) (omega arith))
    then spoken (speech_at crowd 2) refl holds.in_group (omega arith) (omega arith) (inl refl)
    (by_application (speech_at crowd 2) false (replicate 20 0x22) refl refl refl refl (omega arith) (omega arith))
    then spoken (speech_at crowd 3) refl all (omega arith) (omega arith) (inl refl)
    (record { some = omega arith; enough = omega arith }, record { not_zero = omega arith; opcode_fits = omega arith }, refl)
    then spoken (speech_at crowd 4) refl here (omega arith) (omega arith) (inl refl) (record { some = omega arith; enough = omega arith }, refl, refl)
    then spoken (speech_at crowd 5) refl here (omega arith) (omega arith) (inl refl)
    (record { some = omega arith; enough = omega arith }, record { not_zero = omega arith; opcode_fits = omega arith }, refl)
    then spoken (speech_at crowd 6) refl here (omega arith) (omega arith) (inl refl)
    (record { some = omega arith; enough = omega arith }, record { not_zero = omega arith; opcode_fits = omega arith }, refl)
    then spoken (speech_at crowd 7) refl here (omega arith) (omega arith) (inr refl)
    (by_application (speech_at crowd 7) false (replicate 20 0x66) refl refl refl refl (omega arith) (omega arith))
    then tt {0})
    k (omega arith) h

-- sources are numbered from 2 on
src_is : (k : ℕ) → k < 8 → (speech_at crowd k).src ≡ k + 2
src_is k h =
    each_below (λ (n : ℕ). (speech_at crowd n).src ≡ n + 2) 0 8 (refl then refl then refl then refl then refl then refl then refl then refl then tt {0}) k (omega arith) h

strangers : (k : ℕ) → k < 8 → is_local node (speech_at crowd k).src ≡ false
unfolding setting_up making valid keys_valid bound_within elements_valid next_within groups_valid index_valid first kind_of node_of is_local
strangers k h =
    each_below (λ (n : ℕ). is_local node (speech_at crowd n).src ≡ false) 0 8
    (refl then refl then refl then refl then refl then refl then refl then refl then tt {0}) k (omega arith) h

differ : (j k : ℕ) → j < 8 → k < 8 → (speech_at crowd j).src ≡ (speech_at crowd k).src → j ≡ k
differ j k hj hk e =
    let a = src_is j hj in
    let b = src_is k hk in
    omega arith

-- ---- what comes
-- numbers 64 apart are spent on one segment
abbrev spent : Spent
spent k n = (n - (speech_at crowd k).auth.seq) % 64

-- no network key before a speech's own opens this segment of it
abbrev OwnFirst : (k i seq : ℕ) → Type 0
OwnFirst k i seq =
    let s = speech_at crowd k in
    (j : ℕ) → j < s.network → opens node.materials s.auth.iv (segment_pdu node s i seq box_ttl) j ≡ false

-- its buffers have room
arrives : (e : Event) → Comes node crowd spent e → Arrives node crowd spent (arrival e)
arrives e c = record { comes = c; room_forward = omega arith; room_message = omega arith }

segment_arrives :
    (k i seq : ℕ) → k < 8 → i ≤ lasts k → i ≡ spent k seq → SegmentOf (speech_at crowd k).auth.seq seq → seq ≤ 0xFFFFFF → OwnFirst k i seq
    → Arrives node crowd spent (arrival (Segment k i seq box_ttl))
unfolding header_of
segment_arrives k i seq h last e t fits own =
    let w = speaks k h in
    let l = segn_is k h in
    arrives (Segment k i seq box_ttl)
    (record {
      one_of = h;
      segment_there = omega arith;
      number_spent = e;
      in_time = t;
      seq_fits = fits;
      ttl_fits = omega arith;
      own_key_first = record { held = w.held; near = w.near; none_before = λ j b _. own j b };
    })

-- the same of numbers that are tested
abbrev fitting : (k i seq : ℕ) → Bool
fitting k i seq =
    let begun = (speech_at crowd k).auth.seq in
    leb i (lasts k) && (eqb i (spent k seq) && (leb begun seq && (leb seq (begun + 8191) && leb seq 0xFFFFFF)))

tested_arrives : (k i seq : ℕ) → k < 8 → fitting k i seq ≡ true → OwnFirst k i seq → Arrives node crowd spent (arrival (Segment k i seq box_ttl))
tested_arrives k i seq h t own =
    let begun = (speech_at crowd k).auth.seq in
    let t1 = and_second (leb i (lasts k)) _ t in
    let t2 = and_second (eqb i (spent k seq)) _ t1 in
    let t3 = and_second (leb begun seq) _ t2 in
    let near = leb-true seq (begun + 8191) (and_first (leb seq (begun + 8191)) _ t3) in
    segment_arrives k i seq h (leb-true i (lasts k) (and_first (leb i (lasts k)) _ t)) (eqb-true i (spent k seq) (and_first (eqb i (spent k seq)) _ t1))
    (record { later = leb-true begun seq (and_first (leb begun seq) _ t2); near = near }) (leb-true seq 0xFFFFFF (and_second (leb seq (begun + 8191)) _ t3)) own

-- one under the first network key
by_first : (k i seq : ℕ) → k < 8 → (speech_at crowd k).network ≡ 0 → fitting k i seq ≡ true → Arrives node crowd spent (arrival (Segment k i seq box_ttl))
by_first k i seq h n t = tested_arrives k i seq h t (λ j b. absurd (omega arith))

-- ---- the two under the second, which the first is tried on and does not open
unopened :
    (j : ℕ) (keys : NetworkKeys) (pdu : List ℕ) → key_at node.materials j ≡ keys → is_some (tried keys j 0x12345678 pdu) ≡ false
    → opens node.materials 0x12345678 pdu j ≡ false
unfolding opens
unopened j keys pdu e t = ap (λ (k : NetworkKeys). is_some (tried k j 0x12345678 pdu)) e ∙ t

sent_0 : segment_pdu node (speech_at crowd 6) 0 0x000700 box_ttl ≡ pdu0
unfolding header_of segment_of last_of last_segment octets_of segment_front segment_number control_octet octets
sent_0 = rw second_key_law sealed_0

sent_1 : segment_pdu node (speech_at crowd 6) 1 0x000701 box_ttl ≡ pdu1
unfolding header_of segment_of last_of last_segment octets_of segment_front segment_number control_octet octets
sent_1 = rw second_key_law sealed_1

by_second : (i : ℕ) → OwnFirst 6 i (0x000700 + i) → fitting 6 i (0x000700 + i) ≡ true → Arrives node crowd spent (sent 6 i)
by_second i own t = tested_arrives 6 i (0x000700 + i) (omega arith) t own

own_0 : OwnFirst 6 0 0x000700
own_0 zero h = rw sent_0 (unopened 0 first_keys pdu0 first_key tried_0)
own_0 (suc j) h = absurd (omega arith)

own_1 : OwnFirst 6 1 0x000701
own_1 zero h = rw sent_1 (unopened 0 first_keys pdu1 first_key tried_1)
own_1 (suc j) h = absurd (omega arith)

-- ---- PDUs that no key opens
answers_short : (opening node.materials node.networks node.iv too_short).opened ≡ Err WrongLength
unfolding opening
answers_short = refl

no_candidate : candidates node.materials node.networks 0x69 ≡ []
unfolding candidates picked
no_candidate = rw (holds.two_networks, first_key, second_key_law) refl

answers_nid : (opening node.materials node.networks node.iv other_nid).opened ≡ Err NoCandidate
unfolding opening
answers_nid = rw no_candidate refl

two_candidates : candidates node.materials node.networks 0x68 ≡ 0 ∷ 1 ∷ []
unfolding candidates picked
two_candidates = rw (holds.two_networks, first_key, second_key_law) refl

unopened_0 : opens node.materials 0x12345678 forged 0 ≡ false
unopened_0 = unopened 0 first_keys forged first_key forged_first

unopened_1 : opens node.materials 0x12345678 forged 1 ≡ false
unopened_1 = unopened 1 second_keys forged second_key_law forged_second

answers_forged : (opening node.materials node.networks node.iv forged).opened ≡ Err NotAuthentic
unfolding opening under judged searched tries_from iv_index_heard
answers_forged = rw (holds.index, two_candidates, unopened_0, unopened_1) refl

-- ---- all that comes
descending_arrive : Each (Arrives node crowd spent) descending
descending_arrive =
    each_table (Arrives node crowd spent) (λ i. sent 0 (31 - i)) 0 32
    (λ i a b.
    segment_arrives 0 (31 - i) (0x000100 + (31 - i)) (omega arith) (omega arith) (omega arith) (record { later = omega arith; near = omega arith }) (omega arith)
    (λ j h. absurd (omega arith)))

others_arrive : Each (Arrives node crowd spent) others
others_arrive =
    by_first 1 0 0x000200 (omega arith) refl refl
    then arrives (Foreign too_short) (rw answers_short refl)
    then by_first 2 1 0x000301 (omega arith) refl refl
    then by_first 3 0 0x000400 (omega arith) refl refl
    then by_first 2 1 0x000301 (omega arith) refl refl
    then by_first 4 1 0x000501 (omega arith) refl refl
    then arrives (Ask 0 0x0002) (tt {0})
    then by_first 5 0 0x000600 (omega arith) refl refl
    then arrives (Foreign other_nid) (rw answers_nid refl)
    then by_second 1 own_1 refl
    then by_first 7 1 0x000801 (omega arith) refl refl
    then by_first 0 31 0x00015f (omega arith) refl refl
    then arrives (Foreign forged) (rw answers_forged refl)
    then arrives (Own order) refl
    then by_first 7 0 0x000800 (omega arith) refl refl
    then by_second 0 own_0 refl
    then by_first 5 1 0x000601 (omega arith) refl refl
    then by_first 4 0 0x000500 (omega arith) refl refl
    then by_first 3 1 0x000401 (omega arith) refl refl
    then by_first 2 0 0x000300 (omega arith) refl refl
    then by_first 7 0 0x000840 (omega arith) refl refl
    then tt {0}

each_alternating : (P : Arrival → Type 0) (a b : List Arrival) → Each P a → Each P b → Each P (alternating a b)
each_alternating P [] b e f = f
each_alternating P (x ∷ a) [] e f = e
each_alternating P (x ∷ a) (y ∷ b) e f = e.0 then f.0 then each_alternating P a b e.1 f.1

-- ---- each segment is among them
come_is : (k : ℕ) → k < 8 → come k rush ≡ all_bits (lasts k)
unfolding has_bit with_bit all_bits
come_is k h =
    each_below (λ (n : ℕ). come n rush ≡ all_bits (lasts n)) 0 8 (refl then refl then refl then refl then refl then refl then refl then refl then tt {0}) k (omega arith) h

all_come : AllCome hall crowd rush
all_come k i hk hi =
    let l = segn_is k hk in
    let low = last_low node (speech_at crowd k) (speaks k hk) in
    rw (come_is k hk) (has_all (lasts k) i (omega arith) (omega arith))

two_trials : network_place node (speech_at crowd 6) ≡ 2
unfolding candidates picked
two_trials = rw (first_key, second_key_law) refl

pub crowd_met : CrowdMet
crowd_met =
    record {
      scene =
          record {
            ready = ready;
            eight_at_most = omega arith;
            speakable = speaks;
            sources_differ = differ;
            others = strangers;
            spent = spent;
            arrives = (arrives (Ask 0 0x0002) (tt {0}), each_alternating (Arrives node crowd spent) descending others descending_arrive others_arrive);
          };
      all_come = all_come;
      segn_is = segn_is;
      one_nid = rw (first_key, second_key_law) refl;
      second_trial = two_trials;
      short_refused = rw answers_short refl;
      nid_refused = rw answers_nid refl;
      forged_refused = rw answers_forged refl;
      forged_else = rw sent_1 refl;
    }
