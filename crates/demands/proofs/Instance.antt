-- The premises hold of the two boxes, so that the theorems speak of something. Most of them compare numbers and are
-- computed: the setup is allowed, addresses are unicast, lengths fit, each SEQ is within 8,191 of SeqAuth, each segment
-- has come. Where a key is derived, its octets are not computed: a law says how many bits NID and AID have, whatever
-- the cipher gives. The receiver holds one key of each kind, so no key is tried before the message's own, and that
-- premise holds by itself. The PDU that no key opens is one that is too short. Assumes nothing.
use mathlib.Core.Bool.{true, false, ◌||◌}
use mathlib.Core.List.{[], ◌∷◌}
use mathlib.Core.Logic.{inl, inr}
use mathlib.Core.Path.{◌≡◌, refl, sym}
use Prim.Native.Nat.{ℕ, zero, suc, ◌+◌, ◌≤◌, ◌<◌}
use native.Mathlib.Omega.{arith}
use lib.Dec.{eqb}
use lib.ListN.{length, replicate}
use Rattle.std.specs.Prelude.{Ok, if◌then◌else◌}
use Rattle.common.specs.Bits.{has_bit, with_bit}
use Rattle.common.specs.Search.{first}
use Rattle.network.specs.Address.{kind_of, is_unicast, is_reserved}
use Rattle.network.specs.Opening.{opening}
use Rattle.transport.specs.declared.securing.MessageKey.TheVariants.{Application}
use Rattle.transport.specs.LeadsBack.{SegmentOf}
use Rattle.transport.specs.Securing.{application_key_at, is_virtual}
use Rattle.transport.specs.Segment.{last_segment}
use Rattle.transport.proofs.SecureOpen.{secured_length}
use Rattle.node.specs.Addresses.{is_local, answers_to, for_node}
use Rattle.node.specs.Setup.{bound_within, keys_valid, next_within, elements_valid, groups_valid, index_valid, valid, bound_key_at, node_of, making}
use Rattle.node.specs.declared.addresses.Node.{Node}
use Rattle.receiver.specs.Fresh.{setting_up}
use Rattle.demands.specs.Instance.{shed, humidity, temperature, boxes, arrival, order, traffic, SceneMet}
use Rattle.demands.specs.Interleaved as scene
use Rattle.demands.specs.Interleaved.{Event, Segment, Foreign, Ask, Own, Spent, speech_at, Sent, Comes, Arrives, AllCome}
use Rattle.demands.specs.Refusal.{no_key_opens}
use Rattle.demands.specs.Speech.{Access, key_of, envelope_of, octets_of, last_of, header_of, Speakable}
use Rattle.demands.proofs.SpeechCut.{cut_is}
use Rattle.demands.proofs.OpenerLaws.{plain_read, plain_label}

pub ready : (setting_up shed).answer ≡ Ok tt
unfolding setting_up making valid keys_valid bound_within elements_valid next_within groups_valid index_valid first kind_of
ready = refl

abbrev pub node : Node
node = scene.node_of shed

-- what the receiver holds
pub record Held : Type 0 where
  pub one_network : node.networks ≡ 1
  pub one_application : node.applications ≡ 1
  pub bound_there : (application_key_at node.appkeys 0).bound ≡ 0
  pub index : node.iv ≡ 0x12345678
  pub here : for_node node 0x0001 ≡ true

pub holds : Held
unfolding setting_up making valid keys_valid bound_within elements_valid next_within groups_valid index_valid first kind_of node_of bound_key_at is_reserved answers_to for_node is_local
holds = record { one_network = refl; one_application = refl; bound_there = refl; index = refl; here = refl }

-- ---- the speeches
humidity_octets : length (octets_of node humidity) ≡ 24
humidity_octets =
    rw (cut_is node humidity (Access (Application 0) false (replicate 20 0x5a)) refl)
    (secured_length (key_of node (Application 0)) (envelope_of node humidity (Application 0) false) [] (replicate 20 0x5a))

humidity_last : last_of node humidity ≡ 1
unfolding last_of last_segment
humidity_last = rw humidity_octets refl

temperature_last : last_of node temperature ≡ 1
unfolding last_of last_segment octets_of
temperature_last = refl

speaks_humidity : Speakable node humidity
unfolding is_unicast is_virtual kind_of
speaks_humidity =
    let n = holds.one_network in
    let a = holds.one_application in
    let long = humidity_octets in
    record {
      from_unicast = refl;
      for_here = holds.here;
      dst_fits = omega arith;
      held = omega arith;
      near = inl (sym holds.index);
      words_read = (
        record { some = omega arith; enough = omega arith },
        λ msg room. plain_read node humidity false (octets_of node humidity) msg refl (omega arith) holds.bound_there,
        plain_label node humidity refl refl,
      );
    }

speaks_temperature : Speakable node temperature
unfolding is_unicast is_virtual kind_of
speaks_temperature =
    let n = holds.one_network in
    record {
      from_unicast = refl;
      for_here = holds.here;
      dst_fits = omega arith;
      held = omega arith;
      near = inr (sym holds.index);
      words_read = (record { some = omega arith; enough = omega arith }, record { not_zero = omega arith; opcode_fits = omega arith }, refl);
    }

others : (k : ℕ) → k < 2 → is_local node (speech_at boxes k).src ≡ false
unfolding setting_up making valid keys_valid bound_within elements_valid next_within groups_valid index_valid first kind_of node_of is_local
others zero h = refl
others (suc zero) h = refl
others (suc (suc k)) h = absurd (omega arith)

speaks : (k : ℕ) → k < 2 → Speakable node (speech_at boxes k)
speaks zero h = speaks_humidity
speaks (suc zero) h = speaks_temperature
speaks (suc (suc k)) h = absurd (omega arith)

differ : (j k : ℕ) → j < 2 → k < 2 → (speech_at boxes j).src ≡ (speech_at boxes k).src → j ≡ k
differ zero zero hj hk e = refl
differ zero (suc zero) hj hk e = absurd (omega arith)
differ (suc zero) zero hj hk e = absurd (omega arith)
differ (suc zero) (suc zero) hj hk e = refl
differ zero (suc (suc k)) hj hk e = absurd (omega arith)
differ (suc zero) (suc (suc k)) hj hk e = absurd (omega arith)
differ (suc (suc j)) k hj hk e = absurd (omega arith)

-- ---- what comes
-- numbers 0x101 and 0x201 were spent on segments 1, all others on segments 0
abbrev spent : Spent
spent k n = if eqb n 0x101 || eqb n 0x201 then 1 else 0

-- both speak under the first network key, so none is tried earlier
first_key : (k : ℕ) → k < 2 → (speech_at boxes k).network ≡ 0
first_key zero h = refl
first_key (suc zero) h = refl
first_key (suc (suc k)) h = absurd (omega arith)

last_is : (k : ℕ) → k < 2 → last_of node (speech_at boxes k) ≡ 1
last_is zero h = humidity_last
last_is (suc zero) h = temperature_last
last_is (suc (suc k)) h = absurd (omega arith)

sent_as_law :
    (k i seq ttl : ℕ) → k < 2 → i ≤ 1 → i ≡ spent k seq → SegmentOf (speech_at boxes k).auth.seq seq → seq ≤ 0xFFFFFF → ttl ≤ 127
    → Sent node boxes spent k i seq ttl
unfolding header_of
sent_as_law k i seq ttl hk hi e t fs ft =
    let w = speaks k hk in
    let last = last_is k hk in
    let key = first_key k hk in
    record {
      one_of = hk;
      segment_there = omega arith;
      number_spent = e;
      in_time = t;
      seq_fits = fs;
      ttl_fits = ft;
      own_key_first = record { held = w.held; near = w.near; none_before = λ j h. absurd (omega arith) };
    }

-- its buffers have room
arrives : (e : Event) → Comes node boxes spent e → Arrives node boxes spent (arrival e)
arrives e c = record { comes = c; room_forward = omega arith; room_message = omega arith }

-- one octet is no PDU
pub short_foreign : no_key_opens (opening node.materials node.networks node.iv (0x68 ∷ [])).opened ≡ true
unfolding opening
short_foreign = refl

within_time : (first seq : ℕ) → first ≤ seq → seq ≤ first + 8191 → SegmentOf first seq
within_time first seq a b = record { later = a; near = b }

all_come : AllCome shed boxes traffic
unfolding has_bit with_bit
all_come zero zero hk hi = refl
all_come zero (suc zero) hk hi = refl
all_come zero (suc (suc i)) hk hi = let l = humidity_last in absurd (omega arith)
all_come (suc zero) zero hk hi = refl
all_come (suc zero) (suc zero) hk hi = refl
all_come (suc zero) (suc (suc i)) hk hi = let l = temperature_last in absurd (omega arith)
all_come (suc (suc k)) i hk hi = absurd (omega arith)

pub scene_met : SceneMet
scene_met = (
  record {
    ready = ready;
    eight_at_most = omega arith;
    speakable = speaks;
    sources_differ = differ;
    others = others;
    spent = spent;
    arrives = (
      arrives (Segment 0 1 0x000101 5) (sent_as_law 0 1 0x000101 5 (omega arith) (omega arith) refl (within_time 0x100 0x101 (omega arith) (omega arith)) (omega arith) (omega arith)),
      (
        arrives (Foreign (0x68 ∷ [])) short_foreign,
        (
          arrives (Segment 1 0 0x000200 7) (sent_as_law 1 0 0x000200 7 (omega arith) (omega arith) refl (within_time 0x200 0x200 (omega arith) (omega arith)) (omega arith) (omega arith)),
          (
            arrives (Segment 0 1 0x000101 4) (sent_as_law 0 1 0x000101 4 (omega arith) (omega arith) refl (within_time 0x100 0x101 (omega arith) (omega arith)) (omega arith) (omega arith)),
            (
              arrives (Ask 0 0x0002) (tt {0}),
              (
                arrives (Own order) refl,
                (
                  arrives (Segment 1 1 0x000201 7) (sent_as_law 1 1 0x000201 7 (omega arith) (omega arith) refl (within_time 0x200 0x201 (omega arith) (omega arith)) (omega arith) (omega arith)),
                  (
                    arrives (Segment 0 0 0x000102 5) (sent_as_law 0 0 0x000102 5 (omega arith) (omega arith) refl (within_time 0x100 0x102 (omega arith) (omega arith)) (omega arith) (omega arith)),
                    (
                      arrives (Segment 0 0 0x000103 5) (sent_as_law 0 0 0x000103 5 (omega arith) (omega arith) refl (within_time 0x100 0x103 (omega arith) (omega arith)) (omega arith) (omega arith)),
                      tt {0},
                    ),
                  ),
                ),
              ),
            ),
          ),
        ),
      ),
    );
  },
  all_come,
)
