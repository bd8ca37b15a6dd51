-- The premises of `Forwards` hold of the instance, and it is forwarded; those of `ForNobody` and `GoesOn` hold of it with a reserved DST. The shed's key opens what it sealed, being the
-- only one, and a fresh receiver has seen nothing. No octet of the PDU is computed: a law says that they are octets, whatever the cipher gives. Those of `FreshUnderIndex` hold where the shed
-- heard it under the IV Index before: it is not for the shed, so it is refused 6 and entered, and the node stays. Assumes nothing.
use mathlib.Core.Bool.{true, false}
use mathlib.Core.List.{[], ◌∷◌}
use mathlib.Core.Logic.{◌⊎◌, inl, inr, ⊎_elim}
use mathlib.Core.Path.{◌≡◌, refl, sym, ap, ◌∙◌}
use Prim.Native.Nat.{ℕ, ◌+◌, ◌≤◌}
use native.Mathlib.Omega.{arith}
use lib.ListN.{length, replicate}
use Rattle.std.specs.Prelude.{Ok}
use Rattle.common.specs.Lent.{lent}
use Rattle.common.specs.Search.{first, picked}
use Rattle.common.proofs.Octets.{octets_tested}
use Rattle.keys.specs.declared.NetworkKeys.{NetworkKeys}
use Rattle.keys.proofs.Widths.{nid_low}
use Rattle.network.specs.declared.header.Header.{Header}
use Rattle.network.specs.Address.{kind_of, is_reserved, destination_kind, is_unicast}
use Rattle.network.specs.Candidates.{key_at, candidates}
use Rattle.network.specs.Opening.{opening}
use Rattle.network.specs.Pdu.{pdu_octets}
use Rattle.network.specs.Sealing.{sealable, forwards}
use Rattle.network.proofs.AddressLaws.{unicast_some, unicast_range, addresses_allowed_law}
use Rattle.network.proofs.PduOctets.{octets_pdu}
use Rattle.network.proofs.Sealed.{sealable_where}
use Rattle.network.proofs.SealOpen.{open_seal}
use Rattle.transport.specs.Segment.{message_octets}
use Rattle.memory.specs.Cache.{seen_of, seen}
use Rattle.memory.specs.Remembered.{last_entries}
use Rattle.node.specs.Addresses.{is_local, listens, answers_to, for_node, holds_label}
use Rattle.node.specs.Made.{WellMade}
use Rattle.node.specs.Setup.{bound_within, keys_valid, next_within, elements_valid, groups_valid, index_valid, valid, group_at, node_of, making, label_uuid_at}
use Rattle.receiver.specs.declared.answer.Refusal.TheVariants.{NotForNode}
use Rattle.receiver.specs.declared.state.Receiver.{Receiver}
use Rattle.receiver.specs.Fresh.{setting_up}
use Rattle.receiver.specs.Passing.{Opens}
use Rattle.receiver.specs.Whole.{refused_at}
use Rattle.receiver.proofs.Good.{good_fresh}
use Rattle.receiver.proofs.Laws.Fresh.{fresh_unseen}
use Rattle.receiver.proofs.Laws.Heard.{caching, Leaves, heard_elsewhere}
use Rattle.demands.specs.CacheHolds.{entered}
use Rattle.demands.specs.Call.{after}
use Rattle.demands.specs.Instance.{shed, passing_from, pdu_from, passing_under, pdu_under, passing, MetTo, ForwardingMet, ReservedMet, OwnMet, heard_before, IndexMet}
use Rattle.demands.specs.Interleaved.{start}
use Rattle.demands.proofs.Forwarding.{octet_keys}
use Rattle.demands.proofs.Instance.{ready, node, holds}

abbrev key : NetworkKeys
key = key_at node.materials 0

made : WellMade node
made = (good_fresh shed ready).node_made

nid_fits : key.nid ≤ 127
nid_fits = let n = holds.one_network in rw (made.derived 0 (omega arith)) (nid_low _)

-- no key is tried before it
one_trial : length (candidates node.materials 0 key.nid) + 1 ≡ 1
unfolding candidates picked
one_trial = refl

-- a DST that refusal 4 lets pass, under the shed's IV Index or the one before
module _ (src iv dst : ℕ) (from : is_unicast src ≡ true) (near : (iv ≡ 0x12345678) ⊎ (iv + 1 ≡ 0x12345678)) (fits : dst ≤ 0xFFFF) (may : destination_kind true (kind_of dst) ≡ true) where
  can : sealable key (passing_from src iv dst) ≡ true
  can =
      let allowed = addresses_allowed_law true src dst from may in
      sealable_where key (passing_from src iv dst) nid_fits (omega arith) (omega arith) allowed (omega arith) (omega arith)

  opens : opening node.materials node.networks node.iv (pdu_from src iv dst) ≡ record { trials = 1; opened = Ok (passing_from src iv dst) }
  opens =
      let n = holds.one_network in
      let i = holds.index in
      open_seal node.materials node.networks node.iv (passing_from src iv dst) can (record { dst_fits = omega arith; zeros_behind = refl })
      (record { held = omega arith; near = ⊎_elim (λ e. inl (e ∙ sym i)) (λ e. inr (e ∙ sym i)) near; none_before = λ j h. absurd (omega arith) })
      ∙ ap (λ (t : ℕ). record { trials = t; opened = Ok (passing_from src iv dst) }) one_trial

  -- the shed's node hears it, whatever else the receiver holds
  opens_in : (r : Receiver) → r.node ≡ node → Opens r (pdu_from src iv dst) (replicate pdu_octets 0) (replicate message_octets 0) 1 (passing_from src iv dst)
  opens_in r e = record { wide = omega arith; big = omega arith; opens = rw e opens }

  unseen : seen (start shed).cache (passing_from src iv dst) ≡ false
  unseen = fresh_unseen shed (passing_from src iv dst) (unicast_some src from)

two_unicast : is_unicast 0x0002 ≡ true
two_unicast = unicast_range 0x0002 (omega arith) (omega arith)

-- which addresses are the shed's
record Elements : Type 0 where
  two_other : is_local node 0x0002 ≡ false
  one_own : is_local node 0x0001 ≡ true

elements : Elements
unfolding setting_up making valid keys_valid bound_within elements_valid next_within groups_valid index_valid first kind_of node_of is_local
elements = record { two_other = refl; one_own = refl }

module _ (dst : ℕ) (fits : dst ≤ 0xFFFF) (may : destination_kind true (kind_of dst) ≡ true) where
  met_to : forwards node.relay (is_local node dst) (passing dst) ≡ true → MetTo dst
  met_to goes_on_law =
      let n = holds.one_network in (
        good_fresh shed ready,
        octets_pdu key (octet_keys node made 0 (omega arith)) (passing dst) nid_fits (octets_tested (0x03 ∷ 0x4b ∷ 0x50 ∷ 0x05 ∷ []) tt),
        record {
          opened = opens_in 0x0002 0x12345678 dst two_unicast (inl refl) fits may (start shed) refl;
          other = elements.two_other;
          new = unseen 0x0002 0x12345678 dst two_unicast (inl refl) fits may;
        },
        goes_on_law,
      )

-- relay is on, and DST is not the shed's
pub forwarding_met : ForwardingMet
unfolding setting_up making valid keys_valid bound_within elements_valid next_within groups_valid index_valid first kind_of node_of forwards is_local
forwarding_met = met_to 0x0003 (omega arith) refl refl

pub reserved_met : ReservedMet
unfolding setting_up making valid keys_valid bound_within elements_valid next_within groups_valid index_valid first kind_of is_reserved node_of forwards is_local
reserved_met = ((met_to 0xFF00 (omega arith) refl refl, refl), (met_to 0xFFFB (omega arith) refl refl, refl))

-- ---- to another box
-- it is not for the shed
elsewhere : for_node node 0x0003 ≡ false
unfolding setting_up making valid keys_valid bound_within elements_valid next_within groups_valid index_valid first kind_of is_reserved node_of group_at answers_to for_node is_local listens
    holds_label label_uuid_at
elsewhere = refl

may_three : destination_kind true (kind_of 0x0003) ≡ true
unfolding kind_of
may_three = refl

-- ---- our own voice
pub own_met : OwnMet
own_met =
    let from = unicast_range 0x0001 (omega arith) (omega arith) in
    record { opened = opens_in 0x0001 0x12345678 0x0003 from (inl refl) (omega arith) may_three (start shed) refl; own = elements.one_own }

-- ---- the cache
abbrev before : Header
before = passing_under 0x12345677 0x0003

opens_before : Opens (start shed) (pdu_under 0x12345677 0x0003) (replicate pdu_octets 0) (replicate message_octets 0) 1 before
opens_before = opens_in 0x0002 0x12345677 0x0003 two_unicast (inr refl) (omega arith) may_three (start shed) refl

-- heard first, it is refused 6 and entered
heard : Leaves (start shed) (pdu_under 0x12345677 0x0003) (replicate pdu_octets 0) (replicate message_octets 0) 1
    (lent (refused_at (caching (start shed) before) NotForNode 0) (replicate message_octets 0))
heard =
    heard_elsewhere (record { opened = opens_before; other = elements.two_other; new = unseen 0x0002 0x12345677 0x0003 two_unicast (inr refl) (omega arith) may_three }) elsewhere

one_entered : entered shed heard_before ≡ seen_of before ∷ []
one_entered = rw (heard.answers, opens_before.opens) refl

same_node : (after (start shed) heard_before).node ≡ node
same_node = ap (λ (r : Receiver). r.node) heard.left_is

pub index_met : IndexMet
unfolding last_entries
index_met =
    record {
      ready = ready;
      one_entered = one_entered;
      opens_now = opens_in 0x0002 0x12345678 0x0003 two_unicast (inl refl) (omega arith) may_three (after (start shed) heard_before) same_node;
      none_now = rw one_entered ((λ _ i. omega arith), tt {0});
      opens_again = opens_in 0x0002 0x12345677 0x0003 two_unicast (inr refl) (omega arith) may_three (after (start shed) heard_before) same_node;
      one_again = rw one_entered (inl refl);
    }
