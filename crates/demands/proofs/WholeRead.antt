-- A message that went whole, heard any number of times. Before its PDU comes nothing has changed, so it is handed up as a fresh receiver does it; behind it the cache has its SRC and SEQ for
-- good, since nothing else passes, so every further copy, whatever its TTL, is refused 5. Assumes nothing.
--   each_whole    what each hearing hands up, stores and counts
use mathlib.Core.Bool.{Bool, true, false, true≢false, false≢true}
use mathlib.Core.List.{List, [], ◌∷◌}
use mathlib.Core.Path.{◌≡◌, refl, sym, ap, ◌∙◌, subst}
use Prim.Native.Nat.{ℕ, zero, suc, ◌+◌, ◌^◌, ◌≤◌, ◌<◌}
use native.Mathlib.Omega.{arith}
use borrow.Author.Tests.{eq-eqb}
use lib.ListN.{length}
use Rattle.std.specs.Prelude.{Ok}
use Rattle.common.specs.Bits.{has_bit, with_bit, all_bits}
use Rattle.common.proofs.BitLaws.{has_none, with_of_set, with_of_clear, has_with_own, all_of_bits}
use Rattle.keys.specs.declared.NetworkKeys.{NetworkKeys}
use Rattle.network.specs.declared.header.Header.{Header}
use Rattle.network.specs.Candidates.{key_at}
use Rattle.network.specs.Opening.{opening}
use Rattle.network.specs.Pdu.{pdu_octets, pdu_of}
use Rattle.network.specs.Sealing.{sealable}
use Rattle.network.specs.SealOpen.{Formed, Receives}
use Rattle.network.proofs.AddressLaws.{unicast_some}
use Rattle.network.proofs.SealOpen.{open_seal}
use Rattle.transport.specs.Segment.{message_octets}
use Rattle.memory.specs.Cache.{seen}
use Rattle.node.specs.declared.addresses.Node.{Node}
use Rattle.node.specs.declared.setup.Setup.{Setup}
use Rattle.node.specs.Addresses.{is_local, for_node}
use Rattle.node.proofs.IndexLaws.{same_node}
use Rattle.receiver.specs.declared.answer.Refusal.TheVariants.{Cached}
use Rattle.receiver.specs.declared.state.Receiver.{Receiver}
use Rattle.receiver.specs.Fresh.{setting_up}
use Rattle.receiver.specs.Hearing as hear
use Rattle.receiver.specs.Hearing.{outcome, refused_heard}
use Rattle.receiver.specs.Passing.{Opens}
use Rattle.receiver.proofs.Opened.{opens_clear}
use Rattle.receiver.proofs.Laws.Fixed.{fixed_heard}
use Rattle.receiver.proofs.Laws.Fresh.{fresh_unseen}
use Rattle.receiver.proofs.Laws.Heard.{heard_unopened, heard_again}
use Rattle.demands.specs.Call.{Hear, Outcome, left_heard, step}
use Rattle.demands.specs.Interleaved.{start, node_of, is_last_missing, Each, handed}
use Rattle.demands.specs.ReadBack.{Piece, Incoming, Made, Relayed, Unopened, Hearing, piece_at, relayed_with, pdu_heard, came_with, OwnKeyFirst, ComesAs, Hears, Reads, ReadsAs, ReadsEach}
use Rattle.demands.specs.Refusal.{no_key_opens}
use Rattle.demands.specs.Speech.{Speech, network_place}
use Rattle.demands.proofs.Refusal.{unopened, unopened_leaves}
use Rattle.demands.proofs.ReadOnce.{Within, AllWithin}
use Rattle.demands.proofs.RelayLaws.{ttl_sealable, relayed_sealed}
use Rattle.demands.proofs.WholeSent.{whole_header, Reaches, Heard}

-- the only segment is the last that is missing
only_missing : is_last_missing 0 0 0 ≡ true
only_missing =
    let e = with_of_clear 0 0 (omega arith) (has_none 0) in
    let one : with_bit 0 0 < 2 ^ (0 + 1) = rw e (omega arith) in
    let all = all_of_bits 0 (with_bit 0 0) (omega arith) one (λ i h. let z : i ≡ 0 = omega arith in rw z (has_with_own 0 0 (omega arith))) in
    rw (has_none 0, eq-eqb (with_bit 0 0) (all_bits 0) all) refl

-- a PDU that no key opens hands up nothing
unopened_none : (r : Receiver) (pdu fwd msg : List ℕ) → no_key_opens (opening r.node.materials r.node.networks r.node.iv pdu).opened ≡ true
    → handed (step r (Hear pdu fwd msg)) ≡ []
unopened_none r pdu fwd msg t =
    let y = heard_unopened r fwd msg pdu (unopened (opening r.node.materials r.node.networks r.node.iv pdu).opened t) in
    ap (λ (o : hear.Outcome). handed (left_heard o)) y.1.leaves

module _ (setup : Setup) (s : Speech) (ctl : Bool) (body : List ℕ) (ttl : ℕ) (ttl_fits : ttl ≤ 127) where
  abbrev node : Node
  node = node_of setup

  abbrev key : NetworkKeys
  key = key_at node.materials s.network

  abbrev header : ℕ → Header
  header t = whole_header s ctl t body

  abbrev pdu_with : ℕ → List ℕ
  pdu_with t = pdu_of key (header t)

  -- what is known of the message, and how a fresh receiver hears it
  pub record Sendable : Type 0 where
    pub can : sealable key (header ttl) ≡ true
    pub formed : (t : ℕ) → Formed (header t)
    pub receives : (t : ℕ) → OwnKeyFirst node s (pdu_with t) → Receives node.materials node.networks node.iv (header t) (pdu_with t)
    pub other : is_local node s.src ≡ false
    pub here : for_node node s.dst ≡ true
    pub hands_up : (ready : (setting_up setup).answer ≡ Ok tt) (t : ℕ) (fwd msg : List ℕ) → Reaches setup s (header t) fwd msg → Heard setup ready s t fwd msg (header t)

  module _ (ready : (setting_up setup).answer ≡ Ok tt) (m : Sendable) (p : Piece) (segment_is : p.segment ≡ 0) (pdu_is : p.pdu ≡ pdu_with ttl) where
    abbrev ps : List Piece
    ps = p ∷ []

    can_with : (t : ℕ) → t ≤ 127 → sealable key (header t) ≡ true
    can_with t fits = ttl_sealable key (header ttl) t fits m.can

    -- passed on, it is the PDU with another TTL
    relayed_is : (t : ℕ) → relayed_with node s p.pdu t ≡ pdu_with t
    relayed_is t = relayed_sealed node s (header ttl) p.pdu refl refl pdu_is m.can (m.formed ttl) t

    -- ---- it comes for the first time
    module _ (t : ℕ) (fits : t ≤ 127) (first : OwnKeyFirst node s (pdu_with t)) (fwd msg : List ℕ) (wide : pdu_octets ≤ length fwd) (big : message_octets ≤ length msg) where
      opens : opening node.materials node.networks node.iv (pdu_with t) ≡ record { trials = network_place node s; opened = Ok (header t) }
      opens = open_seal node.materials node.networks node.iv (header t) (can_with t fits) (m.formed t) (m.receives t first)

      opens_in : (r : Receiver) → r.node ≡ node → Opens r (pdu_with t) fwd msg (network_place node s) (header t)
      opens_in r same = record { wide = wide; big = big; opens = rw same opens }

      up : Heard setup ready s t fwd msg (header t)
      up =
          let o = opens_in (start setup) refl in
          m.hands_up ready t fwd msg
          (record { passes = record { opened = o; other = m.other; new = fresh_unseen setup (header t) (unicast_some s.src (opens_clear o).unicast) }; here = m.here })

      first_reads : Reads node s 0 0 0 (step (start setup) (Hear (pdu_with t) fwd msg))
      first_reads =
          let l = only_missing in
          record {
            hands = up.hands ∙ rw l refl;
            stores = λ _ e. absurd (true≢false (sym l ∙ e));
            again = λ _ e. absurd (false≢true (sym (has_none 0) ∙ e));
            counts = up.counts ∙ rw l refl;
          }

      -- ---- it comes again
      module _ (r : Receiver) (bits : ℕ) (same : r.node ≡ node) (cached : (k : ℕ) → seen r.cache (header k) ≡ true) (has : has_bit bits 0 ≡ true) where
        refused : step r (Hear (pdu_with t) fwd msg) ≡ left_heard (outcome (refused_heard r Cached (network_place node s)) fwd msg)
        refused = ap left_heard (heard_again (opens_in r same) (rw same m.other) (cached t))

        again_reads : Reads node s 0 bits 0 (step r (Hear (pdu_with t) fwd msg))
        again_reads =
            record {
              hands = ap handed refused ∙ rw has refl;
              stores = λ e _. absurd (true≢false (sym has ∙ e));
              again = λ _ _. ap (λ (o : Outcome). o.answer) refused;
              counts = ap (λ (o : Outcome). o.tried) refused ∙ rw has refl;
            }

    -- ---- which copy it is
    record Copy (i : ℕ) (pdu : List ℕ) : Type 0 where
      with_ttl_law : ℕ
      fits : with_ttl_law ≤ 127
      first : OwnKeyFirst node s (pdu_with with_ttl_law)
      heard_is : pdu ≡ pdu_with with_ttl_law
      place_is : piece_at ps i ≡ p

    only : (i : ℕ) → i < 1 → piece_at ps i ≡ p
    only zero h = refl
    only (suc i) h = absurd (omega arith)

    made_copy : (i : ℕ) → ComesAs node s ps (Made i) → Copy i (pdu_heard node s ps (Made i))
    made_copy i v =
        let place = only i v.place_there in
        let e = ap (λ (x : Piece). x.pdu) place ∙ pdu_is in
        record { with_ttl_law = ttl; fits = ttl_fits; first = subst (OwnKeyFirst node s) e v.own_key_first; heard_is = e; place_is = place }

    relayed_copy : (i t : ℕ) → ComesAs node s ps (Relayed i t) → Copy i (pdu_heard node s ps (Relayed i t))
    relayed_copy i t v =
        let place = only i v.0.place_there in
        let e = ap (λ (x : Piece). relayed_with node s x.pdu t) place ∙ relayed_is t in
        record { with_ttl_law = t; fits = v.1; first = subst (OwnKeyFirst node s) e v.0.own_key_first; heard_is = e; place_is = place }

    segment_zero : (i : ℕ) (pdu : List ℕ) → Copy i pdu → (piece_at ps i).segment ≡ 0
    segment_zero i pdu c = ap (λ (x : Piece). x.segment) c.place_is ∙ segment_is

    -- what a hearing reads, and the rest behind it
    abbrev ReadsAll : Receiver → ℕ → List ℕ → List ℕ → List Hearing → ℕ → List ℕ → Type 0
    ReadsAll r bits fwd msg l n x =
        Reads node s 0 bits n (step r (Hear x fwd msg)) × ReadsEach node s ps 0 (step r (Hear x fwd msg)).receiver (with_bit bits n) l

    abbrev ReadsOn : Receiver → ℕ → List ℕ → List ℕ → List Hearing → Incoming → Type 0
    ReadsOn r bits fwd msg l w =
        let o = step r (Hear (pdu_heard node s ps w) fwd msg) in
        ReadsAs node s ps 0 bits w o × ReadsEach node s ps 0 o.receiver (came_with ps bits w) l

    -- a PDU that no key opens leaves everything
    unopened_on : (r : Receiver) (bits : ℕ) (fwd msg : List ℕ) (l : List Hearing) (pdu : List ℕ) → r.node ≡ node → ComesAs node s ps (Unopened pdu)
        → ReadsEach node s ps 0 r bits l → ReadsOn r bits fwd msg l (Unopened pdu)
    unopened_on r bits fwd msg l pdu same v rest =
        let none : no_key_opens (opening r.node.materials r.node.networks r.node.iv pdu).opened ≡ true = rw same v in
        (unopened_none r pdu fwd msg none, subst (λ (q : Receiver). ReadsEach node s ps 0 q bits l) (sym (unopened_leaves r pdu fwd msg none).receiver_stays) rest)

    -- of the PDU with some TTL it holds of what is heard
    by_copy : (r : Receiver) (bits : ℕ) (fwd msg : List ℕ) (l : List Hearing) (i : ℕ) (pdu : List ℕ) (c : Copy i pdu) → ReadsAll r bits fwd msg l 0 (pdu_with c.with_ttl_law)
        → ReadsAll r bits fwd msg l (piece_at ps i).segment pdu
    by_copy r bits fwd msg l i pdu c x =
        subst (λ (n : ℕ). ReadsAll r bits fwd msg l n pdu) (sym (segment_zero i pdu c)) (subst (ReadsAll r bits fwd msg l 0) (sym c.heard_is) x)

    -- ---- behind its first arrival every hearing leaves all as it is
    module _ (r : Receiver) (bits : ℕ) (same : r.node ≡ node) (cached : (k : ℕ) → seen r.cache (header k) ≡ true) (has : has_bit bits 0 ≡ true) where
      module _ (fwd msg : List ℕ) (wide : pdu_octets ≤ length fwd) (big : message_octets ≤ length msg) (l : List Hearing) (rest : ReadsEach node s ps 0 r bits l) where
        copy_again : (i : ℕ) (pdu : List ℕ) → Copy i pdu → ReadsAll r bits fwd msg l (piece_at ps i).segment pdu
        copy_again i pdu c =
            let t = c.with_ttl_law in
            let left = ap (λ (o : Outcome). o.receiver) (refused t c.fits c.first fwd msg wide big r bits same cached has) in
            by_copy r bits fwd msg l i pdu c (
              again_reads t c.fits c.first fwd msg wide big r bits same cached has,
              subst (λ (b : ℕ). ReadsEach node s ps 0 (step r (Hear (pdu_with t) fwd msg)).receiver b l) (sym (with_of_set bits 0 has))
                  (subst (λ (q : Receiver). ReadsEach node s ps 0 q bits l) (sym left) rest),
            )

        again_as : (w : Incoming) → ComesAs node s ps w → ReadsOn r bits fwd msg l w
        again_as (Made i) v = copy_again i _ (made_copy i v)
        again_as (Relayed i t) v = copy_again i _ (relayed_copy i t v)
        again_as (Unopened pdu) v = unopened_on r bits fwd msg l pdu same v rest

      reads_behind : (l : List Hearing) → Each (Hears node s ps) l → ReadsEach node s ps 0 r bits l
      reads_behind [] e = tt {0}
      reads_behind (h ∷ l) e =
          again_as h.forward h.message e.0.room_forward e.0.room_message l (reads_behind l e.1) h.what e.0.comes

    -- ---- its first arrival
    module _ (fwd msg : List ℕ) (wide : pdu_octets ≤ length fwd) (big : message_octets ≤ length msg) (l : List Hearing) (e : Each (Hears node s ps) l)
        (rest : ReadsEach node s ps 0 (start setup) 0 l) where
      copy_first : (i : ℕ) (pdu : List ℕ) → Copy i pdu → ReadsAll (start setup) 0 fwd msg l (piece_at ps i).segment pdu
      copy_first i pdu c =
          let t = c.with_ttl_law in
          let q = (step (start setup) (Hear (pdu_with t) fwd msg)).receiver in
          let stays = fixed_heard (start setup) fwd msg (pdu_with t) in
          let same : q.node ≡ node = same_node q.node node stays.setup_stays stays.index_stays in
          by_copy (start setup) 0 fwd msg l i pdu c (
            first_reads t c.fits c.first fwd msg wide big,
            reads_behind q (with_bit 0 0) same (λ k. (up t c.fits c.first fwd msg wide big).caches (header k) refl) (has_with_own 0 0 (omega arith)) l e,
          )

      first_as : (w : Incoming) → ComesAs node s ps w → ReadsOn (start setup) 0 fwd msg l w
      first_as (Made i) v = copy_first i _ (made_copy i v)
      first_as (Relayed i t) v = copy_first i _ (relayed_copy i t v)
      first_as (Unopened pdu) v = unopened_on (start setup) 0 fwd msg l pdu refl v rest

    pub each_whole : (l : List Hearing) → Each (Hears node s ps) l → ReadsEach node s ps 0 (start setup) 0 l
    each_whole [] e = tt {0}
    each_whole (h ∷ l) e =
        first_as h.forward h.message e.0.room_forward e.0.room_message l e.1 (each_whole l e.1) h.what e.0.comes

    -- ---- none is a segment past 0
    within_as : (w : Incoming) → ComesAs node s ps w → Within ps 0 w
    within_as (Made i) v = let z = segment_zero i _ (made_copy i v) in omega arith
    within_as (Relayed i t) v = let z = segment_zero i _ (relayed_copy i t v) in omega arith
    within_as (Unopened pdu) v = tt {0}

    pub whole_within : (l : List Hearing) → Each (Hears node s ps) l → AllWithin ps 0 l
    whole_within [] e = tt {0}
    whole_within (h ∷ l) e = (within_as h.what e.0.comes, whole_within l e.1)
