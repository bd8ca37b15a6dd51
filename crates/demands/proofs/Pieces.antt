-- The PDUs that a sender makes of the message kept are segments of its speech, within 8,191 of SeqAuth, and their numbers ascend, whatever is called between: while a message is kept it is
-- the one that was begun, every call leaves the element's next SEQ at least where it was, and one that makes a PDU takes it. Assumes nothing.
--   Law, Laws              of a PDU, and of all of them
--   number_at, place_law   its number, and that the law holds of it
--   spent_on, spent_is     one number is spent on one segment
--   Holds, pieces_told     the sender behind any calls, and what they make
--   holds_behind           while the message is kept
--   segment_goes           a segment that it makes
--   row_made               segments made in order
use mathlib.Core.Bool.{true, false, false≢true}
use mathlib.Core.List.{List, [], ◌∷◌, ◌++◌}
use mathlib.Core.Path.{◌≡◌, refl, sym, ap, ◌∙◌, subst}
use Prim.Native.Nat.{ℕ, zero, suc, ◌+◌, ◌≤◌, ◌<◌, min}
use native.Mathlib.Omega.{arith}
use borrow.Author.Tests.{eq-eqb, ne_eqb, eqb-false}
use lib.Dec.{eqb}
use lib.ListN.{length, take}
use Rattle.std.specs.Prelude.{if◌then◌else◌}
use Rattle.common.specs.Bits.{has_bit}
use Rattle.common.specs.Lent.{Lent}
use Rattle.common.specs.Lists.{tab_from}
use Rattle.common.proofs.Tests.{by_choice}
use Rattle.network.specs.declared.header.Header.{Header}
use Rattle.network.specs.Candidates.{network_key_places, key_at}
use Rattle.network.specs.Pdu.{pdu_octets}
use Rattle.network.specs.Sealing.{sealable}
use Rattle.memory.specs.declared.outgoing.Outgoing.{Outgoing}
use Rattle.node.specs.declared.addresses.Node.{Node}
use Rattle.node.specs.Addresses.{element_places, is_local}
use Rattle.node.specs.Index.{SameFixed}
use Rattle.node.specs.Made.{WellMade}
use Rattle.receiver.specs.declared.state.Receiver.{Receiver}
use Rattle.receiver.specs.Good.{Good}
use Rattle.sending.specs.declared.answer.Spoken.{Spoken}
use Rattle.sending.specs.declared.request.Request.{Request}
use Rattle.sending.specs.Request.{ttl_of}
use Rattle.sending.specs.Segment.{segment_header, element_at, segment_allowed, sending_segment}
use Rattle.sending.specs.Transmission.{address_of, next_seq, stamped}
use Rattle.sending.proofs.Laws.Allowed.{SegmentAllows, segment_allows, segment_allowed_law}
use Rattle.sending.proofs.Laws.Calls.{walk_segment, segment_sent}
use Rattle.sending.proofs.Laws.Stamped.{address_local, element_back, address_fixed, local_fixed, element_fixed}
use Rattle.sending.proofs.Laws.Transmitted.{Sends, used_own, saying, saying_is}
use Rattle.demands.specs.Call.{Call, Hear, GiveUp, SendAccess, SendControl, SendSegment, Acknowledge, Stop, made_by, step, run, after}
use Rattle.demands.specs.GoesOut.{StaysKept}
use Rattle.demands.specs.Interleaved.{Each}
use Rattle.demands.specs.ReadBack.{Shared, pdu_made, Piece, piece, pieces, piece_at}
use Rattle.demands.specs.Speech.{Speech, last_of, header_of, segment_pdu}
use Rattle.demands.proofs.Invariant.{good_step}
use Rattle.demands.proofs.NeverTwice.{next_rises}
use Rattle.demands.proofs.SaidLaws.{Kept, header_said, key_said}
use Rattle.demands.proofs.SentLaws.{Transmits, SaidBy, said_by_law}
use Rattle.demands.proofs.Still.{Same, Still, header_same, still_step, fixed_step}

-- ---- what holds of a PDU made, and of all of them
module _ (node : Node) (s : Speech) (ttl : ℕ) where
  -- it is sealed from a header of the speech, with this number
  pub record Of (number : ℕ) (p : Piece) : Type 0 where
    pub pdu_is : p.pdu ≡ segment_pdu node s p.segment number ttl
    pub can : sealable (key_at node.materials s.network) (header_of node s p.segment number ttl) ≡ true
    pub segment_there : p.segment ≤ last_of node s
    pub near : number ≤ s.auth.seq + 8191

  pub record Law (n number : ℕ) (p : Piece) : Type 0 where
    pub of : Of number p
    pub from : n ≤ number

  -- their numbers ascend from n
  abbrev pub Laws : ℕ → List Piece → Type 0
  Laws n [] = Unit {0}
  Laws n (p ∷ l) = (number : ℕ) × Law n number p × Laws (suc number) l

  -- the number of the PDU at a place
  abbrev pub number_at : (l : List Piece) (n : ℕ) → Laws n l → ℕ → ℕ
  number_at [] n e i = 0
  number_at (p ∷ l) n e zero = e.0
  number_at (p ∷ l) n e (suc i) = number_at l (suc e.0) e.2 i

  pub place_law : (l : List Piece) (n : ℕ) (e : Laws n l) (i : ℕ) → i < length l → Law n (number_at l n e i) (piece_at l i)
  place_law [] n e i h = absurd (omega arith)
  place_law (p ∷ l) n e zero h = e.1
  place_law (p ∷ l) n e (suc i) h =
      let x = place_law l (suc e.0) e.2 i (omega arith) in
      let a = e.1.from in
      let b = x.from in
      record { of = x.of; from = omega arith }

  -- the segment that a number was spent on
  abbrev pub spent_on : (l : List Piece) (n : ℕ) → Laws n l → ℕ → ℕ
  spent_on [] n e number = 0
  spent_on (p ∷ l) n e number = if eqb e.0 number then p.segment else spent_on l (suc e.0) e.2 number

  pub spent_is : (l : List Piece) (n : ℕ) (e : Laws n l) (i : ℕ) → i < length l → (piece_at l i).segment ≡ spent_on l n e (number_at l n e i)
  spent_is [] n e i h = absurd (omega arith)
  spent_is (p ∷ l) n e zero h = rw (eq-eqb e.0 e.0 refl) refl
  spent_is (p ∷ l) n e (suc i) h =
      let b = (place_law l (suc e.0) e.2 i (omega arith)).from in
      rw (ne_eqb e.0 (number_at l (suc e.0) e.2 i) (λ x. omega arith)) (spent_is l (suc e.0) e.2 i (omega arith))

-- ---- PDUs in order: segments n and on
pub record Row (ps : List Piece) (n m : ℕ) : Type 0 where
  pub long : length ps ≡ m
  pub place_is : (i : ℕ) → i < m → (piece_at ps i).segment ≡ n + i

row_place : (p : Piece) (ps : List Piece) (n m : ℕ) → p.segment ≡ n → Row ps (suc n) m → (i : ℕ) → i < suc m → (piece_at (p ∷ ps) i).segment ≡ n + i
row_place p ps n m e x zero b = omega arith
row_place p ps n m e x (suc i) b = let f = x.place_is i (omega arith) in omega arith

pub row_more : (p : Piece) (ps : List Piece) (n m : ℕ) → p.segment ≡ n → Row ps (suc n) m → Row (p ∷ ps) n (suc m)
row_more p ps n m e x =
    let places : (i : ℕ) → i < suc m → (piece_at (p ∷ ps) i).segment ≡ n + i = row_place p ps n m e x in
    record { long = ap suc x.long; place_is = places }

-- ---- the sender
module _ (sender : Receiver) (own : WellMade sender.node) (node : Node) (shared : Shared sender.node node) (q : Request)
    (there : q.element < min sender.node.elements element_places) (s : Speech) (src_is : address_of sender.node q.element ≡ s.src)
    (o : Outgoing) (kept : Kept sender node shared q s o) where
  abbrev element : ℕ
  element = q.element

  abbrev ttl : ℕ
  ttl = ttl_of q.ttl

  -- ---- a segment of the message, as it is stamped
  module _ (r : Receiver) (n : ℕ) (fixed_is : SameFixed r.node sender.node) where
    address : address_of r.node element ≡ s.src
    address = address_fixed r.node sender.node fixed_is element ∙ src_is

    pub header_is : stamped r element (segment_header o n) ≡ header_of node s n (next_seq r element) ttl
    header_is = header_said sender node shared q s o kept r element n address

    pub key_number : (segment_header o n).key ≡ s.network
    key_number = key_said sender node shared q s o kept r element n address

    pub key_is : key_at r.node.materials (segment_header o n).key ≡ key_at node.materials s.network
    key_is = rw (key_number, ap (λ (x : Node). x.materials) fixed_is, shared.materials_same) refl

    -- what is transmitted is the speech's segment
    module _ (len : ℕ) (b : List ℕ) (t : Transmits r element (segment_header o n) len b) where
      pub can_told : sealable (key_at node.materials s.network) (header_of node s n (next_seq r element) ttl) ≡ true
      can_told = rw (← key_is, ← header_is) t.can

      pub pdu_told : take len b ≡ segment_pdu node s n (next_seq r element) ttl
      pdu_told = t.pdu ∙ rw (key_is, header_is) refl

  -- the sender behind any calls; numbers from n on are left
  pub record Holds (r : Receiver) (n : ℕ) : Type 0 where
    pub good : Good r
    pub fixed_is : SameFixed r.node sender.node
    pub still : Still o r.out
    pub from : n ≤ next_seq r element

  holds_step : (r : Receiver) (c : Call) (n : ℕ) → (r.out.src ≡ 0 → ⊥) → Holds r n → Holds (step r c).receiver n
  holds_step r c n z h =
      let a = next_rises r c element in
      let b = h.from in
      record { good = good_step r c h.good; fixed_is = fixed_step r c ∙ h.fixed_is; still = still_step o r z h.still c; from = omega arith }

  -- ---- a segment
  module _ (r : Receiver) (k n : ℕ) (buf : List ℕ) (z : r.out.src ≡ 0 → ⊥) (h : Holds r k) where
    same : Same o r.out
    same = h.still z

    source_same : r.out.src ≡ address_of sender.node element
    source_same = ap (λ (x : Outgoing). x.src) same ∙ kept.src_is ∙ sym src_is

    last_same : r.out.terms.segn ≡ last_of node s
    last_same = ap (λ (x : Outgoing). x.terms.segn) same ∙ rw kept.terms_is refl

    first_same : r.out.auth.seq ≡ s.auth.seq
    first_same = ap (λ (x : Outgoing). x.auth.seq) same ∙ rw kept.auth_is refl

    speaks : element_at r.node r.out.src ≡ element
    speaks =
        element_fixed r.node sender.node h.fixed_is r.out.src ∙ ap (element_at sender.node) source_same ∙ element_back sender.node own element there

    local_here : is_local r.node r.out.src ≡ true
    local_here = local_fixed r.node sender.node h.fixed_is r.out.src ∙ ap (is_local sender.node) source_same ∙ address_local sender.node own element there

    record SendsOne (x : Lent Spoken) : Type 0 where
      said : SaidBy r element (segment_header o n) x
      allows : SegmentAllows r element n

    sends : made_by (sending_segment r n buf).answer.answer ≡ true → SendsOne (sending_segment r n buf)
    sends =
        let By : ℕ → Header → Type 0 =
        λ a x. segment_allowed r a n ≡ true → made_by (saying r a x buf).answer.answer ≡ true → SendsOne (saying r a x buf) in
        let here : By element (segment_header o n) =
        λ a m. record { said = said_by_law r element buf (segment_header o n) m; allows = segment_allows r element n a } in
        let named : By element (segment_header r.out n) = subst (λ (x : Header). By element x) (sym (header_same o r.out n same)) here in
        walk_segment r buf (λ (x : Lent Spoken). made_by x.answer.answer ≡ true → SendsOne x) (λ _ _ m. absurd (false≢true m)) n
        (λ _. subst (λ (a : ℕ). By a (segment_header r.out n)) (sym speaks) named)

    abbrev c : Call
    c = SendSegment n buf

    abbrev piece_by : Piece
    piece_by = record { segment = n; pdu = pdu_made (step r c) }

    module _ (m : (step r c).made ≡ true) where
      sent : SendsOne (sending_segment r n buf)
      sent = sends m

      pub leaves_out : (step r c).receiver.out ≡ r.out
      leaves_out = rw sent.said.leaves refl

      of_own : Of node s ttl (next_seq r element) piece_by
      of_own =
          let b = sent.said in
          let last = last_same in
          let first = first_same in
          let near = sent.allows.near in
          let low = sent.allows.segment_there in
          record {
            pdu_is = rw b.says (pdu_told r n h.fixed_is b.len _ b.transmitted_is);
            can = can_told r n h.fixed_is b.len _ b.transmitted_is;
            segment_there = omega arith;
            near = omega arith;
          }

      law_piece : Law node s ttl k (next_seq r element) piece_by
      law_piece = record { of = of_own; from = h.from }

      pub raised : next_seq (step r c).receiver element ≡ next_seq r element + 1
      raised =
          let t = there in
          let p = h.good.next_well.places in
          rw sent.said.leaves (used_own r element (omega arith))

      pub holds_more : Holds (step r c).receiver (suc (next_seq r element))
      holds_more =
          let x = holds_step r c k z h in
          let e = raised in
          record { good = x.good; fixed_is = x.fixed_is; still = x.still; from = omega arith }

  -- ---- any calls
  -- one, where it is so of the rest
  module _ (l : List Call) (rest : (r : Receiver) (k : ℕ) → Holds r k → Laws node s ttl k (pieces r l)) (r : Receiver) (k : ℕ) (z : r.out.src ≡ 0 → ⊥) (h : Holds r k) where
    call_told : (c : Call) → Laws node s ttl k (piece r c ++ pieces (step r c).receiver l)
    call_told (Hear pdu fwd msg) = rest _ k (holds_step r (Hear pdu fwd msg) k z h)
    call_told (GiveUp src) = rest _ k (holds_step r (GiveUp src) k z h)
    call_told (SendAccess p key szmic payload buf) = rest _ k (holds_step r (SendAccess p key szmic payload buf) k z h)
    call_told (SendControl p opcode parameters buf) = rest _ k (holds_step r (SendControl p opcode parameters buf) k z h)
    call_told (SendSegment n buf) =
        let x = (step r (SendSegment n buf)).receiver in
        by_choice (λ (ps : List Piece). Laws node s ttl k (ps ++ pieces x l)) (step r (SendSegment n buf)).made
        (λ m. (next_seq r element, law_piece r k n buf z h m, rest x _ (holds_more r k n buf z h m)))
        (λ _. rest x k (holds_step r (SendSegment n buf) k z h))
    call_told (Acknowledge net src buf) = rest _ k (holds_step r (Acknowledge net src buf) k z h)
    call_told Stop = rest _ k (holds_step r Stop k z h)

  pub pieces_told : (l : List Call) (r : Receiver) (k : ℕ) → Holds r k → Laws node s ttl k (pieces r l)
  pieces_told [] r k h = tt {0}
  pieces_told (c ∷ l) r k h =
      by_choice (Laws node s ttl k) (eqb r.out.src 0) (λ _. tt {0}) (λ t. call_told l (pieces_told l) r k (eqb-false r.out.src 0 t) h c)

  -- ---- while it is kept
  pub holds_behind : (l : List Call) (r : Receiver) (k : ℕ) → StaysKept r l → Holds r k → Holds (after r l) k
  holds_behind [] r k e h = h
  holds_behind (c ∷ l) r k e h = holds_behind l (step r c).receiver k e.1 (holds_step r c k e.0 h)

  pub kept_behind : (l : List Call) (r : Receiver) → StaysKept r l → (after r l).out.src ≡ 0 → ⊥
  kept_behind [] r e = e
  kept_behind (c ∷ l) r e = kept_behind l (step r c).receiver e.1

  -- a segment of it that can be sealed is made
  module _ (r : Receiver) (k n : ℕ) (buf : List ℕ) (z : r.out.src ≡ 0 → ⊥) (h : Holds r k) (low : s.network < network_key_places)
      (can : sealable (key_at node.materials s.network) (header_of node s n (next_seq r element) ttl) ≡ true) (last : n ≤ last_of node s) (place : n ≤ 31)
      (unheard : has_bit r.out.heard n ≡ false) (wide : pdu_octets ≤ length buf) (near : next_seq r element ≤ s.auth.seq + 8191)
      (left_seq : next_seq r element ≤ 0xFFFFFF) where
    goes : Sends r element (segment_header o n) buf
    goes =
        record {
          seq_left = left_seq;
          key_there = subst (λ (x : ℕ). x < network_key_places) (sym (key_number r n h.fixed_is)) low;
          wide = wide;
          can = rw (key_is r n h.fixed_is, header_is r n h.fixed_is) can;
        }

    allowed_here : segment_allowed r element n ≡ true
    allowed_here =
        let segn = last_same r k n buf z h in
        let auth = first_same r k n buf z h in
        segment_allowed_law r element n z (omega arith) place unheard (omega arith)

    pub segment_goes : (step r (SendSegment n buf)).made ≡ true
    segment_goes =
        let t = there in
        rw (segment_sent r buf wide n element (local_here r k n buf z h) (speaks r k n buf z h) allowed_here, header_same o r.out n (h.still z))
        (ap (λ (x : Lent Spoken). made_by x.answer.answer) (saying_is r element (segment_header o n) buf goes))

  -- ---- in order
  pub row_made :
      (buf : List ℕ) (m n : ℕ) (r : Receiver) (k : ℕ) → (r.out.src ≡ 0 → ⊥) → Holds r k
      → (let l = tab_from (λ j. SendSegment j buf) n m in Each (λ x. x.made ≡ true) (run r l) → Row (pieces r l) n m)
  row_made buf zero n r k z h e = record { long = refl; place_is = λ i b. absurd (omega arith) }
  row_made buf (suc m) n r k z h e =
      let c = SendSegment n buf in
      let y = (step r c).receiver in
      let keeps : y.out.src ≡ 0 → ⊥ = rw (leaves_out r k n buf z h e.0) z in
      rw (ne_eqb r.out.src 0 z, e.0)
      (row_more _ _ n m refl (row_made buf m (suc n) y k keeps (holds_step r c k z h) e.1))
