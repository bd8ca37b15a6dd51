-- Sent in full and heard in order is one of the schedules of `ReadBack`: each call makes its segment, so the PDU at place i is segment i, and places 0 to SegN bring each. Assumes nothing.
use mathlib.Core.Bool.{true, or-true}
use mathlib.Core.List.{List, [], ◌∷◌}
use mathlib.Core.Path.{◌≡◌, refl, sym, ◌∙◌, subst}
use Prim.Native.Nat.{ℕ, zero, suc, ◌+◌, ◌≤◌, ◌<◌}
use native.Mathlib.Omega.{arith}
use borrow.Author.Tests.{eq-eqb, eqb-true, eqb-false}
use lib.Dec.{eqb}
use lib.ListN.{length}
use Rattle.common.specs.Lent.{Lent}
use Rattle.common.specs.Lists.{tab_from}
use Rattle.common.proofs.Tests.{by_test}
use Rattle.network.specs.Pdu.{pdu_octets}
use Rattle.transport.specs.Segment.{message_octets}
use Rattle.node.specs.declared.addresses.Node.{Node}
use Rattle.node.specs.declared.setup.Setup.{Setup}
use Rattle.receiver.specs.declared.state.Receiver.{Receiver}
use Rattle.sending.specs.declared.answer.Spoken.{Spoken}
use Rattle.sending.specs.declared.request.Request.{Request}
use Rattle.demands.specs.Call.{Outcome, left_said, step, run}
use Rattle.demands.specs.GoesOut.{rest_as, outcomes, rest_of}
use Rattle.demands.specs.InOrder.{in_order, InOrder}
use Rattle.demands.specs.Interleaved.{node_of, Each}
use Rattle.demands.specs.ReadBack.{say_call, said_by, pdu_made, Piece, pieces_as, made_of, seg_n_as, Made, piece_at, brings, OwnKeyFirst, Between, Hears}
use Rattle.demands.specs.Speech.{Words, Speech}
use Rattle.demands.proofs.Begun.{there, keeping, holds_begun, keeps_begun}
use Rattle.demands.proofs.Pieces.{Row, row_more, row_made}
use Rattle.demands.proofs.SentLaws.{kept_as, sending_as, Way, Whole, Begun, way, step_is}

-- ---- tables
-- what holds of each, one after another
infixr 5 ◌then◌
pub ◌then◌ : {A B : Type 0} → A → B → A × B
a then b = (a, b)

pub each_table : {A : Type 0} (P : A → Type 0) (f : ℕ → A) (n m : ℕ) → ((j : ℕ) → n ≤ j → j < n + m → P (f j)) → Each P (tab_from f n m)
each_table P f n zero g = tt {0}
each_table P f n (suc m) g = (g n (omega arith) (omega arith), each_table P f (suc n) m (λ j a b. g j (omega arith) (omega arith)))

-- what holds of each number of a table
pub each_below : (P : ℕ → Type 0) (n m : ℕ) → Each P (tab_from (λ i. i) n m) → (k : ℕ) → n ≤ k → k < n + m → P k
each_below P n zero e k a b = absurd (omega arith)
each_below P n (suc m) e k a b =
    by_test (eqb k n) (λ t. subst P (sym (eqb-true k n t)) e.0)
    (λ t. let x = eqb-false k n t in each_below P (suc n) m e.1 k (omega arith) (omega arith))

each_piece : (P : Piece → Type 0) (ps : List Piece) → Each P ps → (i : ℕ) → i < length ps → P (piece_at ps i)
each_piece P [] e i h = absurd (omega arith)
each_piece P (p ∷ ps) e zero h = e.0
each_piece P (p ∷ ps) e (suc i) h = each_piece P ps e.1 i (omega arith)

brings_table :
    (ps : List Piece) (fwd msg : List ℕ) (i n m : ℕ) → (piece_at ps i).segment ≡ i → n ≤ i → i < n + m
    → brings ps i (tab_from (λ j. record { what = Made j; forward = fwd; message = msg }) n m) ≡ true
brings_table ps fwd msg i n zero e a b = absurd (omega arith)
brings_table ps fwd msg i n (suc m) e a b =
    by_test (eqb i n)
    (λ t.
    let x = eqb-true i n t in
    let y : eqb (piece_at ps n).segment i ≡ true = subst (λ (j : ℕ). eqb (piece_at ps j).segment i ≡ true) x (eq-eqb (piece_at ps i).segment i e) in
    rw y refl)
    (λ t.
    let x = eqb-false i n t in
    rw (brings_table ps fwd msg i (suc n) m e (omega arith) (omega arith)) (or-true (eqb (piece_at ps n).segment i)))

-- ---- a row of PDUs, each heard once
module _ (node : Node) (s : Speech) (ps : List Piece) (n : ℕ) (row : Row ps 0 (suc n)) (own : Each (λ (p : Piece). OwnKeyFirst node s p.pdu) ps)
    (fwd msg : List ℕ) (wide : pdu_octets ≤ length fwd) (big : message_octets ≤ length msg) where
  row_hears : Each (Hears node s ps) (in_order n fwd msg)
  row_hears =
      each_table (Hears node s ps) (λ j. record { what = Made j; forward = fwd; message = msg }) 0 (suc n)
      (λ j a b.
      let long = row.long in
      let low : j < length ps = omega arith in
      record {
        comes = record { place_there = low; own_key_first = each_piece (λ (p : Piece). OwnKeyFirst node s p.pdu) ps own j low };
        room_forward = wide;
        room_message = big;
      })

  row_brings : (i : ℕ) → i ≤ n → brings ps i (in_order n fwd msg) ≡ true
  row_brings i h = brings_table ps fwd msg i 0 (suc n) (row.place_is i (omega arith) ∙ omega arith) (omega arith) (omega arith)

-- ---- what was sent in full is such a row
module _ (sender : Receiver) (setup : Setup) (q : Request) (words : Words) (buf : List ℕ) (b : Between sender setup q words) where
  abbrev said : Lent Spoken
  said = sending_as sender q words buf

  abbrev first : Outcome → Piece
  first x = record { segment = 0; pdu = pdu_made x }

  abbrev RowBy : Outcome → Type 0
  RowBy x =
      Each (λ y. y.made ≡ true) (run x.receiver (rest_as x.answer buf))
      → Row (first x ∷ pieces_as x.answer x.receiver (rest_as x.answer buf)) 0 (suc (seg_n_as x.answer))

  row_none : (p : Piece) → p.segment ≡ 0 → Row (p ∷ []) 0 1
  row_none p e = row_more p [] 0 0 e (record { long = refl; place_is = λ i h. absurd (omega arith) })

  row_way : Way sender q words said → RowBy (left_said said)
  row_way (Whole a w g) e = rw g.says (row_none _ refl)
  row_way (Begun a w g) e =
      let node = node_of setup in
      let good = b.good in
      let shared = b.shared in
      let low = there sender good node shared q words a in
      let own = keeping sender good node shared q words a in
      let kept = keeps_begun sender good node shared q words a buf g in
      let h = holds_begun sender good node shared q words a buf g in
      let behind = said.answer.receiver in
      let row = row_made sender good.node_made node shared q low (said_by sender q words) refl (kept_as sender q words) own buf (kept_as sender q words).terms.segn 1 behind _ kept h
      (rw g.says at e) in
      rw g.says (row_more _ _ 0 _ refl row)

  -- places 0 to SegN
  pub row_full :
      Each (λ o. o.made ≡ true) (outcomes sender q words buf)
      → Row (made_of sender q words buf (rest_of sender q words buf)) 0 (suc (seg_n_as (step sender (say_call q words buf)).answer))
  row_full sent =
      let e = step_is sender q words buf in
      let made = subst (λ (x : Outcome). x.made ≡ true) e sent.0 in
      subst RowBy (sym e) (row_way (way sender q words buf made)) sent.1

pub in_order_law : InOrder
in_order_law sender setup q words buf fwd msg b sent own wide big =
    let row = row_full sender setup q words buf b sent in
    let node = node_of setup in
    let s = said_by sender q words in
    let ps = made_of sender q words buf (rest_of sender q words buf) in
    record {
      telling = record { between = b; sent = sent.0; hears = row_hears node s ps _ row own fwd msg wide big };
      each_comes = row_brings node s ps _ row own fwd msg wide big;
    }
