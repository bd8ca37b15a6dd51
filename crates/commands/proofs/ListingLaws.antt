-- The PDUs of a line, put behind one another field by field: what is left to put behind those that were put, and how that goes on. Nothing is cut,
-- since a line's list is no longer than the line: a text has at least as many characters as octets, and the space before it makes up for the octet
-- with its length.
-- Assumes nothing.
use mathlib.Core.Path.{◌≡◌, refl, sym, ap, ◌∙◌}
use mathlib.Core.Bool.{Bool, true, false}
use mathlib.Core.List.{List, [], ◌∷◌}
use Prim.Native.Nat.{ℕ, zero, suc, ◌+◌, ◌/◌, ◌%◌, ◌≤◌, ◌<◌}
use native.Mathlib.Numerals.{add-one}
use native.Mathlib.Omega.{arith}
use borrow.Author.Tests.{eqb-true, eqb-false, ltb-false}
use lib.Dec.{eqb, ltb}
use lib.ListN.{length, get_or, take, drop, replicate, length-append, length-take}
use lib.Seq.{drop-cons, take_all, length-take-le}
use Rattle.std.specs.Prelude.{Option, Some, None, if◌then◌else◌}
use Rattle.std.proofs.lemmas.List.{drop_all}
use Rattle.common.specs.Lent.{Lent, lent}
use Rattle.common.specs.Lists.{onto, same}
use Rattle.common.specs.Search.{first}
use Rattle.common.proofs.Tests.{by_test, by_choice}
use Rattle.transport.specs.Listed.{written}
use Rattle.text.specs.Field.{is, behind, field_of, fields}
use Rattle.text.specs.Hex.{reading_pairs, reading}
use Rattle.text.specs.Written.{putting}
use Rattle.text.proofs.FieldLaws.{fields_past, fields_space, fields_other, fields_from_two}
use Rattle.text.proofs.WrittenLaws.{put_nothing, put_then, put_within}
use Rattle.commands.specs.Listing.{octets_of, pdu_of, are_pdus, leading_pdus, listing}
use Rattle.commands.specs.Request.{with_field}

-- ---- how many octets a text has
-- at most so many
abbrev AtMost : ℕ → Option ℕ → Type 0
AtMost most a = (n : ℕ) → a ≡ Some n → n ≤ most

none_at_most : (most : ℕ) → AtMost most None
none_at_most most n e = cc

count_at_most : (most k : ℕ) → k ≤ most → AtMost most (Some k)
count_at_most most k h n e = let q : k ≡ n = cc in omega arith

-- one for two characters, as far as there is room
read_at_most : (text out : List ℕ) (most : ℕ) → (length text / 2 ≤ length out → length text / 2 ≤ most) → AtMost most (reading text out).answer
unfolding reading
read_at_most text out most enough =
    let half = length text / 2 in
    let Read : Lent (Option ℕ) → Type 0 = λ p. AtMost most p.answer in
    by_choice Read (same text (45 ∷ [])) (λ t. count_at_most most 0 (omega arith))
    (λ t.
    by_choice Read (eqb half 0) (λ u. none_at_most most)
    (λ u.
    by_choice Read (eqb (length text % 2) 1) (λ v. none_at_most most)
    (λ v.
    by_choice Read (ltb (length out) half) (λ w. none_at_most most)
    (λ w.
    by_choice (AtMost most) (reading_pairs text half out).answer (λ x. count_at_most most half (enough (ltb-false (length out) half w)))
    (λ x. none_at_most most)))))

-- of a PDU, at most ff
pub pdu_at_most : (text octets : List ℕ) (a : Option ℕ) → lent a octets ≡ reading text (replicate 0xFF 0) → AtMost 0xFF a
pdu_at_most text octets a e n k =
    read_at_most text (replicate 0xFF 0) 0xFF (λ h. h) n (sym (ap (λ (p : Lent (Option ℕ)). p.answer) e) ∙ k)

-- ---- a line's list is no longer than the line
-- the characters of some fields, and the space before each
abbrev spread : List (List ℕ) → ℕ
spread [] = 0
spread (text ∷ texts) = suc (length text) + spread texts

spread_first : (l : List ℕ) → spread (fields l) ≡ suc (length (take (first (is 32) l) l)) + spread (drop 1 (fields l))
unfolding fields field_of behind
spread_first l = refl

-- the first field, which has no space before it, and the others make the line
spread_line : (l : List ℕ) → length (take (first (is 32) l) l) + spread (drop 1 (fields l)) ≡ length l
unfolding first
spread_line [] = let none : spread (drop 1 (fields [])) ≡ 0 = ap spread (fields_past [] 0 (omega arith)) in omega arith
spread_line (x ∷ l) =
    by_test (eqb x 32)
    (λ t.
    let on : spread (drop 1 (fields (x ∷ l))) ≡ spread (fields l) = ap spread (fields_space x l (eqb-true x 32 t)) in
    rw t (omega (arith, spread_first l, spread_line l)))
    (λ t.
    let on : spread (drop 1 (fields (x ∷ l))) ≡ spread (drop 1 (fields l)) = ap spread (fields_other x l (eqb-false x 32 t)) in
    rw t (omega (arith, spread_line l)))

-- a PDU and its length take no more than its text and the space before it
listed_more :
    (a : Option ℕ) (octets text : List ℕ) (texts : List (List ℕ)) → AtMost (length text) a → length (written (leading_pdus texts)) ≤ spread texts
    → length (written (with_field (octets_of (lent a octets)) [] (λ pdu. pdu ∷ leading_pdus texts))) ≤ suc (length text) + spread texts
unfolding written
listed_more None octets text texts m h = omega arith
listed_more (Some n) octets text texts m h =
    let short : n ≤ length text = m n refl in
    let one : length (take n octets) ≤ n = simp length-take (omega arith) in
    simp length-append (omega arith)

listed_le : (texts : List (List ℕ)) → length (written (leading_pdus texts)) ≤ spread texts
unfolding leading_pdus written
listed_le [] = omega arith
listed_le (text ∷ texts) =
    let p = reading text (replicate 0xFF 0) in
    listed_more p.answer p.buffer text texts (read_at_most text (replicate 0xFF 0) (length text) (λ h. omega arith)) (listed_le texts)

-- ---- the texts that are left, put behind what was put
unfoldable pub list_from : Lent ℕ → List (List ℕ) → Lent (Option ℕ)
list_from p [] = lent (Some p.answer) p.buffer
list_from p (text ∷ texts) = with_field (pdu_of text) (lent None p.buffer) (λ pdu. list_from (putting (length pdu ∷ pdu) p.buffer p.answer) texts)

-- what that says where all were put, or not all
abbrev said_of : Bool → Lent ℕ → Lent (Option ℕ)
said_of all p = lent (if all then Some p.answer else None) p.buffer

-- their list is put there
abbrev ListsFrom : List (List ℕ) → Lent ℕ → Type 0
ListsFrom texts p =
    p.answer ≤ length p.buffer → list_from p texts ≡ said_of (are_pdus texts) (putting (written (leading_pdus texts)) p.buffer p.answer)

list_step :
    (a : Option (List ℕ)) (texts : List (List ℕ)) (p : Lent ℕ) → p.answer ≤ length p.buffer → ((q : Lent ℕ) → ListsFrom texts q)
    → with_field a (lent None p.buffer) (λ pdu. list_from (putting (length pdu ∷ pdu) p.buffer p.answer) texts)
    ≡ said_of (with_field a false (λ pdu. are_pdus texts))
    (putting (written (with_field a [] (λ pdu. pdu ∷ leading_pdus texts))) p.buffer p.answer)
unfolding written
list_step None texts p h r = ap (said_of false) (put_nothing p.buffer p.answer h)
list_step (Some pdu) texts p h r =
    let one = length pdu ∷ pdu in
    let rest = written (leading_pdus texts) in
    let q = putting one p.buffer p.answer in
    let both = putting rest q.buffer q.answer in
    r q (put_within one p.buffer p.answer q.answer q.buffer refl)
    ∙ ap (said_of (are_pdus texts))
    (put_then one rest p.buffer p.answer q.answer both.answer q.buffer both.buffer refl refl)

list_from_law : (texts : List (List ℕ)) (p : Lent ℕ) → ListsFrom texts p
unfolding list_from are_pdus leading_pdus written
list_from_law [] p h = ap (said_of true) (put_nothing p.buffer p.answer h)
list_from_law (text ∷ texts) p h = list_step (pdu_of text) texts p h (list_from_law texts)

-- what has room is put whole
put_whole : (s out : List ℕ) → length s ≤ length out → putting s out 0 ≡ lent (length s) (onto s out)
unfolding putting
put_whole s out h = ap (λ (l : List ℕ). lent (length l) (onto l out)) (take_all (length out) s h)

-- at the start nothing was put
pub list_start :
    (line out : List ℕ) → length line ≤ length out → listing (drop 1 (fields line)) out ≡ list_from (lent 0 out) (drop 1 (fields line))
unfolding listing
list_start line out h =
    let texts = drop 1 (fields line) in
    let list = written (leading_pdus texts) in
    let room : length list ≤ length out = omega (arith, listed_le texts, spread_line line) in
    sym (list_from_law texts (lent 0 out) (omega arith) ∙ ap (said_of (are_pdus texts)) (put_whole list out room))

-- ---- text number k is a PDU, or is none; or there is no more
module _ (texts : List (List ℕ)) (k to : ℕ) (out : List ℕ) where
  module _ (text : List ℕ) (h : (k < length texts) × (text ≡ get_or texts k text)) (octets : List ℕ) where
    -- its length is put, and the PDU behind it
    pub list_on :
        (n r1 r2 : ℕ) (pdu o1 o2 : List ℕ) → lent (Some n) octets ≡ reading text (replicate 0xFF 0) → length octets ≡ 0xFF → pdu ≡ take n octets
        → lent r1 o1 ≡ putting (n ∷ []) out to → lent r2 o2 ≡ putting pdu o1 r1
        → list_from (lent to out) (drop k texts) ≡ list_from (lent r2 o2) (drop (k + 1) texts)
    unfolding list_from
    list_on n r1 r2 pdu o1 o2 r long s p1 p2 =
        let most : n ≤ 0xFF = pdu_at_most text octets (Some n) r n refl in
        let many : length pdu ≡ n = ap length s ∙ length-take-le n octets (omega arith) in
        let both : lent r2 o2 ≡ putting (n ∷ pdu) out to = put_then (n ∷ []) pdu out to r1 r2 o1 o2 p1 p2 in
        let put : putting (length (take n octets) ∷ take n octets) out to ≡ lent r2 o2 = cc in
        rw (add-one k, drop-cons texts k text h.0, ← h.1, ← r) (ap (λ (p : Lent ℕ). list_from p (drop (suc k) texts)) put)

    pub list_wrong : lent None octets ≡ reading text (replicate 0xFF 0) → lent None out ≡ list_from (lent to out) (drop k texts)
    unfolding list_from
    list_wrong r = rw (drop-cons texts k text h.0, ← h.1, ← r)

  pub list_end : length texts ≤ k → lent (Some to) out ≡ list_from (lent to out) (drop k texts)
  unfolding list_from
  list_end h = rw (drop_all k texts h)

-- what stands behind a space is no longer than the line
pub behind_le : (n : ℕ) (l : List ℕ) → length (behind n l) ≤ length l
unfolding behind
behind_le zero l = omega arith
behind_le (suc n) [] = omega arith
behind_le (suc n) (x ∷ l) =
    by_test (eqb x 32) (λ t. rw t (omega (arith, behind_le n l))) (λ t. rw t (omega (arith, behind_le (suc n) l)))

pub ruleset vet_rules = (behind_le, fields_from_two)
