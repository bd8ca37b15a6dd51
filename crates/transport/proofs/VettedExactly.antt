-- What vetting says, it says exactly. The judgement ends behind the last PDU, or at the first that does not fit: one induction, from which both directions of each promise
-- follow, since PDUs begin a message's segments exactly if they fit. Assumes nothing.
--   judges                                                              all PDUs fit, or there is a first that does not
--   are_begins, are_joined, whole_are                                   the segments of u, and the judgement that they are
--   approves_exactly, one_message, faults_exactly, unfinished_exactly   the promises
use mathlib.Core.Bool.{Bool, true, false}
use mathlib.Core.List.{List, [], ◌∷◌}
use mathlib.Core.Logic.{◌⊎◌, inl, inr, ⊎_elim}
use mathlib.Core.Path.{◌≡◌, refl, sym, ap, ◌∙◌, subst}
use Prim.Native.Nat.{ℕ, zero, suc, ◌+◌, ◌≤◌, ◌<◌}
use native.Mathlib.Nat.{not-suc-le-zero}
use native.Mathlib.Numerals.{add-one}
use native.Mathlib.Omega.{arith}
use borrow.Author.Tests.{ltb-true, ltb-false, lt-ltb, le-ltb}
use lib.Dec.{ltb}
use lib.ListN.{length, get_or, take, drop}
use lib.Seq.{take_all, take-length, take-append_seam}
use Rattle.std.specs.Prelude.{Result, Ok, Err, ⊤, if◌then◌else◌}
use Rattle.common.specs.Lent.{Lent}
use Rattle.common.specs.Lists.{tab, onto}
use Rattle.common.proofs.Lists.{length_tab}
use Rattle.common.proofs.Tests.{by_test}
use Rattle.transport.specs.declared.vetting.Refusal.{Refusal}
use Rattle.transport.specs.declared.vetting.Refusal.TheVariants.{Fault, Unfinished}
use Rattle.transport.specs.declared.vetting.Stated.{Stated}
use Rattle.transport.specs.Listed.{pdus}
use Rattle.transport.specs.Segment.{message_octets, full_octets, last_segment, segment_at}
use Rattle.transport.specs.Vetting.{stated_by, fits, judged_from, judged, joined, shown, vetting}
use Rattle.transport.specs.VettedExactly.{Are, Begins, ApprovesExactly, OneMessage, FaultsExactly, UnfinishedExactly}
use Rattle.transport.proofs.BeginsFit.{joined_segments, begins_states, begins_fit, Shown, fit_shown, fit_begins}
use Rattle.transport.proofs.FitLaws.{fit_take, take_fit}

-- answers differ
zero_one : ◌≡◌ {A = ℕ} 0 1 → ⊥
zero_one e = omega arith

-- ---- where the judgement ends
abbrev ended : Stated → ℕ → Result ⊤ Refusal
ended s k = if ltb s.segn k then Ok tt else Err Unfinished

ended_whole : (s : Stated) (k : ℕ) → s.segn < k → ended s k ≡ Ok tt
ended_whole s k h = rw (lt-ltb s.segn k h) refl

ended_late : (s : Stated) (k : ℕ) → ended s k ≡ Ok tt → s.segn < k
ended_late s k e =
    by_test (ltb s.segn k)
    (λ t. ltb-true s.segn k t)
    (λ t. let f : ◌≡◌ {A = Result ⊤ Refusal} (Err Unfinished) (Ok tt) = simp t at e in absurd (zero_one (cc)))

-- n gives the number of each PDU of l
module _ (ctl : Bool) (s : Stated) where
  record AllFit (n : ℕ → ℕ) (l : List (List ℕ)) : Type 0 where
    fit : (i : ℕ) → i < length l → fits ctl s (n i) (get_or l i []) ≡ true
    says : judged_from ctl s (n 0) l ≡ ended s (n (length l))

  record FirstFault (n : ℕ → ℕ) (l : List (List ℕ)) : Type 0 where
    at : ℕ
    inside : at < length l
    before : (i : ℕ) → i < at → fits ctl s (n i) (get_or l i []) ≡ true
    fault : fits ctl s (n at) (get_or l at []) ≡ false
    says : judged_from ctl s (n 0) l ≡ Err (Fault (n at))

  -- the first PDU, and those behind it
  below :
      (n : ℕ → ℕ) (p : List ℕ) (l : List (List ℕ)) (m : ℕ) → fits ctl s (n 0) p ≡ true
      → ((i : ℕ) → suc i < m → fits ctl s (n (suc i)) (get_or l i []) ≡ true) → (i : ℕ) → i < m → fits ctl s (n i) (get_or (p ∷ l) i []) ≡ true
  below n p l m t f zero h = t
  below n p l m t f (suc i) h = f i h

  ends : (n : ℕ → ℕ) → ((i : ℕ) → n i + 1 ≡ n (suc i)) → (l : List (List ℕ)) → AllFit n l ⊎ FirstFault n l
  unfolding judged_from
  ends n next [] = inl (record { fit = λ i h. absurd (not-suc-le-zero h); says = refl })
  ends n next (p ∷ l) =
      by_test (fits ctl s (n 0) p)
      (λ t.
      ⊎_elim
      (λ (a : AllFit (λ i. n (suc i)) l). inl (record {
        fit = below n p l (suc (length l)) t (λ i h. a.fit i (omega arith));
        says = rw (t, next 0) a.says;
      }))
      (λ (f : FirstFault (λ i. n (suc i)) l). inr (record {
        at = suc f.at;
        inside = omega (arith, f.inside);
        before = below n p l (suc f.at) t (λ i h. f.before i (omega arith));
        fault = f.fault;
        says = rw (t, next 0) f.says;
      }))
      (ends (λ i. n (suc i)) (λ i. next (suc i)) l))
      (λ t. inr (record { at = 0; inside = omega arith; before = λ i h. absurd (not-suc-le-zero h); fault = t; says = rw t refl }))

-- ---- the judgement of all PDUs
abbrev Fits : Bool → List (List ℕ) → Type 0
Fits ctl l = AllFit ctl (stated_by (get_or l 0 [])) (λ i. i) l

abbrev Faulty : Bool → List (List ℕ) → Type 0
Faulty ctl l = FirstFault ctl (stated_by (get_or l 0 [])) (λ i. i) l

judges : (ctl : Bool) (l : List (List ℕ)) → Fits ctl l ⊎ Faulty ctl l
judges ctl l = ends ctl (stated_by (get_or l 0 [])) (λ i. i) add-one l

no_fault : {k : ℕ} (b : Bool) → ◌≡◌ {A = Result ⊤ Refusal} (if b then Ok tt else Err Unfinished) (Err (Fault k)) → ⊥
no_fault true e = zero_one (cc)
no_fault false e = zero_one (cc)

true_false : {b : Bool} → b ≡ true → b ≡ false → ⊥
true_false p q = zero_one (cc)

module _ (ctl : Bool) (l : List (List ℕ)) where
  -- a list that begins a message's segments has no fault
  begins_says : Begins ctl l → judged ctl l ≡ ended (stated_by (get_or l 0 [])) (length l)
  unfolding judged
  begins_says b =
      ⊎_elim (λ (a : Fits ctl l). a.says)
      (λ (f : Faulty ctl l). absurd (true_false (begins_fit ctl l b f.at f.inside) f.fault))
      (judges ctl l)

  -- ---- segments of u
  module _ (u : List ℕ) (a : Are ctl u l) where
    abbrev pub are_begins : Begins ctl l
    are_begins = record { c = a.c; z = a.z; q = a.q; u = u; allowed = a.allowed; begins = ap (take (length l)) a.are ∙ take-length l }

    pub are_joined : joined l ≡ u
    are_joined = ap joined (sym a.are) ∙ joined_segments ctl a.c a.z a.q u a.allowed

    abbrev last : ℕ
    last = last_segment (full_octets ctl) (length u)

    are_length : length l ≡ suc last
    are_length = ap length (sym a.are) ∙ length_tab (segment_at (full_octets ctl) a.c a.z a.q last u) (suc last)

    are_whole : judged ctl l ≡ Ok tt
    are_whole =
        let e = are_length in
        let h : last < length l = omega arith in
        begins_says are_begins
        ∙ ended_whole (stated_by (get_or l 0 [])) (length l) (subst (λ (x : Stated). x.segn < length l) (sym (begins_states ctl l are_begins (omega arith))) h)

  -- PDUs that begin a message's segments and reach SegN are all of them
  shown_are : Shown ctl l → (stated_by (get_or l 0 [])).segn < length l → Are ctl (joined l) l
  shown_are w late =
      let b = w.begun in
      let n = last_segment (full_octets ctl) (length b.u) in
      let f = segment_at (full_octets ctl) b.c b.z b.q n b.u in
      let long = length_tab f (suc n) in
      let all = take_all (length l) (tab f (suc n)) (omega (arith, w.seg_n_is)) in
      let are : Are ctl b.u l = record { c = b.c; z = b.z; q = b.q; allowed = b.allowed; are = sym all ∙ b.begins } in
      subst (λ (u : List ℕ). Are ctl u l) (sym (are_joined b.u are)) are

  pub whole_are : judged ctl l ≡ Ok tt → Are ctl (joined l) l
  unfolding judged
  whole_are e =
      let s = stated_by (get_or l 0 []) in
      ⊎_elim
      (λ (a : Fits ctl l).
      let late : s.segn < length l = ended_late s (length l) (sym a.says ∙ e) in
      shown_are (fit_shown ctl l a.fit (omega arith)) late)
      (λ (f : Faulty ctl l). let x : ◌≡◌ {A = Result ⊤ Refusal} (Ok tt) (Err (Fault f.at)) = sym e ∙ f.says in absurd (zero_one (cc)))
      (judges ctl l)

  -- ---- 26 at k
  fault_at : (k : ℕ) → judged ctl l ≡ Err (Fault k) → (k < length l) × Begins ctl (take k l) × (Begins ctl (take (k + 1) l) → ⊥)
  unfolding judged
  fault_at k e =
      let s = stated_by (get_or l 0 []) in
      ⊎_elim
      (λ (a : Fits ctl l). absurd (no_fault (ltb s.segn (length l)) (sym a.says ∙ e)))
      (λ (f : Faulty ctl l).
      let x : ◌≡◌ {A = Result ⊤ Refusal} (Err (Fault f.at)) (Err (Fault k)) = sym f.says ∙ e in
      let is : f.at ≡ k = cc in
      let inside = f.inside in (
        omega arith,
        fit_begins ctl (take k l) (fit_take ctl l k (λ i h m. f.before i (omega arith))),
        λ b. true_false (take_fit ctl l (k + 1) (begins_fit ctl (take (k + 1) l) b) f.at (omega arith) (omega arith)) f.fault,
      ))
      (judges ctl l)

  at_fault : (k : ℕ) → k < length l → Begins ctl (take k l) → (Begins ctl (take (k + 1) l) → ⊥) → judged ctl l ≡ Err (Fault k)
  unfolding judged
  at_fault k h b none =
      let before = take_fit ctl l k (begins_fit ctl (take k l) b) in
      ⊎_elim
      (λ (a : Fits ctl l). absurd (none (fit_begins ctl (take (k + 1) l) (fit_take ctl l (k + 1) (λ i _ m. a.fit i m)))))
      (λ (f : Faulty ctl l).
      let inside = f.inside in
      by_test (ltb f.at k)
      (λ t. absurd (true_false (before f.at (ltb-true f.at k t) f.inside) f.fault))
      (λ t.
      let late = ltb-false f.at k t in
      by_test (ltb k f.at)
      (λ r. absurd (none (fit_begins ctl (take (k + 1) l) (fit_take ctl l (k + 1) (λ i m _. f.before i (omega (arith, ltb-true k f.at r)))))))
      (λ r. let is : f.at ≡ k = omega (arith, ltb-false k f.at r) in f.says ∙ ap (λ (n : ℕ). Err (Fault n)) is)))
      (judges ctl l)

  -- ---- 27
  unfinished : judged ctl l ≡ Err Unfinished → Begins ctl l × ((u : List ℕ) → Are ctl u l → ⊥)
  unfolding judged
  unfinished e =
      ⊎_elim
      (λ (a : Fits ctl l). (
        fit_begins ctl l a.fit,
        λ u r. let x : ◌≡◌ {A = Result ⊤ Refusal} (Ok tt) (Err Unfinished) = sym (are_whole u r) ∙ e in zero_one (cc),
      ))
      (λ (f : Faulty ctl l). let x : ◌≡◌ {A = Result ⊤ Refusal} (Err Unfinished) (Err (Fault f.at)) = sym e ∙ f.says in absurd (zero_one (cc)))
      (judges ctl l)

  is_unfinished : Begins ctl l → ((u : List ℕ) → Are ctl u l → ⊥) → judged ctl l ≡ Err Unfinished
  is_unfinished b none =
      let s = stated_by (get_or l 0 []) in
      by_test (ltb s.segn (length l))
      (λ t. absurd (none (joined l) (whole_are (begins_says b ∙ ended_whole s (length l) (ltb-true s.segn (length l) t)))))
      (λ t. begins_says b ∙ rw t refl)

-- ---- the call, over a buffer that is long enough
pub vetting_long : (ctl : Bool) (list out : List ℕ) → message_octets ≤ length out → vetting ctl list out ≡ shown (judged ctl (pdus list)) (joined (pdus list)) out
unfolding vetting
vetting_long ctl list out h = rw (le-ltb (length out) message_octets h) refl

-- the judgement is told from the answer
abbrev judged_by : Result ℕ Refusal → Result ⊤ Refusal
judged_by (Ok len) = Ok tt
judged_by (Err r) = Err r

told : (j : Result ⊤ Refusal) (u out : List ℕ) → judged_by (shown j u out).answer ≡ j
told (Ok whole) u out = refl
told (Err r) u out = refl

-- what is approved is told from length and buffer
shown_octets : (u v out : List ℕ) → shown (Ok tt) u out ≡ shown (Ok tt) v out → u ≡ v
shown_octets u v out e =
    let a : ◌≡◌ {A = Result ℕ Refusal} (Ok (length u)) (Ok (length v)) = ap (λ (x : Lent (Result ℕ Refusal)). x.answer) e in
    let n : length u ≡ length v = cc in
    let b : onto u out ≡ onto v out = ap (λ (x : Lent (Result ℕ Refusal)). x.buffer) e in
    sym (take-append_seam u (drop (length u) out)) ∙ ap (take (length u)) b ∙ ap (λ (k : ℕ). take k (onto v out)) n ∙ take-append_seam v (drop (length v) out)

module _ (ctl : Bool) (list out : List ℕ) (h : message_octets ≤ length out) where
  abbrev l : List (List ℕ)
  l = pdus list

  by_answer : {x : Lent (Result ℕ Refusal)} → vetting ctl list out ≡ x → judged ctl l ≡ judged_by x.answer
  by_answer e = sym (told (judged ctl l) (joined l) out) ∙ ap (λ (y : Lent (Result ℕ Refusal)). judged_by y.answer) (sym (vetting_long ctl list out h) ∙ e)

  by_judgement : {j : Result ⊤ Refusal} → judged ctl l ≡ j → vetting ctl list out ≡ shown j (joined l) out
  by_judgement e = vetting_long ctl list out h ∙ ap (λ (j : Result ⊤ Refusal). shown j (joined l) out) e

pub approves_exactly : ApprovesExactly
approves_exactly ctl list out u h = (
  λ e.
      let w = by_answer ctl list out h e in
      subst (λ (x : List ℕ). Are ctl x (pdus list)) (shown_octets _ u out (sym (by_judgement ctl list out h w) ∙ e)) (whole_are ctl (pdus list) w),
  λ a. by_judgement ctl list out h (are_whole ctl (pdus list) u a) ∙ ap (λ (x : List ℕ). shown (Ok tt) x out) (are_joined ctl (pdus list) u a),
)

pub faults_exactly : FaultsExactly
faults_exactly ctl list out k h = (
  λ e. fault_at ctl (pdus list) k (by_answer ctl list out h e),
  λ a. by_judgement ctl list out h (at_fault ctl (pdus list) k a.0 a.1 a.2),
)

pub unfinished_exactly : UnfinishedExactly
unfinished_exactly ctl list out h = (
  λ e. unfinished ctl (pdus list) (by_answer ctl list out h e),
  λ a. by_judgement ctl list out h (is_unfinished ctl (pdus list) a.0 a.1),
)

pub one_message : OneMessage
one_message ctl u v l a b =
    let la = are_length ctl l u a in
    let ea = begins_states ctl l (are_begins ctl l u a) (omega arith) in
    let eb = begins_states ctl l (are_begins ctl l v b) (omega arith) in
    let e = sym ea ∙ eb in
    record {
      one_u = sym (are_joined ctl l u a) ∙ are_joined ctl l v b;
      one_c = ap (λ (x : Stated). x.first) e;
      one_z = ap (λ (x : Stated). x.szmic) e;
      one_q = ap (λ (x : Stated). x.seqzero) e;
    }
