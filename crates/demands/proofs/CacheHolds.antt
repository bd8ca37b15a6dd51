-- A call that hears is refused before the cache and leaves it, or enters the PDU that it opened; no other call writes the cache. So a run leaves the cache with what it entered, one behind the
-- other, and memory's laws say what that holds, and when a PDU is in it. Assumes nothing.
--   cache_holds          `CacheHolds`
--   cached_exactly       `CachedExactly`
--   fresh_under_index    `FreshUnderIndex`
use mathlib.Core.Bool.{true, false, true≢false}
use mathlib.Core.List.{List, [], ◌∷◌, ◌++◌}
use mathlib.Core.Logic.{⊎_elim}
use mathlib.Core.Path.{◌≡◌, refl, sym, ap, ◌∙◌, subst}
use Prim.Native.Nat.{ℕ}
use native.Mathlib.Omega.{arith}
use borrow.Author.Tests.{ne_eqb, leb-true, leb-false, le-leb, lt-leb}
use lib.Dec.{eqb, leb}
use Rattle.std.specs.Prelude.{Result, Err, Ok}
use Rattle.common.proofs.Tests.{by_test, and_first, and_second}
use Rattle.network.specs.declared.header.Header.{Header}
use Rattle.network.proofs.AddressLaws.{unicast_some}
use Rattle.memory.specs.declared.cache.Cache.{Cache}
use Rattle.memory.specs.declared.cache.Seen.{Seen}
use Rattle.memory.specs.Cache.{seen_of, seen}
use Rattle.memory.specs.Remembered.{further, held, last_entries, Among, Sourced}
use Rattle.memory.proofs.Remembered.{further_append, holds_last, seen_exactly, among_last}
use Rattle.memory.proofs.CacheLaws.{seen_place}
use Rattle.node.specs.declared.setup.Setup.{Setup}
use Rattle.node.specs.Addresses.{is_local}
use Rattle.receiver.specs.declared.answer.Answer as heard_answer
use Rattle.receiver.specs.declared.answer.Answer.TheVariants.{Stored, Repeated, Access, Control, Acknowledgement}
use Rattle.receiver.specs.declared.answer.Refusal.{Refusal}
use Rattle.receiver.specs.declared.give_up.GivenUp.{GivenUp}
use Rattle.receiver.specs.declared.state.Receiver.{Receiver}
use Rattle.receiver.specs.Answer.{refusal_number}
use Rattle.receiver.specs.Fresh.{setting_up}
use Rattle.receiver.specs.Hearing as hear
use Rattle.receiver.specs.Passing.{Opens}
use Rattle.receiver.proofs.AnswerLaws.{number_some}
use Rattle.receiver.proofs.Opened.{opens_clear}
use Rattle.receiver.proofs.Laws.Fresh.{fresh_is}
use Rattle.receiver.proofs.Laws.GiveUp.{by_giving_up}
use Rattle.receiver.proofs.Laws.Heard.{early, late, heard_own, heard_again}
use Rattle.receiver.proofs.Laws.Refusal.{heard_either, heard_entered}
use Rattle.demands.specs.Answers.{number_of}
use Rattle.demands.specs.CacheHolds.{stopped, entered_by, entered_in, entered, CacheHolds, CachedExactly, FreshUnderIndex}
use Rattle.demands.specs.Call.{Call, Hear, GiveUp, SendAccess, SendControl, SendSegment, Acknowledge, Stop, Heard, left_heard, step, run, after}
use Rattle.demands.specs.Interleaved.{start, Each}
use Rattle.demands.proofs.Invariant.{good_after}
use Rattle.demands.proofs.KeptLaws.{kept_said}
use Rattle.demands.proofs.OwnVoice.{never_listed}

-- ---- the numbers
early_stops : (n : Refusal) → early n ≡ true → stopped (refusal_number n) ≡ true
early_stops n e =
    let m = refusal_number n in
    let some : leb 1 m ≡ true = by_test (leb 1 m) (λ t. t) (λ t. let none = leb-false 1 m t in absurd (number_some n (omega arith))) in
    by_test (eqb m 16) (λ t. rw t refl)
    (λ t. by_test (eqb m 22) (λ u. rw (t, u) refl)
    (λ u.
    let low : leb m 5 ≡ true = rw (t, u) at e in
    let most = leb-true m 5 low in
    rw (t, u, some) (le-leb m _ (omega arith))))

late_passes : (n : Refusal) → late n ≡ true → stopped (refusal_number n) ≡ false
late_passes n e =
    let m = refusal_number n in
    let least = leb-true 6 m (and_first (leb 6 m) (leb m 13) e) in
    let most = leb-true m 13 (and_second (leb 6 m) (leb m 13) e) in
    rw (ne_eqb m 16 (λ s. omega arith), ne_eqb m 22 (λ s. omega arith), le-leb 1 m (omega arith)) (lt-leb m _ (omega arith))

-- what is entered is refused behind the cache, or not at all
entered_passes : (a : Result heard_answer.Answer Refusal) → ((n : Refusal) → a ≡ Err n → late n ≡ true) → stopped (number_of (Heard a)) ≡ false
entered_passes (Err n) f = late_passes n (f n refl)
entered_passes (Ok (Stored src auth bits)) f = refl
entered_passes (Ok (Repeated src auth bits)) f = refl
entered_passes (Ok (Access src dst net key pair len)) f = refl
entered_passes (Ok (Control src dst net opcode pair len)) f = refl
entered_passes (Ok (Acknowledgement src bits effect)) f = refl

-- ---- one call
pub opens_sourced : {r : Receiver} {pdu fwd msg : List ℕ} {trials : ℕ} {h : Header} → Opens r pdu fwd msg trials h → h.src ≡ 0 → ⊥
opens_sourced {h = h} o = unicast_some h.src (opens_clear o).unicast

-- the call leaves the cache with what it entered, which has a source
record Writes (r : Receiver) (c : Call) : Type 0 where
  cache_is : (step r c).receiver.cache ≡ further r.cache (entered_by r c (step r c))
  sourced : Sourced (entered_by r c (step r c))

hear_writes : (r : Receiver) (pdu fwd msg : List ℕ) → Writes r (Hear pdu fwd msg)
hear_writes r pdu fwd msg =
    ⊎_elim
    (λ y.
    let stops = early_stops y.0 y.1.is_early in
    record { cache_is = rw (y.1.leaves, stops) refl; sourced = rw (y.1.leaves, stops) (tt {0}) })
    (λ x.
    let passes = entered_passes (hear.hearing r pdu fwd msg).heard.answer (λ n e. (x.2.refused_late n e).is_late) in
    record { cache_is = rw (passes, x.1.opened.opens) x.2.cache_is; sourced = rw (passes, x.1.opened.opens) (opens_sourced x.1.opened, tt {0}) })
    (heard_either r pdu fwd msg)

writes : (r : Receiver) (c : Call) → Writes r c
writes r (Hear pdu fwd msg) = hear_writes r pdu fwd msg
writes r (GiveUp src) = record { cache_is = by_giving_up (λ (g : GivenUp). g.receiver.cache ≡ r.cache) r src refl (λ _ _. refl); sourced = tt {0} }
writes r (SendAccess q key szmic payload buf) = record { cache_is = (kept_said r (SendAccess q key szmic payload buf) refl).cache_stays; sourced = tt {0} }
writes r (SendControl q opcode parameters buf) = record { cache_is = (kept_said r (SendControl q opcode parameters buf) refl).cache_stays; sourced = tt {0} }
writes r (SendSegment n buf) = record { cache_is = (kept_said r (SendSegment n buf) refl).cache_stays; sourced = tt {0} }
writes r (Acknowledge net src buf) = record { cache_is = (kept_said r (Acknowledge net src buf) refl).cache_stays; sourced = tt {0} }
writes r Stop = record { cache_is = (kept_said r Stop refl).cache_stays; sourced = tt {0} }

-- ---- a list of calls
after_writes : (r : Receiver) (l : List Call) → (after r l).cache ≡ further r.cache (entered_in r l (run r l))
after_writes r [] = refl
after_writes r (c ∷ l) =
    let q = (step r c).receiver in
    let rest = entered_in q l (run q l) in
    after_writes q l ∙ ap (λ (x : Cache). further x rest) (writes r c).cache_is ∙ sym (further_append r.cache (entered_by r c (step r c)) rest)

sourced_both : (a b : List Header) → Sourced a → Sourced b → Sourced (a ++ b)
sourced_both [] b s t = t
sourced_both (h ∷ a) b s t = (s.0, sourced_both a b s.1 t)

sourced_in : (r : Receiver) (l : List Call) → Sourced (entered_in r l (run r l))
sourced_in r [] = tt {0}
sourced_in r (c ∷ l) = sourced_both (entered_by r c (step r c)) _ (writes r c).sourced (sourced_in (step r c).receiver l)

pub cache_holds : CacheHolds
cache_holds s l e =
    let all = entered_in (start s) l (run (start s) l) in
    ap held (after_writes (start s) l ∙ ap (λ (r : Receiver). further r.cache all) (fresh_is s)) ∙ holds_last all (sourced_in (start s) l)

-- ---- a PDU that opens
module _ (s : Setup) (l : List Call) (e : (setting_up s).answer ≡ Ok tt) (pdu fwd msg : List ℕ) (trials : ℕ) (h : Header) where
  abbrev r : Receiver
  r = after (start s) l

  module _ (o : Opens r pdu fwd msg trials h) where
    -- it is in the cache exactly if it is one of the last sixteen
    abbrev There : Type 0
    There = Among (seen_of h) (last_entries (entered s l))

    seen_there : seen r.cache h ≡ true → There
    seen_there t = subst (Among (seen_of h)) (cache_holds s l e) ((seen_exactly r.cache h (good_after s l e).cache_places (opens_sourced o)).0 t)

    there_seen : There → seen r.cache h ≡ true
    there_seen m = (seen_exactly r.cache h (good_after s l e).cache_places (opens_sourced o)).1 (subst (Among (seen_of h)) (sym (cache_holds s l e)) m)

    -- one of ours is 22
    own_stopped : is_local r.node h.src ≡ true → number_of (step r (Hear pdu fwd msg)).answer ≡ 22
    own_stopped t = ap (λ (x : hear.Outcome). number_of (left_heard x).answer) (heard_own (record { opened = o; own = t }))

    -- one of another node that is new is entered, so its number is not 5 either
    new_passes : seen r.cache h ≡ false → number_of (step r (Hear pdu fwd msg)).answer ≡ 5 → ⊥
    new_passes f five =
        by_test (is_local r.node h.src) (λ t. let own = own_stopped t in omega arith)
        (λ t.
        let x = heard_entered (record { opened = o; other = t; new = f }) in
        let passes = entered_passes (hear.hearing r pdu fwd msg).heard.answer (λ n t. (x.refused_late n t).is_late) in
        true≢false (sym (ap stopped five) ∙ passes))

    five_there : number_of (step r (Hear pdu fwd msg)).answer ≡ 5 → There
    five_there five = seen_there (by_test (seen r.cache h) (λ t. t) (λ f. absurd (new_passes f five)))

    -- what the cache holds is another node's
    seen_other : seen r.cache h ≡ true → is_local r.node h.src ≡ false
    seen_other t =
        let p = seen_place r.cache h (good_after s l e).cache_places t in
        sym (ap (λ (x : Seen). is_local r.node x.src) p.2) ∙ (never_listed s l e).cache_others p.0

    there_five : There → number_of (step r (Hear pdu fwd msg)).answer ≡ 5
    there_five m = ap (λ (x : hear.Outcome). number_of (left_heard x).answer) (heard_again o (seen_other (there_seen m)) (there_seen m))

pub cached_exactly : CachedExactly
cached_exactly s l pdu fwd msg trials h e o = (five_there s l e pdu fwd msg trials h o, there_five s l e pdu fwd msg trials h o)

-- ---- the first of its source under an IV Index
each_among : (P : Seen → Type 0) (x : Seen) (l : List Seen) → Each P l → Among x l → P x
each_among P x [] a m = absurd m
each_among P x (y ∷ l) a m = ⊎_elim (λ h. subst P (sym h) a.0) (each_among P x l a.1) m

pub fresh_under_index : FreshUnderIndex
fresh_under_index s l pdu fwd msg trials h e o none five =
    each_among (λ x. x.src ≡ h.src → x.iv ≡ h.iv → ⊥) (seen_of h) (entered s l) none
    (among_last (seen_of h) (entered s l) ((cached_exactly s l pdu fwd msg trials h e o).0 five)) refl refl
