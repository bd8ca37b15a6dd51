-- A segment joins its source's session, on whose terms it is, or opens a session in one of the eight slots, its source's own where that has one and else the lowest
-- free one: each way to such a decision has tested its slot. Assumes nothing.
use mathlib.Core.Bool.{Bool, true}
use mathlib.Core.List.{List}
use mathlib.Core.Path.{◌≡◌, refl, subst}
use Rattle.std.specs.Prelude.{Ok, Err}
use Prim.Native.Nat.{ℕ, ◌≤◌, ◌<◌}
use native.Mathlib.Omega.{arith}
use lib.Dec.{eqb, ltb}
use borrow.Author.Tests.{eqb-true, ltb-true, ltb-false}
use Rattle.common.specs.Bits.{has_bit}
use Rattle.common.proofs.Tests.{by_test, and_first, and_second}
use Rattle.memory.specs.declared.decision.Decision.TheVariants.{Repeat, Join, Open}
use Rattle.memory.specs.declared.replay.Entry.{Entry}
use Rattle.memory.specs.declared.session.Segment.{Segment}
use Rattle.memory.specs.declared.session.Session.{Session}
use Rattle.memory.specs.declared.session.SessionKey.{SessionKey}
use Rattle.memory.specs.declared.session.Terms.{Terms}
use Rattle.memory.specs.Decision.{Decided, joining, replacing, opening, decision_by, decision}
use Rattle.memory.specs.Pair.{newer, same_pair}
use Rattle.memory.specs.Replay.{look_up, stale, has_room, is_last}
use Rattle.memory.specs.Session.{session_slots, session_at, segment_key, session_place, free_place, free_slot, slot_for, same_bit, same_terms}

-- equal terms have one SegN
pub same_last : (a b : Terms) → same_terms a b ≡ true → a.segn ≡ b.segn
unfolding same_terms
same_last a b e =
    let e1 = and_second (same_bit a.ctl b.ctl) _ e in
    let e2 = and_second (eqb a.first b.first) _ e1 in
    let e3 = and_second (same_bit a.szmic b.szmic) _ e2 in
    eqb-true a.segn b.segn (and_first (eqb a.segn b.segn) _ e3)

-- a slot where a segment joins
pub record Joins (sessions : List Session) (src : ℕ) (seg : Segment) (slot : ℕ) : Type 0 where
  pub within : slot < session_slots
  pub own : slot ≡ session_place sessions (segment_key src seg)
  pub same : same_terms (session_at sessions slot).terms seg.terms ≡ true

-- a slot where a segment opens a session
pub record Opens (sessions : List Session) (key : SessionKey) (slot : ℕ) : Type 0 where
  pub within : slot < session_slots
  pub own : session_place sessions key < session_slots → slot ≡ session_place sessions key
  pub lowest : session_slots ≤ session_place sessions key → slot ≡ free_place sessions

-- where it joins it might have opened one
pub joins_opens : {sessions : List Session} {src : ℕ} {seg : Segment} {slot : ℕ} → Joins sessions src seg slot → Opens sessions (segment_key src seg) slot
joins_opens j = record { within = j.within; own = λ h. j.own; lowest = λ h. absurd (omega arith) }

-- there is one such slot
pub opens_slot : {sessions : List Session} {key : SessionKey} {slot : ℕ} → Opens sessions key slot → slot ≡ slot_for sessions key
unfolding slot_for
opens_slot {sessions} {key} o =
    let own = session_place sessions key in
    by_test (ltb own session_slots) (λ t. rw t (o.own (ltb-true own session_slots t))) (λ t. rw t (o.lowest (ltb-false own session_slots t)))

-- the slot that a decision names is such a one
abbrev pub Within : List Session → ℕ → Segment → Decided → Type 0
Within sessions src seg (Ok (Repeat bits)) = Unit {0}
Within sessions src seg (Ok (Join slot)) = Joins sessions src seg slot
Within sessions src seg (Ok (Open slot)) = Opens sessions (segment_key src seg) slot
Within sessions src seg (Err refusal) = Unit {0}

module _ (replay : List Entry) (sessions : List Session) (src : ℕ) (seg : Segment) where
  abbrev Here : Decided → Type 0
  Here d = Within sessions src seg d

  abbrev own : ℕ
  own = session_place sessions (segment_key src seg)

  abbrev entry : Entry
  entry = look_up replay src

  abbrev held : Session
  held = session_at sessions own

  module _ (room : Bool) where
    joining_within : own < session_slots → Here (joining held own room seg)
    unfolding joining
    joining_within h =
        by_test (same_terms held.terms seg.terms)
        (λ t. by_test room
        (λ u. by_test (has_bit held.filled seg.sego)
        (λ v. rw (t, u, v) (tt {0}))
        (λ v. rw (t, u, v) (record { within = h; own = refl; same = t })))
        (λ u. rw (t, u) (tt {0})))
        (λ t. rw t (tt {0}))

    replacing_within : own < session_slots → Here (replacing entry held.auth own room seg.auth)
    unfolding replacing
    replacing_within h =
        by_test (stale entry seg.auth) (λ t. rw t (tt {0}))
        (λ t. by_test (newer held.auth seg.auth) (λ u. rw (t, u) (tt {0}))
        (λ u. by_test room (λ v. rw (t, u, v) (record { within = h; own = λ k. refl; lowest = λ k. absurd (omega arith) })) (λ v. rw (t, u, v) (tt {0}))))

    opening_within : session_slots ≤ own → Here (opening entry (free_slot sessions) room seg.auth)
    unfolding opening
    opening_within h =
        let free = free_place sessions in
        by_test (stale entry seg.auth) (λ t. rw t (tt {0}))
        (λ t. by_test room
        (λ u. by_test (ltb free session_slots)
        (λ v. rw (t, u, v) (record { within = ltb-true free session_slots v; own = λ k. absurd (omega arith); lowest = λ k. refl }))
        (λ v. rw (t, u, v) (tt {0})))
        (λ u. rw (t, u) (tt {0})))

  pub decision_within : Within sessions src seg (decision replay sessions src seg)
  unfolding decision_by
  decision_within =
      let room = has_room replay src in
      by_test (is_last entry.last (record { auth = seg.auth; segn = seg.terms.segn; dst = seg.terms.dst })) (λ t. rw t (tt {0}))
      (λ t. by_test (ltb own session_slots)
      (λ u. let h = ltb-true own session_slots u in
      by_test (same_pair held.auth seg.auth) (λ v. rw (t, u, v) (joining_within room h)) (λ v. rw (t, u, v) (replacing_within room h)))
      (λ u. rw (t, u) (opening_within room (ltb-false own session_slots u))))

  pub join_within : (slot : ℕ) → decision replay sessions src seg ≡ Ok (Join slot) → slot < session_slots
  join_within slot e = let w : Joins sessions src seg slot = subst (Within sessions src seg) e decision_within in w.within

  pub open_within : (slot : ℕ) → decision replay sessions src seg ≡ Ok (Open slot) → slot < session_slots
  open_within slot e = let w : Opens sessions (segment_key src seg) slot = subst (Within sessions src seg) e decision_within in w.within
