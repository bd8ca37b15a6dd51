-- The decision on a segment, by what entry and session its source has: each is read off the definition, since a pair and terms are the same as themselves.
-- Assumes nothing.
--   decide_last                  the last message handed up is the segment's: a repeat
--   decide_open                  the entry is not as new, and there is no session: it opens one in the lowest free slot
--   decide_repeat, decide_join   a session of its SeqAuth and terms: its place is filled, or not
use mathlib.Core.Bool.{Bool, true, false}
use mathlib.Core.List.{List}
use mathlib.Core.Path.{◌≡◌, refl}
use Rattle.std.specs.Prelude.{Ok}
use Prim.Native.Nat.{ℕ, ◌≤◌, ◌<◌}
use borrow.Author.Tests.{eq-eqb, ne_eqb, lt-ltb, le-ltb}
use Rattle.common.specs.Bits.{has_bit, all_bits}
use Rattle.memory.specs.declared.decision.Decision.TheVariants.{Repeat, Join, Open}
use Rattle.memory.specs.declared.pair.Pair.{Pair}
use Rattle.memory.specs.declared.replay.Entry.{Entry}
use Rattle.memory.specs.declared.replay.Last.{Last}
use Rattle.memory.specs.declared.session.Segment.{Segment}
use Rattle.memory.specs.declared.session.Session.{Session}
use Rattle.memory.specs.declared.session.Terms.{Terms}
use Rattle.memory.specs.Decision.{Decided, joining, opening, decision_by, decision}
use Rattle.memory.specs.Pair.{same_pair}
use Rattle.memory.specs.Replay.{look_up, stale, has_room, is_last}
use Rattle.memory.specs.Session.{session_slots, session_at, segment_key, session_place, free_place, same_bit, same_terms}

-- ---- what is equal to itself
same_bit_law : (b : Bool) → same_bit b b ≡ true
same_bit_law true = refl
same_bit_law false = refl

same_pair_law : (p : Pair) → same_pair p p ≡ true
unfolding same_pair
same_pair_law p = rw (eq-eqb p.iv p.iv refl, eq-eqb p.seq p.seq refl) refl

same_terms_law : (t : Terms) → same_terms t t ≡ true
unfolding same_terms
same_terms_law t =
    rw (same_bit_law t.ctl, eq-eqb t.first t.first refl, same_bit_law t.szmic, eq-eqb t.segn t.segn refl, eq-eqb t.dst t.dst refl, eq-eqb t.key t.key refl) refl

-- ---- the decision
module _ (replay : List Entry) (sessions : List Session) (src : ℕ) (seg : Segment) where
  abbrev decided : Decided
  decided = decision replay sessions src seg

  -- its message, as it is kept once it was handed up
  abbrev whole : Last
  whole = record { auth = seg.auth; segn = seg.terms.segn; dst = seg.terms.dst }

  pub decide_last :
      (seg.terms.dst ≡ 0 → ⊥) → (look_up replay src).last ≡ whole → decided ≡ Ok (Repeat (all_bits seg.terms.segn))
  unfolding decision_by is_last
  decide_last z e =
      rw (e, ne_eqb seg.terms.dst 0 z, same_pair_law seg.auth, eq-eqb seg.terms.segn seg.terms.segn refl, eq-eqb seg.terms.dst seg.terms.dst refl) refl

  abbrev own : ℕ
  own = session_place sessions (segment_key src seg)

  -- it is not of the last message handed up, and there is room for an entry
  module _ (other : is_last (look_up replay src).last whole ≡ false) (room : has_room replay src ≡ true) where
    pub decide_open : stale (look_up replay src) seg.auth ≡ false → session_slots ≤ own → free_place sessions < session_slots → decided ≡ Ok (Open (free_place sessions))
    unfolding decision_by opening
    decide_open old out free = rw (other, le-ltb own session_slots out, old, room, lt-ltb (free_place sessions) session_slots free) refl

    -- and the session s in the slot of its key is of its SeqAuth and terms
    module _ (s : Session) (within : own < session_slots) (held : session_at sessions own ≡ s) (auth : s.auth ≡ seg.auth) (terms : s.terms ≡ seg.terms) where
      pub decide_repeat : has_bit s.filled seg.sego ≡ true → decided ≡ Ok (Repeat s.filled)
      unfolding decision_by joining
      decide_repeat b = rw (other, lt-ltb own session_slots within, held, auth, same_pair_law seg.auth, terms, same_terms_law seg.terms, room, b) refl

      pub decide_join : has_bit s.filled seg.sego ≡ false → decided ≡ Ok (Join own)
      unfolding decision_by joining
      decide_join b = rw (other, lt-ltb own session_slots within, held, auth, same_pair_law seg.auth, terms, same_terms_law seg.terms, room, b) refl
