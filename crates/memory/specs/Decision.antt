-- What becomes of a segment that has a SeqAuth (document 01, "Transport" and "Numbers of the refusals", 9 to 12).
--   paper d                            how a decision is given; PaperApart: no two alike
--   decision replay sessions src seg   the decision, or the refusal
use Rattle.std.specs.Prelude.{Bool, List, [], ◌∷◌, ℕ, ltb, Option, Some, None, Result, Ok, Err, if◌then◌else◌}
use Rattle.common.specs.Bits.{has_bit, all_bits}
use Rattle.common.specs.Paper.{Paper, Refusal, Given, ToldApart}
use Rattle.memory.specs.declared.pair.Pair.{Pair}
use Rattle.memory.specs.declared.replay.Entry.{Entry}
use Rattle.memory.specs.declared.session.Segment.{Segment}
use Rattle.memory.specs.declared.session.Session.{Session}
use Rattle.memory.specs.declared.decision.Decision.{Decision}
use Rattle.memory.specs.declared.decision.Decision.TheVariants.{Repeat, Join, Open}
use Rattle.memory.specs.declared.decision.Refusal as declared
use Rattle.memory.specs.declared.decision.Refusal.TheVariants.{Stale, Differs, NoEntryLeft, NoSlotLeft}
use Rattle.memory.specs.Pair.{newer, same_pair}
use Rattle.memory.specs.Replay.{Listing, ascending, stale, is_last}
use Rattle.memory.specs.Session.{session_slots, session_at, segment_key, session_place, free_slot, same_terms}

-- this paper's number and values of each decision: the places filled, or a slot
pub data Word : Type 0 where
  repeats joins opens : Word

abbrev pub Decided : Type 0
Decided = Result Decision declared.Refusal

abbrev pub paper : Decided → Paper Word
paper (Ok (Repeat bits)) = Given repeats (bits ∷ [])
paper (Ok (Join slot)) = Given joins (slot ∷ [])
paper (Ok (Open slot)) = Given opens (slot ∷ [])
paper (Err Stale) = Refusal 9 []
paper (Err Differs) = Refusal 10 []
paper (Err NoEntryLeft) = Refusal 11 []
paper (Err NoSlotLeft) = Refusal 12 []

abbrev pub PaperApart : Type 0
PaperApart = ToldApart paper

-- a segment of the same SeqAuth joins: 10, 11, a place already filled, or its place is empty
unfoldable pub joining : Session → ℕ → Bool → Segment → Decided
joining s own room seg =
    if same_terms s.terms seg.terms then
    (if room then Ok (if has_bit s.filled seg.sego then Repeat s.filled else Join own) else
    Err NoEntryLeft) else
    Err Differs

-- another SeqAuth: 9 by the entry or by the open session, 11, or it replaces the session in its source's slot
unfoldable pub replacing : Entry → Pair → ℕ → Bool → Pair → Decided
replacing e held own room auth =
    if stale e auth then Err Stale else
    if newer held auth then Err Stale else
    if room then Ok (Open own) else
    Err NoEntryLeft

-- no session: 9, 11, the lowest free slot, or 12
abbrev pub opening_in : Option ℕ → Decided
opening_in (Some free) = Ok (Open free)
opening_in None = Err NoSlotLeft

unfoldable pub opening : Entry → Option ℕ → Bool → Pair → Decided
opening e free room auth =
    if stale e auth then Err Stale else
    if room then opening_in free else
    Err NoEntryLeft

-- a segment of the last message handed up is a repeat with all bits set, open session or not
unfoldable pub decision_by : Listing → List Entry → List Session → ℕ → Segment → Decided
decision_by by replay sessions src seg =
    let e = by.look_up replay src in
    let own = session_place sessions (segment_key src seg) in
    let s = session_at sessions own in
    let room = by.has_room replay src in
    if is_last e.last (record { auth = seg.auth; segn = seg.terms.segn; dst = seg.terms.dst }) then Ok (Repeat (all_bits seg.terms.segn)) else
    if ltb own session_slots then
    (if same_pair s.auth seg.auth then joining s own room seg else replacing e s.auth own room seg.auth) else
    opening e (free_slot sessions) room seg.auth

abbrev pub decision : List Entry → List Session → ℕ → Segment → Decided
decision replay sessions src seg = decision_by ascending replay sessions src seg
