-- What the message cache holds (document 02, W3): an entry is SRC, SEQ and the IV Index under which the PDU was opened, and refusal 5 is given exactly for an equal one. For every receiver that
-- setup made, whatever was called since.
--   stopped n           refused 16, 1 to 5 or 22
--   entered_by r c o    what call c, which found r and left o, entered in the cache: a PDU heard that was opened and not refused 4, 22 or 5
--   entered_in r l os   what the calls of a run entered, in the order heard
--   entered s l         SRC, SEQ and IV Index of each
--   CacheHolds          the cache holds the last sixteen of them
--   CachedExactly       exactly what is one of those is refused 5
--   FreshUnderIndex     so nothing is that is the first of its source under an IV Index, whatever SEQs were heard under another
use Rattle.std.specs.Prelude.{Bool, ◌&&◌, ◌||◌, Result, Ok, Err, List, [], ◌∷◌, ◌++◌, map, ◌≡◌, ℕ, eqb, leb, if◌then◌else◌}
use Rattle.network.specs.declared.header.Header.{Header}
use Rattle.network.specs.declared.opening.Refusal.{Refusal}
use Rattle.network.specs.Opening.{opening}
use Rattle.memory.specs.declared.cache.Seen.{Seen}
use Rattle.memory.specs.Cache.{seen_of}
use Rattle.memory.specs.Remembered.{held, last_entries, Among}
use Rattle.node.specs.declared.setup.Setup.{Setup}
use Rattle.receiver.specs.declared.state.Receiver.{Receiver}
use Rattle.receiver.specs.Fresh.{setting_up}
use Rattle.receiver.specs.Passing.{Opens}
use Rattle.demands.specs.Answers.{number_of}
use Rattle.demands.specs.Call.{Call, Hear, GiveUp, SendAccess, SendControl, SendSegment, Acknowledge, Stop, Outcome, step, run, after}
use Rattle.demands.specs.Interleaved.{start, Each}

-- 16 and 1 to 3: it was not opened; 4; 22; 5
abbrev pub stopped : ℕ → Bool
stopped n = eqb n 16 || (eqb n 22 || (leb 1 n && leb n 5))

-- of a PDU that was opened: its header
abbrev pub header_in : Result Header Refusal → List Header
header_in (Ok h) = h ∷ []
header_in (Err e) = []

abbrev pub entered_by : Receiver → Call → Outcome → List Header
entered_by r (Hear pdu fwd msg) o =
    if stopped (number_of o.answer) then [] else
    header_in (opening r.node.materials r.node.networks r.node.iv pdu).opened
entered_by r (GiveUp src) o = []
entered_by r (SendAccess q key szmic payload buf) o = []
entered_by r (SendControl q opcode parameters buf) o = []
entered_by r (SendSegment n buf) o = []
entered_by r (Acknowledge net src buf) o = []
entered_by r Stop o = []

-- each call finds what the one before it left
abbrev pub entered_in : Receiver → List Call → List Outcome → List Header
entered_in r [] os = []
entered_in r (c ∷ l) [] = []
entered_in r (c ∷ l) (o ∷ os) = entered_by r c o ++ entered_in o.receiver l os

abbrev pub entered : Setup → List Call → List Seen
entered s l = map seen_of (entered_in (start s) l (run (start s) l))

-- the cache's entries, the oldest first
abbrev pub CacheHolds : Type 0
CacheHolds = (s : Setup) (l : List Call) → (setting_up s).answer ≡ Ok tt → held (after (start s) l).cache ≡ last_entries (entered s l)

-- a PDU that passes refusals 16 and 1 to 4
abbrev pub CachedExactly : Type 0
CachedExactly =
    (s : Setup) (l : List Call) (pdu fwd msg : List ℕ) (trials : ℕ) (h : Header) → (setting_up s).answer ≡ Ok tt
    → (let r = after (start s) l in
    let answer = (step r (Hear pdu fwd msg)).answer in
    Opens r pdu fwd msg trials h
    → (number_of answer ≡ 5 → Among (seen_of h) (last_entries (entered s l))) × (Among (seen_of h) (last_entries (entered s l)) → number_of answer ≡ 5))

-- none was entered with its SRC under its IV Index
abbrev pub FreshUnderIndex : Type 0
FreshUnderIndex =
    (s : Setup) (l : List Call) (pdu fwd msg : List ℕ) (trials : ℕ) (h : Header) → (setting_up s).answer ≡ Ok tt
    → (let r = after (start s) l in
    Opens r pdu fwd msg trials h → Each (λ e. e.src ≡ h.src → e.iv ≡ h.iv → ⊥) (entered s l) → number_of (step r (Hear pdu fwd msg)).answer ≡ 5 → ⊥)
