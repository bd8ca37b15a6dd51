-- What the receiver holds, as text: one line a thing.
--   placed_text f i l   the text of each element with its place, from i on, one behind the other
--   receiver_text r     all of it
use Rattle.std.specs.Prelude.{List, [], ◌∷◌, ◌++◌, ℕ, suc, min, eqb, take, if◌then◌else◌}
use Rattle.memory.specs.declared.cache.Seen.{Seen}
use Rattle.memory.specs.declared.cache.Cache.{Cache}
use Rattle.memory.specs.declared.replay.Last.{Last}
use Rattle.memory.specs.declared.replay.Entry.{Entry}
use Rattle.memory.specs.declared.session.Session.{Session}
use Rattle.memory.specs.declared.outgoing.Outgoing.{Outgoing}
use Rattle.memory.specs.Cache.{oldest_first}
use Rattle.memory.specs.Session.{is_free}
use Rattle.node.specs.Addresses.{element_places}
use Rattle.receiver.specs.declared.state.Receiver.{Receiver}
use Rattle.text.specs.Octets.{octets}
use Rattle.answers.specs.Answer.{named, pair_text, segments_text}

-- the text of each element with its place, from i on, one behind the other
unfoldable pub placed_text : {A : Type 0} → (ℕ → A → List ℕ) → ℕ → List A → List ℕ
placed_text f i [] = []
placed_text f i (x ∷ l) = f i x ++ placed_text f (suc i) l

-- each element's next SEQ; there are 8 at most
abbrev pub next_text : List ℕ → ℕ → List ℕ
next_text next elements = octets "seq" ++ (placed_text (λ i seq. named " " 6 seq) 0 (take (min elements element_places) next) ++ octets "\n")

-- one cache entry; SRC 0 marks an empty place, here and below
abbrev pub seen_text : Seen → List ℕ
seen_text e = if eqb e.src 0 then [] else named " " 4 e.src ++ (named ":" 6 e.seq ++ named ":" 8 e.iv)

abbrev pub cache_text : Cache → List ℕ
cache_text c = octets "cache" ++ (placed_text (λ i e. seen_text e) 0 (oldest_first c) ++ octets "\n")

-- the last segmented message handed up; DST 0 marks that there is none
abbrev pub last_text : Last → List ℕ
last_text l =
    if eqb l.dst 0 then [] else
    named " last " 8 l.auth.iv ++ (named " " 6 l.auth.seq ++ (named " segn " 1 l.segn ++ named " dst " 4 l.dst))

abbrev pub entry_text : Entry → List ℕ
entry_text e =
    if eqb e.src 0 then [] else
    named "replay " 4 e.src ++ (pair_text e.pair (octets " seq ") ++ (last_text e.last ++ octets "\n"))

abbrev pub session_text : ℕ → Session → List ℕ
session_text slot s =
    if is_free s then [] else
    named "session " 1 slot ++ (segments_text s.src s.auth s.filled ++ octets "\n")

-- SegN of the outgoing message, and its segments that were heard
abbrev pub heard_so_far : ℕ → ℕ → List ℕ
heard_so_far segn heard = named " segn " 1 segn ++ (named " heard " 8 heard ++ octets "\n")

-- the outgoing message
abbrev pub sending_text : Outgoing → List ℕ
sending_text o =
    if eqb o.src 0 then [] else
    named "sending dst " 4 o.terms.dst ++ (pair_text o.auth (octets " auth ") ++ heard_so_far o.terms.segn o.heard)

-- all of it, and the end
unfoldable pub receiver_text : Receiver → List ℕ
receiver_text r =
    next_text r.next r.node.elements
    ++ (cache_text r.cache
    ++ (placed_text (λ i e. entry_text e) 0 r.replay
    ++ (placed_text session_text 0 r.sessions ++ (sending_text r.out ++ octets "end\n"))))
