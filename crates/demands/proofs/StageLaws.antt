-- How far a speech has come, as replay list and sessions tell it. A session of one source is never in another's way. Assumes nothing.
--   Stage            nothing has come; some has, and a session gathers; all has, and the replay list remembers it
--   stage_other      a slot and an entry of one source leave another's stage
use mathlib.Core.Bool.{false, false≢true}
use mathlib.Core.List.{List}
use mathlib.Core.Path.{◌≡◌, refl, sym, ap, ◌∙◌}
use Prim.Native.Nat.{ℕ, ◌≤◌, ◌<◌}
use native.Mathlib.Omega.{arith}
use lib.ListN.{set}
use Rattle.common.specs.Bits.{has_bit, all_bits}
use Rattle.common.proofs.BitLaws.{has_none, has_all}
use Rattle.memory.specs.declared.replay.Entry.{Entry}
use Rattle.memory.specs.declared.replay.Last.{Last}
use Rattle.memory.specs.declared.session.Segment.{Segment}
use Rattle.memory.specs.declared.session.Session.{Session}
use Rattle.memory.specs.declared.session.SessionKey.{SessionKey}
use Rattle.memory.specs.Replay.{no_entry, look_up, stale, is_last}
use Rattle.memory.specs.Session.{session_slots, session_at, session_key, session_place}
use Rattle.memory.proofs.SessionSlots.{place_set_other, session_set_other}
use Rattle.node.specs.declared.addresses.Node.{Node}
use Rattle.demands.specs.Speech.{Speech, last_of}
use Rattle.demands.proofs.GatherLaws.{Holds}
use Rattle.demands.proofs.SpeechSegment.{terms_of}
use Rattle.demands.proofs.SpeechSession.{session_of}

-- no bit is not all of them
pub none_all : (n : ℕ) → 0 ≡ all_bits n → ⊥
none_all n e = false≢true (sym (has_none 0) ∙ ap (λ (x : ℕ). has_bit x 0) e ∙ has_all n 0 (omega arith) (omega arith))

-- its message, as it is kept once it was handed up
abbrev pub whole_of : Node → Speech → Last
whole_of node s = record { auth = s.auth; segn = last_of node s; dst = s.dst }

-- the replay entry of a speech that was handed up
abbrev pub entry_of : Node → Speech → Entry
entry_of node s = record { src = s.src; pair = s.auth; last = whole_of node s }

-- its segment i
abbrev pub segment_at : Node → Speech → ℕ → Segment
segment_at node s i = record { auth = s.auth; terms = terms_of node s; sego = i }

-- what its session is found by
abbrev pub key_of : Speech → SessionKey
key_of s = record { src = s.src }

-- it has not been handed up: its source's entry is not as new, nor is it the last message
pub record Unheard (node : Node) (s : Speech) (replay : List Entry) : Type 0 where
  pub newer : stale (look_up replay s.src) s.auth ≡ false
  pub other : is_last (look_up replay s.src).last (whole_of node s) ≡ false

-- how far it has come: these places are filled
pub data Stage (node : Node) (s : Speech) (replay : List Entry) (sessions : List Session) (bits : ℕ) : Type 0 where
  -- no message of its source was handed up in segments
  Silent : bits ≡ 0 → session_slots ≤ session_place sessions (key_of s) → Unheard node s replay → (look_up replay s.src).last.dst ≡ 0 → Stage node s replay sessions bits
  Gathers :
      (len : ℕ) (bytes : List ℕ) → (bits ≡ 0 → ⊥) → (bits ≡ all_bits (last_of node s) → ⊥) → session_place sessions (key_of s) < session_slots
      → session_at sessions (session_place sessions (key_of s)) ≡ session_of node s bits len bytes → Holds node s bits len bytes
      → Unheard node s replay → Stage node s replay sessions bits
  Done :
      bits ≡ all_bits (last_of node s) → session_slots ≤ session_place sessions (key_of s) → look_up replay s.src ≡ entry_of node s
      → Stage node s replay sessions bits

-- ---- its source has no entry
pub unheard_none : (node : Node) (s : Speech) (replay : List Entry) → look_up replay s.src ≡ no_entry → Unheard node s replay
unfolding stale is_last
unheard_none node s replay e = record { newer = rw e refl; other = rw e refl }

-- ---- a slot of one key is set: another's stage stays
module _ (node : Node) (s : Speech) (replay after : List Entry) (sessions : List Session) (bits : ℕ) (slot : ℕ) (x : Session)
    (new : key_of s ≡ session_key x → ⊥) (old : key_of s ≡ session_key (session_at sessions slot) → ⊥) (looked : look_up after s.src ≡ look_up replay s.src) where
  place_stays : session_place (set sessions slot x) (key_of s) ≡ session_place sessions (key_of s)
  place_stays = place_set_other sessions slot x (key_of s) new old

  unheard_stays : Unheard node s replay → Unheard node s after
  unheard_stays u = record { newer = rw looked u.newer; other = rw looked u.other }

  pub stage_other : Stage node s replay sessions bits → Stage node s after (set sessions slot x) bits
  stage_other (Silent b p u n) = Silent b (rw place_stays p) (unheard_stays u) (ap (λ (e : Entry). e.last.dst) looked ∙ n)
  stage_other (Gathers len bytes z m p h k u) =
      Gathers len bytes z m (rw place_stays p) (session_set_other sessions slot x (key_of s) new old ∙ h) k (unheard_stays u)
  stage_other (Done b p e) = Done b (rw place_stays p) (looked ∙ e)
