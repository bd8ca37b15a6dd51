-- The sessions are searched by key: what is found under a key is its session; a slot that is set changes nothing for other keys; no two sessions have one key; where eight speak, one that has
-- no session finds a free slot. Assumes nothing.
--   sessions_keyed                the key of a session, as lists that are searched by key have one
--   place_.., session_.., free-   what is found
--   apart_..                      no two have one key
--   SessionsOwned, session_free   whose they are, and that a slot is free
use mathlib.Core.Bool.{true, false, true≢false}
use mathlib.Core.List.{List, []}
use mathlib.Core.Path.{◌≡◌, refl, sym, ap, ◌∙◌}
use Prim.Native.Nat.{ℕ, ◌≤◌, ◌<◌}
use borrow.Author.Tests.{eq-eqb, eqb-true}
use lib.ListN.{length, set, length-replicate, get_or-replicate}
use Rattle.memory.specs.declared.session.Session.{Session}
use Rattle.memory.specs.declared.session.SessionKey.{SessionKey}
use Rattle.memory.specs.Session.{session_slots, no_session, no_sessions, session_at, session_key, same_key, no_key, session_place, is_free, free_place, SessionsApart}
use Rattle.memory.proofs.Keyed as keyed
use Rattle.memory.proofs.Room as room

abbrev pub sessions_keyed : keyed.Keyed Session SessionKey
sessions_keyed =
    record {
      key = session_key;
      same = same_key;
      none = no_key;
      same_told = λ a b e. ap (λ (n : ℕ). record { src = n }) (eqb-true a.src b.src e);
      same_self = λ a. eq-eqb a.src a.src refl;
    }

-- what is read past the last slot
abbrev pub past : Session
past = session_at [] 0

-- ---- what is found
module _ (l : List Session) where
  -- has the key
  pub session_key_law : (a : SessionKey) → session_place l a < length l → session_key (session_at l (session_place l a)) ≡ a
  unfolding session_place
  session_key_law a h = keyed.found_key sessions_keyed past l a h

  -- and nothing before it has
  pub place_upto : (a : SessionKey) (j : ℕ) → session_key (session_at l j) ≡ a → session_place l a ≤ j
  unfolding session_place
  place_upto a j e = keyed.place_upto sessions_keyed past l a j e

  -- the lowest free slot is free
  pub free_slot : free_place l < length l → is_free (session_at l (free_place l)) ≡ true
  unfolding free_place
  free_slot h = keyed.free_none sessions_keyed past l h

-- ---- a slot is set
module _ (l : List Session) (i : ℕ) (s : Session) where
  -- no slot before i has its key: i is its slot, or it has none
  module _ (within : i < length l) (before : i ≤ session_place l (session_key s)) where
    pub place_set_own : session_place (set l i s) (session_key s) ≡ i
    unfolding session_place
    place_set_own = keyed.place_set_own sessions_keyed past l i s within before

    pub session_set_own : session_at (set l i s) (session_place (set l i s) (session_key s)) ≡ s
    unfolding session_place
    session_set_own = keyed.found_set_own sessions_keyed past l i s within before

  -- a key that is neither the new session's nor the old one's
  module _ (a : SessionKey) (new : a ≡ session_key s → ⊥) (old : a ≡ session_key (session_at l i) → ⊥) where
    pub place_set_other : session_place (set l i s) a ≡ session_place l a
    unfolding session_place
    place_set_other = keyed.place_set_other sessions_keyed past l i s a new old

    pub session_set_other : session_at (set l i s) (session_place (set l i s) a) ≡ session_at l (session_place l a)
    unfolding session_place
    session_set_other = keyed.found_set_other sessions_keyed past l i s a new old

-- ---- a key that has none
pub place_nowhere :
    (l : List Session) → length l ≡ session_slots → (a : SessionKey) → ((i : ℕ) → session_key (session_at l i) ≡ a → ⊥) → session_slots ≤ session_place l a
unfolding session_place
place_nowhere l long a none = rw (sym long) (keyed.place_nowhere sessions_keyed past l a none)

some_key : (a : SessionKey) → no_key a ≡ false → a ≡ session_key no_session → ⊥
some_key a z e = true≢false (sym (ap no_key e) ∙ z)

-- every slot is free
pub place_none : (a : SessionKey) → no_key a ≡ false → session_slots ≤ session_place no_sessions a
place_none a z =
    let none : session_key no_session ≡ a → ⊥ = λ e. some_key a z (sym e) in
    place_nowhere no_sessions (length-replicate session_slots no_session) a
    (keyed.each_replicate (λ (s : Session). session_key s ≡ a → ⊥) past session_slots no_session none none)

-- its only slot is freed
pub freed_none :
    (l : List Session) (slot : ℕ) (a : SessionKey) → length l ≡ session_slots → no_key a ≡ false
    → ((j : ℕ) → j < session_slots → session_key (session_at l j) ≡ a → j ≡ slot) → session_slots ≤ session_place (set l slot no_session) a
unfolding session_place
freed_none l slot a long z only = keyed.gone sessions_keyed past l slot no_session session_slots long a (some_key a z) only

-- ---- no two have one key
module _ (l : List Session) (long : length l ≡ session_slots) (a : SessionsApart l) (slot : ℕ) where
  pub apart_freed : SessionsApart (set l slot no_session)
  apart_freed = keyed.apart_emptied sessions_keyed past l slot no_session session_slots long a refl

  pub apart_opened : (s : Session) → (session_place l (session_key s) < session_slots → slot ≡ session_place l (session_key s)) → SessionsApart (set l slot s)
  unfolding session_place
  apart_opened s own = keyed.apart_put sessions_keyed past l slot s session_slots long a own

-- ---- whose they are
abbrev pub SessionsOwned : ℕ → (ℕ → SessionKey) → List Session → Type 0
SessionsOwned n owner l = room.Owned sessions_keyed past session_slots n owner l

module _ (n : ℕ) (owner : ℕ → SessionKey) where
  pub owned_none : SessionsOwned n owner no_sessions
  owned_none =
      record {
        owner = λ _. 0;
        owned = λ i h z. absurd (true≢false (sym (ap is_free (get_or-replicate session_slots i no_session past h)) ∙ z));
      }

  module _ (l : List Session) (o : SessionsOwned n owner l) (long : length l ≡ session_slots) where
    -- a slot is set for owner m, or freed
    pub owned_set : (slot : ℕ) (s : Session) (m : ℕ) → m < n → (is_free s ≡ false → session_key s ≡ owner m) → SessionsOwned n owner (set l slot s)
    owned_set slot s m h e = room.owned_set sessions_keyed past session_slots n owner l o long slot s m h e

    -- no more owners than slots, and one of them has no session
    pub session_free : SessionsApart l → (m : ℕ) → m < n → session_slots ≤ session_place l (owner m) → n ≤ session_slots → free_place l < session_slots
    unfolding session_place free_place
    session_free a m h out few = room.slot_free sessions_keyed past session_slots n owner l o long a m h out few
