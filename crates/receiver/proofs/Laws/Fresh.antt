-- What a receiver that setup made holds: nothing is in the cache, no source has an entry or a session, and so every message is new and admitted. Assumes nothing.
--   by_setting_up   setup answers that it is ready, or 14
--   made            what setup made, or zeros
--   ready_made      where it is ready, setup made it
--   fresh_is        it is a fresh one, of that
--   fresh_unseen    its cache has seen nothing of a source
--   fresh_admits    it admits every whole message
use mathlib.Core.Bool.{false}
use mathlib.Core.Path.{◌≡◌, refl, ap}
use Rattle.std.specs.Prelude.{Option, Some, None, Result, Ok, Err, replicate}
use Prim.Native.Nat.{ℕ}
use native.Mathlib.Omega.{arith}
use Rattle.common.specs.Paper.{number_of}
use Rattle.network.specs.declared.header.Header.{Header}
use Rattle.node.specs.declared.setup.Made.{Made}
use Rattle.node.specs.declared.setup.Setup.{Setup}
use Rattle.node.specs.Addresses.{element_places, no_node}
use Rattle.node.specs.Setup.{making}
use Rattle.memory.specs.Cache.{seen}
use Rattle.memory.specs.Replay.{stale}
use Rattle.memory.proofs.CacheLaws.{seen_none}
use Rattle.memory.proofs.ReplayMap.{look_up_none, has_room_none}
use Rattle.receiver.specs.declared.answer.Refusal.{Refusal}
use Rattle.receiver.specs.declared.answer.Refusal.TheVariants.{OutsideRules}
use Rattle.receiver.specs.Fresh.{paper, fresh, setting_up_as, setting_up}
use Rattle.receiver.specs.Whole.{admission, admission_by}

-- what setup made, or zeros
abbrev pub made_as : Option Made → Made
made_as (Some m) = m
made_as None = record { node = no_node; next = replicate element_places 0 }

abbrev pub made : Setup → Made
made s = made_as (making s)

by_setting_up_as : (P : Result Unit Refusal → Type 0) → P (Ok tt) → P (Err OutsideRules) → (o : Option Made) → P (setting_up_as o).answer
by_setting_up_as P ready refused (Some m) = ready
by_setting_up_as P ready refused None = refused

ready_made_as : (o : Option Made) → (setting_up_as o).answer ≡ Ok tt → o ≡ Some (made_as o)
ready_made_as (Some m) e = refl
ready_made_as None e = let f : ◌≡◌ {A = ℕ} 14 0 = ap (λ (a : Result Unit Refusal). number_of (paper a)) e in absurd (omega arith)

fresh_as : (o : Option Made) → (setting_up_as o).receiver ≡ fresh (made_as o).node (made_as o).next
fresh_as (Some m) = refl
fresh_as None = refl

module _ (s : Setup) where
  pub by_setting_up : (P : Result Unit Refusal → Type 0) → P (Ok tt) → P (Err OutsideRules) → P (setting_up s).answer
  unfolding setting_up
  by_setting_up P ready refused = by_setting_up_as P ready refused (making s)

  pub ready_made : (setting_up s).answer ≡ Ok tt → making s ≡ Some (made s)
  unfolding setting_up
  ready_made e = ready_made_as (making s) e

  pub fresh_is : (setting_up s).receiver ≡ fresh (made s).node (made s).next
  unfolding setting_up
  fresh_is = fresh_as (making s)

  pub fresh_unseen : (h : Header) → (h.src ≡ 0 → ⊥) → seen (setting_up s).receiver.cache h ≡ false
  fresh_unseen h z = rw fresh_is (seen_none h z)

  pub fresh_admits : (h : Header) → admission (setting_up s).receiver.replay h ≡ Ok tt
  unfolding admission_by stale
  fresh_admits h = rw (fresh_is, look_up_none h.src, has_room_none h.src) refl
