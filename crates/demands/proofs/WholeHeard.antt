-- A message that went whole, heard by a fresh receiver: its PDU passes, nothing is in the replay list, and the form is the one that was written.
-- Behind it the cache has the PDU. Assumes nothing.
--   HandsUp                       what is handed up, counted and remembered
--   access_heard, control_heard   of an access and of a control message
use mathlib.Core.Bool.{Bool, true}
use mathlib.Core.List.{List, [], ◌∷◌}
use mathlib.Core.Path.{◌≡◌, refl, sym, ap, ◌∙◌, subst}
use Prim.Native.Nat.{ℕ}
use lib.ListN.{length, drop}
use lib.Seq.{take-append_seam}
use Rattle.std.specs.Prelude.{Ok, Some}
use Rattle.common.specs.Lent.{Lent, lent}
use Rattle.common.specs.Lists.{onto}
use Rattle.network.specs.declared.header.Header.{Header}
use Rattle.network.specs.Header.{transport_of}
use Rattle.transport.specs.declared.form.Form.TheVariants as form
use Rattle.transport.specs.declared.securing.Opener.{Opener}
use Rattle.transport.specs.Form.{form_of}
use Rattle.transport.specs.Securing.{opened, unsecuring}
use Rattle.memory.specs.Cache.{seen_of, seen, remembered}
use Rattle.memory.proofs.CacheLaws.{seen_new}
use Rattle.node.specs.declared.setup.Setup.{Setup}
use Rattle.node.specs.Addresses.{for_node, held_by}
use Rattle.receiver.specs.declared.answer.Answer.TheVariants as answer
use Rattle.receiver.specs.declared.answer.Taken.{Taken}
use Rattle.receiver.specs.declared.state.Receiver.{Receiver}
use Rattle.receiver.specs.Fresh.{setting_up}
use Rattle.receiver.specs.Hearing.{taken_as}
use Rattle.receiver.specs.Passing.{Passes}
use Rattle.receiver.specs.State.{with_cache}
use Rattle.receiver.specs.Whole as whole
use Rattle.receiver.proofs.Good.{good_fresh}
use Rattle.receiver.proofs.Laws.Form.{taken_access, taken_control, admitted_is}
use Rattle.receiver.proofs.Laws.Fresh.{fresh_admits}
use Rattle.receiver.proofs.Laws.Heard.{heard_new}
use Rattle.demands.specs.Call.{Hear, Heard, Tried, step}
use Rattle.demands.specs.Interleaved.{start, node_of, handed_as, handed}
use Rattle.demands.specs.Speech.{Handed}

-- what a fresh receiver hands up of one PDU, and the keys that it counts
pub record HandsUp (setup : Setup) (h : Header) (pdu fwd msg : List ℕ) (m : Handed) (n : Tried) : Type 0 where
  pub hands : handed (step (start setup) (Hear pdu fwd msg)) ≡ m ∷ []
  pub counts : (step (start setup) (Hear pdu fwd msg)).tried ≡ n
  -- its header is in the cache
  pub caches : (k : Header) → seen_of k ≡ seen_of h → seen (step (start setup) (Hear pdu fwd msg)).receiver.cache k ≡ true

module _ (setup : Setup) (ready : (setting_up setup).answer ≡ Ok tt) (h : Header) (pdu fwd msg : List ℕ) (place : ℕ)
    (passes : Passes (start setup) pdu fwd msg place h) (here : for_node (node_of setup) h.dst ≡ true) where
  -- the receiver with the PDU in its cache
  abbrev q : Receiver
  q = with_cache (start setup) (remembered (start setup).cache h)

  -- what is handed up and counted is what the message of its form hands up and counts
  record Whole (t : Lent Taken) : Type 0 where
    hands_as : handed (step (start setup) (Hear pdu fwd msg)) ≡ handed_as (Heard t.answer.answer) t.buffer
    tried_as_law : (step (start setup) (Hear pdu fwd msg)).tried ≡ record { network = place; application = t.answer.trials }
    left_as : (step (start setup) (Hear pdu fwd msg)).receiver ≡ t.answer.receiver

  heard_whole : (t : Lent Taken) → taken_as (form_of h) q h msg ≡ t → Whole t
  heard_whole t e =
      let l = heard_new passes here t e in
      record { hands_as = rw (l.answers, l.message_is) refl; tried_as_law = rw (l.network_is, l.application_is) refl; left_as = l.left_is }

  -- an admitted message leaves the cache with its PDU
  cached_by : (step (start setup) (Hear pdu fwd msg)).receiver ≡ whole.admitted q h → (k : Header) → seen_of k ≡ seen_of h → seen (step (start setup) (Hear pdu fwd msg)).receiver.cache k ≡ true
  cached_by e k same =
      subst (λ (r : Receiver). seen r.cache k ≡ true) (sym (e ∙ admitted_is q h msg)) (seen_new (start setup).cache h (good_fresh setup ready).cache_places k same)

  -- ---- an access message
  pub access_heard :
      (akf : Bool) (aid trials : ℕ) (opener : Opener) (payload : List ℕ) → form_of h ≡ Some (form.Access akf aid)
      → (let node = node_of setup in
      unsecuring (held_by node) (whole.whole_envelope h akf aid) (drop 1 (transport_of h)) msg
      ≡ lent (opened opener trials (length payload)) (onto payload msg))
      → HandsUp setup h pdu fwd msg (record { answer = answer.Access h.src h.dst h.key opener (whole.pair_of h) (length payload); octets = payload })
      (record { network = place; application = trials })
  access_heard akf aid trials opener payload f u =
      let x = heard_whole _ (taken_access q h msg akf aid trials (length payload) opener (onto payload msg) f (fresh_admits setup h) u) in
      record {
        hands =
            x.hands_as
            ∙ ap (λ (l : List ℕ). record { answer = answer.Access h.src h.dst h.key opener (whole.pair_of h) (length payload); octets = l } ∷ []) (take-append_seam payload _);
        counts = x.tried_as_law;
        caches = cached_by x.left_as;
      }

  -- ---- a control message
  pub control_heard :
      (code : ℕ) (parameters : List ℕ) → form_of h ≡ Some (form.Control code) → drop 1 (transport_of h) ≡ parameters
      → HandsUp setup h pdu fwd msg (record { answer = answer.Control h.src h.dst h.key code (whole.pair_of h) (length parameters); octets = parameters })
      (record { network = place; application = 0 })
  control_heard code parameters f m =
      let x = heard_whole _ (taken_control q h msg code parameters f (fresh_admits setup h) m) in
      record {
        hands =
            x.hands_as
            ∙ ap (λ (l : List ℕ). record { answer = answer.Control h.src h.dst h.key code (whole.pair_of h) (length parameters); octets = l } ∷ []) (take-append_seam parameters _);
        counts = x.tried_as_law;
        caches = cached_by x.left_as;
      }
