-- What securing leaves on zeros, and the bounds of an access message that may be sent. Assumes nothing.
use mathlib.Core.Bool.{Bool, true, false}
use mathlib.Core.List.{List, ◌++◌, append-nil, []}
use mathlib.Core.Path.{◌≡◌, refl, ap, ◌∙◌}
use Prim.Native.Nat.{ℕ, ◌+◌, ◌≤◌, ◌<◌}
use native.Mathlib.Omega.{arith}
use borrow.Author.Tests.{le-ltb}
use lib.ListN.{length, replicate, length-replicate}
use Rattle.common.specs.Lent.{Lent, lent}
use Rattle.common.specs.Lists.{padded, onto}
use Rattle.modes.specs.Ccm.{mic_octets, longest_data}
use Rattle.network.proofs.TrialLaws.{onto_zeros}
use Rattle.transport.specs.declared.securing.Envelope.{Envelope}
use Rattle.transport.specs.declared.securing.MessageKey.{MessageKey}
use Rattle.transport.specs.Securing.{trans_mic, secured, securing}
use Rattle.transport.specs.Segment.{message_octets}
use Rattle.transport.proofs.SecureOpen.{secured_length}
use Rattle.node.specs.Addresses.{element_places}
use Rattle.receiver.specs.declared.state.Receiver.{Receiver}
use Rattle.sending.specs.declared.access.KeyUsed.{KeyUsed}
use Rattle.sending.specs.declared.request.Request.{Request}
use Rattle.sending.specs.Access.{size_allowed, access_allowed, whole_pdu}
use Rattle.sending.specs.Request.{request_allowed}

-- ---- secured onto so many zeros
module _ (key : List ℕ) (e : Envelope) (additional m : List ℕ) (n : ℕ) (ok : Bool) (left : List ℕ)
    (made : lent ok left ≡ securing key e additional m (replicate n 0)) (d : length additional ≤ longest_data) where
  pub secured_padded : length m + mic_octets (trans_mic e.szmic) ≤ n → n ≤ message_octets → left ≡ padded n (secured key e additional m)
  unfolding securing
  secured_padded room most =
      let zeros : List ℕ = replicate n 0 in
      let whole : securing key e additional m zeros ≡ lent true (onto (secured key e additional m) zeros) =
      rw (
        le-ltb longest_data (length additional) d,
        le-ltb message_octets (length m) (omega arith),
        le-ltb (length zeros) (length m + mic_octets (trans_mic e.szmic)) (rw (length-replicate {A = ℕ} n 0) room),
      ) in
      ap (λ (u : Lent Bool). u.buffer) (made ∙ whole) ∙ onto_zeros n (secured key e additional m) (grind (arith, secured_length))

  pub secured_whole : e.szmic ≡ false → length m ≤ 11 → n ≡ 15 → left ++ [] ≡ padded 15 (secured key e additional m)
  secured_whole z h f =
      let room : length m + mic_octets (trans_mic e.szmic) ≤ n = rw (z, f) (omega arith) in
      append-nil left ∙ secured_padded room (omega arith) ∙ ap (λ (k : ℕ). padded k (secured key e additional m)) f

pub whole_length :
    (e : Envelope) (k : KeyUsed) (additional payload : List ℕ) → e.szmic ≡ false → length (whole_pdu e k additional payload) ≡ 5 + length payload
unfolding whole_pdu
whole_length e k additional payload z =
    let l : length (secured k.key e additional payload) ≡ length payload + 4 = secured_length k.key e additional payload ∙ rw z refl in
    omega arith

-- ---- what may be sent
module _ (r : Receiver) (q : Request) (key : MessageKey) (szmic : Bool) (len : ℕ) (allowed : access_allowed r q key szmic len ≡ true) where
  pub element_within : q.element < element_places
  unfolding access_allowed request_allowed
  element_within = grind arith

  pub secured_within : len + mic_octets (trans_mic szmic) ≤ message_octets
  unfolding access_allowed size_allowed
  secured_within = grind arith
