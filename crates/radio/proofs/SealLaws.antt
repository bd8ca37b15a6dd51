-- What `gorephan_seal` answers where it seals, `seal_told`; and that a PDU's length fits its place.
-- Assumes nothing.
use mathlib.Core.List.{List}
use mathlib.Core.Path.{◌≡◌, ap, ◌∙◌}
use Prim.Native.Nat.{ℕ, ◌≤◌}
use native.Mathlib.Omega.{arith}
use borrow.Author.Tests.{eq-eqb, le-ltb}
use lib.Dec.{eqb, ltb}
use lib.ListN.{length}
use Rattle.std.specs.Prelude.{Result, Err}
use Rattle.common.specs.Lent.{Lent, lent}
use Rattle.common.specs.Lists.{padded}
use Rattle.common.specs.Paper.{number_of}
use Rattle.common.proofs.Tests.{by_test}
use Rattle.keys.specs.declared.NetworkKeys.{NetworkKeys}
use Rattle.network.specs.declared.header.Header.{Header}
use Rattle.network.specs.declared.sealing.Refusal.{Refusal}
use Rattle.network.specs.declared.sealing.Refusal.TheVariants.{OutsideRules, ShortBuffer}
use Rattle.network.specs.Sealing.{sealed_length, paper, sealable, sealing}
use Rattle.network.proofs.Sealed.{within, pdu_length}
use Rattle.network.proofs.SealingLaws.{body_most, transport_there}
use Rattle.network.specs.Pdu.{pdu_octets}
use Rattle.radio.specs.Credential.{keys_of, piece_at}
use Rattle.radio.specs.Seal.{header_for, seal_number, seal_done}
use Rattle.radio.proofs.CredentialLaws.{piece_whole}

pub paper_most : (r : Refusal) → number_of (paper (Err r)) ≤ 16
paper_most OutsideRules = omega arith
paper_most ShortBuffer = omega arith

-- a PDU has 29 octets at most
sealing_most : (key : NetworkKeys) (h : Header) (out : List ℕ) → length h.transport ≡ 16 → sealed_length (sealing key h out).answer ≤ pdu_octets
unfolding sealing
sealing_most key h out sixteen =
    by_test (ltb (length out) pdu_octets)
    (λ t. rw t (omega arith))
    (λ t. by_test (sealable key h)
    (λ u.
    let m = (within key h u).most_transport_law in
    rw (t, u, pdu_length key h (transport_there h sixteen m)) (omega (arith, (body_most h.ctl h.len m).1)))
    (λ u. rw (t, u) (omega arith)))

pub sealed_most :
    (key : NetworkKeys) (h : Header) (out : List ℕ) {a : Result ℕ Refusal} {left : List ℕ} → length h.transport ≡ 16 → lent a left ≡ sealing key h out
    → sealed_length a ≤ pdu_octets
sealed_most key h out sixteen e = rw (ap (λ (s : Lent (Result ℕ Refusal)). s.answer) e) (sealing_most key h out sixteen)

module _ (credential : List ℕ) (iv ctl ttl seq src dst : ℕ) (transport out : List ℕ) where
  module _ (room : pdu_octets ≤ length out) where
    module _ (whole : length credential ≡ 33) where
      -- k is the credential, read; t the transport, copied; left the lent buffer at exit
      pub seal_told :
          {k : NetworkKeys} {t left : List ℕ} {a : Result ℕ Refusal} {r : ℕ} → ctl ≤ 1 → k ≡ piece_at credential 0 → t ≡ padded 16 transport
          → lent a left
          ≡ sealing k
          (record { key = 0; iv = iv; ctl = eqb ctl 1; ttl = ttl; seq = seq; src = src; dst = dst; len = length transport; transport = t })
          out
          → r ≡ seal_number a → lent r left ≡ seal_done credential iv ctl ttl seq src dst transport out
      unfolding seal_done
      seal_told {k} {t} {left} {a} {r} h ek et e er =
          let s = sealing (keys_of credential) (header_for iv (eqb ctl 1) ttl seq src dst transport) out in
          let q : lent a left ≡ s = rw (ek ∙ piece_whole credential whole, et) at e in
          simp (le-ltb _ _ room, eq-eqb _ _ whole, le-ltb _ _ h)
          (rw er (ap (λ (z : Lent (Result ℕ Refusal)). lent (seal_number z.answer) z.buffer) q))
