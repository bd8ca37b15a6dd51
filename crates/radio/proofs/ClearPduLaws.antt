-- The clear PDU is the front of octet 0, CTL/TTL, SEQ, SRC, DST and sixteen octets of transport, and has 9 octets more than its transport.
-- Assumes nothing.
use mathlib.Core.List.{List, ◌∷◌, ◌++◌}
use mathlib.Core.Path.{◌≡◌, sym, ap, ap₂, ◌∙◌}
use Prim.Native.Nat.{ℕ, ◌+◌, ◌≤◌}
use native.Mathlib.Omega.{arith}
use lib.ListN.{length, take, length-take}
use lib.Seq.{take-append-add, take_all}
use Rattle.common.specs.Lent.{Lent, lent}
use Rattle.common.specs.Lists.{padded, onto}
use Rattle.common.proofs.Lists.{padded_all}
use Rattle.network.specs.declared.header.Header.{Header}
use Rattle.network.specs.Octets.{octets}
use Rattle.network.specs.Pdu.{pdu_octets, clear_front}
use Rattle.radio.specs.ClearPdu.{clear_pdu}

-- octets read one by one
pub octets_read :
    (first : ℕ) (h : Header) {f b : List ℕ} → length f ≡ 6 → length b ≡ 18 → f ≡ clear_front h → b ≡ octets 2 h.dst ++ h.transport
    → first ∷ padded 6 f ++ padded 18 b ≡ first ∷ clear_front h ++ octets 2 h.dst ++ h.transport
unfolding clear_front octets
octets_read first h {f} {b} six eighteen ef eb =
    ap₂ (λ (x y : List ℕ). first ∷ x ++ y) (padded_all 6 f six ∙ ef) (padded_all 18 b eighteen ∙ eb)

module _ (first : ℕ) (h : Header) (fits : h.len ≤ 16) where
  pub length_clear : length h.transport ≡ 16 → length (clear_pdu first h) ≡ 9 + h.len
  unfolding clear_pdu clear_front octets
  length_clear sixteen = simp length-take (omega arith)

  -- so 25 at most
  clear_most : length (clear_pdu first h) ≤ 25
  unfolding clear_pdu clear_front octets
  clear_most = simp length-take (omega arith)

  pub written_most :
      (out : List ℕ) {n : ℕ} {left : List ℕ} → lent n left ≡ lent (length (clear_pdu first h)) (onto (clear_pdu first h) out) → n ≤ 25
  written_most out e = rw (ap (λ (l : Lent ℕ). l.answer) e) clear_most

  -- all that could be written
  module _ {clear : List ℕ} (e : clear ≡ first ∷ clear_front h ++ octets 2 h.dst ++ h.transport) (n : length clear ≡ 25) where
    clear_taken : take (9 + h.len) clear ≡ clear_pdu first h
    unfolding clear_pdu clear_front octets
    clear_taken = ap (take (9 + h.len)) e ∙ take-append-add (first ∷ clear_front h ++ octets 2 h.dst) h.transport h.len

    sixteen : length h.transport ≡ 16
    unfolding clear_front octets
    sixteen = omega (arith, ap length e)

    -- left is the lent buffer at exit
    pub clear_written :
        (out : List ℕ) {left : List ℕ} → pdu_octets ≤ length out → left ≡ onto (take (length out) (take (9 + h.len) clear)) out
        → lent (9 + h.len) left ≡ lent (length (clear_pdu first h)) (onto (clear_pdu first h) out)
    clear_written out room el =
        let l = length_clear sixteen in
        ap₂ (λ (k : ℕ) (z : List ℕ). lent k z) (sym l)
        (el ∙ ap (λ (z : List ℕ). onto z out) (ap (take (length out)) clear_taken ∙ take_all (length out) (clear_pdu first h) (omega arith)))
