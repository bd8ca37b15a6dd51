-- Octets and the number that they give determine each other. From the back, an octet more is a multiple of 256 and a remainder; from
-- the front, the octets that were passed are those of the number gathered so far.
-- Assumes nothing.
use mathlib.Core.List.{List, [], ◌∷◌, ◌++◌}
use mathlib.Core.Path.{◌≡◌, refl, sym, ap, ◌∙◌}
use Prim.Native.Nat.{ℕ, zero, suc, ◌+◌, ◌*◌, ◌/◌, ◌%◌, ◌^◌, ◌<◌}
use native.Mathlib.Nat.{one-mul, mul-one, mul_assoc, mod-eq_of_lt, mod-one, pow-suc, pow-succ', one-le-pow}
use native.Mathlib.Omega.{arith}
use Rattle.std.proofs.Math.Nat.{div-div-eq-div-mul}
use Rattle.std.specs.Int.{w32, to_be_bytes}
use lib.Arith.{digits_lt, mod-mul}
use lib.ListN.{length, length-append}
use Rattle.common.specs.Lists.{Octets}
use Rattle.common.proofs.Octets.{octets_one, octets_append}
use Rattle.network.specs.Octets.{octets, number_from, number}

-- n octets are n
pub length_octets : (n x : ℕ) → length (octets n x) ≡ n
unfolding octets
length_octets zero x = refl
length_octets (suc n) x = let e = length_octets n (x / 256) in simp length-append (omega arith)

-- the bytes of a number of four are its octets
pub octets_of_four : (x : ℕ) → to_be_bytes w32 x ≡ octets 4 x
unfolding octets
octets_of_four x = rw (div-div-eq-div-mul x 256 256, div-div-eq-div-mul x 65536 256) refl

-- each is an octet
pub octets_byte : (n x : ℕ) → Octets (octets n x)
unfolding octets
octets_byte zero x = λ i. omega arith
octets_byte (suc n) x = octets_append (octets n (x / 256)) (x % 256 ∷ []) (octets_byte n (x / 256)) (octets_one (x % 256) (omega arith))

-- the number that one octet more gives
number_from_snoc : (acc : ℕ) (l : List ℕ) (x : ℕ) → number_from acc (l ++ (x ∷ [])) ≡ number_from acc l * 256 + x
unfolding number_from
number_from_snoc acc [] x = refl
number_from_snoc acc (y ∷ l) x = number_from_snoc (acc * 256 + y) l x

-- n octets of x give what x leaves below 256 ^ n
pub number_octets_mod : (n x : ℕ) → number (octets n x) ≡ x % 256 ^ n
unfolding number octets number_from
number_octets_mod zero x = sym (mod-one x)
number_octets_mod (suc n) x =
    let e = number_octets_mod n (x / 256) in
    number_from_snoc 0 (octets n (x / 256)) (x % 256)
    ∙ ap (λ (m : ℕ). m * 256 + x % 256) e
    ∙ sym (ap (λ (m : ℕ). x % m) (pow-suc 256 n) ∙ mod-mul x {c = 256} (one-le-pow n 256 (omega arith)) (omega arith))

-- so x itself, where it is below
pub number_octets : (n x : ℕ) → x < 256 ^ n → number (octets n x) ≡ x
number_octets n x h = number_octets_mod n x ∙ mod-eq_of_lt h

-- octets behind a number below b
number_from_lt : (b acc : ℕ) (l : List ℕ) → Octets l → acc < b → number_from acc l < b * 256 ^ length l
unfolding number_from
number_from_lt b acc [] p h = rw mul-one h
number_from_lt b acc (x ∷ l) p h =
    rw (pow-succ' 256 (length l), ← mul_assoc b 256 (256 ^ length l))
    (number_from_lt (b * 256) (acc * 256 + x) l (λ i. p (suc i)) (digits_lt h (p 0)))

-- the number that n octets give
pub number_lt : (n : ℕ) (l : List ℕ) → length l ≡ n → Octets l → number l < 256 ^ n
unfolding number
number_lt n l e p = rw (← e, ← one-mul (256 ^ length l)) (number_from_lt 1 0 l p (omega arith))
