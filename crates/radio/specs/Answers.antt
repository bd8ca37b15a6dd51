-- Promise: which refusals each call of the C radio firmware answers (document 01, "What the receiver holds": opening 16 or 1 to 4, sealing 16 or 14), and that a refusal leaves
-- the lent buffer as it was.
--   Answers may refusal out left    the refusal is one of them, and where it is one the buffer stays
use Rattle.std.specs.Prelude.{Bool, true, ◌||◌, List, ◌≡◌, ℕ, ◌%◌, eqb, leb}
use Rattle.radio.specs.Credential.{credentials_done}
use Rattle.radio.specs.Open.{open_done}
use Rattle.radio.specs.SealOpen.{Asked, sealed, refusal_in}

-- ---- the refusals of a call; 0 where nothing is refused
-- opening answers 16 or 1 to 4
abbrev pub of_opening : ℕ → Bool
of_opening n = eqb n 16 || leb n 4

-- sealing 16 or 14
abbrev pub of_sealing : ℕ → Bool
of_sealing n = eqb n 0 || eqb n 16 || eqb n 14

-- a credential is derived, or 14
abbrev pub of_deriving : ℕ → Bool
of_deriving n = eqb n 0 || eqb n 14

-- one of them is answered, and a refusal leaves the buffer as it was
pub record Answers (may : ℕ → Bool) (refusal : ℕ) (out left : List ℕ) : Type 0 where
  pub one_of : may refusal ≡ true
  pub refused_stays : (refusal ≡ 0 → ⊥) → left ≡ out

-- the refusal is the low 8 bits of the number that `gorephan_open` answers
abbrev pub OpenAnswers : Type 0
OpenAnswers =
    (credentials : List ℕ) (iv : ℕ) (pdu out : List ℕ)
    → (let o = open_done credentials iv pdu out in Answers of_opening (o.answer % 256) out o.buffer)

-- and the low 16 bits of that of `gorephan_seal`
abbrev pub SealAnswers : Type 0
SealAnswers =
    (x : Asked) (out : List ℕ) → (let s = sealed x out in Answers of_sealing (refusal_in s.answer) out s.buffer)

-- `gorephan_credentials` answers nothing else
abbrev pub CredentialsAnswer : Type 0
CredentialsAnswer = (key out : List ℕ) → (let c = credentials_done key out in Answers of_deriving c.answer out c.buffer)
