-- `OpenAnswers`, `SealAnswers` and `CredentialsAnswer`: walk the tests of each call. The refusal is the lowest part of the number, and fits there; each hands back the buffer, and
-- what writes it is none. Assumes nothing.
use mathlib.Core.Bool.{not}
use mathlib.Core.List.{List}
use mathlib.Core.Path.{◌≡◌, refl}
use Prim.Native.Nat.{ℕ, ◌%◌}
use native.Mathlib.Omega.{arith}
use borrow.Author.Tests.{ne_eqb, le-leb}
use lib.Dec.{eqb, ltb}
use lib.ListN.{length, get_or}
use Rattle.std.specs.Prelude.{Result, Ok, Err}
use Rattle.common.specs.Lent.{Lent, lent}
use Rattle.common.specs.Paper.{number_of}
use Rattle.common.proofs.Tests.{by_choice}
use Rattle.keys.specs.declared.NetworkKeys.{NetworkKeys}
use Rattle.network.specs.declared.header.Header.{Header}
use Rattle.network.specs.declared.opening.Opening.{Opening}
use Rattle.network.specs.declared.opening.Refusal as opening_refusal
use Rattle.network.specs.declared.sealing.Refusal.{Refusal}
use Rattle.network.specs.Opening.{paper, opening}
use Rattle.network.specs.Pdu.{pdu_octets, pdu_of}
use Rattle.network.specs.Sealing.{sealable, sealing}
use Rattle.radio.specs.Answers.{of_opening, of_sealing, of_deriving, Answers, OpenAnswers, SealAnswers, CredentialsAnswer}
use Rattle.radio.specs.ClearPdu.{clear_pdu}
use Rattle.radio.specs.Credential.{pieces, piece_count, credentials_done}
use Rattle.radio.specs.Open.{packed, told_as, told, open_done}
use Rattle.radio.specs.Seal.{seal_number, seal_done}
use Rattle.radio.specs.SealOpen.{refusal_in}
use Rattle.radio.proofs.OpenLaws.{paper_most}

-- ---- opening
abbrev OpensAs : List ℕ → Lent ℕ → Type 0
OpensAs out d = Answers of_opening (d.answer % 256) out d.buffer

opens_told_as : (octet0 : ℕ) (out : List ℕ) (trials : ℕ) (o : Result Header opening_refusal.Refusal) → OpensAs out (told_as octet0 out trials o)
opens_told_as octet0 out trials (Ok h) =
    let none : packed 0 trials (length (clear_pdu octet0 h)) h.key % 256 ≡ 0 = omega arith in
    record { one_of = rw none refl; refused_stays = λ z. absurd (z none) }
opens_told_as octet0 out trials (Err r) =
    let most = paper_most r in
    let n = number_of (paper (Err r)) in
    let same : packed n trials 0 0 % 256 ≡ n = omega arith in
    let other : n ≡ 16 → ⊥ = λ e. omega arith in
    record { one_of = rw (same, ne_eqb n 16 other) (le-leb n _ (omega arith)); refused_stays = λ _. refl }

opens_told : (octet0 : ℕ) (out : List ℕ) (o : Opening) → OpensAs out (told octet0 out o)
unfolding told
opens_told octet0 out o = opens_told_as octet0 out o.trials o.opened

pub open_answers : OpenAnswers
unfolding open_done
open_answers credentials iv pdu out =
    by_choice (OpensAs out) (ltb (length out) pdu_octets) (λ _. record { one_of = refl; refused_stays = λ _. refl })
    (λ _. opens_told (get_or pdu 0 0) out (opening (pieces credentials) (piece_count credentials) iv pdu))

-- ---- sealing
abbrev SealsAs : List ℕ → Lent ℕ → Type 0
SealsAs out d = Answers of_sealing (refusal_in d.answer) out d.buffer

seals_told : (key : NetworkKeys) (h : Header) (out : List ℕ) → (let s = sealing key h out in SealsAs out (lent (seal_number s.answer) s.buffer))
unfolding sealing seal_number
seals_told key h out =
    let P : Lent (Result ℕ Refusal) → Type 0 = λ s. SealsAs out (lent (seal_number s.answer) s.buffer) in
    by_choice P (ltb (length out) pdu_octets) (λ _. record { one_of = refl; refused_stays = λ _. refl })
    (λ _. by_choice P (sealable key h)
    (λ _.
    let none : refusal_in (seal_number (Ok (length (pdu_of key h)))) ≡ 0 = omega arith in
    record { one_of = rw none refl; refused_stays = λ z. absurd (z none) })
    (λ _. record { one_of = refl; refused_stays = λ _. refl }))

pub seal_answers : SealAnswers
unfolding seal_done
seal_answers x out =
    by_choice (SealsAs out) (ltb (length out) pdu_octets) (λ _. record { one_of = refl; refused_stays = λ _. refl })
    (λ _. by_choice (SealsAs out) (not (eqb (length x.credential) 33)) (λ _. record { one_of = refl; refused_stays = λ _. refl })
    (λ _. by_choice (SealsAs out) (ltb 1 x.ctl) (λ _. record { one_of = refl; refused_stays = λ _. refl })
    (λ _. seals_told _ _ out)))

-- ---- credentials
pub credentials_answer : CredentialsAnswer
unfolding credentials_done
credentials_answer key out =
    let P : Lent ℕ → Type 0 = λ c. Answers of_deriving c.answer out c.buffer in
    by_choice P (not (eqb (length key) 16)) (λ _. record { one_of = refl; refused_stays = λ _. refl })
    (λ _. by_choice P (ltb (length out) 33) (λ _. record { one_of = refl; refused_stays = λ _. refl })
    (λ _. record { one_of = refl; refused_stays = λ z. absurd (z refl) }))
