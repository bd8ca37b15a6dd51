-- A PDU says one bit of the IV Index that it was sealed with, and the receiver finds the rest (document 01, "The Network PDU").
--   iv_index_heard current ivi   the one that a heard PDU's IVI picks
--   iv_index_sent current flag   the one that sending uses
--   paper i                      how an answer is given; PaperApart: no two alike
use Rattle.std.specs.Prelude.{Bool, [], ◌∷◌, ℕ, ◌-◌, ◌%◌, Option, Some, None, eqb, if◌then◌else◌}
use Rattle.common.specs.Paper.{Paper, Refusal, Given, ToldApart}

-- whichever of current and current minus 1 has IVI as its lowest bit, none where that would be below 0; IVI is one bit, so a
-- number above 1 counts as its lowest bit
unfoldable pub iv_index_heard : ℕ → ℕ → Option ℕ
iv_index_heard current ivi =
    if eqb (current % 2) (ivi % 2) then Some current else
    if eqb current 0 then None else
    Some (current - 1)

-- this paper's number and values of each answer: none is refusal 2
pub data Word : Type 0 where
  index : Word

abbrev pub paper : Option ℕ → Paper Word
paper (Some iv) = Given index (iv ∷ [])
paper None = Refusal 2 []

abbrev pub PaperApart : Type 0
PaperApart = ToldApart paper

-- the current one, or with the flag set the one before; before 0 there is none, which setup refuses, and 0 stays 0
unfoldable pub iv_index_sent : ℕ → Bool → ℕ
iv_index_sent current flag = if flag then current - 1 else current
