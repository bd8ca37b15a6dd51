-- Examples E1 to E3 of document 01 say which IV Index an IVI picks: one list under one claim.
use Rattle.std.specs.Prelude.{List, [], ◌∷◌, ◌≡◌, ℕ}
use Rattle.common.specs.Paper.{Paper, Refusal, Given}
use Rattle.network.specs.IvIndex.{iv_index_heard, Word, index, paper}

-- an example: the current IV Index, a PDU's IVI, and what the IVI picks
pub record Example : Type 0 where
  pub current : ℕ
  pub ivi : ℕ
  pub answer : Paper Word

-- E1, E2, E3
abbrev pub examples : List Example
examples =
    record { current = 0x00101847; ivi = 1; answer = Given index (0x00101847 ∷ []) }
    ∷ record { current = 0x00101847; ivi = 0; answer = Given index (0x00101846 ∷ []) }
    ∷ record { current = 0; ivi = 1; answer = Refusal 2 [] }
    ∷ []

-- each example of a list is what `iv_index_heard` gives
abbrev pub Hold : List Example → Type 0
Hold [] = Unit {0}
Hold (e ∷ l) = (paper (iv_index_heard e.current e.ivi) ≡ e.answer) × Hold l

-- each of E1, E2, E3 is so
abbrev pub Examples : Type 0
Examples = Hold examples
