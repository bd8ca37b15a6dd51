-- Answers that can be read back from how they are given are told apart by it. Assumes nothing.
use mathlib.Core.Bool.{Bool, true, false}
use mathlib.Core.Path.{◌≡◌, refl, sym, ap, ◌∙◌}
use lib.Dec.{eqb}
use Rattle.common.specs.Paper.{bit, ToldApart}

pub told_apart : {A P : Type 0} (paper : A → P) (read : P → A) → ((a : A) → read (paper a) ≡ a) → ToldApart paper
told_apart paper read back a b e = sym (back a) ∙ ap read e ∙ back b

pub bit_back : (b : Bool) → eqb (bit b) 1 ≡ b
bit_back true = refl
bit_back false = refl
