-- An answer that was written behind the others, beside what the line leaves.
-- Assumes nothing.
use mathlib.Core.List.{List}
use mathlib.Core.Path.{◌≡◌, ap}
use Prim.Native.Nat.{ℕ}
use Rattle.common.specs.Lent.{Lent, lent}
use Rattle.text.specs.declared.writer.Writer.{Writer}
use Rattle.text.specs.Writer.{writing}
use Rattle.console.specs.Answered.{Answered, Put, put, answer_put, answered}

module _ {A : Type 0} (w w' : Writer) where
  pub put_answer : (a : A) (text : List ℕ) → w' ≡ writing text w → put a w' ≡ answer_put (answered a text) w
  put_answer a text e = ap (put a) e

  -- what the line leaves is a part of something
  pub put_part :
      {B : Type 0} (f : A → B) (q : A) (a : Answered A) → put q w' ≡ answer_put a w → put (f q) w' ≡ answer_put (answered (f a.after) a.text) w
  put_part {B} f q a e = ap (λ (p : Put A). record { after = f p.after; answers = p.answers }) e
