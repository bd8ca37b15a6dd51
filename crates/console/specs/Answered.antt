-- What a line leaves and what it is answered; and the answer written behind the others.
--   Answered A       something of the console after a line, and the text of its answer
--   Put A            the same, and the writer of the answers
--   answer_put a w   the answer written behind those of a writer
use Rattle.std.specs.Prelude.{List, ℕ}
use Rattle.text.specs.declared.writer.Writer.{Writer}
use Rattle.text.specs.Writer.{writing}

-- something of the console after a line, and the text of the line's answer
pub record Answered (A : Type 0) : Type 0 where
  pub after : A
  pub text : List ℕ

abbrev pub answered : {A : Type 0} → A → List ℕ → Answered A
answered a text = record { after = a; text = text }

-- something of the console after a line, and the writer of the answers
pub record Put (A : Type 0) : Type 0 where
  pub after : A
  pub answers : Writer

abbrev pub put : {A : Type 0} → A → Writer → Put A
put a w = record { after = a; answers = w }

-- the answer is written behind the others, as far as there is room
abbrev pub answer_put : {A : Type 0} → Answered A → Writer → Put A
answer_put a w = record { after = a.after; answers = writing a.text w }
