-- A writer: a lent buffer, and where the text in it ends.
--   writer_at out at   a writer that goes on at `at`
--   writing s w        s is written behind the writer's text
--   WritesAsPut        what a writer leaves is what was put
use Rattle.std.specs.Prelude.{List, ◌≡◌, ℕ, min, ltb, length, if◌then◌else◌}
use Rattle.std.specs.Borrow.{MutBor}
use Rattle.common.specs.Lent.{Lent, lent}
use Rattle.text.specs.declared.writer.Writer.{Writer}
use Rattle.text.specs.Written.{putting}

-- a writer that goes on at `at`: at the end of its buffer where that is past it
abbrev pub writer_at : MutBor (List ℕ) → ℕ → Writer
writer_at out at = record { out = out; at = min at (length out.now) }

-- a writer's buffer, and where the text in it ends
abbrev pub standing : Writer → Lent ℕ
standing w = lent w.at w.out.now

-- the writer with another text in its buffer
abbrev pub holding : Writer → Lent ℕ → Writer
holding w p = record w { out = record w.out { now = p.buffer }; at = p.answer }

-- s is written behind the writer's text, as far as there is room: nothing is at the end of its buffer, or past it
unfoldable pub writing : List ℕ → Writer → Writer
writing s w = holding w (if ltb w.at (length w.out.now) then putting s w.out.now w.at else standing w)

-- what is written at `at` is put there
abbrev pub WritesAsPut : Type 0
WritesAsPut = (s : List ℕ) (out : MutBor (List ℕ)) (at : ℕ) → standing (writing s (writer_at out at)) ≡ putting s out.now at
