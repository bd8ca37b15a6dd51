-- Text is put behind text in a lent buffer, as far as there is room.
--   written out at s   the text in the buffer then: what stands before `at`, and s behind it
--   putting s out at   the answer, which is where the text ends, and the buffer
use Rattle.std.specs.Prelude.{List, ◌++◌, ℕ, length, take}
use Rattle.common.specs.Lent.{Lent, lent}
use Rattle.common.specs.Lists.{onto}

-- what stands before `at`, and s behind it, as far as there is room
abbrev pub written : List ℕ → ℕ → List ℕ → List ℕ
written out at s = take (length out) (take at out ++ s)

-- where the text ends, and the buffer with it; the rest of the buffer stays
unfoldable pub putting : List ℕ → List ℕ → ℕ → Lent ℕ
putting s out at = lent (length (written out at s)) (onto (written out at s) out)
