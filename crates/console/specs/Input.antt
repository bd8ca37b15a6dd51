-- The input, octet by octet: what the console is after it, however it comes in blocks; and how much of the buffer for answers is kept free.
--   Reader                  the console between two octets
--   freed n at              where the answers in a buffer of n octets end, once those so far are written where little room is left
--   KeepsFree               then 8,192 octets are free
--   behind_answers text a   an answer behind the others: it is never cut
--   ended s                 the line is whole, and is answered
--   reads n s octet         one octet more, of a line of which at most n octets are kept
--   reads_all n s octets    octets, one after the other
--   InBlocks                it is all one in which blocks they come
use Rattle.std.specs.Prelude.{Bool, List, [], ◌∷◌, ◌++◌, ◌≡◌, ℕ, ◌+◌, ◌≤◌, eqb, ltb, length, take, if◌then◌else◌}
use Rattle.common.specs.Lent.{Lent, lent}
use Rattle.common.specs.Lists.{onto}
use Rattle.commands.specs.Line.{line_of}
use Rattle.console.specs.declared.input.Left.{Left}
use Rattle.console.specs.declared.step.Console.{Console}
use Rattle.console.specs.Step.{console, answering}

-- the console between two octets: the octets of the line so far, the buffer for those that a line says, and where the answers end in theirs
pub record Reader : Type 0 where
  pub state : Console
  pub line : List ℕ
  pub octets : List ℕ
  pub answers : Lent ℕ

abbrev pub reader : Console → List ℕ → List ℕ → Lent ℕ → Reader
reader c line octets answers = record { state = c; line = line; octets = octets; answers = answers }

-- where the answers end: at the start, where fewer than 8,192 octets were free and they are written
unfoldable pub freed : ℕ → ℕ → ℕ
freed n at = if ltb n (at + 8192) then 0 else at

-- then 8,192 octets are free, in a buffer that has so many
abbrev pub KeepsFree : Type 0
KeepsFree = (n at : ℕ) → 8192 ≤ n → freed n at + 8192 ≤ n

-- an answer stands behind the others, whole
unfoldable pub behind_answers : List ℕ → Lent ℕ → Lent ℕ
behind_answers text a =
    let all = take (freed (length a.buffer) a.answer) a.buffer ++ text in
    lent (length all) (onto all a.buffer)

-- a newline came: the line is answered, and the next begins
unfoldable pub ended : Reader → Reader
ended s =
    let done = answering s.state s.line s.octets in
    reader done.after [] (line_of s.line s.state.desk.ready s.octets).buffer (behind_answers done.text s.answers)

-- the line is whole or not
abbrev pub ended_if : Bool → Reader → Reader
ended_if whole s = if whole then ended s else s

-- one octet more: a newline (0a), or one of the line, of which at most n are kept
unfoldable pub reads : ℕ → Reader → ℕ → Reader
reads n s octet = if eqb octet 0x0a then ended s else reader s.state (take n (s.line ++ (octet ∷ []))) s.octets s.answers

-- octets, one after the other
unfoldable pub reads_all : ℕ → Reader → List ℕ → Reader
reads_all n s [] = s
reads_all n s (octet ∷ octets) = reads_all n (reads n s octet) octets

-- the answers are written, and the next stand elsewhere
abbrev pub with_answers : Reader → Lent ℕ → Reader
with_answers s a = reader s.state s.line s.octets a

-- the console after input is the same however it comes in blocks, wherever answers stand
abbrev pub InBlocks : Type 0
InBlocks =
    (n : ℕ) (s : Reader) (a z : Lent ℕ) (first rest : List ℕ)
    → with_answers (reads_all n s (first ++ rest)) z ≡ with_answers (reads_all n (with_answers (reads_all n s first) a) rest) z

-- what a block leaves: the octets gathered stand in the first of a buffer
abbrev pub reader_of : Left → List ℕ → List ℕ → Lent ℕ → Reader
reader_of l line octets answers = reader (console l.desk l.receiver) (take l.gathered line) octets answers

-- where a line is gathered from text to text', and is whole or not, what comes of `rest` comes of rest'
abbrev pub Gathers : ℕ → List ℕ → List ℕ → Bool → List ℕ → List ℕ → Type 0
Gathers n text rest whole text' rest' =
    (c : Console) (octets : List ℕ) (a : Lent ℕ) → reads_all n (reader c text octets a) rest ≡ reads_all n (ended_if whole (reader c text' octets a)) rest'
