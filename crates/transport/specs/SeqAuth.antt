-- SeqAuth (MP 3.5.3.1) is the IV Index followed by the sequence number that a segmented message was begun with: here that number.
use Rattle.std.specs.Prelude.{[], ◌∷◌, Option, Some, None, ℕ, ◌+◌, ◌-◌, ◌*◌, ◌/◌, ◌%◌, leb, if◌then◌else◌}
use Rattle.common.specs.Paper.{Paper, Refusal, Given, ToldApart}

-- the greatest number from SEQ - 8191 to SEQ, at least 0, whose low 13 bits are SeqZero: in SEQ's own 8,192, or in the 8,192 before
unfoldable pub seq_auth : ℕ → ℕ → Option ℕ
seq_auth seq seq_zero =
    let end = seq_zero % 8192 in
    if leb end (seq % 8192) then Some (seq / 8192 * 8192 + end) else
    if leb 8192 seq then Some ((seq / 8192 - 1) * 8192 + end) else
    None

-- this paper's number and values of each answer: none is refusal 8
pub data Word : Type 0 where
  begun : Word

abbrev pub paper : Option ℕ → Paper Word
paper (Some n) = Given begun (n ∷ [])
paper None = Refusal 8 []

abbrev pub PaperApart : Type 0
PaperApart = ToldApart paper
