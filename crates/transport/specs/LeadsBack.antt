-- Promises: SeqAuth is as document 01 says it, and a segment sent within 8,191 of the number that its message was begun with leads back to it.
use Rattle.std.specs.Prelude.{Some, ◌≡◌, ℕ, ◌+◌, ◌%◌, ◌≤◌}
use Rattle.transport.specs.SeqAuth.{seq_auth}

-- a number from SEQ - 8191 to SEQ whose low 13 bits are SeqZero; there is never a second
pub record EndsIn (seq seq_zero n : ℕ) : Type 0 where
  pub not_after : n ≤ seq
  pub near : seq ≤ n + 8191
  pub low : n % 8192 ≡ seq_zero % 8192

-- such a number is the SeqAuth
abbrev pub Found : Type 0
Found = (seq seq_zero n : ℕ) → EndsIn seq seq_zero n → seq_auth seq seq_zero ≡ Some n

-- the SeqAuth is such a number
abbrev pub Ends : Type 0
Ends = (seq seq_zero n : ℕ) → seq_auth seq seq_zero ≡ Some n → EndsIn seq seq_zero n

-- a segment of a message: the message was begun with `first`, and this segment was sent with `seq`
pub record SegmentOf (first seq : ℕ) : Type 0 where
  -- every transmission takes a new SEQ
  pub later : first ≤ seq
  -- SEQ is at most 8,191 after that of segment 0
  pub near : seq ≤ first + 8191

-- it leads back to the number that the message was begun with
abbrev pub LeadsBack : Type 0
LeadsBack = (first seq : ℕ) → SegmentOf first seq → seq_auth seq (first % 8192) ≡ Some first
