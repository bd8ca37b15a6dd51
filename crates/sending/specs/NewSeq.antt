-- Promises: every transmission that is sent takes a new SEQ of its element, and nothing else does.
--   UsesNext       it was sealed with the element's next SEQ, a number of 24 bits
--   RaisesNext     and that SEQ is used: the next one is greater by one
--   RefusalKeeps   every other answer leaves the receiver
--   OthersKeep     no transmission touches another element's next SEQ
--   NeverFalls     so no next SEQ ever falls
use Rattle.std.specs.Prelude.{true, false, Ok, is_ok, List, ◌≡◌, ℕ, ◌+◌, ◌≤◌, ◌<◌, length}
use Rattle.common.specs.Lent.{lent}
use Rattle.network.specs.declared.header.Header.{Header}
use Rattle.network.specs.Candidates.{key_at}
use Rattle.network.specs.Sealing.{sealing}
use Rattle.receiver.specs.declared.state.Receiver.{Receiver}
use Rattle.sending.specs.Transmission.{next_seq, stamped, transmitted}

-- a PDU of so many octets, sealed with the element's next SEQ
pub record SentWithNext (r : Receiver) (element : ℕ) (h : Header) (buf : List ℕ) (len : ℕ) : Type 0 where
  -- SEQ has 24 bits
  pub fits : next_seq r element ≤ 0xFFFFFF
  -- the header that is sealed has it
  pub stamp : (stamped r element h).seq ≡ next_seq r element
  -- and the buffer holds what sealing made
  pub made : sealing (key_at r.node.materials h.key) (stamped r element h) buf ≡ lent (Ok len) (transmitted r element h buf).buffer

abbrev pub UsesNext : Type 0
UsesNext =
    (r : Receiver) (element : ℕ) (h : Header) (buf : List ℕ) (len : ℕ) → (transmitted r element h buf).answer.sent ≡ Ok len
    → SentWithNext r element h buf len

abbrev pub RaisesNext : Type 0
RaisesNext =
    (r : Receiver) (element : ℕ) (h : Header) (buf : List ℕ)
    -- the element is one of those that a next SEQ is kept for
    → element < length r.next
    → is_ok (transmitted r element h buf).answer.sent ≡ true
    → next_seq (transmitted r element h buf).answer.receiver element ≡ next_seq r element + 1

abbrev pub RefusalKeeps : Type 0
RefusalKeeps =
    (r : Receiver) (element : ℕ) (h : Header) (buf : List ℕ) → is_ok (transmitted r element h buf).answer.sent ≡ false
    → (transmitted r element h buf).answer.receiver ≡ r

abbrev pub OthersKeep : Type 0
OthersKeep =
    (r : Receiver) (element : ℕ) (h : Header) (buf : List ℕ) (other : ℕ) → (other ≡ element → ⊥)
    → next_seq (transmitted r element h buf).answer.receiver other ≡ next_seq r other

abbrev pub NeverFalls : Type 0
NeverFalls =
    (r : Receiver) (element : ℕ) (h : Header) (buf : List ℕ) (any : ℕ) → next_seq r any ≤ next_seq (transmitted r element h buf).answer.receiver any
