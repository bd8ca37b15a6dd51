-- Promises of vetting (document 02, W12), over a buffer that is long enough: what it says, it says exactly.
--   Are ctl u l          the PDUs l are the segments of u
--   Begins ctl l         the PDUs l are the first segments of some message, or all of them
--   ApprovesExactly      u is approved exactly if the PDUs are its segments
--   OneMessage           they are segments of one message only
--   FaultsExactly        26 at k exactly if the first k PDUs begin a message's segments, and with PDU k they begin none
--   UnfinishedExactly    27 exactly if all PDUs begin a message's segments, and are those of none
use Rattle.std.specs.Prelude.{Bool, List, Ok, Err, ◌≡◌, ℕ, ◌+◌, ◌≤◌, ◌<◌, length, take}
use Rattle.common.specs.Exactly.{Exactly}
use Rattle.common.specs.Lent.{lent}
use Rattle.common.specs.Lists.{onto}
use Rattle.transport.specs.declared.vetting.Refusal.TheVariants.{Fault, Unfinished}
use Rattle.transport.specs.Listed.{pdus}
use Rattle.transport.specs.Segment.{message_octets}
use Rattle.transport.specs.Vetting.{segments_of, Allowed, vetting}

-- u is an allowed message, and l are its segments
pub record Are (ctl : Bool) (u : List ℕ) (l : List (List ℕ)) : Type 0 where
  pub c : ℕ
  pub z : Bool
  pub q : ℕ
  pub allowed : Allowed ctl c z q u
  pub are : segments_of ctl c z q u ≡ l

-- some allowed message has them as its first segments
pub record Begins (ctl : Bool) (l : List (List ℕ)) : Type 0 where
  pub c : ℕ
  pub z : Bool
  pub q : ℕ
  pub u : List ℕ
  pub allowed : Allowed ctl c z q u
  pub begins : take (length l) (segments_of ctl c z q u) ≡ l

abbrev pub ApprovesExactly : Type 0
ApprovesExactly =
    (ctl : Bool) (list out u : List ℕ) → message_octets ≤ length out
    → Exactly (vetting ctl list out ≡ lent (Ok (length u)) (onto u out)) (Are ctl u (pdus list))

-- the same message, octet 0, SZMIC and SeqZero
pub record SameMessage {ctl : Bool} {u v : List ℕ} {l : List (List ℕ)} (a : Are ctl u l) (b : Are ctl v l) : Type 0 where
  pub one_u : u ≡ v
  pub one_c : a.c ≡ b.c
  pub one_z : a.z ≡ b.z
  pub one_q : a.q ≡ b.q

abbrev pub OneMessage : Type 0
OneMessage = (ctl : Bool) (u v : List ℕ) (l : List (List ℕ)) (a : Are ctl u l) (b : Are ctl v l) → SameMessage a b

abbrev pub FaultsExactly : Type 0
FaultsExactly =
    (ctl : Bool) (list out : List ℕ) (k : ℕ) → message_octets ≤ length out
    → Exactly (vetting ctl list out ≡ lent (Err (Fault k)) out)
    ((k < length (pdus list)) × Begins ctl (take k (pdus list)) × (Begins ctl (take (k + 1) (pdus list)) → ⊥))

abbrev pub UnfinishedExactly : Type 0
UnfinishedExactly =
    (ctl : Bool) (list out : List ℕ) → message_octets ≤ length out
    → Exactly (vetting ctl list out ≡ lent (Err Unfinished) out) (Begins ctl (pdus list) × ((u : List ℕ) → Are ctl u (pdus list) → ⊥))
