-- Each answer of vetting is given: to the two PDUs of a message of 24 octets, the first alone, none, both under CTL 1, one too many, and with a shorter buffer.
use Rattle.std.specs.Prelude.{true, false, List, [], ◌∷◌, ◌++◌, Ok, Err, ◌≡◌, ℕ, take, drop, replicate}
use Rattle.common.specs.Lent.{lent}
use Rattle.common.specs.Lists.{onto}
use Rattle.transport.specs.declared.vetting.Refusal.TheVariants.{ShortBuffer, Fault, Unfinished}
use Rattle.transport.specs.Listed.{written}
use Rattle.transport.specs.Segment.{message_octets}
use Rattle.transport.specs.Vetting.{vetting}

-- MP 8.3.6: the transport PDUs of message #6
abbrev pub segments : List (List ℕ)
segments =
    (0x80 ∷ 0x26 ∷ 0xAC ∷ 0x01 ∷ 0xEE ∷ 0x9D ∷ 0xDD ∷ 0xFD ∷ 0x21 ∷ 0x69 ∷ 0x32 ∷ 0x6D ∷ 0x23 ∷ 0xF3 ∷ 0xAF ∷ 0xDF ∷ [])
    ∷ (0x80 ∷ 0x26 ∷ 0xAC ∷ 0x21 ∷ 0xCF ∷ 0xDC ∷ 0x18 ∷ 0xC5 ∷ 0x2F ∷ 0xDE ∷ 0xF7 ∷ 0x72 ∷ 0xE0 ∷ 0xE1 ∷ 0x73 ∷ 0x08 ∷ [])
    ∷ []

-- its upper transport PDU
abbrev pub message : List ℕ
message =
    0xEE ∷ 0x9D ∷ 0xDD ∷ 0xFD ∷ 0x21 ∷ 0x69 ∷ 0x32 ∷ 0x6D ∷ 0x23 ∷ 0xF3 ∷ 0xAF ∷ 0xDF
    ∷ 0xCF ∷ 0xDC ∷ 0x18 ∷ 0xC5 ∷ 0x2F ∷ 0xDE ∷ 0xF7 ∷ 0x72 ∷ 0xE0 ∷ 0xE1 ∷ 0x73 ∷ 0x08 ∷ []

abbrev pub room : List ℕ
room = replicate message_octets 0

pub record VettedMet : Type 0 where
  pub approved : vetting false (written segments) room ≡ lent (Ok 24) (onto message room)
  pub cut_short : vetting false (written (take 1 segments)) room ≡ lent (Err Unfinished) room
  pub none_at_all : vetting false [] room ≡ lent (Err Unfinished) room
  pub as_control : vetting true (written segments) room ≡ lent (Err (Fault 0)) room
  pub one_too_many : vetting false (written (segments ++ drop 1 segments)) room ≡ lent (Err (Fault 2)) room
  pub short_buffer : vetting false (written segments) (drop 1 room) ≡ lent (Err ShortBuffer) (drop 1 room)
