-- Every transmission takes a new SEQ of its element (document 01, "Sending"): over any list of calls the sequence numbers of an element rise, so no
-- (element, IV Index, SEQ) is used twice.
--   Use               what a transmission uses up
--   used r c          what call c uses: nothing, or the next SEQ of the element that sends, under the IV Index that it sends with
--   uses r l          what the calls of a list use, in their order
--   addressee r c     whom call c sends to
--   Carried           the PDU that a call makes carries what it used, to its addressee, and no other call makes one
--   Rise, NeverTwice  the two promises
use Rattle.std.specs.Prelude.{Option, None, Some, true, Ok, List, [], ◌∷◌, ◌++◌, ◌≡◌, ℕ, ◌<◌, if◌then◌else◌}
use Rattle.common.specs.Lent.{lent}
use Rattle.network.specs.declared.header.Header.{Header}
use Rattle.network.specs.Candidates.{key_at}
use Rattle.network.specs.Sealing.{sealing}
use Rattle.receiver.specs.declared.state.Receiver.{Receiver}
use Rattle.receiver.specs.Good.{Good}
use Rattle.sending.specs.declared.acknowledge.Chosen.{Chosen}
use Rattle.sending.specs.Acknowledge.{chosen}
use Rattle.sending.specs.Request.{dst_of}
use Rattle.sending.specs.Segment.{element_at}
use Rattle.sending.specs.Transmission.{sending_iv, address_of, next_seq}
use Rattle.demands.specs.Call.{Call, Hear, GiveUp, SendAccess, SendControl, SendSegment, Acknowledge, Stop, lent_for, step}

-- an element, by its number, an IV Index, and a sequence number of the element
pub record Use : Type 0 where
  pub element : ℕ
  pub iv : ℕ
  pub seq : ℕ

-- the DST that what is acknowledged was sent to
abbrev pub spoken_to : Option Chosen → ℕ
spoken_to None = 0
spoken_to (Some c) = c.dst

-- the element that sends: the one named; of a segment the one that began the message; of an acknowledgement the one that was spoken to
abbrev pub speaker : Receiver → Call → ℕ
speaker r (Hear pdu fwd msg) = 0
speaker r (GiveUp src) = 0
speaker r (SendAccess q key szmic payload buf) = q.element
speaker r (SendControl q opcode parameters buf) = q.element
speaker r (SendSegment n buf) = element_at r.node r.out.src
speaker r (Acknowledge net src buf) = element_at r.node (spoken_to (chosen r.replay r.sessions src))
speaker r Stop = 0

-- the IV Index that it sends with; a segment goes out under the one that its message was begun with
abbrev pub index_sent : Receiver → Call → ℕ
index_sent r (Hear pdu fwd msg) = 0
index_sent r (GiveUp src) = 0
index_sent r (SendAccess q key szmic payload buf) = sending_iv r.node
index_sent r (SendControl q opcode parameters buf) = sending_iv r.node
index_sent r (SendSegment n buf) = r.out.auth.iv
index_sent r (Acknowledge net src buf) = sending_iv r.node
index_sent r Stop = 0

-- whom it sends to: the DST that is asked for; of a segment the one that its message was begun with; of an acknowledgement the source that is acknowledged
abbrev pub addressee : Receiver → Call → ℕ
addressee r (Hear pdu fwd msg) = 0
addressee r (GiveUp src) = 0
addressee r (SendAccess q key szmic payload buf) = dst_of r.node q.dst
addressee r (SendControl q opcode parameters buf) = dst_of r.node q.dst
addressee r (SendSegment n buf) = r.out.terms.dst
addressee r (Acknowledge net src buf) = src
addressee r Stop = 0

-- what a call uses
abbrev pub used : Receiver → Call → List Use
used r c =
    if (step r c).made then record { element = speaker r c; iv = index_sent r c; seq = next_seq r (speaker r c) } ∷ [] else
    []

abbrev pub uses : Receiver → List Call → List Use
uses r [] = []
uses r (c ∷ l) = used r c ++ uses (step r c).receiver l

-- ---- what is used is what is sent
-- the PDU was sealed from a header with the speaker's address and next SEQ, to its addressee, under the IV Index that is sent with, and what sealing left is what the call leaves
pub record Carries (r : Receiver) (c : Call) : Type 0 where
  pub header : Header
  pub from_speaker : header.src ≡ address_of r.node (speaker r c)
  pub to_addressee : header.dst ≡ addressee r c
  pub under_index : header.iv ≡ index_sent r c
  pub with_next_law : header.seq ≡ next_seq r (speaker r c)
  pub sealed : sealing (key_at r.node.materials header.key) header (lent_for c) ≡ lent (Ok (step r c).octets) (step r c).pdu

abbrev pub Carried : Type 0
Carried = (r : Receiver) (c : Call) → (step r c).made ≡ true → Carries r c

-- ---- the promises
-- every later use of the same element has a greater SEQ
abbrev pub AllAbove : Use → List Use → Type 0
AllAbove u [] = Unit {0}
AllAbove u (v ∷ l) = (u.element ≡ v.element → u.seq < v.seq) × AllAbove u l

abbrev pub Rising : List Use → Type 0
Rising [] = Unit {0}
Rising (u ∷ l) = AllAbove u l × Rising l

-- no use is equal to a later one
abbrev pub NoneEqual : Use → List Use → Type 0
NoneEqual u [] = Unit {0}
NoneEqual u (v ∷ l) = (u ≡ v → ⊥) × NoneEqual u l

abbrev pub Distinct : List Use → Type 0
Distinct [] = Unit {0}
Distinct (u ∷ l) = NoneEqual u l × Distinct l

-- from a good receiver, so from every one that setup made and that was used since
abbrev pub Rise : Type 0
Rise = (r : Receiver) (l : List Call) → Good r → Rising (uses r l)

-- none is the same in element, IV Index and SEQ
abbrev pub NeverTwice : Type 0
NeverTwice = (r : Receiver) (l : List Call) → Good r → Distinct (uses r l)
