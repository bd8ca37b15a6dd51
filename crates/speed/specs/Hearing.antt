-- One PDU heard again and again, each time by a receiver that was just set up; many heard in a row by one receiver; and a PDU's network layer opened again and again.
--   receiver_of keys first iv                      the receiver
--   heard_over r pdu slot msg n                    the count over n hearings, and the message buffer after them
--   heard_times keys first iv pdu slot msg times   what a call of `speed_hear` leaves
--   heard_row r pdus msg n                         what the first n of many PDUs in a row leave
--   heard_all keys first iv pdus msg               what a call of `speed_hear_row` leaves
--   opened_over node pdu n                         how many of n openings open the PDU
--   opened_times keys first iv pdu times           what a call of `speed_open_pdu` answers
use Rattle.std.specs.Prelude.{false, not, Result, Ok, Err, List, ℕ, zero, suc, ◌+◌, ◌*◌, ◌/◌, ◌%◌, eqb, length, take, drop, replicate, if◌then◌else◌}
use Rattle.common.specs.Lent.{Lent, lent}
use Rattle.network.specs.declared.header.Header.{Header}
use Rattle.network.specs.declared.opening.Refusal as network
use Rattle.network.specs.Opening.{opening}
use Rattle.network.specs.Pdu.{pdu_octets}
use Rattle.node.specs.declared.addresses.Node.{Node}
use Rattle.node.specs.declared.setup.Setup.{Setup}
use Rattle.memory.specs.Session.{session_at}
use Rattle.node.specs.Setup.{nothing, with_network_key, with_application_key, with_device_key, with_elements, with_index}
use Rattle.receiver.specs.declared.answer.Answer.{Answer}
use Rattle.receiver.specs.declared.answer.Refusal.{Refusal}
use Rattle.receiver.specs.declared.state.Receiver.{Receiver}
use Rattle.receiver.specs.Fresh.{setting_up}
use Rattle.receiver.specs.Hearing.{hearing}

-- key i, from 0, of those in a row
abbrev pub key_at : List ℕ → ℕ → List ℕ
key_at keys i = take 16 (drop (16 * i) keys)

-- a network key, an application key bound to it and a device key; one element, whose next SEQ is 0; no groups, relay off
abbrev pub setup_of : List ℕ → ℕ → ℕ → Setup
setup_of keys first iv =
    let keyed = with_device_key (with_application_key (with_network_key nothing (key_at keys 0)) 0 (key_at keys 1)) (key_at keys 2) in
    with_index (with_elements keyed first 1 (replicate 8 0)) iv false false

-- the receiver so set up; where setup refuses, one of zeros, which refuses every PDU
abbrev pub receiver_of : List ℕ → ℕ → ℕ → Receiver
receiver_of keys first iv = (setting_up (setup_of keys first iv)).receiver

-- 1 for an answer that is no refusal
abbrev pub accepted : Result Answer Refusal → ℕ
accepted (Err n) = 0
accepted (Ok a) = 1

-- 1 for a session slot that its source holds
abbrev pub held : ℕ → ℕ
held src = if eqb src 0 then 0 else 1

-- n hearings, each by the receiver r; the message buffer goes from one to the next. Each that is not refused counts, and each after which the slot is held
unfoldable pub heard_over : Receiver → List ℕ → ℕ → List ℕ → ℕ → Lent ℕ
heard_over r pdu slot msg zero = lent 0 msg
heard_over r pdu slot msg (suc n) =
    let before = heard_over r pdu slot msg n in
    let o = hearing r pdu (replicate pdu_octets 0) before.buffer in
    lent
    (before.answer + (accepted o.heard.answer + held (session_at o.heard.receiver.sessions slot).src))
    o.message

-- nothing is heard where keys is not 48 octets
unfoldable pub heard_times : List ℕ → ℕ → ℕ → List ℕ → ℕ → List ℕ → ℕ → Lent ℕ
heard_times keys first iv pdu slot msg times =
    if not (eqb (length keys) 48) then lent 0 msg else
    heard_over (receiver_of keys first iv) pdu (slot % 8) msg times

-- what PDUs in a row leave: the receiver, how many were not refused, and the message buffer
pub record Row : Type 0 where
  pub receiver : Receiver
  pub count : ℕ
  pub message : List ℕ

abbrev pub row : Receiver → ℕ → List ℕ → Row
row r n msg = record { receiver = r; count = n; message = msg }

-- PDU i, from 0, of 29 octets each
abbrev pub pdu_at : List ℕ → ℕ → List ℕ
pdu_at pdus i = take pdu_octets (drop (pdu_octets * i) pdus)

-- each is heard by the receiver that the one before left
unfoldable pub heard_row : Receiver → List ℕ → List ℕ → ℕ → Row
heard_row r pdus msg zero = row r 0 msg
heard_row r pdus msg (suc n) =
    let before = heard_row r pdus msg n in
    let o = hearing before.receiver (pdu_at pdus n) (replicate pdu_octets 0) before.message in
    row o.heard.receiver (before.count + accepted o.heard.answer) o.message

-- the count and the message buffer after the first n
abbrev pub counted_row : Receiver → List ℕ → List ℕ → ℕ → Lent ℕ
counted_row r pdus msg n = lent (heard_row r pdus msg n).count (heard_row r pdus msg n).message

-- octets behind the last whole PDU are not heard; nothing is where keys is not 48 octets
unfoldable pub heard_all : List ℕ → ℕ → ℕ → List ℕ → List ℕ → Lent ℕ
heard_all keys first iv pdus msg =
    if not (eqb (length keys) 48) then lent 0 msg else
    counted_row (receiver_of keys first iv) pdus msg (length pdus / pdu_octets)

-- 1 for a PDU that was opened
abbrev pub opened : Result Header network.Refusal → ℕ
opened (Ok h) = 1
opened (Err e) = 0

-- how many of n openings open the PDU
unfoldable pub opened_over : Node → List ℕ → ℕ → ℕ
opened_over node pdu zero = 0
opened_over node pdu (suc n) =
    opened_over node pdu n + opened (opening node.materials node.networks node.iv pdu).opened

-- none where keys is not 48 octets
unfoldable pub opened_times : List ℕ → ℕ → ℕ → List ℕ → ℕ → ℕ
opened_times keys first iv pdu times =
    if not (eqb (length keys) 48) then 0 else
    opened_over (receiver_of keys first iv).node pdu times
