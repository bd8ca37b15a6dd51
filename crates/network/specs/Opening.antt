-- Opening a Network PDU: refusals 1, 2, 3, 4 in order, then the header (document 01, "Numbers of the refusals").
--   paper a                        how an answer is given; PaperApart: no two alike
--   opening keys count current pdu what a call answers
use Rattle.std.specs.Prelude.{Option, Some, None, Result, Ok, Err, List, [], ℕ, ◌/◌, ◌%◌, eqb, ltb, length, get_or, if◌then◌else◌}
use Rattle.common.specs.Paper.{Paper, Refusal, Given, ToldApart}
use Rattle.keys.specs.declared.NetworkKeys.{NetworkKeys}
use Rattle.network.specs.declared.header.Header.{Header}
use Rattle.network.specs.declared.opening.Refusal as refusal
use Rattle.network.specs.declared.opening.Refusal.TheVariants.{WrongLength, NoCandidate, NotAuthentic, WrongAddress}
use Rattle.network.specs.declared.opening.Opening.{Opening}
use Rattle.network.specs.declared.trial.Found.{Found}
use Rattle.network.specs.Address.{addresses_allowed}
use Rattle.network.specs.Candidates.{candidates, searched}
use Rattle.network.specs.Header.{header_values}
use Rattle.network.specs.IvIndex.{iv_index_heard}
use Rattle.network.specs.Pdu.{pdu_octets}

-- this paper's number and values of each answer: what the header says; trials stand beside it
pub data Word : Type 0 where
  opened : Word

abbrev pub paper : Result Header refusal.Refusal → Paper Word
paper (Ok h) = Given opened (header_values h)
paper (Err WrongLength) = Refusal 1 []
paper (Err NoCandidate) = Refusal 2 []
paper (Err NotAuthentic) = Refusal 3 []
paper (Err WrongAddress) = Refusal 4 []

abbrev pub PaperApart : Type 0
PaperApart = ToldApart paper

-- a refusal, with its number of trials
abbrev pub refused : refusal.Refusal → ℕ → Opening
refused r trials = record { trials = trials; opened = Err r }

-- 3: no candidate authenticates; 4: an address is not allowed
abbrev pub admitted : Option Header → Result Header refusal.Refusal
admitted None = Err NotAuthentic
admitted (Some h) = if addresses_allowed h.ctl h.src h.dst then Ok h else Err WrongAddress

-- what the search gives, with its number of trials
unfoldable pub judged : Found → Opening
judged s = record { trials = s.trials; opened = admitted s.opened }

-- 2: no IV Index of 0 or more fits IVI
unfoldable pub under : List NetworkKeys → ℕ → List ℕ → Option ℕ → Opening
under keys count pdu None = refused NoCandidate 0
under keys count pdu (Some iv) = judged (searched keys count (get_or pdu 0 0 % 128) iv pdu)

-- 1: length not 14-29; 2: no candidate key; then by the IV Index that IVI picks
unfoldable pub opening : List NetworkKeys → ℕ → ℕ → List ℕ → Opening
opening keys count current pdu =
    if ltb (length pdu) 14 then refused WrongLength 0 else
    if ltb pdu_octets (length pdu) then refused WrongLength 0 else
    if eqb (length (candidates keys count (get_or pdu 0 0 % 128))) 0 then refused NoCandidate 0 else
    under keys count pdu (iv_index_heard current (get_or pdu 0 0 / 128))
