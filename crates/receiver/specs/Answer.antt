-- This paper's number and values of each answer (document 01, "Numbers of the refusals").
--   refusal_number n     the number of a refusal
--   opening_refusal n, decision_refusal n   the refusal that one of opening a PDU, or of deciding on a segment, is here
--   paper a            the number and values of an answer of `hear`; PaperApart: no two alike
use Rattle.std.specs.Prelude.{Result, Ok, Err, [], ◌∷◌, ℕ}
use Rattle.common.specs.Paper.{Paper, Refusal, Given, ToldApart}
use Rattle.network.specs.declared.opening.Refusal as network
use Rattle.network.specs.declared.opening.Refusal.TheVariants as opening
use Rattle.memory.specs.declared.decision.Refusal as memory
use Rattle.memory.specs.declared.decision.Refusal.TheVariants as decision
use Rattle.memory.specs.declared.outgoing.Effect.{Effect}
use Rattle.memory.specs.declared.outgoing.Effect.TheVariants.{Nothing, Marked, Completed, Cancelled}
use Rattle.transport.specs.Securing.{opener_values}
use Rattle.receiver.specs.declared.answer.Refusal as refusal
use Rattle.receiver.specs.declared.answer.Refusal.TheVariants.{ShortBuffer, WrongLength, NoCandidate, NotAuthentic, WrongAddress, OwnSource, Cached, NotForNode, WrongForm}
use Rattle.receiver.specs.declared.answer.Refusal.TheVariants.{NoSeqAuth, Replayed, Differs, NoEntryLeft, NoSlotLeft, NotOpened, OutsideRules, NoSeqLeft}
use Rattle.receiver.specs.declared.answer.Answer.{Answer}
use Rattle.receiver.specs.declared.answer.Answer.TheVariants.{Stored, Repeated, Access, Control, Acknowledgement}

-- the numbers of the table
abbrev pub refusal_number : refusal.Refusal → ℕ
refusal_number ShortBuffer = 16
refusal_number WrongLength = 1
refusal_number NoCandidate = 2
refusal_number NotAuthentic = 3
refusal_number WrongAddress = 4
refusal_number OwnSource = 22
refusal_number Cached = 5
refusal_number NotForNode = 6
refusal_number WrongForm = 7
refusal_number NoSeqAuth = 8
refusal_number Replayed = 9
refusal_number Differs = 10
refusal_number NoEntryLeft = 11
refusal_number NoSlotLeft = 12
refusal_number NotOpened = 13
refusal_number OutsideRules = 14
refusal_number NoSeqLeft = 15

-- 1 to 4 are refusals of opening a Network PDU
abbrev pub opening_refusal : network.Refusal → refusal.Refusal
opening_refusal opening.WrongLength = WrongLength
opening_refusal opening.NoCandidate = NoCandidate
opening_refusal opening.NotAuthentic = NotAuthentic
opening_refusal opening.WrongAddress = WrongAddress

-- and 9 to 12 of what becomes of a segment
abbrev pub decision_refusal : memory.Refusal → refusal.Refusal
decision_refusal decision.Stale = Replayed
decision_refusal decision.Differs = Differs
decision_refusal decision.NoEntryLeft = NoEntryLeft
decision_refusal decision.NoSlotLeft = NoSlotLeft

-- what an answer says, in one word
pub data Word : Type 0 where
  stored repeat access control acknowledgement : Word

-- what an acknowledgement did
abbrev pub effect_number : Effect → ℕ
effect_number Nothing = 0
effect_number Marked = 1
effect_number Completed = 2
effect_number Cancelled = 3

abbrev pub paper : Result Answer refusal.Refusal → Paper Word
paper (Err n) = Refusal (refusal_number n) []
paper (Ok (Stored src auth bits)) = Given stored (src ∷ auth.iv ∷ auth.seq ∷ bits ∷ [])
paper (Ok (Repeated src auth bits)) = Given repeat (src ∷ auth.iv ∷ auth.seq ∷ bits ∷ [])
paper (Ok (Access src dst network opener pair len)) = Given access (src ∷ dst ∷ network ∷ pair.iv ∷ pair.seq ∷ len ∷ opener_values opener)
paper (Ok (Control src dst network opcode pair len)) = Given control (src ∷ dst ∷ network ∷ opcode ∷ pair.iv ∷ pair.seq ∷ len ∷ [])
paper (Ok (Acknowledgement src bits effect)) = Given acknowledgement (src ∷ bits ∷ effect_number effect ∷ [])

-- no two answers are given alike, and no two refusals have one number
abbrev pub PaperApart : Type 0
PaperApart = ToldApart paper

abbrev pub NumberApart : Type 0
NumberApart = ToldApart refusal_number
