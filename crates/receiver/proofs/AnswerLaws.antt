-- An answer is told by its number, word and values: each answer is read back from them. Assumes nothing.
use mathlib.Core.List.{List, [], ◌∷◌, ◌++◌}
use mathlib.Core.Path.{◌≡◌, refl, sym, ap, ◌∙◌}
use Prim.Native.Nat.{ℕ, ◌-◌}
use native.Mathlib.Omega.{arith}
use lib.Dec.{eqb}
use lib.ListN.{get_or}
use Rattle.std.specs.Prelude.{Result, Ok, Err, if◌then◌else◌}
use Rattle.common.specs.Paper.{Paper, Refusal, Given}
use Rattle.common.proofs.PaperLaws.{told_apart}
use Rattle.transport.specs.declared.securing.Opener.TheVariants.{Application, Labelled, Device}
use Rattle.transport.proofs.PaperLaws.{opener_as}
use Rattle.memory.specs.declared.outgoing.Effect.{Effect}
use Rattle.memory.specs.declared.outgoing.Effect.TheVariants.{Nothing, Marked, Completed, Cancelled}
use Rattle.memory.specs.declared.pair.Pair.{Pair}
use Rattle.receiver.specs.declared.answer.Refusal as refusal
use Rattle.receiver.specs.declared.answer.Refusal.TheVariants as refusals
use Rattle.receiver.specs.declared.answer.Answer.{Answer}
use Rattle.receiver.specs.declared.answer.Answer.TheVariants.{Stored, Repeated, Access, Control, Acknowledgement}
use Rattle.receiver.specs.Answer.{refusal_number, NumberApart, Word, stored, repeat, access, control, acknowledgement, paper, PaperApart}
use Rattle.receiver.specs.Fresh as fresh
use Rattle.receiver.specs.GiveUp as give_up

-- ---- a refusal by its number
abbrev early : List refusal.Refusal
early = refusals.WrongLength ∷ refusals.NoCandidate ∷ refusals.NotAuthentic ∷ refusals.WrongAddress ∷ refusals.Cached ∷ []

abbrev late : List refusal.Refusal
late =
    refusals.NotForNode ∷ refusals.WrongForm ∷ refusals.NoSeqAuth ∷ refusals.Replayed ∷ refusals.Differs ∷ refusals.NoEntryLeft ∷ refusals.NoSlotLeft ∷ refusals.NotOpened ∷ []

abbrev pub refusal_of : ℕ → refusal.Refusal
refusal_of n =
    if eqb n 22 then refusals.OwnSource else
    get_or (early ++ late ++ refusals.OutsideRules ∷ refusals.NoSeqLeft ∷ []) (n - 1) refusals.ShortBuffer

pub refusal_back : (n : refusal.Refusal) → refusal_of (refusal_number n) ≡ n
refusal_back refusals.ShortBuffer = refl
refusal_back refusals.WrongLength = refl
refusal_back refusals.NoCandidate = refl
refusal_back refusals.NotAuthentic = refl
refusal_back refusals.WrongAddress = refl
refusal_back refusals.OwnSource = refl
refusal_back refusals.Cached = refl
refusal_back refusals.NotForNode = refl
refusal_back refusals.WrongForm = refl
refusal_back refusals.NoSeqAuth = refl
refusal_back refusals.Replayed = refl
refusal_back refusals.Differs = refl
refusal_back refusals.NoEntryLeft = refl
refusal_back refusals.NoSlotLeft = refl
refusal_back refusals.NotOpened = refl
refusal_back refusals.OutsideRules = refl
refusal_back refusals.NoSeqLeft = refl

-- 0 is none's
pub number_some : (n : refusal.Refusal) → refusal_number n ≡ 0 → ⊥
number_some n e = let one = ap refusal_number (ap refusal_of (sym e) ∙ refusal_back n) in omega arith

pub number_apart : NumberApart
number_apart = told_apart refusal_number refusal_of refusal_back

-- ---- an answer of hearing
abbrev effect_of : ℕ → Effect
effect_of n = get_or (Nothing ∷ Marked ∷ Completed ∷ []) n Cancelled

abbrev pair_at : List ℕ → ℕ → ℕ → Pair
pair_at v i j = record { iv = get_or v i 0; seq = get_or v j 0 }

abbrev read : Paper Word → Result Answer refusal.Refusal
read (Refusal n v) = Err (refusal_of n)
read (Given stored v) = Ok (Stored (get_or v 0 0) (pair_at v 1 2) (get_or v 3 0))
read (Given repeat v) = Ok (Repeated (get_or v 0 0) (pair_at v 1 2) (get_or v 3 0))
read (Given access v) =
    Ok (Access (get_or v 0 0) (get_or v 1 0) (get_or v 2 0) (opener_as (get_or v 6 0) (get_or v 7 0) (get_or v 8 0)) (pair_at v 3 4) (get_or v 5 0))
read (Given control v) = Ok (Control (get_or v 0 0) (get_or v 1 0) (get_or v 2 0) (get_or v 3 0) (pair_at v 4 5) (get_or v 6 0))
read (Given acknowledgement v) = Ok (Acknowledgement (get_or v 0 0) (get_or v 1 0) (effect_of (get_or v 2 0)))

back : (a : Result Answer refusal.Refusal) → read (paper a) ≡ a
back (Err n) = ap Err (refusal_back n)
back (Ok (Stored src auth bits)) = refl
back (Ok (Repeated src auth bits)) = refl
back (Ok (Access src dst network (Application i) pair len)) = refl
back (Ok (Access src dst network (Labelled i j) pair len)) = refl
back (Ok (Access src dst network Device pair len)) = refl
back (Ok (Control src dst network opcode pair len)) = refl
back (Ok (Acknowledgement src bits Nothing)) = refl
back (Ok (Acknowledgement src bits Marked)) = refl
back (Ok (Acknowledgement src bits Completed)) = refl
back (Ok (Acknowledgement src bits Cancelled)) = refl

pub paper_apart : PaperApart
paper_apart = told_apart paper read back

-- ---- of setting up, and of giving up
abbrev read_ready : Paper fresh.Word → Result Unit refusal.Refusal
read_ready (Refusal n v) = Err (refusal_of n)
read_ready (Given fresh.ready v) = Ok tt

ready_back : (a : Result Unit refusal.Refusal) → read_ready (fresh.paper a) ≡ a
ready_back (Ok tt) = refl
ready_back (Err n) = ap Err (refusal_back n)

pub ready_apart : fresh.PaperApart
ready_apart = told_apart fresh.paper read_ready ready_back

abbrev read_ended : Paper give_up.Word → Result Unit refusal.Refusal
read_ended (Refusal n v) = Err (refusal_of n)
read_ended (Given give_up.ended v) = Ok tt

ended_back : (a : Result Unit refusal.Refusal) → read_ended (give_up.paper a) ≡ a
ended_back (Ok tt) = refl
ended_back (Err n) = ap Err (refusal_back n)

pub ended_apart : give_up.PaperApart
ended_apart = told_apart give_up.paper read_ended ended_back
