-- Sequence numbers rise. A call that makes a PDU stamped it with its element's next SEQ and left that one greater by
-- one; every other call, and every other element, leaves a next SEQ that has not fallen: hearing and giving up do not
-- touch it. So whatever a list of calls uses of an element begins at the next SEQ that the list finds. Take the first
-- call away: what it used lies one below where the rest begins, so below all that the rest uses of that element. Two
-- equal uses would then lie below each other. What was used is also what was sent, since the header that was sealed
-- carries it. Assumes nothing.
use mathlib.Core.Bool.{true, false, false≢true}
use mathlib.Core.List.{List, [], ◌∷◌, ◌++◌}
use mathlib.Core.Path.{◌≡◌, refl, sym, ap, ◌∙◌, subst}
use Prim.Native.Nat.{ℕ, ◌+◌, ◌≤◌, ◌<◌}
use native.Mathlib.Omega.{arith}
use lib.ListN.{length, get_or}
use Rattle.std.specs.Prelude.{Option, Result, Ok}
use Rattle.common.specs.Lent.{Lent, lent}
use Rattle.common.specs.Lists.{onto}
use Rattle.common.proofs.Tests.{by_choice}
use Rattle.network.specs.declared.header.Header.{Header}
use Rattle.network.specs.Candidates.{key_at}
use Rattle.network.specs.Sealing.{sealing}
use Rattle.transport.specs.declared.securing.Envelope.{Envelope}
use Rattle.memory.specs.declared.outgoing.Outgoing.{Outgoing}
use Rattle.memory.specs.declared.pair.Pair.{Pair}
use Rattle.memory.specs.declared.session.Terms.{Terms}
use Rattle.node.specs.Addresses.{element_places}
use Rattle.receiver.specs.declared.give_up.GivenUp.{GivenUp}
use Rattle.receiver.specs.declared.answer.Refusal.{Refusal}
use Rattle.receiver.specs.declared.state.Receiver.{Receiver}
use Rattle.receiver.specs.GiveUp.{giving_up}
use Rattle.receiver.specs.Good.{Good}
use Rattle.receiver.specs.State.{with_outgoing}
use Rattle.receiver.proofs.Laws.Fixed.{fixed_heard}
use Rattle.receiver.proofs.Laws.GiveUp.{by_giving_up}
use Rattle.sending.specs.declared.answer.Answer.{Answer}
use Rattle.sending.specs.declared.answer.Spoken.{Spoken}
use Rattle.sending.specs.declared.request.Request.{Request}
use Rattle.sending.specs.Access.{keyed, access_allowed, envelope_of}
use Rattle.sending.specs.declared.acknowledge.Chosen.{Chosen}
use Rattle.sending.specs.Acknowledge.{chosen, acknowledgement_header}
use Rattle.sending.specs.Answer.{refused_at}
use Rattle.sending.specs.Control as control
use Rattle.sending.specs.Segment.{segment_header, starting, element_at}
use Rattle.sending.specs.Stop.{stopping}
use Rattle.sending.specs.Transmission.{sending_iv, address_of, next_seq, stamped}
use Rattle.sending.proofs.Laws.Allowed.{Asked, access_allows, control_allows}
use Rattle.sending.proofs.Laws.Calls.{walk_access, walk_control, walk_segment, walk_acknowledge}
use Rattle.sending.proofs.Laws.Shapes.{whole_access_law, whole_control_law, segment_out, acknowledgement_out, keeps_access, keeps_control, envelope_is}
use Rattle.sending.proofs.Laws.Stamped.{stamps}
use Rattle.sending.proofs.Laws.Transmitted.{checked, used, used_own, used_rises, saying, pdu_by, Sends, sealing_is, by_saying, by_starting, by_stopping}
use Rattle.demands.specs.Call.{Call, Hear, GiveUp, SendAccess, SendControl, SendSegment, Acknowledge, Stop, lent_for, Outcome, length_by, left_said, step}
use Rattle.demands.specs.NeverTwice.{spoken_to, Use, speaker, index_sent, addressee, uses, Carried, AllAbove, Rising, NoneEqual, Distinct, Rise, NeverTwice}
use Rattle.demands.proofs.Invariant.{good_step}
use Rattle.sending.specs.Request.{dst_of, additional_for}

-- ---- one call
module _ (r : Receiver) (element iv to : ℕ) (buf : List ℕ) where
  -- the PDU was sealed from a header with the element's address, the destination, the IV Index and the next SEQ, which is then used
  pub record Takes (o : Outcome) : Type 0 where
    pub header : Header
    pub from_element : header.src ≡ address_of r.node element
    pub to_whom : header.dst ≡ to
    pub under_index : header.iv ≡ iv
    pub with_next_law : header.seq ≡ next_seq r element
    pub made_of : sealing (key_at r.node.materials header.key) header buf ≡ lent (Ok o.octets) o.pdu
    pub raised : element < length r.next → next_seq o.receiver element ≡ next_seq r element + 1

  pub record Speaks (o : Outcome) : Type 0 where
    pub rises : (any : ℕ) → next_seq r any ≤ next_seq o.receiver any
    pub takes : o.made ≡ true → Takes o
    pub within : o.made ≡ true → element < element_places

  -- nothing is made, and every next SEQ stays
  silent : (o : Outcome) → o.made ≡ false → o.receiver.next ≡ r.next → Speaks o
  silent o n e =
      record {
        rises = λ any. let f = ap (λ (l : List ℕ). get_or l any 0) e in omega arith;
        takes = λ m. absurd (false≢true (sym n ∙ m));
        within = λ m. absurd (false≢true (sym n ∙ m));
      }

  abbrev Speaking : Lent Spoken → Type 0
  Speaking s = Speaks (left_said s)

  refused : (n : Refusal) → checked n ≡ true → Speaking (lent (refused_at r n) buf)
  refused n _ = silent (left_said (lent (refused_at r n) buf)) refl refl

  -- the PDU of this header was sent, and q is left
  module _ (low : element < element_places) (h : Header) {g : Header} (shape : stamped r element h ≡ g) (i : g.iv ≡ iv) (d : g.dst ≡ to) (c : Sends r element h buf) (a : Result Answer Refusal)
      (q : Receiver) (next : q.next ≡ (used r element).next) (long : length_by a ≡ length (pdu_by r element h)) where
    takes_sent : Takes (left_said (lent (record { answer = a; receiver = q }) (onto (pdu_by r element h) buf)))
    takes_sent =
        let s = stamps r element h in
        record {
          header = stamped r element h;
          from_element = s.from_element;
          to_whom = ap (λ (x : Header). x.dst) shape ∙ d;
          under_index = ap (λ (x : Header). x.iv) shape ∙ i;
          with_next_law = s.with_next_law;
          made_of = ap (λ (n : ℕ). sealing (key_at r.node.materials n) (stamped r element h) buf) s.key_stays ∙ rw long (sealing_is r element h buf c);
          raised = λ k. ap (λ (l : List ℕ). get_or l element 0) next ∙ used_own r element k;
        }

    speaks_sent : Speaking (lent (record { answer = a; receiver = q }) (onto (pdu_by r element h) buf))
    speaks_sent =
        record { rises = λ any. rw next (used_rises r element any); takes = λ _. takes_sent; within = λ _. low }

  said : element < element_places → (h : Header) {g : Header} → stamped r element h ≡ g → g.iv ≡ iv → g.dst ≡ to → Speaking (saying r element h buf)
  said low h shape i d = by_saying r element h buf Speaking refused (λ c. speaks_sent low h shape i d c _ (used r element) refl refl)

  started : element < element_places → (o : Outgoing) → o.auth.iv ≡ iv → o.terms.dst ≡ to → Speaking (starting r element o buf)
  started low o i d =
      by_starting r element o buf Speaking refused
      (λ c. speaks_sent low (segment_header o 0) (segment_out r element o 0) i d c _ (with_outgoing (used r element) o) refl refl)

-- ---- the calls
-- the element of a request that is allowed is one of eight
element_low : (r : Receiver) (q : Request) → Asked r.node q → q.element < element_places
element_low r q a = omega arith

given_next : (r : Receiver) (src : ℕ) → (giving_up r src).receiver.next ≡ r.next
given_next r src = by_giving_up (λ (g : GivenUp). g.receiver.next ≡ r.next) r src refl (λ _ _. refl)

stopped_next : (r : Receiver) → (stopping r).receiver.next ≡ r.next
stopped_next r = by_stopping (λ (g : GivenUp). g.receiver.next ≡ r.next) r refl refl

speaks : (r : Receiver) (c : Call) → Speaks r (speaker r c) (index_sent r c) (addressee r c) (lent_for c) (step r c)
speaks r (Hear pdu fwd msg) = silent r 0 0 0 fwd _ refl (fixed_heard r fwd msg _).next_stays
speaks r (GiveUp src) = silent r 0 0 0 [] _ refl (given_next r src)
speaks r (SendAccess q key szmic payload buf) =
    let e = q.element in
    let low : access_allowed r q key szmic (length payload) ≡ true → e < element_places = λ a. element_low r q (access_allows r q key szmic (length payload) a).asks in
    let iv = sending_iv r.node in
    let to = dst_of r.node q.dst in
    let k = keyed r.node key in
    let under = ap (λ (v : Envelope). v.iv) (envelope_is r q k szmic) in
    let to_is = ap (λ (v : Envelope). v.dst) (envelope_is r q k szmic) in
    let kept = keeps_access (envelope_of r q k szmic) q k (additional_for r.node q.dst) payload in
    walk_access r buf (Speaking r e iv to buf) (refused r e iv to buf) q key szmic payload
    (λ a _. said r e iv to buf (low a) _ (whole_access_law r e (envelope_of r q k szmic) q k (additional_for r.node q.dst) payload) under to_is)
    (λ a _. started r e iv to buf (low a) _ (ap (λ (p : Pair). p.iv) kept.auth_is ∙ under) (ap (λ (t : Terms). t.dst) kept.terms_is ∙ to_is))
speaks r (SendControl q opcode parameters buf) =
    let e = q.element in
    let low : control.control_allowed r q opcode (length parameters) ≡ true → e < element_places = λ a. element_low r q (control_allows r q opcode (length parameters) a).asks in
    let iv = sending_iv r.node in
    let to = dst_of r.node q.dst in
    let kept = keeps_control r q opcode parameters in
    walk_control r buf (Speaking r e iv to buf) (refused r e iv to buf) q opcode parameters
    (λ a _. said r e iv to buf (low a) _ (whole_control_law r e iv q to opcode parameters) refl refl)
    (λ a _. started r e iv to buf (low a) _ (ap (λ (p : Pair). p.iv) kept.auth_is) (ap (λ (t : Terms). t.dst) kept.terms_is))
speaks r (SendSegment n buf) =
    let e = element_at r.node r.out.src in
    let iv = r.out.auth.iv in
    let to = r.out.terms.dst in
    walk_segment r buf (Speaking r e iv to buf) (refused r e iv to buf) n (λ low _. said r e iv to buf low _ (segment_out r e r.out n) refl refl)
speaks r (Acknowledge net src buf) =
    let asked = chosen r.replay r.sessions src in
    let e = element_at r.node (spoken_to asked) in
    let iv = sending_iv r.node in
    walk_acknowledge r buf (Speaking r e iv src buf) (refused r e iv src buf) net src
    (λ c chose _ low.
    let by : ℕ = element_at r.node c.dst in
    let x = saying r by (acknowledgement_header iv net src c) buf in
    subst (λ (o : Option Chosen). Speaking r (element_at r.node (spoken_to o)) iv src buf x) (sym chose)
    (said r by iv src buf low _ (acknowledgement_out r by iv net src c) refl refl))
speaks r Stop = silent r 0 0 0 [] _ refl (stopped_next r)

-- no next SEQ falls
pub next_rises : (r : Receiver) (c : Call) (any : ℕ) → next_seq r any ≤ next_seq (step r c).receiver any
next_rises r c = (speaks r c).rises

pub carries : Carried
carries r c m =
    let t = (speaks r c).takes m in
    record {
      header = t.header;
      from_speaker = t.from_element;
      to_addressee = t.to_whom;
      under_index = t.under_index;
      with_next_law = t.with_next_law;
      sealed = t.made_of;
    }

-- ---- a list of calls
-- the speaker's next SEQ rises where a PDU is made
takes_next : (r : Receiver) (c : Call) → Good r → (step r c).made ≡ true → next_seq (step r c).receiver (speaker r c) ≡ next_seq r (speaker r c) + 1
takes_next r c g m =
    let low = (speaks r c).within m in
    let places = g.next_well.places in
    ((speaks r c).takes m).raised (omega arith)

-- every use of a list has at least the next SEQ of its element
abbrev From : Receiver → List Use → Type 0
From r [] = Unit {0}
From r (u ∷ l) = (next_seq r u.element ≤ u.seq) × From r l

-- what holds from a later receiver on holds from an earlier one
from_earlier : (r q : Receiver) → ((any : ℕ) → next_seq r any ≤ next_seq q any) → (l : List Use) → From q l → From r l
from_earlier r q e [] f = tt {0}
from_earlier r q e (u ∷ l) f = (let a = e u.element in let b = f.0 in omega arith, from_earlier r q e l f.1)

-- one that was used lies below all that begins with its element's next SEQ
above_from : (u : Use) (q : Receiver) → next_seq q u.element ≡ u.seq + 1 → (l : List Use) → From q l → AllAbove u l
above_from u q e [] f = tt {0}
above_from u q e (v ∷ l) f =
    ((λ s. let b = subst (λ (x : ℕ). next_seq q x ≤ v.seq) (sym s) f.0 in omega arith), above_from u q e l f.1)

from_uses : (r : Receiver) (l : List Call) → From r (uses r l)
from_uses r [] = tt {0}
from_uses r (c ∷ l) =
    let q = (step r c).receiver in
    let rest = from_earlier r q (speaks r c).rises (uses q l) (from_uses q l) in
    by_choice (λ (us : List Use). From r (us ++ uses q l)) (step r c).made (λ _. (omega arith, rest)) (λ _. rest)

pub rise : Rise
rise r [] g = tt {0}
rise r (c ∷ l) g =
    let q = (step r c).receiver in
    let rest = rise q l (good_step r c g) in
    let u : Use = record { element = speaker r c; iv = index_sent r c; seq = next_seq r (speaker r c) } in
    by_choice (λ (us : List Use). Rising (us ++ uses q l)) (step r c).made
    (λ m. (above_from u q (takes_next r c g m) (uses q l) (from_uses q l), rest))
    (λ _. rest)

-- ---- so none is used twice
none_equal : (u : Use) (l : List Use) → AllAbove u l → NoneEqual u l
none_equal u [] a = tt {0}
none_equal u (v ∷ l) a = (
  (λ e.
      let s = ap (λ (x : Use). x.seq) e in
      let b = a.0 (ap (λ (x : Use). x.element) e) in
      omega arith),
  none_equal u l a.1,
)

distinct : (l : List Use) → Rising l → Distinct l
distinct [] r = tt {0}
distinct (u ∷ l) r = (none_equal u l r.0, distinct l r.1)

pub never_twice : NeverTwice
never_twice r l g = distinct (uses r l) (rise r l g)
