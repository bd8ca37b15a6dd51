-- The answer to a segment, by whether it had come and whether another is missing: from the answer itself, the message buffer and the trials to all that is said of it, and back to what is
-- handed up, stored and counted. Of a call nothing else counts, so another with the same three has the same answer. Assumes nothing.
--   had_come, is_stored_law, is_up    the three cases
--   same_answered                     what is said of it rests on three fields
--   answered_hands, answered_stores   what is handed up, and that it is stored
use mathlib.Core.Bool.{Bool, true, false, true≢false, false≢true}
use mathlib.Core.List.{List, [], ◌∷◌}
use mathlib.Core.Logic.{◌⊎◌, ⊎_elim}
use mathlib.Core.Path.{◌≡◌, refl, sym, ap, ◌∙◌}
use Prim.Native.Nat.{ℕ}
use lib.Dec.{eqb}
use lib.Seq.{take-append_seam}
use Rattle.std.specs.Prelude.{Err, Ok, if◌then◌else◌}
use Rattle.common.specs.Bits.{has_bit, with_bit, all_bits}
use Rattle.common.specs.Lists.{onto}
use Rattle.common.proofs.Tests.{by_test}
use Rattle.node.specs.declared.addresses.Node.{Node}
use Rattle.receiver.specs.declared.answer.Answer.TheVariants as answer
use Rattle.receiver.specs.declared.answer.Refusal.TheVariants as refusal
use Rattle.demands.specs.Call.{Answer, Heard, Outcome}
use Rattle.demands.specs.Interleaved.{is_last_missing, handed_as, handed, is_stored, SegmentAnswered}
use Rattle.demands.specs.Speech.{Words, Access, Control, Speech, last_of, hand_up_as, hand_up, network_place, application_place}

-- what is handed up is no other answer, and its octets are read back
handed_up_law : (node : Node) (s : Speech) (ws : Words) (msg : List ℕ) → handed_as (Heard (Ok (hand_up_as node s ws).answer)) (onto (hand_up_as node s ws).octets msg) ≡ hand_up_as node s ws ∷ []
handed_up_law node s (Access key szmic payload) msg =
    ap (λ (l : List ℕ). record { answer = (hand_up_as node s (Access key szmic payload)).answer; octets = l } ∷ []) (take-append_seam payload _)
handed_up_law node s (Control code parameters) msg =
    ap (λ (l : List ℕ). record { answer = (hand_up_as node s (Control code parameters)).answer; octets = l } ∷ []) (take-append_seam parameters _)

-- a segment that had not come is the last that was missing where all have come with it
last_missing : (bits i seg_n : ℕ) → has_bit bits i ≡ false → (all : Bool) → eqb (with_bit bits i) (all_bits seg_n) ≡ all → is_last_missing bits i seg_n ≡ all
last_missing bits i seg_n fresh all e = rw fresh e

-- one that had is not
not_missing : (bits i seg_n : ℕ) → has_bit bits i ≡ true → is_last_missing bits i seg_n ≡ false
not_missing bits i seg_n b = rw b refl

module _ (node : Node) (s : Speech) (bits i : ℕ) (msg : List ℕ) where
  abbrev is_last : Bool
  is_last = is_last_missing bits i (last_of node s)

  abbrev Says : Outcome → Type 0
  Says o = SegmentAnswered node s bits i msg o

  -- ---- the three cases
  module _ (o : Outcome) where
    abbrev Counts : ℕ → Type 0
    Counts application = o.tried ≡ record { network = network_place node s; application = application }

    pub had_come :
        has_bit bits i ≡ true → (o.answer ≡ Heard (Ok (answer.Repeated s.src s.auth bits))) ⊎ (o.answer ≡ Heard (Err refusal.Cached))
        → o.message ≡ msg → Counts 0 → Says o
    had_come b a m c =
        let no = not_missing bits i (last_of node s) b in
        record {
          stored = λ f _. absurd (true≢false (sym b ∙ f));
          completes = λ f. absurd (false≢true (sym no ∙ f));
          repeats = λ _. a;
          message_is = rw no m;
          tried_is = rw no c;
        }

    module _ (fresh : has_bit bits i ≡ false) where
      pub is_stored_law :
          eqb (with_bit bits i) (all_bits (last_of node s)) ≡ false → o.answer ≡ Heard (Ok (answer.Stored s.src s.auth (with_bit bits i))) → o.message ≡ msg → Counts 0
          → Says o
      is_stored_law f a m c =
          let no = last_missing bits i (last_of node s) fresh false f in
          record {
            stored = λ _ _. a;
            completes = λ g. absurd (false≢true (sym no ∙ g));
            repeats = λ b. absurd (true≢false (sym b ∙ fresh));
            message_is = rw no m;
            tried_is = rw no c;
          }

      pub is_up :
          eqb (with_bit bits i) (all_bits (last_of node s)) ≡ true → o.answer ≡ Heard (Ok (hand_up node s).answer) → o.message ≡ onto (hand_up node s).octets msg
          → Counts (application_place node s s.words) → Says o
      is_up f a m c =
          let yes = last_missing bits i (last_of node s) fresh true f in
          record {
            stored = λ _ g. absurd (true≢false (sym f ∙ g));
            completes = λ _. a;
            repeats = λ b. absurd (true≢false (sym b ∙ fresh));
            message_is = rw yes m;
            tried_is = rw yes c;
          }

  -- ---- it rests on three fields
  pub same_answered : (o p : Outcome) → p.answer ≡ o.answer → p.message ≡ o.message → p.tried ≡ o.tried → Says o → Says p
  same_answered o p a m c x =
      record {
        stored = λ f g. a ∙ x.stored f g;
        completes = λ f. a ∙ x.completes f;
        repeats = λ b. rw a (x.repeats b);
        message_is = m ∙ x.message_is;
        tried_is = c ∙ x.tried_is;
      }

  -- ---- what is read off it
  module _ (o : Outcome) (x : Says o) where
    as_told : {a : Answer} → o.answer ≡ a → handed o ≡ handed_as a o.message
    as_told e = ap (λ (a : Answer). handed_as a o.message) e

    pub answered_hands : handed o ≡ (if is_last then hand_up node s ∷ [] else [])
    answered_hands =
        by_test (has_bit bits i)
        (λ b. let no = not_missing bits i (last_of node s) b in rw no (⊎_elim (λ e. as_told e) (λ e. as_told e) (x.repeats b)))
        (λ b. by_test (eqb (with_bit bits i) (all_bits (last_of node s)))
        (λ f.
        let yes = last_missing bits i (last_of node s) b true f in
        let m : o.message ≡ onto (hand_up node s).octets msg = x.message_is ∙ rw yes refl in
        rw yes (as_told (x.completes yes) ∙ ap (handed_as (Heard (Ok (hand_up node s).answer))) m ∙ handed_up_law node s s.words msg))
        (λ f. let no = last_missing bits i (last_of node s) b false f in rw no (as_told (x.stored b f))))

    pub answered_stores : has_bit bits i ≡ false → eqb (with_bit bits i) (all_bits (last_of node s)) ≡ false → is_stored o.answer ≡ true
    answered_stores b f = let a = x.stored b f in rw a refl
