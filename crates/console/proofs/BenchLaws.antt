-- The rules of `vet`: what the call gave and what was put behind the answers make up what the line leaves; the buffer that was lent has not grown, so the answer fits.
-- Assumes nothing.
use mathlib.Core.Bool.{Bool}
use mathlib.Core.List.{List, ◌++◌}
use mathlib.Core.Path.{◌≡◌, sym, ap, ◌∙◌}
use Prim.Native.Nat.{ℕ, min}
use native.Mathlib.Omega.{arith}
use lib.ListN.{length, replicate, take, drop, length-append, length-take, length-drop}
use lib.Seq.{take_at}
use Rattle.common.specs.Lent.{lent}
use Rattle.std.specs.Prelude.{Result}
use Rattle.transport.specs.declared.vetting.Refusal.{Refusal}
use Rattle.transport.specs.Segment.{message_octets}
use Rattle.transport.specs.Vetting.{vetting}
use Rattle.commands.specs.declared.desk.Desk.{Desk}
use Rattle.text.specs.declared.writer.Writer.{Writer}
use Rattle.text.specs.Writer.{writing}
use Rattle.answers.specs.Answer.{vetted_text}
use Rattle.answers.specs.Fits.{Fits}
use Rattle.answers.proofs.Fits.{vetted_fits}
use Rattle.console.specs.Answered.{put, answer_put}
use Rattle.console.specs.Bench.{vets}
use Rattle.console.specs.Receiving.{lent_of}
use Rattle.console.proofs.AnsweredLaws.{put_answer}
use Rattle.console.proofs.ReceivingLaws.{lent_is}

-- the buffer has not grown
pub vetted_long : (y z : List ℕ) (n : ℕ) → length y ≡ length (take n z) → length z ≡ message_octets → message_octets ≡ length (y ++ drop n z)
vetted_long y z n e f = simp (length-append, length-drop) (omega (arith, length-take n z))

-- of z as much is lent as `room` said, and y is what vetting left of that
module _
    (d : Desk) (ctl : Bool) (list z : List ℕ) (n : ℕ) (h : z ≡ replicate message_octets 0) (l : n ≡ min d.room.message (length z))
    (v : Result ℕ Refusal) (y : List ℕ) (e : lent v y ≡ vetting ctl list (take n z)) (long : length y ≡ length (take n z)) where
  vetted_is : vetting ctl list (lent_of d.room.message) ≡ lent v y
  vetted_is = sym (e ∙ ap (vetting ctl list) (lent_is d.room.message n z h l))

  pub vetted :
      (s : List ℕ) → s ≡ take n (y ++ drop n z) → (w w' : Writer) → w' ≡ writing (vetted_text v s) w → put d w' ≡ answer_put (vets d ctl list) w
  unfolding vets
  vetted s es w w' f =
      let n-long : length y ≡ n = omega (arith, length-take n z) in
      let is : s ≡ y = es ∙ take_at y (drop n z) n n-long in
      rw vetted_is (put_answer w w' d _ (rw is at f))

  pub vetted_short : Fits (vets d ctl list).text
  unfolding vets
  vetted_short =
      let z-long : length z ≡ message_octets = ap length h in
      rw vetted_is (vetted_fits v y (omega (arith, length-take n z)))
