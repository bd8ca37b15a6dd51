-- One turn of the loop that reads: a line that was gathered whole is heard or done, and what is left of the block is read on.
-- Assumes nothing.
use mathlib.Core.Bool.{Bool, true, false}
use mathlib.Core.List.{List, []}
use mathlib.Core.Path.{◌≡◌, ap, sym, subst, ◌∙◌}
use Prim.Native.Nat.{ℕ, ◌≤◌}
use native.Mathlib.Omega.{arith}
use lib.ListN.{length, take}
use Rattle.common.specs.Lent.{Lent, lent}
use Rattle.receiver.specs.declared.state.Receiver.{Receiver}
use Rattle.commands.specs.declared.desk.Desk.{Desk}
use Rattle.commands.specs.declared.line.Line.{Line}
use Rattle.commands.specs.declared.line.Line.TheVariants as line
use Rattle.commands.specs.Line.{line_of}
use Rattle.std.specs.Borrow.{MutBor}
use Rattle.text.specs.declared.writer.Writer.{Writer}
use Rattle.text.specs.Written.{putting}
use Rattle.text.specs.Writer.{writer_at, standing, writing}
use Rattle.text.proofs.WriterLaws.{writing_length, writing_within, writes_as_put}
use Rattle.answers.specs.Fits.{Fits}
use Rattle.console.specs.declared.step.Console.{Console}
use Rattle.console.specs.Answered.{Answered, Put, put, answer_put}
use Rattle.console.specs.Receiving.{hears}
use Rattle.console.specs.Step.{console, beside_desk, stepping, answering}
use Rattle.console.specs.Input.{Reader, reader, freed, behind_answers, ended, ended_if, reads_all, Gathers}
use Rattle.console.proofs.Fits.{put_whole}

-- a buffer keeps its length where a writer w leaves its answer
pub answered_long :
    {A : Type 0} (out : MutBor (List ℕ)) (at n : ℕ) (o : List ℕ) (w : Writer) (q : A) (a : Answered A) → lent n o ≡ standing w
    → put q w ≡ answer_put a (writer_at out at) → length o ≡ length out.now
answered_long {A} out at n o w q a left e =
    ap (λ (l : Lent ℕ). length l.buffer) left ∙ ap (λ (p : Put A). length p.answers.out.now) e ∙ writing_length a.text (writer_at out at)

-- and its text is as long as the answers go
pub answered_end :
    {A : Type 0} (out : MutBor (List ℕ)) (at : ℕ) (w : Writer) (q : A) (a : Answered A) → put q w ≡ answer_put a (writer_at out at)
    → length (take w.at w.out.now) ≡ w.at
answered_end {A} out at w q a e =
    let is : w ≡ writing a.text (writer_at out at) = ap (λ (p : Put A). p.answers) e in
    rw is (writing_within a.text (writer_at out at) (omega arith))

-- ---- a line that ends: `said` is what it says, and `told` the buffer with its octets; its answer is written into `out` at `at`, by a writer that
-- then is w
module _ (text octets told : List ℕ) (out : MutBor (List ℕ)) (said : Line) (end at n : ℕ) (o : List ℕ) (w : Writer) (free : at ≡ freed (length out.now) end)
    (room : 8192 ≤ length out.now) (left : lent n o ≡ standing w) where
  -- the answer is put where room is free, and so it stands whole
  whole : (t : List ℕ) → Fits t → behind_answers t (lent end out.now) ≡ standing (writing t (writer_at out at))
  whole t f = put_whole t out.now end f room ∙ ap (putting t out.now) (sym free) ∙ sym (writes_as_put t out at)

  pub ended_hear :
      (d : Desk) (r q : Receiver) (len : ℕ) (pdu : List ℕ) → lent said told ≡ line_of text d.ready octets → said ≡ line.Hear len → pdu ≡ take len told
      → put q w ≡ answer_put (hears r d.room pdu) (writer_at out at) → Fits (hears r d.room pdu).text
      → ended (reader (console d r) text octets (lent end out.now)) ≡ reader (console d q) [] told (lent n o)
  unfolding ended answering stepping
  ended_hear d r q len pdu h k cut e f =
      let is : stepping (console d r) said text told ≡ beside_desk d (hears r d.room pdu) = rw (k, ← cut) in
      rw (← h)
      (ap (λ (a : Answered Console). reader a.after [] told (behind_answers a.text (lent end out.now))) is
      ∙ ap (reader (console d (hears r d.room pdu).after) [] told) (whole (hears r d.room pdu).text f)
      ∙ sym (ap (λ (p : Put Receiver). reader (console d p.after) [] told (standing p.answers)) e)
      ∙ ap (reader (console d q) [] told) (sym left))

  pub ended_step :
      (c b : Console) → lent said told ≡ line_of text c.desk.ready octets → put b w ≡ answer_put (stepping c said text told) (writer_at out at)
      → Fits (stepping c said text told).text → ended (reader c text octets (lent end out.now)) ≡ reader b [] told (lent n o)
  unfolding ended answering
  ended_step c b h e f =
      rw (← h)
      (ap (reader (stepping c said text told).after [] told) (whole (stepping c said text told).text f)
      ∙ sym (ap (λ (p : Put Console). reader p.after [] told (standing p.answers)) e)
      ∙ ap (reader b [] told) (sym left))

-- ---- what comes of the rest of the block is what came of all of it
module _ (m n : ℕ) (text text' rest rest' : List ℕ) (whole : Bool) (c : Console) (octets : List ℕ) (a : Lent ℕ) (all : Reader) (e : m ≡ n)
    (g : Gathers m text rest whole text' rest') (inv : reads_all n (reader c text octets a) rest ≡ all) where
  turn : reads_all n (ended_if whole (reader c text' octets a)) rest' ≡ all
  turn = sym (subst (λ (j : ℕ). Gathers j text rest whole text' rest') e g c octets a) ∙ inv

  pub turn_whole :
      (line : List ℕ) (next : Reader) → whole ≡ true → line ≡ text' → ended (reader c line octets a) ≡ next → reads_all n next rest' ≡ all
  turn_whole line next t l h =
      let is : ended_if whole (reader c text' octets a) ≡ next = rw (t, ← l) h in
      ap (λ (s : Reader). reads_all n s rest') (sym is) ∙ turn

  pub turn_part : whole ≡ false → reads_all n (reader c text' octets a) rest' ≡ all
  turn_part t =
      let is : ended_if whole (reader c text' octets a) ≡ reader c text' octets a = rw t in
      ap (λ (s : Reader). reads_all n s rest') (sym is) ∙ turn
