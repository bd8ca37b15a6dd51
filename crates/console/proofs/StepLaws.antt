-- The rules of the console's lines by what they say: what was done for the line makes up what it leaves.
-- Assumes nothing.
use mathlib.Core.Bool.{Bool}
use mathlib.Core.List.{List, [], ◌∷◌}
use mathlib.Core.Path.{◌≡◌, refl}
use Prim.Native.Nat.{ℕ}
use denote.Enum.Declared.{tag_of}
use types.Run.{OneOf, miss}
use lib.ListN.{take}
use Rattle.receiver.specs.declared.state.Receiver.{Receiver}
use Rattle.commands.specs.declared.desk.Desk.{Desk}
use Rattle.commands.specs.declared.line.GivingUp.{GivingUp}
use Rattle.commands.specs.declared.line.Line.{Line}
use Rattle.commands.specs.declared.line.Line.TheVariants as line
use Rattle.commands.specs.declared.line.Sending.{Sending}
use Rattle.commands.specs.Desk.{noting}
use Rattle.commands.specs.contracts.line.Line.{the_type}
use Rattle.text.specs.declared.writer.Writer.{Writer}
use Rattle.console.specs.declared.step.Console.{Console}
use Rattle.console.specs.Answered.{put, answer_put}
use Rattle.console.specs.Bench.{vets}
use Rattle.console.specs.Receiving.{hears, speaks, gives_up, shows}
use Rattle.console.specs.Step.{console, notes, tells, beside_receiver, sets_up, stepping}
use Rattle.console.proofs.AnsweredLaws.{put_part}

-- the lines that are noted, by their places in the enum: those that are skipped or unread, what leads to a setup, the room, and the names
abbrev pub noted_tags : List ℕ
noted_tags = 0 ∷ 1 ∷ 2 ∷ 4 ∷ 9 ∷ 10 ∷ []

module _ (c : Console) (text octets : List ℕ) where
  -- every other line is noted
  pub noted_is :
      (l : Line) → OneOf noted_tags (tag_of the_type l)
      → stepping c l text octets ≡ beside_receiver c.receiver (notes c.desk l text)
  unfolding stepping notes noting
  noted_is line.Skipped k = refl
  noted_is line.Unread k = refl
  noted_is (line.Give item) k = refl
  noted_is line.SetUp k = absurd (miss noted_tags 3 tt k)
  noted_is (line.Room room) k = refl
  noted_is (line.Hear len) k = absurd (miss noted_tags 5 tt k)
  noted_is (line.Send s) k = absurd (miss noted_tags 6 tt k)
  noted_is (line.GiveUp what) k = absurd (miss noted_tags 7 tt k)
  noted_is line.Show k = absurd (miss noted_tags 8 tt k)
  noted_is (line.Property property kind) k = refl
  noted_is line.Forget k = refl
  noted_is (line.Readings len) k = absurd (miss noted_tags 11 tt k)
  noted_is (line.Vet ctl len) k = absurd (miss noted_tags 12 tt k)

module _ (w w' : Writer) where
  -- ---- a line by what it says
  module _ (c : Console) (said : Line) (text octets : List ℕ) where
    pub step_hear :
        (len : ℕ) (pdu : List ℕ) (q : Receiver) → said ≡ line.Hear len → pdu ≡ take len octets → put q w' ≡ answer_put (hears c.receiver c.desk.room pdu) w
        → put (console c.desk q) w' ≡ answer_put (stepping c said text octets) w
    unfolding stepping
    step_hear len pdu q k cut e = rw (k, ← cut) (put_part w w' (console c.desk) q _ e)

    pub step_send :
        (s : Sending) (q : Receiver) → said ≡ line.Send s → put q w' ≡ answer_put (speaks c.receiver c.desk.room s octets) w
        → put (console c.desk q) w' ≡ answer_put (stepping c said text octets) w
    unfolding stepping
    step_send s q k e = rw k (put_part w w' (console c.desk) q _ e)

    pub step_give_up :
        (what : GivingUp) (q : Receiver) → said ≡ line.GiveUp what → put q w' ≡ answer_put (gives_up c.receiver what) w
        → put (console c.desk q) w' ≡ answer_put (stepping c said text octets) w
    unfolding stepping
    step_give_up what q k e = rw k (put_part w w' (console c.desk) q _ e)

    pub step_show :
        (q : Receiver) → said ≡ line.Show → put q w' ≡ answer_put (shows c.receiver) w
        → put (console c.desk q) w' ≡ answer_put (stepping c said text octets) w
    unfolding stepping
    step_show q k e = rw k (put_part w w' (console c.desk) q _ e)

    pub step_readings :
        (len : ℕ) (message : List ℕ) (d : Desk) → said ≡ line.Readings len → message ≡ take len octets → put d w' ≡ answer_put (tells c.desk message) w
        → put (console d c.receiver) w' ≡ answer_put (stepping c said text octets) w
    unfolding stepping
    step_readings len message d k cut e = rw (k, ← cut) (put_part w w' (λ (x : Desk). console x c.receiver) d _ e)

    pub step_vet :
        (ctl : Bool) (len : ℕ) (list : List ℕ) (d : Desk) → said ≡ line.Vet ctl len → list ≡ take len octets → put d w' ≡ answer_put (vets c.desk ctl list) w
        → put (console d c.receiver) w' ≡ answer_put (stepping c said text octets) w
    unfolding stepping
    step_vet ctl len list d k cut e = rw (k, ← cut) (put_part w w' (λ (x : Desk). console x c.receiver) d _ e)

    pub step_set_up :
        (d : Console) → said ≡ line.SetUp → put d w' ≡ answer_put (sets_up c) w → put d w' ≡ answer_put (stepping c said text octets) w
    unfolding stepping
    step_set_up d k e = rw k e

    pub step_note :
        (d : Desk) → OneOf noted_tags (tag_of the_type said) → put d w' ≡ answer_put (notes c.desk said text) w
        → put (console d c.receiver) w' ≡ answer_put (stepping c said text octets) w
    step_note d k e =
        rw (noted_is c text octets said k) (put_part w w' (λ (x : Desk). console x c.receiver) d _ e)

pub ruleset step_rules = (step_hear, step_send, step_give_up, step_show, step_readings, step_vet, step_set_up, step_note)
