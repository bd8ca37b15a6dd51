-- Each line has an answer that fits, and no answer is cut: room is made before it is put.
-- Assumes nothing.
use mathlib.Core.Bool.{Bool}
use mathlib.Core.List.{List}
use mathlib.Core.Path.{◌≡◌, ap, sym}
use Prim.Native.Nat.{ℕ, ◌≤◌}
use denote.Enum.Declared.{tag_of}
use types.Run.{OneOf}
use lib.ListN.{length, take}
use Rattle.common.specs.Lent.{lent}
use Rattle.common.specs.Lists.{onto}
use Rattle.commands.specs.declared.line.GivingUp.{GivingUp}
use Rattle.commands.specs.declared.line.Line.{Line}
use Rattle.commands.specs.declared.line.Line.TheVariants as line
use Rattle.commands.specs.declared.line.Sending.{Sending}
use Rattle.commands.specs.contracts.line.Line.{the_type}
use Rattle.text.specs.Written.{putting}
use Rattle.answers.specs.Fits.{Fits}
use Rattle.answers.proofs.Fits.{fits_whole, given_up_fits, set_up_fits, noted_fits}
use Rattle.answers.proofs.ReadingsFit.{readings_fit}
use Rattle.console.specs.declared.step.Console.{Console}
use Rattle.console.specs.Bench.{vets}
use Rattle.console.specs.Receiving.{hears, speaks, gives_up, shows}
use Rattle.console.specs.Step.{notes, tells, sets_up, stepping}
use Rattle.console.specs.Input.{freed, behind_answers}
use Rattle.console.proofs.InputLaws.{keeps_free}
use Rattle.console.proofs.StepLaws.{noted_tags, noted_is}

-- ---- by what the line says
module _ (c : Console) (said : Line) (text octets : List ℕ) where
  pub fits_hear :
      (len : ℕ) (pdu : List ℕ) → said ≡ line.Hear len → pdu ≡ take len octets → Fits (hears c.receiver c.desk.room pdu).text
      → Fits (stepping c said text octets).text
  unfolding stepping
  fits_hear len pdu k cut f = rw (k, ← cut) f

  pub fits_send :
      (s : Sending) → said ≡ line.Send s → Fits (speaks c.receiver c.desk.room s octets).text → Fits (stepping c said text octets).text
  unfolding stepping
  fits_send s k f = rw k f

  pub fits_show : said ≡ line.Show → Fits (shows c.receiver).text → Fits (stepping c said text octets).text
  unfolding stepping
  fits_show k f = rw k f

  pub fits_give_up : (what : GivingUp) → said ≡ line.GiveUp what → Fits (stepping c said text octets).text
  unfolding stepping gives_up
  fits_give_up what k = rw k (given_up_fits _)

  pub fits_readings : (len : ℕ) → said ≡ line.Readings len → Fits (stepping c said text octets).text
  unfolding stepping tells
  fits_readings len k = rw k (readings_fit _ _)

  pub fits_vet :
      (ctl : Bool) (len : ℕ) (list : List ℕ) → said ≡ line.Vet ctl len → list ≡ take len octets → Fits (vets c.desk ctl list).text
      → Fits (stepping c said text octets).text
  unfolding stepping
  fits_vet ctl len list k cut f = rw (k, ← cut) f

  pub fits_set_up : said ≡ line.SetUp → Fits (stepping c said text octets).text
  unfolding stepping sets_up
  fits_set_up k = rw k (set_up_fits _)

  pub fits_note : OneOf noted_tags (tag_of the_type said) → Fits (stepping c said text octets).text
  unfolding notes
  fits_note k = rw (noted_is c text octets said k) (noted_fits _)

pub ruleset fits_rules = (fits_hear, fits_send, fits_show, fits_give_up, fits_readings, fits_vet, fits_set_up, fits_note)

-- ---- what fits stands whole behind the others
pub put_whole : (text out : List ℕ) (end : ℕ) → Fits text → 8192 ≤ length out → behind_answers text (lent end out) ≡ putting text out (freed (length out) end)
unfolding behind_answers putting
put_whole text out end f h =
    ap (λ (l : List ℕ). lent (length l) (onto l out)) (sym (fits_whole text out (freed (length out) end) f (keeps_free (length out) end h)))
