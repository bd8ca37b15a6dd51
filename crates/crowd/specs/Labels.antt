-- Premises of demand 2 are met by a message to a label, of a receiver that holds two labels of one address: the label that it is sent to is the second, so that the first is tried
-- before it, and does not open it.
--   mast          the sender's setup: it holds the label
--   shelter       the receiver's: it holds another of the same address before it
--   LabelsMet     the premises hold, the two labels have one address, and the second pair opens the message
use Rattle.std.specs.Prelude.{None, false, List, [], ◌∷◌, ◌≡◌, ℕ}
use Rattle.common.specs.Lists.{same}
use Rattle.keys.specs.Derivation.{label_address}
use Rattle.transport.specs.declared.securing.MessageKey.TheVariants.{Application}
use Rattle.transport.specs.declared.securing.Opener.TheVariants as opener
use Rattle.node.specs.declared.setup.Setup.{Setup}
use Rattle.node.specs.Setup.{with_label}
use Rattle.sending.specs.declared.request.Destination.TheVariants.{Label}
use Rattle.sending.specs.declared.request.Request.{Request}
use Rattle.demands.specs.Instance.{shed, bench, short, lent_pdu, hearing}
use Rattle.demands.specs.Interleaved.{start, node_of}
use Rattle.demands.specs.ReadBack.{said_by, Made, Telling}
use Rattle.demands.specs.Speech.{Speech, opener_of, application_place}

-- two labels
abbrev pub first_label : List ℕ
first_label = 0x00 ∷ 0x39 ∷ 0x00 ∷ 0x39 ∷ 0x00 ∷ 0x39 ∷ 0x00 ∷ 0x39 ∷ 0x00 ∷ 0x39 ∷ 0x00 ∷ 0x39 ∷ 0x00 ∷ 0x39 ∷ 0x00 ∷ 0x39 ∷ []

abbrev pub second_label : List ℕ
second_label = 0x00 ∷ 0x73 ∷ 0x00 ∷ 0x73 ∷ 0x00 ∷ 0x73 ∷ 0x00 ∷ 0x73 ∷ 0x00 ∷ 0x73 ∷ 0x00 ∷ 0x73 ∷ 0x00 ∷ 0x73 ∷ 0x00 ∷ 0x73 ∷ []

-- the sender holds the second alone, the receiver both
abbrev pub mast : Setup
mast = with_label bench second_label

abbrev pub shelter : Setup
shelter = with_label (with_label shed first_label) second_label

-- to the sender's first label; eight octets go in one PDU
abbrev pub to_label : Request
to_label = record { element = 0; dst = Label 0; ttl = None; network = 0 }

abbrev pub said : Speech
said = said_by (start mast) to_label short

pub record LabelsMet : Type 0 where
  pub one_address : label_address first_label ≡ label_address second_label
  pub two_labels : same first_label second_label ≡ false
  pub telling : Telling (start mast) shelter to_label short lent_pdu [] (hearing (Made 0) ∷ [])
  -- the receiver's second label opens it, and is tried as the second
  pub by_second : opener_of (node_of shelter) said (Application 0) ≡ opener.Labelled 0 1
  pub second_trial : application_place (node_of shelter) said short ≡ 2
