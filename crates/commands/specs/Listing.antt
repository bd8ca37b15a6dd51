-- The PDUs that a line lists, one in a field: hex pairs, or - for one of no octets.
--   pdu_of text          the PDU that a text is
--   are_pdus texts       whether each text is a PDU
--   leading_pdus texts   the PDUs of the texts in front
--   listing texts out    how many octets list the texts' PDUs, and the buffer with that list
use Rattle.std.specs.Prelude.{Option, Some, None, option_map, Bool, true, false, List, [], ◌∷◌, ℕ, length, take, replicate, if◌then◌else◌}
use Rattle.common.specs.Lent.{Lent, lent}
use Rattle.common.specs.Lists.{onto}
use Rattle.transport.specs.Listed.{written}
use Rattle.text.specs.Hex.{reading}
use Rattle.commands.specs.Request.{with_field}

-- as many octets as were read
abbrev pub octets_of : Lent (Option ℕ) → Option (List ℕ)
octets_of read = option_map (λ n. take n read.buffer) read.answer

-- a PDU of at most ff octets
abbrev pub pdu_of : List ℕ → Option (List ℕ)
pdu_of text = octets_of (reading text (replicate 0xFF 0))

-- whether each text is a PDU
unfoldable pub are_pdus : List (List ℕ) → Bool
are_pdus [] = true
are_pdus (text ∷ texts) = with_field (pdu_of text) false λ pdu. are_pdus texts

-- the PDUs of the texts in front, up to the first that is none
unfoldable pub leading_pdus : List (List ℕ) → List (List ℕ)
leading_pdus [] = []
leading_pdus (text ∷ texts) = with_field (pdu_of text) [] λ pdu. pdu ∷ leading_pdus texts

-- how many octets list the PDUs, where each text is one; the list of those in front goes to the first octets of the buffer
unfoldable pub listing : List (List ℕ) → List ℕ → Lent (Option ℕ)
listing texts out =
    lent (if are_pdus texts then Some (length (written (leading_pdus texts))) else None) (onto (written (leading_pdus texts)) out)
