-- `radio::credential::pieces` meets its contract: its elements are those of the definition, one by one, read from the copy as from the list.
-- Assumes nothing.
use Rattle.radio.specs.Credential.{pieces}
use Rattle.radio.proofs.CredentialLaws.{pieces_copied}
use Rattle.radio.proofs.credential.pieces.Goals as goal

pub returns : goal.returns
unfolding pieces
returns c =
    cc (pieces_copied c.args.cs.now c.copy.ensures)
