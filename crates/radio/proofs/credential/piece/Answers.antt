-- `radio::credential::piece` meets its contract: what is read from the whole list at a piece's place is read from the piece.
-- Assumes nothing.
use Rattle.radio.proofs.CredentialLaws.{piece_read}
use Rattle.radio.proofs.credential.piece.Goals as goal

pub returns : goal.returns
returns c =
    let a = c.args in
    piece_read a.cs.now a.i c.octet.ensures c.sixteen.ensures c.sixteen-2.ensures
