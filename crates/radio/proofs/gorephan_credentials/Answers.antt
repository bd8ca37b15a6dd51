-- `radio::gorephan_credentials` meets its contract: each return is one rule of `credentials_done`, and the tests before it say which.
-- Assumes nothing.
use Rattle.radio.proofs.CredentialLaws.{credential_written}
use Rattle.radio.proofs.gorephan_credentials.Goals as goal

pub returns : goal.returns
returns c = search credential_written
