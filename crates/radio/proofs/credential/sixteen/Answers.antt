-- `radio::credential::sixteen` meets its contract: what there is from `at` on is copied onto zeros, as far as it fits.
-- Assumes nothing.
use Rattle.radio.proofs.CredentialLaws.{sixteen_copied, sixteen_past}
use Rattle.radio.proofs.credential.sixteen.Goals as goal

pub returns-then-at-s : goal.returns-then-at-s
returns-then-at-s c = let a = c.args in sixteen_copied a.s.now a.at c.copy.ensures

pub returns-else-at-s : goal.returns-else-at-s
returns-else-at-s c = let a = c.args in sixteen_past a.s.now a.at c.if-at-s.false
