-- `site::setting::setup` meets its contract: each key is filled in where the definition fills it in.
-- Assumes nothing.
use Rattle.site.proofs.setting.setup.Goals as goal

pub returns : goal.returns
returns c = rw (c.with_application_key-s.ensures, c.with_network_key-keyed.ensures, c.nothing.ensures)
