-- `speed::hearing::setup` meets its contract: each key is filled in where the definition fills it in.
-- Assumes nothing.
use Rattle.speed.proofs.hearing.setup.Goals as goal

pub returns : goal.returns
returns c =
    rw (c.with_application_key.ensures, c.key-3.ensures, c.with_network_key-keyed.ensures, c.key.ensures, c.nothing.ensures, c.key-2.ensures)
