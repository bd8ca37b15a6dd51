-- The receiver's invariant is kept by every call, so it holds of all that setup makes, whatever was called since.
use Rattle.std.specs.Prelude.{Ok, List, ◌≡◌}
use Rattle.node.specs.declared.setup.Setup.{Setup}
use Rattle.receiver.specs.declared.state.Receiver.{Receiver}
use Rattle.receiver.specs.Fresh.{setting_up}
use Rattle.receiver.specs.Good.{Good}
use Rattle.demands.specs.Call.{Call, step, after}

-- kept by every call
abbrev pub GoodStep : Type 0
GoodStep = (r : Receiver) (c : Call) → Good r → Good (step r c).receiver

-- true after setup and any list of calls
abbrev pub GoodAfter : Type 0
GoodAfter = (s : Setup) (l : List Call) → (setting_up s).answer ≡ Ok tt → Good (after (setting_up s).receiver l)
