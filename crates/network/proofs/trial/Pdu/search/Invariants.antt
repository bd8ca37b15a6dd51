-- `network::trial::Pdu::search` meets its contract: each turn passes a key, tries one in vain or ends with one that opens the PDU, and the count of trials
-- stays a place among the candidates. The measure is what is left of the four keys. Assumes nothing.
use Prim.Native.Nat.{◌≤◌, ◌-◌}
use Rattle.network.proofs.CandidatesLaws.{Searching}
use Rattle.network.specs.Candidates.{network_key_places}
use Rattle.network.proofs.trial.Pdu.search.Given as goal

abbrev pub invariant-loop-i : goal.invariant-loop-i
invariant-loop-i l = Searching l.held l.count l.nid l.iv l.self.octets.now l.i l.trials × (l.trials ≤ l.i)

abbrev pub decreases-loop-i : goal.decreases-loop-i
decreases-loop-i l = network_key_places - l.i
