-- `radio::credential::foreign` meets its contract: each turn passes a piece with another NID, and the NID of a piece is its octet 0.
-- Assumes nothing.
use Rattle.network.proofs.CandidatesLaws.{Passed}
use Rattle.radio.specs.Credential.{pieces}
use Rattle.radio.proofs.credential.foreign.Given as goal

abbrev pub invariant-loop-i : goal.invariant-loop-i
invariant-loop-i l = Passed (pieces l.cs) l.count l.nid l.i
