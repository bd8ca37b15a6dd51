-- `network::trial::Pdu::search` meets its contract: each turn passes a key, tries one in vain or ends with one that opens the PDU, and the count of trials
-- stays a place among the candidates. The measure is what is left of the four keys. Assumes nothing.
use mathlib.Core.Logic.{⊎_elim}
use Prim.Native.Nat.{◌≤◌, ◌<◌, min}
use native.Mathlib.Omega.{arith}
use borrow.Author.Tests.{leb-false}
use Rattle.network.proofs.CandidatesLaws.{key_passed, key_tried, key_opens, no_key_opens_law}
use Rattle.network.specs.Candidates.{network_key_places}
use Rattle.network.proofs.trial.Pdu.search.Goals as goal
use Rattle.network.proofs.trial.Pdu.search.Goals.{then-key-nid+in_default, else-key-nid}

pub loop-i-preserved : goal.loop-i-preserved
loop-i-preserved c =
    let a = c.args in
    let h : c.loop-i.i < min a.count network_key_places = omega (arith, leb-false) in
    elim c.if-key-nid.branch [
      | then-key-nid+in_default w ↦
          rw w.trials-is
          (key_tried a.held a.count a.nid a.iv a.self.now.octets.now c.loop-i.invariant.0 h w.if-key-nid.true w.try_key.ensures w.in_default.not-Some, omega arith)
      | else-key-nid w ↦
          rw w.trials-is (key_passed a.held a.count a.nid a.iv a.self.now.octets.now c.loop-i.invariant.0 h w.if-key-nid.false, omega arith)
    ]

pub returns-then-i-ge-KEYS : goal.returns-then-i-ge-KEYS
returns-then-i-ge-KEYS c =
    let a = c.args in
    let h : min a.count network_key_places ≤ c.loop-i.i =
    ⊎_elim (λ w. omega arith) (λ w. omega arith) c.then-i-ge-KEYS.either in
    no_key_opens_law a.held a.count a.nid a.iv a.self.now.octets.now c.loop-i.invariant.0 h

pub returns-in-Some : goal.returns-in-Some
returns-in-Some c =
    let a = c.args in
    key_opens a.held a.count a.nid a.iv a.self.now.octets.now c.loop-i.invariant.0 (omega (arith, leb-false)) c.if-key-nid.true c.try_key.ensures c.in-Some.is
