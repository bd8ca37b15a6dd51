-- `radio::credential::foreign` meets its contract: each turn passes a piece with another NID, and the NID of a piece is its octet 0.
-- Assumes nothing.
use native.Mathlib.Omega.{arith}
use Rattle.network.proofs.CandidatesLaws.{none_passed}
use Rattle.radio.specs.Credential.{pieces}
use Rattle.radio.proofs.CredentialLaws.{all_foreign, piece_begins, piece_foreign, piece_fits}
use Rattle.radio.proofs.credential.foreign.Goals as goal

pub loop-i-init : goal.loop-i-init
loop-i-init c =
    let a = c.args in
    none_passed (pieces a.cs.now) c.piece_count-count.result a.nid

pub bounds-cs-i : goal.bounds-cs-i
bounds-cs-i c =
    let a = c.args in
    piece_begins a.cs.now a.nid c.piece_count-count.ensures c.loop-i.invariant (omega arith)

pub loop-i-preserved : goal.loop-i-preserved
loop-i-preserved c =
    let a = c.args in
    piece_foreign a.cs.now a.nid c.piece_count-count.ensures c.loop-i.invariant (omega arith) c.if-cs-i.false

pub returns : goal.returns
returns c =
    let a = c.args in
    all_foreign a.cs.now a.nid c.piece_count-count.ensures c.loop-i.invariant (omega arith)

pub returns-then-cs-i : goal.returns-then-cs-i
returns-then-cs-i c =
    let a = c.args in
    piece_fits a.cs.now a.nid c.piece_count-count.ensures c.loop-i.invariant (omega arith) c.if-cs-i.true
