-- `radio::gorephan_seal` meets its contract: each return is one rule of `seal_done`, and the tests before it say which.
-- Assumes nothing.
use mathlib.Core.Path.{◌≡◌}
use borrow.Author.Rules.{rules}
use lib.ListN.{length}
use Rattle.radio.proofs.SealLaws.{sealed_most, seal_told}
use Rattle.radio.proofs.gorephan_seal.Goals as goal

pub seal_number-requires : goal.seal_number-requires
seal_number-requires c =
    let t = c.sixteen.result in
    let sixteen : length t ≡ 16 = search rules in
    sealed_most _ _ _ sixteen c.seal.ensures

pub returns : goal.returns
returns c = search seal_told
