-- `radio::credential::octets_of` meets its contract: sixteen octets of a key are the list of them.
-- Assumes nothing.
use mathlib.Core.List.{List, ◌∷◌, ◌++◌}
use mathlib.Core.Path.{◌≡◌, ap₂}
use Prim.Native.Nat.{ℕ}
use borrow.Author.Rules.{rules}
use lib.ListN.{length}
use Rattle.common.proofs.Lists.{padded_all}
use Rattle.radio.specs.Credential.{credential_of}
use Rattle.radio.proofs.credential.octets_of.Goals as goal

pub returns : goal.returns
unfolding credential_of
returns c =
    let k = c.args.k in
    let e : length k.encryption ≡ 16 = search rules in
    let p : length k.privacy ≡ 16 = search rules in
    ap₂ (λ (x y : List ℕ). k.nid ∷ x ++ y) (padded_all 16 k.encryption e) (padded_all 16 k.privacy p)
