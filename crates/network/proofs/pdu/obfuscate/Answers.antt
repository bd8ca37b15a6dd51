-- `network::pdu::obfuscate` meets its contract: the block is the five zeros, the IV Index and the seven random octets, and its cipher is xored octet by octet.
-- Assumes nothing.
use mathlib.Core.Path.{◌≡◌, ap, ◌∙◌}
use Rattle.std.proofs.Common.{rules, slice_index_or}
use Rattle.std.specs.Int.Bits.{bit_xor}
use Rattle.common.specs.Lists.{xored}
use Rattle.common.proofs.Calls.{from_fn_is}
use Rattle.network.proofs.OctetsLaws.{octets_of_four}
use Rattle.network.specs.Pdu.{privacy_block, obfuscated}
use Rattle.network.proofs.pdu.obfuscate.Goals as goal

pub returns : goal.returns
unfolding obfuscated privacy_block xored
returns c =
    let a = c.args in
    let b = c.encrypt-b.result in
    let block : b ≡ privacy_block a.key a.iv a.random = search (octets_of_four, rules) in
    from_fn_is _ _ (λ i. bit_xor (slice_index_or a.front i 0) (slice_index_or b i 0)) 6 (λ i y q l k. search rules) 0 _ c.from_fn.ensures.items
    ∙ ap (xored 6 a.front) block
