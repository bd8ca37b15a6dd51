-- `modes::chain::xor_whole` meets its contract: each octet is the xor of the two at its place.
-- Assumes nothing.
use Rattle.std.proofs.Common.{rules, ℕ, ◌+◌, ◌∙◌, sym, ap, slice_index_or, drop}
use lib.Bits.{bit_xor}
use lib.Seq.{get_or-drop}
use Rattle.common.specs.Lists.{xored}
use Rattle.common.proofs.Lists.{tab_ext}
use Rattle.common.proofs.Calls.{from_fn_is}
use Rattle.modes.proofs.chain.xor_whole.Goals as goal

pub returns : goal.returns
unfolding xored
returns c =
    let a = c.args in
    let at : ℕ → ℕ = λ i. bit_xor (slice_index_or a.x i 0) (slice_index_or a.m.now (a.at + i) 0) in
    from_fn_is _ _ at 16 (λ i y q l k. search rules) 0 _ c.from_fn.ensures.items
    ∙ tab_ext at (λ i. bit_xor (slice_index_or a.x i 0) (slice_index_or (drop a.at a.m.now) i 0)) 16
    (λ i l. ap (bit_xor (slice_index_or a.x i 0)) (sym (get_or-drop a.at a.m.now i 0)))
