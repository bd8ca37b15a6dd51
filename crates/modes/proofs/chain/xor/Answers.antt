-- `modes::chain::xor` meets its contract: the closure xors the two octets at its place.
-- Assumes nothing.
use Rattle.std.proofs.Common.{rules, slice_index_or}
use lib.Bits.{bit_xor}
use Rattle.common.specs.Lists.{xored}
use Rattle.common.proofs.Calls.{from_fn_is}
use Rattle.modes.proofs.chain.xor.Goals as goal

pub returns : goal.returns
unfolding xored
returns c =
    from_fn_is _ _ (λ i. bit_xor (slice_index_or c.args.x i 0) (slice_index_or c.args.b i 0)) 16 (λ i y q l k. search rules) 0 _ c.from_fn.ensures.items
