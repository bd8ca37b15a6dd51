-- `aes::add_round_key` meets its contract: the closure xors the two bytes at its place.
-- Assumes nothing.
use Rattle.std.proofs.Common.{rules, slice_index_or}
use Rattle.std.specs.Int.Bits.{bit_xor}
use Rattle.common.specs.Lists.{xored}
use Rattle.common.proofs.Calls.{from_fn_is}
use Rattle.aes.specs.Cipher.{add_round_key}
use Rattle.aes.proofs.add_round_key.Goals as goal

pub returns : goal.returns
unfolding add_round_key xored
returns c =
    let a = c.args in
    from_fn_is _ _ (λ i. bit_xor (slice_index_or a.s i 0) (slice_index_or a.k i 0)) 16 (λ i y q l k. search rules) 0 _ c.from_fn.ensures.items
