-- `Sbox::sub_bytes` meets its contract: each byte is the substitute of the one at its place.
-- Assumes nothing.
use Rattle.std.proofs.Common.{rules, slice_index_or}
use Rattle.common.proofs.Calls.{from_fn_is}
use Rattle.aes.specs.Sbox.{sbox}
use Rattle.aes.specs.Cipher.{sub_bytes}
use Rattle.aes.proofs.sbox.Sbox.sub_bytes.Goals as goal

pub returns : goal.returns
unfolding sub_bytes
returns c = from_fn_is _ _ (λ i. sbox (slice_index_or c.args.s i 0)) 16 (λ i y q l k. search rules) 0 _ c.from_fn.ensures.items
