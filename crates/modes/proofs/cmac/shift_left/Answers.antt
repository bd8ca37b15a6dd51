-- `modes::cmac::shift_left` meets its contract: each octet takes the high bit of the one behind it; behind the last stands a zero.
-- Assumes nothing.
use Rattle.std.proofs.Common.{rules, ◌+◌, ◌*◌, ◌/◌, ◌%◌, slice_index_or}
use Rattle.common.proofs.Calls.{from_fn_is}
use Rattle.modes.specs.Cmac.{shift_left}
use Rattle.modes.proofs.cmac.shift_left.Goals as goal

pub returns : goal.returns
unfolding shift_left
returns c =
    let b = c.args.b in
    from_fn_is _ _ (λ i. slice_index_or b i 0 * 2 % 256 + slice_index_or b (i + 1) 0 / 128) 16 (λ i y q l k. search rules) 0 _ c.from_fn.ensures.items
