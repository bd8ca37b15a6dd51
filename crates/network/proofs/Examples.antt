-- `Examples` holds: `iv_index_heard` computes to each answer.
-- Assumes nothing.
use mathlib.Core.Path.{refl}
use Rattle.network.specs.IvIndex.{iv_index_heard}
use Rattle.network.specs.Examples.{Examples}

pub examples : Examples
unfolding iv_index_heard
examples = (refl, (refl, (refl, tt)))
