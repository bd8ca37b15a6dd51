-- A pair, IV Index and sequence number, is compared IV Index first (document 01, "Transport").
--   newer a b       a is greater than b
--   same_pair a b   they are equal
--   greater a b     the greater of the two
use Rattle.std.specs.Prelude.{Bool, ◌&&◌, eqb, ltb, if◌then◌else◌}
use Rattle.memory.specs.declared.pair.Pair.{Pair}

-- no message
abbrev pub no_pair : Pair
no_pair = record { iv = 0; seq = 0 }

-- a is greater than b
unfoldable pub newer : Pair → Pair → Bool
newer a b =
    if eqb a.iv b.iv then ltb b.seq a.seq else
    ltb b.iv a.iv

-- they are equal
unfoldable pub same_pair : Pair → Pair → Bool
same_pair a b = eqb a.iv b.iv && eqb a.seq b.seq

-- the greater of the two
unfoldable pub greater : Pair → Pair → Pair
greater a b = if newer a b then a else b
