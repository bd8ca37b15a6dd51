-- A quoted text as octets: one for each of its characters, which are those of ASCII.
use Rattle.std.specs.Prelude.{List, [] as []ᴸ, ◌∷◌ as ◌∷ᴸ◌, ℕ}
use Prim.Native.String.{String, [], ◌∷◌}
use Prim.Native.Char.{code}

abbrev pub octets : String → List ℕ
octets [] = []ᴸ
octets (c ∷ s) = code c ∷ᴸ octets s
