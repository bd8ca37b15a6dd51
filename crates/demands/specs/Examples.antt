-- Examples E1 to E12 of document 01: one list, one claim.
use Rattle.std.specs.Prelude.{List, [], ◌∷◌, ◌++◌, map, ◌≡◌}
use Rattle.network.specs.IvIndex.{iv_index_heard, paper}
use Rattle.network.specs.Examples as network
use Rattle.transport.specs.Examples as transport

-- an example of the network layer or of transport
pub data Example : Type 0 where
  OfNetwork : network.Example → Example
  OfTransport : transport.Example → Example

-- what the definitions make of it is what it says
abbrev pub Holds : Example → Type 0
Holds (OfNetwork e) = paper (iv_index_heard e.current e.ivi) ≡ e.answer
Holds (OfTransport e) = transport.Holds e

-- E1 to E3, then E4 to E12
abbrev pub examples : List Example
examples = map OfNetwork network.examples ++ map OfTransport transport.examples

-- each example of a list holds
abbrev pub Hold : List Example → Type 0
Hold [] = Unit {0}
Hold (e ∷ l) = Holds e × Hold l

-- each of E1 to E12 holds
abbrev pub Examples : Type 0
Examples = Hold examples
