-- E1 to E12. Each is one equation between a definition applied to the document's numbers and the document's answer, so
-- the checker computes both sides and finds them equal: the network's three where the IV Index is found, the
-- transport's nine where SeqAuth, fronts, acknowledgements and chunks are. Here the two layers' lists stand behind each
-- other as a single one under a single claim. They show that the definitions say what the document's authors worked out
-- by hand; that the code gives what the definitions say is the contracts' matter. Assumes nothing.
use Rattle.network.proofs.Examples as network
use Rattle.transport.proofs.Examples as transport
use Rattle.demands.specs.Examples.{Examples}

pub examples : Examples
examples = let n = network.examples in (n.0, (n.1.0, (n.1.1.0, transport.examples)))
