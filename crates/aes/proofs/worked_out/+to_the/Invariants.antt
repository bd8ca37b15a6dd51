-- `aes::worked_out::to_the` meets its contract. The measure is the exponent, which falls at each call.
-- Assumes nothing.
use Rattle.aes.proofs.worked_out.+to_the.Given as goal

abbrev pub decreases-to_the : goal.decreases-to_the
decreases-to_the l = l.e
