-- `addresses::is_local` meets its contract: the address is below the first element's, at one of 8 places behind it, or past them.
-- Assumes nothing.
use mathlib.Core.Path.{◌∙◌}
use borrow.Author.Tests.{le-ltb}
use Rattle.node.proofs.AddressesLaws.{local_low, local_near, local_far}
use Rattle.node.proofs.addresses.is_local.Goals as goal

pub returns-then-address-node : goal.returns-then-address-node
returns-then-address-node c = local_low _ _ c.if-address-node.true

pub returns-then-place-lt-ELEMENTS : goal.returns-then-place-lt-ELEMENTS
returns-then-place-lt-ELEMENTS c = local_near _ _ c.if-address-node.false c.if-place-lt-ELEMENTS.true

pub returns-else-place-lt-ELEMENTS : goal.returns-else-place-lt-ELEMENTS
returns-else-place-lt-ELEMENTS c = le-ltb _ _ c.if-place-lt-ELEMENTS.false ∙ local_far _ _ c.if-address-node.false c.if-place-lt-ELEMENTS.false
