-- Laws about one call that sends, for those who speak of many: a change to the call is paid here.
--   Allowed       what a request has passed that is allowed
--   Stamped       what an element stamps on a PDU
--   Shapes        what a message is sent and kept as
--   Sendable      a message that a request begins may be in segments
--   Transmitted   one transmission, starting a message, giving it up
--   Calls         each call, down its tests
--   Agree         receivers that differ in the replay list alone
pub mod Allowed
pub mod Stamped
pub mod Shapes
pub mod Sendable
pub mod Transmitted
pub mod Calls
pub mod Agree
