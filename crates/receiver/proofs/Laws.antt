-- Laws about one call, for those who speak of many: a change to the call is paid here.
--   Heard     a call refuses before the cache, or the PDU passes; one that opens
--   Form      a message by its form
--   Segment   a segment by what stands in the receiver
--   Ways      the ways a call can end
--   After     what is left behind the cache
--   Refusal   what a refusal leaves
--   Fixed     what no call changes
--   Outgoing  what hearing leaves of the outgoing message
--   Sources   whom cache, replay list and sessions list
--   Fresh     what a receiver holds that setup made
--   GiveUp    giving up a session
--   Alike     outcomes that differ in the replay list alone
--   Agree     two replay lists that agree: their receivers do alike
pub mod Heard
pub mod Form
pub mod Segment
pub mod Ways
pub mod After
pub mod Refusal
pub mod Fixed
pub mod Outgoing
pub mod Sources
pub mod Fresh
pub mod GiveUp
pub mod Alike
pub mod Agree
