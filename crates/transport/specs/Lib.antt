-- What transport (MP 3.5, 3.6) is read and written by: SeqAuth, opcodes, the fields of a transport PDU, its form, segments, acknowledgements, securing;
-- and vetting.
pub mod SeqAuth
pub mod LeadsBack
pub mod Opcode
pub mod Fields
pub mod Form
pub mod Segment
pub mod Listed
pub mod Ranges
pub mod ReadsBack
pub mod Examples
pub mod Securing
pub mod SecureOpen
pub mod Vetting
pub mod VettedExactly
pub mod VettedMet
