-- What a Network PDU (MP 3.4) is read and written by: numbers as octets, address kinds, the IV Index, the nonces.
pub mod Octets
pub mod Address
pub mod Kinds
pub mod IvIndex
pub mod Nonce
pub mod Examples
pub mod Header
pub mod Pdu
pub mod Trial
pub mod Candidates
pub mod Opening
pub mod Sealing
pub mod SealOpen
pub mod Forwarded
pub mod Resealed
