-- Laws of PDUs heard in a row.
pub mod Row
