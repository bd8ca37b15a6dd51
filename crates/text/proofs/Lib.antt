-- Laws of the definitions in specs/.
pub mod WrittenLaws
pub mod WriterLaws
pub mod FieldLaws
pub mod HexLaws
pub mod NumberLaws
