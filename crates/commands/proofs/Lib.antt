-- Laws of the definitions in specs/.
pub mod LineRules
pub mod SettingLaws
pub mod ListingLaws
