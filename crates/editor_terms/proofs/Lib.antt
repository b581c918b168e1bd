pub mod EditLaws
pub mod IdLaws
pub mod TableLaws
