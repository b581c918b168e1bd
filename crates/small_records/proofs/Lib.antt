pub mod AnswerLaws
pub mod Examples
pub mod FirstBad
pub mod FormLaws
pub mod NextLaws
pub mod PlaceLaws
pub mod ReadLaws
