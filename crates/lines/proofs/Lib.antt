pub mod AnswerLaws
pub mod Examples
pub mod HexLaws
pub mod LineLaws
pub mod NumberLaws
pub mod PlaceLaws
pub mod PutLaws
pub mod TextLaws
