-- The laws that the proofs of several functions share.
pub mod ComponentLaws
pub mod CountLaws
pub mod DownLaws
pub mod LandLaws
pub mod LookupLaws
pub mod MeasureLaws
pub mod SeenLaws
pub mod SettleLaws
pub mod TurnLaws
pub mod WalkLaws
