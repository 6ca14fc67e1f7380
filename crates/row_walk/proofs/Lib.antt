pub mod CopyLemmas
pub mod FrontLemmas
pub mod HoldLemmas
pub mod KeptLemmas
pub mod LawLemmas
pub mod LookLemmas
pub mod StepLemmas
