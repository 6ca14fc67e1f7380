pub mod LayoutLemmas
pub mod NoteLemmas
pub mod LayoutLaws
pub mod SampleLengths
