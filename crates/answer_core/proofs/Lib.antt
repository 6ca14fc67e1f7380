pub mod CompleteLemmas
pub mod HearLemmas
pub mod LocalLemmas
pub mod RowsLemmas
pub mod SinceLemmas
mod FileLemmas
mod FitLemmas
mod TriedLemmas
mod TryLemmas
mod ReadingLemmas
