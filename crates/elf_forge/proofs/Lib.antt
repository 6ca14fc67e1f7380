pub mod DigitLemmas
pub mod NumberLemmas
pub mod FolderLemmas
pub mod SizeLemmas
pub mod TreeLemmas
