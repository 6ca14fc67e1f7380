pub mod TwoWorldRows
