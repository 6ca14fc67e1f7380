pub mod OneByte
pub mod ReadOn
