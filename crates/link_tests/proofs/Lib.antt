pub mod DialSends
