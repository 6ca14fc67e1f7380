pub mod RefusalLemmas
pub mod ViewLemmas
