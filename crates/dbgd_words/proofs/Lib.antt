pub mod FaultLemmas
pub mod LimitLemmas
pub mod OptionLemmas
pub mod ServeLemmas
pub mod ServerLemmas
pub mod TextLemmas
pub mod TrialLemmas
