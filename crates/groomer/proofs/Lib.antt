mod GroomLemmas
mod HandLemmas
mod MissLemmas
