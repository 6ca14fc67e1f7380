mod AskedLemmas
mod CutLemmas
