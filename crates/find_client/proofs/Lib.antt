mod LookLemmas
mod SearchLemmas
mod WrittenLemmas
