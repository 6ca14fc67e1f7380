mod FrontLemmas
mod JoinLemmas
mod LastLemmas
mod LawLemmas
mod PartLemmas
mod Steps
