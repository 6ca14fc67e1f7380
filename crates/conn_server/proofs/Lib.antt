mod CarriesLemmas
pub mod CaseLemmas
pub mod CountLemmas
mod DecideLemmas
pub mod DoorLemmas
mod EndLemmas
pub mod JoinLemmas
pub mod LinksLemmas
mod PageLemmas
mod PiecesLemmas
mod PlanLemmas
mod SentLemmas
pub mod SinceLemmas
mod TurnLemmas
