-- Which calls of a store in memory fail (this project's rule). The calls of a store and of its keepers that can
-- fail are numbered from 0.
use Rattle.std.specs.Prelude.{ℕ, ◌%◌, ◌==◌, ◌||◌, ◌&&◌, Bool, false, List, Option}
use Rattle.std.specs.List.{list_any}
use Rattle.std.specs.Option.{option_map_or}
use Rattle.row_types.specs.Faults.{raised}

-- the number of the call that stops the store, the numbers of those that fail alone, the next call's number, and
-- whether the store is stopped: each call fails then, until it is opened again
pub record PlanFacts : Type 0 where
  pub stop_at : Option ℕ
  pub bad_calls : List ℕ
  pub calls : ℕ
  pub stopped : Bool

-- the plan before the first call
abbrev pub planned : Option ℕ → List ℕ → PlanFacts
planned stop_at bad_calls = record { stop_at = stop_at; bad_calls = bad_calls; calls = 0; stopped = false }

-- whether the next call stops the store
abbrev pub stops_next : PlanFacts → Bool
stops_next plan = option_map_or (λ number. number == plan.calls) plan.stop_at false

-- whether the next call is one that fails alone
abbrev pub is_bad_next : PlanFacts → Bool
is_bad_next plan = list_any (λ number. number == plan.calls) plan.bad_calls

-- whether the next call, an opening, fails
abbrev pub opening_fails : PlanFacts → Bool
opening_fails plan = stops_next plan || is_bad_next plan

-- whether the next call, one of a keeper, fails
abbrev pub call_fails : PlanFacts → Bool
call_fails plan = plan.stopped || opening_fails plan

-- whether the next call, a change, fails and is made all the same: a stop at an odd number
abbrev pub is_made_next : PlanFacts → Bool
is_made_next plan = stops_next plan && (plan.calls % 2 == 1)

-- the plan after a call
abbrev pub after_call : PlanFacts → PlanFacts
after_call plan = record plan { calls = raised plan.calls; stopped = plan.stopped || stops_next plan }

-- the plan after an opening that didn't fail
abbrev pub after_opening : PlanFacts → PlanFacts
after_opening plan = record plan { calls = raised plan.calls; stopped = false }
