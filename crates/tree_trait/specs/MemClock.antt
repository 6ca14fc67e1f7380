-- The clock in memory (this project's rule): it answers Again so often, and then Stop.
use Rattle.std.specs.Prelude.{ℕ, ◌==◌, if◌then◌else◌, List, Option}
use Rattle.tree_trait.specs.declared.clock.Wake.{Wake}
use Rattle.tree_trait.specs.declared.clock.Wake.TheVariants.{Again, Stop}
use Rattle.tree_trait.specs.declared.clock.Waited.{Waited}

-- the waits so far, where they are told, and how many more are answered Again
pub record ClockFacts : Type 0 where
  pub woke : Option (List Waited)
  pub rounds : ℕ

-- what the next wait is answered, where so many more are answered Again
abbrev pub next_wake : ℕ → Wake
next_wake rounds = if rounds == 0 then Stop else Again
