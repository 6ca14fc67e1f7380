-- Clocks (this project's rule): the waits so far, with their answers.
use Rattle.std.specs.Prelude.{◌≡◌, ℕ, List, [], ◌∷◌, ◌++◌, Option, IsSome}
use Rattle.std.specs.Option.{option_map}
use Rattle.tree_trait.specs.declared.clock.Wake.{Wake}
use Rattle.tree_trait.specs.declared.clock.Waited.{Waited}

-- a wait for so many seconds, and its answer
abbrev pub waited : ℕ → Wake → Waited
waited secs wake = record { secs = secs; wake = wake }

-- where the waits are still told, this one was added to them
abbrev pub Wakes : Option (List Waited) → ℕ → Wake → Option (List Waited) → Type 0
Wakes before secs wake after = IsSome after → after ≡ option_map (λ woke. woke ++ waited secs wake ∷ []) before
