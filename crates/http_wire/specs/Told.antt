-- Lists that are told, and that only grow (this project's rule).
use Rattle.std.specs.Prelude.{◌≡◌, List, ◌++◌, Option, IsSome}
use Rattle.std.specs.Option.{option_map}

-- where the list is still told, this was added to it
abbrev pub Gains : {A : Type 0} → Option (List A) → List A → Option (List A) → Type 0
Gains old more new = IsSome new → new ≡ option_map (λ told. told ++ more) old
