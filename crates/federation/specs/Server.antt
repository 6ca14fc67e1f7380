-- What contracts see of the place of a server (this project's rule).
use Rattle.std.specs.Prelude.{ℕ, List}

-- the host, as a URL writes it; the port; and what stands before each route
pub record ServerFacts : Type 0 where
  pub host : List ℕ
  pub port : ℕ
  pub base : List ℕ
