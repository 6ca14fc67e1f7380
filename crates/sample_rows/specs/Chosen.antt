-- Which paths are selected of a list (this project's example).
use Rattle.std.specs.Borrow.{Bor}
use Rattle.std.specs.List.{list_any}
use Rattle.std.specs.Prelude.{ℕ, Bool, List}
use Rattle.std.specs.Str.{bytes_eq}

-- whether the path is one of the texts
unfoldable pub is_listed : List (Bor (List ℕ)) → List ℕ → Bool
is_listed texts path = list_any (λ text. bytes_eq text.now path) texts
