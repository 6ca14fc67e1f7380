-- How a query stands in a target (RFC 3986, section 3.4; that it is one key with its value is this project's rule). Nothing is
-- decoded here.
use Rattle.std.specs.Prelude.{◌≡◌, ◌≢◌, ◌⊎◌, ℕ, All, List, ◌∷◌, ◌++◌, codes}

-- bytes are cut at the first of these marks: what stands in front of it holds none
pub record IsCutAt (mark : ℕ) (bytes front behind : List ℕ) : Type 0 where
  pub whole : bytes ≡ front ++ mark ∷ behind
  pub none : All (λ b. b ≢ mark) front

-- what stands behind the first `?` of a target
pub record HasQuery (target query : List ℕ) : Type 0 where
  pub path : List ℕ
  pub cut : IsCutAt 63 target path query

-- a query is two parts, with the one `&` that it has between them
pub record IsHalved (query first second : List ℕ) : Type 0 where
  pub cut : IsCutAt 38 query first second
  pub no_other : All (λ b. b ≢ 38) second

-- a query is `key=` and a key, and `value=` and a value, in either order
abbrev pub IsPair : List ℕ → List ℕ → List ℕ → Type 0
IsPair query key value =
    IsHalved query (codes "key=" ++ key) (codes "value=" ++ value) ⊎ IsHalved query (codes "value=" ++ value) (codes "key=" ++ key)
