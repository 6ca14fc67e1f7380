-- The laws of glob patterns, in words of their own (this project's rule).
use Rattle.std.specs.Prelude.{◌≡◌, ◌≢◌, ◌↔◌, ℕ, ◌==◌, true, All, List, ◌++◌, codes, length}
use Rattle.glob_match.specs.Glob.{is_glob_match}

-- a text is cut into a part that one pattern matches, any text, and a part that another one matches
pub record IsCutBy (p q text : List ℕ) : Type 0 where
  pub front : List ℕ
  pub between : List ℕ
  pub behind : List ℕ
  pub whole : text ≡ front ++ (between ++ behind)
  pub first : is_glob_match p front ≡ true
  pub last : is_glob_match q behind ≡ true

-- `*` matches each text, `?` each text of one character and no other, and a pattern without these two itself and no other
-- text; two patterns with a star between them match what is so cut, and nothing else
pub record GlobLaws : Type 0 where
  pub any_text : (text : List ℕ) → is_glob_match (codes "*") text ≡ true
  pub any_character : (text : List ℕ) → is_glob_match (codes "?") text ≡ (length text == 1)
  pub itself : (pattern text : List ℕ) → All (λ c. (c ≢ 42) × (c ≢ 63)) pattern
      → (is_glob_match pattern text ≡ true) ↔ (text ≡ pattern)
  pub star : (p q text : List ℕ) → (is_glob_match (p ++ (codes "*" ++ q)) text ≡ true) ↔ IsCutBy p q text
