-- The part of a pattern behind its last star (this crate's bookkeeping, which no public clause cites).
use Rattle.std.specs.Prelude.{◌≡◌, ◌≢◌, true, false, ℕ, All, List, ◌++◌}
use Rattle.glob_match.specs.Glob.{is_glob_match}
use Rattle.glob_match.specs.declared.matching.TheConstants.{ANY_TEXT}

-- no star is among the characters
abbrev pub HasNoStar : List ℕ → Type 0
HasNoStar part = All (λ c. c ≢ ANY_TEXT) part

-- a text is this front, and an end that the part matches
pub record EndsIn (part text front : List ℕ) : Type 0 where
  pub end : List ℕ
  pub whole : text ≡ front ++ end
  pub matches : is_glob_match part end ≡ true

-- the part matches no end of the text
abbrev pub HasNoEnd : List ℕ → List ℕ → Type 0
HasNoEnd part text = (front end : List ℕ) → text ≡ front ++ end → is_glob_match part end ≡ false
