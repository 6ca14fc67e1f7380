-- The part of a pattern in front of its first star (this crate's bookkeeping, which no public clause cites).
use Rattle.std.specs.Prelude.{◌≡◌, ℕ, true, false, List, ◌∷◌, ◌++◌, length, drop}
use Rattle.glob_match.specs.Glob.{is_glob_match}
use Rattle.glob_match.specs.Last.{HasNoStar}
use Rattle.glob_match.specs.declared.front.Front.{Front}
use Rattle.glob_match.specs.declared.front.Front.TheVariants.{Fails, Short, Star, Whole}
use Rattle.glob_match.specs.declared.matching.TheConstants.{ANY_TEXT}

-- a part without a star fits in front of a text, and this is what stands behind it in the pattern and in the text
pub record FitsUpTo (pattern text rest behind : List ℕ) : Type 0 where
  pub part : List ℕ
  pub whole : pattern ≡ part ++ rest
  pub no_star : HasNoStar part
  pub left : behind ≡ drop (length part) text
  pub same : is_glob_match pattern text ≡ is_glob_match rest behind

-- what came of the comparison; a text that is too short for the part has no end that matches the pattern
abbrev pub MatchesFront : List ℕ → List ℕ → Front → Type 0
MatchesFront pattern text (Star rest behind) = FitsUpTo pattern text (ANY_TEXT ∷ rest.now) behind.now
MatchesFront pattern text Whole = is_glob_match pattern text ≡ true
MatchesFront pattern text Short = is_glob_match (ANY_TEXT ∷ pattern) text ≡ false
MatchesFront pattern text Fails = is_glob_match pattern text ≡ false
