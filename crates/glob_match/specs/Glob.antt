-- Glob patterns (this project's rule): `*` stands for any text, `?` for any one character, and every other character for itself.
use Rattle.std.specs.Prelude.{ℕ, ◌==◌, ◌||◌, ◌&&◌, Bool, true, false, List, [], ◌∷◌, if◌then◌else◌}
use Rattle.glob_match.specs.declared.matching.TheConstants.{ANY_CHARACTER, ANY_TEXT}

-- whether a text is empty
abbrev pub is_empty_text : List ℕ → Bool
is_empty_text [] = true
is_empty_text (c ∷ text) = false

-- whether some end of a text passes; the text itself and the empty one are ends of it
abbrev pub some_end : (List ℕ → Bool) → List ℕ → Bool
some_end passes [] = passes []
some_end passes (c ∷ text) = passes (c ∷ text) || some_end passes text

-- whether a text has a first character that passes, and what stands behind it passes
abbrev pub first_and_rest : (ℕ → Bool) → (List ℕ → Bool) → List ℕ → Bool
first_and_rest is_first passes [] = false
first_and_rest is_first passes (c ∷ text) = is_first c && passes text

-- whether a character of a pattern that is no star stands for this one: `?` for any, and every other one for itself
abbrev pub stands_for : ℕ → ℕ → Bool
stands_for wanted c = (wanted == ANY_CHARACTER) || (wanted == c)

-- whether a whole text matches a pattern: the empty pattern matches the empty text; a star and a rest match a text of which
-- the rest matches some end; another character and a rest match a character that it stands for, and behind it a text that
-- the rest matches
unfoldable pub is_glob_match : List ℕ → List ℕ → Bool
is_glob_match [] = is_empty_text
is_glob_match (wanted ∷ rest) =
    if wanted == ANY_TEXT then some_end (is_glob_match rest) else first_and_rest (stands_for wanted) (is_glob_match rest)
