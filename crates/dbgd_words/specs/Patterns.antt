-- By which patterns files are selected (this project's rule): a line has their texts, in which nothing is read here.
use Rattle.std.specs.Prelude.{ℕ, List, Option, codes, option_copied}
use Rattle.clap.specs.Walk.{Row, first_of}
use Rattle.dbgd_words.specs.declared.patterns.Patterns.{Patterns}

-- the texts of a pattern to be included and of one to be excluded, each of which may be absent
pub record PatternTexts : Type 0 where
  pub include : Option (List ℕ)
  pub exclude : Option (List ℕ)

-- the texts of these patterns
abbrev pub pattern_texts : Patterns → PatternTexts
pattern_texts patterns = record { include = option_copied patterns.include; exclude = option_copied patterns.exclude }

-- the texts that the arguments of a line give
abbrev pub patterns_in : List Row → PatternTexts
patterns_in rows = record { include = first_of (codes "include") rows; exclude = first_of (codes "exclude") rows }
