-- The text that a path spells, and why there is none (RFC 3986, section 2.1; that it holds no zero is this project's rule).
use Rattle.std.specs.Prelude.{◌≡◌, ℕ, List}
use Rattle.percent_encoding.specs.Percent.{percent_decode}
use Rattle.webapi_routes.specs.Path.{SpellsText}
use Rattle.webapi_routes.specs.declared.fault.SpellFault.{SpellFault}
use Rattle.webapi_routes.specs.declared.fault.SpellFault.TheVariants.{BadEscape, OutOfMemory}

-- a path spells a text, and this is it
pub record IsSpelled (path text : List ℕ) : Type 0 where
  pub spells : SpellsText path
  pub value : text ≡ percent_decode path

-- a path spells no text, or memory was refused
abbrev pub SpellsNone : List ℕ → SpellFault → Type 0
SpellsNone path BadEscape = ¬ (SpellsText path)
SpellsNone path OutOfMemory = Unit {0}
