-- What an opening answers, by what a load of the same file would.
use Rattle.std.proofs.Common.{◌≡◌, ℕ, Bool, List, ap}
use Rattle.row_types.specs.Name.{NameFacts}
use Rattle.tree_trait.specs.Found.{FoundFacts, Versions, found_name}
use Rattle.tree_trait.specs.Heard.{load, open_file}
use Rattle.tree_trait.specs.Load.{LoadFacts, loaded, too_large, gone, failed, no_memory}
use Rattle.tree_trait.specs.MemTree.{IsStageAnswer}
use Rattle.tree_trait.specs.Open.{OpenFacts, was_opened, was_too_large, open_gone, open_failed, open_no_memory}

-- the same answer to an opening
abbrev pub load_as_opening : LoadFacts → OpenFacts
load_as_opening (loaded found) = was_opened found.stamp
load_as_opening (too_large stamp) = was_too_large stamp
load_as_opening gone = open_gone
load_as_opening failed = open_failed
load_as_opening no_memory = open_no_memory

module _ {version : Versions} {bad : Bool} {present : List NameFacts} {path : List ℕ} {limit : ℕ} where
  -- it is one of the same files
  pub opens_as_loads : (answer : LoadFacts) → IsStageAnswer version bad present (load path limit answer)
      → IsStageAnswer version bad present (open_file path limit (load_as_opening answer))
  opens_as_loads (loaded found) h = record {
    fits = record { fits = h.fits.fits; bytes = found.bytes; known = h.fits.known };
    tells = h.tells;
    fails = h.fails;
  }
  opens_as_loads (too_large stamp) h = record { fits = h.fits; tells = h.tells; fails = h.fails }
  opens_as_loads gone h = record { fits = tt; tells = h.tells; fails = h.fails }
  opens_as_loads failed h = record { fits = tt; tells = tt; fails = h.fails }
  opens_as_loads no_memory h = record { fits = tt; tells = tt; fails = h.fails }

  -- a file that was found has the path that was asked
  pub found_as_asked : (found : FoundFacts) → IsStageAnswer version bad present (load path limit (loaded found))
      → found_name found ≡ record { path = path; stamp = found.stamp }
  found_as_asked found h = ap {B = NameFacts} (λ (p : List ℕ). record { path = p; stamp = found.stamp }) h.fits.asked
