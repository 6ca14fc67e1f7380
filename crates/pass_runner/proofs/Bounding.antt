-- The log of a pass and what is open of it, in each step.
use Rattle.std.proofs.Common.{◌≡◌, Bool, true, false, List, [], ◌∷◌, ◌++◌, length, ap, arith}
use Rattle.std.proofs.lemmas.List.{length_push}
use Rattle.row_types.specs.Name.{NameFacts}
use Rattle.row_types.specs.Row.{RowFacts}
use Rattle.index_rows.specs.Rows.{row_names}
use Rattle.index_rows.specs.declared.change.Change.{Change}
use Rattle.index_state.specs.Bound.{StaysBounded, still_open, voids}
use Rattle.index_state.specs.State.{StateFacts}

module _ {K : Type 0} (old new : StateFacts K) (listing : List NameFacts) where
  -- log and rows stay, and whether the index is broken
  pub bounded_same : new.log ≡ old.log → new.rows ≡ old.rows → new.broken ≡ old.broken → StaysBounded listing old new
  bounded_same log rows broken =
      let long : length new.log ≡ length old.log = ap (λ (l : List Change). length l) log in
      let left : still_open listing (row_names new.rows) ≡ still_open listing (row_names old.rows) =
      ap (λ (r : List RowFacts). still_open listing (row_names r)) rows in
      let void : voids new.broken ≡ voids old.broken = ap (λ (b : Bool). voids b) broken in
      omega (arith, long, left, void)

  -- a void change was listed, and the index is broken
  pub bounded_void : (void : Change) → old.broken ≡ false → new.log ≡ old.log ++ void ∷ [] → new.rows ≡ old.rows → new.broken ≡ true
      → StaysBounded listing old new
  bounded_void void sound log rows broken =
      let long : length new.log ≡ length (old.log ++ void ∷ []) = ap (λ (l : List Change). length l) log in
      let left : still_open listing (row_names new.rows) ≡ still_open listing (row_names old.rows) =
      ap (λ (r : List RowFacts). still_open listing (row_names r)) rows in
      let was : voids old.broken ≡ 0 = ap (λ (b : Bool). voids b) sound in
      let is : voids new.broken ≡ 1 = ap (λ (b : Bool). voids b) broken in
      omega (arith, long, left, was, is, length_push old.log void)
