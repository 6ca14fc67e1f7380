-- What a change leaves is true.
use Rattle.std.proofs.Common.{◌≡◌, ℕ, Bool, true, false, cond, List, sym, ap, subst}
use Rattle.std.specs.Prelude.{All, IfSome}
use Rattle.row_types.specs.Row.{RowFacts}
use Rattle.row_codec.proofs.OneSpelling.{one_row}
use Rattle.index_keeper.specs.Plan.{is_made_next}
use Rattle.index_keeper.specs.Shelf.{ShelfFacts, after_tearing}
use Rattle.index_keeper.specs.Tables.{KeptFacts, EditFacts, edited, put_bytes}
use Rattle.index_keeper.specs.TrueRows.{IsTrueKept, IsTrueValue, SpellsTrueRow}
use Rattle.index_keeper.proofs.CutLemmas.{edited_all}

-- the bytes of a true row spell no other row
pub true_value : (true_row : RowFacts → Type 0) (path bytes : List ℕ) → SpellsTrueRow true_row path bytes → IsTrueValue true_row bytes
true_value true_row path bytes spells = record {
  holds = λ row spelled edition. subst true_row (one_row spells.row row bytes spells.spelled spelled) spells.holds;
}

-- the same, of the change that keeps them
pub true_put : (true_row : RowFacts → Type 0) (path bytes : List ℕ) (edit : EditFacts) → SpellsTrueRow true_row path bytes → edit ≡ put_bytes path bytes → IfSome edit.bytes (IsTrueValue true_row)
true_put true_row path bytes edit spells e =
    subst (λ (change : EditFacts). IfSome change.bytes (IsTrueValue true_row)) (sym e) (true_value true_row path bytes spells)

-- what a change that is made leaves is true
pub true_made : (true_row : RowFacts → Type 0) (rows new : List KeptFacts) (edit : EditFacts) → All (IsTrueKept true_row) rows → IfSome edit.bytes (IsTrueValue true_row) → new ≡ edited rows edit → All (IsTrueKept true_row) new
true_made true_row rows new edit h own e =
    subst (All (IsTrueKept true_row)) (sym e) (edited_all (IsTrueValue true_row) rows edit h own)

one_of : (P : KeptFacts → Type 0) (b : Bool) (xs ys : List KeptFacts) → All P xs → All P ys → All P (cond b xs ys)
one_of P true xs ys p q = p
one_of P false xs ys p q = q

-- what a change that failed leaves is true
pub true_torn : (true_row : RowFacts → Type 0) (old new : ShelfFacts) (edit : EditFacts) → All (IsTrueKept true_row) old.tables → IfSome edit.bytes (IsTrueValue true_row) → new ≡ after_tearing old edit → All (IsTrueKept true_row) new.tables
true_torn true_row old new edit h own e =
    subst (All (IsTrueKept true_row)) (sym (ap (λ (s : ShelfFacts). s.tables) e))
    (one_of (IsTrueKept true_row) (is_made_next old.plan) (edited old.tables edit) old.tables (edited_all (IsTrueValue true_row) old.tables edit h own) h)
