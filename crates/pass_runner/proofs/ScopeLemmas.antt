-- What a pass asks and drops by its marks, it asks and drops by the scope that they were made of.
use Rattle.std.proofs.Common.{◌≡◌, ℕ, Bool, false, List, Some, None, sym, ◌∙◌, ap}
use Rattle.std.specs.List.{All}
use Rattle.std.proofs.lemmas.Bool.{false_from_ne_true}
use Rattle.std.proofs.lemmas.List.Elements.{All-weaker}
use Rattle.row_types.specs.Name.{NameFacts, stamp_at}
use Rattle.row_types.specs.Row.{RowFacts}
use Rattle.row_types.specs.Stamp.{StampFacts}
use Rattle.path_scope.specs.Scope.{Scope, is_in_scope, scope_of}
use Rattle.index_rows.specs.Rows.{row_names}
use Rattle.scan_queue.specs.Names.{IsByPath, is_in, is_path_in}
use Rattle.index_state.specs.Marks.{marked_in}
use Rattle.index_state.proofs.MarkLaws.{marked_in_scope, unlisted_marked}
use Rattle.tree_trait.specs.Heard.{Heard, load, stat, read_dir, open_file, read_at}
use Rattle.pass_runner.specs.Settled.{AreReadingsAndLooks, none_heard, one_file, one_look, MayBeAsked, MovesRows}
use Rattle.pass_runner.proofs.NameLists.{stamp_listed}

some_none : {stamp : StampFacts} → Some stamp ≡ None → ⊥
some_none e = absurd (cc)

-- a path without a stamp in the listing isn't that of a listed name
unlisted : (listing : List NameFacts) (name : NameFacts) → IsByPath listing → stamp_at listing name.path ≡ None
    → is_in listing name ≡ false
unlisted listing name by_path none =
    false_from_ne_true (is_in listing name) (λ there. some_none (sym (stamp_listed name listing by_path there) ∙ none))

module _ (scope : Scope) (listing : List NameFacts) where
  module _ (names : List NameFacts) where
    -- what may be asked
    asked_one : (asked : Heard) → MayBeAsked listing (is_path_in (marked_in scope listing names)) names asked
        → MayBeAsked listing (is_in_scope scope) names asked
    asked_one (load path limit answer) h = h
    asked_one (stat path answer) h = marked_in_scope scope listing names path h
    asked_one (read_dir path answer) h = h
    asked_one (open_file path limit answer) h = h
    asked_one (read_at name at answer) h = h

    pub asked_in : (answers : List Heard) → All (MayBeAsked listing (is_path_in (marked_in scope listing names)) names) answers
        → All (MayBeAsked listing (is_in_scope scope) names) answers
    asked_in answers asked =
        All-weaker (MayBeAsked listing (is_path_in (marked_in scope listing names)) names)
        (MayBeAsked listing (is_in_scope scope) names) asked_one answers asked

    -- what was read and looked at
    pub readings_in : {answers : List Heard} → AreReadingsAndLooks (is_path_in (marked_in scope listing names)) answers
        → AreReadingsAndLooks (is_in_scope scope) answers
    readings_in none_heard = none_heard
    readings_in (one_look path answer more all marked is rest) =
        one_look path answer more all (marked_in_scope scope listing names path marked) is (readings_in rest)
    readings_in (one_file name answer reads more all is own parts rest) =
        one_file name answer reads more all is own parts (readings_in rest)

  -- the rows that went
  pub moves_in : {answers : List Heard} {old new : List RowFacts} → IsByPath listing
      → MovesRows listing (is_path_in (marked_in scope listing (row_names old))) answers old new
      → MovesRows listing (is_in_scope scope) answers old new
  moves_in {answers} {old} {new} by_path moves = record {
    stays = moves.stays;
    goes = λ name there gone none inside.
        moves.goes name there gone none
        (unlisted_marked scope listing (row_names old) name there (unlisted listing name by_path none) inside);
    comes = moves.comes;
    brings = moves.brings;
  }

-- the same roots and the same selection make the same scope
pub same_scope : {roots again : List (List ℕ)} {takes later : List ℕ → Bool} → again ≡ roots → later ≡ takes
    → scope_of again later ≡ scope_of roots takes
same_scope {roots} {again} {takes} {later} same_roots same_takes =
    ap (λ (rs : List (List ℕ)). scope_of rs later) same_roots ∙ ap (λ (t : List ℕ → Bool). scope_of roots t) same_takes
