-- What puts, drops and void changes make of the rows' names and of the log.
use Rattle.std.proofs.Common.{◌≡◌, ℕ, ◌<◌, ◌&&◌, Bool, true, false, not, List, [], ◌∷◌, ◌++◌, length, get_or, Option, Some, None, refl, sym, ◌∙◌, ap, subst, nat_eq}
use Rattle.std.specs.Prelude.{IsSomeAnd}
use Rattle.std.specs.Bool.{Decides}
use Rattle.std.specs.List.{All, filter}
use Rattle.std.specs.Ordering.{int_eq}
use Rattle.std.specs.Str.{bytes_eq}
use Rattle.std.proofs.lemmas.Bool.Decides.{Decides-eqb, Decides-int_eq, Decides-and}
use Rattle.std.proofs.lemmas.Slice.Eq.{bytes_eq-Decides}
use Rattle.std.proofs.lemmas.List.{get_or_default}
use Rattle.std.proofs.lemmas.List.Elements.{All-map}
use Rattle.std.proofs.lemmas.List.Sums.{fold_push}
use Rattle.row_types.specs.Name.{NameFacts, same_name}
use Rattle.row_types.specs.Row.{RowFacts}
use Rattle.row_types.specs.Stamp.{StampFacts, same_stamp}
use Rattle.row_types.proofs.PartLemmas.{names_same, stamps_same}
use Rattle.row_types.specs.Ascends.{AscendsBy}
use Rattle.index_rows.specs.ByPath.{put_at, find_at}
use Rattle.index_rows.specs.Log.{put_of, drop_of, after_change, replay}
use Rattle.index_rows.specs.Rows.{row_path, row_names, row_at, with_row, without_row, Stands}
use Rattle.index_rows.specs.declared.change.Change.{Change}
use Rattle.index_rows.proofs.Lists.{filter_all, filter_same, map_filter}
use Rattle.index_rows.proofs.PathLemmas.{map_put, put_again, stands_here, found_standing}

-- a name's path
abbrev pub path_in : NameFacts → List ℕ
path_in name = name.path

-- whether a name is another than this
abbrev pub is_other : NameFacts → NameFacts → Bool
is_other name other = not (same_name other name)

-- the test of stamps
stamp_decides : (a b : StampFacts) → Decides (same_stamp a b) ((a.size ≡ b.size) × (a.secs ≡ b.secs) × (a.nanos ≡ b.nanos))
stamp_decides a b =
    let parts = Decides-and (nat_eq a.size b.size && int_eq a.secs b.secs) (nat_eq a.nanos b.nanos)
    (Decides-and (nat_eq a.size b.size) (int_eq a.secs b.secs) (Decides-eqb a.size b.size) (Decides-int_eq a.secs b.secs)) (Decides-eqb a.nanos b.nanos) in
    (λ e. let h = parts.0 e in (h.0.0, h.0.1, h.1), λ h. parts.1 ((h.0, h.1), h.2))

-- a stamp passes the test with itself
same_itself : (a b : StampFacts) → a ≡ b → same_stamp a b ≡ true
same_itself a b e = (stamp_decides a b).1 (ap (λ (s : StampFacts). s.size) e, ap (λ (s : StampFacts). s.secs) e, ap (λ (s : StampFacts). s.nanos) e)

-- names that pass the test are the same
pub same_by_test : (a b : NameFacts) → same_name a b ≡ true → a ≡ b
same_by_test a b e =
    let parts = (Decides-and (bytes_eq a.path b.path) (same_stamp a.stamp b.stamp) (bytes_eq-Decides a.path b.path) (stamp_decides a.stamp b.stamp)).0 e in
    names_same a.path b.path a.stamp b.stamp parts.0 (stamps_same a.stamp.size b.stamp.size a.stamp.secs b.stamp.secs a.stamp.nanos b.stamp.nanos parts.1.0 parts.1.1 parts.1.2)

-- one more change
pub replay_more : (log : List Change) (change : Change) → replay (log ++ change ∷ []) ≡ after_change (replay log) change
replay_more log change = fold_push after_change [] log change

-- a put of a row is replayed by the put of its name
pub put_replays : (rows : List RowFacts) (log : List Change) (row : RowFacts) → row_names rows ≡ replay log → row_names (with_row row rows) ≡ replay (log ++ put_of row.name ∷ [])
put_replays rows log row same =
    map_put (λ (r : RowFacts). r.name) path_in row rows
    ∙ ap (put_at path_in row.name) same
    ∙ sym (replay_more log (put_of row.name))

-- by a path of which a row of the name stands, the rows of the path are those of the name
tests_agree : (rows : List RowFacts) (name : NameFacts) → AscendsBy row_path rows → Stands name rows → All (λ row. not (bytes_eq row.name.path name.path) ≡ is_other name row.name) rows
tests_agree rows name ascends stands = λ k d within.
    ap not (elim (bytes_eq (row_path (get_or rows k d)) name.path) as (λ b. bytes_eq (row_path (get_or rows k d)) name.path ≡ b → b ≡ (b && same_stamp (get_or rows k d).name.stamp name.stamp))
    [ true ↦ λ e. sym (same_itself (get_or rows k d).name.stamp name.stamp (ap (λ (n : NameFacts). n.stamp) (here k d within e))) | false ↦ λ e. refl ] refl)
  where
    here : (k : ℕ) (d : RowFacts) → k < length rows → bytes_eq (row_path (get_or rows k d)) name.path ≡ true → (get_or rows k d).name ≡ name
    here k d within e =
        let path_is : row_path (get_or rows k d) ≡ name.path = (bytes_eq-Decides (row_path (get_or rows k d)) name.path).0 e in
        let found : row_at name.path rows ≡ Some (get_or rows k d) =
        found_standing row_path name.path rows k d (stands_here row_path name.path rows k ascends within (λ z. ap row_path (get_or_default rows k z d within) ∙ path_is)) in
        let P : Option RowFacts → Type 0 = λ r. IsSomeAnd r (λ row. row.name ≡ name) in
        subst P found stands

-- a drop of a row is replayed by the drop of its name
pub drop_replays : (rows : List RowFacts) (log : List Change) (name : NameFacts) → AscendsBy row_path rows → Stands name rows → row_names rows ≡ replay log → row_names (without_row name.path rows) ≡ replay (log ++ drop_of name ∷ [])
drop_replays rows log name ascends stands same =
    ap row_names (filter_same (λ row. not (bytes_eq row.name.path name.path)) (λ row. is_other name row.name) rows (tests_agree rows name ascends stands))
    ∙ map_filter (λ (r : RowFacts). r.name) (is_other name) rows
    ∙ ap (filter (is_other name)) same
    ∙ sym (replay_more log (drop_of name))

-- a row's name stands
stands_at : (rows : List RowFacts) (name : NameFacts) (k : ℕ) (d : RowFacts) → AscendsBy row_path rows → k < length rows → (get_or rows k d).name ≡ name → Stands name rows
stands_at rows name k d ascends within e =
    let path_is : row_path (get_or rows k d) ≡ name.path = ap path_in e in
    let found : row_at name.path rows ≡ Some (get_or rows k d) =
    found_standing row_path name.path rows k d (stands_here row_path name.path rows k ascends within (λ z. ap row_path (get_or_default rows k z d within) ∙ path_is)) in
    let P : Option RowFacts → Type 0 = λ r. IsSomeAnd r (λ row. row.name ≡ name) in
    subst P (sym found) e

-- a drop of a name that no row has changes nothing
pub void_drop : (rows : List RowFacts) (log : List Change) (name : NameFacts) → AscendsBy row_path rows → (Stands name rows → ⊥) → row_names rows ≡ replay log → replay (log ++ drop_of name ∷ []) ≡ replay log
void_drop rows log name ascends absent same =
    replay_more log (drop_of name)
    ∙ ap (filter (is_other name)) (sym same)
    ∙ filter_all (is_other name) (row_names rows) (All-map (λ n. is_other name n ≡ true) (λ (r : RowFacts). r.name) rows others)
    ∙ same
  where
    other_than : (n : NameFacts) → (n ≡ name → ⊥) → is_other name n ≡ true
    other_than n differs = elim (same_name n name) as (λ b. same_name n name ≡ b → not b ≡ true) [ true ↦ λ e. absurd (differs (same_by_test n name e)) | false ↦ λ e. refl ] refl

    others : All (λ row. is_other name row.name ≡ true) rows
    others = λ k d within. other_than (get_or rows k d).name (λ e. absent (stands_at rows name k d ascends within e))

-- a put of a name that a row has changes nothing
pub void_put : (rows : List RowFacts) (log : List Change) (name : NameFacts) → AscendsBy row_path rows → Stands name rows → row_names rows ≡ replay log → replay (log ++ put_of name ∷ []) ≡ replay log
void_put rows log name ascends stands same =
    replay_more log (put_of name)
    ∙ ap (put_at path_in name) (sym same)
    ∙ again (row_at name.path rows) refl stands
    ∙ same
  where
    again : (r : Option RowFacts) → row_at name.path rows ≡ r → IsSomeAnd r (λ row. row.name ≡ name) → put_at path_in name (row_names rows) ≡ row_names rows
    again None e h = absurd h
    again (Some row) e h =
        let found : find_at row_path (row_path row) rows ≡ Some row = subst (λ (p : List ℕ). find_at row_path p rows ≡ Some row) (sym (ap path_in h)) e in
        ap (λ (n : NameFacts). put_at path_in n (row_names rows)) (sym h)
        ∙ sym (map_put (λ (r : RowFacts). r.name) path_in row rows)
        ∙ ap row_names (put_again row_path rows row ascends found)
