-- Names of listings and of rows, before and after a row is put or goes.
use Rattle.std.proofs.Common.{◌≡◌, ℕ, ◌&&◌, true, false, not, cond, List, [], ◌∷◌, Option, Some, None, refl, sym, ◌∙◌, ap}
use Rattle.std.specs.List.{filter, find}
use Rattle.std.specs.Option.{option_map}
use Rattle.std.specs.Str.{bytes_eq}
use Rattle.std.proofs.lemmas.Bool.{and_from, and_parts, false_from_ne_true, or_left, or_right, true≢false, not_from_false}
use Rattle.std.proofs.lemmas.Slice.Eq.{bytes_eq-Decides}
use Rattle.row_types.specs.Ascends.{AscendsBy}
use Rattle.row_types.specs.Name.{NameFacts, same_name, stamp_at}
use Rattle.row_types.specs.Row.{RowFacts}
use Rattle.row_types.specs.Stamp.{StampFacts}
use Rattle.row_types.proofs.PartLemmas.{names_same}
use Rattle.index_rows.specs.ByPath.{put_at}
use Rattle.index_rows.specs.Rows.{row_names, row_path, with_row, without_row}
use Rattle.index_rows.proofs.Lists.{map_filter}
use Rattle.index_rows.proofs.RowLemmas.{path_in}
use Rattle.scan_queue.specs.Names.{IsByPath, is_in}
use Rattle.scan_queue.proofs.NameTests.{same_name-Decides, same_stamp-Decides}
use Rattle.index_state.specs.Plan.{has_stamp}
use Rattle.index_state.proofs.ByName.{has_stamp_is_in, names_by_path, one_of_path}
use Rattle.index_state.proofs.Members.{in_filter, in_put_other, in_put_stale}
use Rattle.index_state.proofs.PassSteps.{names_with}

one_stamp : (o : Option StampFacts) (s : StampFacts) → has_stamp o s ≡ true → o ≡ Some s
one_stamp None s e = absurd (true≢false (sym e))
one_stamp (Some x) s e = ap Some (sym ((same_stamp-Decides s x).0 e))

-- a name of a list by path has its stamp there
pub stamp_listed : (name : NameFacts) (names : List NameFacts) → IsByPath names → is_in names name ≡ true
    → stamp_at names name.path ≡ Some name.stamp
stamp_listed name names by_path there =
    one_stamp (stamp_at names name.path) name.stamp (has_stamp_is_in name names by_path ∙ there)

some_stamp : (s t : StampFacts) → Some s ≡ Some t → s ≡ t
some_stamp s t e = cc

-- a path with a stamp is in the list by that
pub in_by_stamp : (path : List ℕ) (s : StampFacts) (names : List NameFacts) → stamp_at names path ≡ Some s
    → is_in names (record { path = path; stamp = s }) ≡ true
in_by_stamp path s [] e = absurd (cc)
in_by_stamp path s (n ∷ names) e =
    elim (bytes_eq n.path path) as (λ b. bytes_eq n.path path ≡ b
    → option_map (λ (m : NameFacts). m.stamp) (cond b (Some n) (find (λ (m : NameFacts). bytes_eq m.path path) names)) ≡ Some s
    → is_in (n ∷ names) (record { path = path; stamp = s }) ≡ true) [
      | true ↦ λ same here.
          or_left _ _
          ((same_name-Decides (record { path = path; stamp = s }) n).1
          (names_same path n.path s n.stamp (sym ((bytes_eq-Decides n.path path).0 same)) (sym (some_stamp n.stamp s here))))
      | false ↦ λ differs later. or_right _ _ (in_by_stamp path s names later)
    ] refl e

-- two names of a list by path with one path are one
pub one_name : (a b : NameFacts) (names : List NameFacts) → IsByPath names → is_in names a ≡ true
    → is_in names b ≡ true → bytes_eq a.path b.path ≡ true → a ≡ b
one_name a b names by_path p q path = (same_name-Decides a b).0 (one_of_path a b names by_path p q path)

-- a listed row stays where the row of another listed name is put
pub put_stays : (row : RowFacts) (listing : List NameFacts) (rows : List RowFacts) → IsByPath listing
    → is_in listing row.name ≡ true → is_in (row_names rows) row.name ≡ false → (name : NameFacts)
    → is_in listing name ≡ true → is_in (row_names rows) name ≡ true
    → is_in (row_names (with_row row rows)) name ≡ true
put_stays row listing rows by_path listed absent name also there =
    ap (λ (l : List NameFacts). is_in l name) (names_with row rows)
    ∙ elim (bytes_eq name.path row.name.path) as (λ b. bytes_eq name.path row.name.path ≡ b
    → is_in (put_at path_in row.name (row_names rows)) name ≡ true) [
      | true ↦ λ e.
          absurd (true≢false (sym there
          ∙ ap (is_in (row_names rows)) (one_name name row.name listing by_path also listed e) ∙ absent))
      | false ↦ λ e. in_put_other row.name name (row_names rows) e ∙ there
    ] refl

-- and where one goes, its path is listed
pub put_goes : (row : RowFacts) (listing : List NameFacts) (rows : List RowFacts) → IsByPath listing
    → is_in listing row.name ≡ true → (name : NameFacts) → is_in (row_names rows) name ≡ true
    → is_in (row_names (with_row row rows)) name ≡ false → stamp_at listing name.path ≡ None → ⊥
put_goes row listing rows by_path listed name there gone none =
    elim (bytes_eq name.path row.name.path) as (λ b. bytes_eq name.path row.name.path ≡ b → ⊥) [
      | true ↦ λ e.
          let at : stamp_at listing name.path ≡ Some row.name.stamp
          = ap (stamp_at listing) ((bytes_eq-Decides name.path row.name.path).0 e)
          ∙ stamp_listed row.name listing by_path listed in
          absurd (cc)
      | false ↦ λ e.
          true≢false (sym (in_put_other row.name name (row_names rows) e ∙ there)
          ∙ sym (ap (λ (l : List NameFacts). is_in l name) (names_with row rows)) ∙ gone)
    ] refl

-- and the one that comes is that of the row
pub put_comes : (row : RowFacts) (listing : List NameFacts) (rows : List RowFacts) → is_in listing row.name ≡ true
    → (name : NameFacts) → is_in (row_names (with_row row rows)) name ≡ true → is_in (row_names rows) name ≡ false
    → is_in listing name ≡ true
put_comes row listing rows listed name stands fresh =
    let put : is_in (put_at path_in row.name (row_names rows)) name ≡ true
    = sym (ap (λ (l : List NameFacts). is_in l name) (names_with row rows)) ∙ stands in
    elim (same_name name row.name) as (λ b. same_name name row.name ≡ b → is_in listing name ≡ true) [
      | true ↦ λ one. ap (is_in listing) ((same_name-Decides name row.name).0 one) ∙ listed
      | false ↦ λ differs.
          elim (bytes_eq name.path row.name.path) as (λ b. bytes_eq name.path row.name.path ≡ b → is_in listing name ≡ true) [
            | true ↦ λ e.
                absurd (true≢false (sym put
                ∙ in_put_stale row.name name (row_names rows) ((bytes_eq-Decides name.path row.name.path).0 e) differs))
            | false ↦ λ e. absurd (true≢false (sym put ∙ in_put_other row.name name (row_names rows) e ∙ fresh))
          ] refl
    ] refl

names_without : (path : List ℕ) (rows : List RowFacts)
    → row_names (without_row path rows) ≡ filter (λ (n : NameFacts). not (bytes_eq n.path path)) (row_names rows)
names_without path rows = map_filter (λ (r : RowFacts). r.name) (λ (n : NameFacts). not (bytes_eq n.path path)) rows

-- what is there of the rows without a path's
in_left : (path : List ℕ) (rows : List RowFacts) (name : NameFacts)
    → is_in (row_names (without_row path rows)) name ≡ (is_in (row_names rows) name && not (bytes_eq name.path path))
in_left path rows name =
    ap (λ (l : List NameFacts). is_in l name) (names_without path rows)
    ∙ in_filter (λ (n : NameFacts). not (bytes_eq n.path path)) name (row_names rows)

-- a row stays where that of another name goes
pub drop_stays : (gone : NameFacts) (rows : List RowFacts) → AscendsBy row_path rows
    → is_in (row_names rows) gone ≡ true → (name : NameFacts) → (name ≡ gone → ⊥)
    → is_in (row_names rows) name ≡ true → is_in (row_names (without_row gone.path rows)) name ≡ true
drop_stays gone rows ascends stood name differs there =
    in_left gone.path rows name
    ∙ and_from (is_in (row_names rows) name) (not (bytes_eq name.path gone.path)) there
    (not_from_false (bytes_eq name.path gone.path)
    (false_from_ne_true (bytes_eq name.path gone.path)
    (λ e. differs (one_name name gone (row_names rows) (names_by_path rows ascends) there stood e))))

-- none comes
pub drop_comes : (gone : NameFacts) (rows : List RowFacts) (name : NameFacts)
    → is_in (row_names (without_row gone.path rows)) name ≡ true → is_in (row_names rows) name ≡ true
drop_comes gone rows name there =
    (and_parts (is_in (row_names rows) name) (not (bytes_eq name.path gone.path)) (sym (in_left gone.path rows name) ∙ there)).0

-- and the one that goes is that of the name
pub drop_goes : (gone : NameFacts) (rows : List RowFacts) → AscendsBy row_path rows
    → is_in (row_names rows) gone ≡ true → (name : NameFacts) → is_in (row_names rows) name ≡ true
    → is_in (row_names (without_row gone.path rows)) name ≡ false → name ≡ gone
drop_goes gone rows ascends stood name there went =
    elim (bytes_eq name.path gone.path) as (λ b. bytes_eq name.path gone.path ≡ b → name ≡ gone) [
      | true ↦ λ e. one_name name gone (row_names rows) (names_by_path rows ascends) there stood e
      | false ↦ λ e.
          absurd (true≢false (sym (and_from (is_in (row_names rows) name) (not (bytes_eq name.path gone.path)) there
          (not_from_false (bytes_eq name.path gone.path) e)) ∙ sym (in_left gone.path rows name) ∙ went))
    ] refl
