-- A row behind the last one keeps rows by path.
use Rattle.std.proofs.Common.{◌≡◌, ℕ, ◌-◌, true, List, [], ◌∷◌, ◌++◌, length, slice_get, slice_index_or, Option, Some, arith, below_more}
use Rattle.std.specs.Option.{option_map_or}
use Rattle.std.proofs.lemmas.Cmp.{nat_list_cmp_total}
use Rattle.std.proofs.lemmas.List.Quantifiers.{all_pairs_push}
use Rattle.std.proofs.lemmas.Option.{slice_get-get_or}
use Rattle.row_types.specs.Ascends.{IsBefore, is_before}
use Rattle.row_types.proofs.AscendsLemmas.{before_from_test}
use Rattle.index_keeper.specs.Tables.{KeptFacts, AscendsByPath}
use Rattle.sqlite_keeper.specs.Ascend.{stands_last}

-- the last row's path stands before the one that passes the test
before_last : (path : List ℕ) (last : Option KeptFacts) (row : KeptFacts) → last ≡ Some row → option_map_or (λ k. is_before k.path path) last true ≡ true → IsBefore row.path path
before_last path last row e above = before_from_test row.path path (rw e at above)

-- the rows and one more, which stands behind the last
pub push_ascends : (rows : List KeptFacts) (row : KeptFacts) → AscendsByPath rows → stands_last row.path rows ≡ true → AscendsByPath (rows ++ row ∷ [])
push_ascends rows row ascends above =
    all_pairs_push (λ x y. IsBefore x.path y.path) rows row ascends (λ k d within.
    let n = length rows - 1 in
    let last : IsBefore (slice_index_or rows n d).path row.path =
    before_last row.path (slice_get rows n) (slice_index_or rows n d) (slice_get-get_or rows n d (omega arith)) above in
    below_more (λ j. IsBefore (slice_index_or rows j d).path row.path) n
    (λ j low. nat_list_cmp_total.trans (slice_index_or rows j d).path (slice_index_or rows n d).path row.path (ascends j n d low (omega arith)) last) last k (omega arith))
