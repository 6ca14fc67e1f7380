-- How many rows an index has: no more than changes.
use Rattle.std.proofs.Common.{◌≡◌, ◌+◌, ◌≤◌, true, false, not, cond, List, [], ◌∷◌, length, refl, ap, arith, length-append}
use Rattle.std.specs.List.{filter, fold}
use Rattle.std.specs.Prelude.{Bool, if◌then◌else◌}
use Rattle.std.proofs.lemmas.List.{length-map}
use Rattle.row_types.specs.Ascends.{is_before}
use Rattle.row_types.specs.Name.{NameFacts, same_name}
use Rattle.row_types.specs.Row.{RowFacts}
use Rattle.row_types.proofs.AscendsLemmas.{before_from_test}
use Rattle.index_rows.specs.ByPath.{put_at}
use Rattle.index_rows.specs.Log.{after_change}
use Rattle.index_rows.specs.Rows.{IsIndex, RowsFacts}
use Rattle.index_rows.specs.declared.change.Change.{Change}
use Rattle.index_rows.proofs.PathLemmas.{fails_after}

-- two tests that never pass together keep no more than there is
kept_apart : {X : Type 0} (p q : X → Bool) → ((x : X) → p x ≡ true → q x ≡ false) → (xs : List X) → length (filter p xs) + length (filter q xs) ≤ length xs
kept_apart p q apart [] = omega arith
kept_apart {X} p q apart (x ∷ xs) =
    let rest : length (filter p xs) + length (filter q xs) ≤ length xs = kept_apart p q apart xs in
    (elim (p x) as (λ b. p x ≡ b → length (cond b (x ∷ filter p xs) (filter p xs)) + length (cond (q x) (x ∷ filter q xs) (filter q xs)) ≤ length (x ∷ xs))
    [ true ↦ λ e. rw (apart x e) (omega (arith, rest)) | false ↦ λ e. either rest (q x) ]) refl
  where
    either : length (filter p xs) + length (filter q xs) ≤ length xs → (b : Bool) → length (filter p xs) + length (cond b (x ∷ filter q xs) (filter q xs)) ≤ length (x ∷ xs)
    either rest true = omega (arith, rest)
    either rest false = omega (arith, rest)

-- a filter keeps no more than there is
kept_few : {X : Type 0} (p : X → Bool) (xs : List X) → length (filter p xs) ≤ length xs
kept_few p xs = omega (arith, kept_apart p (λ x. not (p x)) (λ x e. ap not e) xs)

-- a put adds one at most
put_few : (name : NameFacts) (names : List NameFacts) → length (put_at (λ n. n.path) name names) ≤ length names + 1
put_few name names =
    omega (
      arith,
      length-append (filter (λ n. is_before n.path name.path) names) (name ∷ filter (λ n. is_before name.path n.path) names),
      kept_apart (λ n. is_before n.path name.path) (λ n. is_before name.path n.path) (λ n e. fails_after n.path name.path (before_from_test n.path name.path e)) names,
    )

-- a change adds one at most
change_few : (names : List NameFacts) (change : Change) → length (after_change names change) ≤ length names + 1
change_few names change = either change.put
  where
    either : (b : Bool) → length (if b then put_at (λ n. n.path) change.name names else filter (λ n. not (same_name n change.name)) names) ≤ length names + 1
    either true = put_few change.name names
    either false = omega (arith, kept_few (λ n. not (same_name n change.name)) names)

-- each change adds one at most
changes_few : (names : List NameFacts) (log : List Change) → length (fold after_change names log) ≤ length names + length log
changes_few names [] = omega arith
changes_few names (change ∷ log) = omega (arith, changes_few (after_change names change) log, change_few names change)

-- an index has no more rows than changes
pub rows_few : (is_true : RowFacts → Type 0) (index : RowsFacts) → IsIndex is_true index → length index.rows ≤ length index.log
rows_few is_true index h =
    omega (arith, changes_few [] index.log, ap length h.replays, length-map index.rows (λ (row : RowFacts). row.name))
