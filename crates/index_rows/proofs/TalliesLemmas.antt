-- The numbers under ids after a change under one.
use Rattle.std.proofs.Common.{◌≡◌, ℕ, ◌+◌, ◌≤◌, ◌<◌, suc, true, false, cond, List, [], ◌∷◌, length, drop, get_or, Option, Some, None, refl, sym, ◌∙◌, ap, subst, arith, drop-cons}
use Rattle.std.specs.BTreeMap.{is_at}
use Rattle.std.specs.Cmp.Lexicographic.{slice_cmp}
use Rattle.std.specs.List.{All}
use Rattle.std.specs.Map.{lookup}
use Rattle.std.specs.Ordering.{nat_cmp}
use Rattle.std.specs.Prelude.{is_some, unwrap_or}
use Rattle.std.specs.Str.{bytes_eq}
use Rattle.std.proofs.lemmas.Bool.{false≢true}
use Rattle.std.proofs.lemmas.List.Elements.{All-head, All-tail, All-weaker}
use Rattle.std.proofs.lemmas.Map.Text.{is_eq-slice_cmp}
use Rattle.std.proofs.lemmas.Slice.Eq.{bytes_eq-Decides}
use Rattle.row_types.specs.Ascends.{Ascends, IsBefore}
use Rattle.index_rows.specs.Tally.{HasPlace, KeepsPlaces, count_at, one}
use Rattle.index_rows.specs.Tallies.{CountsSame, HasKey, Ids, KeepsKeys, tally_of, tallies_of, one_of, times, times_of}
use Rattle.index_rows.specs.declared.tally.Tallied.{Tallied}
use Rattle.index_rows.proofs.Lists.{first_related, rest_related}
use Rattle.index_rows.proofs.PathLemmas.{differs_after}

-- each id has what is given for it, or what it had
abbrev pub Changes : List ℕ → Option (List Tallied) → Ids → Ids → Type 0
Changes id given old new =
    (other : List ℕ) → lookup (is_at (slice_cmp nat_cmp other)) new ≡ cond (is_at (slice_cmp nat_cmp id) other) given (lookup (is_at (slice_cmp nat_cmp other)) old)

-- the list that was found is the id's
pub entries_are : (id : List ℕ) (tallies : Ids) (entries : List Tallied) → Some entries ≡ lookup (is_at (slice_cmp nat_cmp id)) tallies → entries ≡ tallies_of id tallies
entries_are id tallies entries e = ap (λ (o : Option (List Tallied)). unwrap_or o []) e

pub no_entries : (id : List ℕ) (tallies : Ids) → ◌≡◌ {A = Option (List Tallied)} None (lookup (is_at (slice_cmp nat_cmp id)) tallies) → tallies_of id tallies ≡ []
no_entries id tallies e = ap (λ (o : Option (List Tallied)). unwrap_or o []) (sym e)

absent : {X : Type 0} (o : Option X) → is_some o ≡ false → o ≡ None
absent None e = refl
absent (Some x) e = absurd (false≢true (sym e))

pub not_listed : (id : List ℕ) (tallies : Ids) → is_some (lookup (is_at (slice_cmp nat_cmp id)) tallies) ≡ false → tallies_of id tallies ≡ []
not_listed id tallies e = no_entries id tallies (sym (absent (lookup (is_at (slice_cmp nat_cmp id)) tallies) e))

-- without paths none has a number
pub no_key : (id path : List ℕ) (tallies : Ids) → tallies_of id tallies ≡ [] → HasKey id path tallies → ⊥
no_key id path tallies e has = absurd (false≢true (subst (HasPlace path) e has))

pub counts_nothing : (id path : List ℕ) (tallies : Ids) → tallies_of id tallies ≡ [] → 0 < tally_of id path tallies → ⊥
counts_nothing id path tallies e more =
    let none : tally_of id path tallies ≡ 0 = ap (count_at path) e in
    absurd (omega (arith, none, more))

module _ (id : List ℕ) (given : Option (List Tallied)) (old new : Ids) (changes : Changes id given old new) where
  changed : (other : List ℕ) → tallies_of other new ≡ cond (bytes_eq id other) (unwrap_or given []) (tallies_of other old)
  changed other =
      ap (λ (o : Option (List Tallied)). unwrap_or o []) (changes other)
      ∙ ap (λ b. unwrap_or (cond b given (lookup (is_at (slice_cmp nat_cmp other)) old)) []) (is_eq-slice_cmp id other)
      ∙ (elim (bytes_eq id other) as (λ b. unwrap_or (cond b given (lookup (is_at (slice_cmp nat_cmp other)) old)) [] ≡ cond b (unwrap_or given []) (tallies_of other old)) [ true ↦ refl | false ↦ refl ])

  -- what is said of an id's paths, where the given ones say as much
  says : {Y : Type 0} (P : List Tallied → Y) → P (unwrap_or given []) ≡ P (tallies_of id old) → (other : List ℕ) → P (tallies_of other new) ≡ P (tallies_of other old)
  says P same other =
      ap P (changed other)
      ∙ (elim (bytes_eq id other) as (λ b. bytes_eq id other ≡ b → P (cond b (unwrap_or given []) (tallies_of other old)) ≡ P (tallies_of other old))
      [ true ↦ λ e. same ∙ ap (λ (i : List ℕ). P (tallies_of i old)) ((bytes_eq-Decides id other).0 e) | false ↦ λ e. refl ]) refl

  -- the numbers stay
  pub stays_same : ((path : List ℕ) → count_at path (unwrap_or given []) ≡ count_at path (tallies_of id old)) → CountsSame old new
  stays_same same other path = says (count_at path) (same path) other

  -- the room stays
  pub stays_room : KeepsPlaces (tallies_of id old) (unwrap_or given []) → KeepsKeys old new
  stays_room keeps other path has =
      subst (HasPlace path) (sym (changed other))
      ((elim (bytes_eq id other) as (λ b. bytes_eq id other ≡ b → HasPlace path (cond b (unwrap_or given []) (tallies_of other old))) [
        | true ↦ λ e. keeps path (subst (λ (i : List ℕ). HasPlace path (tallies_of i old)) (sym ((bytes_eq-Decides id other).0 e)) has)
        | false ↦ λ e. has
      ]) refl)

  -- a path of the id has room
  pub gets_room : (path : List ℕ) → HasPlace path (unwrap_or given []) → HasKey id path new
  gets_room path has =
      subst (HasPlace path) (sym (changed id ∙ ap (λ b. cond b (unwrap_or given []) (tallies_of id old)) ((bytes_eq-Decides id id).1 refl))) has

  -- a path of the id counts once more
  pub counts_more : (path : List ℕ) → ((other : List ℕ) → count_at other (unwrap_or given []) ≡ count_at other (tallies_of id old) + one path other)
      → (other_id other : List ℕ) → tally_of other_id other new ≡ tally_of other_id other old + one_of id path other_id other
  counts_more path more other_id other =
      ap (count_at other) (changed other_id)
      ∙ (elim (bytes_eq id other_id) as (λ b. bytes_eq id other_id ≡ b → count_at other (cond b (unwrap_or given []) (tallies_of other_id old)) ≡ tally_of other_id other old + cond b (one path other) 0) [
        | true ↦ λ e. more other ∙ ap (λ (i : List ℕ). tally_of i other old + one path other) ((bytes_eq-Decides id other_id).0 e)
        | false ↦ λ e. omega arith
      ]) refl

  -- a path of the id counts once less
  pub counts_less : (path : List ℕ) → ((other : List ℕ) → count_at other (unwrap_or given []) + one path other ≡ count_at other (tallies_of id old))
      → (other_id other : List ℕ) → tally_of other_id other new + one_of id path other_id other ≡ tally_of other_id other old
  counts_less path less other_id other =
      ap (λ l. count_at other l + one_of id path other_id other) (changed other_id)
      ∙ (elim (bytes_eq id other_id) as (λ b. bytes_eq id other_id ≡ b → count_at other (cond b (unwrap_or given []) (tallies_of other_id old)) + cond b (one path other) 0 ≡ tally_of other_id other old) [
        | true ↦ λ e. less other ∙ ap (λ (i : List ℕ). tally_of i other old) ((bytes_eq-Decides id other_id).0 e)
        | false ↦ λ e. omega arith
      ]) refl

  -- what the id has now
  pub entries_now : tallies_of id new ≡ unwrap_or given []
  entries_now = changed id ∙ ap (λ b. cond b (unwrap_or given []) (tallies_of id old)) ((bytes_eq-Decides id id).1 refl)

-- ---- several paths

-- the first of a list, and the others
pub times_first : (id path : List ℕ) (paths : List (List ℕ)) (other_id other : List ℕ) → times_of id (path ∷ paths) other_id other ≡ one_of id path other_id other + times_of id paths other_id other
times_first id path paths other_id other =
    elim (bytes_eq id other_id) as (λ b. cond b (one path other + times paths other) 0 ≡ cond b (one path other) 0 + cond b (times paths other) 0) [ true ↦ refl | false ↦ refl ]

-- the list from a place on begins with what stands there
pub from_place : (paths : List (List ℕ)) (place : ℕ) (path : List ℕ) → place < length paths → path ≡ get_or paths place path → drop place paths ≡ path ∷ drop (place + 1) paths
from_place paths place path within is =
    drop-cons paths place path within ∙ ap (λ (p : List ℕ). p ∷ drop (suc place) paths) (sym is) ∙ ap (λ (k : ℕ). path ∷ drop k paths) (let e : suc place ≡ place + 1 = omega arith in e)

-- a path is itself
pub one_itself : (path : List ℕ) → one path path ≡ 1
one_itself path = ap (λ b. cond b 1 0) ((bytes_eq-Decides path path).1 refl)

-- an id is itself
pub times_itself : (id : List ℕ) (paths : List (List ℕ)) (path : List ℕ) → times_of id paths id path ≡ times paths path
times_itself id paths path = ap (λ b. cond b (times paths path) 0) ((bytes_eq-Decides id id).1 refl)

-- paths of which none is the one
times_none : (paths : List (List ℕ)) (path : List ℕ) → All (λ other. bytes_eq other path ≡ false) paths → times paths path ≡ 0
times_none [] path h = refl
times_none (first ∷ paths) path h =
    let other : bytes_eq first path ≡ false = All-head (λ (p : List ℕ). bytes_eq p path ≡ false) first paths h in
    let none : times paths path ≡ 0 = times_none paths path (All-tail (λ (p : List ℕ). bytes_eq p path ≡ false) first paths h) in
    rw (other, none) refl

-- paths that ascend have each path once
pub times_once : (paths : List (List ℕ)) (path : List ℕ) → Ascends paths → times paths path ≤ 1
times_once [] path h = omega arith
times_once (first ∷ paths) path h =
    (elim (bytes_eq first path) as (λ b. bytes_eq first path ≡ b → cond b 1 0 + times paths path ≤ 1) [
      | true ↦ λ e.
          let after : All (IsBefore path) paths = subst (λ (p : List ℕ). All (IsBefore p) paths) ((bytes_eq-Decides first path).0 e) (first_related IsBefore first paths h) in
          let none : times paths path ≡ 0 = times_none paths path (All-weaker (IsBefore path) (λ p. bytes_eq p path ≡ false) (λ p. differs_after path p) paths after) in
          omega (arith, none)
      | false ↦ λ e. omega (arith, times_once paths path (rest_related IsBefore first paths h))
    ]) refl
