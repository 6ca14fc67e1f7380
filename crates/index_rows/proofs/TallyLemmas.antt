-- The paths of one id after a change.
use Rattle.std.proofs.Common.{◌≡◌, ℕ, ◌+◌, true, false, cond, List, get_or, Option, Some, None, refl, sym, ◌∙◌, ap, subst, arith}
use Rattle.std.specs.List.{insert, remove}
use Rattle.std.specs.Option.{option_map_or}
use Rattle.std.specs.Prelude.{IsSome}
use Rattle.std.specs.Str.{bytes_eq}
use Rattle.std.proofs.lemmas.Bool.{false≢true}
use Rattle.std.proofs.lemmas.Slice.Eq.{bytes_eq-Decides}
use Rattle.row_types.specs.Ascends.{AscendsBy}
use Rattle.index_rows.specs.ByPath.{find_at, put_at}
use Rattle.index_rows.specs.Places.{StandsAt, BelongsAt}
use Rattle.index_rows.specs.Tally.{HasPlace, KeepsPlaces, SetsCount, count_at, one, tallied_path}
use Rattle.index_rows.specs.declared.tally.Tallied.{Tallied}
use Rattle.index_rows.proofs.FindLemmas.{find_put, find_without}
use Rattle.index_rows.proofs.PathLemmas.{found_standing, not_standing, put_ascends, put_new, put_over, removed, without_ascends}

-- the number that was found, or 0
abbrev number : Option Tallied → ℕ
number found = option_map_or (λ (entry : Tallied). entry.count) found 0

-- the numbers after a put
put_counts : (x : Tallied) (entries : List Tallied) (other : List ℕ) → count_at other (put_at tallied_path x entries) ≡ cond (bytes_eq x.path other) x.count (count_at other entries)
put_counts x entries other =
    ap number (find_put tallied_path other x entries)
    ∙ (elim (bytes_eq x.path other) as (λ b. number (cond b (Some x) (find_at tallied_path other entries)) ≡ cond b x.count (count_at other entries)) [ true ↦ refl | false ↦ refl ])

put_places : (x : Tallied) (entries : List Tallied) → KeepsPlaces entries (put_at tallied_path x entries)
put_places x entries other has =
    let P : Option Tallied → Type 0 = IsSome in
    subst P (sym (find_put tallied_path other x entries))
    (elim (bytes_eq x.path other) as (λ b. IsSome (cond b (Some x) (find_at tallied_path other entries))) [ true ↦ refl | false ↦ has ])

put_own : (x : Tallied) (entries : List Tallied) → HasPlace x.path (put_at tallied_path x entries)
put_own x entries =
    let P : Option Tallied → Type 0 = IsSome in
    subst P (sym (find_put tallied_path x.path x entries ∙ ap (λ b. cond b (Some x) (find_at tallied_path x.path entries)) ((bytes_eq-Decides x.path x.path).1 refl))) refl

-- of the path itself, by the test
at_itself : (P : List ℕ → ℕ) (path other : List ℕ) (n : ℕ) (rest : ℕ) → P path ≡ n → rest ≡ P other → cond (bytes_eq path other) n rest ≡ P other
at_itself P path other n rest own others =
    (elim (bytes_eq path other) as (λ b. bytes_eq path other ≡ b → cond b n rest ≡ P other)
    [ true ↦ λ e. sym own ∙ ap P ((bytes_eq-Decides path other).0 e) | false ↦ λ e. others ]) refl

module _ (path : List ℕ) (old new : List Tallied) (place : ℕ) where
  -- what stands there is what is found
  pub counts_there : (x : Tallied) → StandsAt tallied_path path old place → x ≡ get_or old place x → count_at path old ≡ x.count
  counts_there x h e = ap number (found_standing tallied_path path old place x h ∙ ap Some (sym e))

  -- a path that isn't there counts 0
  pub counts_none : BelongsAt tallied_path path old place → count_at path old ≡ 0
  counts_none h = ap number (not_standing tallied_path path old place h)

  -- a path that isn't there has no place
  pub no_place : BelongsAt tallied_path path old place → HasPlace path old → ⊥
  no_place h has =
      let P : Option Tallied → Type 0 = IsSome in
      absurd (false≢true (subst P (not_standing tallied_path path old place h) has))

  -- one that is there has one
  pub its_place : StandsAt tallied_path path old place → (x : Tallied) → HasPlace path old
  its_place h x =
      let P : Option Tallied → Type 0 = IsSome in
      subst P (sym (found_standing tallied_path path old place x h)) refl

  -- room is made for a path
  module _ (x : Tallied) (belongs : BelongsAt tallied_path path old place) (own : x.path ≡ path) (none : x.count ≡ 0) (is : new ≡ insert old place x) where
    made : new ≡ put_at tallied_path x old
    made = is ∙ put_new tallied_path x old place (subst (λ (p : List ℕ). BelongsAt tallied_path p old place) (sym own) belongs)

    pub made_ascends : AscendsBy tallied_path old → AscendsBy tallied_path new
    made_ascends h = subst (AscendsBy tallied_path) (sym made) (put_ascends tallied_path x old h)

    pub made_place : HasPlace path new
    made_place = subst (λ (l : List Tallied). HasPlace path l) (sym made) (subst (λ (p : List ℕ). HasPlace p (put_at tallied_path x old)) own (put_own x old))

    pub made_keeps : KeepsPlaces old new
    made_keeps other has = subst (λ (l : List Tallied). HasPlace other l) (sym made) (put_places x old other has)

    pub made_same : (other : List ℕ) → count_at other new ≡ count_at other old
    made_same other =
        ap (count_at other) made
        ∙ put_counts x old other
        ∙ at_itself (λ p. count_at p old) x.path other x.count (count_at other old)
        (ap (λ (p : List ℕ). count_at p old) own ∙ counts_none belongs ∙ sym none) refl

  -- a number is set
  module _ (n : ℕ) (d : Tallied) (stands : StandsAt tallied_path path old place) (sets : SetsCount place n old new) where
    changed : new ≡ put_at tallied_path (record (get_or old place d) { count = n }) old
    changed =
        sets d
        ∙ put_over tallied_path (record (get_or old place d) { count = n }) old place
        (subst (λ (p : List ℕ). StandsAt tallied_path p old place) (sym (stands.here d)) stands)

    pub set_ascends : AscendsBy tallied_path old → AscendsBy tallied_path new
    set_ascends h = subst (AscendsBy tallied_path) (sym changed) (put_ascends tallied_path (record (get_or old place d) { count = n }) old h)

    pub set_keeps : KeepsPlaces old new
    set_keeps other has = subst (λ (l : List Tallied). HasPlace other l) (sym changed) (put_places (record (get_or old place d) { count = n }) old other has)

    set_counts : (other : List ℕ) → count_at other new ≡ cond (bytes_eq path other) n (count_at other old)
    set_counts other =
        ap (count_at other) changed
        ∙ put_counts (record (get_or old place d) { count = n }) old other
        ∙ ap (λ (p : List ℕ). cond (bytes_eq p other) n (count_at other old)) (stands.here d)

    -- once more
    pub one_more : n ≡ count_at path old + 1 → (other : List ℕ) → count_at other new ≡ count_at other old + one path other
    one_more more other =
        set_counts other
        ∙ (elim (bytes_eq path other) as (λ b. bytes_eq path other ≡ b → cond b n (count_at other old) ≡ count_at other old + cond b 1 0) [
          | true ↦ λ e. more ∙ ap (λ (p : List ℕ). count_at p old + 1) ((bytes_eq-Decides path other).0 e)
          | false ↦ λ e. omega arith
        ]) refl

    -- once less
    pub one_less : n + 1 ≡ count_at path old → (other : List ℕ) → count_at other new + one path other ≡ count_at other old
    one_less less other =
        ap (λ (m : ℕ). m + one path other) (set_counts other)
        ∙ (elim (bytes_eq path other) as (λ b. bytes_eq path other ≡ b → cond b n (count_at other old) + cond b 1 0 ≡ count_at other old) [
          | true ↦ λ e. less ∙ ap (λ (p : List ℕ). count_at p old) ((bytes_eq-Decides path other).0 e)
          | false ↦ λ e. omega arith
        ]) refl

  pub gone_ascends : (d : Tallied) → StandsAt tallied_path path old place → new ≡ remove old place → AscendsBy tallied_path old → AscendsBy tallied_path new
  gone_ascends d stands is h = subst (AscendsBy tallied_path) (sym (is ∙ removed tallied_path path old place d stands)) (without_ascends tallied_path path old h)

  -- a path goes that counted once
  pub gone_counts : (d : Tallied) → StandsAt tallied_path path old place → count_at path old ≡ 1 → new ≡ remove old place → (other : List ℕ) → count_at other new + one path other ≡ count_at other old
  gone_counts d stands last is other =
      ap (λ (l : List Tallied). count_at other l + one path other) (is ∙ removed tallied_path path old place d stands)
      ∙ ap (λ (o : Option Tallied). number o + one path other) (find_without tallied_path other path old)
      ∙ (elim (bytes_eq path other) as (λ b. bytes_eq path other ≡ b → number (cond b None (find_at tallied_path other old)) + cond b 1 0 ≡ count_at other old) [
        | true ↦ λ e. sym last ∙ ap (λ (p : List ℕ). count_at p old) ((bytes_eq-Decides path other).0 e)
        | false ↦ λ e. omega arith
      ]) refl

-- ---- as a call has them: the entries that were searched are those that are kept
module _ (path : List ℕ) (entries now : List Tallied) (place : ℕ) (same : entries ≡ now) where
  pub stands_in : StandsAt tallied_path path entries place → StandsAt tallied_path path now place
  stands_in h = subst (λ (l : List Tallied). StandsAt tallied_path path l place) same h

  pub belongs_in : BelongsAt tallied_path path entries place → BelongsAt tallied_path path now place
  belongs_in h = subst (λ (l : List Tallied). BelongsAt tallied_path path l place) same h

  -- the number at the place is the path's
  pub count_is : StandsAt tallied_path path entries place → (count : ℕ) → ((other : Tallied) → count ≡ (get_or entries place other).count) → count ≡ count_at path now
  count_is stands count there =
      let none : Tallied = record { path = path; count = 0; number = 0 } in
      there none
      ∙ sym (ap number (found_standing tallied_path path entries place none stands))
      ∙ ap (count_at path) same
