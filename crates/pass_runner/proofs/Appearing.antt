-- The names that were missed as ones that appeared, in each step and at the end.
use Rattle.std.proofs.Common.{◌≡◌, ℕ, ◌⊎◌, inl, inr, ◌||◌, Bool, true, false, not, cond, List, [], ◌∷◌, ◌++◌, Option, Some, None, refl, sym, ◌∙◌, ap, subst}
use Rattle.std.specs.List.{All, Contains}
use Rattle.std.specs.Option.{option_map}
use Rattle.std.proofs.lemmas.Bool.{false_from_ne_true, true≢false}
use Rattle.std.proofs.lemmas.List.Elements.{All-nil, All-cons, All-contains, All-contains_itself, All-filter, All-head, All-tail, All-weaker, Contains-append_cases, Contains-append_left, Contains-append_right, Contains-push_cases}
use Rattle.std.proofs.lemmas.List.Folds.{list_any_none}
use Rattle.std.proofs.lemmas.Slice.Eq.{bytes_eq-Decides}
use Rattle.row_types.specs.Ascends.{AscendsBy, IsBefore}
use Rattle.row_types.specs.Name.{NameFacts, same_name, stamp_at}
use Rattle.row_types.specs.Row.{RowFacts}
use Rattle.row_types.specs.Stamp.{StampFacts}
use Rattle.index_keeper.specs.Keeper.{ShownKeeper}
use Rattle.index_rows.specs.Rows.{row_names, row_path, without_row}
use Rattle.scan_queue.specs.Names.{IsByPath, is_in}
use Rattle.scan_queue.specs.Pass.{AddsElement, InOrder, IsPass, PassFacts, Precedes, first_missed, left, missed_names, misses_without}
use Rattle.scan_queue.specs.declared.miss.Cause.{Cause}
use Rattle.scan_queue.specs.declared.miss.Cause.TheVariants.{ReadFault, Altered, Appeared}
use Rattle.scan_queue.specs.declared.miss.Miss.{Miss}
use Rattle.scan_queue.proofs.NameTests.{path_differs, same_name-Decides, same_stamp-Decides}
use Rattle.scan_queue.proofs.Picks.{head_pairs}
use Rattle.index_state.specs.Away.{MissesOut}
use Rattle.index_state.specs.Invariant.{IndexInvariant, ListedAccounted, to_read}
use Rattle.index_state.specs.Plan.{has_stamp}
use Rattle.index_state.specs.State.{StateFacts, pass_or_none}
use Rattle.index_state.proofs.ByName.{has_stamp_is_in, names_by_path, one_of_path}
use Rattle.index_state.proofs.Keeps.{there}
use Rattle.tree_trait.specs.Heard.{Heard}
use Rattle.pass_runner.specs.Passes.{IsFirstMissed, IsHandedOut}
use Rattle.pass_runner.specs.Settled.{AppearedStand, HasNotAppeared, IsBacked, NoneAppeared, StandsIfAppeared}
use Rattle.pass_runner.specs.Turns.{AppearsBy}
use Rattle.pass_runner.proofs.Altered.{first_least}
use Rattle.pass_runner.proofs.NameLists.{drop_stays}

-- where none appeared, each one that did stands
pub none_stand : {K : Type 0} (state : StateFacts K) → NoneAppeared state → AppearedStand state
none_stand state none =
    All-weaker HasNotAppeared (StandsIfAppeared (row_names state.rows)) (λ m never is. absurd (never is)) (pass_or_none state.pass).missed none

-- where none was missed, none appeared
pub none_of_none : {K : Type 0} (state : StateFacts K) → (pass_or_none state.pass).missed ≡ [] → NoneAppeared state
none_of_none state none = subst (λ (ms : List Miss). All HasNotAppeared ms) (sym none) (All-nil HasNotAppeared)

-- once a name left
pub left_all : (P : Miss → Type 0) (name : NameFacts) (pass : Option PassFacts) → All P (pass_or_none pass).missed
    → All P (pass_or_none (option_map (left name) pass)).missed
left_all P name None h = h
left_all P name (Some p) h = All-filter (λ (m : Miss). not (same_name name m.name)) P p.missed h

-- those that were missed without one
kept_missed : (P Q : Miss → Type 0) (name : NameFacts) → ((m : Miss) → same_name name m.name ≡ false → P m → Q m) → (ms : List Miss)
    → All P ms → All Q (misses_without name ms)
kept_missed P Q name so [] h = All-nil Q
kept_missed P Q name so (m ∷ ms) h =
    let rest : All Q (misses_without name ms) = kept_missed P Q name so ms (All-tail P m ms h) in
    elim (same_name name m.name) as (λ b. same_name name m.name ≡ b → All Q (cond (not b) (m ∷ misses_without name ms) (misses_without name ms))) [
      | true ↦ λ e. rest
      | false ↦ λ e. All-cons Q m (misses_without name ms) (so m e (All-head P m ms h)) rest
    ] refl

-- once one more was missed
added_all : (P : Miss → Type 0) (m : Miss) (before after : List Miss) → AddsElement m before after → P m → All P before → All P after
added_all P m before after adds own h = All-weaker (Contains after) P each after (All-contains_itself after)
  where
    was : (x : Miss) → Contains (adds.front ++ adds.back) x → P x
    was x in_parts = All-contains P before x h (subst (λ (ms : List Miss). Contains ms x) (sym adds.old) in_parts)

    one : (x : Miss) → Contains [] x ⊎ (m ≡ x) → P x
    one x (inl none) = All-contains P [] x (All-nil P) none
    one x (inr same) = subst P same own

    behind : (x : Miss) → Contains (m ∷ []) x ⊎ Contains adds.back x → P x
    behind x (inl here) = one x (Contains-push_cases [] m x here)
    behind x (inr later) = was x (Contains-append_right adds.front adds.back x later)

    parts : (x : Miss) → Contains adds.front x ⊎ Contains (m ∷ adds.back) x → P x
    parts x (inl first) = was x (Contains-append_left adds.front adds.back x first)
    parts x (inr rest) = behind x (Contains-append_cases (m ∷ []) adds.back x rest)

    each : (x : Miss) → Contains after x → P x
    each x c = parts x (Contains-append_cases adds.front (m ∷ adds.back) x (subst (λ (ms : List Miss). Contains ms x) adds.new c))

module _ {K : Type 0} (old new : StateFacts K) where
  -- rows and missed names stay
  pub appears_same : (reads : List NameFacts) → (pass_or_none new.pass).missed ≡ (pass_or_none old.pass).missed → new.rows ≡ old.rows
      → AppearsBy reads old new
  appears_same [] missed rows = λ h.
      subst (λ (r : List RowFacts). All (StandsIfAppeared (row_names r)) (pass_or_none new.pass).missed) (sym rows)
      (subst (λ (ms : List Miss). All (StandsIfAppeared (row_names old.rows)) ms) (sym missed) h)
  appears_same (n ∷ ns) missed rows = λ h. subst (λ (ms : List Miss). All HasNotAppeared ms) (sym missed) h

  -- a name left, and the rows stay
  pub left_stand : (name : NameFacts) → new.pass ≡ option_map (left name) old.pass → new.rows ≡ old.rows
      → AppearedStand old → AppearedStand new
  left_stand name pass rows h =
      subst (λ (r : List RowFacts). All (StandsIfAppeared (row_names r)) (pass_or_none new.pass).missed) (sym rows)
      (subst (λ (o : Option PassFacts). All (StandsIfAppeared (row_names old.rows)) (pass_or_none o).missed) (sym pass)
      (left_all (StandsIfAppeared (row_names old.rows)) name old.pass h))

  pub left_none : (name : NameFacts) → new.pass ≡ option_map (left name) old.pass → NoneAppeared old → NoneAppeared new
  left_none name pass h =
      subst (λ (o : Option PassFacts). All HasNotAppeared (pass_or_none o).missed) (sym pass) (left_all HasNotAppeared name old.pass h)

  -- a name was missed, if it was out
  pub missed_all : {name : NameFacts} {cause : Cause} (P : Miss → Type 0) (was_out : Bool) → P (record { name = name; cause = cause })
      → MissesOut name cause old was_out new → All P (pass_or_none old.pass).missed → All P (pass_or_none new.pass).missed
  missed_all {name} {cause} P true own misses h =
      subst (λ (o : Option PassFacts). All P (pass_or_none o).missed) (sym misses.missed.is)
      (added_all P (record { name = name; cause = cause }) misses.missed.from.missed misses.missed.into.missed misses.missed.step.missed own
      (subst (λ (o : Option PassFacts). All P (pass_or_none o).missed) misses.missed.was h))
  missed_all P false own misses h = subst (λ (o : Option PassFacts). All P (pass_or_none o).missed) (sym misses.missed.same) h

  pub missed_none : {name : NameFacts} {cause : Cause} (was_out : Bool) → (cause ≡ Appeared → ⊥) → MissesOut name cause old was_out new
      → NoneAppeared old → NoneAppeared new
  missed_none was_out never misses h = missed_all HasNotAppeared was_out never misses h

  pub missed_stand : {name : NameFacts} {cause : Cause} (was_out : Bool)
      → (cause ≡ Appeared → is_in (row_names old.rows) name ≡ true) → MissesOut name cause old was_out new
      → AppearedStand old → AppearedStand new
  missed_stand was_out own misses h =
      subst (λ (r : List RowFacts). All (StandsIfAppeared (row_names r)) (pass_or_none new.pass).missed)
      (sym (ap (λ (s : StateFacts K). s.rows) misses.same))
      (missed_all (StandsIfAppeared (row_names old.rows)) was_out own misses h)

  -- the row of a name was dropped
  pub dropped_stand : (name : NameFacts) → AscendsBy row_path old.rows → is_in (row_names old.rows) name ≡ true
      → new.pass ≡ option_map (left name) old.pass → new.rows ≡ without_row name.path old.rows → AppearedStand old → AppearedStand new
  dropped_stand name ascend stood pass rows h =
      subst (λ (r : List RowFacts). All (StandsIfAppeared (row_names r)) (pass_or_none new.pass).missed) (sym rows)
      (subst (λ (o : Option PassFacts). All (StandsIfAppeared (row_names (without_row name.path old.rows))) (pass_or_none o).missed) (sym pass)
      (each old.pass h))
    where
      Was : Miss → Type 0
      Was = StandsIfAppeared (row_names old.rows)

      Is : Miss → Type 0
      Is = StandsIfAppeared (row_names (without_row name.path old.rows))

      still : (m : Miss) → same_name name m.name ≡ false → Was m → Is m
      still m differs was = λ is.
          drop_stays name old.rows ascend stood m.name
          (λ same. true≢false (sym ((same_name-Decides name m.name).1 (sym same)) ∙ differs)) (was is)

      each : (o : Option PassFacts) → All Was (pass_or_none o).missed → All Is (pass_or_none (option_map (left name) o)).missed
      each None none = All-nil Is
      each (Some p) all = kept_missed Was Is name still p.missed all

-- a name that is known to have appeared isn't listed
pub backed_unlisted : (listing names : List NameFacts) (answers : List Heard) (Failed : Type 0) (name : NameFacts) (cause : Cause)
    → IsBacked listing names answers Failed name cause → cause ≡ Appeared → is_in listing name ≡ false
backed_unlisted listing names answers Failed name ReadFault h is = absurd (cc)
backed_unlisted listing names answers Failed name (Altered met) h is = absurd (cc)
backed_unlisted listing names answers Failed name Appeared h is = h.seen.unlisted

module _ (pass : PassFacts) (rows : List RowFacts) (miss : Miss) (place : IsPass pass) (accounted : ListedAccounted rows pass)
    (by_path : IsByPath (row_names rows)) (todo : pass.todo ≡ []) (out : pass.out ≡ []) (first : first_missed pass.missed ≡ Some miss)
    (stands : is_in (row_names rows) miss.name ≡ true) (unlisted : is_in pass.listing miss.name ≡ false) where
  module _ (name : NameFacts) (path : name.path ≡ miss.name.path) (listed : is_in pass.listing name ≡ true) where
    not_that : name ≡ miss.name → ⊥
    not_that same = true≢false (sym listed ∙ ap (is_in pass.listing) same ∙ unlisted)

    -- a listed name of the path would have been missed first
    never_missed : (ms : List Miss) → first_missed ms ≡ Some miss → InOrder pass.listing (missed_names ms) → is_in (missed_names ms) name ≡ false
    never_missed [] e order = absurd (cc)
    never_missed (m ∷ ms) e order =
        let head : m.name ≡ miss.name = ap (λ (x : Miss). x.name) (some m e) in
        let own : same_name name m.name ≡ false =
        false_from_ne_true (same_name name m.name) (λ same. not_that ((same_name-Decides name m.name).0 same ∙ head)) in
        let others : All (λ (n : NameFacts). same_name name n ≡ false) (missed_names ms) =
        All-weaker (Precedes pass.listing m.name) (λ (n : NameFacts). same_name name n ≡ false) (λ n before. behind m.name head n before)
        (missed_names ms) (head_pairs (Precedes pass.listing) m.name (missed_names ms) order) in
        ap (λ (b : Bool). b || is_in (missed_names ms) name) own ∙ list_any_none (same_name name) (missed_names ms) others
      where
        some : (x : Miss) → Some x ≡ Some miss → x ≡ miss
        some x h = cc

        behind : (a : NameFacts) → a ≡ miss.name → (n : NameFacts) → Precedes pass.listing a n → same_name name n ≡ false
        behind a is n (inl before) =
            path_differs name n (subst (λ (p : List ℕ). IsBefore p n.path) (ap (λ (x : NameFacts). x.path) is ∙ sym path) before)
        behind a is n (inr one) = absurd (true≢false (sym one.1 ∙ ap (is_in pass.listing) is ∙ unlisted))

    never_read : is_in (to_read pass) name ≡ false
    never_read =
        ap (λ (l : List NameFacts). is_in (l ++ pass.out ++ missed_names pass.missed) name) todo
        ∙ ap (λ (l : List NameFacts). is_in (l ++ missed_names pass.missed) name) out
        ∙ never_missed pass.missed first place.missed

    none_listed : ⊥
    none_listed =
        let has_row : is_in (row_names rows) name ≡ true = accounted name listed ∙ ap not never_read in
        not_that ((same_name-Decides name miss.name).0
        (one_of_path name miss.name (row_names rows) by_path has_row stands ((bytes_eq-Decides name.path miss.name.path).1 path)))

  path_apart : stamp_at pass.listing miss.name.path ≡ None
  path_apart = each (stamp_at pass.listing miss.name.path) refl
    where
      each : (o : Option StampFacts) → stamp_at pass.listing miss.name.path ≡ o → o ≡ None
      each None is = refl
      each (Some t) is =
          let name : NameFacts = record { path = miss.name.path; stamp = t } in
          absurd (none_listed name refl
          (sym (has_stamp_is_in name pass.listing place.listing.by_path) ∙ ap (λ (o : Option StampFacts). has_stamp o t) is
          ∙ (same_stamp-Decides t t).1 refl))

-- no name that was missed stands before the first, and the path of one that appeared and was missed first isn't listed
pub first_apart : {K : Type 0} {true_row : RowFacts → Type 0} {tells : Bool} {shows : K → ShownKeeper} {state : StateFacts K} (miss : Miss)
    → IndexInvariant true_row tells shows state → IsHandedOut state → first_missed (pass_or_none state.pass).missed ≡ Some miss
    → IsFirstMissed miss state
first_apart {state = state} miss holds handed first = record {
  first = first;
  least = λ name missed.
      let order : InOrder (pass_or_none state.pass).listing (missed_names (pass_or_none state.pass).missed) =
      subst (λ (p : PassFacts). InOrder p.listing (missed_names p.missed)) (sym (ap pass_or_none handed.is_open.was))
      (there IsPass handed.is_open.was holds.each_name_in_one_place).missed in
      first_least (pass_or_none state.pass).listing (pass_or_none state.pass).missed miss order first name missed;
  apart = λ is unlisted.
      let pass : PassFacts = handed.is_open.from in
      let was : pass_or_none state.pass ≡ pass = ap pass_or_none handed.is_open.was in
      let stands : is_in (row_names state.rows) miss.name ≡ true =
      first_stands (pass_or_none state.pass).missed handed.appeared first is in
      ap (λ (p : PassFacts). stamp_at p.listing miss.name.path) was
      ∙ path_apart pass state.rows miss (there IsPass handed.is_open.was holds.each_name_in_one_place)
      (there (ListedAccounted state.rows) handed.is_open.was holds.listed_names_accounted_for)
      (names_by_path state.rows holds.rows_sorted_and_true.ascend)
      (sym (ap (λ (p : PassFacts). p.todo) was) ∙ handed.todo) (sym (ap (λ (p : PassFacts). p.out) was) ∙ handed.out)
      (sym (ap (λ (p : PassFacts). first_missed p.missed) was) ∙ first) stands
      (sym (ap (λ (p : PassFacts). is_in p.listing miss.name) was) ∙ unlisted);
}
  where
    first_stands : (ms : List Miss) → All (StandsIfAppeared (row_names state.rows)) ms → first_missed ms ≡ Some miss → miss.cause ≡ Appeared
        → is_in (row_names state.rows) miss.name ≡ true
    first_stands [] h e is = absurd (cc)
    first_stands (m ∷ ms) h e is =
        subst (λ (x : Miss). StandsIfAppeared (row_names state.rows) x) (some m e)
        (All-head (StandsIfAppeared (row_names state.rows)) m ms h) is
      where
        some : (x : Miss) → Some x ≡ Some miss → x ≡ miss
        some x eq = cc
