-- What a hold makes of a walk: it goes on by the log of the hold, or is over.
use Rattle.std.proofs.Common.{◌≡◌, ℕ, Bool, true, false, List, [], length, drop, inl, inr, refl, sym, ap, subst, arith, Result, Ok, Err}
use Rattle.std.specs.Prelude.{IfOk, nat_le}
use Rattle.std.specs.Bool.{if◌then◌else◌}
use Rattle.std.specs.List.{fold}
use mathlib.Core.List.{IsPrefix}
use Rattle.std.proofs.lemmas.Bool.{leb-true}
use Rattle.std.proofs.lemmas.List.{length-drop}
use Rattle.row_types.specs.Row.{RowFacts}
use Rattle.index_rows.proofs.Lists.{filter_none}
use Rattle.index_rows.specs.declared.change.Change.{Change}
use Rattle.index_state.specs.State.{StateFacts}
use Rattle.row_walk.specs.Looked.{rows_behind}
use Rattle.row_walk.specs.Holds.{GoesOn, HasWalked, LooksOn, walked_by}
use Rattle.row_walk.specs.Walk.{IsStep, IsWalk, IsWalkOf, WalkFacts, after_row, kept_of, taken}
use Rattle.row_walk.specs.declared.found.Found.{Found}
use Rattle.row_walk.specs.declared.holds.Walked.TheVariants.{Further, Done}
use Rattle.row_walk.specs.declared.looked.Looked.{Looked}
use Rattle.row_walk.specs.declared.looked.Looked.TheVariants.{Mended, Copied}
use Rattle.row_walk.specs.declared.place.Place.{Place}
use Rattle.row_walk.specs.declared.place.Place.TheVariants.{Start, At, End}
use Rattle.row_walk.proofs.StepLemmas.{walk_from}

module _ {K : Type 0} {told : Bool} {true_row : RowFacts → Type 0} (keeps : Found → Bool) (enough : ℕ) (index : StateFacts K) (walk : WalkFacts) where
  -- rows are looked at once all changes were heard of
  all_heard : (rows : List Found) (place : Place) → drop walk.heard index.log ≡ [] → IsWalkOf told true_row keeps index (walk_from (fold (after_row keeps) walk.kept rows) place walk.heard) → walk.heard ≡ length index.log
  all_heard rows place none w = omega (arith, w.stands.heard, length-drop walk.heard index.log, ap length none)

  -- with the last rows it has all
  ends_whole : (rows : List Found) → drop walk.heard index.log ≡ [] → IsWalkOf told true_row keeps index (walk_from (fold (after_row keeps) walk.kept rows) End walk.heard)
      → HasWalked true_row keeps enough index.log (walk_from (fold (after_row keeps) walk.kept rows) End walk.heard)
  ends_whole rows none w =
      let f = w.front (all_heard rows End none w) in record {
        heard = all_heard rows End none w;
        first = record {
          rows = f.rows;
          stood = f.stood;
          rest = kept_of keeps (rows_behind End f.rows);
          whole = f.first;
          all = inl (ap (kept_of keeps) (filter_none (λ (r : RowFacts). false) f.rows (λ k d within. refl)));
        };
      }

  -- with further rows it may have enough
  ends_enough : (rows : List Found) (place : Place) → drop walk.heard index.log ≡ [] → IsWalkOf told true_row keeps index (walk_from (fold (after_row keeps) walk.kept rows) place walk.heard)
      → nat_le enough (length (fold (after_row keeps) walk.kept rows)) ≡ true
      → HasWalked true_row keeps enough index.log (walk_from (fold (after_row keeps) walk.kept rows) place walk.heard)
  ends_enough rows place none w many =
      let f = w.front (all_heard rows place none w) in record {
        heard = all_heard rows place none w;
        first = record {
          rows = f.rows;
          stood = f.stood;
          rest = kept_of keeps (rows_behind place f.rows);
          whole = f.first;
          all = inr (leb-true enough (length (fold (after_row keeps) walk.kept rows)) many);
        };
      }

  -- rows that don't go to the end: enough was found, or the walk goes on
  some_rows : (rows : List Found) (place : Place) → drop walk.heard index.log ≡ [] → IsWalkOf told true_row keeps index (walk_from (fold (after_row keeps) walk.kept rows) place walk.heard)
      → GoesOn true_row keeps enough index.log
      (if nat_le enough (length (fold (after_row keeps) walk.kept rows)) then Done (walk_from (fold (after_row keeps) walk.kept rows) place walk.heard) else Further (walk_from (fold (after_row keeps) walk.kept rows) place walk.heard))
  some_rows rows place none w =
      (elim (nat_le enough (length (fold (after_row keeps) walk.kept rows))) as (λ b. nat_le enough (length (fold (after_row keeps) walk.kept rows)) ≡ b
      → GoesOn true_row keeps enough index.log (if b then Done (walk_from (fold (after_row keeps) walk.kept rows) place walk.heard) else Further (walk_from (fold (after_row keeps) walk.kept rows) place walk.heard))) [
        | true ↦ λ many. ends_enough rows place none w many
        | false ↦ λ few. w.stands
      ]) refl

  -- whatever was looked at
  pub goes_on : (looked : Looked) → IsStep walk index looked → IsWalkOf told true_row keeps index (taken keeps looked walk) → GoesOn true_row keeps enough index.log (walked_by keeps enough looked walk)
  goes_on (Mended looks heard) step w = w.stands
  goes_on (Copied rows Start) step w = some_rows rows.items Start step.0 w
  goes_on (Copied rows (At path)) step w = some_rows rows.items (At path) step.0 w
  goes_on (Copied rows End) step w = ends_whole rows.items step.0 w

-- what comes of a look, if there was memory
pub looks_on : {K E : Type 0} (told : Bool) (true_row : RowFacts → Type 0) (index : StateFacts K) (walk : WalkFacts) (answer : Result Looked E) → IfOk answer (IsStep walk index)
    → ((keeps : Found → Bool) (before : List Change) → IsPrefix before index.log → IsWalk true_row keeps before walk → IfOk answer (λ looked. IsWalkOf told true_row keeps index (taken keeps looked walk)))
    → IfOk answer (LooksOn told true_row index walk)
looks_on told true_row index walk (Ok looked) step goes = record { step = step; goes = goes }
looks_on told true_row index walk (Err fault) step goes = tt

-- what is so of the one that is answered
pub answers_one : {X E : Type 0} (P : X → Type 0) (one : X) (answer : Result X E) → IfOk answer (λ x. x ≡ one) → P one → IfOk answer P
answers_one P one (Ok x) is p = subst P (sym is) p
answers_one P one (Err fault) is p = tt
