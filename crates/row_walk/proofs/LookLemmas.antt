-- What a hold makes of a walk.
use Rattle.std.proofs.Common.{◌≡◌, ℕ, ◌+◌, Bool, true, List, length, drop, take, Result, Ok, Err, sym, subst}
use Rattle.std.specs.Prelude.{IfOk}
use Rattle.std.specs.List.{fold}
use mathlib.Core.List.{IsPrefix}
use Rattle.std.proofs.lemmas.List.{take-append-drop}
use Rattle.row_types.specs.Row.{RowFacts}
use Rattle.index_rows.specs.declared.change.Change.{Change}
use Rattle.index_state.specs.State.{StateFacts}
use Rattle.row_walk.specs.Looked.{Copies, looks_of, rows_behind}
use Rattle.row_walk.specs.Walk.{IsWalk, IsWalkOf, WalkFacts, after_look, taken}
use Rattle.row_walk.specs.declared.found.Found.{Found}
use Rattle.row_walk.specs.declared.looked.Look.{Look}
use Rattle.row_walk.specs.declared.looked.Looked.{Looked}
use Rattle.row_walk.specs.declared.looked.Looked.TheVariants.{Mended, Copied}
use Rattle.row_walk.specs.declared.looked.TheConstants.{MOST_CHANGES}
use Rattle.row_walk.proofs.FrontLemmas.{walk_of}
use Rattle.row_walk.proofs.StepLemmas.{HasRows, copies, mends, walk_from, walk_later}

module _ {true_row : RowFacts → Type 0} {told : Bool} (keeps : Found → Bool) (before : List Change) {K : Type 0} (index : StateFacts K) (walk : WalkFacts) (h : HasRows true_row index)
    (one : told ≡ true → (a b : RowFacts) → a.name ≡ b.name → true_row a → true_row b → a ≡ b) (more : IsPrefix before index.log) (w : IsWalk true_row keeps before walk) where
  -- once the next changes were heard of
  pub heard_more : (looks : List Look) (heard : ℕ) → looks ≡ looks_of walk.place index.rows (take MOST_CHANGES (drop walk.heard index.log)) → heard ≡ walk.heard + length (take MOST_CHANGES (drop walk.heard index.log))
      → IsWalkOf told true_row keeps index (walk_from (fold (after_look keeps) walk.kept looks) walk.place heard)
  heard_more looks heard are is =
      walk_of keeps index (walk_from (fold (after_look keeps) walk.kept looks) walk.place heard) h one
      (subst (λ (l : List Look). IsWalk true_row keeps index.log (walk_from (fold (after_look keeps) walk.kept l) walk.place heard)) (sym are)
      (subst (λ (n : ℕ). IsWalk true_row keeps index.log (walk_from (fold (after_look keeps) walk.kept (looks_of walk.place index.rows (take MOST_CHANGES (drop walk.heard index.log)))) walk.place n)) (sym is)
      (mends keeps index h (take MOST_CHANGES (drop walk.heard index.log)) (drop MOST_CHANGES (drop walk.heard index.log)) walk.kept walk.place walk.heard
      (sym (take-append-drop MOST_CHANGES (drop walk.heard index.log))) (walk_later before index.log walk more w))))

  -- once the next rows were seen
  pub saw_more : (looked : Looked) → Copies (rows_behind walk.place index.rows) looked → IsWalkOf told true_row keeps index (taken keeps looked walk)
  saw_more (Mended looks heard) c = absurd c
  saw_more (Copied rows place) c =
      walk_of keeps index (taken keeps (Copied rows place) walk) h one (copies keeps index h walk rows.items place c (walk_later before index.log walk more w))

  -- the same of an answer
  pub saw_ok : {E : Type 0} (answer : Result Looked E) → IfOk answer (Copies (rows_behind walk.place index.rows)) → IfOk answer (λ looked. IsWalkOf told true_row keeps index (taken keeps looked walk))
  saw_ok (Ok looked) c = saw_more looked c
  saw_ok (Err e) c = c
