-- What an answer of a plain query over the first tree has.
use Rattle.std.proofs.Common.{◌≡◌, inl, inr, true, false, List, [], ◌∷◌, map, refl, sym, ◌∙◌, ap, subst, arith}
use Rattle.std.specs.Prelude.{All, flat_map, if◌then◌else◌}
use Rattle.std.proofs.lemmas.List.Elements.{All-cons}
use Rattle.std.specs.List.{list_all}
use Rattle.std.specs.List.Sorted.{IsPermutation}
use Rattle.std.proofs.lemmas.List.Sorted.{All-permutation, IsPermutation-sym}
use Rattle.sqlite_value.specs.declared.keys.Key.{Key}
use Rattle.sqlite_value.specs.Order.{Row}
use Rattle.sqlite_trees.specs.Tree.{Trees}
use Rattle.sqlite_sql.specs.Term.{Term, Env, holds, eval_all}
use Rattle.sqlite_sql.specs.Program.{overlay}
use Rattle.sqlite_keeper.specs.Commands.{plain_query}
use Rattle.sqlite_sql.specs.Query.{IsAnswer, Output, output}
use Rattle.sqlite_rules.specs.Lists.{Has}
use Rattle.sqlite_rules.proofs.ListLemmas.{has_left, has_right, has_either}
use Rattle.sqlite_keeper.proofs.HasLemmas.{all_has, has_map, map_has}

all_from_has : {X : Type 0} (P : X → Type 0) (xs : List X) → ((x : X) → Has xs x → P x) → All P xs
all_from_has P [] h = λ k d within. absurd (omega arith)
all_from_has P (x ∷ xs) h = All-cons P x xs (h x (inl refl)) (all_from_has P xs (λ y g. h y (inr g)))

-- an exchanged list has the same members
pub has_permuted : {X : Type 0} (xs ys : List X) (y : X) → IsPermutation xs ys → Has ys y → Has xs y
has_permuted xs ys y h g = all_has (Has xs) ys y (All-permutation (Has xs) xs ys h (all_from_has (Has xs) xs (λ x f. f))) g

pub permuted_has : {X : Type 0} (xs ys : List X) (x : X) → IsPermutation xs ys → Has xs x → Has ys x
permuted_has xs ys x h g = has_permuted ys xs x (IsPermutation-sym xs ys h) g

has_flat : {X Y : Type 0} (f : X → List Y) (xs : List X) (y : Y) → Has (flat_map f xs) y → (x : X) × Has xs x × Has (f x) y
has_flat f [] y h = absurd h
has_flat f (x ∷ xs) y h = elim (has_either (f x) (flat_map f xs) y h) [ inl here ↦ (x, inl refl, here) | inr later ↦ let r = has_flat f xs y later in (r.0, inr r.1, r.2) ]

flat_has : {X Y : Type 0} (f : X → List Y) (xs : List X) (x : X) (y : Y) → Has xs x → Has (f x) y → Has (flat_map f xs) y
flat_has f [] x y h g = absurd h
flat_has f (z ∷ xs) x y (inl e) g = has_left (f z) (flat_map f xs) y (subst (λ w. Has (f w) y) e g)
flat_has f (z ∷ xs) x y (inr h) g = has_right (f z) (flat_map f xs) y (flat_has f xs x y h g)

module _ (db : Trees) (params : Row) (rows : List Row) (filter project : List Term) (order : List (Term × Key)) (a : IsAnswer (plain_query filter project order) (overlay db []) params rows) where
  abbrev passing : Row → List Env
  passing r = if list_all (holds (params ∷ r ∷ [])) filter then (params ∷ r ∷ []) ∷ [] else []

  staged : a.staged ≡ flat_map passing (db 0)
  staged = a.grouped

  kept : a.kept ≡ map (output (plain_query filter project order)) (flat_map passing (db 0))
  kept = a.distinct ∙ ap (map (output (plain_query filter project order))) staged

  shown : rows ≡ map (λ (o : Output). o.1) a.ordered
  shown = a.shown

  passed : (r : Row) (env : Env) → Has (passing r) env → (list_all (holds (params ∷ r ∷ [])) filter ≡ true) × (env ≡ params ∷ r ∷ [])
  passed r env h = elim (list_all (holds (params ∷ r ∷ [])) filter) as (λ b. list_all (holds (params ∷ r ∷ [])) filter ≡ b → Has (if b then (params ∷ r ∷ []) ∷ [] else []) env → (list_all (holds (params ∷ r ∷ [])) filter ≡ true) × (env ≡ params ∷ r ∷ []))
      [ true ↦ λ e g. (e, only g) | false ↦ λ e g. absurd g ] refl h
    where
      only : {x : Env} → Has (x ∷ []) env → env ≡ x
      only (inl e) = e
      only (inr none) = absurd none

  -- each row of the answer is shown of a row that passes
  pub answer_from : (x : Row) → Has rows x → (r : Row) × Has (db 0) r × (list_all (holds (params ∷ r ∷ [])) filter ≡ true) × (x ≡ eval_all project (params ∷ r ∷ []))
  answer_from x h =
      let o = has_map (λ (p : Output). p.1) a.ordered x (subst (λ l. Has l x) shown h) in
      let k : Has a.kept o.0 = has_permuted a.kept a.ordered o.0 a.same o.1 in
      let e = has_map (output (plain_query filter project order)) (flat_map passing (db 0)) o.0 (subst (λ l. Has l o.0) kept k) in
      let r = has_flat passing (db 0) e.0 e.1 in
      let p = passed r.0 e.0 r.2 in
      (r.0, r.1, p.0, o.2 ∙ ap (λ (q : Output). q.1) e.2 ∙ ap (eval_all project) p.1)

  -- and each row that passes is shown
  pub answer_to : (r : Row) → Has (db 0) r → list_all (holds (params ∷ r ∷ [])) filter ≡ true → Has rows (eval_all project (params ∷ r ∷ []))
  answer_to r h passes =
      let env : Env = params ∷ r ∷ [] in
      let here : Has (passing r) env = rw passes (inl refl) in
      let e = flat_has passing (db 0) r env h here in
      let k : Has a.kept (output (plain_query filter project order) env) = subst (λ l. Has l (output (plain_query filter project order) env)) (sym kept) (map_has (output (plain_query filter project order)) (flat_map passing (db 0)) env e) in
      let o = permuted_has a.kept a.ordered (output (plain_query filter project order) env) a.same k in
      subst (λ l. Has l (eval_all project env)) (sym shown) (map_has (λ (p : Output). p.1) a.ordered (output (plain_query filter project order) env) o)
