-- Lists that are told, and only grow.
use Rattle.std.proofs.Common.{◌≡◌, List, [], ◌++◌, Option, Some, None, refl, sym, ap, subst, ◌∙◌, append_assoc, append-nil}
use Rattle.std.specs.Option.{IsSome, option_map}
use Rattle.std.proofs.lemmas.Bool.{false≢true}
use Rattle.http_wire.specs.Told.{Gains}

module _ {A : Type 0} where
  -- nothing was added
  pub gains_none : (told : Option (List A)) → Gains told [] told
  gains_none None = λ some. refl
  gains_none (Some all) = λ some. ap (λ (xs : List A). Some xs) (sym (append-nil all))

  both_ends : (told : Option (List A)) (first rest : List A)
      → option_map (λ all. all ++ rest) (option_map (λ all. all ++ first) told) ≡ option_map (λ all. all ++ (first ++ rest)) told
  both_ends None first rest = refl
  both_ends (Some all) first rest = ap (λ (xs : List A). Some xs) (append_assoc all first rest)

  -- something was added, and then more
  pub gains_more : (old mid new : Option (List A)) (first rest : List A) → Gains old first mid → Gains mid rest new
      → Gains old (first ++ rest) new
  gains_more old None new first rest one more =
      λ some. absurd (false≢true (subst (λ (told : Option (List A)). IsSome told) (more some) some))
  gains_more old (Some all) new first rest one more =
      λ some. more some ∙ (ap (λ (told : Option (List A)). option_map (λ xs. xs ++ rest) told) (one refl) ∙ both_ends old first rest)
