-- Members of lists.
use Rattle.std.proofs.Common.{◌≡◌, ◌⊎◌, inl, inr, Bool, true, false, cond, List, [], ◌∷◌, ◌++◌, refl, sym, ◌∙◌, ap, subst}
use Rattle.std.specs.List.{All, filter}
use Rattle.std.proofs.lemmas.List.Elements.{All-cons, All-head, All-tail, All-nil}

-- x is among the list
abbrev pub Has : {X : Type 0} → List X → X → Type 0
Has [] x = ⊥
Has (y ∷ ys) x = (x ≡ y) ⊎ Has ys x

pub all_has : {X : Type 0} (P : X → Type 0) (xs : List X) (x : X) → All P xs → Has xs x → P x
all_has P [] x all h = absurd h
all_has P (y ∷ ys) x all (inl e) = subst P (sym e) (All-head P y ys all)
all_has P (y ∷ ys) x all (inr h) = all_has P ys x (All-tail P y ys all) h

pub all_from : {X : Type 0} (P : X → Type 0) (xs : List X) → ((x : X) → Has xs x → P x) → All P xs
all_from P [] h = All-nil P
all_from P (x ∷ xs) h = All-cons P x xs (h x (inl refl)) (all_from P xs (λ y g. h y (inr g)))

pub has_left : {X : Type 0} (xs ys : List X) (x : X) → Has xs x → Has (xs ++ ys) x
has_left [] ys x h = absurd h
has_left (y ∷ xs) ys x (inl e) = inl e
has_left (y ∷ xs) ys x (inr h) = inr (has_left xs ys x h)

pub has_right : {X : Type 0} (xs ys : List X) (x : X) → Has ys x → Has (xs ++ ys) x
has_right [] ys x h = h
has_right (y ∷ xs) ys x h = inr (has_right xs ys x h)

pub has_either : {X : Type 0} (xs ys : List X) (x : X) → Has (xs ++ ys) x → Has xs x ⊎ Has ys x
has_either [] ys x h = inr h
has_either (y ∷ xs) ys x (inl e) = inl (inl e)
has_either (y ∷ xs) ys x (inr h) = elim (has_either xs ys x h) [ inl a ↦ inl (inr a) | inr b ↦ inr b ]

pub has_filter : {X : Type 0} (p : X → Bool) (xs : List X) (x : X) → Has (filter p xs) x → Has xs x × (p x ≡ true)
has_filter p [] x h = absurd h
has_filter p (y ∷ ys) x h =
    elim (p y) as (λ b. p y ≡ b → Has (cond b (y ∷ filter p ys) (filter p ys)) x → Has (y ∷ ys) x × (p x ≡ true)) [
      | true ↦ λ e has. here e (λ rest. has_filter p ys x rest) has
      | false ↦ λ e has. later (has_filter p ys x has)
    ] refl h
  where
    later : Has ys x × (p x ≡ true) → Has (y ∷ ys) x × (p x ≡ true)
    later r = (inr r.0, r.1)

    here : p y ≡ true → (Has (filter p ys) x → Has ys x × (p x ≡ true)) → Has (y ∷ filter p ys) x → Has (y ∷ ys) x × (p x ≡ true)
    here e rests (inl same) = (inl same, ap p same ∙ e)
    here e rests (inr rest) = later (rests rest)

pub filter_has : {X : Type 0} (p : X → Bool) (xs : List X) (x : X) → Has xs x → p x ≡ true → Has (filter p xs) x
filter_has p [] x h e = absurd h
filter_has p (y ∷ ys) x (inl same) e =
    let passes : p y ≡ true = sym (ap p same) ∙ e in
    rw passes (inl same)
filter_has p (y ∷ ys) x (inr h) e =
    elim (p y) as (λ b. Has (cond b (y ∷ filter p ys) (filter p ys)) x) [ true ↦ inr (filter_has p ys x h e) | false ↦ filter_has p ys x h e ]
