-- Beginnings of one list.
use Rattle.std.proofs.Common.{◌≡◌, ◌≤◌, Bool, true, false, List, [], ◌∷◌, ◌++◌, length, refl, sym, ap, ◌∙◌, arith, append_assoc, nat_lt}
use Rattle.std.proofs.lemmas.List.{append-nil}
use Rattle.std.proofs.lemmas.Bool.Decides.{nat_tests}
use mathlib.Core.List.{IsPrefix}
use Rattle.std.specs.Prelude.{if◌then◌else◌}
use Rattle.index_lock.specs.Tokens.{longer}

module _ {A : Type 0} where
  -- a list begins with itself
  pub prefix_self : (xs : List A) → IsPrefix xs xs
  prefix_self xs = ([], append-nil xs)

  pub prefix_of_same : (xs ys : List A) → xs ≡ ys → IsPrefix xs ys
  prefix_of_same xs ys e = ([], append-nil xs ∙ e)

  -- a beginning of a beginning is a beginning
  pub prefix_trans : (xs ys zs : List A) → IsPrefix xs ys → IsPrefix ys zs → IsPrefix xs zs
  prefix_trans xs ys zs p q =
      (p.0 ++ q.0, sym (append_assoc xs p.0 q.0) ∙ (ap (λ (w : List A). w ++ q.0) p.1 ∙ q.1))

  -- of two beginnings of one list the shorter begins the longer
  pub prefix_shorter : (xs ys zs : List A) → IsPrefix xs zs → IsPrefix ys zs → length xs ≤ length ys
      → IsPrefix xs ys
  prefix_shorter [] ys zs p q le = (ys, refl)
  prefix_shorter (x ∷ xs) [] zs p q le = absurd (omega arith)
  prefix_shorter (x ∷ xs) (y ∷ ys) [] p q le = absurd (cc (p.1))
  prefix_shorter (x ∷ xs) (y ∷ ys) (z ∷ zs) p q le =
      let heads : x ≡ y = cc (p.1, q.1) in
      let rest = prefix_shorter xs ys zs (p.0, cc (p.1)) (q.0, cc (q.1)) (omega arith) in
      (rest.0, cc (heads, rest.1))

  -- of two beginnings of one list, the longer is one too, and begins with both
  longer_by : (xs ys zs : List A) (b : Bool) → nat_lt (length xs) (length ys) ≡ b → IsPrefix xs zs
      → IsPrefix ys zs
      → IsPrefix (if b then ys else xs) zs × IsPrefix xs (if b then ys else xs)
      × IsPrefix ys (if b then ys else xs)
  longer_by xs ys zs true is p q =
      let le : length xs ≤ length ys =
      grind (arith, nat_tests) in (q, prefix_shorter xs ys zs p q le, prefix_self ys)
  longer_by xs ys zs false is p q =
      let le : length ys ≤ length xs =
      grind (arith, nat_tests) in (p, prefix_self xs, prefix_shorter ys xs zs q p le)

  pub longer_begins : (xs ys zs : List A) → IsPrefix xs zs → IsPrefix ys zs
      → IsPrefix (longer xs ys) zs × IsPrefix xs (longer xs ys) × IsPrefix ys (longer xs ys)
  longer_begins xs ys zs p q = longer_by xs ys zs (nat_lt (length xs) (length ys)) refl p q
