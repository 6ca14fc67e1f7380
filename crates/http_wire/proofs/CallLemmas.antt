-- Lists that are told and grow, and calls that come one after the other.
use Rattle.std.proofs.Common.{◌≡◌, ℕ, ◌<◌, List, [], ◌∷◌, ◌++◌, length, map, Option, Some, None}
use Rattle.std.proofs.Common.{refl, sym, ap, ◌∙◌, subst, arith, append_assoc}
use Rattle.std.specs.List.{concat}
use Rattle.std.proofs.lemmas.List.{append-nil, map-append}
use Rattle.std.proofs.lemmas.List.Folds.{concat-append}
use Rattle.std.proofs.lemmas.Option.{same_Some}
use Rattle.http_wire.specs.Calls.{AreCalls, StreamCall, one_call}
use Rattle.http_wire.specs.Told.{Gains}

-- some were told, and then more
pub gains_both : {A : Type 0} (old mid new : Option (List A)) (a b : List A) → Gains old a mid → Gains mid b new
    → Gains old (a ++ b) new
gains_both old None None a b first next_ some = absurd (cc)
gains_both old None (Some n) a b first next_ some = let e = next_ refl in absurd (cc)
gains_both None (Some m) new a b first next_ some = let e = first refl in absurd (cc)
gains_both (Some o) (Some m) new a b first next_ some =
    let same = same_Some m (o ++ a) (first refl) in
    next_ some ∙ ap (λ x. Some (x ++ b)) same ∙ ap Some (append_assoc o a b)

-- nothing more was told
pub gains_nothing : {A : Type 0} (told : Option (List A)) → Gains told [] told
gains_nothing None some = absurd (cc)
gains_nothing (Some all) some = ap Some (sym (append-nil all))

-- a call that gave or took some bytes is one
pub one_call_some : (kind : List ℕ → StreamCall) (bytes : List ℕ) → 0 < length bytes → one_call kind bytes ≡ kind bytes ∷ []
one_call_some kind [] some = absurd (omega arith)
one_call_some kind (byte ∷ bytes) some = refl

-- no call
abbrev pub calls_none : (kind : List ℕ → StreamCall) (told : Option (List StreamCall)) → AreCalls kind [] told told
calls_none kind told = record { pieces = []; all = refl; told = gains_nothing told }

-- one call, or none
pub calls_one : (kind : List ℕ → StreamCall) (bytes : List ℕ) (before after : Option (List StreamCall))
    → Gains before (one_call kind bytes) after → AreCalls kind bytes before after
calls_one kind [] before after told = record { pieces = []; all = refl; told = told }
calls_one kind (byte ∷ bytes) before after told = record {
  pieces = (byte ∷ bytes) ∷ [];
  all = sym (append-nil (byte ∷ bytes));
  told = told;
}

-- calls, and then more
abbrev pub calls_both : {kind : List ℕ → StreamCall} {a b : List ℕ} {before mid after : Option (List StreamCall)}
    → AreCalls kind a before mid → AreCalls kind b mid after → AreCalls kind (a ++ b) before after
calls_both {kind} {a} {b} {before} {mid} {after} first next_ = record {
  pieces = first.pieces ++ next_.pieces;
  all = ap (λ front. front ++ b) first.all ∙ ap (λ tail. concat first.pieces ++ tail) next_.all
      ∙ sym (concat-append first.pieces next_.pieces);
  told = subst (λ calls. Gains before calls after) (sym (map-append kind first.pieces next_.pieces))
      (gains_both before mid after (map kind first.pieces) (map kind next_.pieces) first.told next_.told);
}
