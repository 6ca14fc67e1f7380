-- Answers that are heard one after the other.
use Rattle.path_scope.specs.Scope.{Scope}
use Rattle.std.proofs.Common.{◌≡◌, ℕ, ◌+◌, ◌<◌, inl, Bool, true, List, [], ◌∷◌, ◌++◌, length, take, drop, get_or}
use Rattle.std.proofs.Common.{Option, Some, None, Result, Ok, Err, MatchResult, All, refl, sym, ◌∙◌, ap}
use Rattle.std.proofs.Common.{subst, append_assoc}
use Rattle.std.specs.Result.{IsErrAnd}
use Rattle.std.proofs.lemmas.List.{append-nil, drop_more, take_more, take-append-drop}
use Rattle.std.proofs.lemmas.List.Elements.{All-append, All-nil}
use Rattle.std.proofs.lemmas.Result.{err_from_is_err_and}
use Rattle.row_types.specs.Name.{NameFacts}
use Rattle.tree_trait.specs.Asks.{IsAnswerTold}
use Rattle.tree_trait.specs.Heard.{Heard, call_failed, with_answers}
use Rattle.tree_trait.specs.Shown.{ShownTree, StaysStill}
use Rattle.tree_walk.specs.Ends.{GoesByAnswers, StopsAtLast, StopsBetween, IsCause}
use Rattle.tree_walk.specs.Calls.{IsCallFault}
use Rattle.tree_walk.specs.declared.fault.WalkFault.{WalkFault}
use Rattle.tree_walk.specs.declared.fault.WalkFault.TheVariants.{Failed, OutOfMemory}

heard_none : (told : Option (List Heard)) → told ≡ with_answers told []
heard_none None = refl
heard_none (Some entries) = ap (λ (es : List Heard). Some es) (sym (append-nil entries))

heard_both : (told : Option (List Heard)) (more last : List Heard)
    → with_answers (with_answers told more) last ≡ with_answers told (more ++ last)
heard_both None more last = refl
heard_both (Some entries) more last = ap (λ (es : List Heard). Some es) (append_assoc entries more last)

-- nothing was asked
pub goes_none : {V : Type 0} {told : Bool} {tree : ShownTree} {answers : List Heard}
    {Good : List Heard → V → Type 0} {Bad : List Heard → WalkFault → Type 0} {result : Result V WalkFault}
    → MatchResult result (Good answers) (Bad answers) → GoesByAnswers told tree tree answers Good Bad result
goes_none {tree} {answers} {Good} {Bad} {result} h = record {
  more = [];
  heard = heard_none tree.heard;
  tells = λ _ _. All-nil (IsAnswerTold tree.present);
  ends = subst (λ (a : List Heard). MatchResult result (Good a) (Bad a)) (sym (append-nil answers)) h;
}

-- the same answers, behind others and for another result
pub goes_on : {U V : Type 0} {told : Bool} {before after : ShownTree} {first answers : List Heard}
    {Good : List Heard → U → Type 0} {Bad : List Heard → WalkFault → Type 0}
    {NewGood : List Heard → V → Type 0} {NewBad : List Heard → WalkFault → Type 0}
    {result : Result U WalkFault} {next : Result V WalkFault}
    → GoesByAnswers told before after first Good Bad result
    → ((more : List Heard) → MatchResult result (Good (first ++ more)) (Bad (first ++ more))
    → MatchResult next (NewGood (answers ++ more)) (NewBad (answers ++ more)))
    → GoesByAnswers told before after answers NewGood NewBad next
goes_on h f = record { more = h.more; heard = h.heard; tells = h.tells; ends = f h.more h.ends }

-- some answers, and then some more
pub goes_then : {U V X : Type 0} {told : Bool} {before mid after : ShownTree} {answers : List Heard}
    {Good : List Heard → U → Type 0} {Bad : List Heard → WalkFault → Type 0}
    {MidGood : List Heard → V → Type 0} {MidBad : List Heard → WalkFault → Type 0}
    {NewGood : List Heard → X → Type 0} {NewBad : List Heard → WalkFault → Type 0}
    {first : Result U WalkFault} {result : Result V WalkFault} {next : Result X WalkFault}
    → GoesByAnswers told before mid answers Good Bad first → (before.Still → StaysStill before mid)
    → ((more : List Heard) → MatchResult first (Good (answers ++ more)) (Bad (answers ++ more))
    → GoesByAnswers told mid after (answers ++ more) MidGood MidBad result)
    → ((heard : List Heard) → MatchResult result (MidGood heard) (MidBad heard)
    → MatchResult next (NewGood heard) (NewBad heard))
    → GoesByAnswers told before after answers NewGood NewBad next
goes_then {told} {before} {mid} {after} {answers} {MidGood} {MidBad} {NewGood} {NewBad} {result} {next} h still g f =
    let k : GoesByAnswers told mid after (answers ++ h.more) MidGood MidBad result = g h.more h.ends in
    record {
      more = h.more ++ k.more;
      heard = k.heard ∙ ap (λ (t : Option (List Heard)). with_answers t k.more) h.heard
          ∙ heard_both before.heard h.more k.more;
      tells = λ t s. All-append (IsAnswerTold before.present) h.more k.more (h.tells t s)
          (subst (λ (names : List NameFacts). All (IsAnswerTold names) k.more)
          (still s).same (k.tells t (still s).still));
      ends = subst (λ (a : List Heard). MatchResult next (NewGood a) (NewBad a))
          (append_assoc answers h.more k.more) (f ((answers ++ h.more) ++ k.more) k.ends);
    }

-- a fault that is passed up
pub goes_up : {U V : Type 0} {told : Bool} {before after : ShownTree} {first answers : List Heard}
    {Good : List Heard → U → Type 0} {Bad : List Heard → WalkFault → Type 0}
    {NewGood : List Heard → V → Type 0} {NewBad : List Heard → WalkFault → Type 0} {next : Result V WalkFault}
    {fault : WalkFault}
    → IsErrAnd next (λ y. y ≡ fault) → GoesByAnswers told before after first Good Bad (Err fault)
    → ((more : List Heard) → Bad (first ++ more) fault → NewBad (answers ++ more) fault)
    → GoesByAnswers told before after answers NewGood NewBad next
goes_up {V} {told} {before} {after} {answers} {NewGood} {NewBad} {next} {fault} up h f =
    let p = err_from_is_err_and next up in
    let same : next ≡ Err fault = p.1 ∙ ap (λ (y : WalkFault). Err y) p.2 in
    subst (λ (r : Result V WalkFault). GoesByAnswers told before after answers NewGood NewBad r) (sym same)
    (record { more = h.more; heard = h.heard; tells = h.tells; ends = f h.more h.ends })

-- some answers, and then a fault that is passed up
pub goes_then_up : {U V X : Type 0} {told : Bool} {before mid after : ShownTree} {answers : List Heard}
    {Good : List Heard → U → Type 0} {MidGood : List Heard → V → Type 0} {NewGood : List Heard → X → Type 0}
    {Bad NewBad : List Heard → WalkFault → Type 0}
    {first : Result U WalkFault} {next : Result X WalkFault} {fault : WalkFault}
    → IsErrAnd next (λ y. y ≡ fault) → GoesByAnswers told before mid answers Good Bad first
    → (before.Still → StaysStill before mid)
    → ((more : List Heard) → MatchResult first (Good (answers ++ more)) (Bad (answers ++ more))
    → GoesByAnswers told mid after (answers ++ more) MidGood NewBad (Err fault))
    → GoesByAnswers told before after answers NewGood NewBad next
goes_then_up {told} {before} {after} {answers} {MidGood} {NewBad} {fault} up h still g =
    let both : GoesByAnswers told before after answers MidGood NewBad (Err fault) =
    goes_then h still g (λ heard bad. bad) in
    goes_up up both (λ more bad. bad)

-- memory was refused, by these answers
pub memory_ends : {V : Type 0} {answers : List Heard} {scope : Scope} (Good : V → Type 0)
    (result : Result V WalkFault) → IsErrAnd result (λ y. y ≡ OutOfMemory) → IsCause answers scope OutOfMemory
    → MatchResult result Good (IsCause answers scope)
memory_ends Good (Ok x) h cause = absurd h
memory_ends {answers} {scope} Good (Err y) h cause = subst (IsCause answers scope) (sym h) cause

-- memory was refused before anything was asked
pub goes_memory : {V : Type 0} {told : Bool} {tree : ShownTree} {answers : List Heard} {scope : Scope}
    {Good : List Heard → V → Type 0} (result : Result V WalkFault) → IsErrAnd result (λ y. y ≡ OutOfMemory)
    → StopsBetween answers scope → GoesByAnswers told tree tree answers Good (λ heard. IsCause heard scope) result
goes_memory {answers} {Good} result h between = goes_none (memory_ends (Good answers) result h (inl between))

-- a fault of one call, by which the walk ends
pub call_fault : {scope : Scope} (answers more : List Heard) (failed : Heard) (fault : WalkFault)
    → StopsAtLast (answers ++ failed ∷ []) scope (λ last. call_failed last ≡ true) → StopsBetween answers scope
    → IsCallFault failed more fault → IsCause (answers ++ more) scope fault
call_fault {scope} answers more failed Failed last between h =
    subst (λ (m : List Heard). StopsAtLast (answers ++ m) scope (λ last. call_failed last ≡ true)) (sym h) last
call_fault {scope} answers more failed OutOfMemory last between h =
    inl (subst (λ (a : List Heard). StopsBetween a scope)
    (sym (ap (λ (m : List Heard). answers ++ m) h ∙ append-nil answers)) between)
call_fault answers more failed _ last between h = absurd h

-- a list at one of its elements
pub split_at : {X : Type 0} (xs : List X) (i : ℕ) {x : X} → i < length xs → x ≡ get_or xs i x
    → xs ≡ take i xs ++ x ∷ drop (i + 1) xs
split_at xs i {x} within here =
    sym (take-append-drop i xs)
    ∙ ap (λ (r : List _). take i xs ++ r) (drop_more xs i x within ∙ ap (λ z. z ∷ drop (i + 1) xs) (sym here))

pub take_one : {X : Type 0} (xs : List X) (i : ℕ) {x : X} → i < length xs → x ≡ get_or xs i x
    → take i xs ++ x ∷ [] ≡ take (i + 1) xs
take_one xs i {x} within here = ap (λ z. take i xs ++ z ∷ []) here ∙ sym (take_more xs i x within)
