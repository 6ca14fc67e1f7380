-- What a hand that tells files which never change hears of them: no listed file is another, and none stands that isn't
-- listed.
use Rattle.std.proofs.Common.{◌≡◌, ℕ, ◌||◌, Bool, true, false, List, [], ◌∷◌, ◌++◌, refl, sym, ◌∙◌, subst, Some, None, arith}
use Rattle.std.specs.Prelude.{◌&&◌, if◌then◌else◌}
use Rattle.std.specs.List.{All, Contains}
use Rattle.std.specs.Option.{option_or}
use Rattle.std.specs.Str.{bytes_eq}
use Rattle.std.proofs.lemmas.List.Elements.{All-contains, All-cons, All-head, All-nil, All-tail, Contains-append_right}
use Rattle.std.proofs.lemmas.List.Folds.{list_any_at}
use Rattle.std.proofs.lemmas.Slice.Eq.{bytes_eq-Decides}
use Rattle.std.proofs.lemmas.Bool.{and_parts}
use Rattle.path_scope.specs.Scope.{Scope, is_under_root}
use Rattle.row_types.specs.Name.{NameFacts, same_name, stamp_at}
use Rattle.row_types.specs.Stamp.{StampFacts}
use Rattle.scan_queue.specs.Names.{is_in}
use Rattle.scan_queue.specs.declared.miss.Seen.{Seen}
use Rattle.scan_queue.proofs.NameTests.{same_name-Decides}
use Rattle.scan_worker.specs.Read.{FindsOther, heard_opening}
use Rattle.tree_trait.specs.Asks.{IsAnswerTold}
use Rattle.tree_trait.specs.Found.{Versions}
use Rattle.tree_trait.specs.Heard.{Heard, stat}
use Rattle.tree_trait.specs.Open.{OpenFacts, TellsOpening, was_opened, was_too_large, open_gone}
use Rattle.tree_trait.specs.Shown.{ShownTree}
use Rattle.tree_trait.specs.Stat.{TellsStat}
use Rattle.tree_trait.specs.declared.stat.StatAnswer.{StatAnswer}
use Rattle.tree_trait.specs.declared.stat.StatAnswer.TheVariants.{File}
use Rattle.tree_walk.specs.Answers.{first_look, is_look_answer}
use Rattle.tree_walk.specs.declared.walked.Walk.{Walk}
use Rattle.pass_runner.proofs.NameLists.{in_by_stamp, stamp_listed}
use Rattle.pass_runner.specs.Owned.{HearsWalked, TellsStill}
use Rattle.pass_runner.specs.SharedPass.{HeardInPlace, IsStray}

-- what holds of each holds of those in front
pub all_front : {X : Type 0} (P : X → Type 0) (xs ys : List X) → All P (xs ++ ys) → All P xs
all_front P [] ys h = All-nil P
all_front P (x ∷ xs) ys h = All-cons P x xs (All-head P x (xs ++ ys) h) (all_front P xs ys (All-tail P x (xs ++ ys) h))

some_one : {a b : StatAnswer} → Some a ≡ Some b → a ≡ b
some_one e = cc

-- the first look of told answers at a path is told
first_told : (present : List NameFacts) (path : List ℕ) (answers : List Heard) (answer : StatAnswer)
    → All (IsAnswerTold present) answers → first_look answers path ≡ Some answer
    → TellsStat present path answer
first_told present path [] answer told e = absurd (cc)
first_told present path (stat asked given ∷ rest) answer told e =
    look_told (All-head (IsAnswerTold present) (stat asked given) rest told)
    (λ h. first_told present path rest answer (All-tail (IsAnswerTold present) (stat asked given) rest told) h)
    (bytes_eq asked path) refl (is_look_answer given) e
  where
    look_told : TellsStat present asked given
        → (first_look rest path ≡ Some answer → TellsStat present path answer) → (same : Bool)
        → bytes_eq asked path ≡ same → (answered : Bool)
        → option_or (if same && answered then Some given else None) (first_look rest path) ≡ Some answer
        → TellsStat present path answer
    look_told here later true is true e =
        subst (λ (a : StatAnswer). TellsStat present path a) (some_one e)
        (subst (λ (p : List ℕ). TellsStat present p given) ((bytes_eq-Decides asked path).0 is) here)
    look_told here later true is false e = later e
    look_told here later false is answered e = later e
first_told present path (asked ∷ rest) answer told e =
    first_told present path rest answer (All-tail (IsAnswerTold present) asked rest told) e

-- an opening of the files that are there shows no other file
none_other : (present : List NameFacts) (name : NameFacts) (answer : OpenFacts) (met : Seen)
    → stamp_at present name.path ≡ Some name.stamp → TellsOpening present name.path answer
    → FindsOther name answer met → ⊥
none_other present name (was_opened stamp) met there tells finds = finds.0 (cc)
none_other present name (was_too_large stamp) met there tells finds = finds.0 (cc)
none_other present name open_gone met there tells finds = absurd (cc)
none_other present name _ met there tells finds = finds

-- a name of the list is one of its elements
contained : (names : List NameFacts) (name : NameFacts) → is_in names name ≡ true → Contains names name
contained [] name e = absurd (cc)
contained (n ∷ names) name e = step (same_name name n) refl (λ h. contained names name h) e
  where
    step : (b : Bool) → same_name name n ≡ b → (is_in names name ≡ true → Contains names name)
        → (b || is_in names name) ≡ true → Contains (n ∷ names) name
    step true same further here = (0, omega arith, sym ((same_name-Decides name n).0 same))
    step false differs further later = Contains-append_right (n ∷ []) names name (further later)

-- and so back
is_contained : (names : List NameFacts) (name : NameFacts) → Contains names name → is_in names name ≡ true
is_contained names name h =
    list_any_at (same_name name) names h.0 name h.1
    (subst (λ (n : NameFacts). same_name name n ≡ true) (sym h.2) ((same_name-Decides name name).1 refl))

no_stamp : {stamp : StampFacts} → None ≡ Some stamp → ⊥
no_stamp e = absurd (cc)

module _ {told : Bool} {version : Versions} {scope : Scope} {walk : Walk} {walked more : List Heard}
    {before after : ShownTree} (hears : HearsWalked told version scope walk walked more before after)
    (still : TellsStill told before) (name : NameFacts) where
  -- a listed file was another
  pub never_other : (met : Seen) → stamp_at walk.listing name.path ≡ Some name.stamp → HeardInPlace more name met → ⊥
  never_other met listed why =
      let member : Contains walk.listing name
      = contained walk.listing name (in_by_stamp name.path name.stamp walk.listing listed) in
      let there = first_told before.present name.path walked (File name.stamp)
      (all_front (IsAnswerTold before.present) walked more (hears.tells still)) ((hears.whole.listing.all name).0 member).file in
      none_other before.present name why.answer met there
      (All-contains (IsAnswerTold before.present) (walked ++ more) (heard_opening name why.answer) (hears.tells still)
      (Contains-append_right walked more (heard_opening name why.answer) why.heard))
      why.other

  -- a file stood that isn't listed
  pub never_there : IsStray walk.listing scope name.path → Contains more (stat name.path (File name.stamp)) → ⊥
  never_there stray heard =
      let look = stat name.path (File name.stamp) in
      let inside = and_parts (is_under_root scope name.path) (scope.takes name.path) stray.inside in
      let there : stamp_at before.present name.path ≡ Some name.stamp
      = All-contains (IsAnswerTold before.present) (walked ++ more) look (hears.tells still)
      (Contains-append_right walked more look heard) in
      let listed : Contains walk.listing name
      = ((hears.under still).all name).1
      (record {
        there = contained before.present name (in_by_stamp name.path name.stamp before.present there);
        under = inside.0;
        taken = inside.1;
        short = stray.short;
      }) in
      let stamped : stamp_at walk.listing name.path ≡ Some name.stamp
      = stamp_listed name walk.listing hears.whole.listing.by_path (is_contained walk.listing name listed) in
      no_stamp (sym stray.unlisted ∙ stamped)
