-- The looks of a hand, one after the other.
use Rattle.std.proofs.Common.{◌≡◌, ℕ, ◌+◌, ◌≤◌, Bool, true, false, cond, List, [], ◌++◌, refl, sym, ap, subst, arith}
use Rattle.std.specs.List.{count_by}
use Rattle.std.specs.Bool.{OnTrue, OnFalse}
use Rattle.std.proofs.lemmas.Bool.{OnTrue_at, OnFalse_at}
use Rattle.std.proofs.lemmas.List.Elements.{All-nil, All-append}
use Rattle.std.proofs.lemmas.List.Sums.{sum_by-append}
use Rattle.row_types.specs.Faults.{raised}
use Rattle.row_types.specs.Name.{NameFacts}
use Rattle.scan_queue.specs.declared.miss.Seen.{Seen}
use Rattle.scan_queue.specs.declared.miss.Seen.TheVariants as seen
use Rattle.tree_trait.specs.Found.{Versions}
use Rattle.tree_trait.specs.Heard.{Heard, stat, call_failed}
use Rattle.tree_trait.specs.Shown.{ShownTree}
use Rattle.tree_trait.specs.declared.stat.StatAnswer.{StatAnswer}
use Rattle.tree_trait.specs.declared.stat.StatAnswer.TheVariants as said
use Rattle.groomer.specs.Judged.{miss_of}
use Rattle.tree_trait.specs.Listens.{heard_or_none}
use Rattle.groomer.specs.Looks.{HandLooks, IsLook, LooksAtName, looked_of, may_miss}
use Rattle.groomer.specs.declared.looking.Looked.TheVariants as looked
use Rattle.tree_trait.proofs.ListenLemmas.{all_heard, listens_none, listens_one, listens_then}

-- the questions of which a test says yes, in two lists one behind the other
counts_both : (test : Heard → Bool) (xs ys : List Heard) → count_by test (xs ++ ys) ≡ count_by test xs + count_by test ys
counts_both test xs ys = sum_by-append (λ (asked : Heard). cond (test asked) 1 0) xs ys

-- of a look that saw something it isn't said that it failed
none_failed : (path : List ℕ) (answer : StatAnswer) (met : Seen) → looked.Saw met ≡ looked_of answer
    → count_by call_failed (heard_or_none (stat path answer)) ≡ 0
none_failed path said.Folder met saw = refl
none_failed path (said.File stamp) met saw = refl
none_failed path said.Other met saw = refl
none_failed path said.Gone met saw = refl
none_failed path said.Failed met saw = absurd (cc)
none_failed path said.OutOfMemory met saw = absurd (cc)

-- a name is missed by it only where it found a file
file_found : (path : List ℕ) (answer : StatAnswer) (met : Seen) → looked.Saw met ≡ looked_of answer
    → miss_of met ≡ count_by may_miss (heard_or_none (stat path answer))
file_found path said.Folder met saw = let is : met ≡ seen.Other = cc in ap miss_of is
file_found path (said.File stamp) met saw = let is : met ≡ seen.File stamp = cc in ap miss_of is
file_found path said.Other met saw = let is : met ≡ seen.Other = cc in ap miss_of is
file_found path said.Gone met saw = let is : met ≡ seen.Gone = cc in ap miss_of is
file_found path said.Failed met saw = absurd (cc)
file_found path said.OutOfMemory met saw = absurd (cc)

-- a look that failed is one that failed
one_failed : (path : List ℕ) (answer : StatAnswer) → looked.Failed ≡ looked_of answer
    → count_by call_failed (heard_or_none (stat path answer)) ≡ 1
one_failed path said.Failed saw = refl
one_failed path said.Folder saw = absurd (cc)
one_failed path (said.File stamp) saw = absurd (cc)
one_failed path said.Other saw = absurd (cc)
one_failed path said.Gone saw = absurd (cc)
one_failed path said.OutOfMemory saw = absurd (cc)

one_counted : (path : List ℕ) (answer : StatAnswer) → looked.Failed ≡ looked_of answer
    → count_by may_miss (heard_or_none (stat path answer)) ≡ 1
one_counted path said.Failed saw = refl
one_counted path said.Folder saw = absurd (cc)
one_counted path (said.File stamp) saw = absurd (cc)
one_counted path said.Other saw = absurd (cc)
one_counted path said.Gone saw = absurd (cc)
one_counted path said.OutOfMemory saw = absurd (cc)

-- of a look for which memory was refused nothing is heard
none_heard : (path : List ℕ) (answer : StatAnswer) → looked.OutOfMemory ≡ looked_of answer
    → heard_or_none (stat path answer) ≡ []
none_heard path said.OutOfMemory saw = refl
none_heard path said.Failed saw = absurd (cc)
none_heard path said.Folder saw = absurd (cc)
none_heard path (said.File stamp) saw = absurd (cc)
none_heard path said.Other saw = absurd (cc)
none_heard path said.Gone saw = absurd (cc)

saw_same : {a b : Seen} → looked.Saw a ≡ looked.Saw b → a ≡ b
saw_same e = cc

module _ {told : Bool} {version : Versions} where
  -- no look was made
  pub looks_none : {hand : ShownTree} {missed more_missed : ℕ} → missed ≡ more_missed
      → HandLooks told version hand hand missed more_missed
  looks_none {hand} same = record {
    more = [];
    listens = listens_none;
    looks = All-nil IsLook;
    failed = omega (arith, same);
    counted = omega (arith, same);
  }

  -- one after the other
  pub looks_then : {before mid after : ShownTree} {first second third : ℕ} → HandLooks told version before mid first second
      → HandLooks told version mid after second third → HandLooks told version before after first third
  looks_then {first = first} {second = second} {third = third} p q =
      let failed = counts_both call_failed p.more q.more in
      let counted = counts_both may_miss p.more q.more in
      record {
        more = p.more ++ q.more;
        listens = listens_then p.listens q.listens;
        looks = All-append IsLook p.more q.more p.looks q.looks;
        failed = omega (arith, failed, p.failed, q.failed);
        counted = omega (arith, counted, p.counted, q.counted);
      }

  -- a look saw something
  at_saw : {before after : ShownTree} {name : NameFacts} {met : Seen} {missed more_missed : ℕ}
      → LooksAtName told version name before after (looked.Saw met) → missed ≤ more_missed
      → more_missed ≤ missed + miss_of met → HandLooks told version before after missed more_missed
  at_saw {name = name} {met = met} at least most =
      let none = none_failed name.path at.answer met at.saw in
      let found = file_found name.path at.answer met at.saw in
      record {
        more = heard_or_none (stat name.path at.answer);
        listens = listens_one (stat name.path at.answer) at.asks;
        looks = all_heard IsLook (stat name.path at.answer) tt;
        failed = omega (arith, none, least);
        counted = omega (arith, found, most);
      }

  -- a look failed
  at_failed : {before after : ShownTree} {name : NameFacts} {missed more_missed : ℕ}
      → LooksAtName told version name before after looked.Failed → more_missed ≡ raised missed
      → HandLooks told version before after missed more_missed
  at_failed {name = name} at more =
      let one = one_failed name.path at.answer at.saw in
      let counted = one_counted name.path at.answer at.saw in
      record {
        more = heard_or_none (stat name.path at.answer);
        listens = listens_one (stat name.path at.answer) at.asks;
        looks = all_heard IsLook (stat name.path at.answer) tt;
        failed = omega (arith, one, more);
        counted = omega (arith, counted, more);
      }

  -- memory for a look was refused
  at_blind : {before after : ShownTree} {name : NameFacts} {missed : ℕ}
      → LooksAtName told version name before after looked.OutOfMemory → HandLooks told version before after missed missed
  at_blind {name = name} at =
      let none = none_heard name.path at.answer at.saw in
      let failed = ap (λ (asked : List Heard). count_by call_failed asked) none in
      let counted = ap (λ (asked : List Heard). count_by may_miss asked) none in
      record {
        more = heard_or_none (stat name.path at.answer);
        listens = listens_one (stat name.path at.answer) at.asks;
        looks = all_heard IsLook (stat name.path at.answer) tt;
        failed = omega (arith, failed);
        counted = omega (arith, counted);
      }

-- what was looked for, at a path under a root or not
module _ {told : Bool} {version : Versions} {T : Type 0} (shows : T → ShownTree) (before after : T) (under : Bool) (name : NameFacts) where
  none_asked : {missed more_missed : ℕ} → after ≡ before → missed ≡ more_missed
      → HandLooks told version (shows before) (shows after) missed more_missed
  none_asked {missed} {more_missed} same counted =
      subst (λ (t : T). HandLooks told version (shows before) (shows t) missed more_missed) (sym same) (looks_none counted)

  -- something was seen
  pub looks_saw : (met : Seen) {missed more_missed : ℕ}
      → OnTrue under (LooksAtName told version name (shows before) (shows after) (looked.Saw met))
      → OnFalse under (looked.Saw met ≡ looked.Saw seen.Gone) → OnFalse under (after ≡ before)
      → missed ≤ more_missed → more_missed ≤ missed + miss_of met
      → HandLooks told version (shows before) (shows after) missed more_missed
  looks_saw met {missed} {more_missed} at gone same least most =
      elim under as (λ b. under ≡ b → HandLooks told version (shows before) (shows after) missed more_missed) [
        | true ↦ λ is. at_saw (OnTrue_at is at) least most
        | false ↦ λ is.
            let none : met ≡ seen.Gone = saw_same (OnFalse_at is gone) in
            let zero : miss_of met ≡ 0 = ap miss_of none in
            none_asked (OnFalse_at is same) (omega (arith, least, most, zero))
      ] refl

  -- the look failed
  pub looks_failed : {missed more_missed : ℕ}
      → OnTrue under (LooksAtName told version name (shows before) (shows after) looked.Failed)
      → OnFalse under (looked.Failed ≡ looked.Saw seen.Gone) → more_missed ≡ raised missed
      → HandLooks told version (shows before) (shows after) missed more_missed
  looks_failed {missed} {more_missed} at gone more =
      elim under as (λ b. under ≡ b → HandLooks told version (shows before) (shows after) missed more_missed) [
        | true ↦ λ is. at_failed (OnTrue_at is at) more
        | false ↦ λ is. let never = OnFalse_at is gone in absurd (cc)
      ] refl

  -- memory for it was refused
  pub looks_blind : {missed : ℕ} → OnTrue under (LooksAtName told version name (shows before) (shows after) looked.OutOfMemory)
      → OnFalse under (looked.OutOfMemory ≡ looked.Saw seen.Gone)
      → HandLooks told version (shows before) (shows after) missed missed
  looks_blind {missed} at gone =
      elim under as (λ b. under ≡ b → HandLooks told version (shows before) (shows after) missed missed) [
        | true ↦ λ is. at_blind (OnTrue_at is at)
        | false ↦ λ is. let never = OnFalse_at is gone in absurd (cc)
      ] refl
