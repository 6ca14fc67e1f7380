-- The names that were missed, in each step: those for which an opening found another file are among them.
use Rattle.std.proofs.Common.{◌≡◌, ℕ, ◌≤◌, ◌||◌, inl, inr, Bool, true, false, cond, List, [], ◌∷◌, ◌++◌, Option, Some, None, refl, sym, ◌∙◌, ap, subst, arith}
use Rattle.std.specs.List.{All, count_by}
use Rattle.std.specs.Option.{option_map}
use Rattle.std.specs.Prelude.{IfSome}
use Rattle.std.proofs.lemmas.Bool.{false_from_ne_true, or_left, or_right, true≢false}
use Rattle.std.proofs.lemmas.Cmp.{nat_list_cmp_total}
use Rattle.std.proofs.lemmas.List.{map-append}
use Rattle.std.proofs.lemmas.List.Elements.{All-contains, All-weaker}
use Rattle.std.proofs.lemmas.List.Folds.{list_any_none}
use Rattle.std.proofs.lemmas.List.Sums.{sum_by-append, sum_by-cons}
use Rattle.std.proofs.lemmas.Slice.Eq.{bytes_eq-Decides}
use Rattle.row_types.specs.Ascends.{IsBefore}
use Rattle.row_types.specs.Name.{NameFacts, same_name}
use Rattle.row_types.specs.Row.{RowFacts}
use Rattle.scan_queue.specs.Names.{IsByPath, is_in}
use Rattle.scan_queue.specs.Pass.{AddsElement, InOrder, IsPass, PassFacts, Precedes, first_missed, left, missed_names}
use Rattle.scan_queue.specs.declared.miss.Cause.{Cause}
use Rattle.scan_queue.specs.declared.miss.Miss.{Miss}
use Rattle.scan_queue.specs.declared.miss.Seen.{Seen}
use Rattle.scan_queue.proofs.Leaves.{without_names}
use Rattle.scan_queue.proofs.NameTests.{path_differs}
use Rattle.scan_queue.proofs.Picks.{head_pairs}
use Rattle.index_state.specs.Away.{MissesOut}
use Rattle.index_state.specs.State.{StateFacts, pass_or_none}
use Rattle.index_state.proofs.Members.{differs_in, in_without_other, same_name_self}
use Rattle.index_state.proofs.PassSteps.{in_added}
use Rattle.scan_worker.specs.Read.{FailsToRead, FindsOther, MayWant, ReadsListed, heard_opening, heard_reading}
use Rattle.tree_trait.specs.Fills.{IsReadOfFile}
use Rattle.tree_trait.specs.Heard.{Heard, open_file}
use Rattle.tree_trait.specs.Open.{OpenFacts, was_opened, was_too_large, open_failed, open_no_memory}
use Rattle.pass_runner.specs.Settled.{AlteredAreMissed, IsHeardAltered, MissesStay, is_missed}
use Rattle.pass_runner.specs.Turns.{IsLookAmong}
use Rattle.pass_runner.proofs.NameLists.{one_name}
use Rattle.pass_runner.proofs.ReadsHeard.{that_opening}

-- a name of a list is counted in it
counted : (name : NameFacts) (names : List NameFacts) → is_in names name ≡ true → 1 ≤ count_by (same_name name) names
counted name [] e = absurd (true≢false (sym e))
counted name (n ∷ names) e =
    let whole = sum_by-cons (λ (x : NameFacts). cond (same_name name x) 1 0) n names in
    elim (same_name name n) as (λ b. same_name name n ≡ b → (b || is_in names name) ≡ true → 1 ≤ count_by (same_name name) (n ∷ names)) [
      | true ↦ λ same here. let one = ap {B = ℕ} (λ (b : Bool). cond b 1 0) same in omega (arith, whole, one)
      | false ↦ λ differs later. let rest = counted name names later in omega (arith, whole, rest)
    ] refl e

-- a name that is out wasn't missed
out_unmissed : (pass : PassFacts) (name : NameFacts) → IsPass pass → is_in pass.out name ≡ true
    → is_in (missed_names pass.missed) name ≡ false
out_unmissed pass name place out =
    false_from_ne_true (is_in (missed_names pass.missed) name) (λ missed.
    let test : NameFacts → ℕ = λ (x : NameFacts). cond (same_name name x) 1 0 in
    let one = place.once name in
    let a = sum_by-append test (pass.todo ++ pass.out ++ pass.groom) (missed_names pass.missed) in
    let b = sum_by-append test (pass.todo ++ pass.out) pass.groom in
    let c = sum_by-append test pass.todo pass.out in
    let d = counted name pass.out out in
    let e = counted name (missed_names pass.missed) missed in
    omega (arith, one, a, b, c, d, e))

-- so it is another one than a name that was
pub out_differs : (pass : Option PassFacts) (name other : NameFacts) → IfSome pass IsPass → is_in (pass_or_none pass).out name ≡ true
    → is_in (missed_names (pass_or_none pass).missed) other ≡ true → same_name other name ≡ false
out_differs None name other place out missed = absurd (true≢false (sym out))
out_differs (Some p) name other place out missed =
    differs_in (missed_names p.missed) other name missed (out_unmissed p name place out)

-- a name that was missed is missed still once another one left
pub left_still : (name other : NameFacts) (pass : Option PassFacts) → same_name other name ≡ false
    → is_in (missed_names (pass_or_none pass).missed) other ≡ true
    → is_in (missed_names (pass_or_none (option_map (left name) pass)).missed) other ≡ true
left_still name other None differs missed = missed
left_still name other (Some p) differs missed =
    ap (λ (l : List NameFacts). is_in l other) (sym (without_names name p.missed))
    ∙ in_without_other name other (missed_names p.missed) differs ∙ missed

-- the names of missed ones, of which one is more
names_added : (m : Miss) (before after : List Miss) → AddsElement m before after → AddsElement m.name (missed_names before) (missed_names after)
names_added m before after adds = record {
  front = missed_names adds.front;
  back = missed_names adds.back;
  old = ap missed_names adds.old ∙ map-append (λ (x : Miss). x.name) adds.front adds.back;
  new = ap missed_names adds.new ∙ map-append (λ (x : Miss). x.name) adds.front (m ∷ adds.back);
}

-- as many were missed
pub still_same : {K : Type 0} (old new : StateFacts K) (listing : List NameFacts) → (pass_or_none new.pass).missed ≡ (pass_or_none old.pass).missed
    → MissesStay listing old new
still_same old new listing same = λ name listed missed. ap (λ (ms : List Miss). is_in (missed_names ms) name) same ∙ missed

module _ {K : Type 0} {old new : StateFacts K} where
  missed_now : {name : NameFacts} {cause : Cause} → MissesOut name cause old true new → (n : NameFacts)
      → is_missed new n ≡ (same_name n name || is_missed old n)
  missed_now {name} {cause} misses n =
      ap (λ (o : Option PassFacts). is_in (missed_names (pass_or_none o).missed) n) misses.missed.is
      ∙ in_added name n (missed_names misses.missed.from.missed) (missed_names misses.missed.into.missed)
      (names_added (record { name = name; cause = cause }) misses.missed.from.missed misses.missed.into.missed misses.missed.step.missed)
      ∙ ap (λ (o : Option PassFacts). same_name n name || is_in (missed_names (pass_or_none o).missed) n) (sym misses.missed.was)

  -- or one more
  pub still_more : {name : NameFacts} {cause : Cause} (listing : List NameFacts) → MissesOut name cause old true new
      → MissesStay listing old new
  still_more {name} listing misses = λ n listed missed. missed_now misses n ∙ or_right (same_name n name) (is_missed old n) missed

  -- and that one is missed
  pub missed_self : {name : NameFacts} {cause : Cause} (was_out : Bool) → is_in (pass_or_none old.pass).out name ≡ true
      → MissesOut name cause old was_out new → is_missed new name ≡ true
  missed_self {name} true out misses =
      missed_now misses name ∙ or_left (same_name name name) (is_missed old name) (same_name_self name)
  missed_self false out misses = absurd (true≢false (sym out ∙ misses.missed.absent))

-- no name that was missed stands before the first
pub first_least : (listing : List NameFacts) (missed : List Miss) (miss : Miss) → InOrder listing (missed_names missed)
    → first_missed missed ≡ Some miss → (name : NameFacts) → is_in (missed_names missed) name ≡ true
    → IsBefore name.path miss.name.path → ⊥
first_least listing [] miss order first name there before = absurd (cc)
first_least listing (m ∷ ms) miss order first name there before =
    let others : All (λ (n : NameFacts). same_name name n ≡ false) (missed_names ms) =
    All-weaker (Precedes listing m.name) (λ (n : NameFacts). same_name name n ≡ false) behind (missed_names ms)
    (head_pairs (Precedes listing) m.name (missed_names ms) order) in
    true≢false
    (sym there ∙ ap (λ (b : Bool). b || is_in (missed_names ms) name) (path_differs name m.name sooner)
    ∙ list_any_none (same_name name) (missed_names ms) others)
  where
    some : (x : Miss) → Some x ≡ Some miss → x ≡ miss
    some x h = cc

    sooner : IsBefore name.path m.name.path
    sooner = subst (λ (x : Miss). IsBefore name.path x.name.path) (sym (some m first)) before

    behind : (n : NameFacts) → Precedes listing m.name n → same_name name n ≡ false
    behind n (inl later) = path_differs name n (nat_list_cmp_total.trans name.path m.name.path n.path sooner later)
    behind n (inr one) = path_differs name n (subst (λ (p : List ℕ). IsBefore name.path p) one.0 sooner)

-- where nothing was heard, or looks alone, no file was heard altered
pub unaltered_none : {K : Type 0} (listing : List NameFacts) (state : StateFacts K) → AlteredAreMissed listing [] state
unaltered_none listing state = λ name met h. absurd (omega (arith, h.heard.1))

pub unaltered_looks : {K : Type 0} (listing : List NameFacts) (looks : List ℕ → Bool) (answers : List Heard) (state : StateFacts K)
    → All (IsLookAmong looks) answers → AlteredAreMissed listing answers state
unaltered_looks listing looks answers state asked = λ name met h.
    absurd (All-contains (IsLookAmong looks) answers (heard_opening name h.answer) asked h.heard)

same_opening : {p q : List ℕ} {l m : ℕ} {a b : OpenFacts} → open_file p l a ≡ open_file q m b → (p ≡ q) × (a ≡ b)
same_opening e = (cc, cc)

-- a listed name was opened, and read
module _ {K : Type 0} (listing : List NameFacts) (name : NameFacts) (answer : OpenFacts) (reads : List Heard)
    (own : All (IsReadOfFile name) reads) (by_path : IsByPath listing) (listed : is_in listing name ≡ true)
    (new : StateFacts K) where
  that_one : (n : NameFacts) (met : Seen) → IsHeardAltered listing (heard_reading name answer reads) n met
      → (n ≡ name) × FindsOther name answer met
  that_one n met h =
      let same : (name.path ≡ n.path) × (answer ≡ h.answer) = same_opening (that_opening name answer reads own n h.answer h.heard) in
      let is : n ≡ name = one_name n name listing by_path h.listed listed ((bytes_eq-Decides n.path name.path).1 (sym same.0)) in (
        is,
        subst (λ (x : NameFacts). FindsOther x answer met) is (subst (λ (a : OpenFacts). FindsOther n a met) (sym same.1) h.other),
      )

  -- another file wasn't found
  pub unaltered_by : ((met : Seen) → FindsOther name answer met → ⊥)
      → AlteredAreMissed listing (heard_reading name answer reads) new
  unaltered_by never = λ n met h. absurd (never met (that_one n met h).1)

  -- or the name was missed
  pub altered_by : is_missed new name ≡ true → AlteredAreMissed listing (heard_reading name answer reads) new
  altered_by missed = λ n met h. subst (λ (x : NameFacts). is_missed new x ≡ true) (sym (that_one n met h).0) missed

-- a file that was read, one that could not be and one for which memory was refused is no other
pub read_same : (name : NameFacts) (answer : OpenFacts) (reads : List Heard) (row : RowFacts)
    → ReadsListed name answer reads row → (met : Seen) → FindsOther name answer met → ⊥
read_same name (was_opened stamp) reads row says met other = other.0 says.0
read_same name (was_too_large stamp) reads row says met other = other.0 says.0
read_same name _ reads row says met other = absurd says

pub failed_same : (name : NameFacts) (answer : OpenFacts) (reads : List Heard) → FailsToRead name answer reads → (met : Seen)
    → FindsOther name answer met → ⊥
failed_same name (was_opened stamp) reads fails met other = other.0 fails.0
failed_same name open_failed reads fails met other = other
failed_same name _ reads fails met other = absurd fails

pub wanting_same : (name : NameFacts) (answer : OpenFacts) → MayWant name answer → (met : Seen)
    → FindsOther name answer met → ⊥
wanting_same name (was_opened stamp) wants met other = other.0 wants
wanting_same name (was_too_large stamp) wants met other = other.0 wants
wanting_same name open_no_memory wants met other = absurd other
wanting_same name _ wants met other = absurd wants
