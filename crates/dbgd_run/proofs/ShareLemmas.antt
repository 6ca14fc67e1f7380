-- What a share counts of passes.
use Rattle.std.proofs.Common.{◌≡◌, ◌≢◌, ℕ, suc, ◌+◌, ◌<◌, ◌≤◌, Bool, true, false, List, [], ◌∷◌, length, get_or, set, eqb, if◌then◌else◌, refl, sym, ap, subst, ◌∙◌, arith, get_or-set_same, get_or-set_other, length-set}
use Rattle.std.proofs.lemmas.Bool.{true≢false}
use Rattle.dbgd_metrics.specs.Counts.{Counts, numbers_after}
use Rattle.dbgd_metrics.specs.Numbers.{count_of_numbers, number_of_row, number_place, place_in, route_place, statuses}
use Rattle.dbgd_metrics.specs.Shares.{ShareFacts}
use Rattle.dbgd_metrics.specs.declared.count.Count.TheVariants.{Pass}
use Rattle.dbgd_metrics.specs.declared.count.Counted.{Counted}
use Rattle.dbgd_metrics.specs.declared.count.Counted.TheVariants.{Done, Full}
use Rattle.dbgd_metrics.specs.declared.number.Number.{Number}
use Rattle.dbgd_metrics.specs.declared.number.Number.TheVariants.{Requests, Bytes, Added, Replaced, Dropped, Passes}
use Rattle.dbgd_metrics.specs.declared.number.RouteName.{RouteName}
use Rattle.dbgd_metrics.specs.declared.number.RouteName.TheVariants as route
use Rattle.pass_runner.specs.declared.pass_end.PassEnd.{PassEnd}
use Rattle.pass_runner.specs.declared.pass_end.PassEnd.TheVariants as ended
use Rattle.pass_runner.specs.declared.summary.Summary.{Summary}
use Rattle.dbgd_run.specs.RoundSaid.{CountsPass, GrowsShare, added_by}

-- One number grows

abbrev grow : List ℕ → ℕ → ℕ → List ℕ
grow ns place k = set ns place (get_or ns place 0 + k)

at_place : (ns : List ℕ) (place k : ℕ) → place < length ns → get_or (grow ns place k) place 0 ≡ get_or ns place 0 + k
at_place ns place k inside = get_or-set_same ns place (get_or ns place 0 + k) 0 inside

elsewhere : (ns : List ℕ) (place other k : ℕ) → other ≢ place → get_or (grow ns place k) other 0 ≡ get_or ns other 0
elsewhere ns place other k apart = get_or-set_other ns place other (get_or ns place 0 + k) 0 apart

as_long : (ns : List ℕ) (place k : ℕ) → length (grow ns place k) ≡ length ns
as_long ns place k = length-set ns place (get_or ns place 0 + k)

-- Where the numbers of requests stand

step_bound : (b : Bool) (p n : ℕ) → p ≤ n → (if b then 0 else 1 + p) ≤ suc n
step_bound true p n h = omega arith
step_bound false p n h = omega arith

place_bound : (xs : List ℕ) (n : ℕ) → place_in xs n ≤ length xs
place_bound [] n = omega arith
place_bound (x ∷ xs) n = step_bound (eqb n x) (place_in xs n) (length xs) (place_bound xs n)

route_bound : (name : RouteName) → route_place name < 6
route_bound route.Debuginfo = omega arith
route_bound route.Executable = omega arith
route_bound route.Source = omega arith
route_bound route.Section = omega arith
route_bound route.Metrics = omega arith
route_bound route.Other = omega arith

request_place : (name : RouteName) (status : ℕ) → number_place (Requests name status) < 49
request_place name status = omega (arith, route_bound name, place_bound statuses status)

-- A pass is counted

none_more : (n : ℕ) → n ≡ n + 0
none_more n = omega arith

regroup : (n a b : ℕ) → (n + a) + b ≡ n + (a + b)
regroup n a b = omega arith

before_rows : (ns : List ℕ) (a r d place : ℕ) → place < 49 → get_or (numbers_after ns (Pass a r d)) place 0 ≡ get_or ns place 0
before_rows ns a r d place small =
    let one : List ℕ = grow ns 49 a in
    let two : List ℕ = grow one 50 r in
    let three : List ℕ = grow two 51 d in
    elsewhere three 52 place 1 (omega arith)
    ∙ (elsewhere two 51 place d (omega arith) ∙ (elsewhere one 50 place r (omega arith) ∙ elsewhere ns 49 place a (omega arith)))

pass_long : (ns : List ℕ) (a r d : ℕ) → length (numbers_after ns (Pass a r d)) ≡ length ns
pass_long ns a r d =
    let one : List ℕ = grow ns 49 a in
    let two : List ℕ = grow one 50 r in
    let three : List ℕ = grow two 51 d in
    as_long three 52 1 ∙ (as_long two 51 d ∙ (as_long one 50 r ∙ as_long ns 49 a))

pass_adds : (ns : List ℕ) (summary : Summary) (number : Number) → length ns ≡ count_of_numbers
    → number_of_row (numbers_after ns (Pass summary.added summary.replaced summary.dropped)) number
    ≡ number_of_row ns number + added_by (ended.Whole summary) number
pass_adds ns summary (Requests name status) long =
    before_rows ns summary.added summary.replaced summary.dropped (number_place (Requests name status)) (request_place name status)
    ∙ none_more (get_or ns (number_place (Requests name status)) 0)
pass_adds ns summary Bytes long =
    before_rows ns summary.added summary.replaced summary.dropped 48 (omega arith) ∙ none_more (get_or ns 48 0)
pass_adds ns summary Added long =
    let one : List ℕ = grow ns 49 summary.added in
    let two : List ℕ = grow one 50 summary.replaced in
    let three : List ℕ = grow two 51 summary.dropped in
    elsewhere three 52 49 1 (omega arith)
    ∙ (elsewhere two 51 49 summary.dropped (omega arith)
    ∙ (elsewhere one 50 49 summary.replaced (omega arith) ∙ at_place ns 49 summary.added (omega (arith, long))))
pass_adds ns summary Replaced long =
    let one : List ℕ = grow ns 49 summary.added in
    let two : List ℕ = grow one 50 summary.replaced in
    let three : List ℕ = grow two 51 summary.dropped in
    let inside : 50 < length one = omega (arith, as_long ns 49 summary.added, long) in
    elsewhere three 52 50 1 (omega arith)
    ∙ (elsewhere two 51 50 summary.dropped (omega arith)
    ∙ (at_place one 50 summary.replaced inside
    ∙ ap (λ (n : ℕ). n + summary.replaced) (elsewhere ns 49 50 summary.added (omega arith))))
pass_adds ns summary Dropped long =
    let one : List ℕ = grow ns 49 summary.added in
    let two : List ℕ = grow one 50 summary.replaced in
    let three : List ℕ = grow two 51 summary.dropped in
    let inside : 51 < length two = omega (arith, as_long one 50 summary.replaced, as_long ns 49 summary.added, long) in
    elsewhere three 52 51 1 (omega arith)
    ∙ (at_place two 51 summary.dropped inside
    ∙ ap (λ (n : ℕ). n + summary.dropped)
    (elsewhere one 50 51 summary.replaced (omega arith) ∙ elsewhere ns 49 51 summary.added (omega arith)))
pass_adds ns summary Passes long =
    let one : List ℕ = grow ns 49 summary.added in
    let two : List ℕ = grow one 50 summary.replaced in
    let three : List ℕ = grow two 51 summary.dropped in
    let inside : 52 < length three
    = omega (arith, as_long two 51 summary.dropped, as_long one 50 summary.replaced, as_long ns 49 summary.added, long) in
    at_place three 52 1 inside
    ∙ ap (λ (n : ℕ). n + 1)
    (elsewhere two 51 52 summary.dropped (omega arith)
    ∙ (elsewhere one 50 52 summary.replaced (omega arith) ∙ elsewhere ns 49 52 summary.added (omega arith)))

-- What grew

-- nothing was counted
pub grows_none : (share : ShareFacts) → GrowsShare (λ _. 0) share share
grows_none share = record {
  book = refl;
  row = refl;
  mark = λ marked. marked;
  long = refl;
  rest = λ unmarked. refl;
  numbers = λ unmarked full number. none_more (number_of_row share.numbers number);
}

-- it grew, and then it grew more
pub grows_both : (first next : Number → ℕ) (old mid new : ShareFacts) → GrowsShare first old mid → GrowsShare next mid new
    → GrowsShare (λ number. first number + next number) old new
grows_both first next old mid new one two =
    let sound : new.marked ≡ false → mid.marked ≡ false
    = λ unmarked. sym (ap (λ (share : ShareFacts). share.marked) (two.rest unmarked)) ∙ unmarked in
    record {
      book = two.book ∙ one.book;
      row = two.row ∙ one.row;
      mark = λ marked. two.mark (one.mark marked);
      long = two.long ∙ one.long;
      rest = λ unmarked.
          two.rest unmarked ∙ ap (λ (share : ShareFacts). record share { numbers = new.numbers }) (one.rest (sound unmarked));
      numbers = λ unmarked full number.
          two.numbers unmarked (one.long ∙ full) number
          ∙ (ap (λ (n : ℕ). n + next number) (one.numbers (sound unmarked) full number)
          ∙ regroup (number_of_row old.numbers number) (first number) (next number));
    }

-- it grew by as much
pub grows_as : (some same : Number → ℕ) (old new : ShareFacts) → ((number : Number) → some number ≡ same number)
    → GrowsShare some old new → GrowsShare same old new
grows_as some same old new are grew = record {
  book = grew.book;
  row = grew.row;
  mark = grew.mark;
  long = grew.long;
  rest = grew.rest;
  numbers = λ unmarked full number.
      grew.numbers unmarked full number ∙ ap (λ (n : ℕ). number_of_row old.numbers number + n) (are number);
}

whole_counted : (summary : Summary) (old new : ShareFacts) (answer : Counted)
    → Counts (Pass summary.added summary.replaced summary.dropped) old new answer → GrowsShare (added_by (ended.Whole summary)) old new
whole_counted summary old new Done counts = record {
  book = ap (λ (share : ShareFacts). share.book) counts.1;
  row = ap (λ (share : ShareFacts). share.row) counts.1;
  mark = λ marked. ap (λ (share : ShareFacts). share.marked) counts.1 ∙ marked;
  long =
      ap (λ (share : ShareFacts). length share.numbers) counts.1
      ∙ pass_long old.numbers summary.added summary.replaced summary.dropped;
  rest = λ unmarked.
      counts.1
      ∙ ap (λ (ns : List ℕ). record old { numbers = ns }) (sym (ap (λ (share : ShareFacts). share.numbers) counts.1));
  numbers = λ unmarked full number.
      ap (λ (share : ShareFacts). number_of_row share.numbers number) counts.1 ∙ pass_adds old.numbers summary number full;
}
whole_counted summary old new Full counts = record {
  book = ap (λ (share : ShareFacts). share.book) counts.1;
  row = ap (λ (share : ShareFacts). share.row) counts.1;
  mark = λ marked. ap (λ (share : ShareFacts). share.marked) counts.1;
  long = ap (λ (share : ShareFacts). length share.numbers) counts.1;
  rest = λ unmarked. absurd (true≢false (sym (ap (λ (share : ShareFacts). share.marked) counts.1) ∙ unmarked));
  numbers = λ unmarked full number.
      absurd (true≢false (sym (ap (λ (share : ShareFacts). share.marked) counts.1) ∙ unmarked));
}

-- what a share that changed nothing counted
same_counted : (more : Number → ℕ) (old new : ShareFacts) → ((number : Number) → 0 ≡ more number) → new ≡ old
    → GrowsShare more old new
same_counted more old new none same =
    subst (λ (share : ShareFacts). GrowsShare more old share) (sym same) (grows_as (λ _. 0) more old old none (grows_none old))

-- what the end of a pass adds
pub counts_one : (how : PassEnd) (old new : ShareFacts) → CountsPass how old new → GrowsShare (added_by how) old new
counts_one (ended.Whole summary) old new counts = whole_counted summary old new counts.0 counts.1
counts_one (ended.Missed miss) old new same = same_counted (added_by (ended.Missed miss)) old new (λ number. refl) same
counts_one (ended.Walk fault) old new same = same_counted (added_by (ended.Walk fault)) old new (λ number. refl) same
counts_one ended.Broken old new same = same_counted (added_by ended.Broken) old new (λ number. refl) same
counts_one ended.KeeperFault old new same = same_counted (added_by ended.KeeperFault) old new (λ number. refl) same
counts_one ended.LogFull old new same = same_counted (added_by ended.LogFull) old new (λ number. refl) same
counts_one ended.OutOfMemory old new same = same_counted (added_by ended.OutOfMemory) old new (λ number. refl) same
