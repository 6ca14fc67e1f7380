-- What single holds of a shared index show.
use Rattle.std.proofs.Common.{◌≡◌, ◌+◌, Bool, true, false, not, cond, List, [], ◌∷◌, length, Option, Some, None, refl, sym, ◌∙◌, ap, subst, arith}
use Rattle.std.specs.Prelude.{is_none}
use Rattle.std.proofs.lemmas.Bool.{and_parts}
use Rattle.std.proofs.lemmas.List.Sums.{sum_by-cons}
use Rattle.path_scope.specs.Scope.{Scope}
use Rattle.row_types.specs.Name.{NameFacts, stamp_at}
use Rattle.row_types.specs.Row.{RowFacts}
use Rattle.row_types.specs.Stamp.{StampFacts, same_stamp}
use Rattle.index_keeper.specs.Keeper.{ShownKeeper}
use Rattle.index_rows.specs.Log.{replay}
use Rattle.index_rows.specs.Rows.{row_names}
use Rattle.index_rows.specs.declared.change.Change.{Change}
use Rattle.scan_queue.specs.Names.{IsByPath, is_in}
use Rattle.scan_queue.specs.declared.miss.Seen.{Seen}
use Rattle.index_state.specs.Changes.{VoidWhere}
use Rattle.index_state.specs.Invariant.{IndexInvariant}
use Rattle.index_state.specs.Judge.{is_file}
use Rattle.index_state.specs.Marks.{is_marked}
use Rattle.index_state.specs.Plan.{has_stamp, is_other, plan_of}
use Rattle.index_state.specs.State.{Origin, StateFacts}
use Rattle.index_state.specs.Step.{BeginsOrNot, BeginsPass, Judges, begins, judges, to_begin, to_judge}
use Rattle.index_state.specs.declared.answer.Begun.{Begun}
use Rattle.index_state.specs.declared.answer.Begun.TheVariants as begun
use Rattle.index_state.specs.declared.answer.Judged.{Judged}
use Rattle.index_state.specs.declared.answer.Judged.TheVariants as judged
use Rattle.index_state.specs.declared.answer.Plan.{Plan}
use Rattle.index_state.proofs.ByName.{has_stamp_is_in, names_by_path}
use Rattle.index_desk.specs.Holds.{HoldsEvent}
use Rattle.index_lock.specs.Tokens.{SeatFacts}
use Rattle.pass_runner.specs.Leading.{BeginShows, IsPlanned, IsStanding}

-- each listed name is counted once by a plan
one_part : (o : Option StampFacts) (s : StampFacts) (there : Bool) → has_stamp o s ≡ there
    → cond (is_none o) 1 0 + cond (is_other o s) 1 0 + cond there 1 0 ≡ 1
one_part None s true is = absurd (cc)
one_part None s false is = refl
one_part (Some t) s there is =
    subst (λ (b : Bool). 0 + cond (not (same_stamp s t)) 1 0 + cond b 1 0 ≡ 1) is (either (same_stamp s t))
  where
    either : (b : Bool) → 0 + cond (not b) 1 0 + cond b 1 0 ≡ 1
    either true = refl
    either false = refl

pub plan_parts : (names : List NameFacts) → IsByPath names → (listing : List NameFacts)
    → (plan_of listing names).add + (plan_of listing names).replace + (plan_of listing names).keep ≡ length listing
plan_parts names by_path [] = refl
plan_parts names by_path (n ∷ listing) =
    let rest = plan_parts names by_path listing in
    let one = one_part (stamp_at names n.path) n.stamp (is_in names n) (has_stamp_is_in n names by_path) in
    let a = sum_by-cons (λ (m : NameFacts). cond (is_none (stamp_at names m.path)) 1 0) n listing in
    let b = sum_by-cons (λ (m : NameFacts). cond (is_other (stamp_at names m.path) m.stamp) 1 0) n listing in
    let c = sum_by-cons (λ (m : NameFacts). cond (is_in names m) 1 0) n listing in
    omega (arith, rest, one, a, b, c)

-- the log of a broken index ends in a void change, and that of a sound one has none
pub void_by : {K : Type 0} (tells : Bool) (shows : K → ShownKeeper) {state : StateFacts K} {true_row : RowFacts → Type 0}
    (broken : Bool) → IndexInvariant true_row tells shows state → state.broken ≡ broken → VoidWhere broken state.log
void_by tells shows {state = state} broken holds is =
    subst (λ (b : Bool). VoidWhere b state.log) is holds.broken_means_a_void_last_change.void

module _ {K : Type 0} (tells : Bool) (shows : K → ShownKeeper) {old new : StateFacts K} where
  -- a row whose own file was seen stands
  pub strange_stands : {true_row : RowFacts → Type 0} (name : NameFacts) (met : Seen)
      → IndexInvariant true_row tells shows new → Judges tells shows name met old judged.Strange new
      → IsStanding name met new.log
  strange_stands name met holds h = record {
    row =
        ap (λ (names : List NameFacts). is_in names name)
        (sym holds.rows_replay_the_log.names ∙ ap (λ (s : StateFacts K). row_names s.rows) h.missed.same)
        ∙ h.strange.left_over.stands;
    file = (and_parts (is_marked old.pass name.path) (is_file met name.stamp) h.strange.strange).1;
  }

  planned_by : {true_row : RowFacts → Type 0} {listing : List NameFacts} {scope : Scope} {plan : Plan}
      → IndexInvariant true_row tells shows new → BeginsPass listing scope plan old new → IsPlanned listing plan new.log
  planned_by {listing = listing} {plan = plan} holds h =
      let names : row_names old.rows ≡ replay new.log =
      sym (ap (λ (s : StateFacts K). row_names s.rows) h.after) ∙ holds.rows_replay_the_log.names in
      let planned : plan ≡ plan_of listing (replay new.log) = h.planned ∙ ap (plan_of listing) names in
      let by_path : IsByPath (replay new.log) =
      subst (λ (l : List NameFacts). IsByPath l) holds.rows_replay_the_log.names
      (names_by_path new.rows holds.rows_sorted_and_true.ascend) in
      let parts = plan_parts (replay new.log) by_path listing in
      record {
        planned = planned;
        parts = ap (λ (p : Plan). p.add + p.replace + p.keep) planned ∙ parts ∙ sym (ap (λ (p : Plan). p.files) planned);
        sound = void_by tells shows false holds (ap (λ (s : StateFacts K). s.broken) h.after ∙ h.sound);
      }

-- what the first hold shows
pub begin_shows : {K : Type 0} (tells : Bool) (shows : K → ShownKeeper) (old : StateFacts K) {new : StateFacts K}
    {true_row : RowFacts → Type 0} (listing : List NameFacts) (scope : Scope)
    → IndexInvariant true_row tells shows new → (answer : Begun) → BeginsOrNot listing scope old answer new
    → BeginShows listing answer new.log
begin_shows tells shows old listing scope holds (begun.Begun plan) h = planned_by tells shows holds h
begin_shows {K} tells shows old listing scope holds begun.Broken h =
    void_by tells shows true holds (ap (λ (s : StateFacts K). s.broken) h.same ∙ h.why)
begin_shows tells shows old listing scope holds begun.OutOfMemory h = tt

module _ {K : Type 0} (tells : Bool) (shows : K → ShownKeeper) {true_row : RowFacts → Type 0} {seat later : SeatFacts Change Origin} where
  pub begin_shown : (listing : List NameFacts) (scope : Scope) (answer : Begun)
      → HoldsEvent true_row tells shows (begins listing scope) (to_begin answer) seat later
      → BeginShows listing answer later.seen
  begin_shown listing scope answer h =
      subst (λ (log : List Change). BeginShows listing answer log) (sym h.seen)
      (begin_shows tells shows h.old listing scope h.does.holds answer h.does.does)

  -- a pass begins where no name was spared, so that none is skipped
  pub begin_none : (listing : List NameFacts) (scope : Scope) (answer : Begun)
      → HoldsEvent true_row tells shows (begins listing scope) (to_begin answer) seat later
      → seat.origin.sparing ≡ None → seat.origin.spared ≡ []
  begin_none listing scope answer h never =
      let same : h.new.origin ≡ seat.origin = h.stays ∙ h.from in
      ap (λ (o : Origin). o.spared) (sym same)
      ∙ h.does.holds.skipped_names_stand.none (ap (λ (o : Origin). o.sparing) same ∙ never)

  -- and what a judgement shows
  pub stands_shown : (name : NameFacts) (met : Seen) (answer : Judged)
      → HoldsEvent true_row tells shows (judges name met) (to_judge answer) seat later
      → answer ≡ judged.Strange → IsStanding name met later.seen
  stands_shown name met answer h is =
      subst (λ (log : List Change). IsStanding name met log) (sym h.seen)
      (strange_stands tells shows name met h.does.holds
      (subst (λ (a : Judged). Judges tells shows name met h.old a h.new) is h.does.does))
