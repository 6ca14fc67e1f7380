-- How the last hold ends a pass, and how the pass ends by that.
use Rattle.std.proofs.Common.{◌≡◌, ℕ, ◌&&◌, ◌==◌, inl, inr, Bool, true, false, not, List, [], ◌∷◌, length, Option, Some, None, refl, sym, ◌∙◌, ap, subst, arith}
use Rattle.std.specs.List.{Contains}
use Rattle.std.specs.Prelude.{IfSome, IsSome}
use Rattle.std.proofs.lemmas.Bool.{and_parts, cond-false, not_from_true, or_left, or_right, true≢false}
use Rattle.std.proofs.lemmas.Bool.Decides.{nat_tests}
use mathlib.Core.List.{IsPrefix}
use Rattle.path_scope.specs.Scope.{Scope}
use Rattle.row_types.specs.Name.{NameFacts, same_name, stamp_at}
use Rattle.row_types.specs.Rules.{Rules}
use Rattle.index_keeper.specs.Keeper.{ShownKeeper}
use Rattle.index_lock.proofs.Prefixes.{prefix_self}
use Rattle.index_rows.specs.Log.{replay}
use Rattle.index_rows.specs.Rows.{row_names}
use Rattle.index_rows.specs.declared.rows.TheConstants.{LOG_LIMIT}
use Rattle.scan_queue.specs.Names.{IsByPath, is_in, not_in}
use Rattle.scan_queue.specs.Pass.{IsPass, PassFacts, begun_with}
use Rattle.scan_queue.specs.declared.miss.Miss.{Miss}
use Rattle.index_state.specs.Changes.{EndsVoid}
use Rattle.index_state.specs.Complete.{CompletePass, LeavesNone, standing_of}
use Rattle.index_state.specs.Invariant.{IndexInvariant}
use Rattle.index_state.specs.Marks.{marked_in}
use Rattle.index_state.specs.Plan.{has_stamp}
use Rattle.index_state.specs.State.{StateFacts, pass_or_none}
use Rattle.index_state.specs.Step.{BeginsPass, StateStays}
use Rattle.index_state.specs.declared.answer.Begun.TheVariants as begun
use Rattle.index_state.specs.declared.answer.Plan.{Plan}
use Rattle.index_state.specs.declared.answer.Standing.{Standing}
use Rattle.index_state.proofs.ByName.{has_stamp_is_in, names_by_path}
use Rattle.index_state.proofs.Keeps.{there}
use Rattle.index_state.proofs.Members.{same_name_self}
use Rattle.index_state.proofs.VoidEnds.{never_both}
use Rattle.index_desk.specs.Holds.{LogGoesOn as GoesOn}
use Rattle.pass_runner.specs.Leading.{BeginsLast, EndsOpen, IsDoneAgain, IsOpenBy, IsShutAgain, LastShows, OpensLast, is_none_left}
use Rattle.pass_runner.specs.Numbers.{summary_of}
use Rattle.pass_runner.specs.SharedPass.{IsOfPass, StillStands}
use Rattle.pass_runner.specs.declared.pass_end.PassEnd.{PassEnd}
use Rattle.pass_runner.specs.declared.pass_end.PassEnd.TheVariants.{Whole, Missed, Walk, Broken}
use Rattle.pass_runner.specs.declared.pass_end.PassEnd.TheVariants.{KeeperFault, LogFull, OutOfMemory}
use Rattle.pass_runner.specs.declared.summary.Summary.{Summary}
use Rattle.index_desk.proofs.Goes.{begin_goes}
use Rattle.pass_runner.proofs.HoldLemmas.{void_by}

-- names that all stand in a list leave none that doesn't
none_beside : (others names : List NameFacts) → ((n : NameFacts) → is_in names n ≡ true → is_in others n ≡ true)
    → not_in others names ≡ []
none_beside others [] all = refl
none_beside others (n ∷ names) all =
    cond-false (not (is_in others n)) (n ∷ not_in others names) (not_in others names)
    (not_from_true (is_in others n) (all n (or_left (same_name n n) (is_in names n) (same_name_self n))))
    ∙ none_beside others names (λ m there. all m (or_right (same_name m n) (is_in names m) there))

-- a pass over the names of its rows has nothing to do
none_begun : {K : Type 0} (state : StateFacts K) (names listing marked : List NameFacts) → state.pass ≡ Some (begun_with listing names marked)
    → names ≡ listing → is_none_left (standing_of state) ≡ true
none_begun {K} state names listing marked is same =
    let none : not_in listing listing ≡ [] = none_beside listing listing (λ n there. there) in
    let todo : length (not_in names listing) ≡ 0 =
    ap (λ (l : List NameFacts). length (not_in l listing)) same ∙ ap (λ (l : List NameFacts). length l) none in
    let groom : length (not_in listing names) ≡ 0 =
    ap (λ (l : List NameFacts). length (not_in listing l)) same ∙ ap (λ (l : List NameFacts). length l) none in
    ap (λ (o : Option PassFacts). (length (pass_or_none o).todo == 0) && (length (pass_or_none o).out == 0)
    && (length (pass_or_none o).groom == 0) && (length (pass_or_none o).missed == 0)) is
    ∙ ap (λ (n : ℕ). (n == 0) && true && (length (not_in listing names) == 0) && true) todo
    ∙ ap (λ (n : ℕ). true && true && (n == 0) && true) groom

zero_by : (n : ℕ) → (n == 0) ≡ true → n ≡ 0
zero_by n is = grind (arith, nat_tests)

-- where none is left, none is in any of the four lists
pub leaves_none : (standing : Standing) → is_none_left standing ≡ true → LeavesNone standing
leaves_none standing is =
    let a = and_parts ((standing.todo == 0) && (standing.out == 0) && (standing.groom == 0)) (standing.missed == 0) is in
    let b = and_parts ((standing.todo == 0) && (standing.out == 0)) (standing.groom == 0) a.0 in
    let c = and_parts (standing.todo == 0) (standing.out == 0) b.0 in
    record {
      todo = zero_by standing.todo c.0;
      out = zero_by standing.out c.1;
      groom = zero_by standing.groom b.1;
      missed = zero_by standing.missed a.1;
    }

-- a pass of which nothing is to be done
pub done_again : {K : Type 0} (world : Rules) (tells : Bool) (shows : K → ShownKeeper) (plan : Plan) {state : StateFacts K}
    {standing : Standing} {summary : Summary} → IsSome state.pass → standing ≡ standing_of state
    → IfSome state.pass (λ pass. LeavesNone standing → CompletePass world.told world.true_row tells shows pass.listing state)
    → is_none_left standing ≡ true → summary ≡ summary_of plan state.rows
    → IsDoneAgain world tells shows plan summary state
done_again {K} world tells shows plan {state} {standing} is_open value whole none numbers = record {
  complete = by state.pass is_open whole;
  numbers = numbers;
}
  where
    Of : PassFacts → Type 0
    Of pass = CompletePass world.told world.true_row tells shows pass.listing state

    by : (o : Option PassFacts) → IsSome o → IfSome o (λ pass. LeavesNone standing → Of pass) → Of (pass_or_none o)
    by None some complete = absurd (true≢false (sym some))
    by (Some pass) some complete = complete (leaves_none standing none)

-- one of which something is, where the log has its limit
pub shut_again : {K : Type 0} {state : StateFacts K} {standing : Standing} → standing ≡ standing_of state
    → is_none_left standing ≡ false → standing.log ≡ LOG_LIMIT → IsShutAgain state
shut_again value left full = record {
  full = sym (ap (λ (s : Standing). s.log) value) ∙ full;
  left = sym (ap is_none_left value) ∙ left;
}

module _ {K : Type 0} (world : Rules) (tells : Bool) (shows : K → ShownKeeper) (listing : List NameFacts)
    (scope : Scope) (plan : Plan) (own : Option Miss) (met : List Miss) (old : StateFacts K) {new : StateFacts K}
    (holds : IndexInvariant world.true_row tells shows new)
    (among : IfSome own (λ miss. Contains met miss))
    (of_pass : IfSome own (λ miss. IsOfPass listing scope miss.name miss.cause))
    (stands : IfSome own (λ miss. IsOpenBy listing (row_names old.rows) miss.name)) where
  module _ {again : Plan} (begins : BeginsPass listing scope again old new) where
    sound_last : ¬ EndsVoid new.log
    sound_last void =
        never_both (void_by tells shows false holds (ap (λ (s : StateFacts K). s.broken) begins.after ∙ begins.sound)) void

    over_listing : (pass_or_none new.pass).listing ≡ listing
    over_listing = ap (λ (s : StateFacts K). (pass_or_none s.pass).listing) begins.after

    -- the pass was begun over the rows that stand
    begun_over : new.pass ≡ Some (begun_with listing (row_names new.rows) (marked_in scope listing (row_names new.rows)))
    begun_over =
        ap (λ (s : StateFacts K). s.pass) begins.after
        ∙ ap (λ (s : StateFacts K). Some (begun_with listing (row_names s.rows) (marked_in scope listing (row_names s.rows)))) (sym begins.after)

    -- the rows' names are what the log leaves
    logged : row_names new.rows ≡ replay new.log
    logged = holds.rows_replay_the_log.names

    -- a name that is open by the stamps of its path is open by the log
    still : (name : NameFacts) → IsOpenBy listing (row_names old.rows) name → StillStands listing new.log name
    still name h =
        let listed : IsByPath listing =
        (there (λ (pass : PassFacts). IsPass pass) begun_over holds.each_name_in_one_place).listing.by_path in
        let by_path : IsByPath (row_names new.rows) = names_by_path new.rows holds.rows_sorted_and_true.ascend in
        ap (λ (l : List NameFacts). is_in l name) (sym logged)
        ∙ sym (has_stamp_is_in name (row_names new.rows) by_path)
        ∙ ap (λ (s : StateFacts K). has_stamp (stamp_at (row_names s.rows) name.path) name.stamp) begins.after
        ∙ h
        ∙ ap not (has_stamp_is_in name listing listed)

    opened_shows : (end : PassEnd) → EndsOpen world tells shows plan own new end
        → LastShows world listing scope plan met new.log end
    opened_shows (Whole summary) h =
        let complete : CompletePass world.told world.true_row tells shows listing new
        = subst (λ (l : List NameFacts). CompletePass world.told world.true_row tells shows l new) over_listing h.complete in
        record {
          names = sym logged ∙ complete.names;
          sound = sound_last;
          rows = new.rows;
          stand = record { names = complete.names; holds = holds.rows_sorted_and_true.holds; scan = complete.scan };
          numbers = h.numbers;
        }
    opened_shows (Missed miss) h = record {
      among = subst (λ (o : Option Miss). IfSome o (λ m. Contains met m)) h among;
      of_pass = subst (λ (o : Option Miss). IfSome o (λ m. IsOfPass listing scope m.name m.cause)) h of_pass;
      stands = still miss.name (subst (λ (o : Option Miss). IfSome o (λ m. IsOpenBy listing (row_names old.rows) m.name)) h stands);
      sound = sound_last;
    }
    opened_shows LogFull h = record {
      full = h.full;
      apart = λ same. true≢false (sym (none_begun new (row_names new.rows) listing (marked_in scope listing (row_names new.rows)) begun_over (logged ∙ same)) ∙ h.left);
      sound = sound_last;
    }
    opened_shows OutOfMemory h = tt
    opened_shows (Walk fault) h = absurd h
    opened_shows Broken h = absurd h
    opened_shows KeeperFault h = absurd h

  -- what the last hold shows
  pub last_shows : (end : PassEnd) → BeginsLast world tells shows listing scope plan own old new end
      → LastShows world listing scope plan met new.log end
  last_shows KeeperFault h = void_by tells shows true holds (ap (λ (s : StateFacts K). s.broken) h.same ∙ h.why)
  last_shows OutOfMemory h = tt
  last_shows (Whole summary) h = opened_shows h.begins (Whole summary) h.ends
  last_shows (Missed miss) h = opened_shows h.begins (Missed miss) h.ends
  last_shows LogFull h = opened_shows h.begins LogFull h.ends
  last_shows (Walk fault) h = absurd h.ends
  last_shows Broken h = absurd h.ends

-- the pass is open once it was begun
pub open_begun : {K : Type 0} {listing : List NameFacts} {scope : Scope} {again : Plan} {old new : StateFacts K}
    → BeginsPass listing scope again old new → IsSome new.pass
open_begun {K} begins = subst (λ (s : StateFacts K). IsSome s.pass) (sym begins.after) refl

-- and how it ended then
pub opens_last : {K : Type 0} (world : Rules) (tells : Bool) (shows : K → ShownKeeper) (plan : Plan) (own : Option Miss)
    {listing : List NameFacts} {scope : Scope} {again : Plan} {old new : StateFacts K}
    → BeginsPass listing scope again old new → (end : PassEnd) → EndsOpen world tells shows plan own new end
    → BeginsLast world tells shows listing scope plan own old new end
opens_last world tells shows plan own {again = again} begins (Whole summary) ends = record { again = again; begins = begins; ends = ends }
opens_last world tells shows plan own {again = again} begins (Missed miss) ends = record { again = again; begins = begins; ends = ends }
opens_last world tells shows plan own {again = again} begins LogFull ends = record { again = again; begins = begins; ends = ends }
opens_last world tells shows plan own {again = again} begins OutOfMemory ends =
    inr (record { again = again; begins = begins; ends = ends })
opens_last world tells shows plan own begins (Walk fault) ends = absurd ends
opens_last world tells shows plan own begins Broken ends = absurd ends
opens_last world tells shows plan own begins KeeperFault ends = absurd ends

-- the log stays
pub last_goes : {K : Type 0} (world : Rules) (tells : Bool) (shows : K → ShownKeeper) (listing : List NameFacts)
    (scope : Scope) (plan : Plan) (own : Option Miss) {old new : StateFacts K} → old.origin.sparing ≡ None
    → old.origin.spared ≡ [] → (end : PassEnd) → BeginsLast world tells shows listing scope plan own old new end → GoesOn old new
last_goes {K} world tells shows listing scope plan own {old} {new} never none end = by end
  where
    same : {Why : Type 0} → StateStays Why old new → GoesOn old new
    same h = record {
      log = subst (λ (s : StateFacts K). IsPrefix old.log s.log) (sym h.same) (prefix_self old.log);
      origin = ap (λ (s : StateFacts K). s.origin) h.same;
    }

    opens : {e : PassEnd} → OpensLast world tells shows listing scope plan own old new e → GoesOn old new
    opens h = begin_goes listing scope never none (begun.Begun h.again) h.begins

    by : (e : PassEnd) → BeginsLast world tells shows listing scope plan own old new e → GoesOn old new
    by KeeperFault h = same h
    by OutOfMemory (inl h) = same h
    by OutOfMemory (inr h) = opens h
    by (Whole summary) h = opens h
    by (Missed miss) h = opens h
    by LogFull h = opens h
    by (Walk fault) h = opens h
    by Broken h = opens h
