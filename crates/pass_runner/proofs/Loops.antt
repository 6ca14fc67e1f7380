-- The names of a pass, one after the other.
use Rattle.std.proofs.Common.{◌≡◌, ℕ, ◌+◌, ◌≤◌, ◌<◌, Bool, true, false, not, cond, List, [], ◌∷◌, ◌++◌, ◌||◌, length, suc, Option, Some, None, refl, sym, ◌∙◌, ap, subst, arith}
use Rattle.std.specs.List.{All}
use Rattle.std.specs.Prelude.{IfSome}
use Rattle.std.proofs.lemmas.List.Elements.{All-nil}
use Rattle.row_types.specs.Faults.{HasCause}
use Rattle.row_types.specs.Name.{NameFacts}
use Rattle.row_types.specs.Row.{RowFacts}
use Rattle.index_keeper.specs.Keeper.{ShownKeeper}
use Rattle.scan_queue.specs.Names.{is_in, is_path_in, without}
use Rattle.scan_queue.specs.Pass.{AddsElement, IsPass, PassFacts}
use Rattle.index_state.specs.Away.{GroomsNext}
use Rattle.index_state.specs.Invariant.{IndexInvariant}
use Rattle.index_state.specs.Judge.{is_name_kept}
use Rattle.index_state.specs.Marks.{is_marked}
use Rattle.index_state.specs.State.{StateFacts, pass_or_none}
use Rattle.index_state.specs.Step.{TakesNextName}
use Rattle.index_state.specs.declared.answer.GroomTask.{GroomTask}
use Rattle.index_state.proofs.AwaySteps.{groomed_unlisted}
use Rattle.index_state.proofs.Keeps.{there}
use Rattle.index_state.proofs.Members.{same_name_self}
use Rattle.index_state.proofs.PassSteps.{in_added}
use Rattle.index_desk.specs.declared.work_end.WorkEnd.{WorkEnd}
use Rattle.index_desk.specs.declared.work_end.WorkEnd.TheVariants.{Empty, Broken, KeeperFault, LogFull, OutOfMemory}
use Rattle.tree_trait.specs.Found.{Versions}
use Rattle.tree_trait.specs.Heard.{Heard}
use Rattle.tree_trait.specs.Shown.{ShownTree}
use Rattle.pass_runner.specs.Ends.{IsTurnOver, AreNamesRead, AreNamesSettled, ReadsBy, SettlesBy}
use Rattle.pass_runner.specs.Settled.{AppearedStand, HasNotAppeared, IsPassOn, NoneAppeared, Proceeds, Wants, times_loaded, times_named}
use Rattle.pass_runner.specs.Turns.{GoesFromStart, TakesNames, TurnsOver}
use Rattle.tree_trait.proofs.ListenLemmas.{listens_none}
use Rattle.pass_runner.proofs.Altered.{unaltered_none}
use Rattle.pass_runner.proofs.Appearing.{appears_same, none_stand}
use Rattle.pass_runner.proofs.Moves.{rose_after}
use Rattle.pass_runner.proofs.ReadsHeard.{readings_none}
use Rattle.pass_runner.proofs.Composed.{settles_by, settles_none, settles_then, takes_then}
use Rattle.pass_runner.proofs.Loads.{loads_append, same_names, same_todo, times_cons}
use Rattle.pass_runner.proofs.Steps.{pass_on}

nothing_before : {X : Type 0} (x : X) (front back : List X) → front ++ back ≡ [] → front ++ x ∷ back ≡ x ∷ []
nothing_before x [] [] e = refl
nothing_before x [] (y ∷ back) e = absurd (cc)
nothing_before x (y ∷ front) back e = absurd (cc)

-- where none was out before a name went out, none is once it is out no more
none_out : (name : NameFacts) (before after : List NameFacts) → AddsElement name before after → before ≡ [] → without name after ≡ []
none_out name before after adds none =
    ap (without name) (adds.new ∙ nothing_before name adds.front adds.back (sym adds.old ∙ none))
    ∙ ap (λ b. cond (not b) (name ∷ []) []) (same_name_self name)

-- a name that goes out is out
is_out : (name : NameFacts) (before after : List NameFacts) → AddsElement name before after → is_in after name ≡ true
is_out name before after adds = in_added name name before after adds ∙ ap (λ b. b || is_in before name) (same_name_self name)

module _ {K : Type 0} {old mid : StateFacts K} where
  -- a name that went out is out
  pub took_out : {name : NameFacts} → TakesNextName old (Some name) mid → is_in (pass_or_none mid.pass).out name ≡ true
  took_out {name} takes =
      ap (λ (o : Option PassFacts). is_in (pass_or_none o).out name) takes.taken.is
      ∙ is_out name takes.taken.from.out takes.taken.into.out takes.taken.step.out

  pub groomed_out : {task : GroomTask} → GroomsNext old (Some task) mid → is_in (pass_or_none mid.pass).out task.name ≡ true
  groomed_out {task} takes =
      ap (λ (o : Option PassFacts). is_in (pass_or_none o).out task.name) takes.taken.is
      ∙ is_out task.name takes.taken.from.out takes.taken.into.out takes.taken.step.out

  pub groomed_under : {task : GroomTask} → GroomsNext old (Some task) mid → task.under ≡ is_marked mid.pass task.name.path
  groomed_under {task} takes =
      takes.taken.under ∙ ap (λ (p : PassFacts). is_path_in p.marked task.name.path) (sym takes.taken.step.same)
      ∙ ap (λ (o : Option PassFacts). is_marked o task.name.path) (sym takes.taken.is)

  -- and is to be read no more
  took_todo : {name : NameFacts} → TakesNextName old (Some name) mid → (path : List ℕ)
      → times_named (pass_or_none old.pass).todo path ≡ times_named (name ∷ []) path + times_named (pass_or_none mid.pass).todo path
  took_todo {name} takes path =
      let was : (pass_or_none old.pass).todo ≡ name ∷ (pass_or_none mid.pass).todo
      = ap (λ (o : Option PassFacts). (pass_or_none o).todo) takes.taken.was ∙ takes.taken.step.first
      ∙ ap (λ (o : Option PassFacts). name ∷ (pass_or_none o).todo) (sym takes.taken.is) in
      ap (λ (l : List NameFacts). times_named l path) was ∙ times_cons name (pass_or_none mid.pass).todo path

  groomed_todo : {task : GroomTask} → GroomsNext old (Some task) mid → (pass_or_none mid.pass).todo ≡ (pass_or_none old.pass).todo
  groomed_todo takes =
      ap (λ (o : Option PassFacts). (pass_or_none o).todo) takes.taken.is ∙ ap (λ (p : PassFacts). p.todo) takes.taken.step.same
      ∙ ap (λ (o : Option PassFacts). (pass_or_none o).todo) (sym takes.taken.was)

  -- what goes out to be looked for isn't listed
  pub groomed_apart : {true_row : RowFacts → Type 0} {tells : Bool} {shows : K → ShownKeeper} (answer : Option GroomTask)
      → IndexInvariant true_row tells shows old → GroomsNext old answer mid
      → IfSome answer (λ task. is_name_kept mid.pass task.name ≡ false)
  groomed_apart None holds takes = tt
  groomed_apart (Some task) holds takes =
      ap (λ (o : Option PassFacts). is_name_kept o task.name) takes.taken.is
      ∙ ap (λ (p : PassFacts). is_in p.listing task.name) takes.taken.step.same
      ∙ groomed_unlisted takes.taken.step (there IsPass takes.taken.was holds.each_name_in_one_place)

module _ {K : Type 0} {told : Bool} {version : Versions} {shows : K → ShownKeeper} where
  -- where nothing was loaded, no load took a name
  takes_none : {before after : ShownTree} {old new : StateFacts K} (does : Proceeds told version shows before after old new)
      → does.answers ≡ [] → TakesNames told version shows before after old new
  takes_none does none = record {
    does = does;
    takes = λ path.
        let loads : times_loaded does.answers path ≡ 0 = ap (λ (l : List Heard). times_loaded l path) none in
        let left = does.on.todo path in
        omega (arith, loads, left);
  }

  -- before the first name
  pub goes_first : {hand : ShownTree} {state : StateFacts K} → state.broken ≡ false → IsPassOn state.pass state.pass
      → GoesFromStart told version shows hand hand state state
  goes_first sound opened = record {
    settles = takes_none (settles_none opened) refl;
    sound = sound;
    out = λ none. none;
  }

  -- once a name was taken, if one was there
  abbrev takes_on : {hand : ShownTree} {old mid : StateFacts K} (answer : Option NameFacts) → IsPassOn old.pass old.pass → TakesNextName old answer mid
      → Proceeds told version shows hand hand old mid
  takes_on {old = old} {mid = mid} None opened takes =
      settles_by listens_none (All-nil (Wants old)) readings_none
      (unaltered_none (pass_or_none old.pass).listing mid)
      (pass_on (subst (λ (o : Option PassFacts). IsPassOn old.pass o) (sym takes.taken.same) opened)
      (ap (λ (o : Option PassFacts). (pass_or_none o).marked) takes.taken.same)
      (ap (λ (o : Option PassFacts). (pass_or_none o).missed) takes.taken.same) (same_todo takes.taken.same) takes.same)
  takes_on {old = old} {mid = mid} (Some name) opened takes =
      settles_by listens_none (All-nil (Wants old)) readings_none
      (unaltered_none (pass_or_none old.pass).listing mid)
      (pass_on (record {
        from = takes.taken.from;
        into = takes.taken.into;
        was = takes.taken.was;
        is = takes.taken.is;
        over = ap (λ (p : PassFacts). p.listing) takes.taken.step.same;
      })
      (ap (λ (o : Option PassFacts). (pass_or_none o).marked) takes.taken.is
      ∙ ap (λ (p : PassFacts). p.marked) takes.taken.step.same
      ∙ ap (λ (o : Option PassFacts). (pass_or_none o).marked) (sym takes.taken.was))
      (ap (λ (o : Option PassFacts). (pass_or_none o).missed) takes.taken.is
      ∙ ap (λ (p : PassFacts). p.missed) takes.taken.step.same
      ∙ ap (λ (o : Option PassFacts). (pass_or_none o).missed) (sym takes.taken.was)) (λ path. let e = took_todo takes path in omega (arith, e)) takes.same)

  abbrev grooms_on : {hand : ShownTree} {old mid : StateFacts K} (answer : Option GroomTask) → IsPassOn old.pass old.pass → GroomsNext old answer mid
      → Proceeds told version shows hand hand old mid
  grooms_on {old = old} {mid = mid} None opened takes =
      settles_by listens_none (All-nil (Wants old)) readings_none
      (unaltered_none (pass_or_none old.pass).listing mid)
      (pass_on (subst (λ (o : Option PassFacts). IsPassOn old.pass o) (sym takes.taken.same) opened)
      (ap (λ (o : Option PassFacts). (pass_or_none o).marked) takes.taken.same)
      (ap (λ (o : Option PassFacts). (pass_or_none o).missed) takes.taken.same) (same_todo takes.taken.same) takes.same)
  grooms_on {old = old} {mid = mid} (Some task) opened takes =
      settles_by listens_none (All-nil (Wants old)) readings_none
      (unaltered_none (pass_or_none old.pass).listing mid)
      (pass_on (record {
        from = takes.taken.from;
        into = takes.taken.into;
        was = takes.taken.was;
        is = takes.taken.is;
        over = ap (λ (p : PassFacts). p.listing) takes.taken.step.same;
      })
      (ap (λ (o : Option PassFacts). (pass_or_none o).marked) takes.taken.is
      ∙ ap (λ (p : PassFacts). p.marked) takes.taken.step.same
      ∙ ap (λ (o : Option PassFacts). (pass_or_none o).marked) (sym takes.taken.was))
      (ap (λ (o : Option PassFacts). (pass_or_none o).missed) takes.taken.is
      ∙ ap (λ (p : PassFacts). p.missed) takes.taken.step.same
      ∙ ap (λ (o : Option PassFacts). (pass_or_none o).missed) (sym takes.taken.was)) (same_names (groomed_todo takes)) takes.same)

  -- the pass is still open
  pub open_still : {before after : ShownTree} {start old : StateFacts K} → Proceeds told version shows before after start old → IsPassOn old.pass old.pass
  open_still settles = record {
    from = settles.on.pass.into;
    into = settles.on.pass.into;
    was = settles.on.pass.is;
    is = settles.on.pass.is;
    over = refl;
  }

  -- the index isn't broken as a name goes out
  pub took_sound : {before after : ShownTree} {start old mid : StateFacts K} {answer : Option NameFacts} → GoesFromStart told version shows before after start old → TakesNextName old answer mid
      → mid.broken ≡ false
  took_sound so takes = ap (λ (s : StateFacts K). s.broken) takes.same ∙ so.sound

  pub groomed_sound : {before after : ShownTree} {start old mid : StateFacts K} {answer : Option GroomTask} → GoesFromStart told version shows before after start old → GroomsNext old answer mid
      → mid.broken ≡ false
  groomed_sound so takes = ap (λ (s : StateFacts K). s.broken) takes.same ∙ so.sound

module _ {K : Type 0} {told : Bool} {version : Versions} {shows : K → ShownKeeper} {before between after : ShownTree} {start old mid new : StateFacts K} where
  -- what was settled once the next name's turn is over
  pub took_settled : {name : NameFacts} {end : Option WorkEnd} → GoesFromStart told version shows before between start old
      → TakesNextName old (Some name) mid → TurnsOver told version shows (name ∷ []) name between after mid new end
      → TakesNames told version shows before after start new
  took_settled {name} so takes turn =
      let first : Proceeds told version shows between between old mid = takes_on (Some name) (open_still so.settles.does) takes in
      record {
        does = settles_then (settles_then so.settles.does first) turn.settles;
        takes = λ path.
            let all : times_loaded (settles_then (settles_then so.settles.does first) turn.settles).answers path
            ≡ times_loaded (so.settles.does.answers ++ []) path + times_loaded turn.settles.answers path
            = loads_append (so.settles.does.answers ++ []) turn.settles.answers path in
            let none : times_loaded (so.settles.does.answers ++ []) path ≡ times_loaded so.settles.does.answers path + 0
            = loads_append so.settles.does.answers [] path in
            let before = so.settles.takes path in
            let out = took_todo takes path in
            let here = turn.loads path in
            let left = turn.settles.on.todo path in
            omega (arith, all, none, before, out, here, left);
      }

  pub groomed_settled : {task : GroomTask} {end : Option WorkEnd} → GoesFromStart told version shows before between start old
      → GroomsNext old (Some task) mid → TurnsOver told version shows [] task.name between after mid new end
      → TakesNames told version shows before after start new
  groomed_settled {task} so takes turn =
      let first : Proceeds told version shows between between old mid = grooms_on (Some task) (open_still so.settles.does) takes in
      record {
        does = settles_then (settles_then so.settles.does first) turn.settles;
        takes = λ path.
            let all : times_loaded (settles_then (settles_then so.settles.does first) turn.settles).answers path
            ≡ times_loaded (so.settles.does.answers ++ []) path + times_loaded turn.settles.answers path
            = loads_append (so.settles.does.answers ++ []) turn.settles.answers path in
            let none : times_loaded (so.settles.does.answers ++ []) path ≡ times_loaded so.settles.does.answers path + 0
            = loads_append so.settles.does.answers [] path in
            let before = so.settles.takes path in
            let out = ap (λ (l : List NameFacts). times_named l path) (groomed_todo takes) in
            let here : times_loaded turn.settles.answers path ≤ 0 = turn.loads path in
            let left = turn.settles.on.todo path in
            omega (arith, all, none, before, out, here, left);
      }

  -- and it goes on
  pub took_goes : {name : NameFacts} → GoesFromStart told version shows before between start old
      → TakesNextName old (Some name) mid → TurnsOver told version shows (name ∷ []) name between after mid new None
      → GoesFromStart told version shows before after start new
  took_goes {name} so takes turn = record {
    settles = took_settled so takes turn;
    sound = turn.ends.sound;
    out = λ none.
        turn.ends.out ∙ ap (λ (o : Option PassFacts). without name (pass_or_none o).out) takes.taken.is
        ∙ none_out name takes.taken.from.out takes.taken.into.out takes.taken.step.out
        (ap (λ (o : Option PassFacts). (pass_or_none o).out) (sym takes.taken.was) ∙ so.out none);
  }

  pub groomed_goes : {task : GroomTask} → GoesFromStart told version shows before between start old
      → GroomsNext old (Some task) mid → TurnsOver told version shows [] task.name between after mid new None
      → GoesFromStart told version shows before after start new
  groomed_goes {task} so takes turn = record {
    settles = groomed_settled so takes turn;
    sound = turn.ends.sound;
    out = λ none.
        turn.ends.out ∙ ap (λ (o : Option PassFacts). without task.name (pass_or_none o).out) takes.taken.is
        ∙ none_out task.name takes.taken.from.out takes.taken.into.out takes.taken.step.out
        (ap (λ (o : Option PassFacts). (pass_or_none o).out) (sym takes.taken.was) ∙ so.out none);
  }

module _ {K : Type 0} {told : Bool} {version : Versions} {shows : K → ShownKeeper} {between after : ShownTree} {old mid new : StateFacts K} (start : StateFacts K) where
  -- no name that was read appeared
  pub took_none : {name : NameFacts} {end : Option WorkEnd} → (NoneAppeared start → NoneAppeared old) → TakesNextName old (Some name) mid
      → TurnsOver told version shows (name ∷ []) name between after mid new end → NoneAppeared start → NoneAppeared new
  took_none {name} so takes turn none =
      turn.appears
      (appears_same old mid (name ∷ [])
      (ap (λ (o : Option PassFacts). (pass_or_none o).missed) takes.taken.is ∙ ap (λ (p : PassFacts). p.missed) takes.taken.step.same
      ∙ ap (λ (o : Option PassFacts). (pass_or_none o).missed) (sym takes.taken.was))
      (ap (λ (s : StateFacts K). s.rows) takes.same) (so none))

  -- and the row of each one that did stands
  pub groomed_stand : {task : GroomTask} {end : Option WorkEnd} → (AppearedStand start → AppearedStand old)
      → GroomsNext old (Some task) mid → TurnsOver told version shows [] task.name between after mid new end
      → AppearedStand start → AppearedStand new
  groomed_stand so takes turn stood =
      turn.appears
      (appears_same old mid []
      (ap (λ (o : Option PassFacts). (pass_or_none o).missed) takes.taken.is ∙ ap (λ (p : PassFacts). p.missed) takes.taken.step.same
      ∙ ap (λ (o : Option PassFacts). (pass_or_none o).missed) (sym takes.taken.was))
      (ap (λ (s : StateFacts K). s.rows) takes.same) (so stood))

nil_short : (xs ys : List NameFacts) → length xs ≤ length ys → ys ≡ [] → xs ≡ []
nil_short [] ys short none = refl
nil_short (x ∷ xs) ys short none = let e = ap (λ (l : List NameFacts). length l) none in absurd (omega (arith, short, e))

module _ {K : Type 0} {old mid new : StateFacts K} where
  -- fewer names are left
  pub took_smaller : {name : NameFacts} → TakesNextName old (Some name) mid → IsTurnOver name mid new
      → length (pass_or_none new.pass).todo < length (pass_or_none old.pass).todo
  took_smaller {name} takes over =
      let was : length (pass_or_none old.pass).todo ≡ length takes.taken.from.todo = ap (λ (o : Option PassFacts). length (pass_or_none o).todo) takes.taken.was in
      let first : length takes.taken.from.todo ≡ suc (length takes.taken.into.todo) = ap (λ (l : List NameFacts). length l) takes.taken.step.first in
      let is : length (pass_or_none mid.pass).todo ≡ length takes.taken.into.todo = ap (λ (o : Option PassFacts). length (pass_or_none o).todo) takes.taken.is in
      let less = over.todo in omega (arith, was, first, is, less)

  pub groomed_smaller : {task : GroomTask} → GroomsNext old (Some task) mid → IsTurnOver task.name mid new
      → length (pass_or_none new.pass).groom < length (pass_or_none old.pass).groom
  groomed_smaller {task} takes over =
      let was : length (pass_or_none old.pass).groom ≡ length takes.taken.from.groom = ap (λ (o : Option PassFacts). length (pass_or_none o).groom) takes.taken.was in
      let first : length takes.taken.from.groom ≡ suc (length takes.taken.into.groom) = ap (λ (l : List NameFacts). length l) takes.taken.step.first in
      let is : length (pass_or_none mid.pass).groom ≡ length takes.taken.into.groom = ap (λ (o : Option PassFacts). length (pass_or_none o).groom) takes.taken.is in
      let less = over.groom in omega (arith, was, first, is, less)

  -- and none that is to be read comes
  pub groomed_read : {task : GroomTask} → (pass_or_none old.pass).todo ≡ [] → GroomsNext old (Some task) mid → IsTurnOver task.name mid new
      → (pass_or_none new.pass).todo ≡ []
  groomed_read {task} none takes over =
      nil_short (pass_or_none new.pass).todo (pass_or_none mid.pass).todo over.todo
      (ap (λ (o : Option PassFacts). (pass_or_none o).todo) takes.taken.is
      ∙ ap (λ (p : PassFacts). p.todo) takes.taken.step.same
      ∙ ap (λ (o : Option PassFacts). (pass_or_none o).todo) (sym takes.taken.was) ∙ none)

module _ {K : Type 0} {told : Bool} {version : Versions} {shows : K → ShownKeeper} {between after : ShownTree} {mid new : StateFacts K} {reads : List NameFacts} {name : NameFacts} (start : StateFacts K) where
  -- the end of a turn ends the settling
  pub ends_reading : (end : WorkEnd) → TurnsOver told version shows reads name between after mid new (Some end) → ReadsBy start new end
  ends_reading Empty turn = absurd turn.ends
  ends_reading Broken turn = absurd turn.ends
  ends_reading KeeperFault turn = turn.ends
  ends_reading LogFull turn = turn.ends
  ends_reading OutOfMemory turn = turn.ends

  pub ends_looking : (end : WorkEnd) → TurnsOver told version shows reads name between after mid new (Some end) → SettlesBy start new end
  ends_looking Empty turn = absurd turn.ends
  ends_looking Broken turn = absurd turn.ends
  ends_looking KeeperFault turn = turn.ends
  ends_looking LogFull turn = turn.ends
  ends_looking OutOfMemory turn = turn.ends

-- a count that rose at the end has risen
pub cause_later : {a b c : ℕ} {F G : Type 0} → a ≤ b → (G → F) → HasCause b c F → HasCause a c G
cause_later {a} {b} {c} later so h = record {
  later = let e = h.later in omega (arith, later, e);
  rose = λ g. rose_after later (h.rose (so g));
}

module _ {K : Type 0} {told : Bool} {version : Versions} {shows : K → ShownKeeper} {before between after : ShownTree} {start old mid new : StateFacts K} where
  pub took_cause : {name : NameFacts} {end : WorkEnd} → GoesFromStart told version shows before between start old
      → TakesNextName old (Some name) mid → TurnsOver told version shows (name ∷ []) name between after mid new (Some end)
      → HasCause (shows start.keeper).faults (shows new.keeper).faults (end ≡ KeeperFault)
  took_cause so takes turn =
      let same : (shows mid.keeper).faults ≡ (shows old.keeper).faults = ap (λ (s : StateFacts K). (shows s.keeper).faults) takes.same in
      let first : (shows start.keeper).faults ≤ (shows old.keeper).faults = so.settles.does.on.keeper in
      cause_later (omega (arith, same, first)) (λ is. ap Some is) turn.keeper

  pub groomed_cause : {task : GroomTask} {end : WorkEnd} → GoesFromStart told version shows before between start old
      → GroomsNext old (Some task) mid → TurnsOver told version shows [] task.name between after mid new (Some end)
      → HasCause (shows start.keeper).faults (shows new.keeper).faults (end ≡ KeeperFault)
  groomed_cause so takes turn =
      let same : (shows mid.keeper).faults ≡ (shows old.keeper).faults = ap (λ (s : StateFacts K). (shows s.keeper).faults) takes.same in
      let first : (shows start.keeper).faults ≤ (shows old.keeper).faults = so.settles.does.on.keeper in
      cause_later (omega (arith, same, first)) (λ is. ap Some is) turn.keeper

-- no name is left
module _ {K : Type 0} {told : Bool} {version : Versions} {shows : K → ShownKeeper} {before after : ShownTree} {start old new : StateFacts K} where
  pub reads_all : GoesFromStart told version shows before after start old → TakesNextName old None new → TakesNames told version shows before after start new
  reads_all so takes = takes_then so.settles (takes_none (takes_on None (open_still so.settles.does) takes) refl)

  pub is_read : GoesFromStart told version shows before after start old → (NoneAppeared start → NoneAppeared old) → TakesNextName old None new
      → AreNamesRead start new
  is_read so appeared takes = record {
    sound = took_sound so takes;
    todo = ap (λ (o : Option PassFacts). (pass_or_none o).todo) takes.taken.same ∙ takes.taken.none;
    out = λ none. ap (λ (o : Option PassFacts). (pass_or_none o).out) takes.taken.same ∙ so.out none;
    appeared = λ none. subst (λ (o : Option PassFacts). All HasNotAppeared (pass_or_none o).missed) (sym takes.taken.same) (appeared none);
  }

  pub looks_at_all : GoesFromStart told version shows before after start old → GroomsNext old None new → TakesNames told version shows before after start new
  looks_at_all so takes = takes_then so.settles (takes_none (grooms_on None (open_still so.settles.does) takes) refl)

  pub is_settled : GoesFromStart told version shows before after start old → (pass_or_none old.pass).todo ≡ []
      → (AppearedStand start → AppearedStand old) → GroomsNext old None new → AreNamesSettled start new
  is_settled so read stand takes = record {
    sound = groomed_sound so takes;
    todo = ap (λ (o : Option PassFacts). (pass_or_none o).todo) takes.taken.same ∙ read;
    groom = ap (λ (o : Option PassFacts). (pass_or_none o).groom) takes.taken.same ∙ takes.taken.none;
    out = λ none. ap (λ (o : Option PassFacts). (pass_or_none o).out) takes.taken.same ∙ so.out none;
    appeared = λ none.
        appears_same old new [] (ap (λ (o : Option PassFacts). (pass_or_none o).missed) takes.taken.same)
        (ap (λ (s : StateFacts K). s.rows) takes.same) (stand (none_stand start none));
  }

-- an end that isn't the keeper's owes no fault of it
pub quiet_cause : {K : Type 0} {told : Bool} {version : Versions} {shows : K → ShownKeeper} {before after : ShownTree}
    {start new : StateFacts K} {end : WorkEnd} → (end ≡ KeeperFault → ⊥) → TakesNames told version shows before after start new
    → HasCause (shows start.keeper).faults (shows new.keeper).faults (end ≡ KeeperFault)
quiet_cause never settles = record { later = settles.does.on.keeper; rose = λ is. absurd (never is) }

-- the rows are looked for once the listed files were read
module _ {K : Type 0} {old mid : StateFacts K} (new : StateFacts K) where
  pub settled_after : (end : WorkEnd) → AreNamesRead old mid → SettlesBy mid new end → SettlesBy old new end
  settled_after Empty read h = record {
    sound = h.sound;
    todo = h.todo;
    groom = h.groom;
    out = λ none. h.out (read.out none);
    appeared = λ none. h.appeared (read.appeared none);
  }
  settled_after Broken read h = h
  settled_after KeeperFault read h = h
  settled_after LogFull read h = h
  settled_after OutOfMemory read h = h

-- or the reading ended the settling
module _ {K : Type 0} (old new : StateFacts K) where
  pub settled_else : (end : WorkEnd) → (end ≡ Empty → ⊥) → ReadsBy old new end → SettlesBy old new end
  settled_else Empty never h = absurd (never refl)
  settled_else Broken never h = h
  settled_else KeeperFault never h = h
  settled_else LogFull never h = h
  settled_else OutOfMemory never h = h
