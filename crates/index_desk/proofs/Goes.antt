-- What each event leaves of the log and the origin, and what one hold says.
use Rattle.std.proofs.Common.{◌≡◌, ℕ, Bool, List, [], ◌∷◌, ◌++◌, Option, None, refl, sym, ◌∙◌, ap, subst}
use Rattle.std.specs.Prelude.{Result, Ok, Err}
use mathlib.Core.List.{IsPrefix}
use Rattle.row_types.specs.Name.{NameFacts}
use Rattle.row_types.specs.Row.{RowFacts}
use Rattle.index_keeper.specs.Keeper.{ShownKeeper}
use Rattle.index_lock.proofs.Prefixes.{prefix_of_same, prefix_trans}
use Rattle.index_lock.specs.Tokens.{SeatFacts}
use Rattle.index_rows.specs.Log.{drop_of, put_of}
use Rattle.index_rows.specs.declared.change.Change.{Change}
use Rattle.path_scope.specs.Scope.{Scope}
use Rattle.index_state.specs.Away.{GroomsNext, MissesOut}
use Rattle.index_state.specs.Invariant.{IndexInvariant}
use Rattle.index_state.specs.Spared.{Sparing}
use Rattle.index_state.specs.State.{Origin, StateFacts, unspared}
use Rattle.index_state.specs.Step.{BeginsOrNot, Judges, Publishes, TakesNextName}
use Rattle.index_state.specs.declared.answer.Begun.{Begun}
use Rattle.index_state.specs.declared.answer.Begun.TheVariants as begun
use Rattle.index_state.specs.declared.answer.GroomTask.{GroomTask}
use Rattle.index_state.specs.declared.answer.Judged.{Judged}
use Rattle.index_state.specs.declared.answer.Judged.TheVariants as judged
use Rattle.index_state.specs.declared.answer.Published.{Published}
use Rattle.index_state.specs.declared.answer.Published.TheVariants as said
use Rattle.scan_queue.specs.declared.miss.Cause.{Cause}
use Rattle.scan_queue.specs.declared.miss.Seen.{Seen}
use Rattle.index_desk.specs.Holds.{Holds, HoldsIndex, LogGoesOn, RetriesAll}

-- an origin of which no name was spared
pub same_origin : (o : Origin) → o.sparing ≡ None → o.spared ≡ [] → unspared o ≡ o
same_origin o never none =
    ap (λ (m : Option Sparing). record o { sparing = m; spared = [] }) (sym never)
    ∙ ap (λ (names : List NameFacts). record o { spared = names }) (sym none)

module _ {K : Type 0} {old new : StateFacts K} where
  -- the log stays
  stays_as : {state : StateFacts K} → new ≡ state → state.log ≡ old.log → state.origin ≡ old.origin → LogGoesOn old new
  stays_as is log origin = record {
    log = prefix_of_same old.log new.log (sym (ap (λ (s : StateFacts K). s.log) is ∙ log));
    origin = ap (λ (s : StateFacts K). s.origin) is ∙ origin;
  }

  -- or has one change more
  grows_by : (change : Change) {state : StateFacts K} → new ≡ state → state.log ≡ old.log ++ change ∷ []
      → state.origin ≡ old.origin → LogGoesOn old new
  grows_by change is log origin = record {
    log = (change ∷ [], sym (ap (λ (s : StateFacts K). s.log) is ∙ log));
    origin = ap (λ (s : StateFacts K). s.origin) is ∙ origin;
  }

  pub begin_goes : (listing : List NameFacts) (scope : Scope) → old.origin.sparing ≡ None → old.origin.spared ≡ []
      → (answer : Begun) → BeginsOrNot listing scope old answer new → LogGoesOn old new
  begin_goes listing scope never none (begun.Begun plan) h = stays_as h.after refl (same_origin old.origin never none)
  begin_goes listing scope never none begun.Broken h = stays_as h.same refl refl
  begin_goes listing scope never none begun.OutOfMemory h = stays_as h.same refl refl

  pub take_goes : (answer : Option NameFacts) → TakesNextName old answer new → LogGoesOn old new
  take_goes answer h = stays_as h.same refl refl

  pub groom_goes : (answer : Option GroomTask) → GroomsNext old answer new → LogGoesOn old new
  groom_goes answer h = stays_as h.same refl refl

  pub miss_goes : (name : NameFacts) (cause : Cause) (answer : Bool) → MissesOut name cause old answer new
      → LogGoesOn old new
  miss_goes name cause answer h = stays_as h.same refl refl

  module _ (told : Bool) (shows : K → ShownKeeper) where
    pub publish_goes : (row : RowFacts) (answer : Published) → Publishes told shows row old answer new → LogGoesOn old new
    publish_goes row said.Broken h = stays_as h.same refl refl
    publish_goes row (said.NotListed listed) h = stays_as h.same refl refl
    publish_goes row said.Already h = stays_as h.after refl refl
    publish_goes row said.LogFull h = stays_as h.same refl refl
    publish_goes row said.OutOfMemory h = stays_as h.same refl refl
    publish_goes row said.KeeperFault h = grows_by (drop_of row.name) h.after refl refl
    publish_goes row said.Added h = grows_by (put_of row.name) h.stored.after refl refl
    publish_goes row said.Replaced h = grows_by (put_of row.name) h.stored.after refl refl

    pub judge_goes : (name : NameFacts) (met : Seen) (answer : Judged) → Judges told shows name met old answer new
        → LogGoesOn old new
    judge_goes name met judged.Broken h = stays_as h.same refl refl
    judge_goes name met judged.Kept h = stays_as h.same refl refl
    judge_goes name met (judged.Moved now) h = stays_as h.after refl refl
    judge_goes name met judged.Strange h = stays_as h.missed.same refl refl
    judge_goes name met judged.LogFull h = stays_as h.drops.same refl refl
    judge_goes name met judged.OutOfMemory h = stays_as h.drops.same refl refl
    judge_goes name met judged.KeeperFault h = grows_by (put_of name) h.drops.after refl refl
    judge_goes name met judged.Dropped h = grows_by (drop_of name) h.drops.after refl refl

    pub retry_goes : {E : Type 0} (answer : Result ℕ E) → RetriesAll told shows answer old new → LogGoesOn old new
    retry_goes (Ok count) h = stays_as h.same refl refl
    retry_goes (Err refused) h = stays_as h refl refl

-- one hold: the lock was taken and left, and between them this was done to the value
pub held_by : {S E O : Type 0} {log : S → List E} {origin : S → O} {Does : S → S → Type 0} (seat after : SeatFacts E O)
    (value old new : S) → IsPrefix seat.seen (log value) → origin value ≡ seat.origin → old ≡ value → Does old new
    → IsPrefix (log old) (log new) → origin new ≡ origin old → after.lock ≡ seat.lock → after.seen ≡ log new
    → after.origin ≡ seat.origin → Holds log origin Does seat after
held_by {S} {E} {O} {log} {origin} seat after value old new begins from lent does grows stays lock seen same =
    let began : IsPrefix seat.seen (log old) = subst (λ (s : S). IsPrefix seat.seen (log s)) (sym lent) begins in
    record {
      old = old;
      new = new;
      began = began;
      from = ap origin lent ∙ from;
      does = does;
      grows = grows;
      stays = stays;
      later = record {
        lock = lock;
        log = subst (λ (l : List E). IsPrefix seat.seen l) (sym seen) (prefix_trans seat.seen (log old) (log new) began grows);
        origin = same;
      };
      seen = seen;
    }

-- one hold of an index
pub index_held : {K : Type 0} {true_row : RowFacts → Type 0} {told : Bool} {shows : K → ShownKeeper}
    {Does : StateFacts K → StateFacts K → Type 0} (seat after : SeatFacts Change Origin) (value old new : StateFacts K)
    → IsPrefix seat.seen value.log → value.origin ≡ seat.origin → old ≡ value → Does old new → LogGoesOn old new
    → IndexInvariant true_row told shows new → after.lock ≡ seat.lock → after.seen ≡ new.log → after.origin ≡ seat.origin
    → HoldsIndex true_row told shows Does seat after
index_held {K} seat after value old new begins from lent does goes holds lock seen same =
    held_by seat after value old new begins from lent (record { does = does; holds = holds }) goes.log goes.origin lock seen same
