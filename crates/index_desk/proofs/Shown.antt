-- What the log that a hold left shows of the answer.
use Rattle.std.proofs.Common.{◌≡◌, ◌+◌, ◌≤◌, cond, not, Bool, true, List, [], ◌∷◌, ◌++◌, length, refl, sym, ◌∙◌, ap, subst, arith}
use Rattle.std.specs.List.{count_by}
use Rattle.std.proofs.lemmas.List.Sums.{sum_by-append}
use mathlib.Core.List.{IsPrefix}
use Rattle.row_types.specs.Name.{NameFacts}
use Rattle.row_types.specs.Row.{RowFacts}
use Rattle.index_keeper.specs.Keeper.{ShownKeeper}
use Rattle.index_lock.specs.Tokens.{SeatFacts}
use Rattle.index_rows.specs.Log.{drop_of, put_of}
use Rattle.index_rows.specs.declared.change.Change.{Change}
use Rattle.index_state.specs.Changes.{EndsVoid, VoidWhere}
use Rattle.index_state.specs.Invariant.{IndexInvariant}
use Rattle.index_state.specs.State.{Origin, StateFacts}
use Rattle.index_state.specs.Step.{Judges, Publishes, judges, publishes, to_judge, to_publish}
use Rattle.index_state.specs.declared.answer.Judged.{Judged}
use Rattle.index_state.specs.declared.answer.Judged.TheVariants as judged
use Rattle.index_state.specs.declared.answer.Published.{Published}
use Rattle.index_state.specs.declared.answer.Published.TheVariants as said
use Rattle.scan_queue.specs.declared.miss.Seen.{Seen}
use Rattle.index_desk.specs.Counts.{drops, puts}
use Rattle.index_desk.specs.Ends.{JudgedShows, PublishedShows, drop_by, put_by}
use Rattle.index_desk.specs.Holds.{HoldsEvent}
use Rattle.index_desk.proofs.Goes.{judge_goes, publish_goes}

-- how many changes of a kind two logs have, one behind the other
counts_both : (test : Change → Bool) (xs ys : List Change) → count_by test (xs ++ ys) ≡ count_by test xs + count_by test ys
counts_both test xs ys = sum_by-append (λ (change : Change). cond (test change) 1 0) xs ys

-- a log that goes on has no fewer of a kind
counts_grow : (test : Change → Bool) (xs ys : List Change) → IsPrefix xs ys → count_by test xs ≤ count_by test ys
counts_grow test xs ys p =
    let more = counts_both test xs p.0 in
    let same = ap (λ (log : List Change). count_by test log) p.1 in
    omega (arith, more, same)

pub puts_grow : (xs ys : List Change) → IsPrefix xs ys → puts xs ≤ puts ys
puts_grow xs ys p = counts_grow (λ change. change.put) xs ys p

pub drops_grow : (xs ys : List Change) → IsPrefix xs ys → drops xs ≤ drops ys
drops_grow xs ys p = counts_grow (λ change. not change.put) xs ys p

-- the log of a broken index ends in a void change
ends_void : {K : Type 0} {true_row : RowFacts → Type 0} {told : Bool} {shows : K → ShownKeeper} {new : StateFacts K}
    → IndexInvariant true_row told shows new → new.broken ≡ true → EndsVoid new.log
ends_void {new = new} holds broken = subst (λ (b : Bool). VoidWhere b new.log) broken holds.broken_means_a_void_last_change.void

module _ {K : Type 0} {true_row : RowFacts → Type 0} (told : Bool) (shows : K → ShownKeeper) (old new : StateFacts K) where
  publish_shown : (row : RowFacts) (answer : Published) → IndexInvariant true_row told shows new
      → Publishes told shows row old answer new → PublishedShows answer new.log
  publish_shown row said.Broken holds h = ends_void holds (ap (λ (s : StateFacts K). s.broken) h.same ∙ h.why)
  publish_shown row (said.NotListed listed) holds h = tt
  publish_shown row said.Already holds h = tt
  publish_shown row said.LogFull holds h = ap (λ (s : StateFacts K). length s.log) h.same ∙ h.why.full
  publish_shown row said.OutOfMemory holds h = tt
  publish_shown row said.KeeperFault holds h = ends_void holds (ap (λ (s : StateFacts K). s.broken) h.after)
  publish_shown row said.Added holds h = tt
  publish_shown row said.Replaced holds h = tt

  judge_shown : (name : NameFacts) (met : Seen) (answer : Judged) → IndexInvariant true_row told shows new
      → Judges told shows name met old answer new → JudgedShows answer new.log
  judge_shown name met judged.Broken holds h = ends_void holds (ap (λ (s : StateFacts K). s.broken) h.same ∙ h.why)
  judge_shown name met judged.KeeperFault holds h = ends_void holds (ap (λ (s : StateFacts K). s.broken) h.drops.after)
  judge_shown name met judged.LogFull holds h = ap (λ (s : StateFacts K). length s.log) h.drops.same ∙ h.drops.why.full
  judge_shown name met judged.Kept holds h = tt
  judge_shown name met (judged.Moved now) holds h = tt
  judge_shown name met judged.Strange holds h = tt
  judge_shown name met judged.OutOfMemory holds h = tt
  judge_shown name met judged.Dropped holds h = tt

module _ {K : Type 0} (told : Bool) (shows : K → ShownKeeper) (old new : StateFacts K) where
  -- a put that is answered stands in the log
  one_put : (row : RowFacts) → new.log ≡ old.log ++ put_of row.name ∷ [] → puts old.log + 1 ≤ puts new.log
  one_put row log =
      let after = ap puts log in
      let more = counts_both (λ change. change.put) old.log (put_of row.name ∷ []) in
      omega (arith, after, more)

  no_put : (row : RowFacts) (answer : Published) → put_by answer ≡ 0 → Publishes told shows row old answer new
      → puts old.log + put_by answer ≤ puts new.log
  no_put row answer none h =
      let grows = puts_grow old.log new.log (publish_goes told shows row answer h).log in omega (arith, none, grows)

  put_counted : (row : RowFacts) (answer : Published) → Publishes told shows row old answer new
      → puts old.log + put_by answer ≤ puts new.log
  put_counted row said.Added h = one_put row (ap (λ (s : StateFacts K). s.log) h.stored.after)
  put_counted row said.Replaced h = one_put row (ap (λ (s : StateFacts K). s.log) h.stored.after)
  put_counted row said.Broken h = no_put row said.Broken refl h
  put_counted row (said.NotListed listed) h = no_put row (said.NotListed listed) refl h
  put_counted row said.Already h = no_put row said.Already refl h
  put_counted row said.LogFull h = no_put row said.LogFull refl h
  put_counted row said.OutOfMemory h = no_put row said.OutOfMemory refl h
  put_counted row said.KeeperFault h = no_put row said.KeeperFault refl h

  -- and so does a drop
  no_drop : (name : NameFacts) (met : Seen) (answer : Judged) → drop_by answer ≡ 0
      → Judges told shows name met old answer new → drops old.log + drop_by answer ≤ drops new.log
  no_drop name met answer none h =
      let grows = drops_grow old.log new.log (judge_goes told shows name met answer h).log in omega (arith, none, grows)

  drop_counted : (name : NameFacts) (met : Seen) (answer : Judged) → Judges told shows name met old answer new
      → drops old.log + drop_by answer ≤ drops new.log
  drop_counted name met judged.Dropped h =
      let after = ap (λ (s : StateFacts K). drops s.log) h.drops.after in
      let more = counts_both (λ change. not change.put) old.log (drop_of name ∷ []) in
      omega (arith, after, more)
  drop_counted name met judged.Broken h = no_drop name met judged.Broken refl h
  drop_counted name met judged.Kept h = no_drop name met judged.Kept refl h
  drop_counted name met (judged.Moved now) h = no_drop name met (judged.Moved now) refl h
  drop_counted name met judged.Strange h = no_drop name met judged.Strange refl h
  drop_counted name met judged.LogFull h = no_drop name met judged.LogFull refl h
  drop_counted name met judged.OutOfMemory h = no_drop name met judged.OutOfMemory refl h
  drop_counted name met judged.KeeperFault h = no_drop name met judged.KeeperFault refl h

-- by what a hold says
module _ {K : Type 0} {true_row : RowFacts → Type 0} (told : Bool) (shows : K → ShownKeeper) (seat later_seat : SeatFacts Change Origin) where
  pub publish_puts : (row : RowFacts) (answer : Published)
      → HoldsEvent true_row told shows (publishes row) (to_publish answer) seat later_seat
      → puts seat.seen + put_by answer ≤ puts later_seat.seen
  publish_puts row answer h =
      let before = puts_grow seat.seen h.old.log h.began in
      let counted = put_counted told shows h.old h.new row answer h.does.does in
      let same = ap puts h.seen in
      omega (arith, before, counted, same)

  pub publish_shows : (row : RowFacts) (answer : Published)
      → HoldsEvent true_row told shows (publishes row) (to_publish answer) seat later_seat
      → PublishedShows answer later_seat.seen
  publish_shows row answer h =
      subst (λ (log : List Change). PublishedShows answer log) (sym h.seen) (publish_shown told shows h.old h.new row answer h.does.holds h.does.does)

  pub judge_drops : (name : NameFacts) (met : Seen) (answer : Judged)
      → HoldsEvent true_row told shows (judges name met) (to_judge answer) seat later_seat
      → drops seat.seen + drop_by answer ≤ drops later_seat.seen
  judge_drops name met answer h =
      let before = drops_grow seat.seen h.old.log h.began in
      let counted = drop_counted told shows h.old h.new name met answer h.does.does in
      let same = ap drops h.seen in
      omega (arith, before, counted, same)

  pub judge_shows : (name : NameFacts) (met : Seen) (answer : Judged)
      → HoldsEvent true_row told shows (judges name met) (to_judge answer) seat later_seat
      → JudgedShows answer later_seat.seen
  judge_shows name met answer h =
      subst (λ (log : List Change). JudgedShows answer log) (sym h.seen) (judge_shown told shows h.old h.new name met answer h.does.holds h.does.does)
