-- A first pass, and what goes on behind it; what was said at beginnings of a log; a keeper on which an index was opened.
use Rattle.std.proofs.Common.{◌≡◌, ◌⊎◌, inl, inr, ℕ, ◌<◌, nat_lt, Bool, true, false, List, Option, Some, None, refl, sym, ◌∙◌, arith}
use Rattle.std.specs.List.{AllZip}
use Rattle.std.proofs.lemmas.Bool.{false≢true}
use Rattle.std.proofs.lemmas.Bool.Decides.{nat_tests}
use mathlib.Core.List.{IsPrefix}
use Rattle.index_keeper.specs.Keeper.{ShownKeeper}
use Rattle.index_lock.proofs.Prefixes.{prefix_trans}
use Rattle.index_rows.specs.declared.change.Change.{Change}
use Rattle.index_state.specs.Opening.{Opens}
use Rattle.index_state.specs.State.{StateFacts}
use Rattle.dbgd_commands.specs.Endings.{Streams}
use Rattle.dbgd_run.specs.Rounds.{PassStage, Round}
use Rattle.dbgd_run.specs.Serve.{MakesRound}
use Rattle.dbgd_run.specs.ServeSaid.{Announces}
use Rattle.dbgd_run.specs.Serving.{ServeStage, GoesOn, ServeSetting, ServesFrom, ServesIndex, ServesKeeper, goes_on}
use Rattle.dbgd_run.specs.Workers.{WorkerServed}
use Rattle.dbgd_run.specs.declared.line_fate.LineFate.{LineFate}
use Rattle.dbgd_run.specs.declared.line_fate.LineFate.TheVariants.{Written, Cut, Unmade}
use Rattle.dbgd_run.specs.declared.passes_end.PassesEnd.{PassesEnd}
use Rattle.dbgd_run.specs.declared.serve_end.ServeEnd.{ServeEnd}
use Rattle.dbgd_run.specs.declared.serve_end.ServeEnd.TheVariants.{Refused, Unannounced, Unlocked, Served}
use Rattle.dbgd_run.specs.declared.worker.Worker.{Worker}
use Rattle.dbgd_run.proofs.WorkerLemmas.{served_later}

-- a number is 0, or greater, as the test says
none_more : (n : ℕ) → nat_lt 0 n ≡ false → n ≡ 0
none_more n e = grind (arith, nat_tests)

some_more : (n : ℕ) → nat_lt 0 n ≡ true → 0 < n
some_more n e = grind (arith, nat_tests)

-- no passes behind the first one: there is no time between them, or its line could not be made
none_on : (secs : ℕ) (fate : LineFate) → goes_on secs fate ≡ false → (secs ≡ 0) ⊎ (fate ≡ Unmade)
none_on secs Unmade e = inr refl
none_on secs Written e = inl (none_more secs e)
none_on secs Cut e = inl (none_more secs e)

-- passes behind it: there is time between them
some_on : (secs : ℕ) (fate : LineFate) → goes_on secs fate ≡ true → 0 < secs
some_on secs Unmade e = absurd (false≢true e)
some_on secs Written e = some_more secs e
some_on secs Cut e = some_more secs e

module _ {T D L : Type 0} (r : ServeSetting T D L) (before : PassStage T) (workers : List (Worker T D L)) (first : Round T) where
  pub serves_from : (how : Option PassesEnd) (joined : List Change) (after : ServeStage T D L) (passing : Bool)
      → MakesRound r.setting r.scope before first → passing ≡ goes_on r.secs first.fate → IsPrefix first.after.log joined
      → AllZip (WorkerServed r.doors r.sees r.views first.after.log joined) workers after.workers
      → GoesOn r.setting r.scope r.secs passing first.after how joined after
      → ServesFrom r before workers first.fate how joined after
  serves_from None joined after passing made is later doors on = record {
    first = first;
    fate_is = refl;
    made = made;
    passed = later;
    doors = doors;
    last = first.after;
    passes = (none_on r.secs first.fate (sym is ∙ on.0), refl);
    within = later;
    hands = on.1;
    woke = on.2;
    streams = on.3;
  }
  serves_from (Some end) joined after passing made is later doors on = record {
    first = first;
    fate_is = refl;
    made = made;
    passed = later;
    doors = doors;
    last = on.1.last;
    passes = (some_on r.secs first.fate (sym is ∙ on.0), on.1.keeps);
    within = on.1.within;
    hands = on.1.hands;
    woke = on.1.woke;
    streams = on.1.streams;
  }

pub serves_later : {T D L : Type 0} (r : ServeSetting T D L) (before : PassStage T) (workers : List (Worker T D L)) (fate : LineFate)
    (how : Option PassesEnd) (joined last : List Change) (after : ServeStage T D L) → IsPrefix joined last
    → ServesFrom r before workers fate how joined after → ServesFrom r before workers fate how last after
serves_later r before workers fate how joined last after more run = record {
  first = run.first;
  fate_is = run.fate_is;
  made = run.made;
  passed = prefix_trans run.first.after.log joined last run.passed more;
  doors = served_later r.doors r.sees r.views run.first.after.log joined last more workers after.workers run.doors;
  last = run.last;
  passes = run.passes;
  within = prefix_trans run.last.log joined last run.within more;
  hands = run.hands;
  woke = run.woke;
  streams = run.streams;
}

module _ {K T D L : Type 0} (r : ServeSetting T D L) (shows : K → ShownKeeper) (line : List ℕ) (opened keeper : K) (before : PassStage T)
    (workers : List (Worker T D L)) where
  pub keeper_opened : (end : ServeEnd) (after : ServeStage T D L) {old : StateFacts K} {told : Streams}
      → Opens r.setting.tells_tables shows opened old → Announces line true before.streams told
      → ServesIndex r shows old (record before { log = old.log; streams = told }) workers end keeper after
      → ServesKeeper r shows line opened before workers end keeper after
  keeper_opened (Refused fault) after opens says serves = absurd serves
  keeper_opened Unannounced after opens says serves = absurd serves
  keeper_opened Unlocked after {old} {told} opens says serves =
      record { old = old; opens = opens; told = told; says = says; serves = serves }
  keeper_opened (Served fate how broken) after {old} {told} opens says serves =
      record { old = old; opens = opens; told = told; says = says; serves = serves }
