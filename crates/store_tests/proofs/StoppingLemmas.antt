-- What the keeper that stops shows is what the one below it does, with its own count of faults.
use Rattle.std.proofs.Common.{◌≡◌, ℕ, Bool, true, subst}
use Rattle.index_keeper.specs.Answers.{for_change, keeper_failed}
use Rattle.index_keeper.specs.Keeper.{AsksKeeper, ShownKeeper, TellsTables}
use Rattle.index_keeper.specs.Tables.{EditFacts}
use Rattle.index_keeper.specs.declared.answer.KeepAnswer.{KeepAnswer}
use Rattle.index_keeper.specs.declared.answer.KeepAnswer.TheVariants as answer
use Rattle.sqlite_keeper.specs.Keeper.{IsCounted}

-- what an answer to a change says of the tables says nothing of the count
told_so : (before after : ShownKeeper) (m n : ℕ) (edit : EditFacts) (given : KeepAnswer) → TellsTables before after (for_change edit given)
    → TellsTables (record before { faults = m }) (record after { faults = n }) (for_change edit given)
told_so before after m n edit answer.Done it = record { changed = it.changed; settled = record { left = it.settled.left; only = it.settled.only } }
told_so before after m n edit answer.Failed it = record { now = it.now; without = it.without; each = it.each }
told_so before after m n edit answer.OutOfMemory it = record { same = it.same; left = it.left }

-- a change that the keeper below answered, and that is counted if it failed
pub passed_on : (before after : ShownKeeper) (m n : ℕ) (edit : EditFacts) (given : KeepAnswer) (failed : Bool) → AsksKeeper true before after (for_change edit given)
    → failed ≡ keeper_failed (for_change edit given) → IsCounted failed m n → AsksKeeper true (record before { faults = m }) (record after { faults = n }) (for_change edit given)
passed_on before after m n edit given failed asks is counted =
    let own : IsCounted (keeper_failed (for_change edit given)) m n = subst (λ (f : Bool). IsCounted f m n) is counted in
    record {
      tells = λ told. told_so before after m n edit given (asks.tells told);
      grows = asks.grows;
      cause = own.cause;
      faultless = own.faultless;
      number = asks.number;
    }
