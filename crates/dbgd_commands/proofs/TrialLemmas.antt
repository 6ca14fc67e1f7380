-- A trial: its sum row by row, its hands, and its opening.
use Rattle.std.proofs.Common.{◌≡◌, inl, inr, ℕ, zero, suc, ◌<◌, ◌≤◌, true}
use Rattle.std.proofs.Common.{List, [], ◌∷◌, ◌++◌, length, Some, refl, sym, ◌∙◌, ap, arith}
use Rattle.std.specs.Prelude.{replicate}
use Rattle.row_types.specs.Row.{RowFacts}
use Rattle.sha2.specs.Hashers.{Holds256}
use Rattle.sha2.specs.declared.Sha256.{Sha256}
use Rattle.index_keeper.specs.Answers.{for_rows, rows_given}
use Rattle.index_keeper.specs.Keeper.{AsksKeeper}
use Rattle.index_keeper.specs.MemKeeper.{MemKeeperFacts}
use Rattle.index_keeper.specs.Tables.{KeptFacts}
use Rattle.index_keeper.specs.declared.answer.KeptAnswer.{KeptAnswer}
use Rattle.index_keeper.specs.declared.answer.KeptAnswer.TheVariants.{All as AllRows, Failed as RowsFailed}
use Rattle.index_keeper.specs.declared.answer.KeptAnswer.TheVariants.{OutOfMemory as RowsNoMemory}
use Rattle.index_rows.specs.declared.rows.TheConstants.{LOG_LIMIT}
use Rattle.index_state.specs.Kept.{tables_of_rows}
use Rattle.index_state.specs.Opening.{CountsFault, RefusesOpening, current}
use Rattle.index_state.specs.declared.open_fault.OpenFault.{OpenFault}
use Rattle.index_state.specs.declared.open_fault.OpenFault.TheVariants as refusal
use Rattle.pass_runner.specs.Owned.{HandsGo}
use Rattle.dbgd_commands.specs.TrialKeeper.{IsNewKeeper, shown_sure}
use Rattle.dbgd_commands.specs.Trial.{joined_rows}

-- ---- the sum

-- the digest holds some bytes, and those of the rows that are left are all that lacks of the bytes of all rows
pub record Completes (digest : Sha256) (rest all : List RowFacts) : Type 0 where
  pub so_far : List ℕ
  pub holds : Holds256 digest so_far
  pub parts : so_far ++ joined_rows rest ≡ joined_rows all

-- ---- the hands

-- what the first of some hands did, where all began alike
pub first_of_alike : {T : Type 0} (First Other Goes Stays : T → T → Type 0) (hand : T) (count : ℕ) (left : List T)
    → 1 ≤ count
    → HandsGo First Other (replicate count hand) left → HandsGo Goes Stays (replicate count hand) left
    → (later : T) × First hand later × Goes hand later
first_of_alike First Other Goes Stays hand zero left some first goes = absurd (omega (arith, some))
first_of_alike First Other Goes Stays hand (suc n) [] some first goes = absurd first
first_of_alike First Other Goes Stays hand (suc n) (later ∷ left) some first goes = (later, first.0, goes.0)

-- ---- the opening

nothing_in : (values : List KeptFacts) (answer : KeptAnswer) (keeper asked : MemKeeperFacts) → keeper.shelf.tables ≡ []
    → AsksKeeper true (shown_sure keeper) (shown_sure asked) (for_rows answer) → rows_given answer ≡ Some values → values ≡ []
nothing_in values (AllRows rows) keeper asked none heard gave =
    let tells = heard.tells refl in
    some_values gave ∙ tells.whole ∙ tells.stays.same ∙ none
  where
    some_values : Some rows.items ≡ Some values → values ≡ rows.items
    some_values e = cc
nothing_in values RowsFailed keeper asked none heard gave = absurd (cc)
nothing_in values RowsNoMemory keeper asked none heard gave = absurd (cc)

no_parts : (before behind : List KeptFacts) (value : KeptFacts) → [] ≡ before ++ value ∷ behind → ⊥
no_parts [] behind value e = absurd (cc)
no_parts (first ∷ before) behind value e = absurd (cc)

no_rows : (rows : List RowFacts) → [] ≡ tables_of_rows rows → rows ≡ []
no_rows [] e = refl
no_rows (row ∷ rows) e = absurd (cc)

-- an index on a new store can't be opened for want of memory alone
pub only_memory : (keeper given : MemKeeperFacts) (fault : OpenFault) → IsNewKeeper keeper
    → RefusesOpening true shown_sure keeper fault given → CountsFault (shown_sure keeper) (shown_sure given) fault
    → fault ≡ refusal.OutOfMemory
only_memory keeper given refusal.OutOfMemory new why counts = refl
only_memory keeper given refusal.KeeperFault new why counts =
    let rose = counts.rose refl in absurd (omega (arith, rose))
only_memory keeper given (refusal.BadRow kept fault) new (inl none) counts = absurd none.why
only_memory keeper given (refusal.BadRow kept fault) new (inr why) counts =
    let first = why.why.0 in
    absurd (no_parts first.before first.behind kept
    (sym (nothing_in why.values why.gave.answer keeper why.asked new.tables why.gave.heard why.gave.gave)
    ∙ first.parts))
only_memory keeper given refusal.LogFull new (inl none) counts = absurd none.why
only_memory keeper given refusal.LogFull new (inr why) counts =
    let over = why.why.0 in
    let none = no_rows over.rows
    (sym (nothing_in why.values why.gave.answer keeper why.asked new.tables why.gave.heard why.gave.gave)
    ∙ over.sound.kept) in
    let many : LOG_LIMIT < length (current over.rows) = over.many in
    let few : length (current over.rows) ≡ 0 = ap (λ rows. length (current rows)) none in
    absurd (omega (arith, many, few))
