-- The index goes behind a lock, comes back, and the pass is begun again.
use Rattle.std.proofs.Common.{inl, inr, List, ap, arith, refl, sym, subst}
use Rattle.std.specs.List.{AllZip}
use Rattle.std.proofs.lemmas.Bool.{true≢false}
use Rattle.row_types.specs.Name.{NameFacts}
use Rattle.row_types.specs.Rules.{rules}
use Rattle.pass_runner.specs.Helped.{HelpedFrom}
use Rattle.pass_runner.proofs.BesideLemmas.{not_shared, over_shared, spared_names}
use Rattle.pass_runner.proofs.PassHands.{hands_none}
use Rattle.pass_runner.proofs.ScopeLemmas.{same_scope}
use Rattle.pass_runner.proofs.beside.scan_parts.Goals as goal

pub returns-in-Ok-clause-over : goal.returns-in-Ok-clause-over
returns-in-Ok-clause-over g c = λ hands some.
    over_shared {K = g.row.K.Denot} hands some c.in-Begun.ensures.step c.spare.ensures
    (rules g.W.Truth.version g.W.Truth.true_row g.W.Truth.told) g.T.Tree.told g.K.Keeper.told g.K.Keeper.shows g.T.Tree.shows
    c.args.first c.settle_again-end.new.hand c.in-Ok.state c.settle_again-end.new.state
    c.rows-rows.ensures.holds.rows_replay_the_log.names c.in-Ok.ensures.log c.in-Ok.ensures.origin
    c.show_index.ensures.skipped_names_stand c.show_index.ensures.log_is_bounded c.requires.again.1
    (same_scope c.requires.again.0 c.in-Begun.ensures.same) c.settle_again-end.result
    c.settle_again-end.ensures.again

pub returns-in-Ok-clause-helped : goal.returns-in-Ok-clause-helped
returns-in-Ok-clause-helped g c =
    inl (subst (λ (spared : List NameFacts). AllZip (HelpedFrom g.T.Tree.shows g.T.Tree.told g.W.Truth.version spared) c.args.helpers.items c.in-Ok.helpers.items)
    (spared_names {K = g.row.K.Denot} 2 (omega arith) c.in-Begun.ensures.step c.spare.ensures) c.in-Ok.ensures.ran)

pub returns-in-Err-clause-over : goal.returns-in-Err-clause-over
returns-in-Err-clause-over g c = λ hands some.
    inr (inr (not_shared {K = g.row.K.Denot} hands some c.in-Begun.ensures.step c.spare.ensures c.args.first c.in-Err.state
    c.in-Err.ensures.err.0))

pub returns-in-Err-clause-helped : goal.returns-in-Err-clause-helped
returns-in-Err-clause-helped g c = inr (ap (λ v. v.items) c.in-Err.ensures.err.1, refl)

pub returns-in-Err-clause-hand : goal.returns-in-Err-clause-hand
returns-in-Err-clause-hand g c = hands_none (λ f. true≢false (sym f))

pub returns-in-OutOfMemory-clause-over : goal.returns-in-OutOfMemory-clause-over
returns-in-OutOfMemory-clause-over g c = λ hands some. inl (record { hand = refl; state = c.in-OutOfMemory.ensures.step.same })

pub returns-in-OutOfMemory-clause-helped : goal.returns-in-OutOfMemory-clause-helped
returns-in-OutOfMemory-clause-helped g c = inr (refl, refl)

pub returns-in-OutOfMemory-clause-hand : goal.returns-in-OutOfMemory-clause-hand
returns-in-OutOfMemory-clause-hand g c = hands_none (λ f. true≢false (sym f))
