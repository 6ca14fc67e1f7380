-- The first hold, the helpers, and what the first hand settles.
use Rattle.std.proofs.Common.{inl, inr, List, ap, refl, subst, ◌∙◌}
use Rattle.std.specs.List.{AllZip}
use Rattle.row_types.specs.Name.{NameFacts}
use Rattle.path_scope.specs.Scope.{scope_of}
use Rattle.row_types.specs.Rules.{rules}
use Rattle.index_lock.proofs.Later.{later_trans}
use Rattle.index_state.specs.State.{Origin}
use Rattle.lock_crew.proofs.Zips.{zip_weaker}
use Rattle.pass_runner.specs.Helped.{HelpedFrom}
use Rattle.index_state.specs.declared.answer.Begun.{Begun}
use Rattle.pass_runner.specs.Leading.{BeginShows}
use Rattle.pass_runner.specs.declared.pass_end.PassEnd.TheVariants.{Broken, OutOfMemory}
use Rattle.pass_runner.proofs.PlannedLemmas.{leads_again, leads_early, settled_sound}
use Rattle.pass_runner.proofs.ScopeLemmas.{same_scope}
use Rattle.pass_runner.proofs.coordinate.pass_parts.Goals as goal

pub settle_last-desk-requires-after_bounds : goal.settle_last-desk-requires-after_bounds
settle_last-desk-requires-after_bounds g c κs within =
    ap (λ (o : Origin). o.sparing) (later_trans c.begin_one-desk.ensures.later c.run_crew-desk.ensures.later).origin
    ∙ c.requires.spared

pub returns-in-Begun-clause-later : goal.returns-in-Begun-clause-later
returns-in-Begun-clause-later g c =
    later_trans (later_trans c.begin_one-desk.ensures.later c.run_crew-desk.ensures.later) c.settle_last-desk.ensures.later

pub returns-in-Begun-clause-over : goal.returns-in-Begun-clause-over
returns-in-Begun-clause-over g c =
    leads_again (rules g.W.Truth.version g.W.Truth.true_row g.W.Truth.told) c.args.desk.seat.seen c.begin_one-desk.result.0.seat.seen
    c.run_crew-desk.result.0.seat.seen c.settle_last-desk.result.0.seat.seen c.settle_last-desk.result.1
    c.begin_one-desk.ensures.later.log
    (subst (λ (b : Begun). BeginShows c.args.listing b c.begin_one-desk.result.0.seat.seen) c.in-Begun.is
    c.begin_one-desk.ensures.shows) c.run_crew-desk.ensures.later.log
    c.settle_last-desk.ensures.later.log c.requires.again.1
    (same_scope c.requires.again.0 c.begin_one-desk.ensures.same) c.settle_last-desk.ensures.over

pub returns-in-Begun-clause-helped : goal.returns-in-Begun-clause-helped
returns-in-Begun-clause-helped g c =
    inl (subst (λ (spared : List NameFacts). AllZip (HelpedFrom g.T.Tree.shows g.T.Tree.told g.W.Truth.version spared) c.args.helpers.items
    c.run_crew-desk.result.1.items)
    (ap (λ (o : Origin). o.spared) c.begin_one-desk.ensures.later.origin ∙ c.begin_one-desk.ensures.none)
    (zip_weaker (λ before after ran. ran.made) c.args.helpers.items c.run_crew-desk.result.1.items c.run_crew-desk.ensures.ran))

pub returns-in-Broken-clause-over : goal.returns-in-Broken-clause-over
returns-in-Broken-clause-over g c =
    leads_early (rules g.W.Truth.version g.W.Truth.true_row g.W.Truth.told) c.args.listing
    (scope_of c.args.needs.roots.items (g.P.Selection.takes c.args.select.now))
    c.args.desk.seat.seen c.begin_one-desk.result.0.seat.seen Broken
    (record {
      void =
          subst (λ (b : Begun). BeginShows c.args.listing b c.begin_one-desk.result.0.seat.seen) c.in-Broken.is
          c.begin_one-desk.ensures.shows;
      none = refl;
    })

pub returns-in-Broken-clause-helped : goal.returns-in-Broken-clause-helped
returns-in-Broken-clause-helped g c = inr refl

pub returns-in-OutOfMemory-clause-over : goal.returns-in-OutOfMemory-clause-over
returns-in-OutOfMemory-clause-over g c =
    leads_early (rules g.W.Truth.version g.W.Truth.true_row g.W.Truth.told) c.args.listing
    (scope_of c.args.needs.roots.items (g.P.Selection.takes c.args.select.now))
    c.args.desk.seat.seen c.begin_one-desk.result.0.seat.seen OutOfMemory tt

pub returns-in-OutOfMemory-clause-helped : goal.returns-in-OutOfMemory-clause-helped
returns-in-OutOfMemory-clause-helped g c = inr refl

pub returns-in-Begun-clause-idle : goal.returns-in-Begun-clause-idle
returns-in-Begun-clause-idle g c = λ is.
    absurd (settled_sound (rules g.W.Truth.version g.W.Truth.true_row g.W.Truth.told) c.settle_last-desk.result.1
    c.settle_last-desk.ensures.over is)

pub returns-in-Broken-clause-idle : goal.returns-in-Broken-clause-idle
returns-in-Broken-clause-idle g c = λ is. refl

pub returns-in-OutOfMemory-clause-idle : goal.returns-in-OutOfMemory-clause-idle
returns-in-OutOfMemory-clause-idle g c = λ is. refl
