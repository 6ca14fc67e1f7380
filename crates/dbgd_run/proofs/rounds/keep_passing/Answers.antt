-- One round more, and how the passing ends.
use Rattle.std.proofs.Common.{◌∙◌, ℕ, Option, refl, sym, subst, arith}
use Rattle.std.specs.Option.{IsSome}
use Rattle.path_scope.specs.Scope.{scope_of}
use Rattle.row_types.specs.Rules.{rules}
use Rattle.index_lock.proofs.Later.{later_self, later_trans}
use Rattle.tree_trait.specs.Clock.{Wakes}
use Rattle.tree_trait.specs.declared.clock.Wake.{Wake}
use Rattle.dbgd_commands.specs.Endings.{streams}
use Rattle.dbgd_commands.specs.Stage.{setting}
use Rattle.dbgd_commands.proofs.HandLemmas.{goes_length}
use Rattle.dbgd_run.specs.Rounds.{IsRound, KeepsPassing, Round, pass_stage}
use Rattle.dbgd_run.specs.declared.passes_end.PassesEnd.{PassesEnd}
use Rattle.dbgd_run.proofs.RoundLemmas.{keeps_cut, keeps_none, keeps_stopped, keeps_unmade, keeps_written}
use Rattle.dbgd_run.proofs.rounds.keep_passing.Goals as goal

pub loop-init : goal.loop-init
loop-init g c =
    let s = setting (rules g.W.Truth.version g.W.Truth.true_row g.W.Truth.told) g.T.Tree.told g.T.Tree.shows g.K.Keeper.told in
    let before = pass_stage c.args.seat.seen c.args.hands.items (g.C.Clock.woke c.args.clock.now)
    (streams g.O.Stream.shows c.args.out.now c.args.err.now) c.args.share.now in (
      keeps_none s (scope_of c.args.roots.now (g.P.Selection.takes c.args.select.now)) c.args.secs before,
      later_self c.args.seat,
      c.requires.lock,
      refl,
      c.requires.book,
      refl,
      c.requires.row,
      refl,
    )

pub loop-preserved-in-Written : goal.loop-preserved-in-Written
loop-preserved-in-Written g c =
    let s = setting (rules g.W.Truth.version g.W.Truth.true_row g.W.Truth.told) g.T.Tree.told g.T.Tree.shows g.K.Keeper.told in
    let before = pass_stage c.args.seat.seen c.args.hands.items (g.C.Clock.woke c.args.clock.now)
    (streams g.O.Stream.shows c.args.out.now c.args.err.now) c.args.share.now in
    let now = pass_stage c.loop.seat.seen c.loop.hands.items (g.C.Clock.woke c.loop.clock)
    (streams g.O.Stream.shows c.loop.out c.loop.err) c.loop.share in
    let base = c.loop.invariant in
    let ran = c.run_pass-next.ensures in
    let noted = c.note_pass.ensures in
    let after = pass_stage c.run_pass-next.result.0.seen c.run_pass-next.result.1.items (g.C.Clock.woke c.wait.new.self)
    (streams g.O.Stream.shows c.note_pass.new.out c.note_pass.new.err) c.note_pass.new.share in
    let round : Round _ = record { end = c.run_pass-next.result.2; fate = c.note_pass.result; after = after } in
    let is : IsRound s (scope_of c.args.roots.now (g.P.Selection.takes c.args.select.now)) c.args.secs now round = rw (← base.7) (record {
      waits =
          subst (λ (wake : Wake). Wakes (g.C.Clock.woke c.loop.clock) c.args.secs wake (g.C.Clock.woke c.wait.new.self)) c.in-Again.is
          c.wait.ensures.wakes;
      passes = record {
        later = ran.later.log;
        ends = ran.pass;
        goes = ran.hands;
        idle = ran.idle;
        complete = ran.complete;
      };
      tells = noted.tells;
      counts = noted.counts;
    }) in
    let back = goes_length _ _ c.loop.hands.items c.run_pass-next.result.1.items ran.pass in (
      keeps_written s (scope_of c.args.roots.now (g.P.Selection.takes c.args.select.now)) c.args.secs before now c.loop.failed round base.0 is c.in-Written.is,
      later_trans base.1 ran.later,
      ran.later.lock ∙ base.2,
      omega (arith, back, c.run_pass-next.result.1.ok.0, c.loop.hands.ok.0),
      noted.same.0 ∙ base.4,
      noted.same.1 ∙ base.5,
      subst (λ (row : Option ℕ). IsSome row) (sym noted.same.1) base.6,
      ran.same ∙ base.7,
    )

pub loop-preserved : goal.loop-preserved
loop-preserved g c =
    let s = setting (rules g.W.Truth.version g.W.Truth.true_row g.W.Truth.told) g.T.Tree.told g.T.Tree.shows g.K.Keeper.told in
    let before = pass_stage c.args.seat.seen c.args.hands.items (g.C.Clock.woke c.args.clock.now)
    (streams g.O.Stream.shows c.args.out.now c.args.err.now) c.args.share.now in
    let now = pass_stage c.loop.seat.seen c.loop.hands.items (g.C.Clock.woke c.loop.clock)
    (streams g.O.Stream.shows c.loop.out c.loop.err) c.loop.share in
    let base = c.loop.invariant in
    let ran = c.run_pass-next.ensures in
    let noted = c.note_pass.ensures in
    let after = pass_stage c.run_pass-next.result.0.seen c.run_pass-next.result.1.items (g.C.Clock.woke c.wait.new.self)
    (streams g.O.Stream.shows c.note_pass.new.out c.note_pass.new.err) c.note_pass.new.share in
    let round : Round _ = record { end = c.run_pass-next.result.2; fate = c.note_pass.result; after = after } in
    let is : IsRound s (scope_of c.args.roots.now (g.P.Selection.takes c.args.select.now)) c.args.secs now round = rw (← base.7) (record {
      waits =
          subst (λ (wake : Wake). Wakes (g.C.Clock.woke c.loop.clock) c.args.secs wake (g.C.Clock.woke c.wait.new.self)) c.in-Again.is
          c.wait.ensures.wakes;
      passes = record {
        later = ran.later.log;
        ends = ran.pass;
        goes = ran.hands;
        idle = ran.idle;
        complete = ran.complete;
      };
      tells = noted.tells;
      counts = noted.counts;
    }) in
    let back = goes_length _ _ c.loop.hands.items c.run_pass-next.result.1.items ran.pass in (
      keeps_cut s (scope_of c.args.roots.now (g.P.Selection.takes c.args.select.now)) c.args.secs before now c.loop.failed round base.0 is c.in-Cut.is,
      later_trans base.1 ran.later,
      ran.later.lock ∙ base.2,
      omega (arith, back, c.run_pass-next.result.1.ok.0, c.loop.hands.ok.0),
      noted.same.0 ∙ base.4,
      noted.same.1 ∙ base.5,
      subst (λ (row : Option ℕ). IsSome row) (sym noted.same.1) base.6,
      ran.same ∙ base.7,
    )

pub returns-in-Stop-clause-passes : goal.returns-in-Stop-clause-passes
returns-in-Stop-clause-passes g c =
    let s = setting (rules g.W.Truth.version g.W.Truth.true_row g.W.Truth.told) g.T.Tree.told g.T.Tree.shows g.K.Keeper.told in
    let before = pass_stage c.args.seat.seen c.args.hands.items (g.C.Clock.woke c.args.clock.now)
    (streams g.O.Stream.shows c.args.out.now c.args.err.now) c.args.share.now in
    let now = pass_stage c.loop.seat.seen c.loop.hands.items (g.C.Clock.woke c.loop.clock)
    (streams g.O.Stream.shows c.loop.out c.loop.err) c.loop.share in
    let base = c.loop.invariant in
    let after = pass_stage c.loop.seat.seen c.loop.hands.items (g.C.Clock.woke c.wait.new.self)
    (streams g.O.Stream.shows c.loop.out c.loop.err) c.loop.share in
    subst (λ (end : PassesEnd). KeepsPassing s (scope_of c.args.roots.now (g.P.Selection.takes c.args.select.now)) c.args.secs before end after) (sym c.stopped_by.ensures)
    (keeps_stopped s (scope_of c.args.roots.now (g.P.Selection.takes c.args.select.now)) c.args.secs before now after c.loop.failed base.0
    (record {
      waits =
          subst (λ (wake : Wake). Wakes (g.C.Clock.woke c.loop.clock) c.args.secs wake (g.C.Clock.woke c.wait.new.self)) c.in-Stop.is
          c.wait.ensures.wakes;
      rest = refl;
    }))

pub returns-in-Unmade-clause-passes : goal.returns-in-Unmade-clause-passes
returns-in-Unmade-clause-passes g c =
    let s = setting (rules g.W.Truth.version g.W.Truth.true_row g.W.Truth.told) g.T.Tree.told g.T.Tree.shows g.K.Keeper.told in
    let before = pass_stage c.args.seat.seen c.args.hands.items (g.C.Clock.woke c.args.clock.now)
    (streams g.O.Stream.shows c.args.out.now c.args.err.now) c.args.share.now in
    let now = pass_stage c.loop.seat.seen c.loop.hands.items (g.C.Clock.woke c.loop.clock)
    (streams g.O.Stream.shows c.loop.out c.loop.err) c.loop.share in
    let base = c.loop.invariant in
    let ran = c.run_pass-next.ensures in
    let noted = c.note_pass.ensures in
    let after = pass_stage c.run_pass-next.result.0.seen c.run_pass-next.result.1.items (g.C.Clock.woke c.wait.new.self)
    (streams g.O.Stream.shows c.note_pass.new.out c.note_pass.new.err) c.note_pass.new.share in
    let round : Round _ = record { end = c.run_pass-next.result.2; fate = c.note_pass.result; after = after } in
    let is : IsRound s (scope_of c.args.roots.now (g.P.Selection.takes c.args.select.now)) c.args.secs now round = rw (← base.7) (record {
      waits =
          subst (λ (wake : Wake). Wakes (g.C.Clock.woke c.loop.clock) c.args.secs wake (g.C.Clock.woke c.wait.new.self)) c.in-Again.is
          c.wait.ensures.wakes;
      passes = record {
        later = ran.later.log;
        ends = ran.pass;
        goes = ran.hands;
        idle = ran.idle;
        complete = ran.complete;
      };
      tells = noted.tells;
      counts = noted.counts;
    }) in
    keeps_unmade s (scope_of c.args.roots.now (g.P.Selection.takes c.args.select.now)) c.args.secs before now c.loop.failed round base.0 is c.in-Unmade.is

pub returns-in-Unmade-clause-count : goal.returns-in-Unmade-clause-count
returns-in-Unmade-clause-count g c =
    let base = c.loop.invariant in
    let back = goes_length _ _ c.loop.hands.items c.run_pass-next.result.1.items c.run_pass-next.ensures.pass in
    omega (arith, back, c.run_pass-next.result.1.ok.0, c.loop.hands.ok.0)
