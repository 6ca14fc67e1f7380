-- The rounds so far.
use Rattle.std.proofs.Common.{◌≡◌, vec_len}
use Rattle.std.specs.Option.{IsSome}
use Rattle.path_scope.specs.Scope.{scope_of}
use Rattle.row_types.specs.Rules.{rules}
use Rattle.index_lock.specs.Tokens.{IsLater}
use Rattle.dbgd_commands.specs.Endings.{streams}
use Rattle.dbgd_commands.specs.Stage.{setting}
use Rattle.dbgd_run.specs.Rounds.{pass_stage}
use Rattle.dbgd_run.proofs.RoundLemmas.{KeepsOn}
use Rattle.dbgd_run.proofs.rounds.keep_passing.Given as goal

abbrev pub invariant-loop : goal.invariant-loop
invariant-loop g l =
    KeepsOn
    (setting (rules g.W.Truth.version g.W.Truth.true_row g.W.Truth.told) g.T.Tree.told g.T.Tree.shows g.K.Keeper.told) (scope_of l.roots (g.P.Selection.takes l.fn.select)) l.secs
    (pass_stage l.fn.seat.seen l.fn.hands.items (g.C.Clock.woke l.fn.clock) (streams g.O.Stream.shows l.fn.out l.fn.err) l.fn.share)
    l.failed
    (pass_stage l.seat.seen l.hands.items (g.C.Clock.woke l.clock) (streams g.O.Stream.shows l.out l.err) l.share)
    × IsLater l.fn.seat l.seat
    × (l.seat.lock ≡ l.lock)
    × (vec_len l.hands ≡ vec_len l.fn.hands)
    × (l.share.book ≡ l.book.id)
    × (l.share.row ≡ l.fn.share.row)
    × IsSome l.share.row
    × (g.P.Selection.takes l.select ≡ g.P.Selection.takes l.fn.select)
