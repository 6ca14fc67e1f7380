use Rattle.std.proofs.Common.{◌<◌, length, refl, arith}
use Rattle.row_types.specs.Rules.{rules}
use Rattle.dbgd_commands.specs.Stage.{setting}
use Rattle.dbgd_commands.proofs.HandLemmas.{hands_stay}
use Rattle.dbgd_commands.proofs.PassLemmas.{ends_passed}
use Rattle.dbgd_commands.proofs.StoreLemmas.{passed_fault, refused_by, refused_fault, rose_some}
use Rattle.dbgd_commands.proofs.scan.scan_keeper.Goals as goal

pub returns-in-Ok-clause-ends : goal.returns-in-Ok-clause-ends
returns-in-Ok-clause-ends g c = λ from mid into has back.
    ends_passed
    (setting (rules g.W.Truth.version g.W.Truth.true_row g.W.Truth.told) g.T.Tree.told g.T.Tree.shows g.K.Keeper.told)
    g.K.Keeper.shows _ c.args.hands.now.items c.scan_index-end.new.hands.items c.scan_index-end.result.0 c.in-Ok.ensures.ok
    c.scan_index-end.ensures.pass has back

pub returns-in-Err-clause-ends : goal.returns-in-Err-clause-ends
returns-in-Err-clause-ends g c = λ from mid into has back. record {
  hands = refl;
  store = refused_by g.K.Keeper.told g.K.Keeper.shows has back c.in-Err.fault c.in-Err.ensures.err c.in-Err.ensures.left;
}

pub returns-in-Err-clause-hands : goal.returns-in-Err-clause-hands
returns-in-Err-clause-hands g c =
    let some : 0 < length c.args.hands.now.items = omega arith in
    hands_stay g.T.Tree.told g.W.Truth.version g.T.Tree.shows c.args.hands.now.items some (λ e. absurd (cc))

pub returns-in-Ok-clause-loads : goal.returns-in-Ok-clause-loads
returns-in-Ok-clause-loads g c = c.scan_index-end.ensures.pass.loads

pub returns-in-Ok-clause-keeper : goal.returns-in-Ok-clause-keeper
returns-in-Ok-clause-keeper g c = λ f. c.scan_index-end.ensures.keeper (passed_fault c.scan_index-end.result.0 f)

pub returns-in-Err-clause-keeper : goal.returns-in-Err-clause-keeper
returns-in-Err-clause-keeper g c = λ f.
    rose_some (g.K.Keeper.shows c.args.keeper).faults (g.K.Keeper.shows c.in-Err.keeper).faults
    (c.in-Err.ensures.cause.rose (refused_fault c.in-Err.fault f))
