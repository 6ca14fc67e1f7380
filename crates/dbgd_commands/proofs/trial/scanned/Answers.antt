-- The pass of the first hand, which begins as all do.
use Rattle.std.proofs.Common.{◌+◌, true, [], ◌∷◌, ap, arith}
use Rattle.path_scope.specs.Scope.{scope_of}
use Rattle.dbgd_commands.proofs.TrialEnds.{ends_well, first_hand, has_scanned}
use Rattle.dbgd_commands.proofs.trial.scanned.Goals as goal

pub numbers_of-requires : goal.numbers_of-requires
numbers_of-requires g c =
    let passes = first_hand c.args.seed c.args.files (c.args.workers + 2) c.in_ok-hands.hands.items c.scan_state-state.result.1.items
    c.in_ok-hands.ensures (omega arith) (ap (λ path. scope_of (path ∷ []) (λ _. true)) c.in_ok-root.ensures) c.scan_state-state.ensures.pass c.scan_state-state.ensures.hands in
    ends_well c.args.seed c.args.files _ c.in_ok-state.state c.scan_state-state.result.0 c.scan_state-state.result.2 c.requires.some c.requires.few passes c.show_end.ensures
    c.scan_state-state.ensures.keeper c.in_ok-state.ensures

pub returns : goal.returns
returns g c =
    let passes = first_hand c.args.seed c.args.files (c.args.workers + 2) c.in_ok-hands.hands.items c.scan_state-state.result.1.items
    c.in_ok-hands.ensures (omega arith) (ap (λ path. scope_of (path ∷ []) (λ _. true)) c.in_ok-root.ensures) c.scan_state-state.ensures.pass c.scan_state-state.ensures.hands in
    has_scanned c.args.seed c.args.files _ c.in_ok-state.state c.scan_state-state.result.0 c.in_ok-numbers_of.field-0 passes c.show_index.ensures c.in_ok-numbers_of.ensures
