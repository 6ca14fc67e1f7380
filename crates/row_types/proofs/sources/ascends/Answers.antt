-- One more path stands after all before it, or it breaks the order.
use Rattle.std.proofs.Common.{sym, ◌∙◌, arith}
use Rattle.std.proofs.lemmas.Bool.{false≢true}
use Rattle.row_types.specs.Ascends.{IsBefore}
use Rattle.row_types.proofs.AscendsLemmas.{ascends_more, not_ascending}
use Rattle.row_types.proofs.sources.ascends.Goals as goal

pub returns-then-not-is_before : goal.returns-then-not-is_before
returns-then-not-is_before c = (
  λ e. absurd (false≢true e),
  λ ascends. absurd (not_ascending c.args.paths.now c.loop-i.i c.index-paths-i.result c.index-paths-i-in-loop-i.result (omega arith) (omega arith) c.index-paths-i.is c.index-paths-i-in-loop-i.is (λ before. false≢true (sym c.if-not-is_before.true ∙ c.is_before.ensures.1 before)) ascends),
)

pub loop-i-preserved : goal.loop-i-preserved
loop-i-preserved c =
    let before : IsBefore c.index-paths-i.result c.index-paths-i-in-loop-i.result = c.is_before.ensures.0 c.if-not-is_before.false in
    ascends_more (λ path. path) c.args.paths.now c.loop-i.i _ _ (omega arith) (omega arith) c.index-paths-i.is c.index-paths-i-in-loop-i.is before c.loop-i.invariant
