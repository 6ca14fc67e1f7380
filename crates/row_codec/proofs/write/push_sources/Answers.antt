use Rattle.std.proofs.Common.{All, arith, subst}
use Rattle.row_codec.specs.Spelled.{IsPathText}
use Rattle.row_codec.proofs.write.push_sources.Goals as goal

pub returns-clause-spelled : goal.returns-clause-spelled
returns-clause-spelled c = record {
  few = rw (← c.paths-paths.ensures.value) (omega (arith, c.in-Ok.ensures));
  paths = subst (All IsPathText) c.paths-paths.ensures.value c.in_ok-push_paths.ensures.texts;
  ascend = c.paths-paths.ensures.ascends;
}
