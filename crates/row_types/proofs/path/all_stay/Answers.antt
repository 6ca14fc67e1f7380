-- The pieces are those of the split, and each is tested.
use Rattle.std.proofs.Common.{rules, tests}
use Rattle.std.proofs.lemmas.Iterator.Search.{all_from_yields_List}
use Rattle.std.proofs.lemmas.Iterator.Splits.{YieldsList-from_slice_split}
use Rattle.std.specs.Prelude.{◌==◌}
use Rattle.row_types.specs.declared.limits.TheConstants.{SEPARATOR}
use Rattle.row_types.specs.Canon.{stays}
use Rattle.row_types.proofs.path.all_stay.Goals as goal

pub returns : goal.returns
returns c =
    all_from_yields_List stays _ _ c.all.result c.all.ensures.ran
    (YieldsList-from_slice_split _ (λ b. b == SEPARATOR) c.args.bytes.now c.split.ensures.rest c.split.ensures.done c.split.ensures.closure (λ x b q k. search (rules, tests)))
    (λ x b q k. search (rules, tests))
