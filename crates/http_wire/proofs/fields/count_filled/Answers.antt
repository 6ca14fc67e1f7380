-- The pieces are those of the split, and the filled ones are counted.
use Rattle.std.proofs.Common.{rules, tests, arith, ◌≡◌, length, filter}
use Rattle.std.proofs.lemmas.Iterator.Consumers.{YieldsList-at, YieldsList-from_filter, count_from_yields_List}
use Rattle.std.proofs.lemmas.Iterator.Splits.{YieldsList-from_slice_split}
use Rattle.std.proofs.lemmas.List.Splits.{length-slice_split}
use Rattle.std.proofs.lemmas.List.Sums.{count_by-le-length, length-filter}
use Rattle.std.specs.Prelude.{◌==◌}
use Rattle.http_wire.specs.Fields.{is_filled, listed_values}
use Rattle.http_wire.proofs.fields.count_filled.Goals as goal

pub returns : goal.returns
returns c =
    let value : c.count.result ≡ length (filter is_filled (listed_values c.args.value.now)) =
    count_from_yields_List c.filter.result _ c.count.ensures.ran
    (YieldsList-from_filter _ is_filled
    (YieldsList-at c.filter.ensures.source (YieldsList-from_slice_split _ (λ b. b == 44) c.args.value.now c.split.ensures.rest c.split.ensures.done c.split.ensures.closure (λ x b q k. search (rules, tests))))
    c.filter.ensures.closure (λ x r q k. search (rules, tests))) in
    record {
      value = value;
      few = omega (
        arith,
        value,
        length-filter is_filled (listed_values c.args.value.now),
        count_by-le-length is_filled (listed_values c.args.value.now),
        length-slice_split (λ b. b == 44) c.args.value.now,
        count_by-le-length (λ b. b == 44) c.args.value.now,
      );
    }
