-- The closure orders the path of an entry against the path.
use Rattle.std.proofs.Common.{rules}
use Rattle.std.specs.Ordering.{nat_cmp}
use Rattle.std.specs.Cmp.Lexicographic.{slice_cmp}
use Rattle.std.proofs.lemmas.Fn.{always_returns_same}
use Rattle.index_rows.specs.Tally.{tallied_path}
use Rattle.index_rows.specs.declared.tally.Tallied.{Tallied}
use Rattle.index_rows.proofs.PathLemmas.{place_found}
use Rattle.index_rows.proofs.tally.place_of.Goals as goal

pub returns : goal.returns
returns c =
    let facts = c.binary_search_by.ensures in
    let by_path = facts.position (λ (entry : Tallied). slice_cmp nat_cmp entry.path c.args.path.now) (always_returns_same _ _ _ (λ a r f' called. (search rules, search rules))) in
    place_found tallied_path c.args.path.now c.args.entries.now c.binary_search_by.result c.requires facts.bound by_path
