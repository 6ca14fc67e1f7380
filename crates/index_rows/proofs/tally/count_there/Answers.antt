-- The number of the entry that was read.
use Rattle.std.proofs.Common.{sym, ◌∙◌, ap}
use Rattle.std.proofs.lemmas.List.{get_or_read}
use Rattle.index_rows.specs.declared.tally.Tallied.{Tallied}
use Rattle.index_rows.proofs.tally.count_there.Goals as goal

pub returns : goal.returns
returns c = λ other.
    ap (λ (e : Tallied). e.count) (sym c.index-entries-place.is ∙ get_or_read c.args.entries.now c.args.place c.index-entries-place.result c.requires c.index-entries-place.is other)
