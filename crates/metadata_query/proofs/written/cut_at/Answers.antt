use Rattle.std.proofs.Common.{◌∙◌, sym}
use Rattle.metadata_query.proofs.CutLemmas.{cut_there, no_mark}
use Rattle.metadata_query.proofs.written.cut_at.Goals as goal

pub returns-in-Some : goal.returns-in-Some
returns-in-Some c = cut_there c.args.mark c.args.bytes.now c.in-Some.at (sym c.place_of.ensures ∙ c.in-Some.is)

pub returns-in-None : goal.returns-in-None
returns-in-None c = no_mark c.args.mark c.args.bytes.now (sym c.place_of.ensures ∙ c.in-None.is)
