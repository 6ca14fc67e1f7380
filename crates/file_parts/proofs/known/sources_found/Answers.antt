-- The parts are there, or cover too much.
use Rattle.file_parts.proofs.FoundLemmas.{knows_found, sources_bare, sources_parts}
use Rattle.file_parts.proofs.known.sources_found.Goals as goal

pub parts_view-requires : goal.parts_view-requires
parts_view-requires c = knows_found c.args.picture.now c.size-size.ensures.holds c.requires.known c.requires.decides

pub returns-in-Parts : goal.returns-in-Parts
returns-in-Parts c =
    sources_parts c.args.picture.now c.size-size.ensures.holds _ c.sources_of.result c.requires.small c.in-Parts.ensures
    c.sources_of.ensures.sources

pub returns-in-Need : goal.returns-in-Need
returns-in-Need c =
    sources_bare c.args.picture.now c.size-size.ensures.holds c.new.result c.new.ensures c.requires.known c.requires.decides c.in-Need.ensures
