-- The windows are there, or cover too much.
use Rattle.file_parts.specs.Found.{wide}
use Rattle.file_parts.proofs.FoundLemmas.{identity_narrow, identity_wide}
use Rattle.file_parts.proofs.known.identity_found.Goals as goal

pub returns-in-Ident : goal.returns-in-Ident
returns-in-Ident c = identity_narrow c.args.picture.now c.size-size.ensures.holds _ c.requires.small c.in-Ident.ensures

pub returns-in-Plain : goal.returns-in-Plain
returns-in-Plain c = identity_narrow c.args.picture.now c.size-size.ensures.holds _ c.requires.small c.in-Plain.ensures

pub returns-in-Need : goal.returns-in-Need
returns-in-Need c = λ b f. wide (identity_wide c.args.picture.now c.size-size.ensures.holds c.requires.decides c.in-Need.ensures b f)
