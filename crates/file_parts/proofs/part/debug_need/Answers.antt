-- The parts are there where the identity and the debug sections are known.
use Rattle.file_parts.proofs.KnownLemmas.{plain_there, window_asked}
use Rattle.file_parts.proofs.part.debug_need.Goals as goal

pub parts_need-requires-clause-known : goal.parts_need-requires-clause-known
parts_need-requires-clause-known c = record { identity = c.in-Ident.field-0; known = c.in-Ident.ensures }

pub returns-in-Need : goal.returns-in-Need
returns-in-Need c = record { asks = window_asked c.in-Need.ensures.0; passed = c.in-Need.ensures.1 }

pub returns-in-Plain : goal.returns-in-Plain
returns-in-Plain c = plain_there c.args.picture.now c.in-Plain.field-0 c.in-Plain.ensures
