-- The windows are there where the identity is known.
use Rattle.file_parts.proofs.part.identity_need.Goals as goal

pub returns-in-Need : goal.returns-in-Need
returns-in-Need c = record { asks = c.in-Need.ensures.0; passed = c.in-Need.ensures.1 }

pub returns-in-Ident : goal.returns-in-Ident
returns-in-Ident c = c.in-Ident.ensures.there

pub returns-in-Plain : goal.returns-in-Plain
returns-in-Plain c = c.in-Plain.ensures.there
