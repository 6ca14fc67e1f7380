-- The windows and the section are there where the section is known.
use Rattle.file_parts.proofs.part.section_need.Goals as goal

pub returns-in-Need : goal.returns-in-Need
returns-in-Need c = record { asks = c.in-Need.ensures.0; passed = c.in-Need.ensures.1 }

pub returns-in-Section : goal.returns-in-Section
returns-in-Section c = c.in-Section.ensures.there
