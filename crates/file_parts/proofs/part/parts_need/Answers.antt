-- The parts are there where the debug sections are known.
use Rattle.file_parts.proofs.part.parts_need.Goals as goal

pub returns-in-Need : goal.returns-in-Need
returns-in-Need c = record { asks = c.in-Need.ensures; passed = c.requires.passed }

pub returns-in-Parts : goal.returns-in-Parts
returns-in-Parts c = c.in-Parts.ensures.there
