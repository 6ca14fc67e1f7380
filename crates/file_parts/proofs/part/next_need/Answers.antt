-- The ranges are those of what is asked.
use Rattle.file_parts.proofs.part.next_need.Goals as goal

pub returns-in-Identity : goal.returns-in-Identity
returns-in-Identity c = rw c.in-Identity.is c.identity_need.ensures

pub returns-in-Debug : goal.returns-in-Debug
returns-in-Debug c = rw c.in-Debug.is c.debug_need.ensures

pub returns-in-Section : goal.returns-in-Section
returns-in-Section c = rw c.in-Section.is c.section_need.ensures
