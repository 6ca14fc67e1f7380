use Rattle.find_client.proofs.SearchLemmas.{cause_as, held_as}
use Rattle.find_client.proofs.WrittenLemmas.{written_as}
use Rattle.find_client.proofs.searching.find.Goals as goal

pub returns-in-Nothing-clause-certified : goal.returns-in-Nothing-clause-certified
returns-in-Nothing-clause-certified g c = written_as c.fetch.ensures

pub returns-in-Nothing-clause-cause : goal.returns-in-Nothing-clause-cause
returns-in-Nothing-clause-cause g c = cause_as c.in-Nothing.ensures c.fetch.ensures

pub returns-in-Nothing-clause-held : goal.returns-in-Nothing-clause-held
returns-in-Nothing-clause-held g c = held_as c.in-Nothing.ensures c.fetch.ensures
