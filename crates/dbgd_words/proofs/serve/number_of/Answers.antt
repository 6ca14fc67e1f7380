-- The number that a text spells, if there is one.
use Rattle.std.proofs.Common.{refl}
use Rattle.dbgd_words.proofs.serve.number_of.Goals as goal

pub returns-in-Some : goal.returns-in-Some
returns-in-Some c = rw (← c.text_of.ensures, c.in-Some.is) c.number_in.ensures

pub returns-in-None : goal.returns-in-None
returns-in-None c = rw (← c.text_of.ensures, c.in-None.is) refl
