-- The addresses that a text names, if there is one.
use Rattle.dbgd_words.proofs.upstream.upstream_of.Goals as goal

pub returns-in-Some : goal.returns-in-Some
returns-in-Some c = rw (← c.text_of.ensures, c.in-Some.is) c.spaced.ensures
