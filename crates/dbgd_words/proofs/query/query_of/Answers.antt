use Rattle.std.proofs.Common.{refl}
use Rattle.dbgd_words.proofs.query.query_of.Goals as goal

pub returns-in_default : goal.returns-in_default
returns-in_default c = rw (← c.text_of.ensures, c.in_default.is) refl

pub returns-in_default-text_of : goal.returns-in_default-text_of
returns-in_default-text_of c = rw (← c.text_of.ensures, c.in-Some.is, ← c.text_of-2.ensures, c.in_default-text_of.is) refl

pub returns-in-Some-id_of : goal.returns-in-Some-id_of
returns-in-Some-id_of c =
    rw (← c.text_of.ensures, c.in-Some.is, ← c.text_of-2.ensures, c.in-Some-text_of.is, ← c.id_of.ensures, c.in-Some-id_of.is) refl

pub returns-in-None : goal.returns-in-None
returns-in-None c =
    rw (← c.text_of.ensures, c.in-Some.is, ← c.text_of-2.ensures, c.in-Some-text_of.is, ← c.id_of.ensures, c.in-None.is) refl
