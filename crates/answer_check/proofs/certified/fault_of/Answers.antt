-- What the identity is decides.
use Rattle.answer_check.proofs.RefusalLemmas.{passed_identity, refused_identity}
use Rattle.answer_check.proofs.certified.fault_of.Goals as goal

pub returns-in-Ok-clause-fault : goal.returns-in-Ok-clause-fault
returns-in-Ok-clause-fault c =
    refused_identity c.args.kind c.args.id.now c.args.bytes.now c.in-Ok.ident c.other_than.result c.in-Ok.ensures.answer
    c.other_than.ensures.fault

pub returns-in-Ok-clause-none : goal.returns-in-Ok-clause-none
returns-in-Ok-clause-none c =
    passed_identity c.args.kind c.args.id.now c.args.bytes.now c.in-Ok.ident c.other_than.result c.in-Ok.ensures.answer
    c.other_than.ensures.none
