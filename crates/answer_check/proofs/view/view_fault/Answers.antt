-- What the identity of each file is decides.
use Rattle.answer_check.proofs.ViewLemmas.{certified_each, refused_each}
use Rattle.answer_check.proofs.view.view_fault.Goals as goal

pub returns-in-Plain-clause-fault : goal.returns-in-Plain-clause-fault
returns-in-Plain-clause-fault c = record { is = c.in-Plain.ensures.is; there = c.in-Plain.ensures.there }

pub returns-in-Some-clause-fault : goal.returns-in-Some-clause-fault
returns-in-Some-clause-fault c =
    refused_each c.args.kind c.args.id.now c.args.picture.now c.in-Ident.ident c.in-Some.fault c.in-Ident.ensures
    c.in-Some.ensures.fault

pub returns-in-None-clause-none : goal.returns-in-None-clause-none
returns-in-None-clause-none c =
    certified_each c.args.kind c.args.id.now c.args.picture.now c.in-Ident.ident c.in-Ident.ensures c.in-None.ensures.none
