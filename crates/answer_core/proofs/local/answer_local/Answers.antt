-- The candidates are those of the log that the token has seen.
use Rattle.std.proofs.Common.{[], inl, refl}
use Rattle.answer_core.specs.Local.{local_facts}
use Rattle.answer_core.proofs.HearLemmas.{hears_none}
use Rattle.answer_core.proofs.LocalLemmas.{to_route}
use Rattle.answer_core.proofs.local.answer_local.Goals as goal

pub returns-in-Ok-clause-answer : goal.returns-in-Ok-clause-answer
returns-in-Ok-clause-answer g c =
    let picks = c.look_up-seat.ensures.picks in
    to_route c.in-Ok.list.items c.look_up-seat.result.1.generation (local_facts g.T.Tree.opened c.answer_from.result)
    (rw c.in-Ok.is at picks.list) picks.at c.answer_from.ensures.answer

pub returns-in-Err-clause-answer : goal.returns-in-Err-clause-answer
returns-in-Err-clause-answer g c = record {
  answers = [];
  hears = hears_none (record { told = g.T.Tree.told; version = g.W.Truth.version; start = g.T.Tree.shows c.args.hand.now });
  says = inl refl;
}
