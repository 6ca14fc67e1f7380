-- The rows of an index are true, and have the names that its log leaves.
use Rattle.std.proofs.Common.{rules}
use Rattle.answer_core.proofs.LocalLemmas.{candidates_at}
use Rattle.answer_core.proofs.look_up.pick.Goals as goal

pub returns : goal.returns
returns g c =
    let index = c.show_index.ensures in record {
      at = search rules;
      list = candidates_at c.args.folders.now c.args.route.now (λ list. list.items) c.candidates.result
          (record { sound = index.rows_sorted_and_true; names = index.rows_replay_the_log.names }) c.candidates.ensures;
    }
