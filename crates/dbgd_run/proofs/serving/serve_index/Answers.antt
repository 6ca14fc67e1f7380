-- The index was served, and its log goes on from all that any token had seen.
use Rattle.std.proofs.Common.{◌∙◌, List, refl, sym, ap, subst}
use mathlib.Core.List.{IsPrefix}
use Rattle.index_lock.proofs.Prefixes.{prefix_trans}
use Rattle.index_rows.specs.declared.change.Change.{Change}
use Rattle.index_state.specs.State.{StateFacts}
use Rattle.index_state.specs.declared.answer.Standing.{Standing}
use Rattle.dbgd_run.proofs.ServeSteps.{serves_later}
use Rattle.dbgd_run.proofs.serving.serve_index.Goals as goal

-- the value's log goes on from what the joined token has seen
pub returns-in-Ok-clause-serves : goal.returns-in-Ok-clause-serves
returns-in-Ok-clause-serves g c =
    let joined : List Change = c.serve_from-tools.result.0.seat.seen in
    let last : List Change = c.into_value-state.result.log in
    let ended : IsPrefix joined last = subst (λ (xs : List Change). IsPrefix joined xs) (sym (ap (λ (i : StateFacts g.row.X-S-K.Denot). i.log) c.into_value-state.ensures)) c.enter-held.ensures.begins in
    let later = c.serve_from-tools.ensures.later in record {
      new = c.into_value-state.result;
      value = c.into_keeper.ensures.value;
      holds = c.into_keeper.ensures.holds;
      origin =
          ap (λ (i : StateFacts g.row.X-S-K.Denot). i.origin) c.into_value-state.ensures ∙ c.enter-held.ensures.origin ∙ later.origin ∙ c.in-Ok.ensures.seen.1;
      broken_is = sym (ap (λ (standing : Standing). standing.broken) c.standing-broken.ensures.value);
      begins =
          subst (λ (xs : List Change). IsPrefix xs last) c.in-Ok.ensures.seen.0
          (prefix_trans c.in-Ok.seat.seen joined last later.log ended);
      serves = serves_later _ _ _ _ _ joined last _ ended (rw c.in-Ok.ensures.seen.0 at c.serve_from-tools.ensures.serves);
    }

pub returns-in-Err-clause-serves : goal.returns-in-Err-clause-serves
returns-in-Err-clause-serves g c = rw (c.unserved.ensures.hands, c.unserved.ensures.workers, c.unserved.ensures.end, ← c.in-Err.ensures.memory)
    (record { value = c.into_keeper-in-Err.ensures.value; holds = c.into_keeper-in-Err.ensures.holds; quiet = refl; same = (refl, refl, refl) })
