-- One hold.
use Rattle.std.proofs.Common.{◌≡◌, None, rules, sym, ◌∙◌, ap, subst}
use Rattle.index_state.specs.State.{Origin, StateFacts}
use Rattle.index_desk.proofs.Goes.{index_held}
use Rattle.index_desk.proofs.desk.Desk.begin.Goals as goal

pub begin_held-begun-requires-after_bounds : goal.begin_held-begun-requires-after_bounds
begin_held-begun-requires-after_bounds g c κs within =
    subst (λ (o : Origin). o.sparing ≡ None)
    (sym (ap (λ (s : StateFacts g.row.K.Denot). s.origin) c.value_mut.ensures.value ∙ c.enter-held.ensures.origin)) c.requires

pub returns-clause-holds : goal.returns-clause-holds
returns-clause-holds g c =
    index_held c.args.self.seat c.leave-seat.result c.enter-held.result.value c.value_mut.result.now c.begin_held-begun.new.state
    c.enter-held.ensures.begins c.enter-held.ensures.origin c.value_mut.ensures.value c.begin_held-begun.ensures.step
    c.begin_held-begun.ensures.goes_on c.begin_held-begun.ensures.holds (search rules) c.leave-seat.ensures.seen (search rules)
