use Rattle.std.proofs.Common.{rules, ap, sym, ◌≡◌, ◌∙◌, Some}
use Rattle.index_lock.specs.declared.view.View.TheVariants.{Holds}
use Rattle.index_lock.specs.Rule.{known_of, known_by, known_under}
use Rattle.index_lock.proofs.Prefixes.{prefix_of_same}
use Rattle.index_lock.proofs.InHand.{one_slot, put_in, taken_out}
use Rattle.index_lock.proofs.lock.TurnLock.enter.Goals as goal

pub exchange-requires : goal.exchange-requires
exchange-requires g c =
    (search rules, (Some c.acquire.ensures.value, one_slot c.acquire.ensures.me))

pub of-requires : goal.of-requires
of-requires g c = (
  known_of g.S.Logged.log g.S.Logged.origin c.acquire.ensures.value,
  put_in c.acquire.ensures.me c.exchange.ensures.3,
)

pub returns : goal.returns
returns g c =
    let log = g.S.Logged.log in
    let origin = g.S.Logged.origin in
    let was_there : Some c.in-Some.value ≡ Some c.acquire.ensures.value =
    sym c.in-Some.is ∙ taken_out c.acquire.ensures.me c.exchange.ensures.2 in
    let same : c.of.result.value ≡ c.acquire.ensures.value = cc (was_there, c.of.ensures.value) in
    let took = put_in c.acquire.ensures.me c.exchange.ensures.3 in
    let at : Holds (known_under c.of.result) ≡ Holds (known_of log origin c.acquire.ensures.value) =
    sym (ap (λ m. m.0) c.of.ensures.token.me) ∙ ap (λ m. m.0) took in
    let seen : c.of.result.seen ≡ log c.of.result.value =
    ap (λ view. (known_by g.S.Logged.blank_origin view).log) at ∙ ap log (sym same) in
    let on = c.acquire.ensures.seen _ c.into_token-token.ensures.me in record {
      lock = search rules;
      begins = rw same on.log;
      origin = rw same on.origin;
      at_enter = (
        seen,
        ap (λ view. (known_by g.S.Logged.blank_origin view).origin) at
            ∙ ap origin (sym same),
      );
      may_leave = prefix_of_same _ _ seen;
    }
