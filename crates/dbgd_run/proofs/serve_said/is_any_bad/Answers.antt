-- One more worker, and in the end no worker is left.
use Rattle.std.proofs.Common.{◌≡◌, ◌<◌, ◌+◌, ◌||◌, ◌∙◌, Bool, true, false, ◌∷◌, drop, length, refl, sym, ap, arith}
use Rattle.std.specs.List.{list_any}
use Rattle.std.proofs.lemmas.List.{drop_more}
use Rattle.dbgd_run.specs.ServeSaid.{ended_badly}
use Rattle.dbgd_run.specs.Workers.{ends_at}
use Rattle.dbgd_run.proofs.serve_said.is_any_bad.Goals as goal

-- tests one after the other, from either end
or_again : (a b c : Bool) → ((a || b) || c) ≡ (a || (b || c))
or_again true b c = refl
or_again false b c = refl

pub loop-worker-preserved : goal.loop-worker-preserved
loop-worker-preserved g c =
    let at = c.loop-worker in
    let workers = c.args.workers.now in
    let x = c.worker-item.result in
    let rest = drop (at.worker-index + 1) workers in
    let below : at.worker-index < length workers = omega arith in
    let steps : drop at.worker-index workers ≡ x ∷ rest
    = drop_more workers at.worker-index x below ∙ ap (λ y. y ∷ rest) (sym c.worker-item.is) in
    ap (λ b. b || list_any ended_badly (ends_at rest)) (c.either-failed.ensures ∙ ap (λ b. at.failed || b) c.ended_badly.ensures)
    ∙ (or_again at.failed (ended_badly x.end) (list_any ended_badly (ends_at rest))
    ∙ (ap (λ left. at.failed || list_any ended_badly (ends_at left)) (sym steps) ∙ at.invariant))
