use Rattle.std.proofs.Common.{◌≡◌, ◌∙◌, ap, List, ℕ, ◌++◌}
use Rattle.dbgd_metrics.proofs.page.page.Goals as goal

-- a text that something was added to
after : {a b c : List ℕ} (x : List ℕ) → a ≡ b ++ x → b ≡ c → a ≡ c ++ x
after {a} {b} {c} x e f = e ∙ ap (λ (t : List ℕ). t ++ x) f

pub returns : goal.returns
returns c =
    after _ c.in_ok-push_total-5.ensures (after _ c.in_ok-push_total-4.ensures (after _ c.in_ok-push_total-3.ensures (after _ c.in_ok-push_total-2.ensures
    (after _ c.in_ok-push_total.ensures (after _ c.in_ok-push_routes.ensures c.new-text.ensures.bytes)))))
