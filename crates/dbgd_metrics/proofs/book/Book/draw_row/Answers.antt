use Rattle.std.proofs.Common.{◌≡◌, rules, refl, ◌∙◌, ap, arith, None}
use Rattle.dbgd_metrics.proofs.Steps.{notices, takes_next}
use Rattle.dbgd_metrics.proofs.book.Book.draw_row.Goals as goal

pub load-drawn-requires : goal.load-drawn-requires
load-drawn-requires g c = (search rules, search rules, notices _ _ _ _ _)

pub compare_exchange-requires : goal.compare_exchange-requires
compare_exchange-requires g c =
    let off : c.load-drawn.new.seat.me.0.row ≡ None = ap (λ m. m.0.row) c.load-drawn.ensures.2.0 ∙ (ap (λ m. m.0.row) c.loop.invariant.2.me ∙ c.requires.no_row) in
    (search rules, search rules, takes_next _ _ _ _ _ _ off (omega (arith, c.self.invariant.1, c.if-drawn-self.false)) refl)
