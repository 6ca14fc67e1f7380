-- Two shares with one row can't be.
use Rattle.std.proofs.Common.{rules, ap, ◌∙◌}
use Rattle.dbgd_metrics.proofs.Steps.{clash, never}
use Rattle.dbgd_metrics.proofs.book.Book.refute.Goals as goal

pub join_seat-requires : goal.join_seat-requires
join_seat-requires c =
    let both = c.requires.row in (
      search rules,
      search rules,
      search rules,
      search rules,
      clash _ _ _ _ _ both.0 (c.into_token-token.ensures.row ∙ both.1) (c.into_token.ensures.row ∙ both.2),
    )

pub load-never-requires : goal.load-never-requires
load-never-requires c = (search rules, search rules, never _ _ _ _ _ (ap (λ m. m.0) c.join_seat.ensures.2))

pub unreachable-requires : goal.unreachable-requires
unreachable-requires c = absurd c.load-never.ensures.2
