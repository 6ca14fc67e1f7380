use Rattle.std.proofs.Common.{◌≡◌, rules, ap, ◌∙◌, refl}
use Rattle.dbgd_metrics.specs.Shares.{ShareFacts}
use Rattle.dbgd_metrics.specs.Seats.{share_with}
use Rattle.dbgd_metrics.proofs.Seats.{facts_after, nothing_counted}
use Rattle.dbgd_metrics.proofs.Steps.{splits_off}
use Rattle.dbgd_metrics.proofs.book.Book.split.Goals as goal

pub split_seat-token-requires : goal.split_seat-token-requires
split_seat-token-requires c = (search rules, search rules, splits_off _ _ _)

pub returns : goal.returns
returns c =
    let shows : share_with c.share.inside.token c.share.inside.marked ≡ c.args.share = c.share.view_is in
    let same = facts_after c.share.inside.token c.split_seat-token.new.seat c.share.inside.marked _ c.split_seat-token.ensures.0 c.split_seat-token.ensures.2 ∙ shows in
    let other = ap (λ m. m.0) c.split_seat-token.ensures.4 in (
      same,
      λ none. let had = nothing_counted c.share.inside.token _ _ c.share.invariant (ap (λ (s : ShareFacts). s.row) shows ∙ none) in
          record { of_book = ap (λ (s : ShareFacts). s.book) same; no_row = ap (λ (s : ShareFacts). s.row) same ∙ none; nothing = ap (λ m. m.0.numbers) c.split_seat-token.ensures.2 ∙ had.0; unmarked = had.1 },
      record { of_book = c.split_seat-token.ensures.3 ∙ ap (λ (s : ShareFacts). s.book) shows; no_row = ap (λ m. m.row) other; nothing = ap (λ m. m.numbers) other; unmarked = refl },
      ap (λ m. m.drawn) other ∙ ap (λ (s : ShareFacts). s.drawn) shows,
    )
