use Rattle.std.proofs.Common.{ap, ◌∙◌, sym}
use Rattle.dbgd_metrics.specs.Shares.{ShareFacts}
use Rattle.dbgd_metrics.proofs.Seats.{nothing_counted, takes_row}
use Rattle.dbgd_metrics.proofs.book.Book.draw.Goals as goal

pub invariant_of-share : goal.invariant_of-share
invariant_of-share g c = let got = c.in-Some.ensures in (ap (λ m. m.1) got.me ∙ c.share.invariant.0, sym (ap (λ m. m.0.row) got.me), got.there)

pub returns-in-Some-clause-draws : goal.returns-in-Some-clause-draws
returns-in-Some-clause-draws g c =
    let had = nothing_counted c.share.inside.token _ _ c.share.invariant (ap (λ (s : ShareFacts). s.row) c.share.view_is ∙ c.requires.no_row) in
    takes_row c.share.inside.token c.draw_row.new.token c.share.inside.marked c.in-Some.ensures c.share.view_is (ap (λ (s : ShareFacts). s.numbers) (sym c.share.view_is) ∙ had.0)
