use Rattle.std.proofs.Common.{◌≡◌, ap, ◌∙◌, sym, subst, Result, Ok, Err}
use Rattle.std.specs.Prelude.{IsSome, IfOk}
use Rattle.dbgd_metrics.specs.Page.{metrics_text}
use Rattle.dbgd_metrics.specs.Rule.{word_at}
use Rattle.dbgd_metrics.specs.Shares.{BookFacts, ShareFacts}
use Rattle.dbgd_metrics.proofs.Seats.{is_page}
use Rattle.dbgd_metrics.proofs.book.Book.text.Goals as goal

-- what follows from a fact on the value of an Ok
then_ok : {T E : Type 0} (P Q : T → Type 0) (r : Result T E) → ((x : T) → P x → Q x) → IfOk r P → IfOk r Q
then_ok P Q (Ok x) f h = f x h
then_ok P Q (Err e) f h = h

pub returns-clause-page : goal.returns-clause-page
returns-clause-page c =
    let shows = c.share.view_is in
    let is_row : IsSome c.share.inside.row = subst IsSome (ap (λ (s : ShareFacts). s.row) (sym shows) ∙ sym c.share.invariant.1) c.requires.row in
    let words : c.share.inside.token.table_id.words ≡ word_at c.args.self.now.rows 0 =
    ap (λ (s : ShareFacts). s.book.words) shows ∙ (ap (λ id. id.words) c.requires.book ∙ (ap (λ (b : BookFacts). b.id.words) (sym c.self.view_is) ∙ (c.self.invariant.0 ∙ ap (λ (b : BookFacts). word_at b.rows 0) c.self.view_is))) in
    then_ok _ _ c.page.result (λ text lines. is_page c.share.inside.token c.totals.new.token c.share.inside.row c.share.inside.marked c.in_ok-totals.ensures.totals c.share.invariant is_row words shows
    (lines ∙ ap metrics_text c.as_slice.ensures.value)) c.page.ensures
