use Rattle.std.proofs.Common.{rules, ap, ◌∙◌, sym, subst, get_or, ℕ, ◌<◌, ◌+◌}
use Rattle.std.specs.Prelude.{◌^◌, IsSome}
use Rattle.dbgd_metrics.specs.Numbers.{number_place}
use Rattle.dbgd_metrics.proofs.Rows.{own_row, place_bound, below_limit}
use Rattle.dbgd_metrics.proofs.Seats.{still_rowed}
use Rattle.dbgd_metrics.proofs.Steps.{adds}
use Rattle.dbgd_metrics.proofs.book.Book.add.Goals as goal

pub fetch_add-requires : goal.fetch_add-requires
fetch_add-requires c =
    let place = number_place c.args.number in
    let own = own_row _ _ _ c.requires.row c.word-word.ensures.value in
    let room : get_or c.share.inside.token.me.0.numbers place 0 + c.args.k < 2 ^ 64 = subst (λ (n : ℕ). n + c.args.k < 2 ^ 64) (ap (λ share. get_or share.numbers place 0) (sym c.share.view_is)) (below_limit _ c.requires.room) in
    (search rules, search rules, adds _ _ _ _ place _ _ _ (ap (λ share. share.row) c.share.view_is ∙ own.1) (place_bound c.args.number) own.2 room)

pub invariant_of-share : goal.invariant_of-share
invariant_of-share c =
    let own = own_row _ _ _ c.requires.row c.word-word.ensures.value in
    let me = c.fetch_add.ensures.2 own.0 (number_place c.args.number) (ap (λ share. share.row) c.share.view_is ∙ own.1) (place_bound c.args.number) own.2 in
    still_rowed c.share.inside.token c.fetch_add.new.seat _ _ _ (subst IsSome (ap (λ share. share.row) (sym c.share.view_is) ∙ sym c.share.invariant.1) c.requires.row) c.share.invariant c.fetch_add.ensures.0 (ap (λ m. m.1) me) (ap (λ m. m.0.row) me)
