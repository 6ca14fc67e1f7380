use Rattle.std.proofs.Common.{◌≡◌, rules, ap, ◌∙◌, get_or, ◌+◌}
use Rattle.std.specs.Prelude.{nat_lt, ◌^◌}
use Rattle.dbgd_metrics.specs.Numbers.{number_place}
use Rattle.dbgd_metrics.proofs.Rows.{own_row, place_bound, room_same}
use Rattle.dbgd_metrics.proofs.Steps.{reads}
use Rattle.dbgd_metrics.proofs.book.Book.has_room.Goals as goal

pub load-requires : goal.load-requires
load-requires c = (search rules, search rules, reads _ _ _ _ _)

pub returns-clause-value : goal.returns-clause-value
returns-clause-value c =
    let own = own_row _ _ _ c.requires.row c.word-word.ensures.value in
    let place = number_place c.args.number in
    let found : c.load.result ≡ get_or c.share.inside.token.me.0.numbers place 0 = c.load.ensures.2.1 own.0 place (ap (λ share. share.row) c.share.view_is ∙ own.1) (place_bound c.args.number) own.2 in
    let same : c.load.result ≡ get_or c.args.share.now.numbers place 0 = found ∙ ap (λ share. get_or share.numbers place 0) c.share.view_is in
    room_same _ _ c.load.type_inv ∙ ap (λ n. nat_lt (n + c.args.k) (2 ^ 64)) same
