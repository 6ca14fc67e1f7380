-- The path has a place, or an entry is put at the place at which it belongs.
use Rattle.std.proofs.Common.{refl, sym, ◌∙◌, ap, subst}
use Rattle.index_rows.specs.Tally.{HasPlace, count_at}
use Rattle.index_rows.proofs.TallyLemmas.{belongs_in, its_place, made_keeps, made_place, made_same, stands_in}
use Rattle.index_rows.proofs.tally.Tally.make_room.Goals as goal

pub returns-in-Ok-clause-ok : goal.returns-in-Ok-clause-ok
returns-in-Ok-clause-ok c =
    its_place c.args.path.now c.args.self.now c.args.self.now c.in-Ok.field-0
    (stands_in c.args.path.now c.as_slice.result.now c.args.self.now c.in-Ok.field-0 (c.as_slice.ensures.value ∙ c.self.view_is) c.in-Ok.ensures)
    (record { path = c.args.path.now; count = 0; number = 0 })

pub returns-in_ok-insert-in-Err-clause-ok : goal.returns-in_ok-insert-in-Err-clause-ok
returns-in_ok-insert-in-Err-clause-ok c =
    made_place c.args.path.now c.fit_first.new.entries.items c.insert.new.self.items c.in-Err.place (record { path = c.in_ok-path-in-Err.path; count = 0; number = c.args.number })
    (belongs_in c.args.path.now c.as_slice.result.now c.fit_first.new.entries.items c.in-Err.place (c.as_slice.ensures.value ∙ sym c.fit_first.ensures) c.in-Err.ensures)
    c.in_ok-path-in-Err.ensures refl c.in_ok-insert-in-Err.ensures.items

pub returns-in_ok-insert-in-Err-clause-same : goal.returns-in_ok-insert-in-Err-clause-same
returns-in_ok-insert-in-Err-clause-same c = λ other.
    made_same c.args.path.now c.fit_first.new.entries.items c.insert.new.self.items c.in-Err.place (record { path = c.in_ok-path-in-Err.path; count = 0; number = c.args.number })
    (belongs_in c.args.path.now c.as_slice.result.now c.fit_first.new.entries.items c.in-Err.place (c.as_slice.ensures.value ∙ sym c.fit_first.ensures) c.in-Err.ensures)
    c.in_ok-path-in-Err.ensures refl c.in_ok-insert-in-Err.ensures.items other
    ∙ ap (count_at other) (c.fit_first.ensures ∙ c.self.view_is)

pub returns-in_ok-insert-in-Err-clause-keeps : goal.returns-in_ok-insert-in-Err-clause-keeps
returns-in_ok-insert-in-Err-clause-keeps c = λ other has.
    made_keeps c.args.path.now c.fit_first.new.entries.items c.insert.new.self.items c.in-Err.place (record { path = c.in_ok-path-in-Err.path; count = 0; number = c.args.number })
    (belongs_in c.args.path.now c.as_slice.result.now c.fit_first.new.entries.items c.in-Err.place (c.as_slice.ensures.value ∙ sym c.fit_first.ensures) c.in-Err.ensures)
    c.in_ok-path-in-Err.ensures refl c.in_ok-insert-in-Err.ensures.items other
    (subst (HasPlace other) (sym (c.fit_first.ensures ∙ c.self.view_is)) has)
