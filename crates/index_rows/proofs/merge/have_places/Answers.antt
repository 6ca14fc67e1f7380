-- The path that was found has a number.
use Rattle.std.proofs.Common.{ℕ, List, arith, below_more, subst}
use Rattle.std.specs.Prelude.{slice_index_or}
use Rattle.std.proofs.lemmas.List.{get_or_read}
use Rattle.index_rows.specs.Tally.{HasPlace}
use Rattle.index_rows.proofs.TallyLemmas.{its_place}
use Rattle.index_rows.proofs.merge.have_places.Goals as goal

pub loop-path-preserved : goal.loop-path-preserved
loop-path-preserved c = λ k d less.
    below_more (λ j. HasPlace (slice_index_or c.args.paths.now j d) c.args.entries.now) c.loop-path.path-index (λ j l. c.loop-path.invariant j d l)
    (subst (λ (p : List ℕ). HasPlace p c.args.entries.now) (get_or_read c.args.paths.now c.loop-path.path-index c.path-item.result (omega arith) c.path-item.is d)
    (its_place c.path-item.result c.args.entries.now c.args.entries.now c.in-Ok.field-0 c.in-Ok.ensures (record { path = c.path-item.result; count = 0; number = 0 })))
    k less
