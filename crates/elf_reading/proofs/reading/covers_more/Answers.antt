-- A file that is small enough covers no more; else what is known and the places of all debug sections are counted.
use Rattle.std.proofs.Common.{◌≡◌, ◌<◌, ◌≤◌, Bool, true, false, refl, subst}
use Rattle.std.specs.Prelude.{nat_lt}
use Rattle.std.proofs.lemmas.Bool.{ltb-true, ltb-false}
use Rattle.elf_reading.specs.RowViews.{CoversMore}
use Rattle.elf_reading.proofs.ViewLemmas.{counts_few, counts_more, small_covers}
use Rattle.elf_reading.proofs.reading.covers_more.Goals as goal

pub returns-then-size-limit : goal.returns-then-size-limit
returns-then-size-limit c =
    small_covers c.args.limit c.args.picture.now (subst (λ n. n ≤ c.args.limit) c.size-size.ensures.value c.if-size-limit.true)

pub known_with_all-requires : goal.known_with_all-requires
known_with_all-requires c = c.debug_places.ensures.inside

pub returns : goal.returns
returns c = of (nat_lt c.args.limit c.known_with_all.result) refl
  where
    of : (b : Bool) → nat_lt c.args.limit c.known_with_all.result ≡ b → CoversMore c.args.limit c.args.picture.now b
    of true e =
        counts_more c.args.limit c.args.picture.now c.size-size.ensures.holds c.requires.read c.requires.known c.debug_places.result
        c.debug_places.ensures
        (subst (λ n. c.args.limit < n) c.known_with_all.ensures (ltb-true c.args.limit c.known_with_all.result e))
    of false e =
        counts_few c.args.limit c.args.picture.now c.size-size.ensures.holds c.requires.read c.requires.known c.debug_places.result
        c.debug_places.ensures
        (subst (λ n. n ≤ c.args.limit) c.known_with_all.ensures (ltb-false c.args.limit c.known_with_all.result e))
