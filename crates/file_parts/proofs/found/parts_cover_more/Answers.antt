-- What is known and the places of all debug sections are counted.
use Rattle.std.proofs.Common.{◌≡◌, ◌<◌, ◌≤◌, Bool, true, false, refl, subst}
use Rattle.std.specs.Prelude.{nat_lt}
use Rattle.std.proofs.lemmas.Bool.{ltb-true, ltb-false}
use Rattle.row_types.specs.declared.limits.TheConstants.{READ_LIMIT}
use Rattle.elf_reading.specs.RowViews.{CoversMore}
use Rattle.elf_reading.proofs.ViewLemmas.{counts_few, counts_more}
use Rattle.file_parts.proofs.found.parts_cover_more.Goals as goal

pub known_with_all-requires : goal.known_with_all-requires
known_with_all-requires c = c.debug_places.ensures.inside

pub returns : goal.returns
returns c = of (nat_lt READ_LIMIT c.known_with_all.result) refl
  where
    of : (b : Bool) → nat_lt READ_LIMIT c.known_with_all.result ≡ b → CoversMore READ_LIMIT c.args.picture.now b
    of true e =
        counts_more READ_LIMIT c.args.picture.now c.size-size.ensures.holds c.requires.read c.requires.known c.debug_places.result
        c.debug_places.ensures
        (subst (λ n. READ_LIMIT < n) c.known_with_all.ensures (ltb-true READ_LIMIT c.known_with_all.result e))
    of false e =
        counts_few READ_LIMIT c.args.picture.now c.size-size.ensures.holds c.requires.read c.requires.known c.debug_places.result
        c.debug_places.ensures
        (subst (λ n. n ≤ READ_LIMIT) c.known_with_all.ensures (ltb-false READ_LIMIT c.known_with_all.result e))
