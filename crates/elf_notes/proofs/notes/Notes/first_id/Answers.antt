use Rattle.std.proofs.Common.{sym, ◌∙◌}
use Rattle.elf_notes.proofs.NoteLemmas.{under_way-start, under_way-next, reached-le, reached-end}
use Rattle.elf_notes.proofs.notes.Notes.first_id.Goals as goal

pub loop-note-init : goal.loop-note-init
loop-note-init c = under_way-start

pub returns-then-is_id-clause-found : goal.returns-then-is_id-clause-found
returns-then-is_id-clause-found c = record {
  at = c.loop-note.at;
  here = record {
    at = c.loop-note.invariant.place c.in-Some.ensures.found.there;
    build_id = sym c.is_id.ensures.value ∙ c.if-is_id.true;
  };
  first = λ p h. reached-le (c.loop-note.invariant.ahead p h);
  value = c.descriptor_of.ensures.value;
}

pub loop-note-preserved : goal.loop-note-preserved
loop-note-preserved c =
    let other = sym c.is_id.ensures.value ∙ c.if-is_id.false in
    rw c.in-Some.ensures.found.next
    (under_way-next c.loop-note.invariant c.in-Some.ensures.found.there other)

pub returns-clause-none : goal.returns-clause-none
returns-clause-none c =
    λ p h. reached-end (c.loop-note.invariant.ahead p h) c.in_default.ensures.none
