use Rattle.std.proofs.Common.{arith}
use Rattle.elf_file.proofs.SectionLemmas.{none_more, none_before}
use Rattle.elf_classify.proofs.named.first_named.Goals as goal

pub returns-in-Some-clause-found : goal.returns-in-Some-clause-found
returns-in-Some-clause-found c = record {
  found = record {
    index = c.loop-index.index;
    here = c.in-Some.ensures.found;
    first = λ i other h. none_before c.loop-index.invariant h.index (other, h);
  };
  is = c.in-Some.ensures.placed;
}

pub loop-index-preserved : goal.loop-index-preserved
loop-index-preserved c =
    none_more c.loop-index.invariant (λ index h. c.in_default.ensures.none h.0 h.1)

pub returns-clause-none : goal.returns-clause-none
returns-clause-none c = λ i bytes h.
    c.loop-index.invariant i (let inside = h.index.below in omega arith) h.index (bytes, h)
