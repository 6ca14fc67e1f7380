-- Each text is there and can be read.
use Rattle.dbgd_words.proofs.serve.serve_of.Goals as goal

pub returns : goal.returns
returns c =
    rw (
      ← c.text_of.ensures,
      c.in-Some.is,
      ← c.number_of.ensures,
      c.in-Some-number_of.is,
      ← c.number_of-2.ensures,
      c.in-Some-number_of-2.is,
      ← c.number_of-3.ensures,
      c.in-Some-number_of-3.is,
      ← c.texts_of.ensures,
      c.in-Some-texts_of.is,
      ← c.in_ok-sources.ensures,
      ← c.in_ok-others.ensures,
      ← c.patterns_of.ensures,
      ← c.as_slice.ensures.value,
      ← c.as_slice-2.ensures.value,
    ) c.with_folders.ensures
