use Rattle.sample_files.proofs.samples.dwarf_five_of.Goals as goal

pub returns : goal.returns
returns c =
    rw (
      c.shared_object.ensures,
      c.build_id.ensures,
      c.text.ensures,
      c.debug.ensures,
      c.debug-2.ensures,
      c.debug-3.ensures,
      c.debug-4.ensures,
      c.debug-5.ensures,
      c.debug-6.ensures,
      c.deref.ensures.value,
      c.in_ok-id.ensures.value,
      c.deref-2.ensures.value,
      c.in_ok-strings.ensures.value,
    ) at c.plain_layout.ensures
