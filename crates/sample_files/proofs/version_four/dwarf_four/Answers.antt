use Rattle.sample_files.proofs.version_four.dwarf_four.Goals as goal

pub returns : goal.returns
returns c =
    rw (
      c.shared_object.ensures,
      c.build_id.ensures,
      c.text.ensures,
      c.debug.ensures,
      c.debug-2.ensures,
      c.debug-3.ensures,
      c.deref.ensures.value,
      c.in_ok-id.ensures.value,
    ) at c.plain_layout.ensures
