use Rattle.std.proofs.Common.{◌≡◌, ◌+◌, ◌-◌, ℕ, List, length, arith, refl, ap, ◌∙◌, codes}
use Rattle.std.specs.List.{flat_map}
use Rattle.sample_files.specs.declared.codes.TheConstants.{SHT_STRTAB}
use Rattle.sample_files.specs.Parts.{section}
use Rattle.sample_files.specs.Layout.{name_bytes, names_part, padding}
use Rattle.sample_files.proofs.LayoutLemmas.{plain_layout-pushed}
use Rattle.sample_files.proofs.layout.plain_layout.Goals as goal

pub returns : goal.returns
returns c =
    let parts = c.args.sections.now in
    let is_last : c.new.result ≡ names_part parts =
    c.new.ensures ∙ ap (λ (bytes : List ℕ). section (codes ".shstrtab") SHT_STRTAB 0 1 bytes)
    (c.deref.ensures.value ∙ c.in_ok-names.ensures.value) in
    let is_name : c.len.result - 10 ≡ 1 + length (flat_map name_bytes parts) =
    omega (arith, c.in_ok-names.ensures.len) in
    let is_gap = c.padding-gap.ensures.value
    ∙ ap (λ n. padding n.table_alignment c.parts_end-end.result) c.numbers-numbers.ensures in
    let pushed = plain_layout-pushed c.args.shape.now parts
    is_last (ap (λ n. n.header) c.numbers-numbers.ensures)
    c.parts_end-middle.ensures.value c.parts_end-end.ensures.value is_gap refl is_name in
    rw (
      c.in_ok-push_entries-2.ensures,
      c.in_ok-push_entries.ensures,
      c.in_ok-push_fields.ensures,
      c.in_ok-push_zeros.ensures,
      c.in_ok-push_bodies-2.ensures,
      c.in_ok-push_bodies.ensures,
      c.in_ok-push_header.ensures,
      c.new-out.ensures.items,
      c.first_fields.ensures,
    )
    pushed
