use Rattle.std.proofs.Common.{◌≡◌, ◌+◌, ◌≤◌, length, take, suc, ap, arith}
use Rattle.std.proofs.lemmas.List.{take_all}
use Rattle.std.specs.List.{flat_map}
use Rattle.sample_files.specs.Layout.{name_bytes, parts_room}
use Rattle.sample_files.proofs.LayoutLemmas.{length-names}
use Rattle.sample_files.proofs.layout.names_contents.Goals as goal

pub returns-clause-short : goal.returns-clause-short
returns-clause-short c =
    let most : length (flat_map name_bytes c.args.sections.now) ≤ parts_room c.args.sections.now
    + length c.args.sections.now = length-names c.args.sections.now in
    let all : take c.loop-section.section-index c.args.sections.now ≡ c.args.sections.now =
    take_all _ _ (omega arith) in
    let pushed : length c.loop-section.names.items
    ≡ suc (length (flat_map name_bytes (take c.loop-section.section-index c.args.sections.now))) =
    ap length c.loop-section.invariant in
    let whole = rw all at pushed in
    omega (arith, c.loop-section.names.ok.0, c.in_ok-extend_from_slice.ensures.len)
