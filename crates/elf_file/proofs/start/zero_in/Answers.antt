use Rattle.std.proofs.Common.{rules, sym, ◌∙◌, subst, ◌≡◌, true, ◌&&◌}
use Rattle.file_formats.specs.Numbers.{bytes_at}
use Rattle.file_formats.specs.Table.{has_section_zero}
use Rattle.file_picture.specs.Agrees.{filled_with_zeros}
use Rattle.file_picture.specs.Picture.{IsCovered}
use Rattle.file_formats.specs.Windows.{asks_zero}
use Rattle.elf_file.proofs.StartLemmas.{zero_found}
use Rattle.elf_file.proofs.start.zero_in.Goals as goal

pub returns : goal.returns
returns c =
    let wants : (asks_zero c.args.head.now && has_section_zero (filled_with_zeros c.args.view.now) c.args.head.now) ≡ true =
    sym c.wants_zero.ensures ∙ search rules in
    let size = c.shdr_size.ensures.value in
    zero_found c.args.view.now c.args.head.now c.in_ok-bytes.bytes.now c.header_at.result c.requires.head wants
    (subst (λ n. IsCovered c.args.view.now c.args.head.now.e_shoff n) size c.in_ok-bytes.ensures.0)
    (subst (λ n. c.in_ok-bytes.bytes.now ≡ bytes_at (filled_with_zeros c.args.view.now) c.args.head.now.e_shoff n) size c.in_ok-bytes.ensures.1)
    c.header_at.ensures
