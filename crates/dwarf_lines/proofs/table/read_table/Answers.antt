use Rattle.std.proofs.Common.{rules, ◌≡◌, Some}
use Rattle.file_formats.specs.DwarfLengths.{piece_at}
use Rattle.file_formats.specs.DwarfLineHeads.{line_head}
use Rattle.dwarf_forms.specs.Pieces.{piece_here}
use Rattle.dwarf_forms.specs.TextAnswers.{strings_texts}
use Rattle.dwarf_lines.proofs.EndedLaws.{table_fixed}
use Rattle.dwarf_lines.proofs.table.read_table.Goals as goal

pub returns-clause-fixed : goal.returns-clause-fixed
returns-clause-fixed c =
    let stands : piece_at c.args.strings.now.order c.args.line.now c.args.offset ≡ Some (piece_here c.in-Some.piece) = search rules in
    let header : line_head c.args.strings.now.order (piece_here c.in-Some.piece).value ≡ Some c.in-Some-read_head.head = search rules in
    table_fixed c.args.line.now c.args.offset (strings_texts c.args.strings.now) stands header c.read_within.result c.read_within.ensures
