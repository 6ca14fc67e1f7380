use Rattle.std.proofs.Common.{rules, ◌≡◌, ℕ, List, Option, Some, None, ap, map, ◌∙◌}
use Rattle.std.proofs.lemmas.List.{map_push}
use Rattle.file_formats.specs.DwarfLines.{LineEntry}
use Rattle.dwarf_forms.specs.FormAnswers.{input_of}
use Rattle.dwarf_forms.specs.TextBytes.{bytes_of_text, text_said}
use Rattle.dwarf_lines.specs.Ended.{file_at}
use Rattle.dwarf_lines.specs.Entries.{file_facts}
use Rattle.dwarf_lines.specs.Finds.{IsFoundPart}
use Rattle.dwarf_lines.proofs.EndedLemmas.{amid-next, amid-end, amid-none, amid-smaller, file_next}
use Rattle.dwarf_lines.proofs.ended.read_files.Goals as goal

pub returns-in_default-item : goal.returns-in_default-item
returns-in_default-item c =
    let got : IsFoundPart {A = Option (LineEntry)} (file_at (input_of c.loop-item.cursor c.args.format) c.loop-item.cursor.place) c.loop-item.cursor
    c.read_file.new.cursor None = search rules in
    amid-end c.loop-item.invariant got

pub loop-item-smaller : goal.loop-item-smaller
loop-item-smaller c =
    let got : IsFoundPart {A = Option (LineEntry)} (file_at (input_of c.loop-item.cursor c.args.format) c.loop-item.cursor.place) c.loop-item.cursor
    c.read_file.new.cursor (Some (file_facts c.in-Some-item.file)) = search rules in
    amid-smaller file_at file_next c.args.format got

pub loop-item-preserved : goal.loop-item-preserved
loop-item-preserved c =
    let got : IsFoundPart {A = Option (LineEntry)} (file_at (input_of c.loop-item.cursor c.args.format) c.loop-item.cursor.place) c.loop-item.cursor
    c.read_file.new.cursor (Some (file_facts c.in-Some-item.file)) = search rules in
    amid-next c.loop-item.invariant got
    (ap (map file_facts) c.in_ok-push_entry.ensures.items ∙ map_push file_facts c.loop-item.files.items c.in-Some-item.file)

pub returns : goal.returns
returns c = amid-none c.loop-item.invariant c.in_default.ensures
