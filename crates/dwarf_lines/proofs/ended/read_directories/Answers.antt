use Rattle.std.proofs.Common.{rules, ◌≡◌, ℕ, List, Option, Some, None, ap, map, ◌∙◌}
use Rattle.std.proofs.lemmas.List.{map_push}
use Rattle.file_formats.specs.DwarfLines.{LineEntry}
use Rattle.dwarf_forms.specs.FormAnswers.{input_of}
use Rattle.dwarf_forms.specs.TextBytes.{bytes_of_text, text_said}
use Rattle.dwarf_lines.specs.Ended.{directory_at}
use Rattle.dwarf_lines.specs.Entries.{file_facts}
use Rattle.dwarf_lines.specs.Finds.{IsFoundPart}
use Rattle.dwarf_lines.proofs.EndedLemmas.{amid-next, amid-end, amid-none, amid-smaller, directory_next}
use Rattle.dwarf_lines.proofs.ended.read_directories.Goals as goal

pub returns-in_default-item : goal.returns-in_default-item
returns-in_default-item c =
    let got : IsFoundPart {A = Option (Option (List ℕ))} (directory_at (input_of c.loop-item.cursor c.args.format) c.loop-item.cursor.place) c.loop-item.cursor
    c.read_directory.new.cursor None = search rules in
    amid-end c.loop-item.invariant got

pub loop-item-smaller : goal.loop-item-smaller
loop-item-smaller c =
    let got : IsFoundPart {A = Option (Option (List ℕ))} (directory_at (input_of c.loop-item.cursor c.args.format) c.loop-item.cursor.place) c.loop-item.cursor
    c.read_directory.new.cursor (Some (Some (bytes_of_text c.in-Some-item.path))) = search rules in
    amid-smaller directory_at directory_next c.args.format got

pub loop-item-preserved : goal.loop-item-preserved
loop-item-preserved c =
    let got : IsFoundPart {A = Option (Option (List ℕ))} (directory_at (input_of c.loop-item.cursor c.args.format) c.loop-item.cursor.place) c.loop-item.cursor
    c.read_directory.new.cursor (Some (Some (bytes_of_text c.in-Some-item.path))) = search rules in
    amid-next c.loop-item.invariant got
    (ap (map text_said) c.in_ok-push_entry.ensures.items ∙ map_push text_said c.loop-item.directories.items (Some c.in-Some-item.path))

pub returns : goal.returns
returns c = amid-none c.loop-item.invariant c.in_default.ensures
