use Rattle.std.proofs.Common.{◌≡◌, ◌∙◌, sym, ap, rules, length}
use Rattle.file_formats.specs.Numbers.{number}
use Rattle.byte_read.proofs.NumberLemmas.{one, number_one}
use Rattle.byte_read.proofs.cursor.Cursor.read_u8.Goals as goal

pub returns : goal.returns
returns c =
    let read = c.in_ok-byte.ensures in
    let order = c.args.self.now.order in
    let bytes = c.in_ok-byte.field-0 in
    let long : length bytes ≡ 1 = search rules in
    record {
      there = read.there;
      value = sym (number_one order _) ∙ ap (number order) (sym (one bytes long) ∙ read.value);
      place = read.place;
    }
