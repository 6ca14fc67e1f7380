-- Sections whose texts are the same have the same sources.
use Rattle.std.proofs.Common.{◌≡◌, ◌↔◌, ℕ, Bool, true, false, List, Option, Some, None, refl, sym, ◌∙◌, ap}
use Rattle.std.specs.Prelude.{◌==◌}
use Rattle.std.specs.Option.{option_and_then}
use Rattle.file_formats.specs.declared.encoding.Order.{Order}
use Rattle.file_formats.specs.declared.dwarf_forms.Sense.TheVariants.{Number, Place, Str, LineStr, SupStr, StrIndex, Other}
use Rattle.file_formats.specs.declared.dwarf_units.TheConstants.{DWARF_VERSION}
use Rattle.file_formats.specs.declared.dwarf_lines.TheConstants.{DW_LNCT_PATH, DW_LNCT_DIRECTORY_INDEX}
use Rattle.file_formats.specs.declared.dwarf_lines.FieldFormat.{FieldFormat}
use Rattle.file_formats.specs.DwarfReads.{Input}
use Rattle.file_formats.specs.DwarfForms.{Raw, numbered, inline, passed_by}
use Rattle.file_formats.specs.DwarfLengths.{Piece}
use Rattle.file_formats.specs.DwarfLines.{LineEntry, LineTable, Row, no_more, one_more, IsLineEntry, IsLineList, AreLineLists, AreLists, IsLineTable, line_input, first_value, entry_of, entry_of_path, directory_of, number_of}
use Rattle.file_formats.specs.DwarfTexts.{Texts, value_of, text_is, indexed_place}
use Rattle.file_formats.specs.DwarfUnits.{DebugSections, RootEntry, RawEntry, IsRootEntry, section_place, root_of, text_or_none}
use Rattle.file_formats.specs.Sections.{text_at}
use Rattle.dwarf_forms.specs.TextBytes.{AreSameTexts}
use Rattle.row_types.specs.Sources.{IsEntrySource, IsSource, IsUnitSource}

-- what holds of each of a row
row_map : {A : Type 0} {R Q : ℕ → A → ℕ → Type 0} → ((p : ℕ) (x : A) (q : ℕ) → R p x q → Q p x q)
    → {p : ℕ} {xs : List A} {q : ℕ} → Row R p xs q → Row Q p xs q
row_map to (no_more p) = no_more p
row_map to (one_more p x q xs r here rest) = one_more p x q xs r (to p x q here) (row_map to rest)

-- the texts of two sections
abbrev these : List ℕ → Order → List ℕ → List ℕ → Option ℕ → Bool → Texts
these offsets order str line_str base wide =
    record { str = str; line_str = line_str; offsets = offsets; base = base; wide = wide; order = order }

-- sections with these two sections of texts
abbrev pub sections : (info abbrevs lines offsets : List ℕ) → Order → List ℕ → List ℕ → DebugSections
sections info abbrevs lines offsets order str line_str = record {
  info = info;
  abbrevs = abbrevs;
  lines = lines;
  str = str;
  line_str = line_str;
  str_offsets = offsets;
  order = order;
}

module _ {a b c d : List ℕ} (strs : AreSameTexts a c) (lines : AreSameTexts b d) (offsets : List ℕ) (order : Order) where
  module _ (base : Option ℕ) (wide : Bool) where
    named : (place : Option ℕ) → option_and_then (λ p. text_at a p) place ≡ option_and_then (λ p. text_at c p) place
    named None = refl
    named (Some p) = strs.at p

    value_same : (raw : Raw) → value_of (these offsets order a b base wide) raw ≡ value_of (these offsets order c d base wide) raw
    value_same (numbered Number n) = refl
    value_same (numbered Place n) = refl
    value_same (numbered Str n) = ap text_is (strs.at n)
    value_same (numbered LineStr n) = ap text_is (lines.at n)
    value_same (numbered SupStr n) = refl
    value_same (numbered StrIndex n) = ap text_is (named (indexed_place (these offsets order a b base wide) n))
    value_same (numbered Other n) = refl
    value_same (inline bytes) = refl
    value_same passed_by = refl

    directory_same : (raw : Option Raw) → directory_of (these offsets order a b base wide) raw ≡ directory_of (these offsets order c d base wide) raw
    directory_same None = refl
    directory_same (Some raw) = ap number_of (value_same raw)

    entry_same : (path directory : Option Raw)
        → entry_of (these offsets order a b base wide) path directory ≡ entry_of (these offsets order c d base wide) path directory
    entry_same None directory = refl
    entry_same (Some path) directory =
        ap (λ v. entry_of_path v (directory_of (these offsets order a b base wide) directory)) (value_same path)
        ∙ ap (entry_of_path (value_of (these offsets order c d base wide) path)) (directory_same directory)

    folder_same : (raw : Option Raw) → option_and_then (λ r. text_or_none (value_of (these offsets order a b base wide) r)) raw
        ≡ option_and_then (λ r. text_or_none (value_of (these offsets order c d base wide) r)) raw
    folder_same None = refl
    folder_same (Some raw) = ap text_or_none (value_same raw)

    line_entry : {s : Input} {fields : List FieldFormat} (p : ℕ) (entry : LineEntry) (q : ℕ)
        → IsLineEntry s (these offsets order a b base wide) fields p entry q → IsLineEntry s (these offsets order c d base wide) fields p entry q
    line_entry {s} {fields} p entry q h = record {
      raws = h.raws;
      stand = h.stand;
      says = sym (entry_same (first_value DW_LNCT_PATH fields h.raws) (first_value DW_LNCT_DIRECTORY_INDEX fields h.raws)) ∙ h.says;
    }

    line_list : {s : Input} {p : ℕ} {entries : List LineEntry} {q : ℕ}
        → IsLineList s (these offsets order a b base wide) p entries q → IsLineList s (these offsets order c d base wide) p entries q
    line_list h = record {
      fields = h.fields;
      fields_end = h.fields_end;
      formats = h.formats;
      count = h.count;
      counted = h.counted;
      row = row_map line_entry h.row;
      number = h.number;
    }

    line_lists : {s : Input} {p end : ℕ} {table : LineTable}
        → AreLineLists s (these offsets order a b base wide) p end table → AreLineLists s (these offsets order c d base wide) p end table
    line_lists h = record {
      directories = h.directories;
      directories_end = h.directories_end;
      first = line_list h.first;
      paths = h.paths;
      files_end = h.files_end;
      second = line_list h.second;
      within = h.within;
    }

    -- lists of the versions before 5 name no texts by their places
    any_lists : (five : Bool) (s : Input) (p end : ℕ) (table : LineTable)
        → AreLists five s (these offsets order a b base wide) p end table → AreLists five s (these offsets order c d base wide) p end table
    any_lists true s p end table h = line_lists h
    any_lists false s p end table h = h

  table_same : {section : List ℕ} {p : ℕ} {base : Option ℕ} {wide : Bool} {table : LineTable}
      → IsLineTable section p (these offsets order a b base wide) table → IsLineTable section p (these offsets order c d base wide) table
  table_same {base} {table = table} h = record {
    piece = h.piece;
    stands = h.stands;
    head = h.head;
    header = h.header;
    listed = record {
      version = h.listed.version;
      lists = any_lists base h.piece.value.wide (h.head.version == DWARF_VERSION) (line_input order h.piece.value h.head) h.head.lists
          h.head.end table h.listed.lists;
    };
  }

  module _ (info abbrevs section : List ℕ) where
    root_same : (wide : Bool) (raw : RawEntry) → root_of (sections info abbrevs section offsets order a b) wide raw ≡ root_of (sections info abbrevs section offsets order c d) wide raw
    root_same wide raw =
        let base = option_and_then section_place raw.str_offsets_base in
        ap (λ (folder : Option (List ℕ)). record {
          stmt_list = option_and_then section_place raw.stmt_list;
          comp_dir = folder;
          str_offsets_base = base;
        }) (folder_same base wide raw.comp_dir)

    root_entry : {unit : Piece} {entry : RootEntry} → IsRootEntry (sections info abbrevs section offsets order a b) unit entry → IsRootEntry (sections info abbrevs section offsets order c d) unit entry
    root_entry {unit} h = record {
      head = h.head;
      header = h.header;
      within = record {
        raw = h.within.raw;
        stands = h.within.stands;
        says = h.within.says ∙ root_same unit.wide h.within.raw;
      };
    }

    entry_source : {wide : Bool} {entry : RootEntry} {path : List ℕ} → IsEntrySource (sections info abbrevs section offsets order a b) wide entry path
        → IsEntrySource (sections info abbrevs section offsets order c d) wide entry path
    entry_source h = record {
      offset = h.offset;
      named = h.named;
      table = h.table;
      stands = table_same h.stands;
      file = h.file;
    }

    unit_source : (unit : Piece) {path : List ℕ} → IsUnitSource (sections info abbrevs section offsets order a b) unit path → IsUnitSource (sections info abbrevs section offsets order c d) unit path
    unit_source unit h = record { entry = h.entry; root = root_entry h.root; table = entry_source h.table }

    pub source_same : {path : List ℕ} → IsSource (sections info abbrevs section offsets order a b) path → IsSource (sections info abbrevs section offsets order c d) path
    source_same h = record {
      units = h.units;
      all = h.all;
      unit = record { one = h.unit.one; among = h.unit.among; has = unit_source h.unit.one h.unit.has };
    }

turned : {a b : List ℕ} → AreSameTexts a b → AreSameTexts b a
turned same = record { at = λ p. sym (same.at p) }

-- what holds of a file's sources holds of those of the same texts
pub exact_same : {a b c d : List ℕ} → AreSameTexts a c → AreSameTexts b d → (info abbrevs lines offsets : List ℕ) (order : Order)
    → {P : List ℕ → Type 0} → ((path : List ℕ) → P path ↔ IsSource (sections info abbrevs lines offsets order a b) path)
    → (path : List ℕ) → P path ↔ IsSource (sections info abbrevs lines offsets order c d) path
exact_same strs texts info abbrevs lines offsets order exact path = (
  λ h. source_same strs texts offsets order info abbrevs lines ((exact path).0 h),
  λ h. (exact path).1 (source_same (turned strs) (turned texts) offsets order info abbrevs lines h),
)
