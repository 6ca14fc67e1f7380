-- The functions of `Lists` give what the relations of `DwarfLines` hold of, and nothing else.
use Rattle.std.proofs.Common.{◌≡◌, ℕ, zero, suc, ◌≤◌, Bool, true, false, List, [], ◌∷◌, length, Option, Some, None, Result, Ok, Err, ap, refl, sym, subst, ◌∙◌, option_map, option_and_then, arith, le-leb, leb-true, if◌then◌else◌, nat_le, IfOk}
use Rattle.std.specs.Result.{result_ok}
use Rattle.file_formats.specs.declared.dwarf_forms.Width.TheVariants.{One}
use Rattle.file_formats.specs.declared.dwarf_lines.TheConstants.{DW_LNCT_PATH, DW_LNCT_DIRECTORY_INDEX}
use Rattle.file_formats.specs.declared.dwarf_lines.FieldFormat.{FieldFormat}
use Rattle.file_formats.specs.DwarfReads.{Input, At, unsigned_at, number_at}
use Rattle.file_formats.specs.DwarfForms.{Raw}
use Rattle.file_formats.specs.DwarfTexts.{Texts}
use Rattle.file_formats.specs.DwarfLengths.{Piece, piece_at}
use Rattle.file_formats.specs.DwarfSequences.{Along, ends, goes}
use Rattle.file_formats.specs.DwarfLines.{Row, no_more, one_more, format_at, AreFormats, field_at, FieldAt, first_value, LineEntry, IsLineEntry, IsLineList, LineTable, AreLineLists}
use Rattle.dwarf_lines.specs.Lists.{at_map, row_of_values, EntryFields, one_field, with_first_fields, fields_at, line_entry, entry_at, formats_at, entries_at, list_or_none, line_table, lists_at, ending_by, lists_within, lists_of}
use Rattle.dwarf_forms.specs.Tells.{TellsOnly}
use Rattle.dwarf_lines.specs.declared.table.ReadTable.{ReadTable}
use Rattle.dwarf_lines.specs.Bases.{based, IsSameForBases}
use Rattle.dwarf_lines.specs.Finds.{as_it_is}
use Rattle.dwarf_lines.proofs.CaseLemmas.{by_some, of_some, was_read, some_same}
use Rattle.dwarf_lines.proofs.RowLemmas.{row-zero, row-more}

-- what a test lets through is what was there
only_then : {A : Type 0} (t : Bool) (x r : A) → (if t then Some x else None) ≡ Some r → (t ≡ true) × (x ≡ r)
only_then true x r e = (refl, cc)
only_then false x r e = absurd (cc)

-- what ends by a place
ending : {A : Type 0} (x : At A) (end : ℕ) (r : A) → ending_by end x ≡ Some r → (x.next ≤ end) × (x.value ≡ r)
ending x end r e = let (fits, is) = only_then (nat_le x.next end) x.value r e in (leb-true x.next end fits, is)

module _ {A : Type 0} (R : ℕ → A → ℕ → Type 0) (at : ℕ → Option (At A)) where
  row-found : ((p : ℕ) (x : A) (q : ℕ) → R p x q → at p ≡ Some (record { value = x; next = q }))
      → {p : ℕ} {xs : List A} {q : ℕ} → Row R p xs q → (n : ℕ) → length xs ≡ n → row_of_values at n p ≡ Some (record { value = xs; next = q })
  row-found found (no_more p) zero e = row-zero at p
  row-found found (no_more p) (suc n) e = absurd (omega (arith, e))
  row-found found (one_more p x q xs r here rest) zero e = absurd (omega (arith, e))
  row-found found (one_more p x q xs r here rest) (suc n) e =
      let shorter : length xs ≡ n = omega (arith, e) in
      row-more at n p (found p x q here) ∙ ap (option_map (at_map (λ ys. x ∷ ys))) (row-found found rest n shorter)

  row-there : ((p : ℕ) (x : At A) → at p ≡ Some x → R p x.value x.next)
      → (n p : ℕ) (r : At (List A)) → row_of_values at n p ≡ Some r → Row R p r.value r.next × (length r.value ≡ n)
  unfolding row_of_values
  row-there there zero p r e =
      subst (λ (y : At (List A)). Row R p y.value y.next × (length y.value ≡ 0)) (some_same e) (no_more p, refl)
  row-there there (suc n) p r e =
      let (x, here, by) = by_some (λ x. option_map (at_map (λ xs. x.value ∷ xs)) (row_of_values at n x.next)) (at p) r e in
      let (rest, stands, is) = of_some (at_map (λ xs. x.value ∷ xs)) (row_of_values at n x.next) r by in
      let (row, long) = row-there there n x.next rest stands in
      let longer : length (x.value ∷ rest.value) ≡ suc n = omega (arith, long) in
      subst (λ (y : At (List A)). Row R p y.value y.next × (length y.value ≡ suc n)) is
      (one_more p x.value x.next rest.value rest.next (there p x here) row, longer)

module _ (s : Input) where
  formats-found : {p : ℕ} {fields : List FieldFormat} {q : ℕ} → AreFormats s p fields q
      → formats_at s p ≡ Some (record { value = fields; next = q })
  unfolding formats_at
  formats-found {p} h =
      ap (λ o. option_and_then (λ (count : At ℕ). row_of_values (format_at s) count.value count.next) (result_ok o)) h.counted
      ∙ row-found (λ at field behind. format_at s at ≡ Some (record { value = field; next = behind })) (format_at s)
      (λ p x q e. e) h.row h.count.value h.number

  formats-there : {p : ℕ} {r : At (List FieldFormat)} → formats_at s p ≡ Some r → AreFormats s p r.value r.next
  unfolding formats_at
  formats-there {p} {r} e =
      let (count, counted, by) = by_some (λ (count : At ℕ). row_of_values (format_at s) count.value count.next) (result_ok (number_at s One p)) r e in
      let (row, number) = row-there (λ at field behind. format_at s at ≡ Some (record { value = field; next = behind })) (format_at s)
      (λ p x e. e) count.value count.next r by in
      record { count = count; counted = was_read (number_at s One p) count counted; row = row; number = number }

  -- the fields that count among these
  abbrev values_of : List FieldFormat → List Raw → EntryFields
  values_of fields raws = record {
    path = first_value DW_LNCT_PATH fields raws;
    directory = first_value DW_LNCT_DIRECTORY_INDEX fields raws;
  }

  fields-found : {p : ℕ} {fields : List FieldFormat} {raws : List Raw} {q : ℕ} → Along (FieldAt s) p fields raws q
      → fields_at s fields p ≡ Some (record { value = values_of fields raws; next = q })
  unfolding fields_at first_value
  fields-found (ends p) = refl
  fields-found (goes p field raw fields raws q e rest) = rw (e, fields-found rest)

  fields-there : (fields : List FieldFormat) (p : ℕ) (r : At EntryFields) → fields_at s fields p ≡ Some r
      → (raws : List Raw) × Along (FieldAt s) p fields raws r.next × (r.value ≡ values_of fields raws)
  unfolding fields_at first_value
  fields-there [] p r e =
      ([], subst (λ (y : At EntryFields). Along (FieldAt s) p [] [] y.next) (some_same e) (ends p), sym (ap (λ (y : At EntryFields). y.value) (some_same e)))
  fields-there (field ∷ fields) p r e =
      let (raw, here, by) = by_some (λ raw. option_map (at_map (with_first_fields (one_field field.content_type raw.value))) (fields_at s fields raw.next))
      (field_at s field p) r e in
      let (rest, stands, is) = of_some (at_map (with_first_fields (one_field field.content_type raw.value))) (fields_at s fields raw.next) r by in
      let (raws, along, values) = fields-there fields raw.next rest stands in (
        raw.value ∷ raws,
        subst (λ (y : At EntryFields). Along (FieldAt s) p (field ∷ fields) (raw.value ∷ raws) y.next) is
            (goes p field raw fields raws rest.next here along),
        sym (ap (λ (y : At EntryFields). y.value) is) ∙ ap (with_first_fields (one_field field.content_type raw.value)) values,
      )

  module _ (texts : Texts) where
    entry-found : {fields : List FieldFormat} (p : ℕ) (entry : LineEntry) (q : ℕ) → IsLineEntry s texts fields p entry q
        → entry_at s texts fields p ≡ Some (record { value = entry; next = q })
    unfolding entry_at
    entry-found p entry q h = rw (fields-found h.stand, h.says)

    entry-there : {fields : List FieldFormat} (p : ℕ) (x : At LineEntry) → entry_at s texts fields p ≡ Some x
        → IsLineEntry s texts fields p x.value x.next
    unfolding entry_at
    entry-there {fields} p x e =
        let (values, stand, by) = by_some
        (λ values. option_map (λ entry. record { value = entry; next = values.next }) (line_entry texts values.value))
        (fields_at s fields p) x e in
        let (entry, says, is) = of_some (λ entry. record { value = entry; next = values.next }) (line_entry texts values.value) x by in
        let (raws, along, are) = fields-there fields p values stand in
        subst (λ (y : At LineEntry). IsLineEntry s texts fields p y.value y.next) is
        (record { raws = raws; stand = along; says = sym (ap (line_entry texts) are) ∙ says })

    list-found : {p : ℕ} {entries : List LineEntry} {q : ℕ} → IsLineList s texts p entries q
        → list_or_none s texts p ≡ Some (record { value = entries; next = q })
    unfolding list_or_none entries_at
    list-found {p} h =
        ap (option_and_then (λ (fields : At (List FieldFormat)). entries_at s texts fields.value fields.next)) (formats-found h.formats)
        ∙ ap (λ o. option_and_then (λ (count : At ℕ). row_of_values (entry_at s texts h.fields) count.value count.next) (result_ok o)) h.counted
        ∙ row-found (IsLineEntry s texts h.fields) (entry_at s texts h.fields) entry-found h.row h.count.value h.number

    list-there : {p : ℕ} {r : At (List LineEntry)} → list_or_none s texts p ≡ Some r → IsLineList s texts p r.value r.next
    unfolding list_or_none entries_at
    list-there {p} {r} e =
        let (fields, formats, by) = by_some (λ (fields : At (List FieldFormat)). entries_at s texts fields.value fields.next) (formats_at s p) r e in
        let (count, counted, rows) = by_some (λ (count : At ℕ). row_of_values (entry_at s texts fields.value) count.value count.next)
        (result_ok (unsigned_at s fields.next)) r by in
        let (row, number) = row-there (IsLineEntry s texts fields.value) (entry_at s texts fields.value) entry-there count.value count.next r rows in
        record {
          fields = fields.value;
          fields_end = fields.next;
          formats = formats-there formats;
          count = count;
          counted = was_read (unsigned_at s fields.next) count counted;
          row = row;
          number = number;
        }

    pub lists-found : {p end : ℕ} {table : LineTable} → table.version ≡ s.version → AreLineLists s texts p end table
        → lists_within s texts p end ≡ Some table
    unfolding lists_within lists_at
    lists-found {p} {end} {table} version h =
        let ends : nat_le h.files_end end ≡ true = le-leb h.files_end end h.within in
        let same : line_table s.version h.directories table.files ≡ table =
        ap (λ (v : ℕ). line_table v h.directories table.files) (sym version)
        ∙ ap (λ (paths : List (Option (List ℕ))). record { version = table.version; directories = paths; files = table.files }) (sym h.paths) in
        rw (list-found h.first, list-found h.second, ends) (ap Some same)

    pub lists-there : {p end : ℕ} {table : LineTable} → lists_within s texts p end ≡ Some table
        → (table.version ≡ s.version) × AreLineLists s texts p end table
    unfolding lists_within lists_at
    lists-there {p} {end} {table} e =
        let (x, here, by) = by_some (ending_by end) (lists_at s texts p) table e in
        let (directories, first, behind) = by_some (λ directories. option_map (at_map (line_table s.version directories.value)) (list_or_none s texts directories.next))
        (list_or_none s texts p) x here in
        let (files, second, is) = of_some (at_map (line_table s.version directories.value)) (list_or_none s texts directories.next) x behind in
        let (within, same) = ending x end table by in
        let all : line_table s.version directories.value files.value ≡ table = ap (λ (y : At LineTable). y.value) is ∙ same in
        let last : files.next ≡ x.next = ap (λ (y : At LineTable). y.next) is in (
          sym (ap (λ (t : LineTable). t.version) all),
          subst (λ t. AreLineLists s texts p end t) all
              (record {
                directories = directories.value;
                directories_end = directories.next;
                first = list-there first;
                paths = refl;
                files_end = files.next;
                second = list-there second;
                within = omega (arith, last, within);
              }),
        )

-- an answer that the function gives is the one that the relation holds of
pub tells : {A : Type 0} (P : A → Type 0) (o : Option A) → ((x : A) → P x → o ≡ Some x) → ((x : A) → o ≡ Some x → P x) → TellsOnly as_it_is P o
tells P None found there = λ x h. let e = found x h in absurd (cc)
tells P (Some x) found there = record { here = there x refl; only = λ y h. some_same (sym (found y h)) }
