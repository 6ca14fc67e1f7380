-- Units and the line tables that they name.
use Rattle.std.proofs.Common.{◌≡◌, ℕ, suc, inl, inr, Bool, true, false, List, [], ◌∷◌, All, Option, Some, None, refl, sym, ◌∙◌, ap, subst, arith}
use Rattle.std.specs.BTreeSet.{BTreeSet, insert_key, contains}
use Rattle.std.specs.BTreeMap.{is_at}
use Rattle.std.specs.List.{list_any}
use Rattle.std.specs.Option.{option_copied}
use Rattle.std.specs.Ordering.{nat_cmp}
use Rattle.std.specs.declared.cmp.Ordering.{Ordering}
use Rattle.std.proofs.lemmas.Bool.{false≢true, or_cases}
use Rattle.std.proofs.lemmas.Map.Lookups.{exact_unsigned}
use Rattle.std.proofs.lemmas.Map.Views.{All-insert_key}
use Rattle.file_formats.specs.DwarfLengths.{Piece}
use Rattle.file_formats.specs.DwarfLines.{LineTable, IsLineTable}
use Rattle.file_formats.specs.DwarfUnits.{DebugSections, RootEntry, IsRootEntry, unit_texts}
use Rattle.dwarf_forms.specs.Tells.{IsOnly, TellsOnly}
use Rattle.dwarf_lines.specs.declared.table.ReadTable.{ReadTable}
use Rattle.dwarf_lines.specs.Finds.{as_it_is}
use Rattle.dwarf_units.specs.UnitList.{AreUnits}
use Rattle.dwarf_units.proofs.CaseLemmas.{some_same}
use Rattle.source_paths.specs.declared.tables.TableKey.{TableKey}
use Rattle.source_paths.specs.Adds.{AddsPaths, Has}
use Rattle.source_paths.specs.Keys.{HaveSameSources, IsFixed, AreSourcesRead, IsTableFor, IsTableOf, key_entry, short_entry}
use Rattle.row_types.specs.Sources.{IsEntrySource, IsFileSource, IsOfOne, IsSource, IsUnitSource}
use Rattle.source_paths.proofs.AddLemmas.{adds-same, adds-had, has-nothing}
use Rattle.source_paths.proofs.OrderLemmas.{equal}
use Rattle.source_paths.proofs.ShortLemmas.{from_unit, to_unit}

module _ (s : DebugSections) where
  -- a line table's own format counts, and not the unit's
  any_wide : {wide : Bool} {entry : RootEntry} {path : List ℕ} (other : Bool) → IsEntrySource s wide entry path → IsEntrySource s other entry path
  any_wide other h = record {
    offset = h.offset;
    named = h.named;
    table = h.table;
    stands = record {
      piece = h.stands.piece;
      stands = h.stands.stands;
      head = h.stands.head;
      header = h.stands.header;
      listed = record { version = h.stands.listed.version; lists = h.stands.listed.lists };
    };
    file = h.file;
  }

  -- an entry's folder may be left out where it is too long
  from_short_entry : (entry : RootEntry) {wide : Bool} {path : List ℕ} → IsEntrySource s wide (short_entry entry) path
      → IsEntrySource s wide entry path
  from_short_entry entry {wide} {path} h = record {
    offset = h.offset;
    named = h.named;
    table = h.table;
    stands = h.stands;
    file = from_unit entry.comp_dir h.table path h.file;
  }

  to_short_entry : (entry : RootEntry) {wide : Bool} {path : List ℕ} → IsEntrySource s wide entry path
      → IsEntrySource s wide (short_entry entry) path
  to_short_entry entry {wide} {path} h = record {
    offset = h.offset;
    named = h.named;
    table = h.table;
    stands = h.stands;
    file = to_unit entry.comp_dir h.table path h.file;
  }

  module _ (key : TableKey) where
    key_table : {path : List ℕ} → (h : IsEntrySource s false (key_entry key) path) → IsTableFor s key.offset key.base h.table
    key_table h = subst (λ n. IsLineTable s.lines n (unit_texts s false key.base) h.table) (sym (some_same h.named)) h.stands

    pub table-nowhere : ((table : LineTable) → IsTableFor s key.offset key.base table → ⊥) → (path : List ℕ)
        → IsEntrySource s false (key_entry key) path → ⊥
    table-nowhere none path h = none h.table (key_table h)

    pub table-adds : {table : LineTable} → IsOnly (IsTableFor s key.offset key.base) table → {old new : BTreeSet (List ℕ)}
        → AddsPaths (IsOfOne (IsFileSource (option_copied key.directory) table) table.files) old new
        → AddsPaths (IsEntrySource s false (key_entry key)) old new
    table-adds {table} only a = adds-same
        (λ path h. record { offset = key.offset; named = refl; table = table; stands = only.here; file = h })
        (λ path h. subst (λ (t : LineTable). IsOfOne (IsFileSource (option_copied key.directory) t) t.files path)
        (only.only h.table (key_table h)) h.file)
        a

  -- a table without indexes is the same for all units
  pub fixed-by : {offset : ℕ} {base : Option ℕ} {read : ReadTable} → IsTableOf s offset base read → read.indexed ≡ false → IsFixed s offset
  fixed-by {offset} {read = read} t none base other table h = by read.table (t.fixed none base) (t.fixed none other)
    where
      by : (found : Option LineTable) → TellsOnly as_it_is (IsTableFor s offset base) found → TellsOnly as_it_is (IsTableFor s offset other) found
          → IsTableFor s offset other table
      by None no_table no_other = absurd (no_table table h)
      by (Some one) only others = subst (IsTableFor s offset other) (sym (only.only table h)) others.here

  -- units that differ in their places in .debug_str_offsets alone have the same sources where their table is the same
  pub same-bases : {offset : ℕ} → IsFixed s offset → (directory : Option (List ℕ)) (base other : Option ℕ)
      → HaveSameSources s (record { stmt_list = Some offset; comp_dir = directory; str_offsets_base = base })
      (record { stmt_list = Some offset; comp_dir = directory; str_offsets_base = other })
  same-bases {offset} fixed directory base other = record { to = λ path h. go base other path h; from = λ path h. go other base path h }
    where
      go : (b o : Option ℕ) (path : List ℕ) → IsEntrySource s false (record { stmt_list = Some offset; comp_dir = directory; str_offsets_base = b }) path
          → IsEntrySource s false (record { stmt_list = Some offset; comp_dir = directory; str_offsets_base = o }) path
      go b o path h =
          let at : offset ≡ h.offset = some_same h.named in
          record {
            offset = h.offset;
            named = h.named;
            table = h.table;
            stands = subst (λ n. IsTableFor s n o h.table) at (fixed b o h.table (subst (λ n. IsTableFor s n b h.table) (sym at) h.stands));
            file = h.file;
          }

  pub same-all : (entry : RootEntry) → HaveSameSources s entry entry
  same-all entry = record { to = λ path h. h; from = λ path h. h }

  -- what adds one entry's sources adds another's that has the same
  pub adds-shared : {some others : RootEntry} → HaveSameSources s some others → {old new : BTreeSet (List ℕ)}
      → AddsPaths (IsEntrySource s false some) old new → AddsPaths (IsEntrySource s false others) old new
  adds-shared same a = adds-same same.to same.from a

  module _ (unit : Piece) where
    pub unit-nowhere : ((entry : RootEntry) → IsRootEntry s unit entry → ⊥) → (path : List ℕ) → IsUnitSource s unit path → ⊥
    unit-nowhere none path h = none h.entry h.root

    pub unit-unnamed : {entry : RootEntry} → IsOnly (IsRootEntry s unit) entry → entry.stmt_list ≡ None
        → (path : List ℕ) → IsUnitSource s unit path → ⊥
    unit-unnamed {entry} only none path h =
        let same : h.entry ≡ entry = only.only h.entry h.root in
        let named : entry.stmt_list ≡ Some h.table.offset = sym (ap (λ (e : RootEntry). e.stmt_list) same) ∙ h.table.named in
        cc

    pub unit-adds : {entry : RootEntry} → IsOnly (IsRootEntry s unit) entry → (key : TableKey) → key_entry key ≡ short_entry entry
        → {old new : BTreeSet (List ℕ)} → AddsPaths (IsEntrySource s false (key_entry key)) old new → AddsPaths (IsUnitSource s unit) old new
    unit-adds {entry} only key e a = adds-same
        (λ path h. record {
          entry = entry;
          root = only.here;
          table = any_wide unit.wide (from_short_entry entry (subst (λ x. IsEntrySource s false x path) e h));
        })
        (λ path h. subst (λ x. IsEntrySource s false x path) (sym e)
        (to_short_entry entry (any_wide false (subst (λ x. IsEntrySource s unit.wide x path) (only.only h.entry h.root) h.table))))
        a

  -- what was read stays read where paths are only added
  still_read : {P : List ℕ → Type 0} (keys : List TableKey) {old new : BTreeSet (List ℕ)} → AddsPaths P old new → All (AreSourcesRead s old) keys → All (AreSourcesRead s new) keys
  still_read keys a h = λ k d within path source. a.kept path (h k d within path source)

  -- the key's table is read too
  pub read-more : (cmp : TableKey → TableKey → Ordering) (key : TableKey) (keys : List TableKey) {now : List TableKey}
      {old new : BTreeSet (List ℕ)} → now ≡ insert_key cmp keys key → AddsPaths (IsEntrySource s false (key_entry key)) old new
      → All (AreSourcesRead s old) keys → All (AreSourcesRead s new) now
  read-more cmp key keys {now} {old} {new} e a h =
      subst (All (AreSourcesRead s new)) (sym e) (All-insert_key cmp key (AreSourcesRead s new) keys (still_read keys a h) a.added)

  -- a key that a test finds
  pub found : {K : Type 0} (test : K → Bool) {P : K → Type 0} {Q : Type 0} (keys : List K) → list_any test keys ≡ true → All P keys
      → ((key : K) → test key ≡ true → P key → Q) → Q
  found test [] e h to = absurd (false≢true e)
  found test (key ∷ keys) e h to = elim (or_cases (test key) (list_any test keys) e) [
    | inl here ↦ to key here (h 0 key (omega arith))
    | inr later ↦ found test keys later (λ k d within. h (suc k) d (omega (arith, within))) to
  ]

  -- a table that is the same for all units is kept as such
  pub fixed-more : (cmp : ℕ → ℕ → Ordering) (offset : ℕ) (keys : List ℕ) {now : List ℕ} → now ≡ insert_key cmp keys offset
      → IsFixed s offset → All (IsFixed s) keys → All (IsFixed s) now
  fixed-more cmp offset keys e h all = subst (All (IsFixed s)) (sym e) (All-insert_key cmp offset (IsFixed s) keys all h)

  -- a table that is kept as such is the same for all units
  pub fixed-at : (offset : ℕ) (fixed : BTreeSet ℕ) → contains nat_cmp fixed offset ≡ true → All (IsFixed s) fixed.keys → IsFixed s offset
  fixed-at offset fixed e all =
      found (is_at (nat_cmp offset)) fixed.keys e all
      (λ other tied h. subst (IsFixed s) (sym (exact_unsigned offset other (equal (nat_cmp offset other) tied))) h)

  -- the key's table was read before
  pub read-before : (cmp : TableKey → TableKey → Ordering) → ((key other : TableKey) → is_at (cmp key) other ≡ true → key_entry key ≡ key_entry other)
      → (key : TableKey) (seen : BTreeSet TableKey) {paths : BTreeSet (List ℕ)} → contains cmp seen key ≡ true → All (AreSourcesRead s paths) seen.keys
      → AddsPaths (IsEntrySource s false (key_entry key)) paths paths
  read-before cmp same key seen {paths} e h = adds-had paths
      (found (is_at (cmp key)) {P = AreSourcesRead s paths} seen.keys e h
      (λ other tied read path source. read path (subst (λ x. IsEntrySource s false x path) (same key other tied) source)))

  -- the paths of all units are the file's sources
  pub units-exact : {all done : List Piece} → AreUnits s.order s.info all → done ≡ all → {none paths : BTreeSet (List ℕ)} → none.keys ≡ []
      → AddsPaths (IsOfOne (IsUnitSource s) done) none paths → (path : List ℕ) → (Has paths path → IsSource s path) × (IsSource s path → Has paths path)
  units-exact {all} {done} are e {none} empty a path = (
    λ h. elim (a.only path h) [
      | inl before ↦ absurd (has-nothing none path empty before)
      | inr unit ↦ record { units = all; all = are.all; unit = subst (λ l. IsOfOne (IsUnitSource s) l path) e unit }
    ],
    λ h. a.added path (subst (λ l. IsOfOne (IsUnitSource s) l path) (are.only h.units h.all ∙ sym e) h.unit),
  )
