-- The functions of `Ended` give what the relations of `DwarfLines` hold of, and nothing else.
use Rattle.std.proofs.Common.{◌≡◌, ◌≢◌, ℕ, ◌<◌, ◌≤◌, Bool, true, false, List, [], ◌∷◌, Option, Some, None, Result, Ok, Err, IfOk, ap, refl, sym, subst, ap₂, ◌∙◌, arith, option_map, option_and_then}
use Rattle.std.specs.Prelude.{◌==◌, if◌then◌else◌}
use Rattle.std.specs.Result.{result_ok}
use Rattle.byte_read.specs.View.{View}
use Rattle.file_formats.specs.declared.dwarf_units.TheConstants.{DWARF_VERSION}
use Rattle.file_formats.specs.declared.dwarf_lines.LineHead.{LineHead}
use Rattle.file_formats.specs.DwarfReads.{Input, At, unsigned_at, string_at}
use Rattle.file_formats.specs.DwarfTexts.{Texts}
use Rattle.file_formats.specs.DwarfLengths.{Piece, piece_at}
use Rattle.file_formats.specs.DwarfLines.{Row, no_more, one_more, LineEntry, LineTable, IsNamed, IsIncludeDirectory, IsFileName, IsEndedList, AreEndedLists, AreLineLists, AreLists, IsListed, IsLineTable, line_input}
use Rattle.file_formats.specs.DwarfLineHeads.{line_head}
use Rattle.dwarf_forms.specs.Tells.{TellsOnly, IsOnly}
use Rattle.dwarf_forms.specs.FormAnswers.{input_of}
use Rattle.dwarf_forms.specs.TextBytes.{is_empty}
use Rattle.dwarf_forms.specs.declared.numbers.Format.{Format}
use Rattle.dwarf_lines.specs.Bases.{TellsTable, based, IsSameForBases}
use Rattle.dwarf_lines.specs.Finds.{as_it_is}
use Rattle.dwarf_lines.specs.Lists.{lists_of}
use Rattle.dwarf_lines.specs.Ended.{directory_behind, directory_at, two_at, numbers_at, file_named, file_behind, file_at, ItemsTo, no_item, an_item, NoItems, AreFoundItems, AreItems}
use Rattle.dwarf_lines.specs.declared.table.ReadTable.{ReadTable}
use Rattle.dwarf_lines.proofs.CaseLemmas.{by_some, of_some, was_read, some_same}
use Rattle.dwarf_lines.proofs.EndedLemmas.{item_not_end, item_same, items-once}
use Rattle.dwarf_lines.proofs.Laws.{tells, lists-found, lists-there}

not_empty : (t : List ℕ) → t ≢ [] → is_empty t ≡ false
not_empty [] some = absurd (some refl)
not_empty (x ∷ xs) some = refl

is_some : (t : List ℕ) → is_empty t ≡ false → t ≢ []
is_some [] e = absurd (cc)
is_some (x ∷ xs) e = λ f. absurd (cc)

is_none : (t : List ℕ) → is_empty t ≡ true → t ≡ []
is_none [] e = refl
is_none (x ∷ xs) e = absurd (cc)

module _ (s : Input) where
  directory-found : (p : ℕ) (d : Option (List ℕ)) (q : ℕ) → IsIncludeDirectory s p d q → directory_at s p ≡ Some (record { value = Some d; next = q })
  unfolding directory_at
  directory-found p d q h = rw (h.named.stands, not_empty h.path h.named.some) (ap (λ (x : Option (List ℕ)). Some (record { value = Some x; next = q })) (sym h.says))

  directory-ends : (p q : ℕ) → string_at s p ≡ Ok (record { value = []; next = q }) → directory_at s p ≡ Some (record { value = None; next = q })
  unfolding directory_at
  directory-ends p q e = rw e refl

  -- a directory is said by a text that isn't empty
  item_said : (t : List ℕ) (n : ℕ) (b : Bool) → is_empty t ≡ b → (d : Option (List ℕ)) (q : ℕ)
      → ◌≡◌ {A = At (Option (Option (List ℕ)))} (record { value = if b then None else Some (Some t); next = n }) (record { value = Some d; next = q })
      → (t ≢ []) × (d ≡ Some t) × (n ≡ q)
  item_said t n true is d q e = absurd (item_not_end (sym e))
  item_said t n false is d q e = let both = item_same e in (is_some t is, sym both.0, both.1)

  end_said : (t : List ℕ) (n : ℕ) (b : Bool) → is_empty t ≡ b → (q : ℕ)
      → ◌≡◌ {A = At (Option (Option (List ℕ)))} (record { value = if b then None else Some (Some t); next = n }) (record { value = None; next = q })
      → (t ≡ []) × (n ≡ q)
  end_said t n true is q e = (is_none t is, ap (λ (a : At (Option (Option (List ℕ)))). a.next) e)
  end_said t n false is q e = absurd (item_not_end e)

  directory-there : (p : ℕ) (d : Option (List ℕ)) (q : ℕ) → directory_at s p ≡ Some (record { value = Some d; next = q }) → IsIncludeDirectory s p d q
  unfolding directory_at
  directory-there p d q e =
      let (path, there, is) = of_some directory_behind (result_ok (string_at s p)) (record { value = Some d; next = q }) e in
      let (some, says, next) = item_said path.value path.next (is_empty path.value) refl d q is in
      record {
        path = path.value;
        named = record {
          stands = was_read (string_at s p) path there ∙ ap (λ n. Ok (record { value = path.value; next = n })) next;
          some = some;
        };
        says = says;
      }

  directory-ended : (p q : ℕ) → directory_at s p ≡ Some (record { value = None; next = q }) → string_at s p ≡ Ok (record { value = []; next = q })
  unfolding directory_at
  directory-ended p q e =
      let (path, there, is) = of_some directory_behind (result_ok (string_at s p)) (record { value = None; next = q }) e in
      let (none, next) = end_said path.value path.next (is_empty path.value) refl q is in
      was_read (string_at s p) path there ∙ ap₂ (λ v n. Ok (record { value = v; next = n })) none next

  file-found : (p : ℕ) (f : LineEntry) (q : ℕ) → IsFileName s p f q → file_at s p ≡ Some (record { value = Some f; next = q })
  unfolding file_at numbers_at two_at
  file-found p f q h =
      rw (h.named.stands, not_empty h.path h.named.some, h.directory, h.changed, h.sized)
      (ap₂ (λ (x : LineEntry) n. Some (record { value = Some x; next = n })) (sym h.says) (sym h.behind))

  file-ends : (p q : ℕ) → string_at s p ≡ Ok (record { value = []; next = q }) → file_at s p ≡ Some (record { value = None; next = q })
  unfolding file_at
  file-ends p q e = rw e refl

  two-there : (p : ℕ) (r : At ℕ) → two_at s p ≡ Some r
      → (time : At ℕ) × (size : At ℕ) × (unsigned_at s p ≡ Ok time) × (unsigned_at s time.next ≡ Ok size) × (r.next ≡ size.next)
  unfolding two_at
  two-there p r e =
      let (time, first, by) = by_some (λ (time : At ℕ).
      option_map (λ (size : At ℕ). record { value = time.value; next = size.next }) (result_ok (unsigned_at s time.next)))
      (result_ok (unsigned_at s p)) r e in
      let (size, second, is) = of_some (λ (size : At ℕ). record { value = time.value; next = size.next }) (result_ok (unsigned_at s time.next)) r by in
      (time, size, was_read _ time first, was_read _ size second, sym (ap (λ (x : At ℕ). x.next) is))

  numbers-there : (p : ℕ) (r : At ℕ) → numbers_at s p ≡ Some r
      → (index : At ℕ) × (rest : At ℕ) × (unsigned_at s p ≡ Ok index) × (two_at s index.next ≡ Some rest) × (r.value ≡ index.value) × (r.next ≡ rest.next)
  unfolding numbers_at
  numbers-there p r e =
      let (index, first, by) = by_some (λ (index : At ℕ).
      option_map (λ (rest : At ℕ). record { value = index.value; next = rest.next }) (two_at s index.next)) (result_ok (unsigned_at s p)) r e in
      let (rest, second, is) = of_some (λ (rest : At ℕ). record { value = index.value; next = rest.next }) (two_at s index.next) r by in
      (index, rest, was_read _ index first, second, sym (ap (λ (x : At ℕ). x.value) is), sym (ap (λ (x : At ℕ). x.next) is))

  file_said : (path : At (List ℕ)) (b : Bool) → is_empty path.value ≡ b → (f : LineEntry) (q : ℕ)
      → (if b then Some (record { value = None; next = path.next }) else option_map (file_named path.value) (numbers_at s path.next)) ≡ Some (record { value = Some f; next = q })
      → (path.value ≢ []) × (n : At ℕ) × (numbers_at s path.next ≡ Some n) × (file_named path.value n ≡ record { value = Some f; next = q })
  file_said path true is f q e = absurd (item_not_end (sym (some_same e)))
  file_said path false is f q e =
      let (n, there, same) = of_some (file_named path.value) (numbers_at s path.next) (record { value = Some f; next = q }) e in
      (is_some path.value is, n, there, same)

  file_end : (path : At (List ℕ)) (b : Bool) → is_empty path.value ≡ b → (q : ℕ)
      → (if b then Some (record { value = None; next = path.next }) else option_map (file_named path.value) (numbers_at s path.next)) ≡ Some (record { value = None; next = q })
      → (path.value ≡ []) × (path.next ≡ q)
  file_end path true is q e = (is_none path.value is, ap (λ (x : At (Option LineEntry)). x.next) (some_same e))
  file_end path false is q e =
      let (n, there, same) = of_some (file_named path.value) (numbers_at s path.next) (record { value = None; next = q }) e in absurd (item_not_end same)

  file-there : (p : ℕ) (f : LineEntry) (q : ℕ) → file_at s p ≡ Some (record { value = Some f; next = q }) → IsFileName s p f q
  unfolding file_at
  file-there p f q e =
      let (path, there, by) = by_some (file_behind s) (result_ok (string_at s p)) (record { value = Some f; next = q }) e in
      let (some, n, numbers, same) = file_said path (is_empty path.value) refl f q by in
      let (index, rest, first, both, value, next) = numbers-there path.next n numbers in
      let (time, size, second, third, last) = two-there index.next rest both in
      record {
        path = path.value;
        path_end = path.next;
        named = record { stands = was_read (string_at s p) path there; some = some };
        index = index;
        directory = first;
        time = time;
        changed = second;
        size = size;
        sized = third;
        behind = sym (ap (λ (x : At (Option LineEntry)). x.next) same) ∙ next ∙ last;
        says = sym (some_same (ap (λ (x : At (Option LineEntry)). x.value) same)) ∙ ap (λ m. record { path = Some path.value; directory = Some m }) value;
      }

  file-ended : (p q : ℕ) → file_at s p ≡ Some (record { value = None; next = q }) → string_at s p ≡ Ok (record { value = []; next = q })
  unfolding file_at
  file-ended p q e =
      let (path, there, by) = by_some (file_behind s) (result_ok (string_at s p)) (record { value = None; next = q }) e in
      let (none, next) = file_end path (is_empty path.value) refl q by in
      was_read (string_at s p) path there ∙ ap₂ (λ v n. Ok (record { value = v; next = n })) none next

  module _ {A : Type 0} (Item : ℕ → A → ℕ → Type 0) (at : ℕ → Option (At (Option A))) where
    items-found : ((p : ℕ) (x : A) (q : ℕ) → Item p x q → at p ≡ Some (record { value = Some x; next = q }))
        → {p last q : ℕ} {xs : List A} → Row Item p xs last → at last ≡ Some (record { value = None; next = q }) → ItemsTo at p xs q
    items-found found {q = q} (no_more p) e = no_item p q e
    items-found found {q = q} (one_more p x n xs r here rest) e = an_item p x n xs q (found p x n here) (items-found found rest e)

    items-there : ((p : ℕ) (x : A) (q : ℕ) → at p ≡ Some (record { value = Some x; next = q }) → Item p x q)
        → ((p q : ℕ) → at p ≡ Some (record { value = None; next = q }) → string_at s p ≡ Ok (record { value = []; next = q }))
        → {p q : ℕ} {xs : List A} → ItemsTo at p xs q → IsEndedList Item s p xs q
    items-there there ended (no_item p q e) = record { last = p; row = no_more p; ended = ended p q e }
    items-there there ended (an_item p x n xs q e rest) =
        let l = items-there there ended rest in
        record { last = l.last; row = one_more p x n xs l.last (there p x n e) l.row; ended = l.ended }

  ended-found : (p end : ℕ) (t : LineTable) → t.version ≡ s.version → AreEndedLists s p end t → AreItems s p end t
  ended-found p end t version h = record {
    version = version;
    directories_end = h.directories_end;
    first = items-found (IsIncludeDirectory s) (directory_at s) directory-found h.first.row (directory-ends h.first.last h.directories_end h.first.ended);
    files_end = h.files_end;
    second = items-found (IsFileName s) (file_at s) file-found h.second.row (file-ends h.second.last h.files_end h.second.ended);
    within = h.within;
  }

  ended-there : (p end : ℕ) (t : LineTable) → AreItems s p end t → AreEndedLists s p end t
  ended-there p end t h = record {
    directories_end = h.directories_end;
    first = items-there (IsIncludeDirectory s) (directory_at s) directory-there directory-ended h.first;
    files_end = h.files_end;
    second = items-there (IsFileName s) (file_at s) file-there file-ended h.second;
    within = h.within;
  }

-- behind a read the bytes are what they were
same_input : (f : Format) (old mid : View) → mid ≡ record old { place = mid.place } → input_of mid f ≡ input_of old f
same_input f old mid e = ap (λ (v : View). input_of v f) e

pub none_first : (f : Format) (end : ℕ) {old : View} → NoItems (directory_at (input_of old f)) old.place → (t : LineTable)
    → AreItems (input_of old f) old.place end t → ⊥
none_first f end none t h = none.none t.directories h.directories_end h.first

-- what both reads gave is the only table
module _ (f : Format) (end : ℕ) {old mid : View} where
  module _ {ds : List (Option (List ℕ))} (first : AreFoundItems (directory_at (input_of old f)) old mid ds) where
    -- the files of a table stand where its directories end
    files_there : {t : LineTable} (h : AreItems (input_of old f) old.place end t) → ItemsTo (file_at (input_of old f)) mid.place t.files h.files_end
    files_there {t} h =
        let once = items-once (directory_at (input_of old f)) h.first first.here in
        subst (λ n. ItemsTo (file_at (input_of old f)) n t.files h.files_end) once.1 h.second

    pub none_second : NoItems (file_at (input_of mid f)) mid.place → (t : LineTable) → AreItems (input_of old f) old.place end t → ⊥
    none_second none t h =
        none.none t.files h.files_end
        (subst (λ (s : Input). ItemsTo (file_at s) mid.place t.files h.files_end) (sym (same_input f old mid first.moved)) (files_there h))

    module _ {new : View} {fs : List LineEntry} (second : AreFoundItems (file_at (input_of mid f)) mid new fs) where
      files_are : ItemsTo (file_at (input_of old f)) mid.place fs new.place
      files_are = subst (λ (s : Input). ItemsTo (file_at s) mid.place fs new.place) (same_input f old mid first.moved) second.here

      pub items_late : end < new.place → (t : LineTable) → AreItems (input_of old f) old.place end t → ⊥
      items_late late t h =
          let twice = items-once (file_at (input_of old f)) (files_there h) files_are in
          let same = twice.1 in let within = h.within in omega (arith, same, within, late)

      pub items_only : new.place ≤ end
          → IsOnly (AreItems (input_of old f) old.place end) (record { version = f.version; directories = ds; files = fs })
      items_only within = record {
        here = record { version = refl; directories_end = mid.place; first = first.here; files_end = new.place; second = files_are; within = within };
        only = λ t h.
            let once = items-once (directory_at (input_of old f)) h.first first.here in
            let twice = items-once (file_at (input_of old f)) (files_there h) files_are in
            ap (λ (v : ℕ). record { version = v; directories = t.directories; files = t.files }) h.version
            ∙ ap (λ (d : List (Option (List ℕ))). record { version = f.version; directories = d; files = t.files }) once.0
            ∙ ap (λ (g : List LineEntry). record { version = f.version; directories = ds; files = g }) twice.0;
      }

-- what is told from a cursor's place is told from that place
pub told_from : (f : Format) (end : ℕ) {v w : View} (o : Option LineTable) → v ≡ w → TellsOnly as_it_is (AreItems (input_of v f) v.place end) o
    → TellsOnly as_it_is (AreItems (input_of w f) w.place end) o
told_from f end {v} {w} o e told = subst (λ (x : View). TellsOnly as_it_is (AreItems (input_of x f) x.place end) o) e told

-- a table of version 5 is what the function of its lists gives
module _ (texts : Texts) (piece : Piece) (head : LineHead) where
  counted-tells : (head.version == DWARF_VERSION) ≡ true → TellsOnly as_it_is (IsListed texts piece head) (lists_of texts piece head)
  counted-tells is =
      tells (IsListed texts piece head) (lists_of texts piece head)
      (λ t h.
      lists-found (line_input texts.order piece head) (record texts { wide = piece.wide }) h.version
      (subst (λ b. AreLists b (line_input texts.order piece head) (record texts { wide = piece.wide }) head.lists head.end t) is h.lists))
      (λ t e.
      let both = lists-there (line_input texts.order piece head) (record texts { wide = piece.wide }) e in
      record {
        version = both.0;
        lists =
            subst (λ b. AreLists b (line_input texts.order piece head) (record texts { wide = piece.wide }) head.lists head.end t) (sym is) both.1;
      })

  ended-tells : (head.version == DWARF_VERSION) ≡ false → (o : Option LineTable)
      → TellsOnly as_it_is (AreItems (line_input texts.order piece head) head.lists head.end) o → TellsOnly as_it_is (IsListed texts piece head) o
  ended-tells is None none = λ t h. none t (items t h)
    where
      items : (t : LineTable) → IsListed texts piece head t → AreItems (line_input texts.order piece head) head.lists head.end t
      items t h =
          ended-found (line_input texts.order piece head) head.lists head.end t h.version
          (subst (λ b. AreLists b (line_input texts.order piece head) (record texts { wide = piece.wide }) head.lists head.end t) is h.lists)
  ended-tells is (Some x) one = record {
    here = record {
      version = one.here.version;
      lists =
          subst (λ b. AreLists b (line_input texts.order piece head) (record texts { wide = piece.wide }) head.lists head.end x) (sym is)
          (ended-there (line_input texts.order piece head) head.lists head.end x one.here);
    };
    only = λ t h.
        one.only t
        (ended-found (line_input texts.order piece head) head.lists head.end t h.version
        (subst (λ b. AreLists b (line_input texts.order piece head) (record texts { wide = piece.wide }) head.lists head.end t) is h.lists));
  }

-- what is told of a table of version 5
pub counted_told : {E : Type 0} (texts : Texts) (piece : Piece) (head : LineHead) → (head.version == DWARF_VERSION) ≡ true → (r : Result ReadTable E)
    → IfOk r (λ read. read.table ≡ lists_of texts piece head)
    → IfOk r (λ read. read.indexed ≡ false → IsSameForBases (λ x. lists_of x piece head) texts)
    → IfOk r (λ read. TellsTable (λ x. IsListed x piece head) texts read)
counted_told texts piece head five (Ok read) is fixed = record {
  table = subst (TellsOnly as_it_is (IsListed texts piece head)) (sym is) (counted-tells texts piece head five);
  fixed = λ none base.
      subst (TellsOnly as_it_is (IsListed (based texts base) piece head)) (fixed none base ∙ sym is) (counted-tells (based texts base) piece head five);
}
counted_told texts piece head five (Err e) is fixed = tt

-- what is told of a table of another version
pub ended_told : {E : Type 0} (texts : Texts) (piece : Piece) (head : LineHead) → (head.version == DWARF_VERSION) ≡ false → (r : Result ReadTable E)
    → IfOk r (λ read. TellsOnly as_it_is (AreItems (line_input texts.order piece head) head.lists head.end) read.table)
    → IfOk r (λ read. TellsTable (λ x. IsListed x piece head) texts read)
ended_told texts piece head other (Ok read) is = record {
  table = ended-tells texts piece head other read.table is;
  fixed = λ none base. ended-tells (based texts base) piece head other read.table is;
}
ended_told texts piece head other (Err e) is = tt

-- what is told of the lists of the table at a place is told of it
module _ (lines : List ℕ) (p : ℕ) (texts : Texts) where
  pub table_nowhere : piece_at texts.order lines p ≡ None → TellsOnly as_it_is (IsLineTable lines p texts) None
  table_nowhere e = λ t h. let f = h.stands in absurd (cc)

  pub table_headless : {piece : At Piece} → piece_at texts.order lines p ≡ Some piece → line_head texts.order piece.value ≡ None
      → TellsOnly as_it_is (IsLineTable lines p texts) None
  table_headless {piece} e none = λ t h.
      let same : h.piece ≡ piece = some_same (sym h.stands ∙ e) in
      let f = sym (ap (λ (x : At Piece). line_head texts.order x.value) same) ∙ h.header in absurd (cc)

  pub table_listed : {piece : At Piece} {head : LineHead} → piece_at texts.order lines p ≡ Some piece → line_head texts.order piece.value ≡ Some head
      → (o : Option LineTable) → TellsOnly as_it_is (IsListed texts piece.value head) o → TellsOnly as_it_is (IsLineTable lines p texts) o
  table_listed {piece} {head} e f o told = by o told
    where
      listed : (t : LineTable) → IsLineTable lines p texts t → IsListed texts piece.value head t
      listed t h =
          let same : h.piece ≡ piece = some_same (sym h.stands ∙ e) in
          let one : h.head ≡ head = some_same (sym h.header ∙ ap (λ (x : At Piece). line_head texts.order x.value) same ∙ f) in
          subst (λ (x : LineHead). IsListed texts piece.value x t) one (subst (λ (x : At Piece). IsListed texts x.value h.head t) same h.listed)

      by : (o : Option LineTable) → TellsOnly as_it_is (IsListed texts piece.value head) o → TellsOnly as_it_is (IsLineTable lines p texts) o
      by None none = λ t h. none t (listed t h)
      by (Some x) one = record {
        here = record { piece = piece; stands = e; head = head; header = f; listed = one.here };
        only = λ t h. one.only t (listed t h);
      }

-- the same of the table that was read
pub table_told : {E : Type 0} (lines : List ℕ) (p : ℕ) (texts : Texts) {piece : At Piece} {head : LineHead} → piece_at texts.order lines p ≡ Some piece
    → line_head texts.order piece.value ≡ Some head → (r : Result ReadTable E) → IfOk r (λ read. TellsTable (λ x. IsListed x piece.value head) texts read)
    → IfOk r (λ read. TellsOnly as_it_is (IsLineTable lines p texts) read.table)
table_told lines p texts e f (Ok read) told = table_listed lines p texts e f read.table told.table
table_told lines p texts e f (Err x) told = tt

-- and for each place in .debug_str_offsets
pub table_fixed : {E : Type 0} (lines : List ℕ) (p : ℕ) (texts : Texts) {piece : At Piece} {head : LineHead} → piece_at texts.order lines p ≡ Some piece
    → line_head texts.order piece.value ≡ Some head → (r : Result ReadTable E) → IfOk r (λ read. TellsTable (λ x. IsListed x piece.value head) texts read)
    → IfOk r (λ read. read.indexed ≡ false → (base : Option ℕ) → TellsOnly as_it_is (IsLineTable lines p (based texts base)) read.table)
table_fixed lines p texts e f (Ok read) told = λ none base. table_listed lines p (based texts base) e f read.table (told.fixed none base)
table_fixed lines p texts e f (Err x) told = tt
