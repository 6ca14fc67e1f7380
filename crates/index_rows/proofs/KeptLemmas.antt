-- An index's rows after a change.
use Rattle.std.proofs.Common.{◌≡◌, ◌≢◌, ℕ, ◌<◌, ◌≤◌, List, [], ◌∷◌, ◌++◌, length, Option, Some, refl, sym, ◌∙◌, ap, subst, arith}
use Rattle.std.specs.Prelude.{IsSomeAnd}
use Rattle.std.specs.Str.{bytes_eq}
use Rattle.std.proofs.lemmas.List.{length_push}
use Rattle.std.proofs.lemmas.List.Elements.{All-filter}
use Rattle.std.proofs.lemmas.Slice.Eq.{bytes_eq-Decides}
use Rattle.row_types.specs.Name.{NameFacts}
use Rattle.row_types.specs.Row.{RowFacts}
use Rattle.row_types.specs.Ascends.{AscendsBy}
use Rattle.index_rows.specs.Kept.{RoomFor, IsIndexKept}
use Rattle.index_rows.specs.Log.{put_of, drop_of, replay}
use Rattle.index_rows.specs.Rows.{RowsFacts, row_path, row_names, row_at, IsLogReady, IsDropOf, IsIndex, with_row, without_row, after_put, after_drop, after_void, CanBeVoid, void_of}
use Rattle.index_rows.specs.declared.change.Change.{Change}
use Rattle.index_rows.specs.declared.prepared.Prepared.{Prepared}
use Rattle.index_rows.specs.declared.prepared.Prepared.TheVariants.{Nothing, Put, Drop}
use Rattle.index_rows.specs.declared.rows.TheConstants.{LOG_LIMIT}
use Rattle.index_rows.proofs.CountLemmas.{rows_few}
use Rattle.index_rows.proofs.Lists.{IsFound, found_there}
use Rattle.index_rows.proofs.PathLemmas.{put_ascends, put_holds, without_ascends}
use Rattle.index_rows.proofs.RowLemmas.{put_replays, drop_replays, void_drop, void_put}

-- the facts of their parts
abbrev pub facts_from : List RowFacts → List Change → Prepared → RowsFacts
facts_from rows log prepared = record { rows = rows; log = log; prepared = prepared }

-- an index's rows after a put
pub index_after_put : (is_true : RowFacts → Type 0) (old : RowsFacts) (row : RowFacts) → IsIndex is_true old → old.prepared ≡ Put row → is_true row → IsIndex is_true (after_put row old)
index_after_put is_true old row h e one =
    let room : length old.log < LOG_LIMIT = subst (λ (p : Prepared). IsLogReady p old.rows old.log) e h.ready in
    record {
      ascends = put_ascends row_path row old.rows h.ascends;
      holds = put_holds is_true row_path row old.rows h.holds one;
      replays = put_replays old.rows old.log row h.replays;
      bounded = omega (arith, length_push old.log (put_of row.name), room);
      ready = tt;
    }

-- an index's rows after a drop
pub index_after_drop : (is_true : RowFacts → Type 0) (old : RowsFacts) (name : NameFacts) → IsIndex is_true old → old.prepared ≡ Drop name → IsIndex is_true (after_drop name old)
index_after_drop is_true old name h e =
    let ready : IsLogReady (Drop name) old.rows old.log = subst (λ (p : Prepared). IsLogReady p old.rows old.log) e h.ready in
    let room : length old.log < LOG_LIMIT = ready.0 in
    record {
      ascends = without_ascends row_path name.path old.rows h.ascends;
      holds = All-filter _ is_true old.rows h.holds;
      replays = drop_replays old.rows old.log name h.ascends ready.1 h.replays;
      bounded = omega (arith, length_push old.log (drop_of name), room);
      ready = tt;
    }

-- the void change stands for the prepared one
void_replays : (p : Prepared) (rows : List RowFacts) (log : List Change) → AscendsBy row_path rows → row_names rows ≡ replay log → IsLogReady p rows log → CanBeVoid p rows → replay (log ++ void_of p) ≡ replay log
void_replays Nothing rows log ascends same ready can = absurd can
void_replays (Put row) rows log ascends same ready can = void_drop rows log row.name ascends can same
void_replays (Drop name) rows log ascends same ready can = void_put rows log name ascends ready.1 same

-- the log has room for it
void_bounded : (p : Prepared) (rows : List RowFacts) (log : List Change) → IsLogReady p rows log → CanBeVoid p rows → length (log ++ void_of p) ≤ LOG_LIMIT
void_bounded Nothing rows log ready can = absurd can
void_bounded (Put row) rows log ready can = omega (arith, length_push log (drop_of row.name), ready)
void_bounded (Drop name) rows log ready can = let room : length log < LOG_LIMIT = ready.0 in omega (arith, length_push log (put_of name), room)

-- a void change leaves the names that the log leaves
pub same_after_void : (is_true : RowFacts → Type 0) (old : RowsFacts) → IsIndex is_true old → CanBeVoid old.prepared old.rows → replay (old.log ++ void_of old.prepared) ≡ replay old.log
same_after_void is_true old h can = void_replays old.prepared old.rows old.log h.ascends h.replays h.ready can

-- an index's rows after a void change
pub index_after_void : (is_true : RowFacts → Type 0) (old : RowsFacts) → IsIndex is_true old → CanBeVoid old.prepared old.rows → IsIndex is_true (after_void old)
index_after_void is_true old h can = record {
  ascends = h.ascends;
  holds = h.holds;
  replays = h.replays ∙ sym (same_after_void is_true old h can);
  bounded = void_bounded old.prepared old.rows old.log h.ready can;
  ready = tt;
}

-- the name of what was found by its path has the path
pub has_path : (path : List ℕ) (rows : List RowFacts) (row : RowFacts) (name : NameFacts) → row_at path rows ≡ Some row → name ≡ row.name → name.path ≡ path
has_path path rows row name e same =
    let found : IsFound (λ r. bytes_eq (row_path r) path) rows row = found_there (λ r. bytes_eq (row_path r) path) rows row e in
    ap (λ (n : NameFacts). n.path) same ∙ (bytes_eq-Decides (row_path row) path).0 found.passes

-- an index's rows with a drop prepared
pub index_with_drop : (is_true : RowFacts → Type 0) (old : RowsFacts) (path : List ℕ) (row : RowFacts) (name : NameFacts) → IsIndex is_true old → length old.log ≢ LOG_LIMIT → row_at path old.rows ≡ Some row → name ≡ row.name → IsIndex is_true (record old { prepared = Drop name })
index_with_drop is_true old path row name h less e same =
    let at_name : row_at name.path old.rows ≡ Some row = ap (λ (q : List ℕ). row_at q old.rows) (has_path path old.rows row name e same) ∙ e in
    let P : Option RowFacts → Type 0 = λ r. IsSomeAnd r (λ s. s.name ≡ name) in
    let bounded : length old.log ≤ LOG_LIMIT = h.bounded in
    record {
      ascends = h.ascends;
      holds = h.holds;
      replays = h.replays;
      bounded = h.bounded;
      ready = (omega (arith, bounded, less), subst P (sym at_name) (sym same));
    }

-- an index's facts, named otherwise
index_same : (is_true : RowFacts → Type 0) (now : RowsFacts) (rows : List RowFacts) (log : List Change) (prepared : Prepared) → rows ≡ now.rows → log ≡ now.log → prepared ≡ now.prepared → IsIndex is_true now → IsIndex is_true (facts_from rows log prepared)
index_same is_true now rows log prepared p q r h =
    let same : facts_from rows log prepared ≡ facts_from now.rows now.log now.prepared =
    ap (λ (x : List RowFacts). facts_from x log prepared) p ∙ ap (λ (x : List Change). facts_from now.rows x prepared) q ∙ ap (λ (x : Prepared). facts_from now.rows now.log x) r in
    subst (IsIndex is_true) (sym same) h

-- with nothing prepared no room is asked
pub at_rest : (is_true : RowFacts → Type 0) (facts : RowsFacts) (RowsRoom : RowFacts → Type 0) (LogRoom : Type 0) → facts.prepared ≡ Nothing → IsIndex is_true facts → IsIndexKept is_true facts RowsRoom LogRoom
at_rest is_true facts RowsRoom LogRoom none h = record {
  index = h;
  room = subst (λ (p : Prepared). RoomFor p RowsRoom LogRoom) (sym none) tt;
}

-- the fields after a put
pub put_index : {is_true : RowFacts → Type 0} {self inside : RowsFacts} {row given copy : RowFacts} {name : NameFacts} {rows : List RowFacts} {log : List Change} {prepared : Prepared} → inside ≡ self → IsIndex is_true inside → self.prepared ≡ Put row → Put copy ≡ inside.prepared → given ≡ row → is_true row → name ≡ given.name → rows ≡ with_row copy inside.rows → log ≡ inside.log ++ put_of name ∷ [] → prepared ≡ Nothing → IsIndex is_true (facts_from rows log prepared)
put_index {is_true} {self} {inside} {row} {given} {copy} {name} {rows} {log} {prepared} same h asked taken given_is one name_is rows_is log_is none =
    let e : inside.prepared ≡ Put row = ap (λ (f : RowsFacts). f.prepared) same ∙ asked in
    let both : Put copy ≡ Put row = taken ∙ e in
    let copy_is : copy ≡ row = cc in
    index_same is_true (after_put row inside) rows log prepared
    (rows_is ∙ ap (λ (r : RowFacts). with_row r inside.rows) copy_is)
    (log_is ∙ ap (λ (n : NameFacts). inside.log ++ put_of n ∷ []) (name_is ∙ ap (λ (r : RowFacts). r.name) given_is))
    none (index_after_put is_true inside row h e one)

-- there is place for one more row
pub put_fits : {is_true : RowFacts → Type 0} {self inside : RowsFacts} {row : RowFacts} → inside ≡ self → IsIndex is_true inside → self.prepared ≡ Put row → length inside.rows < LOG_LIMIT
put_fits {is_true} {self} {inside} {row} same h asked =
    let e : inside.prepared ≡ Put row = ap (λ (f : RowsFacts). f.prepared) same ∙ asked in
    let room : length inside.log < LOG_LIMIT = subst (λ (p : Prepared). IsLogReady p inside.rows inside.log) e h.ready in
    omega (arith, room, rows_few is_true inside h)

-- a name to be dropped has the path
named : (p : Prepared) (path : List ℕ) (name : NameFacts) → IsDropOf path p → p ≡ Drop name → name.path ≡ path
named p path name asked e = subst (IsDropOf path) e asked

-- the fields after a drop
pub drop_index : {is_true : RowFacts → Type 0} {self inside : RowsFacts} {name : NameFacts} {rows : List RowFacts} {log : List Change} {prepared : Prepared} (path : List ℕ) → inside ≡ self → IsIndex is_true inside → IsDropOf path self.prepared → Drop name ≡ inside.prepared → rows ≡ without_row path inside.rows → log ≡ inside.log ++ drop_of name ∷ [] → prepared ≡ Nothing → IsIndex is_true (facts_from rows log prepared)
drop_index {is_true} {self} {inside} {name} {rows} {log} {prepared} path same h asked taken rows_is log_is none =
    let e : self.prepared ≡ Drop name = ap (λ (f : RowsFacts). f.prepared) (sym same) ∙ sym taken in
    index_same is_true (after_drop name inside) rows log prepared
    (rows_is ∙ ap (λ (p : List ℕ). without_row p inside.rows) (sym (named self.prepared path name asked e)))
    log_is none (index_after_drop is_true inside name h (sym taken))

-- the log after a void change
void_log : (self inside : RowsFacts) (given : Prepared) (change : Change) (log : List Change) → given ≡ inside.prepared → void_of given ≡ change ∷ [] → log ≡ inside.log ++ change ∷ [] → log ≡ inside.log ++ void_of inside.prepared
void_log self inside given change log given_is change_is log_is = log_is ∙ ap (λ (cs : List Change). inside.log ++ cs) (sym change_is ∙ ap void_of given_is)

-- what can be listed as void inside
can_inside : (self inside : RowsFacts) → inside ≡ self → CanBeVoid self.prepared self.rows → CanBeVoid inside.prepared inside.rows
can_inside self inside same can = subst (λ (f : RowsFacts). CanBeVoid f.prepared f.rows) (sym same) can

-- the fields after a void change
pub void_index : {is_true : RowFacts → Type 0} {self inside : RowsFacts} {given : Prepared} {change : Change} {rows : List RowFacts} {log : List Change} {prepared : Prepared} → inside ≡ self → IsIndex is_true inside → CanBeVoid self.prepared self.rows → given ≡ inside.prepared → void_of given ≡ change ∷ [] → rows ≡ inside.rows → log ≡ inside.log ++ change ∷ [] → prepared ≡ Nothing → IsIndex is_true (facts_from rows log prepared)
void_index {is_true} {self} {inside} {given} {change} {rows} {log} {prepared} same h can given_is change_is rows_is log_is none =
    index_same is_true (after_void inside) rows log prepared rows_is (void_log self inside given change log given_is change_is log_is) none
    (index_after_void is_true inside h (can_inside self inside same can))

-- the names that the log leaves after a void change
pub void_same : {is_true : RowFacts → Type 0} {self inside : RowsFacts} {given : Prepared} {change : Change} {log : List Change} → inside ≡ self → IsIndex is_true inside → CanBeVoid self.prepared self.rows → given ≡ inside.prepared → void_of given ≡ change ∷ [] → log ≡ inside.log ++ change ∷ [] → replay log ≡ replay self.log
void_same {is_true} {self} {inside} {given} {change} {log} same h can given_is change_is log_is =
    ap replay (void_log self inside given change log given_is change_is log_is)
    ∙ same_after_void is_true inside h (can_inside self inside same can)
    ∙ ap (λ (f : RowsFacts). replay f.log) same

-- the fields once a drop is prepared
pub drop_ready : {is_true : RowFacts → Type 0} {inside : RowsFacts} {row : RowFacts} {name : NameFacts} {rows : List RowFacts} {log : List Change} (path : List ℕ) → IsIndex is_true inside → length inside.log ≢ LOG_LIMIT → row_at path inside.rows ≡ Some row → name ≡ row.name → rows ≡ inside.rows → log ≡ inside.log → IsIndex is_true (facts_from rows log (Drop name))
drop_ready {is_true} {inside} {row} {name} {rows} {log} path h less e same rows_is log_is =
    index_same is_true (record inside { prepared = Drop name }) rows log (Drop name) rows_is log_is refl (index_with_drop is_true inside path row name h less e same)
