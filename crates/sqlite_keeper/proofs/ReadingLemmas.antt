-- Rows that are read one at a time are what the query shows.
use Rattle.std.proofs.Common.{◌≡◌, ◌⊎◌, inl, inr, List, [], ◌∷◌, ◌++◌, map, Ok, Err, Result, Option, None, Some, refl, sym, ◌∙◌, ap, subst}
use Rattle.std.specs.Prelude.{IfOk, OnOk}
use Rattle.std.proofs.lemmas.List.{map-append}
use Rattle.sqlite_resolve.specs.declared.compiled.Compiled.{Compiled}
use Rattle.sqlite_resolve.specs.declared.error.CompileError.{CompileError}
use Rattle.sqlite.specs.Clock.{timed}
use Rattle.sqlite.specs.Effect.{Database}
use Rattle.sqlite.specs.Given.{Advances, GivesOn, HasBegun, HasGiven, Returns}
use Rattle.sqlite.specs.Held.{Held, state}
use Rattle.sqlite.specs.Listing.{IsSourceOf, reads_listing, understood}
use Rattle.sqlite.specs.Order.{Row}
use Rattle.sqlite.specs.State.{State, Fails, FailsToQuery, IsRolledBack, IsUnchanged, Shown, ShowsRows}
use Rattle.sqlite.specs.Store.{Ghosts}
use Rattle.sqlite.specs.declared.error.Error.{Error}
use Rattle.sqlite.proofs.Callers.{unchanged_then}
use Rattle.index_keeper.specs.Tables.{KeptFacts}
use Rattle.sqlite_keeper.specs.Reading.{GivesAll, GivesRow, LeavesAlone, shown_kept}
use Rattle.sqlite_keeper.specs.Statements.{rows_query}
use Rattle.sqlite_keeper.proofs.TextLemmas.{rows_show_none}
use Rattle.sqlite_keeper.proofs.UndoneLemmas.{query_undone}

returns_never : (r : Result Compiled CompileError) → IfOk r (λ c. c.returning ≡ None) → Returns r → ⊥
returns_never (Ok c) none some = absurd (let e = rw none at some in cc)
returns_never (Err e) none some = some

-- one row more is given
pub one_more : (given : List Row) (row : Row) (items after : List KeptFacts) (its : KeptFacts) → items ≡ map shown_kept given → its ≡ shown_kept row → after ≡ items ++ its ∷ []
    → after ≡ map shown_kept (given ++ row ∷ [])
one_more given row items after its is row_is e =
    e ∙ ap (λ l. l ++ its ∷ []) is ∙ ap (λ k. map shown_kept given ++ k ∷ []) row_is ∙ sym (map-append shown_kept given (row ∷ []))

-- a query at one moment is one at an earlier moment that shows the same
shown_from : (first now last : State) (rows : List Row) → IsUnchanged first now → Shown rows_query [] now last rows → Shown rows_query [] first last rows
unfolding Shown
shown_from first now last rows same h =
    let full = timed [] h.0.formats h.1.now in
    let is : understood first.now.schema rows_query ≡ Ok h.0 = subst (λ (d : Database). understood d.schema rows_query ≡ Ok h.0) same.0.now_is h.1.is in
    let bare : h.0.returning ≡ None = subst (λ r. IfOk r (λ c. c.returning ≡ None)) is (rows_show_none first.now.schema) in
    let it = subst (ShowsRows now last rows_query h.0 full rows) bare h.2 in (
      h.0,
      record { is = is; whole = h.1.whole; given = h.1.given; now = h.1.now },
      subst (ShowsRows first last rows_query h.0 full rows) (sym bare)
          (it.0, subst (λ (d : Database). IsSourceOf (reads_listing d.schema rows_query) d it.0) same.0.now_is it.1, it.2, unchanged_then first now last same it.3),
    )

-- what is unchanged is left alone, and so is what is rolled back
pub left_unchanged : (old new : State) → IsUnchanged old new → LeavesAlone old new
left_unchanged old new it = record { now = λ _. inl it.0.now_is; committed = λ _. it.0.committed_is }

left_back : (old new : State) → IsRolledBack old new → LeavesAlone old new
left_back old new it = record { now = λ opened. inr (it.undone opened).0; committed = λ opened. (it.undone opened).1 }

-- left alone after nothing was changed
pub left_after : (a b c : State) → IsUnchanged a b → LeavesAlone b c → LeavesAlone a c
left_after a b c same leaves = record {
  now = λ opened. elim (leaves.now opened) [ inl now ↦ inl (now ∙ same.0.now_is) | inr back ↦ inr (back ∙ same.0.committed_is) ];
  committed = λ opened. leaves.committed opened ∙ same.0.committed_is;
}

-- a step that fails leaves the database alone
pub left_by_step : (old new : State) (P : Type 0) (e : Error) → Fails old new P e ⊎ IsUnchanged old new → LeavesAlone old new
left_by_step old new P e (inl failed) = left_back old new failed.3
left_by_step old new P e (inr same) = left_unchanged old new same

-- and so does a query that doesn't begin
pub left_by_query : (old new : State) (e : Error) → FailsToQuery rows_query [] old new e → LeavesAlone old new
left_by_query old new e h = elim (query_undone rows_query [] old new e h) [ inl same ↦ left_unchanged old new same | inr undone ↦ left_back old new undone ]

-- what follows where the answer is good
pub on_ok : {A E : Type 0} (r : Result A E) (P Q : Type 0) → (P → Q) → OnOk r P → OnOk r Q
on_ok (Ok a) P Q f h = f h
on_ok (Err e) P Q f h = tt

module _ {S : Type 0} (g : Ghosts S) where
  pub given_more : (old new : Held S) (o : Option Row) (row : Row) (its : KeptFacts) → Some row ≡ o → Advances g old new o → its ≡ shown_kept row → GivesRow g old new (Some its)
  given_more old new o row its e h is given had = (row, subst (λ (x : Option Row). GivesOn g rows_query [] old new given x) (sym e) (h rows_query [] given had), is)

  pub given_none : (old new : Held S) (o : Option Row) → None ≡ o → Advances g old new o → GivesRow g old new None
  given_none old new o e h given had = subst (λ (x : Option Row). GivesOn g rows_query [] old new given x) (sym e) (h rows_query [] given had)

  -- a query that has begun has given nothing yet
  pub begun : (old new : Held S) → HasBegun g rows_query [] old new → HasGiven g rows_query [] new [] × IsUnchanged (state g old) (state g new)
  begun old new (inl h) = h
  begun old new (inr h) = absurd (returns_never (understood old.schema rows_query) (rows_show_none old.schema) h.0)

  -- a query that has given nothing is that of an open database
  pub given_rests : (h : Held S) → HasGiven g rows_query [] h [] → IsUnchanged (state g h) (state g h)
  unfolding HasGiven
  given_rests h it = (record { was_open = it.0.is_open; is_open = it.0.is_open; now_is = refl; committed_is = refl; mode = refl }, record { changes = refl; last_rowid = refl }, refl)

  -- what a query gives of a database is given of one that was the same
  pub gave_since : (first now last : Held S) (items : List KeptFacts) → IsUnchanged (state g first) (state g now) → GivesAll g now last items → GivesAll g first last items
  gave_since first now last items same it = record {
    answer = it.answer;
    shown = shown_from (state g first) (state g now) (state g last) it.answer same it.shown;
    spelled = it.spelled;
    same = unchanged_then (state g first) (state g now) (state g last) same it.same;
  }

  -- no row is left: those that were given are all
  pub gave_all : (first now last : Held S) (given : List Row) (items : List KeptFacts) → IsUnchanged (state g first) (state g now) → HasGiven g rows_query [] now given
      → GivesRow g now last None → IsUnchanged (state g now) (state g last) → items ≡ map shown_kept given → GivesAll g first last items
  gave_all first now last given items same had ends still is = record {
    answer = given;
    shown = shown_from (state g first) (state g now) (state g last) given same (ends given had);
    spelled = is;
    same = unchanged_then (state g first) (state g now) (state g last) same still;
  }
