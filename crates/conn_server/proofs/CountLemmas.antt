-- What was counted of requests, one after the other.
use Rattle.std.proofs.Common.{◌≡◌, ℕ, Bool, true, false, List, [], ◌∷◌, ◌++◌, map, Option, refl, sym, ◌∙◌, ap, subst, append-nil}
use Rattle.std.specs.Option.{IsSome}
use Rattle.std.proofs.lemmas.Bool.{false≢true}
use Rattle.std.proofs.lemmas.List.{map-append}
use Rattle.dbgd_metrics.specs.Counts.{Counts, numbers_after}
use Rattle.dbgd_metrics.specs.Shares.{BookFacts, ShareFacts}
use Rattle.dbgd_metrics.specs.Totals.{OnlyNotes}
use Rattle.dbgd_metrics.specs.declared.count.Counted.{Counted}
use Rattle.dbgd_metrics.specs.declared.count.Counted.TheVariants.{Done, Full}
use Rattle.dbgd_metrics.specs.declared.view.Load.{Load}
use Rattle.conn_server.specs.Connection.{ExchangesRow, none, more}
use Rattle.conn_server.specs.Tallied.{CountsRequest, HasRowIn, TalliesServed, count_for, numbers_with}
use Rattle.conn_server.specs.Exchange.{Exchange}
use Rattle.conn_server.specs.Stage.{ConnSetting, ConnStage, Wire}
use Rattle.conn_server.specs.declared.report.Served.{Served}

-- nothing was loaded
pub notes_none : (share : ShareFacts) → OnlyNotes share share
notes_none share =
    record { more = []; share = ap (λ (loads : List Load). record share { loads = loads }) (sym (append-nil share.loads)) }

-- a share that noted loads has its row
pub has_row_noted : (book : BookFacts) (old new : ShareFacts) → OnlyNotes old new → HasRowIn book old → HasRowIn book new
has_row_noted book old new notes has = (
  ap (λ (s : ShareFacts). s.book) notes.share ∙ has.0,
  subst (λ (row : Option ℕ). IsSome row) (sym (ap (λ (s : ShareFacts). s.row) notes.share)) has.1,
)

-- loads alone count nothing
pub tallies_notes : (old new : ShareFacts) → OnlyNotes old new → TalliesServed [] old new
tallies_notes old new notes = record {
  book = ap (λ (s : ShareFacts). s.book) notes.share;
  row = ap (λ (s : ShareFacts). s.row) notes.share;
  mark = λ marked. ap (λ (s : ShareFacts). s.marked) notes.share ∙ marked;
  numbers = λ clear. ap (λ (s : ShareFacts). s.numbers) notes.share;
}

-- a count as one of requests
tallies_count : (served : Served) (old new : ShareFacts) (how : Counted) → Counts (count_for served) old new how
    → TalliesServed (served ∷ []) old new
tallies_count served old new Done counts = record {
  book = ap (λ (s : ShareFacts). s.book) counts.1;
  row = ap (λ (s : ShareFacts). s.row) counts.1;
  mark = λ marked. ap (λ (s : ShareFacts). s.marked) counts.1 ∙ marked;
  numbers = λ clear. ap (λ (s : ShareFacts). s.numbers) counts.1;
}
tallies_count served old new Full counts = record {
  book = ap (λ (s : ShareFacts). s.book) counts.1;
  row = ap (λ (s : ShareFacts). s.row) counts.1;
  mark = λ marked. ap (λ (s : ShareFacts). s.marked) counts.1;
  numbers = λ clear. absurd (false≢true (sym clear ∙ ap (λ (s : ShareFacts). s.marked) counts.1));
}

numbers_append : (xs ys : List Served) (numbers : List ℕ) → numbers_with ys (numbers_with xs numbers) ≡ numbers_with (xs ++ ys) numbers
numbers_append [] ys numbers = refl
numbers_append (x ∷ xs) ys numbers = numbers_append xs ys (numbers_after numbers (count_for x))

-- some requests, and then more of them
pub tallies_append : (xs ys : List Served) (a b c : ShareFacts) → TalliesServed xs a b → TalliesServed ys b c → TalliesServed (xs ++ ys) a c
tallies_append xs ys a b c one two = record {
  book = two.book ∙ one.book;
  row = two.row ∙ one.row;
  mark = λ marked. two.mark (one.mark marked);
  numbers = λ clear. by_mark clear b.marked refl;
}
  where
    by_mark : c.marked ≡ false → (m : Bool) → b.marked ≡ m → c.numbers ≡ numbers_with (xs ++ ys) a.numbers
    by_mark clear true e = absurd (false≢true (sym clear ∙ two.mark e))
    by_mark clear false e =
        two.numbers clear
        ∙ (ap (λ (numbers : List ℕ). numbers_with ys numbers) (one.numbers e) ∙ numbers_append xs ys a.numbers)

-- one request
pub tallies_one : (served : Served) (old noted new : ShareFacts) → CountsRequest served old noted new → TalliesServed (served ∷ []) old new
tallies_one served old noted new counts =
    tallies_append [] (served ∷ []) old noted new (tallies_notes old noted counts.notes)
    (tallies_count served noted new counts.counts.0 counts.counts.1)

-- the requests of a row
pub row_tallies : {T : Type 0} {setting : ConnSetting T} {a : ConnStage T} {v : Wire} (xs : List Exchange) (b : ConnStage T) (w : Wire)
    → ExchangesRow setting a v xs b w → TalliesServed (map (λ x. x.served) xs) a.share b.share
row_tallies {T} {setting} {a} {v} xs b w none = tallies_notes a.share a.share (notes_none a.share)
row_tallies {T} {setting} {a} {v} xs b w (more ys c u x d t row is leads moves) =
    subst (λ (told : List Served). TalliesServed told a.share d.share) (sym (map-append (λ (y : Exchange). y.served) ys (x ∷ [])))
    (tallies_append (map (λ y. y.served) ys) (x.served ∷ []) a.share c.share d.share (row_tallies ys c u row)
    (tallies_one x.served c.share x.noted d.share leads.share))

-- the requests of a row, of which this is told, and loads behind them
pub told_tallies : {T : Type 0} {setting : ConnSetting T} {a b : ConnStage T} {v w : Wire} (xs : List Exchange) (told : List Served)
    (last : ShareFacts) → map (λ x. x.served) xs ≡ told → ExchangesRow setting a v xs b w → OnlyNotes b.share last
    → TalliesServed told a.share last
told_tallies {T} {setting} {a} {b} {v} {w} xs told last is row notes =
    subst (λ (served : List Served). TalliesServed served a.share last) (append-nil (map (λ x. x.served) xs) ∙ is)
    (tallies_append (map (λ x. x.served) xs) [] a.share b.share last (row_tallies xs b w row)
    (tallies_notes b.share last notes))
