-- What a share shows and keeps once its seat made a step.
use Rattle.std.proofs.Common.{◌≡◌, ℕ, ◌+◌, ◌≤◌, List, [], ◌∷◌, ◌++◌, sym, ap, ◌∙◌, subst, arith, Bool, false, Option, Some, None}
use Rattle.std.specs.Prelude.{IsSome}
use Rattle.dbgd_metrics.proofs.Rows.{no_row, place_bound}
use Rattle.dbgd_metrics.proofs.Views.{one_row, row_or_none}
use Rattle.dbgd_metrics.specs.Draws.{GetsRow, TakesRow, SeesNone, FindsNoRow, finds}
use Rattle.dbgd_metrics.specs.Rule.{CountToken, word_at}
use Rattle.dbgd_metrics.specs.Seats.{share_with, HasSeat}
use Rattle.dbgd_metrics.specs.Shares.{ShareFacts}
use Rattle.dbgd_metrics.specs.Columns.{AddUp}
use Rattle.dbgd_metrics.specs.Numbers.{number_of_row, number_place, zeros}
use Rattle.dbgd_metrics.specs.Page.{metrics_text}
use Rattle.dbgd_metrics.specs.Totals.{IsPage, page_loads}
use Rattle.dbgd_metrics.specs.declared.view.Known.{Known}

-- what a share shows after a step on its seat
pub facts_after : (old new : CountToken) (marked : Bool) (known : Known) → new.table_id ≡ old.table_id → new.me ≡ (known, old.me.1)
    → share_with new marked ≡ record (share_with old marked) { row = known.row; numbers = known.numbers; loads = known.loads; drawn = known.drawn }
facts_after old new marked known table me = λ k. record { book = table k; row = (me k).0.row; numbers = (me k).0.numbers; marked = marked; loads = (me k).0.loads; drawn = (me k).0.drawn }

-- a seat that noted loads is still the share's
pub still_seat : (old new : CountToken) (row : Option ℕ) (marked : Bool) → HasSeat old row marked → new.table_id ≡ old.table_id → new.me.1 ≡ old.me.1 → new.me.0.row ≡ old.me.0.row → new.me.0.numbers ≡ old.me.0.numbers
    → HasSeat new row marked
still_seat old new None marked has table slots row numbers = (slots ∙ has.0, has.1 ∙ sym row, (numbers ∙ has.2.0, has.2.1))
still_seat old new (Some own) marked has table slots row numbers =
    let words : new.table_id.words ≡ old.table_id.words = ap (λ id. id.words) table in (slots ∙ has.0, has.1 ∙ sym row, (has.2.0, omega (arith, words, has.2.1)))

-- a seat with a row is still the share's where its numbers changed, marked or not
pub still_rowed : (old new : CountToken) (row : Option ℕ) (marked later : Bool) → IsSome row → HasSeat old row marked → new.table_id ≡ old.table_id → new.me.1 ≡ old.me.1 → new.me.0.row ≡ old.me.0.row → HasSeat new row later
still_rowed old new None marked later there has table slots row = absurd (no_row there)
still_rowed old new (Some own) marked later there has table slots row =
    let words : new.table_id.words ≡ old.table_id.words = ap (λ id. id.words) table in (slots ∙ has.0, has.1 ∙ sym row, (has.2.0, omega (arith, words, has.2.1)))

-- a share without a row has counted nothing
pub nothing_counted : (token : CountToken) (row : Option ℕ) (marked : Bool) → HasSeat token row marked → token.me.0.row ≡ None → (token.me.0.numbers ≡ zeros) × (marked ≡ false)
nothing_counted token None marked has none = has.2
nothing_counted token (Some own) marked has none = absurd (row_or_none (sym has.1) none)

-- a share that drew its row
pub takes_row : {rows row : ℕ} {share : ShareFacts} (old new : CountToken) (marked : Bool) → GetsRow rows old new row → share_with old marked ≡ share → share.numbers ≡ zeros → TakesRow rows share (share_with new marked)
takes_row {rows} {row} {share} old new marked gets shows nothing = record {
  tries = gets.tries;
  free = gets.free;
  row = row;
  below = gets.below;
  behind = let known = ap (λ (s : ShareFacts). s.drawn) shows in omega (arith, gets.behind, known);
  share = facts_after old new marked _ gets.table gets.me ∙ ap (λ (s : ShareFacts). record s { row = Some row; loads = s.loads ++ gets.tries ++ finds row ∷ []; drawn = row + 1 }) shows;
  nothing = ap (λ m. m.0.numbers) gets.me ∙ (ap (λ (s : ShareFacts). s.numbers) shows ∙ nothing);
}

-- a share that found no row left
pub finds_none : {rows : ℕ} {share : ShareFacts} (old new : CountToken) (marked : Bool) → SeesNone rows old new → share_with old marked ≡ share → FindsNoRow rows share (share_with new marked)
finds_none {rows} {share} old new marked sees shows = record {
  tries = sees.tries;
  free = sees.free;
  found = sees.found;
  all = sees.all;
  share = facts_after old new marked _ sees.table sees.me ∙ ap (λ (s : ShareFacts). record s { loads = s.loads ++ sees.tries ++ finds sees.found ∷ [] }) shows;
}

-- the page of the totals that were added up
pub is_page : {rows : ℕ} {share : ShareFacts} {totals text : List ℕ} (old new : CountToken) (row : Option ℕ) (marked : Bool) → AddUp rows 53 old new totals → HasSeat old row marked → IsSome row → old.table_id.words ≡ word_at rows 0
    → share_with old marked ≡ share → text ≡ metrics_text totals → IsPage rows share (share_with new marked) text
is_page {rows} {share} {totals} {text} old new None marked sums has there words shows lines = absurd (no_row there)
is_page {rows} {share} {totals} {text} old new (Some row) marked sums has there words shows lines = record {
  columns = sums.columns;
  loads = record {
    all = sums.all;
    each = sums.each;
    share = facts_after old new marked _ sums.looked.table sums.looked.me ∙ ap (λ (s : ShareFacts). record s { loads = s.loads ++ page_loads 0 sums.columns }) shows;
  };
  own = λ number. subst (λ (ts : List ℕ). number_of_row share.numbers number ≤ number_of_row ts number) sums.values
      (subst (λ (s : ShareFacts). number_of_row s.numbers number ≤ number_of_row totals number) shows (sums.own row (number_place number) (sym has.1) (omega (arith, words, has.2.1)) (place_bound number)));
  exact = λ other number mine.
      let its : old.me.0.row ≡ Some other = ap (λ (s : ShareFacts). s.row) shows ∙ mine in
      let same : other ≡ row = one_row its (sym has.1) in
      sums.exact other (number_place number) its (omega (arith, words, has.2.1, same)) (place_bound number) ∙ ap (λ (s : ShareFacts). number_of_row s.numbers number) shows;
  lines = lines ∙ ap metrics_text sums.values;
}
