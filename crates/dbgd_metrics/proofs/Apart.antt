-- Shares that know of one another's rows draw different rows.
use Rattle.std.proofs.Common.{◌≡◌, ℕ, ◌<◌, ◌≤◌, Some, ap, sym, ◌∙◌, arith}
use Rattle.dbgd_metrics.specs.Draws.{DrawsApart, TakesRow}
use Rattle.dbgd_metrics.specs.Shares.{ShareFacts}
use Rattle.dbgd_metrics.proofs.Views.{one_row}

-- the row that was taken
row_taken : {rows : ℕ} {old new : ShareFacts} {row : ℕ} (t : TakesRow rows old new) → new.row ≡ Some row → t.row ≡ row
row_taken t is = one_row (ap (λ (s : ShareFacts). s.row) t.share) is

draws_behind : (rows : ℕ) (one old new : ShareFacts) (row next : ℕ) → one.row ≡ Some row → row < one.drawn → one.drawn ≤ old.drawn
    → TakesRow rows old new → new.row ≡ Some next → row < next
draws_behind rows one old new row next mine known more t is = let same = row_taken t is in omega (arith, known, more, t.behind, same)

knows_its_row : (rows : ℕ) (old new : ShareFacts) (row : ℕ) → TakesRow rows old new → new.row ≡ Some row → row < new.drawn
knows_its_row rows old new row t is =
    let same = row_taken t is in let drawn = ap (λ (s : ShareFacts). s.drawn) t.share in omega (arith, same, drawn)

pub draws_apart : DrawsApart
draws_apart = record {
  behind = draws_behind;
  knows = knows_its_row;
  two = λ rows share drawn_one first second new row next t split u mine is.
      let same : drawn_one.row ≡ Some row = ap (λ (s : ShareFacts). s.row) (sym split.0) ∙ mine in
      let more = split.3 in
      draws_behind rows drawn_one second new row next same (knows_its_row rows share drawn_one row t same) (omega (arith, more)) u is;
}
