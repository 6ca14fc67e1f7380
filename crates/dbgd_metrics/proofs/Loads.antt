-- What loads for the totals find and add up, one more at a time.
use Rattle.std.proofs.Common.{◌≡◌, ◌≢◌, ℕ, ◌+◌, ◌<◌, List, [], ◌∷◌, ◌++◌, length, map, get_or, sym, ap, ◌∙◌, subst, arith, append_assoc, length-append}
use Rattle.std.specs.Prelude.{sum}
use Rattle.std.proofs.lemmas.List.{get_or_append_left, length-map}
use Rattle.std.proofs.Math.Seq.{get_or-append_seam}
use Rattle.std.proofs.lemmas.List.Sums.{sum_by-append}
use Rattle.std.proofs.lemmas.List.Elements.{All-append, All-cons, All-nil}
use mathlib.Core.List.{map-append, append-nil}
use mathlib.Core.Option.{none}
use mathlib.Core.Logic.{dite}
use native.Mathlib.Decide.{ℕ_discrete}
use Rattle.atomic_table.specs.Table.{step}
use Rattle.dbgd_metrics.specs.Columns.{AddsUp, AddUp}
use Rattle.dbgd_metrics.specs.Rule.{CountToken, Looked, known_after, noticed, word_at}
use Rattle.dbgd_metrics.specs.Totals.{column_loads, page_loads}
use Rattle.dbgd_metrics.specs.declared.view.Load.{Load}

-- one more load, in the next row
column_more : (place row : ℕ) (column : List ℕ) (n : ℕ) → column_loads place row (column ++ n ∷ []) ≡ column_loads place row column ++ record { word = word_at (row + length column) place; found = n } ∷ []
column_more place row [] n = ap (λ (r : ℕ). record { word = word_at r place; found = n } ∷ []) (omega arith)
column_more place row (m ∷ column) n =
    ap (λ (loads : List Load). record { word = word_at row place; found = m } ∷ loads)
    (column_more place (row + 1) column n ∙ ap (λ (r : ℕ). column_loads place (row + 1) column ++ record { word = word_at r place; found = n } ∷ []) (omega arith))

-- one more column, of the next number
page_more : (place : ℕ) (columns : List (List ℕ)) (column : List ℕ) → page_loads place (columns ++ column ∷ []) ≡ page_loads place columns ++ column_loads (place + length columns) 0 column
page_more place [] column = append-nil (column_loads place 0 column) ∙ ap (λ (p : ℕ). column_loads p 0 column) (omega arith)
page_more place (first ∷ columns) column =
    ap (λ (loads : List Load). column_loads place 0 first ++ loads)
    (page_more (place + 1) columns column ∙ ap (λ (p : ℕ). page_loads (place + 1) columns ++ column_loads p 0 column) (omega arith))
    ∙ sym (append_assoc (column_loads place 0 first) (page_loads (place + 1) columns) (column_loads (place + length (first ∷ columns)) 0 column))

-- loads after others
pub looked_more : {a b c : CountToken} (xs ys : List Load) → Looked a b xs → c.table_id ≡ b.table_id → c.me ≡ (known_after b.me.0 ys, b.me.1) → Looked a c (xs ++ ys)
looked_more {a} {b} {c} xs ys p table me = record {
  table = table ∙ p.table;
  me = me ∙ (ap (λ m. (known_after m.0 ys, m.1)) p.me ∙ ap (λ (loads : List Load). (record a.me.0 { loads = loads }, a.me.1)) (append_assoc a.me.0.loads xs ys));
}

-- the sum of one more
sum_more : (xs : List ℕ) (n : ℕ) → sum (xs ++ n ∷ []) ≡ sum xs + n
sum_more xs n = omega (arith, sum_by-append (λ (x : ℕ). x) xs (n ∷ []))

-- the next row is added up
pub adds_up_more : {rows place total found word : ℕ} {first before after : CountToken} → AddsUp rows place first before total → place < 53 → word ≡ word_at rows place
    → after.table_id ≡ before.table_id → noticed (step 0 word 0 0 none) before.me found after.me → AddsUp (rows + 1) place first after (total + found)
adds_up_more {rows} {place} {total} {found} {word} {first} {before} {after} sums small is table told =
    let loads = column_more place 0 sums.column found in
    let next : ◌≡◌ {A = Load} (record { word = word_at (0 + length sums.column) place; found = found }) (record { word = word; found = found }) =
    ap (λ (w : ℕ). record { word = w; found = found }) (omega (arith, sums.each, is)) in record {
      column = sums.column ++ found ∷ [];
      each = length-append sums.column (found ∷ []) ∙ ap (λ (n : ℕ). n + 1) sums.each;
      looked = subst (Looked first after) (sym (loads ∙ ap (λ (load : Load). column_loads place 0 sums.column ++ load ∷ []) next)) (looked_more (column_loads place 0 sums.column) _ sums.looked table told.0);
      value = ap (λ (n : ℕ). n + found) sums.value ∙ sym (sum_more sums.column found);
      own = λ row mine less. dite (ℕ_discrete row rows)
          (λ (e : row ≡ rows). let it : found ≡ get_or first.me.0.numbers place 0 =
          told.1 row place (ap (λ m. m.0.row) sums.looked.me ∙ mine) small (is ∙ ap (λ (r : ℕ). word_at r place) (sym e)) ∙ ap (λ m. get_or m.0.numbers place 0) sums.looked.me in omega (arith, it))
          (λ (n : row ≢ rows). let it = sums.own row mine (omega (arith, n, less)) in omega (arith, it));
      exact = λ row mine less. dite (ℕ_discrete row rows)
          (λ (e : row ≡ rows). let it : found ≡ get_or first.me.0.numbers place 0 =
          told.1 row place (ap (λ m. m.0.row) sums.looked.me ∙ mine) small (is ∙ ap (λ (r : ℕ). word_at r place) (sym e)) ∙ ap (λ m. get_or m.0.numbers place 0) sums.looked.me in
          ap (λ (p : ℕ). get_or (sums.column ++ found ∷ []) p 0) (e ∙ sym sums.each) ∙ get_or-append_seam sums.column found [] 0 ∙ it)
          (λ (n : row ≢ rows). get_or_append_left sums.column (found ∷ []) 0 row (omega (arith, sums.each, less, n)) ∙ sums.exact row mine (omega (arith, n, less)));
    }

-- the next number is added up
pub add_up_more : {rows places total : ℕ} {totals : List ℕ} {first before after : CountToken} → AddUp rows places first before totals → AddsUp rows places before after total → AddUp rows (places + 1) first after (totals ++ total ∷ [])
add_up_more {rows} {places} {total} {totals} {first} {before} {after} all one =
    let many : length totals ≡ places = ap length all.values ∙ (length-map all.columns sum ∙ all.all) in
    let here : 0 + length all.columns ≡ places = omega (arith, all.all) in record {
      columns = all.columns ++ one.column ∷ [];
      all = length-append all.columns (one.column ∷ []) ∙ ap (λ (n : ℕ). n + 1) all.all;
      each = All-append (λ (column : List ℕ). length column ≡ rows) all.columns (one.column ∷ []) all.each (All-cons (λ (column : List ℕ). length column ≡ rows) one.column [] one.each (All-nil (λ (column : List ℕ). length column ≡ rows)));
      looked = subst (Looked first after) (sym (page_more 0 all.columns one.column ∙ ap (λ (p : ℕ). page_loads 0 all.columns ++ column_loads p 0 one.column) here)) (looked_more (page_loads 0 all.columns) _ all.looked one.looked.table one.looked.me);
      values = ap (λ (ts : List ℕ). ts ++ total ∷ []) all.values ∙ (ap (λ (n : ℕ). map sum all.columns ++ n ∷ []) one.value ∙ sym (map-append sum all.columns (one.column ∷ [])));
      own = λ row place mine within less. dite (ℕ_discrete place places)
          (λ (e : place ≡ places). let it = one.own row (ap (λ m. m.0.row) all.looked.me ∙ mine) within in let same : get_or before.me.0.numbers places 0 ≡ get_or first.me.0.numbers place 0 = ap (λ m. get_or m.0.numbers places 0) all.looked.me ∙ ap (λ (p : ℕ). get_or first.me.0.numbers p 0) (sym e) in
          let last : get_or (totals ++ total ∷ []) place 0 ≡ total = ap (λ (p : ℕ). get_or (totals ++ total ∷ []) p 0) (e ∙ sym many) ∙ get_or-append_seam totals total [] 0 in omega (arith, it, same, last))
          (λ (n : place ≢ places). let it = all.own row place mine within (omega (arith, n, less)) in
          let kept : get_or (totals ++ total ∷ []) place 0 ≡ get_or totals place 0 = get_or_append_left totals (total ∷ []) 0 place (omega (arith, many, less, n)) in omega (arith, it, kept));
      exact = λ row place mine within less. dite (ℕ_discrete place places)
          (λ (e : place ≡ places).
          let its : get_or (all.columns ++ one.column ∷ []) place [] ≡ one.column = ap (λ (p : ℕ). get_or (all.columns ++ one.column ∷ []) p []) (e ∙ sym all.all) ∙ get_or-append_seam all.columns one.column [] [] in
          ap (λ (column : List ℕ). get_or column row 0) its ∙ one.exact row (ap (λ m. m.0.row) all.looked.me ∙ mine) within
          ∙ (ap (λ m. get_or m.0.numbers places 0) all.looked.me ∙ ap (λ (p : ℕ). get_or first.me.0.numbers p 0) (sym e)))
          (λ (n : place ≢ places).
          ap (λ (column : List ℕ). get_or column row 0) (get_or_append_left all.columns (one.column ∷ []) [] place (omega (arith, all.all, less, n)))
          ∙ all.exact row place mine within (omega (arith, n, less)));
    }
