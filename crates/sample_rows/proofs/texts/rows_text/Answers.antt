-- One more row adds the text of its name.
use Rattle.std.proofs.Common.{List, ℕ, [], ◌∷◌, ◌++◌, sym, ◌∙◌, ap}
use Rattle.std.specs.Borrow.{Bor}
use Rattle.std.specs.List.{flat_map}
use Rattle.std.proofs.lemmas.Grind.{flat_map-append}
use Rattle.std.proofs.lemmas.List.{append-nil}
use Rattle.std.specs.String.{string_bytes}
use Rattle.row_types.specs.Row.{RowFacts}
use Rattle.sample_rows.specs.Names.{name_text}
use Rattle.sample_rows.specs.Rows.{names_text}
use Rattle.sample_rows.proofs.texts.rows_text.Goals as goal

pub loop-row-init : goal.loop-row-init
unfolding names_text
loop-row-init g c = c.new-text.ensures.bytes

pub loop-row-preserved : goal.loop-row-preserved
unfolding names_text
loop-row-preserved g c =
    let text : Bor RowFacts → List ℕ = λ row. name_text row.now.name in
    c.in_ok-add_name.ensures ∙ ap (λ (r : RowFacts). string_bytes c.loop-row.text ++ name_text r.name) c.row.view_is ∙ ap (λ (xs : List ℕ). xs ++ text c.in-Some.row) c.loop-row.invariant
    ∙ sym (flat_map-append text c.loop-row.yielded (c.in-Some.row ∷ []) ∙ ap (λ (xs : List ℕ). flat_map text c.loop-row.yielded ++ xs) (append-nil (text c.in-Some.row)))
