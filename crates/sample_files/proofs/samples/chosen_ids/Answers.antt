use Rattle.std.proofs.Common.{ℕ, List, Bor}
use Rattle.std.proofs.lemmas.List.Folds.{flat_map-map}
use Rattle.sample_files.specs.declared.shape.Order.TheVariants.{Little}
use Rattle.sample_files.specs.Notes.{zero_padded, note}
use Rattle.sample_files.proofs.samples.chosen_ids.Goals as goal

pub returns : goal.returns
returns c =
    let views =
    flat_map-map (λ (id : List ℕ). zero_padded 4 (note Little id))
    (λ (id : Bor (List ℕ)). id.now) c.args.ids.now in
    rw (
      views,
      ← c.in_ok-notes.ensures.value,
      ← c.deref.ensures.value,
      ← c.notes_at.ensures,
      ← c.text.ensures,
      ← c.shared_object.ensures,
    ) c.plain_layout.ensures
