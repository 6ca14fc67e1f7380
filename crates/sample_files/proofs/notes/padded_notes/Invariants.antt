use Rattle.std.proofs.Common.{◌≡◌, take}
use Rattle.std.specs.List.{flat_map}
use Rattle.sample_files.specs.Notes.{zero_padded, note}
use Rattle.sample_files.proofs.notes.padded_notes.Given as goal

abbrev pub invariant-loop-id : goal.invariant-loop-id
invariant-loop-id l =
    l.bytes.items ≡ flat_map (λ id. zero_padded 4 (note l.order id.now)) (take l.id-index l.ids)
