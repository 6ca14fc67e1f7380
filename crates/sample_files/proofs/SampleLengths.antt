-- The samples' lengths, as the definitions give them.
use Rattle.std.proofs.Common.{◌≡◌, [], ◌∷◌, length, map, refl}
use Rattle.sample_files.specs.Fields.{spelled}
use Rattle.sample_files.specs.Layout.{plain_layout}
use Rattle.sample_files.specs.Samples.{both_classes, big_endian_debug, eight_aligned_notes, narrow_eight_aligned_notes, extended_counts, narrow_extended_counts, dwarf_five, dwarf_four, executable, debug_companion, null_debug}

pub length-samples : map length (
    both_classes ∷ big_endian_debug ∷ eight_aligned_notes ∷ narrow_eight_aligned_notes
    ∷ extended_counts ∷ narrow_extended_counts ∷ dwarf_five ∷ dwarf_four ∷ executable ∷ debug_companion
    ∷ null_debug ∷ [])
    ≡ 488 ∷ 324 ∷ 408 ∷ 296 ∷ 488 ∷ 324 ∷ 1016 ∷ 728 ∷ 408 ∷ 584 ∷ 400 ∷ []
unfolding spelled plain_layout
length-samples = refl
