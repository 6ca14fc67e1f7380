-- The sample files, each as its sections in the plain layout (this project's files).
use Rattle.std.specs.Prelude.{ℕ, ◌+◌, List, [], ◌∷◌, ◌++◌, replicate, codes}
use Rattle.sample_files.specs.declared.codes.TheConstants.{ET_DYN, ET_EXEC, EM_X86_64, EM_PPC, SHT_NOTE, SHT_NULL, SHT_PROGBITS, SHF_ALLOC, SHF_EXECINSTR, SHF_COMPRESSED, NT_GNU_PROPERTY_TYPE_0}
use Rattle.sample_files.specs.declared.shape.Shape.{Shape}
use Rattle.sample_files.specs.declared.shape.Order.{Order}
use Rattle.sample_files.specs.declared.shape.Order.TheVariants.{Little, Big}
use Rattle.sample_files.specs.declared.shape.Class.TheVariants.{Elf32, Elf64}
use Rattle.sample_files.specs.declared.shape.Counts.{Counts}
use Rattle.sample_files.specs.declared.shape.Counts.TheVariants.{Plain, Extended}
use Rattle.sample_files.specs.declared.samples.TheConstants.{ID_A, ID_B, ID_BIG, ID_C}
use Rattle.sample_files.specs.declared.debug_bytes.TheConstants.{DEBUG_ABBREV, DEBUG_INFO, DEBUG_LINE, DEBUG_LINE_STR, DEBUG_STR_OFFSETS}
use Rattle.sample_files.specs.declared.version_four.TheConstants.{FOUR_ABBREV, FOUR_INFO, FOUR_LINE}
use Rattle.sample_files.specs.Parts.{Part, section, section_without_bytes}
use Rattle.sample_files.specs.Layout.{plain_layout}
use Rattle.sample_files.specs.Notes.{gnu_note, note, zero_padded, padded_notes}

-- ---- headers

-- a shared object of x86-64
abbrev pub shared_object : Counts → Shape
shared_object counts =
    record
    { class = Elf64; order = Little; e_type = ET_DYN; e_machine = EM_X86_64; counts = counts }

-- a program of 32-bit PowerPC
abbrev pub big_program : Counts → Shape
big_program counts =
    record { class = Elf32; order = Big; e_type = ET_EXEC; e_machine = EM_PPC; counts = counts }

-- ---- sections

-- the section of a build-id's note
abbrev pub build_id_part : Order → List ℕ → Part
build_id_part order id = section (codes ".note.gnu.build-id") SHT_NOTE SHF_ALLOC 4 (note order id)

-- .note with notes at an alignment
abbrev pub notes_part : ℕ → List ℕ → Part
notes_part alignment notes = section (codes ".note") SHT_NOTE SHF_ALLOC alignment notes

-- .text with one instruction and these flags
abbrev pub flagged_part : ℕ → Part
flagged_part flags = section (codes ".text") SHT_PROGBITS flags 16 (0xc3 ∷ [])

-- .text as a program has it
abbrev pub text_part : Part
text_part = flagged_part (SHF_ALLOC + SHF_EXECINSTR)

-- .text without its bytes
abbrev pub bare_text_part : ℕ → ℕ → Part
bare_text_part alignment size =
    section_without_bytes (codes ".text") (SHF_ALLOC + SHF_EXECINSTR) alignment size

-- a debug section
abbrev pub debug_part : List ℕ → List ℕ → Part
debug_part name contents = section name SHT_PROGBITS 0 1 contents

-- .debug_info, empty
abbrev pub empty_info_part : Part
empty_info_part = debug_part (codes ".debug_info") []

-- a section of type NULL with a byte, under a debug section's name
abbrev pub null_part : Part
null_part = section (codes ".debug_x") SHT_NULL 0 1 (1 ∷ [])

-- ---- files

-- sample of both classes, its counts in its header or in section 0
abbrev pub both_classes_counted : Counts → List ℕ
both_classes_counted counts =
    plain_layout
    (shared_object counts) (build_id_part Little ID_A ∷ text_part ∷ empty_info_part ∷ [])

-- sample of both classes
abbrev pub both_classes : List ℕ
both_classes = both_classes_counted Plain

-- sample 32-bit big-endian debug file, its counts in its header or in section 0
abbrev pub big_endian_debug_counted : Counts → List ℕ
big_endian_debug_counted counts =
    plain_layout
    (big_program counts) (build_id_part Big ID_BIG ∷ bare_text_part 4 64 ∷ empty_info_part ∷ [])

-- sample 32-bit big-endian debug file; its id is a0 to a7
abbrev pub big_endian_debug : List ℕ
big_endian_debug = big_endian_debug_counted Plain

-- 8-aligned notes: one of another type, and a build-id's of three bytes without padding
abbrev pub wide_notes : Order → List ℕ
wide_notes order =
    zero_padded 8 (gnu_note order NT_GNU_PROPERTY_TYPE_0 (replicate 12 0))
    ++ note order (0xab ∷ 0xcd ∷ 0xef ∷ [])

-- a file with 8-aligned notes, under a header
abbrev pub eight_aligned_under : Shape → List ℕ
eight_aligned_under shape =
    plain_layout shape (notes_part 8 (wide_notes shape.order) ∷ text_part ∷ [])

-- sample with 8-aligned notes
abbrev pub eight_aligned_notes : List ℕ
eight_aligned_notes = eight_aligned_under (shared_object Plain)

-- sample 32-bit file with 8-aligned notes
abbrev pub narrow_eight_aligned_notes : List ℕ
narrow_eight_aligned_notes = eight_aligned_under (big_program Plain)

-- sample with extended counts
abbrev pub extended_counts : List ℕ
extended_counts = both_classes_counted Extended

-- sample 32-bit file with extended counts
abbrev pub narrow_extended_counts : List ℕ
narrow_extended_counts = big_endian_debug_counted Extended

-- sample with code of chosen flags
abbrev pub code_of_flags : ℕ → List ℕ
code_of_flags flags =
    plain_layout (shared_object Plain) (build_id_part Little ID_C ∷ flagged_part flags ∷ [])

-- sample with bytes under a debug section's name, in a section of type NULL
abbrev pub null_debug : List ℕ
null_debug =
    plain_layout (shared_object Plain) (build_id_part Little ID_C ∷ null_part ∷ [])

-- sample with chosen ids
abbrev pub chosen_ids : List (List ℕ) → List ℕ
chosen_ids ids =
    plain_layout (shared_object Plain) (notes_part 4 (padded_notes Little ids) ∷ text_part ∷ [])

-- sample with DWARF 5, of an id and the unit's folder
abbrev pub dwarf_five_of : List ℕ → List ℕ → List ℕ
dwarf_five_of id folder =
    plain_layout (shared_object Plain)
    (build_id_part Little id ∷ text_part
    ∷ debug_part (codes ".debug_abbrev") DEBUG_ABBREV
    ∷ debug_part (codes ".debug_info") DEBUG_INFO
    ∷ debug_part (codes ".debug_line") DEBUG_LINE
    ∷ debug_part (codes ".debug_str") (folder ++ 0 ∷ [])
    ∷ debug_part (codes ".debug_line_str") DEBUG_LINE_STR
    ∷ debug_part (codes ".debug_str_offsets") DEBUG_STR_OFFSETS ∷ [])

-- sample with DWARF 5
abbrev pub dwarf_five : List ℕ
dwarf_five = dwarf_five_of ID_B (codes "/w/src")

-- sample with DWARF 4
abbrev pub dwarf_four : List ℕ
dwarf_four =
    plain_layout (shared_object Plain)
    (build_id_part Little ID_B ∷ text_part
    ∷ debug_part (codes ".debug_abbrev") FOUR_ABBREV
    ∷ debug_part (codes ".debug_info") FOUR_INFO
    ∷ debug_part (codes ".debug_line") FOUR_LINE ∷ [])

-- sample executable, of an id
abbrev pub executable_of : List ℕ → List ℕ
executable_of id = plain_layout (shared_object Plain) (build_id_part Little id ∷ text_part ∷ [])

-- sample executable
abbrev pub executable : List ℕ
executable = executable_of ID_C

-- sample debug companion, of an id
abbrev pub debug_companion_of : List ℕ → List ℕ
debug_companion_of id =
    plain_layout (shared_object Plain)
    (build_id_part Little id ∷ bare_text_part 16 1 ∷ empty_info_part
    ∷ section (codes ".debug_zz") SHT_PROGBITS SHF_COMPRESSED 1 (replicate 24 0) ∷ [])

-- sample debug companion
abbrev pub debug_companion : List ℕ
debug_companion = debug_companion_of ID_C
