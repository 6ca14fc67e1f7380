-- Notes (ELF gABI, chapter 5, "Note Section"; where a note is padded is this project's rule).
use Rattle.std.specs.Prelude.{ℕ, List, [], ◌∷◌, ◌++◌, length, replicate, codes}
use Rattle.std.specs.List.{flat_map}
use Rattle.std.specs.Int.{w32}
use Rattle.sample_files.specs.declared.codes.TheConstants.{NT_GNU_BUILD_ID}
use Rattle.sample_files.specs.declared.shape.Order.{Order}
use Rattle.sample_files.specs.Fields.{spelled}
use Rattle.sample_files.specs.Layout.{padding}

-- a note under the name GNU: namesz, descsz and type, the name with its 0, the descriptor
abbrev pub gnu_note : Order → ℕ → List ℕ → List ℕ
gnu_note order kind descriptor =
    spelled order w32 4 ++ spelled order w32 (length descriptor) ++ spelled order w32 kind
    ++ codes "GNU" ++ 0 ∷ [] ++ descriptor

-- the note of a build-id
abbrev pub note : Order → List ℕ → List ℕ
note order id = gnu_note order NT_GNU_BUILD_ID id

-- bytes with zeros behind them up to a multiple of an alignment
abbrev pub zero_padded : ℕ → List ℕ → List ℕ
zero_padded alignment bytes = bytes ++ replicate (padding alignment (length bytes)) 0

-- the notes of build-ids, each padded to a multiple of 4
abbrev pub padded_notes : Order → List (List ℕ) → List ℕ
padded_notes order ids = flat_map (λ id. zero_padded 4 (note order id)) ids
