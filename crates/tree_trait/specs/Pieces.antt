-- A piece of a path, as an entry (this crate's bookkeeping, which no public clause cites).
use Rattle.tree_trait.specs.Entry.{EntryFacts}
use Rattle.tree_trait.specs.declared.folder.Piece.{Piece}

-- the piece's name and kind
abbrev pub entry_piece : Piece → EntryFacts
entry_piece piece = record { name = piece.name.now; kind = piece.kind }
