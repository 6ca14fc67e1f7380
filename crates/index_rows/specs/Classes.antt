-- What rows are looked up by (this project's rule): a build-id, a kind of file, and a source.
use Rattle.std.specs.Prelude.{ℕ, ◌&&◌, Bool, false, List}
use Rattle.std.specs.List.{list_any}
use Rattle.std.specs.Str.{bytes_eq}
use Rattle.file_formats.specs.Identity.{Identity}
use Rattle.row_types.specs.declared.identity.Kind.{Kind}
use Rattle.row_types.specs.declared.identity.Kind.TheVariants.{Executable, Debuginfo}
use Rattle.row_types.specs.declared.reading.Reading.{Reading}
use Rattle.row_types.specs.declared.reading.Reading.TheVariants.{Plain, Elf}

-- whether a file with the identity is of the kind; it may be of both
abbrev pub is_of_kind : Kind → Identity → Bool
is_of_kind Executable ident = ident.exec
is_of_kind Debuginfo ident = ident.debug

-- whether the file has the id
abbrev pub has_id : List ℕ → Reading → Bool
has_id id (Plain why) = false
has_id id (Elf ident sources) = bytes_eq ident.id id

-- whether the file has the id and is of the kind
abbrev pub has_class : List ℕ → Kind → Reading → Bool
has_class id kind (Plain why) = false
has_class id kind (Elf ident sources) = bytes_eq ident.id id && is_of_kind kind ident

-- whether the file has the id and was made from the source
abbrev pub lists_source : List ℕ → List ℕ → Reading → Bool
lists_source id path (Plain why) = false
lists_source id path (Elf ident sources) = bytes_eq ident.id id && list_any (λ source. bytes_eq source path) sources
