-- The text of a path, which its copies may share (this project's rule).
use Rattle.std.specs.Prelude.{ℕ, List}
use Rattle.std.specs.String.{string_bytes}
use Rattle.std.specs.Arc.{arc_str_bytes}
use Rattle.row_types.specs.declared.path.Text.{Text}
use Rattle.row_types.specs.declared.path.Text.TheVariants.{Own, Shared}

-- its bytes
abbrev pub text_bytes : Text → List ℕ
text_bytes (Own text) = string_bytes text
text_bytes (Shared text) = arc_str_bytes text
