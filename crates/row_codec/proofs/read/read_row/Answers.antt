-- What is read is a row exactly where the bytes are its row bytes.
use Rattle.std.proofs.Common.{◌≡◌, ◌⊎◌, inl, inr, ℕ, List, sym, ◌∙◌, ap, arith}
use Rattle.std.specs.Prelude.{Result, Ok, Err, IfOk, MatchResult}
use Rattle.row_types.specs.Row.{RowFacts}
use Rattle.row_codec.specs.Read.{row_of_bytes}
use Rattle.row_codec.specs.Reads.{RefusesRowBytes}
use Rattle.row_codec.specs.RowBytes.{IsRowBytes}
use Rattle.row_codec.specs.declared.fault.CodecFault.{CodecFault}
use Rattle.row_codec.specs.declared.fault.CodecFault.TheVariants.{OutOfMemory}
use Rattle.row_codec.proofs.Fronts.{AreBytes}
use Rattle.row_codec.proofs.OneSpelling.{row_read, row_written}
use Rattle.row_codec.proofs.read.read_row.Goals as goal

abbrev Read : List ℕ → Result RowFacts CodecFault → Type 0
Read bytes result = MatchResult result (λ row. row_of_bytes bytes ≡ Ok row) (RefusesRowBytes bytes)

is_row : (bytes : List ℕ) (result : Result RowFacts CodecFault) → AreBytes bytes → Read bytes result → IfOk result (λ row. IsRowBytes row bytes)
is_row bytes (Ok row) h read = row_written row bytes h read
is_row bytes (Err fault) h read = tt

is_exact : (bytes : List ℕ) (result : Result RowFacts CodecFault) (row : RowFacts) → Read bytes result → IsRowBytes row bytes → (result ≡ Ok row) ⊎ (result ≡ Err OutOfMemory)
is_exact bytes (Ok other) row read spelled = inl (sym read ∙ row_read row bytes spelled)
is_exact bytes (Err fault) row (inl e) spelled =
    let both : Err fault ≡ Ok row = sym e ∙ row_read row bytes spelled in
    let none : ⊥ = cc in absurd none
is_exact bytes (Err fault) row (inr none) spelled = inr (ap (λ (f : CodecFault). Err f) none.0)

pub returns-clause-ok : goal.returns-clause-ok
returns-clause-ok c = is_row c.args.bytes.now c.read_parts.result (λ i. omega (arith, c.type_inv.bytes i)) c.read_parts.ensures

pub returns-clause-exact : goal.returns-clause-exact
returns-clause-exact c = λ row spelled. is_exact c.args.bytes.now c.read_parts.result row c.read_parts.ensures spelled
