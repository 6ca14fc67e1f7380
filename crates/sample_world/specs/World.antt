-- The laws of the sample world (this project's example): a path and a time name one sample.
use Rattle.std.proofs.Common.{◌≡◌, sym, ◌∙◌, ap, refl, ℕ, List, ◌∷◌, length, Option, Some, ◌&&◌}
use Rattle.std.specs.Prelude.{ℤ}
use Rattle.std.specs.List.{find}
use Rattle.std.specs.Option.{option_map_or}
use Rattle.std.specs.Ordering.{int_eq}
use Rattle.std.specs.Str.{bytes_eq}
use Rattle.file_formats.proofs.IdentityLemmas.{identity-unique}
use Rattle.row_types.proofs.TrueRowLemmas.{true_rows_same}
use Rattle.row_types.specs.Reading.{IsTrueRow}
use Rattle.row_types.specs.Row.{RowFacts}
use Rattle.row_types.specs.Stamp.{StampFacts}
use Rattle.sample_world.specs.Samples.{sample_path, sample_secs, sample_bytes, IsSample}
use Rattle.sample_world.specs.declared.sample.TheConstants.{REFERENCE_TREE}
use Rattle.sample_world.specs.declared.sample.Sample.{Sample}
use Rattle.sample_world.specs.declared.sample.Sample.TheVariants.{Empty}
use Rattle.sample_world.specs.declared.sample.Sample.TheVariants.{Before}
use Rattle.sample_world.specs.declared.sample.Sample.TheVariants.{After}

-- all samples
abbrev samples : List Sample
samples = Before ∷ After ∷ REFERENCE_TREE

-- the sample of a path and a time
abbrev sample_at : List ℕ → ℤ → Option Sample
sample_at path secs = find
    (λ sample. bytes_eq (sample_path sample) path && int_eq (sample_secs sample) secs) samples

-- a sample is the one of its path and its time
at_its_place : (sample : Sample) → sample_at (sample_path sample) (sample_secs sample) ≡ Some sample
at_its_place Empty = refl
at_its_place _ = refl

-- samples of one path and one time are one
same_sample : (a b : Sample) → sample_path a ≡ sample_path b → sample_secs a ≡ sample_secs b → a ≡ b
same_sample a b path secs =
    let at : sample_at (sample_path a) (sample_secs a) ≡ sample_at (sample_path b) (sample_secs b) =
    ap (λ p. sample_at p (sample_secs a)) path ∙ ap (sample_at (sample_path b)) secs in
    let some : Some a ≡ Some b = sym (at_its_place a) ∙ at ∙ at_its_place b in
    ap (λ found. option_map_or (λ sample. sample) found a) some

-- a path and a stamp name at most one content
pub one_content : (path : List ℕ) (stamp : StampFacts) (a b : List ℕ) → IsSample path stamp a
    → IsSample path stamp b → a ≡ b
one_content path stamp a b p q =
    let placed : sample_path p.sample ≡ sample_path q.sample = sym p.placed ∙ q.placed in
    let timed : sample_secs p.sample ≡ sample_secs q.sample = ap (λ s. s.secs) (sym p.stamped ∙ q.stamped) in
    let same : p.sample ≡ q.sample = same_sample p.sample q.sample placed timed in
    p.filled ∙ ap sample_bytes same ∙ sym q.filled

-- a sample has as many bytes as its stamp says
pub sample_sized : (path : List ℕ) (stamp : StampFacts) (bytes : List ℕ) → IsSample path stamp bytes
    → length bytes ≡ stamp.size
sample_sized path stamp bytes p = ap length p.filled ∙ ap (λ (s : StampFacts). s.size) (sym p.stamped)

-- a name has at most one true row
pub one_sample_row : (a b : RowFacts) → a.name ≡ b.name → IsTrueRow IsSample a → IsTrueRow IsSample b → a ≡ b
one_sample_row = true_rows_same IsSample (λ path stamp bytes known. identity-unique bytes) one_content
