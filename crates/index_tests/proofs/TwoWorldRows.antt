-- The true rows of the told world of two versions.
use Rattle.std.proofs.Common.{◌≡◌, ◌≤◌, inl, inr, ℕ, List, Err, length, refl, sym, subst, arith}
use Rattle.file_formats.proofs.CoverLaws.{cover-within}
use Rattle.file_formats.proofs.PartLaws.{part-inside}
use Rattle.file_formats.specs.Header.{header_of}
use Rattle.file_formats.specs.Identity.{IsIdentity, refused}
use Rattle.file_formats.specs.Table.{section_table}
use Rattle.file_formats.specs.Windows.{IsSomeWindow}
use Rattle.file_formats.specs.declared.fault.ElfFault.TheVariants.{NotElf}
use Rattle.file_formats.specs.declared.fault.Why.TheVariants.{NotElf as WhyNotElf}
use Rattle.row_types.specs.Reading.{IsTrueRow, ReadsBytes, no_identity}
use Rattle.row_types.specs.Row.{RowFacts}
use Rattle.row_types.specs.Stamp.{StampFacts}
use Rattle.row_types.specs.declared.limits.TheConstants.{EDITION, READ_LIMIT}
use Rattle.row_types.specs.declared.reading.Reading.TheVariants.{Plain}
use Rattle.std.specs.Prelude.{◌⊎◌, codes}
use Rattle.tree_trait.specs.TwoWorld.{IsEither, first_stamp, path, second_stamp}

-- the bytes of neither version begin as an ELF file does
first_is_refused : IsIdentity (codes "x") (Err WhyNotElf)
unfolding section_table header_of
first_is_refused = refused NotElf refl

second_is_refused : IsIdentity (codes "yy") (Err WhyNotElf)
unfolding section_table header_of
second_is_refused = refused NotElf refl

-- no more bytes than may be read are found to be what their identity says
plain : (bytes : List ℕ) → length bytes ≤ READ_LIMIT → IsIdentity bytes (Err WhyNotElf) → ReadsBytes bytes (Plain WhyNotElf)
plain bytes small is =
    no_identity WhyNotElf (cover-within (IsSomeWindow bytes) (length bytes) READ_LIMIT (λ r w. part-inside bytes r (inl w)) small) is

-- the row that says of the version with the stamp that it is no ELF file
row_with : StampFacts → RowFacts
row_with stamp = record { name = record { path = path; stamp = stamp }; edition = EDITION; reading = Plain WhyNotElf }

first_is_true : IsTrueRow IsEither (row_with first_stamp)
unfolding row_with
first_is_true = record {
  edition = refl;
  reading = record {
    bytes = codes "x";
    known = record { placed = refl; one = inl (record { stamped = refl; filled = refl }) };
    reads = plain (codes "x") (omega arith) first_is_refused;
  };
}

second_is_true : IsTrueRow IsEither (row_with second_stamp)
unfolding row_with
second_is_true = record {
  edition = refl;
  reading = record {
    bytes = codes "yy";
    known = record { placed = refl; one = inr (record { stamped = refl; filled = refl }) };
    reads = plain (codes "yy") (omega arith) second_is_refused;
  };
}

-- the row of a version that says that it is no ELF file is true
pub version_is_true : (stamp : StampFacts) → (stamp ≡ first_stamp) ⊎ (stamp ≡ second_stamp) → IsTrueRow IsEither (record { name = record { path = path; stamp = stamp }; edition = EDITION; reading = Plain WhyNotElf })
unfolding row_with
version_is_true stamp (inl e) = subst (λ (s : StampFacts). IsTrueRow IsEither (row_with s)) (sym e) first_is_true
version_is_true stamp (inr e) = subst (λ (s : StampFacts). IsTrueRow IsEither (row_with s)) (sym e) second_is_true
