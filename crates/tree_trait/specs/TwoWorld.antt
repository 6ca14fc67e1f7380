-- A told world of one path with two versions, which their sizes tell apart (this project's example). The lemmas stand here, and
-- without a tactic, since the laws of the world cite them, and these may cite nothing of the `proofs/` of their own crate.
use Rattle.std.specs.Prelude.{◌≡◌, ℕ, ◌==◌, pos, ◌⊎◌, List, codes, length, true, Result, Err, refl}
use Rattle.std.proofs.Common.{sym, ◌∙◌, ap, subst, inl, inr}
use Rattle.std.proofs.lemmas.Bool.{false≢true}
use Rattle.file_formats.specs.Header.{header_of}
use Rattle.file_formats.specs.Identity.{Identity, IsIdentity}
use Rattle.file_formats.specs.Table.{section_table}
use Rattle.file_formats.specs.declared.fault.ElfFault.TheVariants.{NotElf}
use Rattle.file_formats.specs.declared.fault.Why.{Why}
use Rattle.file_formats.specs.declared.fault.Why.TheVariants.{NotElf as WhyNotElf}
use Rattle.row_types.specs.Reading.{IsTrueRow}
use Rattle.row_types.specs.Row.{RowFacts}
use Rattle.row_types.specs.Stamp.{StampFacts}
use Rattle.row_types.proofs.TrueRowLemmas.{refused_is_one, true_rows_same}

-- the path of both versions
abbrev pub path : List ℕ
path = codes "/w/a"

-- the first version's stamp, of one byte
abbrev pub first_stamp : StampFacts
first_stamp = record { size = 1; secs = pos 1; nanos = 0 }

-- the second version's stamp, of two bytes
abbrev pub second_stamp : StampFacts
second_stamp = record { size = 2; secs = pos 2; nanos = 0 }

-- the bytes of a version
pub record IsOne (at : StampFacts) (content : List ℕ) (stamp : StampFacts) (bytes : List ℕ) : Type 0 where
  pub stamped : stamp ≡ at
  pub filled : bytes ≡ content

-- the file is one of the two versions
pub record IsEither (asked : List ℕ) (stamp : StampFacts) (bytes : List ℕ) : Type 0 where
  pub placed : asked ≡ path
  pub one : IsOne first_stamp (codes "x") stamp bytes ⊎ IsOne second_stamp (codes "yy") stamp bytes

-- no stamp is both
apart : (stamp : StampFacts) → stamp ≡ first_stamp → stamp ≡ second_stamp → ⊥
apart stamp p q = false≢true (ap (λ (s : StampFacts). s.size == 2) (sym p ∙ q))

-- the stamp tells the bytes
same_bytes : (stamp : StampFacts)
    (a b : List ℕ) → IsOne first_stamp (codes "x") stamp a ⊎ IsOne second_stamp (codes "yy") stamp a
    → IsOne first_stamp (codes "x") stamp b ⊎ IsOne second_stamp (codes "yy") stamp b → a ≡ b
same_bytes stamp a b (inl p) (inl q) = p.filled ∙ sym q.filled
same_bytes stamp a b (inl p) (inr q) = absurd (apart stamp p.stamped q.stamped)
same_bytes stamp a b (inr p) (inl q) = absurd (apart stamp q.stamped p.stamped)
same_bytes stamp a b (inr p) (inr q) = p.filled ∙ sym q.filled

-- a name has at most one content
pub either_is_one : true ≡ true → (asked : List ℕ) (stamp : StampFacts) (a b : List ℕ)
    → IsEither asked stamp a → IsEither asked stamp b → a ≡ b
either_is_one told asked stamp a b p q = same_bytes stamp a b p.one q.one

-- each content has as many bytes as its stamp says
one_sized : (stamp : StampFacts) (bytes : List ℕ)
    → IsOne first_stamp (codes "x") stamp bytes ⊎ IsOne second_stamp (codes "yy") stamp bytes
    → length bytes ≡ stamp.size
one_sized stamp bytes (inl p) = ap length p.filled ∙ ap (λ (s : StampFacts). s.size) (sym p.stamped)
one_sized stamp bytes (inr p) = ap length p.filled ∙ ap (λ (s : StampFacts). s.size) (sym p.stamped)

-- each content that a name has is as long as its stamp says
pub either_is_sized : true ≡ true → (asked : List ℕ) (stamp : StampFacts) (bytes : List ℕ)
    → IsEither asked stamp bytes → length bytes ≡ stamp.size
either_is_sized told asked stamp bytes p = one_sized stamp bytes p.one

-- neither content begins as an ELF file does
reason_is_one : (stamp : StampFacts) (bytes : List ℕ)
    → IsOne first_stamp (codes "x") stamp bytes ⊎ IsOne second_stamp (codes "yy") stamp bytes
    → (r : Result Identity Why) → IsIdentity bytes r → r ≡ Err WhyNotElf
unfolding section_table header_of
reason_is_one stamp bytes (inl p) r h =
    refused_is_one (codes "x") NotElf refl r (subst (λ b. IsIdentity b r) p.filled h)
reason_is_one stamp bytes (inr p) r h =
    refused_is_one (codes "yy") NotElf refl r (subst (λ b. IsIdentity b r) p.filled h)

-- a name has at most one true row
pub one_of_two_rows : true ≡ true → (a b : RowFacts) → a.name ≡ b.name → IsTrueRow IsEither a
    → IsTrueRow IsEither b → a ≡ b
one_of_two_rows told =
    true_rows_same IsEither
    (λ asked stamp bytes either r s p q. reason_is_one stamp bytes either.one r p
    ∙ sym (reason_is_one stamp bytes either.one s q))
    (either_is_one told)
