-- What a reading says of the identity of bytes.
use Rattle.std.proofs.Common.{◌≡◌, List, ℕ, Ok, subst}
use Rattle.file_formats.specs.Identity.{Identity, IsIdentity}
use Rattle.row_types.specs.Reading.{ReadsBytes, too_large, no_identity, with_sources, without_sources}
use Rattle.row_types.specs.declared.reading.Reading.{Reading}
use Rattle.row_types.specs.declared.reading.Reading.TheVariants.{Elf}

-- one identity
same_ident : {one other : Identity} {sources others : List (List ℕ)} → Elf one sources ≡ Elf other others → one ≡ other
same_ident e = cc

-- bytes that are found to have an identity have it
pub identity_read : {bytes : List ℕ} {reading : Reading} (ident : Identity) (sources : List (List ℕ)) → ReadsBytes bytes reading
    → reading ≡ Elf ident sources → IsIdentity bytes (Ok ident)
identity_read ident sources (too_large cover) e = absurd (cc)
identity_read ident sources (no_identity why few is) e = absurd (cc)
identity_read {bytes} ident sources (with_sources one found few is small are) e = subst (λ i. IsIdentity bytes (Ok i)) (same_ident e) is
identity_read {bytes} ident sources (without_sources one few is many) e = subst (λ i. IsIdentity bytes (Ok i)) (same_ident e) is
