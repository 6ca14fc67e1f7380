-- True rows of told worlds.
use Rattle.std.proofs.Common.{◌≡◌, ℕ, ◌<◌, Bool, true, false, List, [], Result, Ok, Err, MatchBool, refl, sym, ◌∙◌, ap, subst}
use Rattle.std.specs.Prelude.{nat_lt}
use Rattle.std.proofs.lemmas.Bool.{lt-ltb}
use Rattle.file_formats.specs.Table.{section_table}
use Rattle.file_formats.specs.Identity.{Identity, IsIdentity, refused, core, no_id, found, why_of_fault}
use Rattle.file_formats.specs.declared.fault.ElfFault.{ElfFault}
use Rattle.file_formats.specs.declared.fault.Why.{Why}
use Rattle.file_formats.specs.declared.fault.Why.TheVariants.{TooLarge}
use Rattle.row_types.specs.Name.{NameFacts}
use Rattle.row_types.specs.Row.{RowFacts, too_large_row}
use Rattle.row_types.specs.Stamp.{StampFacts}
use Rattle.row_types.specs.Reading.{ReadsBytes, ReadsWithin, too_large, no_identity, with_sources, without_sources, IsReading, IsVersionRead, IsNameReading, IsTrueRow}
use Rattle.row_types.specs.Sources.{AreSourcesOf}
use Rattle.row_types.specs.declared.limits.TheConstants.{FILE_LIMIT}
use Rattle.row_types.specs.declared.reading.Reading.{Reading}
use Rattle.row_types.specs.declared.reading.Reading.TheVariants.{Plain, Elf}
use Rattle.row_types.proofs.AscendsLemmas.{same_paths}
use Rattle.row_types.proofs.PartLemmas.{rows_same}

-- the row of a file above the limit is true
pub too_large_is_true : (version : List ℕ → StampFacts → List ℕ → Type 0) (name : NameFacts) → FILE_LIMIT < name.stamp.size → IsTrueRow version (too_large_row name)
too_large_is_true version name above = record {
  edition = refl;
  reading = subst (λ (b : Bool). MatchBool b (Plain TooLarge ≡ Plain TooLarge) (IsVersionRead version name (Plain TooLarge))) (sym (lt-ltb FILE_LIMIT name.stamp.size above)) refl;
}

-- the reading of a version's bytes is that of its name
pub name_read : (version : List ℕ → StampFacts → List ℕ → Type 0) (name : NameFacts) (bytes : List ℕ) (reading : Reading) → version name.path name.stamp bytes → IsReading name.stamp bytes reading → IsNameReading version name reading
name_read version name bytes reading known reads =
    elim (nat_lt FILE_LIMIT name.stamp.size) as (λ b. MatchBool b (reading ≡ Plain TooLarge) (ReadsBytes bytes reading) → MatchBool b (reading ≡ Plain TooLarge) (IsVersionRead version name reading))
    [ true ↦ λ h. h | false ↦ λ h. record { bytes = bytes; known = known; reads = h } ] reads

-- bytes have at most one identity, or one first reason why they have none
abbrev pub IdentityIsOne : List ℕ → Type 0
IdentityIsOne bytes = (r s : Result Identity Why) → IsIdentity bytes r → IsIdentity bytes s → r ≡ s

-- bytes that have no section table have one reason why they have no identity
pub refused_is_one : (bytes : List ℕ) (fault : ElfFault) → section_table bytes ≡ Err fault → (r : Result Identity Why) → IsIdentity bytes r → r ≡ Err (why_of_fault fault)
refused_is_one bytes fault e r (refused other h) = cc
refused_is_one bytes fault e r (core t h p) = cc
refused_is_one bytes fault e r (no_id t h p n) = cc
refused_is_one bytes fault e r (found t i h p x f) = cc

-- bytes have one list of sources
sources_same : {bytes : List ℕ} (sources others : List (List ℕ)) → AreSourcesOf bytes sources → AreSourcesOf bytes others → sources ≡ others
sources_same sources others p q = same_paths sources others p.ascends q.ascends
    (λ path h. (q.exact path).1 ((p.exact path).0 h)) (λ path h. (p.exact path).1 ((q.exact path).0 h))

same_why : {why other : Why} → ◌≡◌ {A = Result Identity Why} (Err why) (Err other) → why ≡ other
same_why e = cc

same_id : {one other : Identity} → ◌≡◌ {A = Result Identity Why} (Ok one) (Ok other) → one ≡ other
same_id e = cc

neither : {why : Why} {one : Identity} → ◌≡◌ {A = Result Identity Why} (Err why) (Ok one) → ⊥
neither e = absurd (cc)

same_elf : {one other : Identity} {sources others : List (List ℕ)} → one ≡ other → sources ≡ others → Elf one sources ≡ Elf other others
same_elf e f = cc

-- bytes are found to be one thing
pub reads-once : {limit : ℕ} {b : List ℕ} → IdentityIsOne b → {x y : Reading} → ReadsWithin limit b x → ReadsWithin limit b y → x ≡ y
reads-once one (too_large c) (too_large d) = refl
reads-once one (too_large c) (no_identity why not id) = absurd (not c)
reads-once one (too_large c) (with_sources i s not id few are) = absurd (not c)
reads-once one (too_large c) (without_sources i not id many) = absurd (not c)
reads-once one (no_identity why not id) (too_large d) = absurd (not d)
reads-once one (no_identity why not id) (no_identity other _ jd) = ap Plain (same_why (one _ _ id jd))
reads-once one (no_identity why not id) (with_sources i s _ jd few are) = absurd (neither (one _ _ id jd))
reads-once one (no_identity why not id) (without_sources i _ jd many) = absurd (neither (one _ _ id jd))
reads-once one (with_sources i s not id few are) (too_large d) = absurd (not d)
reads-once one (with_sources i s not id few are) (no_identity why _ jd) = absurd (neither (one _ _ jd id))
reads-once one (with_sources i s not id few are) (with_sources j t _ jd _ bre) =
    same_elf (same_id (one _ _ id jd)) (sources_same s t are bre)
reads-once one (with_sources i s not id few are) (without_sources j _ jd many) = absurd (few many)
reads-once one (without_sources i not id many) (too_large d) = absurd (not d)
reads-once one (without_sources i not id many) (no_identity why _ jd) = absurd (neither (one _ _ jd id))
reads-once one (without_sources i not id many) (with_sources j t _ jd few _) = absurd (few many)
reads-once one (without_sources i not id many) (without_sources j _ jd _) = same_elf (same_id (one _ _ id jd)) refl

-- a name's file is found to be one thing, where it has at most one content
readings_same : (version : List ℕ → StampFacts → List ℕ → Type 0) (name : NameFacts) (unique : (bytes : List ℕ) → version name.path name.stamp bytes → IdentityIsOne bytes) (one : (a b : List ℕ) → version name.path name.stamp a → version name.path name.stamp b → a ≡ b) (a b : Reading) (large : Bool) → MatchBool large (a ≡ Plain TooLarge) (IsVersionRead version name a) → MatchBool large (b ≡ Plain TooLarge) (IsVersionRead version name b) → a ≡ b
readings_same version name unique one a b true p q = p ∙ sym q
readings_same version name unique one a b false p q =
    reads-once (unique p.bytes p.known) p.reads (subst (λ bytes. ReadsBytes bytes b) (one q.bytes p.bytes q.known p.known) q.reads)

-- a name has at most one true row
pub true_rows_same : (version : List ℕ → StampFacts → List ℕ → Type 0) → ((path : List ℕ) (stamp : StampFacts) (bytes : List ℕ) → version path stamp bytes → IdentityIsOne bytes) → ((path : List ℕ) (stamp : StampFacts) (a b : List ℕ) → version path stamp a → version path stamp b → a ≡ b) → (a b : RowFacts) → a.name ≡ b.name → IsTrueRow version a → IsTrueRow version b → a ≡ b
true_rows_same version unique one a b name p q =
    let edition : a.edition ≡ b.edition = p.edition ∙ sym q.edition in
    let reading : a.reading ≡ b.reading =
    readings_same version b.name (unique b.name.path b.name.stamp) (one b.name.path b.name.stamp) a.reading b.reading (nat_lt FILE_LIMIT b.name.stamp.size)
    (subst (λ n. IsNameReading version n a.reading) name p.reading) q.reading in
    rows_same a.name b.name a.edition b.edition a.reading b.reading name edition reading
