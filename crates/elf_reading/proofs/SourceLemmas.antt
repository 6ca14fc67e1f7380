-- The sources of debug sections are those of each file that has these sections.
use Rattle.std.proofs.Common.{◌≡◌, ◌↔◌, ℕ, List, [], Contains, Option, Some, None, Result, Ok, Err, IfOk, sym, subst, arith}
use Rattle.file_formats.specs.DwarfSections.{IsDebugAnswer}
use Rattle.file_formats.specs.DwarfUnits.{DebugSections}
use Rattle.file_formats.proofs.DwarfSectionLemmas.{debug-unique}
use Rattle.row_types.specs.Ascends.{Ascends}
use Rattle.row_types.specs.Sources.{AreSourcesOf, IsSource}

same_sections : {one other : DebugSections} → ◌≡◌ {A = Option DebugSections} (Some one) (Some other) → one ≡ other
same_sections e = cc

has_sections : {one : DebugSections} → ◌≡◌ {A = Option DebugSections} None (Some one) → ⊥
has_sections e = absurd (cc)

-- of a file that has them
sources_read : (bytes : List ℕ) (sections : DebugSections) (paths : List (List ℕ)) → IsDebugAnswer bytes (Some sections)
    → ((path : List ℕ) → Contains paths path ↔ IsSource sections path) → Ascends paths → AreSourcesOf bytes paths
sources_read bytes sections paths answer exact ascends = record {
  exact = λ path. (
    λ among. record { sections = sections; debug = answer; source = (exact path).0 among },
    λ h. (exact path).1 (subst (λ s. IsSource s path) (sym (same_sections (debug-unique answer h.debug))) h.source),
  );
  ascends = ascends;
}

-- so they are where they were found
pub sources_found : {E : Type 0} (r : Result (List (List ℕ)) E) (x : Option DebugSections) (sections : DebugSections)
    → x ≡ Some sections
    → IfOk r (λ paths. (path : List ℕ) → Contains paths path ↔ IsSource sections path) → IfOk r Ascends
    → IfOk r (λ paths. (bytes : List ℕ) → IsDebugAnswer bytes x → AreSourcesOf bytes paths)
sources_found (Ok paths) x sections e exact ascends = λ bytes answer.
    sources_read bytes sections paths (subst (IsDebugAnswer bytes) e answer) exact ascends
sources_found (Err fault) x sections e exact ascends = tt

-- a file that has none to hand out has no sources
none_read : (bytes : List ℕ) → IsDebugAnswer bytes None → AreSourcesOf bytes []
none_read bytes answer = record {
  exact = λ path. (
    λ among. let within = among.1 in absurd (omega (arith, within)),
    λ h. absurd (has_sections (debug-unique answer h.debug)),
  );
  ascends = λ i j d later within. absurd (omega (arith, within));
}

pub no_sources : (x : Option DebugSections) (paths : List (List ℕ)) → x ≡ None → paths ≡ []
    → (bytes : List ℕ) → IsDebugAnswer bytes x → AreSourcesOf bytes paths
no_sources x paths e empty bytes answer =
    subst (AreSourcesOf bytes) (sym empty) (none_read bytes (subst (IsDebugAnswer bytes) e answer))
