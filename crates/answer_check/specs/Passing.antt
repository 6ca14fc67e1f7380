-- What passes (this project's rule): bytes that are certified for what the route asks, and what is given of them.
use Rattle.std.specs.Prelude.{◌≡◌, ℕ, List, Option, Some, None}
use Rattle.answer_check.specs.Certified.{CertifiedFacts, IsCertified}
use Rattle.row_types.specs.declared.identity.Kind.{Kind}
use Rattle.row_types.specs.declared.identity.Kind.TheVariants as kind
use Rattle.webapi_routes.specs.declared.route.Route.{Route}
use Rattle.webapi_routes.specs.declared.route.Route.TheVariants.{Debuginfo, Executable, Source, Section, Metrics}
use Rattle.answer_check.specs.Section.{HasSectionOf, named}
use Rattle.answer_check.specs.declared.passing.Checking.{Checking}
use Rattle.answer_check.specs.declared.passing.Checking.TheVariants as checking
use Rattle.answer_check.specs.declared.passed.Passed.{Passed}
use Rattle.answer_check.specs.declared.passed.Passed.TheVariants as passed

-- the file of a class and an id with these bytes
abbrev pub certified_file : Kind → List ℕ → List ℕ → CertifiedFacts
certified_file class id bytes = record { kind = class; id = id; bytes = bytes }

-- these bytes of a candidate of the class pass: a file of the id and of the class that is asked; for a section a file of
-- the id and of the candidate's class that has the section; any bytes of a source; none for the counters
abbrev pub Passes : Route → Option Kind → List ℕ → Type 0
Passes (Debuginfo id) class bytes = IsCertified kind.Debuginfo id bytes
Passes (Executable id) class bytes = IsCertified kind.Executable id bytes
Passes (Section id name) (Some class) bytes = IsCertified class id bytes × HasSectionOf bytes name
Passes (Section id name) None bytes = ⊥
Passes (Source id path) class bytes = Unit {0}
Passes Metrics class bytes = ⊥

-- what is given of bytes that pass: the file, the section of the route's name, the source
abbrev pub GivesPassed : Route → Option Kind → List ℕ → Passed → Type 0
GivesPassed (Debuginfo id) class bytes (passed.File file) = file ≡ certified_file kind.Debuginfo id bytes
GivesPassed (Executable id) class bytes (passed.File file) = file ≡ certified_file kind.Executable id bytes
GivesPassed (Section id name) (Some class) bytes (passed.Section section) = section ≡ named (certified_file class id bytes) name
GivesPassed (Source id path) class bytes (passed.Source source) = source.items ≡ bytes
GivesPassed _ _ _ _ = ⊥

-- what came of the check of bytes
abbrev pub Checks : Route → Option Kind → List ℕ → Checking → Type 0
Checks route class bytes (checking.Passed given) = Passes route class bytes × GivesPassed route class bytes given
Checks route class bytes checking.Refused = ¬ Passes route class bytes
Checks route class bytes checking.OutOfMemory = Unit {0}

-- what came of the check of bytes that are to be a file of this class and id
abbrev pub ChecksFile : Kind → List ℕ → List ℕ → Checking → Type 0
ChecksFile class id bytes (checking.Passed (passed.File file)) = IsCertified class id bytes × (file ≡ certified_file class id bytes)
ChecksFile class id bytes (checking.Passed _) = ⊥
ChecksFile class id bytes checking.Refused = ¬ IsCertified class id bytes
ChecksFile class id bytes checking.OutOfMemory = ⊥
