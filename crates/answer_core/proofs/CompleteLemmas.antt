-- Completeness: of a hand that tells what it has and is still, a candidate that is there and would pass is passed over only
-- where a call for it failed.
use Rattle.std.proofs.Common.{◌≡◌, ℕ, ◌≤◌, inl, inr, Bool, true, false, List, [], ◌∷◌, MatchBool, IsTrue}
use Rattle.std.proofs.Common.{refl, sym, ◌∙◌, ap, subst, arith}
use Rattle.std.specs.Prelude.{nat_lt}
use Rattle.std.specs.List.{AllZip, list_any}
use Rattle.std.specs.Str.{bytes_eq}
use Rattle.std.proofs.lemmas.Bool.{false≢true, and_parts, ltb-false, or_left, or_right}
use Rattle.std.proofs.lemmas.List.Folds.{list_any-append}
use Rattle.std.proofs.lemmas.Option.{none-some, same_Some}
use Rattle.std.proofs.lemmas.Slice.Eq.{bytes_eq-Decides}
use Rattle.file_formats.specs.Identity.{Identity}
use Rattle.file_formats.specs.declared.fault.Why.TheVariants.{TooLarge}
use Rattle.row_types.specs.Reading.{IsTrueRow, IsVersionRead, ReadsBytes}
use Rattle.row_types.specs.Row.{RowFacts}
use Rattle.row_types.specs.Stamp.{StampFacts}
use Rattle.row_types.specs.declared.identity.Kind.{Kind}
use Rattle.row_types.specs.declared.identity.Kind.TheVariants as kind
use Rattle.row_types.specs.declared.limits.TheConstants.{FILE_LIMIT, READ_LIMIT}
use Rattle.row_types.specs.declared.reading.Reading.{Reading}
use Rattle.row_types.specs.declared.reading.Reading.TheVariants.{Plain, Elf}
use Rattle.index_rows.specs.Classes.{has_class, is_of_kind}
use Rattle.file_parts.specs.AtPath.{FileAnswer, OpeningGives, file_read, file_too_large, file_gone, file_failed, file_no_memory}
use Rattle.file_parts.specs.AtPath.{stamped_name}
use Rattle.tree_trait.specs.Found.{Versions}
use Rattle.tree_trait.specs.Heard.{Heard, call_failed, load, open_file}
use Rattle.tree_trait.specs.Load.{FitsLoad, LoadFacts, TellsLoad, loaded, too_large, gone, failed, no_memory}
use Rattle.tree_trait.specs.Needs.{HasVersion, IsOfReads}
use Rattle.tree_trait.specs.Open.{FitsOpening, OpenFacts, TellsOpening}
use Rattle.tree_trait.specs.Open.{was_opened, was_too_large, open_gone, open_failed, open_no_memory}
use Rattle.answer_check.specs.Certified.{IsCertified, is_of_class}
use Rattle.answer_check.specs.Passing.{Passes}
use Rattle.webapi_routes.specs.declared.route.Route.{Route}
use Rattle.webapi_routes.specs.declared.route.Route.TheVariants.{Debuginfo, Executable, Source, Section, Metrics}
use Rattle.answer_core.specs.Complete.{SomeWouldPass, WouldPass, size_limit}
use Rattle.answer_core.specs.Loads.{DoesNotPass, Hand, IsFileMissed, IsSourceMissed, LoadsNothing, NonePasses, ReadsNothing, joined_parts}
use Rattle.answer_core.specs.declared.candidate.Candidate.{Candidate}
use Rattle.answer_core.proofs.FileLemmas.{last_failed}
use Rattle.answer_core.proofs.ReadingLemmas.{identity_read}

-- the load of a source that is there, and gave nothing, failed
load_failed : (hand : Hand) (route : Route) (one : Candidate) → size_limit route ≡ READ_LIMIT → WouldPass hand route one → (answer : LoadFacts)
    → FitsLoad hand.version one.path READ_LIMIT answer → TellsLoad hand.start.present one.path answer → LoadsNothing answer
    → IsTrue (call_failed (load one.path READ_LIMIT answer))
load_failed hand route one most would (loaded found) fits tells nothing = absurd nothing
load_failed hand route one most would (too_large stamp) fits tells nothing =
    let same = ap (λ (s : StampFacts). s.size) (same_Some stamp would.stamp (sym tells ∙ would.there)) in
    let small = would.small in
    absurd (omega (arith, same, small, most, fits))
load_failed hand route one most would gone fits tells nothing = absurd (none-some would.stamp (sym tells ∙ would.there))
load_failed hand route one most would failed fits tells nothing = refl
load_failed hand route one most would no_memory fits tells nothing = absurd nothing

source_failed : (hand : Hand) (route : Route) (one : Candidate) (part : List Heard) → IsTrue hand.told → hand.start.Still
    → size_limit route ≡ READ_LIMIT → WouldPass hand route one → IsSourceMissed hand one part → list_any call_failed part ≡ true
source_failed hand route one part told still most would d =
    ap (list_any call_failed) d.loads.asked
    ∙ or_left (call_failed (load one.path READ_LIMIT d.answer)) false
    (load_failed hand route one most would d.answer d.loads.fits (d.loads.tells told still) d.nothing)

-- a version of the file that would pass has what was read, so what was read doesn't pass over it
never_read : (hand : Hand) (route : Route) (one : Candidate) (would : WouldPass hand route one) (stamp : StampFacts)
    (reads : List Heard) → stamp ≡ would.stamp → HasVersion hand.version (stamped_name one.path stamp) reads
    → IsOfReads stamp.size reads (λ b. ¬ Passes route one.class b) → ⊥
never_read hand route one would stamp reads same v none =
    none.is v.bytes v.has (would.passes v.bytes
    (subst (λ (s : StampFacts). hand.version one.path s v.bytes) same v.known)
    (v.has.sized ∙ ap (λ (s : StampFacts). s.size) same))

-- the opening of a file that would pass failed, or the last read of it
reads_failed : (hand : Hand) (route : Route) (one : Candidate) → size_limit route ≡ FILE_LIMIT → WouldPass hand route one → (answer : FileAnswer)
    → (opening : OpenFacts) (reads : List Heard) → FitsOpening hand.version one.path FILE_LIMIT opening
    → TellsOpening hand.start.present one.path opening → OpeningGives hand.version one.path opening reads answer
    → ReadsNothing route one.class answer
    → list_any call_failed (open_file one.path FILE_LIMIT opening ∷ reads) ≡ true
reads_failed hand route one most would (file_read given all) (was_opened stamp) reads fits tells gives nothing =
    let at : stamp ≡ would.stamp = same_Some stamp would.stamp (sym tells ∙ would.there) in
    let none = subst (λ (es : List Heard). IsOfReads given.size es (λ b. ¬ Passes route one.class b)) gives.1 nothing in
    absurd (never_read hand route one would stamp reads at gives.2
    (subst (λ (s : StampFacts). IsOfReads s.size reads (λ b. ¬ Passes route one.class b)) gives.0 none))
reads_failed hand route one most would file_failed (was_opened stamp) reads fits tells gives nothing = last_failed reads gives
reads_failed hand route one most would file_too_large (was_opened stamp) reads fits tells gives nothing = absurd gives
reads_failed hand route one most would file_gone (was_opened stamp) reads fits tells gives nothing = absurd gives
reads_failed hand route one most would answer (was_too_large stamp) reads fits tells gives nothing =
    let same = ap (λ (s : StampFacts). s.size) (same_Some stamp would.stamp (sym tells ∙ would.there)) in
    let small = would.small in
    absurd (omega (arith, same, small, most, fits))
reads_failed hand route one most would answer open_gone reads fits tells gives nothing =
    absurd (none-some would.stamp (sym tells ∙ would.there))
reads_failed hand route one most would answer open_failed reads fits tells gives nothing = refl
reads_failed hand route one most would (file_read given all) open_no_memory reads fits tells gives nothing = absurd gives
reads_failed hand route one most would file_failed open_no_memory reads fits tells gives nothing = absurd gives
reads_failed hand route one most would file_too_large open_no_memory reads fits tells gives nothing = absurd gives
reads_failed hand route one most would file_gone open_no_memory reads fits tells gives nothing = absurd gives
reads_failed hand route one most would file_no_memory opening reads fits tells gives nothing = absurd nothing

opening_failed : (hand : Hand) (route : Route) (one : Candidate) (part : List Heard) → IsTrue hand.told → hand.start.Still
    → size_limit route ≡ FILE_LIMIT → WouldPass hand route one → IsFileMissed hand route one part → list_any call_failed part ≡ true
opening_failed hand route one part told still most would d =
    ap (list_any call_failed) d.opens.asked
    ∙ reads_failed hand route one most would d.answer d.opens.opening d.opens.reads d.opens.fits (d.opens.tells told still) d.opens.gives
    d.nothing

one_failed : (hand : Hand) (route : Route) (one : Candidate) (part : List Heard) → IsTrue hand.told → hand.start.Still
    → WouldPass hand route one → DoesNotPass hand route one part → list_any call_failed part ≡ true
one_failed hand (Source id path) one part told still would d = source_failed hand (Source id path) one part told still refl would d
one_failed hand (Debuginfo id) one part told still would d = opening_failed hand (Debuginfo id) one part told still refl would d
one_failed hand (Executable id) one part told still would d = opening_failed hand (Executable id) one part told still refl would d
one_failed hand (Section id name) one part told still would d = opening_failed hand (Section id name) one part told still refl would d
one_failed hand Metrics one part told still would d = opening_failed hand Metrics one part told still refl would d

some_failed : (hand : Hand) (route : Route) (all : List Candidate) (parts : List (List Heard)) → IsTrue hand.told
    → hand.start.Still → AllZip (DoesNotPass hand route) all parts → SomeWouldPass hand route all
    → list_any call_failed (joined_parts parts) ≡ true
some_failed hand route [] parts told still none some = absurd some
some_failed hand route (one ∷ all) [] told still none some = absurd none
some_failed hand route (one ∷ all) (part ∷ parts) told still none (inl would) =
    list_any-append call_failed part (joined_parts parts)
    ∙ or_left (list_any call_failed part) (list_any call_failed (joined_parts parts))
    (one_failed hand route one part told still would none.0)
some_failed hand route (one ∷ all) (part ∷ parts) told still none (inr some) =
    list_any-append call_failed part (joined_parts parts)
    ∙ or_right (list_any call_failed part) (list_any call_failed (joined_parts parts))
    (some_failed hand route all parts told still none.1 some)

-- nothing was found only where no candidate that would pass is there
pub complete : (hand : Hand) (route : Route) (all : List Candidate) (answers : List Heard) → IsTrue hand.told
    → hand.start.Still → NonePasses hand route all answers false → SomeWouldPass hand route all → ⊥
complete hand route all answers told still none some =
    false≢true (sym none.failed ∙ ap (list_any call_failed) none.are
    ∙ some_failed hand route all none.parts told still none.none some)

kinds_same : (class : Kind) (i : Identity) → is_of_kind class i ≡ true → is_of_class class i ≡ true
kinds_same kind.Executable i h = h
kinds_same kind.Debuginfo i h = h

-- what the row of a told world says of its file
pub read_of : (version : Versions) (row : RowFacts) (class : Kind) (id : List ℕ) → IsTrueRow version row
    → has_class id class row.reading ≡ true
    → (row.name.stamp.size ≤ FILE_LIMIT) × IsVersionRead version row.name row.reading
read_of version row class id sound is = by_size (nat_lt FILE_LIMIT row.name.stamp.size) refl sound.reading
  where
    by_size : (b : Bool) → nat_lt FILE_LIMIT row.name.stamp.size ≡ b
        → MatchBool b (row.reading ≡ Plain TooLarge) (IsVersionRead version row.name row.reading)
        → (row.name.stamp.size ≤ FILE_LIMIT) × IsVersionRead version row.name row.reading
    by_size true e plain = absurd (false≢true (sym (ap (λ (r : Reading). has_class id class r) plain) ∙ is))
    by_size false e read = (ltb-false FILE_LIMIT row.name.stamp.size e, read)

-- bytes that the row's reading was read from are certified for its class
certified_of : (reading : Reading) (class : Kind) (id bytes : List ℕ)
    → has_class id class reading ≡ true → ReadsBytes bytes reading → IsCertified class id bytes
certified_of (Plain why) class id bytes is reads = absurd (false≢true is)
certified_of (Elf ident sources) class id bytes is reads =
    let parts = and_parts (bytes_eq ident.id id) (is_of_kind class ident) is in (
      ident,
      record {
        identity = identity_read ident sources reads refl;
        same_id = (bytes_eq-Decides ident.id id).0 parts.0;
        of_class = kinds_same class ident parts.1;
      },
    )

-- in a told world the file of a row is certified for the row's class, whatever is read of it
pub row_certified : (version : Versions) → ((path : List ℕ) (stamp : StampFacts) (a b : List ℕ) → version path stamp a
    → version path stamp b → a ≡ b) → (row : RowFacts) (class : Kind) (id : List ℕ) → IsTrueRow version row
    → has_class id class row.reading ≡ true → (b : List ℕ) → version row.name.path row.name.stamp b → IsCertified class id b
row_certified version one row class id sound is b known =
    let read = (read_of version row class id sound is).1 in
    subst (λ (b : List ℕ). IsCertified class id b)
    (one row.name.path row.name.stamp read.bytes b read.known known)
    (certified_of row.reading class id read.bytes is read.reads)
