-- What came of one candidate: of its file, by what was read of it, or of the load of a source.
use Rattle.std.proofs.Common.{◌≡◌, ◌≢◌, ℕ, Bool, true, false, List, [], ◌∷◌, ◌++◌, Option, Some, None, IsTrue}
use Rattle.std.proofs.Common.{refl, sym, ◌∙◌, ap, subst, if◌then◌else◌}
use Rattle.file_formats.specs.Parts.{IsSomeSection}
use Rattle.file_formats.specs.Windows.{IsSomeWindow, Range}
use Rattle.file_parts.specs.AtPath.{AsksFile, FileAnswer, SeesAtPath, file_read, file_failed, file_no_memory, stamped_name}
use Rattle.file_parts.specs.Wholes.{IsReadWhole}
use Rattle.file_parts.specs.declared.seen.FileSeen.TheVariants as seen
use Rattle.file_parts.proofs.KnownLemmas.{of_reads}
use Rattle.row_types.specs.Name.{NameFacts}
use Rattle.row_types.specs.Stamp.{StampFacts}
use Rattle.row_types.specs.declared.identity.Kind.{Kind}
use Rattle.row_types.specs.declared.identity.Kind.TheVariants as kind
use Rattle.row_types.specs.declared.limits.TheConstants.{FILE_LIMIT, READ_LIMIT}
use Rattle.tree_trait.specs.Asks.{AsksTree, IsAnswerTold}
use Rattle.tree_trait.specs.Found.{FoundFacts, Versions}
use Rattle.tree_trait.specs.Heard.{Heard, load, open_file, call_failed, wants_memory}
use Rattle.tree_trait.specs.Listens.{heard_or_none}
use Rattle.tree_trait.specs.Load.{LoadFacts, loaded, too_large, gone, failed, no_memory}
use Rattle.tree_trait.specs.Needs.{IsOfReads}
use Rattle.tree_trait.specs.Opened.{HoldsPicture, OpenedFacts, opened_name}
use Rattle.tree_trait.specs.Shown.{ShownTree}
use Rattle.webapi_routes.specs.declared.route.Route.{Route}
use Rattle.webapi_routes.specs.declared.route.Route.TheVariants.{Debuginfo, Executable, Source, Section, Metrics}
use Rattle.answer_check.specs.Checked.{CheckedFacts, checked}
use Rattle.answer_check.specs.CheckedSection.{CheckedSectionFacts}
use Rattle.answer_check.specs.Passing.{Passes}
use Rattle.answer_core.specs.Fits.{FitsOpened, GivesOpened}
use Rattle.answer_core.specs.Given.{GivesRead, IsCheckedRead, asks_source, given_facts, needs_for, source_given}
use Rattle.answer_core.specs.Loads.{Hears, IsLoad, ReadsNothing, TriesOne}
use Rattle.answer_core.specs.declared.candidate.Candidate.{Candidate}
use Rattle.answer_core.specs.declared.given.Given.{Given}
use Rattle.answer_core.specs.declared.given.Given.TheVariants as given
use Rattle.answer_core.specs.declared.given.Tried.{Tried}
use Rattle.answer_core.specs.declared.given.Tried.TheVariants as tried
use Rattle.answer_core.proofs.FileLemmas.{tells_failure, file_left, file_misses, file_passes, has_failed, is_left, is_opening, source_left, source_misses}
use Rattle.answer_core.proofs.FileLemmas.{source_passes, wanting_behind}
use Rattle.answer_core.proofs.HearLemmas.{hears_asked, hears_file}

-- a checked file is that of what was read, at the path that was asked
checked_read : {F : Type 0} {version : Versions} {reads : List Heard} (Of : List ℕ → Range → Type 0) (class : Kind) (id : List ℕ)
    (opened : OpenedFacts F) (path : List ℕ) (from : CheckedFacts) → from ≡ checked class id opened.picture → opened.path ≡ path
    → IsReadWhole Of opened.stamp.size reads opened.picture
    → HoldsPicture version opened.path opened.stamp opened.picture
    → IsCheckedRead version Of class id (stamped_name path opened.stamp) reads from
checked_read {version = version} {reads} Of class id opened path from is at whole holds = record {
  of_class = ap (λ (f : CheckedFacts). f.kind) is;
  of_id = ap (λ (f : CheckedFacts). f.id) is;
  whole = subst (λ (f : CheckedFacts). IsReadWhole Of opened.stamp.size reads f.picture) (sym is) whole;
  holds = subst (λ (f : CheckedFacts). HoldsPicture version path opened.stamp f.picture) (sym is)
      (subst (λ (p : List ℕ). HoldsPicture version p opened.stamp opened.picture) at holds);
}

-- the open file that is given has this name
named_so : {F : Type 0} (name_of : F → NameFacts) (opened : OpenedFacts F) (path : List ℕ) → name_of opened.file ≡ opened_name opened
    → opened.path ≡ path → (own : F) → own ≡ opened.file → name_of own ≡ stamped_name path opened.stamp
named_so name_of opened path file at own same =
    ap name_of same ∙ file ∙ ap {B = NameFacts} (λ (p : List ℕ). stamped_name p opened.stamp) at

module _ {F : Type 0} (name_of : F → NameFacts) {version : Versions} {reads : List Heard} (opened : OpenedFacts F) (path : List ℕ)
    (file : name_of opened.file ≡ opened_name opened) (at : opened.path ≡ path)
    (holds : HoldsPicture version opened.path opened.stamp opened.picture) where
  -- what is given of an open file is given of what was read
  pub gives_read : (route : Route) (class : Option Kind) (given : Given F)
      → IsReadWhole (needs_for route) opened.stamp.size reads opened.picture → GivesOpened route class opened given
      → GivesRead version route class (stamped_name path opened.stamp) reads (given_facts name_of given)
  gives_read (Debuginfo id) class (given.File from own) whole g =
      (named_so name_of opened path file at own g.1, checked_read IsSomeWindow kind.Debuginfo id opened path from g.0 at whole holds)
  gives_read (Executable id) class (given.File from own) whole g =
      (named_so name_of opened path file at own g.1, checked_read IsSomeWindow kind.Executable id opened path from g.0 at whole holds)
  gives_read (Section id name) (Some class) (given.Section section) whole g = record {
    named = ap (λ (s : CheckedSectionFacts). s.name) g.0;
    file = checked_read (IsSomeSection name) class id opened path section.file
        (ap (λ (s : CheckedSectionFacts). s.file) g.0) at whole holds;
    seen = g.1;
  }
  gives_read (Debuginfo id) class (given.Section section) whole g = absurd g
  gives_read (Debuginfo id) class (given.Source bytes) whole g = absurd g
  gives_read (Executable id) class (given.Section section) whole g = absurd g
  gives_read (Executable id) class (given.Source bytes) whole g = absurd g
  gives_read (Section id name) (Some class) (given.File from own) whole g = absurd g
  gives_read (Section id name) (Some class) (given.Source bytes) whole g = absurd g
  gives_read (Section id name) None (given.File from own) whole g = absurd g
  gives_read (Section id name) None (given.Section section) whole g = absurd g
  gives_read (Section id name) None (given.Source bytes) whole g = absurd g
  gives_read (Source id other) class (given.File from own) whole g = absurd g
  gives_read (Source id other) class (given.Section section) whole g = absurd g
  gives_read (Source id other) class (given.Source bytes) whole g = absurd g
  gives_read Metrics class (given.File from own) whole g = absurd g
  gives_read Metrics class (given.Section section) whole g = absurd g
  gives_read Metrics class (given.Source bytes) whole g = absurd g

-- ---- a file

at_path : {told : Bool} {version : Versions} {before after : ShownTree} {path : List ℕ} (route : Route) (one : Candidate)
    → path ≡ one.path → {answer : FileAnswer} → AsksFile (needs_for route) told version path before after answer
    → AsksFile (needs_for route) told version one.path before after answer
at_path {told} {version} {before} {after} route one at {answer} asks =
    subst (λ (p : List ℕ). AsksFile (needs_for route) told version p before after answer) at asks

module _ {F : Type 0} {name_of : F → NameFacts} {told : Bool} {version : Versions} {before after : ShownTree} {path : List ℕ}
    (route : Route) (one : Candidate) (at : path ≡ one.path) where
  -- it doesn't pass, and no call failed
  pub tries_refused : asks_source route ≡ false → (answer : FileAnswer) → answer ≢ file_no_memory → tells_failure answer ≡ false
      → ReadsNothing route one.class answer → AsksFile (needs_for route) told version path before after answer
      → TriesOne name_of (record { told = told; version = version; start = before }) route one tried.Refused after
  tries_refused is answer other sound nothing said =
      let asks : AsksFile (needs_for route) told version one.path before after answer = at_path route one at said in
      let part : List Heard = heard_or_none (open_file one.path FILE_LIMIT asks.opening) ++ asks.reads in
      record {
        part = part;
        hears = hears_file asks (λ never. absurd (cc));
        comes = (
          file_misses (record { told = told; version = version; start = before }) route one part is
              (record { answer = answer; opens = is_opening other asks; nothing = nothing }),
          has_failed other asks ∙ sound,
        );
      }

  -- the opening failed, or a read
  pub tries_failed : asks_source route ≡ false → AsksFile (needs_for route) told version path before after file_failed
      → TriesOne name_of (record { told = told; version = version; start = before }) route one tried.Failed after
  tries_failed is said =
      let asks : AsksFile (needs_for route) told version one.path before after file_failed = at_path route one at said in
      let part : List Heard = heard_or_none (open_file one.path FILE_LIMIT asks.opening) ++ asks.reads in
      let other : file_failed ≢ file_no_memory = λ e. absurd (cc) in
      record {
        part = part;
        hears = hears_file asks (λ _. refl);
        comes = (
          file_misses (record { told = told; version = version; start = before }) route one part is
              (record { answer = file_failed; opens = is_opening other asks; nothing = tt }),
          has_failed other asks,
        );
      }

  -- memory was refused
  pub tries_wanting : asks_source route ≡ false → AsksFile (needs_for route) told version path before after file_no_memory
      → TriesOne name_of (record { told = told; version = version; start = before }) route one tried.OutOfMemory after
  tries_wanting is said =
      let asks : AsksFile (needs_for route) told version one.path before after file_no_memory = at_path route one at said in
      let part : List Heard = heard_or_none (open_file one.path FILE_LIMIT asks.opening) ++ asks.reads in
      record {
        part = part;
        hears = hears_file asks (λ never. absurd (cc));
        comes = file_left (record { told = told; version = version; start = before }) route one part is (is_left asks);
      }

  -- it passes
  pub tries_passed : asks_source route ≡ false → (stamp : StampFacts) (reads : List Heard) (given : Given F)
      → AsksFile (needs_for route) told version path before after (file_read stamp reads)
      → IsOfReads stamp.size reads (Passes route one.class)
      → GivesRead version route one.class (stamped_name one.path stamp) reads (given_facts name_of given)
      → TriesOne name_of (record { told = told; version = version; start = before }) route one (tried.Passed given) after
  tries_passed is stamp reads given said passes gives =
      let asks : AsksFile (needs_for route) told version one.path before after (file_read stamp reads) = at_path route one at said in
      let part : List Heard = heard_or_none (open_file one.path FILE_LIMIT asks.opening) ++ asks.reads in
      let other : file_read stamp reads ≢ file_no_memory = λ e. absurd (cc) in
      record {
        part = part;
        hears = hears_file asks (λ never. absurd (cc));
        comes = file_passes (record { told = told; version = version; start = before }) route one (given_facts name_of given) part is
            (record { stamp = stamp; reads = reads; opens = is_opening other asks; passes = passes; gives = gives });
      }

  -- the file that was opened and read, by what came of its check
  pub tries_read : {W : Type 0} → asks_source route ≡ false → (opened : OpenedFacts F)
      → SeesAtPath {W = W} {F = F} name_of (needs_for route) told version path before after (seen.Read opened)
      → HoldsPicture version opened.path opened.stamp opened.picture → (came : Tried F) → FitsOpened route one.class opened came
      → TriesOne name_of (record { told = told; version = version; start = before }) route one came after
  tries_read is opened sees holds (tried.Passed given) fits =
      tries_passed is opened.stamp sees.reads given sees.asks (of_reads sees.whole holds.seen fits.0)
      (gives_read name_of opened one.path sees.named.0 (sees.named.1 ∙ at) holds route one.class given sees.whole fits.1)
  tries_read is opened sees holds tried.Refused fits =
      let other : file_read opened.stamp sees.reads ≢ file_no_memory = λ e. absurd (cc) in
      tries_refused is (file_read opened.stamp sees.reads) other refl (of_reads sees.whole holds.seen fits) sees.asks
  tries_read is opened sees holds tried.Failed fits = absurd fits
  tries_read is opened sees holds tried.OutOfMemory fits = tries_wanting is (wanting_behind sees.asks)

-- ---- a source

at_load : {told : Bool} {version : Versions} {before after : ShownTree} {path : List ℕ} (one : Candidate) → path ≡ one.path
    → (answer : LoadFacts) → AsksTree told version before after (load path READ_LIMIT answer)
    → AsksTree told version before after (load one.path READ_LIMIT answer)
at_load {told} {version} {before} {after} one at answer asks = subst (λ (p : List ℕ). AsksTree told version before after (load p READ_LIMIT answer)) at asks

-- its load is a part of what was heard
load_heard : {told : Bool} {version : Versions} {before after : ShownTree} {Fails : Type 0} (one : Candidate) (answer : LoadFacts) → wants_memory (load one.path READ_LIMIT answer) ≡ false
    → AsksTree told version before after (load one.path READ_LIMIT answer)
    → (Fails → IsTrue (call_failed (load one.path READ_LIMIT answer)))
    → Hears (record { told = told; version = version; start = before }) after (load one.path READ_LIMIT answer ∷ []) Fails
load_heard {told} {version} {before} {after} {Fails} one answer heard asks fails =
    subst (λ (es : List Heard). Hears (record { told = told; version = version; start = before }) after es Fails)
    (ap (λ (b : Bool). if b then [] else load one.path READ_LIMIT answer ∷ []) heard)
    (hears_asked (load one.path READ_LIMIT answer) asks fails)

load_is : {told : Bool} {version : Versions} {before after : ShownTree} (one : Candidate) (answer : LoadFacts) → AsksTree told version before after (load one.path READ_LIMIT answer)
    → IsLoad (record { told = told; version = version; start = before }) one answer (load one.path READ_LIMIT answer ∷ [])
load_is {told} {version} {before} {after} one answer asks = record {
  asked = refl;
  fits = asks.fits;
  tells = λ is still.
      subst (λ (present : List NameFacts). IsAnswerTold present (load one.path READ_LIMIT answer)) (asks.hands.still still).same
      (asks.tells is);
}

module _ {F : Type 0} {name_of : F → NameFacts} {told : Bool} {version : Versions} {before after : ShownTree} {path : List ℕ}
    (route : Route) (one : Candidate) (at : path ≡ one.path) where
  -- it was found, and is given
  pub tries_loaded : asks_source route ≡ true → (found : FoundFacts) (given : Given F)
      → given_facts name_of given ≡ source_given found.bytes
      → AsksTree told version before after (load path READ_LIMIT (loaded found))
      → TriesOne name_of (record { told = told; version = version; start = before }) route one (tried.Passed given) after
  tries_loaded is found given gives said =
      let asks = at_load one at (loaded found) said in
      record {
        part = load one.path READ_LIMIT (loaded found) ∷ [];
        hears = load_heard one (loaded found) refl asks (λ never. absurd (cc));
        comes = source_passes (record { told = told; version = version; start = before }) route one (given_facts name_of given)
            (load one.path READ_LIMIT (loaded found) ∷ []) is
            (record { found = found; loads = load_is one (loaded found) asks; gives = gives });
      }

  -- it is too large
  pub tries_too_large : asks_source route ≡ true → (stamp : StampFacts)
      → AsksTree told version before after (load path READ_LIMIT (too_large stamp))
      → TriesOne name_of (record { told = told; version = version; start = before }) route one tried.Refused after
  tries_too_large is stamp said =
      let asks = at_load one at (too_large stamp) said in
      record {
        part = load one.path READ_LIMIT (too_large stamp) ∷ [];
        hears = load_heard one (too_large stamp) refl asks (λ never. absurd (cc));
        comes = (
          source_misses (record { told = told; version = version; start = before }) route one
              (load one.path READ_LIMIT (too_large stamp) ∷ []) is
              (record { answer = too_large stamp; loads = load_is one (too_large stamp) asks; nothing = tt }),
          refl,
        );
      }

  -- it is gone
  pub tries_gone : asks_source route ≡ true → AsksTree told version before after (load path READ_LIMIT gone)
      → TriesOne name_of (record { told = told; version = version; start = before }) route one tried.Refused after
  tries_gone is said =
      let asks = at_load one at gone said in
      record {
        part = load one.path READ_LIMIT gone ∷ [];
        hears = load_heard one gone refl asks (λ never. absurd (cc));
        comes = (
          source_misses (record { told = told; version = version; start = before }) route one
              (load one.path READ_LIMIT gone ∷ []) is (record { answer = gone; loads = load_is one gone asks; nothing = tt }),
          refl,
        );
      }

  -- its load failed
  pub tries_unloaded : asks_source route ≡ true → AsksTree told version before after (load path READ_LIMIT failed)
      → TriesOne name_of (record { told = told; version = version; start = before }) route one tried.Failed after
  tries_unloaded is said =
      let asks = at_load one at failed said in
      record {
        part = load one.path READ_LIMIT failed ∷ [];
        hears = load_heard one failed refl asks (λ _. refl);
        comes = (
          source_misses (record { told = told; version = version; start = before }) route one
              (load one.path READ_LIMIT failed ∷ []) is (record { answer = failed; loads = load_is one failed asks; nothing = tt }),
          refl,
        );
      }

  -- memory was refused
  pub tries_unmade : asks_source route ≡ true → AsksTree told version before after (load path READ_LIMIT no_memory)
      → TriesOne name_of (record { told = told; version = version; start = before }) route one tried.OutOfMemory after
  tries_unmade is said =
      let asks = at_load one at no_memory said in
      record {
        part = [];
        hears = hears_asked (load one.path READ_LIMIT no_memory) asks (λ never. absurd (cc));
        comes = source_left (record { told = told; version = version; start = before }) route one is;
      }
