-- What was heard since a later moment, as seen from an earlier one: a still hand has had the same files since.
use Rattle.std.proofs.Common.{◌≡◌, ◌⊎◌, inl, inr, ℕ, Bool, true, false, List, [], ◌∷◌, take, subst}
use Rattle.std.specs.List.{AllZip}
use Rattle.file_parts.specs.AtPath.{FileAnswer, file_read, file_no_memory}
use Rattle.row_types.specs.Name.{NameFacts}
use Rattle.tree_trait.specs.Heard.{Heard}
use Rattle.tree_trait.specs.Load.{LoadFacts, TellsLoad, loaded}
use Rattle.tree_trait.specs.Open.{TellsOpening}
use Rattle.tree_trait.specs.Shown.{ShownTree, StaysStill}
use Rattle.webapi_routes.specs.declared.route.Route.{Route}
use Rattle.webapi_routes.specs.declared.route.Route.TheVariants.{Debuginfo, Executable, Source, Section, Metrics}
use Rattle.answer_core.specs.Given.{GivenFacts}
use Rattle.answer_core.specs.Loads.{CandidatePasses, DoesNotPass, Hand, IsFileGiven, IsFileMissed, IsLoad, IsOpening, IsSourceGiven, IsSourceMissed}
use Rattle.answer_core.specs.Loads.{IsFileLeft, IsLeft, NonePasses, StopsTrying}
use Rattle.answer_core.specs.Local.{IsAnswerOf, LocalFacts, PassesFirst}
use Rattle.answer_core.specs.Local.{file_found, section_found, source_found, nothing_found, fault_found, no_memory_found}
use Rattle.answer_core.specs.declared.candidate.Candidate.{Candidate}

-- the hand from a later moment on
abbrev pub since : Hand → ShownTree → Hand
since hand now = record { told = hand.told; version = hand.version; start = now }

-- the hand was still up to this moment, if it was still
abbrev pub StillTo : Hand → ShownTree → Type 0
StillTo hand now = hand.start.Still → StaysStill hand.start now

zip_as : {A B : Type 0} {R S : A → B → Type 0} → ((x : A) (y : B) → R x y → S x y) → (xs : List A) (ys : List B)
    → AllZip R xs ys → AllZip S xs ys
zip_as f [] [] h = tt
zip_as f [] (y ∷ ys) h = absurd h
zip_as f (x ∷ xs) [] h = absurd h
zip_as f (x ∷ xs) (y ∷ ys) h = (f x y h.0, zip_as f xs ys h.1)

load_before : (hand : Hand) (now : ShownTree) → StillTo hand now → (one : Candidate) (answer : LoadFacts)
    (part : List Heard) → IsLoad (since hand now) one answer part → IsLoad hand one answer part
load_before hand now keeps one answer part l = record {
  asked = l.asked;
  fits = l.fits;
  tells = λ told still.
      let s = keeps still in
      subst (λ (present : List NameFacts). TellsLoad present one.path answer) s.same (l.tells told s.still);
}

opening_before : (hand : Hand) (now : ShownTree) → StillTo hand now → (route : Route) (one : Candidate) (answer : FileAnswer)
    (part : List Heard) → IsOpening (since hand now) route one answer part → IsOpening hand route one answer part
opening_before hand now keeps route one answer part o = record {
  opening = o.opening;
  reads = o.reads;
  asked = o.asked;
  fits = o.fits;
  tells = λ told still.
      let s = keeps still in
      subst (λ (present : List NameFacts). TellsOpening present one.path o.opening) s.same (o.tells told s.still);
  ranges = o.ranges;
  gives = o.gives;
}

source_missed : (hand : Hand) (now : ShownTree) → StillTo hand now → (one : Candidate) (part : List Heard)
    → IsSourceMissed (since hand now) one part → IsSourceMissed hand one part
source_missed hand now keeps one part d =
    record { answer = d.answer; loads = load_before hand now keeps one d.answer part d.loads; nothing = d.nothing }

file_missed : (hand : Hand) (now : ShownTree) → StillTo hand now → (route : Route) (one : Candidate) (part : List Heard)
    → IsFileMissed (since hand now) route one part → IsFileMissed hand route one part
file_missed hand now keeps route one part d =
    record { answer = d.answer; opens = opening_before hand now keeps route one d.answer part d.opens; nothing = d.nothing }

-- a candidate that didn't pass
pub none_before : (hand : Hand) (now : ShownTree) → StillTo hand now → (route : Route) (one : Candidate)
    (part : List Heard) → DoesNotPass (since hand now) route one part → DoesNotPass hand route one part
none_before hand now keeps (Source id path) one part d = source_missed hand now keeps one part d
none_before hand now keeps (Debuginfo id) one part d = file_missed hand now keeps (Debuginfo id) one part d
none_before hand now keeps (Executable id) one part d = file_missed hand now keeps (Executable id) one part d
none_before hand now keeps (Section id name) one part d = file_missed hand now keeps (Section id name) one part d
none_before hand now keeps Metrics one part d = file_missed hand now keeps Metrics one part d

source_passed : (hand : Hand) (now : ShownTree) → StillTo hand now → (one : Candidate) (given : GivenFacts) (part : List Heard)
    → IsSourceGiven (since hand now) one given part → IsSourceGiven hand one given part
source_passed hand now keeps one given part p =
    record { found = p.found; loads = load_before hand now keeps one (loaded p.found) part p.loads; gives = p.gives }

file_passed : (hand : Hand) (now : ShownTree) → StillTo hand now → (route : Route) (one : Candidate) (given : GivenFacts)
    (part : List Heard) → IsFileGiven (since hand now) route one given part → IsFileGiven hand route one given part
file_passed hand now keeps route one given part p = record {
  stamp = p.stamp;
  reads = p.reads;
  opens = opening_before hand now keeps route one (file_read p.stamp p.reads) part p.opens;
  passes = p.passes;
  gives = p.gives;
}

-- one that passed
pub passes_before : (hand : Hand) (now : ShownTree) → StillTo hand now → (route : Route) (one : Candidate) (given : GivenFacts)
    (part : List Heard) → CandidatePasses (since hand now) route one given part → CandidatePasses hand route one given part
passes_before hand now keeps (Source id path) one given part p = source_passed hand now keeps one given part p
passes_before hand now keeps (Debuginfo id) one given part p = file_passed hand now keeps (Debuginfo id) one given part p
passes_before hand now keeps (Executable id) one given part p = file_passed hand now keeps (Executable id) one given part p
passes_before hand now keeps (Section id name) one given part p = file_passed hand now keeps (Section id name) one given part p
passes_before hand now keeps Metrics one given part p = file_passed hand now keeps Metrics one given part p

file_left : (hand : Hand) (now : ShownTree) → StillTo hand now → (route : Route) (one : Candidate) (part : List Heard)
    → (part ≡ []) ⊎ IsFileLeft (since hand now) route one part → (part ≡ []) ⊎ IsFileLeft hand route one part
unfolding opening_before
file_left hand now keeps route one part (inl none) = inl none
file_left hand now keeps route one part (inr l) =
    inr (record { opens = opening_before hand now keeps route one file_no_memory part l.opens; stamp = l.stamp; there = l.there })

-- one at which memory was refused
pub left_before : (hand : Hand) (now : ShownTree) → StillTo hand now → (route : Route) (one : Candidate)
    (part : List Heard) → IsLeft (since hand now) route one part → IsLeft hand route one part
left_before hand now keeps (Source id path) one part l = l
left_before hand now keeps (Debuginfo id) one part l = file_left hand now keeps (Debuginfo id) one part l
left_before hand now keeps (Executable id) one part l = file_left hand now keeps (Executable id) one part l
left_before hand now keeps (Section id name) one part l = file_left hand now keeps (Section id name) one part l
left_before hand now keeps Metrics one part l = file_left hand now keeps Metrics one part l

all_before : (hand : Hand) (now : ShownTree) → StillTo hand now → (route : Route) (all : List Candidate)
    (parts : List (List Heard)) → AllZip (DoesNotPass (since hand now) route) all parts
    → AllZip (DoesNotPass hand route) all parts
all_before hand now keeps route all parts h =
    zip_as {R = DoesNotPass (since hand now) route} {S = DoesNotPass hand route} (none_before hand now keeps route) all parts h

first_before : (hand : Hand) (now : ShownTree) → StillTo hand now → (route : Route) (answers : List Heard) (given : GivenFacts)
    (path : List ℕ) (all : List Candidate) → PassesFirst (since hand now) route answers given path all
    → PassesFirst hand route answers given path all
first_before hand now keeps route answers given path all h =
    let f = h.first in
    record {
      place = h.place;
      first = record {
        within = f.within;
        one = f.one;
        there = f.there;
        before = f.before;
        none = all_before hand now keeps route (take h.place all) f.before f.none;
        last = f.last;
        heard = f.heard;
        passes = passes_before hand now keeps route f.one given f.last f.passes;
      };
      told = h.told;
    }

nothing_before : (hand : Hand) (now : ShownTree) → StillTo hand now → (route : Route) (all : List Candidate)
    (answers : List Heard) (fails : Bool) → NonePasses (since hand now) route all answers fails
    → NonePasses hand route all answers fails
nothing_before hand now keeps route all answers fails h =
    record {
      parts = h.parts;
      are = h.are;
      none = all_before hand now keeps route all h.parts h.none;
      failed = h.failed;
    }

-- memory was refused at a candidate
stops_before : (hand : Hand) (now : ShownTree) → StillTo hand now → (route : Route) (all : List Candidate)
    (answers : List Heard) → StopsTrying (since hand now) route all answers → StopsTrying hand route all answers
stops_before hand now keeps route all answers h = record {
  place = h.place;
  within = h.within;
  one = h.one;
  there = h.there;
  before = h.before;
  none = all_before hand now keeps route (take h.place all) h.before h.none;
  last = h.last;
  heard = h.heard;
  left = left_before hand now keeps route h.one h.last h.left;
}

-- a local answer
pub answer_before : (hand : Hand) (now : ShownTree) → StillTo hand now → (route : Route) (answers : List Heard)
    (answer : LocalFacts) (all : List Candidate) → IsAnswerOf (since hand now) route answers answer all
    → IsAnswerOf hand route answers answer all
answer_before hand now keeps route answers (file_found from name path n) all h =
    first_before hand now keeps route answers _ path all h
answer_before hand now keeps route answers (section_found from path n) all h =
    first_before hand now keeps route answers _ path all h
answer_before hand now keeps route answers (source_found bytes path n) all h =
    first_before hand now keeps route answers _ path all h
answer_before hand now keeps route answers (nothing_found n) all h = nothing_before hand now keeps route all answers false h
answer_before hand now keeps route answers (fault_found n) all h = nothing_before hand now keeps route all answers true h
answer_before hand now keeps route answers no_memory_found all h = stops_before hand now keeps route all answers h
