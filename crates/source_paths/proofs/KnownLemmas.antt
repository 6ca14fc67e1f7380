-- Texts that named their paths lately.
use Rattle.std.proofs.Common.{◌≡◌, ℕ, ◌<◌, true, List, ◌∷◌, [], ◌++◌, All, get_or, length, set, take, drop, nat_eq, Option, Some, refl, sym, ◌∙◌, ap, subst}
use Rattle.std.specs.Cmp.Lexicographic.{pointwise}
use Rattle.std.specs.BTreeSet.{BTreeSet}
use Rattle.std.specs.Global.{Vec}
use Rattle.std.proofs.lemmas.Bool.{false≢true}
use Rattle.std.proofs.lemmas.List.{take-append-drop}
use Rattle.std.proofs.lemmas.List.Elements.{All-set}
use Rattle.std.proofs.lemmas.Slice.Eq.{bytes_eq-Decides}
use Rattle.dwarf_units.proofs.CaseLemmas.{some_same}
use Rattle.row_types.specs.declared.limits.TheConstants.{SEPARATOR}
use Rattle.row_types.specs.Absolute.{is_absolute}
use Rattle.row_types.specs.SourcePaths.{within}
use Rattle.row_types.specs.Sources.{MayName, Names}
use Rattle.source_paths.specs.Adds.{AddsPaths, Has, short}
use Rattle.source_paths.specs.Lately.{AreKnown, IsTextKnown, is_empty}
use Rattle.source_paths.proofs.AddLemmas.{adds-same}
use Rattle.source_paths.proofs.ShortLemmas.{adds_short}

-- texts without bytes name nothing
pub known_empty : (paths : BTreeSet (List ℕ)) (texts : List (Vec ℕ)) → All is_empty texts → AreKnown paths texts
known_empty paths texts empty = record {
  all = λ k d within path names. absurd (false≢true (sym (ap is_absolute (empty k d within)) ∙ names.absolute));
}

-- texts stay known where no path goes
pub known_kept : {old new : BTreeSet (List ℕ)} (texts : List (Vec ℕ)) → ((path : List ℕ) → Has old path → Has new path)
    → AreKnown old texts → AreKnown new texts
known_kept texts kept h = record { all = λ k d within path names. kept path (h.all k d within path names) }

-- one text is another known one
pub known_set : {paths : BTreeSet (List ℕ)} (texts : List (Vec ℕ)) (i : ℕ) (text : Vec ℕ) → IsTextKnown paths text.items
    → AreKnown paths texts → AreKnown paths (set texts i text)
known_set {paths} texts i text known h = record { all = All-set (λ t. IsTextKnown paths t.items) texts i text known h.all }

-- the set has what a known text names
pub known_named : {paths : BTreeSet (List ℕ)} (texts : List (Vec ℕ)) (i : ℕ) (d : Vec ℕ) → AreKnown paths texts → i < length texts
    → {text : Option (List ℕ)} → text ≡ Some (get_or texts i d).items → (path : List ℕ) → MayName text path → Has paths path
known_named texts i d h within e path named =
    h.all i d within path (subst (λ t. Names t path) (some_same (sym named.is ∙ e)) named.names)

-- a copy of a text that was added is known
pub known_added : {old new : BTreeSet (List ℕ)} {text copy : List ℕ} → copy ≡ text → AddsPaths (Names text) old new → IsTextKnown new copy
known_added e a path names = a.added path (subst (λ t. Names t path) e names)

-- a text that is there adds what it names
pub adds_there : (text : List ℕ) {old new : BTreeSet (List ℕ)} → AddsPaths (Names text) old new → AddsPaths (MayName (Some text)) old new
adds_there text a = adds-same
    (λ path h. record { there = text; is = refl; names = h })
    (λ path h. subst (λ t. Names t path) (some_same (sym h.is)) h.names)
    a

-- a text that was made where it is short adds what it names
pub adds_made : (text : Option (List ℕ)) {made : Option (List ℕ)} {old new : BTreeSet (List ℕ)} → made ≡ short text
    → AddsPaths (MayName made) old new → AddsPaths (MayName text) old new
adds_made text {made} {old} {new} e a = adds_short text (subst (λ t. AddsPaths (MayName t) old new) e a)

-- what begins with a text is the text and what is left
stripped : (all front : List ℕ) {rest : List ℕ} → pointwise nat_eq (take (length front) all) front ≡ true
    → rest ≡ drop (length front) all → all ≡ front ++ rest
stripped all front same left =
    sym (take-append-drop (length front) all)
    ∙ ap (λ l. l ++ drop (length front) all) ((bytes_eq-Decides (take (length front) all) front).0 same)
    ∙ ap (λ l. front ++ l) (sym left)

pub within_folder : (known folder text : List ℕ) {rest : List ℕ} → pointwise nat_eq (take (length folder) known) folder ≡ true
    → rest ≡ drop (length folder) known → rest ≡ SEPARATOR ∷ text → known ≡ within text folder
within_folder known folder text same left e = stripped known folder same left ∙ ap (λ l. folder ++ l) e

pub slash_before : (bytes text : List ℕ) {rest : List ℕ} → pointwise nat_eq (take 1 bytes) (SEPARATOR ∷ []) ≡ true
    → rest ≡ drop 1 bytes → rest ≡ text → bytes ≡ SEPARATOR ∷ text
slash_before bytes text same left e = stripped bytes (SEPARATOR ∷ []) same left ∙ ap (λ l. SEPARATOR ∷ l) e
