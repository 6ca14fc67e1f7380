-- What holds of an opening and of reads of its file holds of all that was heard of it.
use Rattle.std.proofs.Common.{◌≡◌, ◌⊎◌, inl, inr, ℕ, Bool, true, false, if◌then◌else◌, List, [], ◌∷◌, ◌++◌, refl, sym, ◌∙◌, ap, subst, append_assoc}
use Rattle.std.specs.List.{All, Contains}
use Rattle.std.proofs.lemmas.List.{append-nil}
use Rattle.std.proofs.lemmas.List.Elements.{All-append, All-cons, All-contains, All-nil, All-weaker, Contains-append_left}
use Rattle.row_types.specs.Name.{NameFacts}
use Rattle.scan_worker.specs.Read.{ReadsName, heard_opening, heard_reading}
use Rattle.scan_worker.specs.declared.read.NameRead.{NameRead}
use Rattle.tree_trait.specs.Fills.{IsReadOfFile}
use Rattle.tree_trait.specs.Found.{Versions}
use Rattle.tree_trait.specs.Heard.{Heard, load, stat, read_dir, open_file, read_at, wants_memory}
use Rattle.tree_trait.specs.Listens.{heard_or_none}
use Rattle.tree_trait.specs.Open.{OpenFacts}
use Rattle.tree_trait.specs.Shown.{ShownTree}
use Rattle.tree_trait.specs.declared.stat.StatAnswer.{StatAnswer}
use Rattle.tree_trait.proofs.ListenLemmas.{all_heard, is_heard}
use Rattle.pass_runner.specs.Helped.{IsSparing}
use Rattle.pass_runner.specs.Settled.{AreReadingsAndLooks, none_heard, one_file, one_look}

module _ (name : NameFacts) (answer : OpenFacts) (reads : List Heard) where
  pub all_reading : (P : Heard → Type 0) → P (heard_opening name answer) → ((asked : Heard) → IsReadOfFile name asked → P asked)
      → All (IsReadOfFile name) reads → All P (heard_reading name answer reads)
  all_reading P opening each own =
      All-append P (heard_or_none (heard_opening name answer)) reads (all_heard P (heard_opening name answer) opening)
      (All-weaker (IsReadOfFile name) P each reads own)

  -- the opening was heard, where memory wasn't refused
  pub opening_heard : wants_memory (heard_opening name answer) ≡ false
      → Contains (heard_reading name answer reads) (heard_opening name answer)
  opening_heard given =
      Contains-append_left (heard_or_none (heard_opening name answer)) reads (heard_opening name answer)
      (is_heard (heard_opening name answer) given)

  -- an opening that was heard is that one
  pub that_opening : All (IsReadOfFile name) reads → (n : NameFacts) (other : OpenFacts)
      → Contains (heard_reading name answer reads) (heard_opening n other) → heard_opening name answer ≡ heard_opening n other
  that_opening own n other there =
      of (All-contains (λ (x : Heard). (heard_opening name answer ≡ x) ⊎ IsReadOfFile name x) (heard_reading name answer reads)
      (heard_opening n other)
      (all_reading (λ (x : Heard). (heard_opening name answer ≡ x) ⊎ IsReadOfFile name x) (inl refl) (λ asked read. inr read) own)
      there)
    where
      of : (heard_opening name answer ≡ heard_opening n other) ⊎ IsReadOfFile name (heard_opening n other)
          → heard_opening name answer ≡ heard_opening n other
      of (inl same) = same
      of (inr read) = absurd read

-- reads spare no name where none is spared
pub read_spares_all : (name : NameFacts) (asked : Heard) → IsReadOfFile name asked → IsSparing [] asked
read_spares_all name (read_at given at answer) own = refl
read_spares_all name (load path limit answer) own = absurd own
read_spares_all name (stat path answer) own = absurd own
read_spares_all name (read_dir path answer) own = absurd own
read_spares_all name (open_file path limit answer) own = absurd own

-- ---- files and looks, one behind the other

module _ {looks : List ℕ → Bool} where
  pub readings_none : AreReadingsAndLooks looks []
  readings_none = none_heard

  -- a listed file
  pub readings_of : {W : Type 0} {told : Bool} {version : Versions} {before after : ShownTree} {given : NameRead W} (name : NameFacts)
      (does : ReadsName told version name before after given) → AreReadingsAndLooks looks (heard_reading name does.answer does.reads)
  readings_of name does =
      one_file name does.answer does.reads [] (heard_reading name does.answer does.reads)
      (sym (append-nil (heard_reading name does.answer does.reads))) does.own does.parts none_heard

  -- a look, where memory for it wasn't refused
  pub readings_look : (path : List ℕ) (answer : StatAnswer) → looks path ≡ true
      → AreReadingsAndLooks looks (heard_or_none (stat path answer))
  readings_look path answer under =
      elim (wants_memory (stat path answer)) as (λ b. AreReadingsAndLooks looks (if b then [] else stat path answer ∷ [])) [
        | true ↦ none_heard
        | false ↦ one_look path answer [] (stat path answer ∷ []) under refl none_heard
      ]

  pub readings_both : {xs : List Heard} (ys : List Heard) → AreReadingsAndLooks looks xs → AreReadingsAndLooks looks ys
      → AreReadingsAndLooks looks (xs ++ ys)
  readings_both ys none_heard q = q
  readings_both ys (one_look path answer more all under is rest) q =
      one_look path answer (more ++ ys) (all ++ ys) under (ap (λ (heard : List Heard). heard ++ ys) is) (readings_both ys rest q)
  readings_both ys (one_file name answer reads more all is own parts rest) q =
      one_file name answer reads (more ++ ys) (all ++ ys)
      (ap (λ (heard : List Heard). heard ++ ys) is ∙ append_assoc (heard_reading name answer reads) more ys) own parts
      (readings_both ys rest q)

  -- all of them are openings, up to the largest size that is read, reads and looks
  pub readings_spare : {xs : List Heard} → AreReadingsAndLooks looks xs → All (IsSparing []) xs
  readings_spare none_heard = All-nil (IsSparing [])
  readings_spare (one_look path answer more all under is rest) =
      subst (λ (heard : List Heard). All (IsSparing []) heard) (sym is)
      (All-cons (IsSparing []) (stat path answer) more tt (readings_spare rest))
  readings_spare (one_file name answer reads more all is own parts rest) =
      subst (λ (heard : List Heard). All (IsSparing []) heard) (sym is)
      (All-append (IsSparing []) (heard_reading name answer reads) more
      (all_reading name answer reads (IsSparing []) (refl, refl) (read_spares_all name) own) (readings_spare rest))
