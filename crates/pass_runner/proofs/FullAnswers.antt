-- What a walk heard stays full, and leads to the same listing, where no reading of a folder follows it.
use Rattle.std.proofs.Common.{◌≡◌, ℕ, inl, inr, true, List, [], ◌∷◌, ◌++◌, Option, Some, None, IsSome, refl, sym, ◌∙◌, ap, subst}
use Rattle.std.specs.List.{All}
use Rattle.std.specs.Option.{option_or}
use Rattle.std.proofs.lemmas.List.Elements.{All-head, All-tail}
use Rattle.path_scope.specs.Scope.{Scope}
use Rattle.row_types.specs.Name.{NameFacts}
use Rattle.tree_trait.specs.Dir.{DirFacts}
use Rattle.tree_trait.specs.Entry.{has_entry}
use Rattle.tree_trait.specs.Heard.{Heard, load, stat, read_dir, open_file, read_at}
use Rattle.tree_trait.specs.declared.entry.EntryKind.{EntryKind}
use Rattle.tree_trait.specs.declared.entry.EntryKind.TheVariants as kind
use Rattle.tree_trait.specs.declared.stat.StatAnswer.{StatAnswer}
use Rattle.tree_walk.specs.Answers.{listed_entries, first_look, first_reading, first_some, look_at, reading_of}
use Rattle.tree_walk.specs.Walked.{AsksAll, IsCandidate, IsEntry, IsFileEntry, IsFolder, IsNamed, IsReached, IsWalkListing, IsWalked, root, entry}
use Rattle.tree_walk.proofs.FirstLemmas.{first_some-append, or_none}
use Rattle.tree_walk.proofs.ReachLemmas.{candidate_more}

module _ (scope : Scope) (Asked : Heard → Type 0)
    (never : (path : List ℕ) (answer : DirFacts) → Asked (read_dir path answer) → ⊥) where
  reads_none : (path : List ℕ) (more : List Heard) → All Asked more
      → first_some (reading_of path) more ≡ None
  reads_none path [] wanted = refl
  reads_none path (load asked limit answer ∷ more) wanted =
      reads_none path more (All-tail Asked (load asked limit answer) more wanted)
  reads_none path (stat asked answer ∷ more) wanted =
      reads_none path more (All-tail Asked (stat asked answer) more wanted)
  reads_none path (open_file asked limit answer ∷ more) wanted =
      reads_none path more (All-tail Asked (open_file asked limit answer) more wanted)
  reads_none path (read_at name at answer ∷ more) wanted =
      reads_none path more (All-tail Asked (read_at name at answer) more wanted)
  reads_none path (read_dir asked answer ∷ more) wanted =
      absurd (never asked answer (All-head Asked (read_dir asked answer) more wanted))

  module _ (answers more : List Heard) (wanted : All Asked more) where
    same_reading : (path : List ℕ) → first_reading (answers ++ more) path ≡ first_reading answers path
    same_reading path =
        first_some-append (reading_of path) answers more
        ∙ ap (option_or (first_reading answers path)) (reads_none path more wanted) ∙ or_none (first_reading answers path)

    named_before : (folder : List ℕ) (k : EntryKind) (path : List ℕ) → IsNamed (answers ++ more) folder k path
        → IsNamed answers folder k path
    named_before folder k path n = record {
      name = n.name;
      listed =
          subst (λ (d : Option DirFacts). has_entry (listed_entries d) (record { name = n.name; kind = k }) ≡ true)
          (same_reading folder) n.listed;
      joined = n.joined;
    }

    reached_before : (path : List ℕ) → IsReached (answers ++ more) scope path → IsReached answers scope path
    reached_before path (root p c) = root p c
    reached_before path (entry folder p k r n) = entry folder p k (reached_before folder r) (named_before folder k p n)

    entry_before : (k : EntryKind) (path : List ℕ) → IsEntry (answers ++ more) scope k path → IsEntry answers scope k path
    entry_before k path e = record {
      folder = e.folder;
      reached = reached_before e.folder e.reached;
      named = named_before e.folder k path e.named;
    }

    file_before : (path : List ℕ) → IsFileEntry (answers ++ more) scope path → IsFileEntry answers scope path
    file_before path e = record { at = entry_before kind.File path e.at; taken = e.taken }

    same_or : (a b : Option StatAnswer) → IsSome a → option_or a b ≡ a
    same_or (Some x) b h = refl
    same_or None b h = absurd (cc)

    same_look : (path : List ℕ) → IsSome (first_look answers path) → first_look (answers ++ more) path ≡ first_look answers path
    same_look path some =
        first_some-append (look_at path) answers more
        ∙ same_or (first_look answers path) (first_some (look_at path) more) some

    still_looked : (path : List ℕ) → IsSome (first_look answers path) → IsSome (first_look (answers ++ more) path)
    still_looked path some = subst (λ (o : Option StatAnswer). IsSome o) (sym (same_look path some)) some

    module _ (full : AsksAll answers scope) where
      folder_before : (path : List ℕ) → IsFolder (answers ++ more) scope path → IsFolder answers scope path
      folder_before path (inl r) =
          inl (record { root = r.root; folder = sym (same_look path (full.looked path r.root)) ∙ r.folder })
      folder_before path (inr e) = inr (entry_before kind.Folder path e)

      -- all of it is full
      pub full_stays : AsksAll (answers ++ more) scope
      full_stays = record {
        looked = λ path r. still_looked path (full.looked path r);
        folders = λ path f short.
            subst (λ (o : Option DirFacts). IsSome o) (sym (same_reading path)) (full.folders path (folder_before path f) short);
        files = λ path e short. still_looked path (full.files path (file_before path e) short);
      }

      looked_before : (name : NameFacts) (w : IsWalked (answers ++ more) scope name) → IsWalked answers scope name
      looked_before name w = by w.candidate
        where
          by : IsCandidate (answers ++ more) scope name.path → IsWalked answers scope name
          by (inl r) = record {
            candidate = inl r;
            taken = w.taken;
            short = w.short;
            file = sym (same_look name.path (full.looked name.path r)) ∙ w.file;
          }
          by (inr e) =
              let before : IsFileEntry answers scope name.path = file_before name.path e in
              record {
                candidate = inr before;
                taken = w.taken;
                short = w.short;
                file = sym (same_look name.path (full.files name.path before w.short)) ∙ w.file;
              }

      looked_after : (name : NameFacts) → IsWalked answers scope name → IsWalked (answers ++ more) scope name
      looked_after name w = record {
        candidate = candidate_more answers more scope name.path w.candidate;
        taken = w.taken;
        short = w.short;
        file = same_look name.path (subst (λ (o : Option StatAnswer). IsSome o) (sym w.file) refl) ∙ w.file;
      }

      -- and leads to the same listing
      pub listing_stays : (found : List NameFacts) → IsWalkListing answers scope found
          → IsWalkListing (answers ++ more) scope found
      listing_stays found h = record {
        by_path = h.by_path;
        all = λ name. (
          λ there. looked_after name ((h.all name).0 there),
          λ w. (h.all name).1 (looked_before name w),
        );
      }
