-- Entries of folders, and when two are the same.
use Rattle.std.proofs.Common.{◌≡◌, ℕ, Bool, true, List, Decides, refl, sym, ◌∙◌, ap, subst}
use Rattle.std.specs.Str.{bytes_eq}
use Rattle.std.proofs.lemmas.Bool.{false≢true, and_from, and_parts}
use Rattle.std.proofs.lemmas.Bool.Decides.{same_from_decides}
use Rattle.std.proofs.lemmas.Slice.Eq.{bytes_eq-Decides}
use Rattle.tree_trait.specs.Entry.{EntryFacts, same_kind, same_entry}
use Rattle.tree_trait.specs.declared.entry.EntryKind.{EntryKind}
use Rattle.tree_trait.specs.declared.entry.EntryKind.TheVariants.{Folder, File, Other}

-- a test of whether two are one goes both ways
back : {X : Type 0} (same : X → X → Bool) → ((a b : X) → Decides (same a b) (a ≡ b)) → (a b : X)
    → same a b ≡ same b a
back same decides a b = same_from_decides (same a b) (same b a) (decides a b)
    (λ t. sym ((decides b a).0 t), λ e. (decides b a).1 (sym e))

pub bytes_back : (a b : List ℕ) → bytes_eq a b ≡ bytes_eq b a
bytes_back = back bytes_eq bytes_eq-Decides

kind_itself : (k : EntryKind) → same_kind k k ≡ true
kind_itself Folder = refl
kind_itself _ = refl

kinds_same : (k j : EntryKind) → same_kind k j ≡ true → k ≡ j
kinds_same Folder Folder h = refl
kinds_same File File h = refl
kinds_same Other Other h = refl
kinds_same _ _ h = absurd (false≢true h)

-- an entry is the same as itself, and two that are the same are one
pub entry_itself : (e : EntryFacts) → same_entry e e ≡ true
entry_itself e = and_from _ _ ((bytes_eq-Decides e.name e.name).1 refl) (kind_itself e.kind)

pub entries_same : (a b : EntryFacts) → same_entry a b ≡ true → a ≡ b
entries_same a b h =
    let parts = and_parts (bytes_eq a.name b.name) (same_kind a.kind b.kind) h in
    ap (λ (n : List ℕ). record { name = n; kind = a.kind }) ((bytes_eq-Decides a.name b.name).0 parts.0)
    ∙ ap (λ (k : EntryKind). record { name = b.name; kind = k }) (kinds_same a.kind b.kind parts.1)

pub entry_back : (e f : EntryFacts) → same_entry e f ≡ same_entry f e
entry_back = back same_entry
    (λ a b. (entries_same a b, λ e. subst (λ (x : EntryFacts). same_entry a x ≡ true) e (entry_itself a)))
