-- How large the files are.
use Rattle.std.proofs.Common.{◌≡◌, ℕ, ◌-◌, List, [], ◌∷◌, length, refl, sym, ◌∙◌, ap, min, arith}
use Rattle.std.proofs.lemmas.List.{length-take}
use Rattle.sha2.proofs.Facts256.{length-sha256}
use Rattle.sample_files.specs.Fields.{spelled}
use Rattle.sample_files.specs.Layout.{plain_layout}
use Rattle.sample_files.specs.Samples.{debug_companion_of, dwarf_five_of, executable_of}
use Rattle.elf_forge.specs.Forge.{forged_file, folder_of, forged, forged_id, kind_of}
use Rattle.elf_forge.specs.declared.kind.Kind.{Kind}
use Rattle.elf_forge.specs.declared.kind.Kind.TheVariants.{Whole, Executable, Companion, Text}

-- a list of 20 elements by its elements
data Twenty : List ℕ → Type 0 where
  twenty : (a b c d e f g h i j k l m n o p q r s t : ℕ)
      → Twenty (a ∷ b ∷ c ∷ d ∷ e ∷ f ∷ g ∷ h ∷ i ∷ j ∷ k ∷ l ∷ m ∷ n ∷ o ∷ p ∷ q ∷ r ∷ s ∷ t ∷ [])

twenty_of : (xs : List ℕ) → length xs ≡ 20 → Twenty xs
twenty_of (a ∷ b ∷ c ∷ d ∷ e ∷ f ∷ g ∷ h ∷ i ∷ j ∷ k ∷ l ∷ m ∷ n ∷ o ∷ p ∷ q ∷ r ∷ s ∷ t ∷ []) _ =
    twenty a b c d e f g h i j k l m n o p q r s t
twenty_of _ size = absurd (omega (arith, size))

-- an id has 20 bytes
id_long : (seed k : ℕ) → Twenty (forged_id seed k)
unfolding forged_id
id_long seed k = twenty_of _ (length-take 20 _ ∙ ap (λ n. min 20 n) (length-sha256 _))

executable_long : (id : List ℕ) → Twenty id → length (executable_of id) ≡ 408
unfolding spelled plain_layout
executable_long _ (twenty a b c d e f g h i j k l m n o p q r s t) = refl

companion_long : (id : List ℕ) → Twenty id → length (debug_companion_of id) ≡ 584
unfolding spelled plain_layout
companion_long _ (twenty a b c d e f g h i j k l m n o p q r s t) = refl

whole_long : (id : List ℕ) → Twenty id → (number : ℕ) → length (dwarf_five_of id (folder_of number)) ≡ 1024
unfolding spelled plain_layout
whole_long _ (twenty a b c d e f g h i j k l m n o p q r s t) number = refl

-- the size of a file, by what it is
abbrev pub size_by : Kind → ℕ
size_by Whole = 1024
size_by Executable = 408
size_by Companion = 584
size_by Text = 12

file_long : (kind : Kind) (seed k : ℕ) → length (forged_file kind seed k) ≡ size_by kind
file_long Whole seed k = whole_long (forged_id seed k) (id_long seed k) k
file_long Executable seed k = executable_long (forged_id seed k) (id_long seed k)
file_long Companion seed k = companion_long (forged_id seed (k - 1)) (id_long seed (k - 1))
file_long Text seed k = refl

pub forged_long : (seed k : ℕ) → length (forged seed k) ≡ size_by (kind_of k)
unfolding forged
forged_long seed k = file_long (kind_of k) seed k

-- the file of a number, by what it is
pub forged_as : (kind : Kind) (seed k : ℕ) → kind ≡ kind_of k → forged seed k ≡ forged_file kind seed k
unfolding forged
forged_as kind seed k e = ap (λ x. forged_file x seed k) (sym e)
