-- How long notes are.
use Rattle.std.proofs.Common.{◌≡◌, ℕ, ◌+◌, ◌*◌, ◌≤◌, List, [], ◌∷◌, ◌++◌, length, sum_by, refl, arith, length-append}
use Rattle.std.proofs.lemmas.List.{length-replicate}
use Rattle.std.proofs.lemmas.List.Sums.{sum_by-cons}
use Rattle.std.specs.Int.{w32}
use Rattle.std.specs.List.{flat_map}
use Rattle.sample_files.specs.declared.shape.Order.{Order}
use Rattle.sample_files.specs.declared.shape.Order.TheVariants.{Little, Big}
use Rattle.sample_files.specs.Fields.{spelled}
use Rattle.sample_files.specs.Notes.{gnu_note, note, zero_padded}
use Rattle.sample_files.specs.Samples.{wide_notes}

pub length-word : (order : Order) (n : ℕ) → length (spelled order w32 n) ≡ 4
unfolding spelled
length-word Little n = refl
length-word Big n = refl

pub length-gnu_note : (order : Order) (kind : ℕ) (descriptor : List ℕ)
    → length (gnu_note order kind descriptor) ≡ 16 + length descriptor
length-gnu_note order kind descriptor = simp (length-append, length-word) (omega arith)

pub length-padded : (bytes : List ℕ) → length (zero_padded 4 bytes) ≤ length bytes + 4
length-padded bytes = simp (length-append, length-replicate {A = ℕ}) (omega arith)

pub length-padded_notes : {X : Type 0} (view : X → List ℕ) (order : Order) (ids : List X)
    → length (flat_map (λ id. zero_padded 4 (note order (view id))) ids) ≤ 20 * length ids
    + sum_by (λ id. length (view id)) ids
length-padded_notes view order [] = omega arith
length-padded_notes {X} view order (id ∷ rest) =
    let bytes : X → List ℕ = λ x. zero_padded 4 (note order (view x)) in
    let all : sum_by (λ x. length (view x)) (id ∷ rest)
    ≡ length (view id) + sum_by (λ x. length (view x)) rest =
    sum_by-cons (λ x. length (view x)) id rest in
    let here : length (bytes id) ≤ length (note order (view id)) + 4 =
    length-padded (note order (view id)) in
    let own : length (note order (view id)) ≡ 16 + length (view id) =
    length-gnu_note order 3 (view id) in
    let later : length (flat_map bytes rest) ≤ 20 * length rest
    + sum_by (λ x. length (view x)) rest = length-padded_notes view order rest in
    let both : length (bytes id ++ flat_map bytes rest)
    ≡ length (bytes id) + length (flat_map bytes rest) =
    length-append (bytes id) (flat_map bytes rest) in
    omega arith

-- how long notes are
pub ruleset note_steps = (length-gnu_note, length-padded_notes)

pub length-wide_notes : (order : Order) → length (wide_notes order) ≡ 51
unfolding spelled
length-wide_notes Little = refl
length-wide_notes Big = refl

-- how long the notes at an alignment of 8 are
pub ruleset wide_steps = (length-wide_notes)
