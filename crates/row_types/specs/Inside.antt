-- The fields of a build-id, from its bytes alone (this project's rule). The lemmas stand here since the invariant's law cites them.
use Rattle.std.specs.Prelude.{◌≡◌, ℕ, ◌+◌, ◌-◌, ◌≤◌, List, length, take, replicate, max}
use Rattle.std.proofs.Common.{sym, ◌∙◌, ap, subst, length-append}
use Rattle.std.proofs.Math.Nat.{add_comm, le-max_left, le_trans, sub-add-eq-max}
use Rattle.std.proofs.lemmas.List.{length-replicate, length-take-le}
use Rattle.row_types.specs.declared.build_id.BuildId.TheInside.{Inside}
use Rattle.row_types.specs.declared.build_id.TheConstants.{LONGEST_ID}
use Rattle.row_types.specs.BuildId.{IsPlaced, padded}

-- the fields from the bytes and the length
abbrev pub of_fields : List ℕ → ℕ → Inside
of_fields bytes len = record { bytes = bytes; len = len }

-- as many bytes stand in front as the length says
pub length_of_front : (bytes : List ℕ) (len : ℕ) → len ≤ LONGEST_ID → bytes ≡ padded (take len bytes) → length (take len bytes) ≡ len
length_of_front bytes len most zeros =
    let front : ℕ = length (take len bytes) in
    let whole : length bytes ≡ front + (LONGEST_ID - front) =
    ap length zeros ∙ length-append (take len bytes) (replicate (LONGEST_ID - front) 0) ∙ ap (λ n. front + n) (length-replicate (LONGEST_ID - front) 0) in
    let filled : length bytes ≡ max LONGEST_ID front = whole ∙ add_comm front (LONGEST_ID - front) ∙ sub-add-eq-max LONGEST_ID front in
    length-take-le len bytes (le_trans most (subst (λ n. LONGEST_ID ≤ n) (sym filled) (le-max_left LONGEST_ID front)))

-- a placed id's fields are those of its bytes
pub inside_again : (a : Inside) → IsPlaced a.bytes a.len → of_fields (padded (take a.len a.bytes)) (length (take a.len a.bytes)) ≡ a
inside_again a placed =
    ap (of_fields (padded (take a.len a.bytes))) (length_of_front a.bytes a.len placed.sized.most placed.zeros)
    ∙ ap (λ b. of_fields b a.len) (sym placed.zeros)
