-- What a read of the connection in memory gives.
use Rattle.std.proofs.Common.{◌≡◌, ℕ, zero, suc, ◌<◌, ◌≤◌, Bool, true, false, List, [], ◌∷◌, Option, Some}
use Rattle.std.proofs.Common.{length, take, drop, min, refl, sym, ap, arith, All, take-append-drop, unwrap_or, slice_get}
use Rattle.std.proofs.lemmas.List.Elements.{All-head, All-tail}
use Rattle.std.proofs.lemmas.Bool.Decides.{nat_tests}
use Rattle.std.specs.Prelude.{◌==◌, if◌then◌else◌}
use Rattle.http_wire.specs.Calls.{StreamCall, gave, one_call}
use Rattle.http_wire.specs.MemConn.{ConnFacts, after_read, is_bad_read, next_count, next_read, shown_conn, taken}
use Rattle.http_wire.specs.Source.{ReadsStream, bytes_given}
use Rattle.http_wire.specs.Stream.{ShownStream}
use Rattle.http_wire.specs.Told.{Gains}
use Rattle.http_wire.specs.declared.source.ReadAnswer.TheVariants.{Bytes, End, Failed}
use Rattle.row_types.specs.Faults.{raised}

-- a cut, where there is one, and the bound else: not 0
limit_is_some : (cuts : List ℕ) (k bound : ℕ) → All (λ n. 0 < n) cuts → 0 < bound
    → 0 < unwrap_or (slice_get cuts k) bound
limit_is_some [] k bound each some = some
limit_is_some (cut ∷ cuts) zero bound each some = All-head (λ n. 0 < n) cut cuts each
limit_is_some (cut ∷ cuts) (suc k) bound each some = limit_is_some cuts k bound (All-tail (λ n. 0 < n) cut cuts each) some

-- a list without length is empty
pub is_empty : (xs : List ℕ) → length xs ≡ 0 → xs ≡ []
is_empty [] none = refl
is_empty (x ∷ xs) none = absurd (omega arith)

-- a count that is none
pub is_none : (n : ℕ) → (n == 0) ≡ true → n ≡ 0
is_none n none = grind (arith, nat_tests)

-- a read that gives nothing is at the end
nothing_left : (old : ConnFacts) (room : ℕ) → 0 < room → All (λ n. 0 < n) old.cuts
    → (next_count old room == 0) ≡ true → old.left ≡ []
nothing_left old room some each none = is_empty old.left (at_zero (length old.left) (is_none _ none) refl)
  where
    fits : ℕ
    fits = min room (length old.left)

    at_zero : (n : ℕ) → next_count old room ≡ 0 → n ≡ length old.left → n ≡ 0
    at_zero zero zero_count same = refl
    at_zero (suc n) zero_count same =
        let positive : 0 < min room (length old.left) = omega arith in
        let bound = limit_is_some old.cuts old.reads (min room (length old.left)) each positive in
        absurd (omega arith)

-- bytes that are not none
pub not_none : (n : ℕ) → (n == 0) ≡ false → 0 < n
not_none n some = grind (arith, nat_tests)

-- what a read gives, by whether it fails, and whether it gives nothing
read_gives : (side : ShownStream) (calls : Option (List StreamCall)) (left room : List ℕ) (faults n : ℕ) (bad none : Bool)
    → (none ≡ true → n ≡ 0) → (none ≡ true → left ≡ []) → (none ≡ false → 0 < n) → n ≤ length room
    → take (if bad then 0 else n) room ≡ take (if bad then 0 else n) left
    → faults ≤ (if bad then raised faults else faults)
    → Gains side.calls (one_call gave (bytes_given room (if bad then Failed else if none then End else Bytes n))) calls
    → ReadsStream room (record side { left = Some left; read_faults = faults })
    (record side {
      left = Some (drop (if bad then 0 else n) left);
      read_faults = if bad then raised faults else faults;
      calls = calls;
    })
    (if bad then Failed else if none then End else Bytes n)
read_gives side calls left room faults n true none zero_count ended some fits came later told = record {
  gives = refl;
  told = told;
  cause = record { later = later; rose = λ failed. omega arith };
  writing = record { written = refl; write_faults = refl };
}
read_gives side calls left room faults n false true zero_count ended some fits came later told = record {
  gives = (rw (zero_count refl) refl, λ tells. rw (zero_count refl) (ap Some (ended refl)));
  told = told;
  cause = record { later = later; rose = λ failed. absurd (cc) };
  writing = record { written = refl; write_faults = refl };
}
read_gives side calls left room faults n false false zero_count ended some fits came later told = record {
  gives = (some refl, fits, ap Some (rw came (sym (take-append-drop n left))));
  told = told;
  cause = record { later = later; rose = λ failed. absurd (cc) };
  writing = record { written = refl; write_faults = refl };
}

pub reads_is : (old : ConnFacts) (calls : Option (List StreamCall)) (was room : List ℕ) → 0 < length was
    → All (λ n. 0 < n) old.cuts → take (taken old (length was)) room ≡ take (taken old (length was)) old.left
    → length room ≡ length was → old.read_faults ≤ (after_read old (length was)).read_faults
    → Gains old.calls (one_call gave (bytes_given room (next_read old (length was)))) calls
    → ReadsStream room (shown_conn old) (shown_conn (record (after_read old (length was)) { calls = calls }))
    (next_read old (length was))
reads_is old calls was room some each came same later told =
    let fits : next_count old (length was) ≤ length room = omega arith in
    read_gives (shown_conn old) calls old.left room old.read_faults (next_count old (length was))
    (is_bad_read old) (next_count old (length was) == 0)
    (is_none _) (nothing_left old (length was) some each) (not_none _) fits came later told
