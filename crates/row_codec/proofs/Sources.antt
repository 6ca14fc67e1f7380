-- Sources that are read one by one.
use Rattle.std.proofs.Common.{◌≡◌, ℕ, zero, suc, ◌-◌, ◌<◌, ◌++◌, true, false, Option, Some, None, List, [], ◌∷◌, length, refl, sym, ◌∙◌, ap, arith, append_assoc}
use Rattle.std.specs.Prelude.{Result, Ok, Err}
use Rattle.std.specs.List.{slice_get}
use Rattle.std.proofs.lemmas.List.{append-nil}
use Rattle.row_codec.specs.Read.{and_then, is_above, path_at, paths_at}
use Rattle.row_codec.specs.declared.fault.CodecFault.{CodecFault}
use Rattle.row_codec.specs.declared.fault.CodecFault.TheVariants.{BadOrder}
use Rattle.row_codec.proofs.Fronts.{fails, given, leads, passes_test, test_failed}
use Rattle.row_codec.proofs.OneSpelling.{Follows}

-- the last of paths behind another, if there is one
abbrev pub last_of : Option (List ℕ) → List (List ℕ) → Option (List ℕ)
last_of last [] = last
last_of last (p ∷ ps) = last_of (Some p) ps

last_behind : (p : List ℕ) (ps : List (List ℕ)) → slice_get (p ∷ ps) (length ps) ≡ last_of (Some p) ps
last_behind p [] = refl
last_behind p (q ∷ ps) = last_behind q ps

-- the last of paths stands at their end
pub last_there : (ps : List (List ℕ)) → slice_get ps (length ps - 1) ≡ last_of None ps
last_there [] = refl
last_there (p ∷ ps) =
    let same : length (p ∷ ps) - 1 ≡ length ps = omega arith in ap (slice_get (p ∷ ps)) same ∙ last_behind p ps

pub last_pushed : (last : Option (List ℕ)) (ps : List (List ℕ)) (p : List ℕ) → last_of last (ps ++ p ∷ []) ≡ Some p
last_pushed last [] p = refl
last_pushed last (q ∷ ps) p = last_pushed (Some q) ps p

pub follows_push : (last : Option (List ℕ)) (ps : List (List ℕ)) (p : List ℕ) → Follows last ps → is_above (last_of last ps) p ≡ true → Follows last (ps ++ p ∷ [])
follows_push last [] p h above = (above, tt)
follows_push last (q ∷ ps) p h above = (h.0, follows_push (Some q) ps p h.1 above)

-- the paths that were read, and then those that follow
abbrev pub behind : List (List ℕ) → Result (List (List ℕ) × List ℕ) CodecFault → Result (List (List ℕ) × List ℕ) CodecFault
behind ps (Ok more) = Ok (ps ++ more.0, more.1)
behind ps (Err fault) = Err fault

pub behind_none : (r : Result (List (List ℕ) × List ℕ) CodecFault) → r ≡ behind [] r
behind_none (Ok more) = refl
behind_none (Err fault) = refl

behind_more : (ps : List (List ℕ)) (p : List ℕ) (r : Result (List (List ℕ) × List ℕ) CodecFault) → behind ps (and_then r (λ more rest. Ok (p ∷ more, rest))) ≡ behind (ps ++ p ∷ []) r
unfolding and_then
behind_more ps p (Ok more) = ap (λ (xs : List (List ℕ)). given xs more.1) (sym (append_assoc ps (p ∷ []) more.0))
behind_more ps p (Err fault) = refl

-- one more path is read
pub one_more : (ps : List (List ℕ)) (n : ℕ) (last : Option (List ℕ)) (bytes : List ℕ) (p rest : List ℕ) → 0 < n → path_at bytes ≡ Ok (p, rest) → is_above last p ≡ true → behind ps (paths_at n last bytes) ≡ behind (ps ++ p ∷ []) (paths_at (n - 1) (Some p) rest)
unfolding paths_at
one_more ps zero last bytes p rest some e above = absurd (omega arith)
one_more ps (suc n) last bytes p rest some e above =
    let same : suc n - 1 ≡ n = omega arith in
    ap (behind ps) (leads _ _ _ _ _ e (leads _ _ _ _ _ (passes_test (is_above last p) p rest BadOrder above) refl)) ∙ behind_more ps p (paths_at n (Some p) rest)
    ∙ ap (λ (k : ℕ). behind (ps ++ p ∷ []) (paths_at k (Some p) rest)) (sym same)

-- or it has a fault, or is out of order
pub path_fails : (ps : List (List ℕ)) (n : ℕ) (last : Option (List ℕ)) (bytes : List ℕ) (fault : CodecFault) → 0 < n → path_at bytes ≡ Err fault → behind ps (paths_at n last bytes) ≡ Err fault
unfolding paths_at
path_fails ps zero last bytes fault some e = absurd (omega arith)
path_fails ps (suc n) last bytes fault some e = ap (behind ps) (fails _ _ _ e)

pub order_fails : (ps : List (List ℕ)) (n : ℕ) (last : Option (List ℕ)) (bytes : List ℕ) (p rest : List ℕ) → 0 < n → path_at bytes ≡ Ok (p, rest) → is_above last p ≡ false → behind ps (paths_at n last bytes) ≡ Err BadOrder
unfolding paths_at
order_fails ps zero last bytes p rest some e above = absurd (omega arith)
order_fails ps (suc n) last bytes p rest some e above =
    ap (behind ps) (leads _ _ _ _ _ e (fails _ _ _ (test_failed (is_above last p) p rest BadOrder above)))

-- no more are to be read
pub all_read : (ps : List (List ℕ)) (n : ℕ) (last : Option (List ℕ)) (bytes : List ℕ) → n ≡ 0 → behind ps (paths_at n last bytes) ≡ Ok (ps, bytes)
unfolding paths_at
all_read ps zero last bytes none = ap (λ (xs : List (List ℕ)). given xs bytes) (append-nil ps)
all_read ps (suc n) last bytes none = absurd (omega arith)
