-- Keys that compare as equal say the same.
use Rattle.std.proofs.Common.{◌≡◌, ℕ, true, List, Option, Some, None, Bor, refl, sym, ◌∙◌, ap}
use Rattle.std.specs.BTreeMap.{is_at}
use Rattle.std.specs.Cmp.Lexicographic.{slice_cmp}
use Rattle.std.specs.Option.{option_map, option_cmp}
use Rattle.std.specs.Ordering.{nat_cmp, is_eq, ordering_then}
use Rattle.std.specs.declared.cmp.Ordering.{Ordering}
use Rattle.std.specs.declared.cmp.Ordering.TheVariants.{Less, Equal, Greater}
use Rattle.std.proofs.lemmas.Bool.{false≢true}
use Rattle.std.proofs.lemmas.Map.Lookups.{exact_bytes, exact_unsigned}
use Rattle.source_paths.specs.contracts.tables.TableKeyOrd.TheImpl.{cmp-value}
use Rattle.source_paths.specs.declared.tables.TableKey.{TableKey}
use Rattle.source_paths.specs.Keys.{key_entry}

pub equal : (o : Ordering) → is_eq o ≡ true → o ≡ Equal
equal Less e = absurd (false≢true e)
equal Equal e = refl
equal Greater e = absurd (false≢true e)

-- of two orders in a row both answer Equal
both_equal : (a b : Ordering) → ordering_then a b ≡ Equal → (a ≡ Equal) × (b ≡ Equal)
both_equal Less b e = absurd (cc)
both_equal Equal b e = (refl, e)
both_equal Greater b e = absurd (cc)

-- values that may not be there and compare as equal say the same
option_same : {A B : Type 0} (R : A → A → Ordering) (facts : A → B) → ((x y : A) → R x y ≡ Equal → facts x ≡ facts y)
    → (p q : Option A) → option_cmp R p q ≡ Equal → option_map facts p ≡ option_map facts q
option_same R facts exact None None e = refl
option_same R facts exact None (Some y) e = absurd (cc)
option_same R facts exact (Some x) None e = absurd (cc)
option_same R facts exact (Some x) (Some y) e = ap Some (exact x y e)

as_is : (p : Option ℕ) → option_map (λ n. n) p ≡ p
as_is None = refl
as_is (Some n) = refl

pub key_same : (key other : TableKey) → is_at (cmp-value.it key) other ≡ true → key_entry key ≡ key_entry other
key_same key other e =
    let (offset, rest) = both_equal (nat_cmp key.offset other.offset)
    (ordering_then (option_cmp nat_cmp key.base other.base)
    (option_cmp (λ x y. slice_cmp nat_cmp x.now y.now) key.directory other.directory)) (equal (cmp-value.it key other) e) in
    let (base, directory) = both_equal (option_cmp nat_cmp key.base other.base)
    (option_cmp (λ x y. slice_cmp nat_cmp x.now y.now) key.directory other.directory) rest in
    ap (λ (n : ℕ). record (key_entry key) { stmt_list = Some n }) (exact_unsigned key.offset other.offset offset)
    ∙ ap (λ (b : Option ℕ). record (key_entry key) { stmt_list = Some other.offset; str_offsets_base = b })
    (sym (as_is key.base) ∙ option_same nat_cmp (λ n. n) exact_unsigned key.base other.base base ∙ as_is other.base)
    ∙ ap (λ (d : Option (List ℕ)). record (key_entry other) { comp_dir = d })
    (option_same (λ (x y : Bor (List ℕ)). slice_cmp nat_cmp x.now y.now) (λ x. x.now) (λ x y. exact_bytes x.now y.now) key.directory other.directory directory)
