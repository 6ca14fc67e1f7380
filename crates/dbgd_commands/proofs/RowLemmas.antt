-- Values of a store that are rows, and such that aren't.
use Rattle.std.proofs.Common.{◌≡◌, ℕ, zero, suc, ◌≤◌, List, [], ◌∷◌, length, refl, sym, ◌∙◌, ap, subst, Option, Some, None, Ok, arith}
use Rattle.std.specs.List.{All, Contains}
use Rattle.std.proofs.lemmas.List.Elements.{All-head, All-tail, Contains-append_right}
use Rattle.row_types.specs.Row.{RowFacts}
use Rattle.row_codec.specs.Read.{row_of_bytes}
use Rattle.row_codec.specs.RowBytes.{IsRowBytes, row_bytes}
use Rattle.row_codec.specs.Spelled.{IsSpelled}
use Rattle.row_codec.specs.declared.fault.CodecFault.{CodecFault}
use Rattle.row_codec.proofs.OneSpelling.{one_row, row_read}
use Rattle.index_keeper.specs.Tables.{KeptFacts}
use Rattle.index_rows.specs.declared.rows.TheConstants.{LOG_LIMIT}
use Rattle.index_state.specs.Kept.{kept_row, tables_of_rows}
use Rattle.index_state.specs.Opening.{AreRows, IsBad, IsFirstBad, IsOverfull, current}

-- a row's bytes are its own
own_bytes : {row : RowFacts} → IsSpelled row → IsRowBytes row (row_bytes row)
own_bytes spelled = record { spelled = spelled; written = refl }

-- what is kept of a row isn't bad
good : {row : RowFacts} (value : KeptFacts) (fault : Option CodecFault) → IsSpelled row → value ≡ kept_row row
    → IsBad value fault → ⊥
good {row} value None spelled is bad =
    let same : bad.row ≡ row
    = one_row bad.row row value.bytes bad.spelled
    (subst (λ (bytes : List ℕ). IsRowBytes row bytes) (sym (ap (λ (v : KeptFacts). v.bytes) is)) (own_bytes spelled)) in
    bad.elsewhere (ap (λ (r : RowFacts). r.name.path) same ∙ sym (ap (λ (v : KeptFacts). v.path) is))
good {row} value (Some fault) spelled is bad =
    let read : row_of_bytes value.bytes ≡ Ok row
    = row_read row value.bytes
    (subst (λ (bytes : List ℕ). IsRowBytes row bytes) (sym (ap (λ (v : KeptFacts). v.bytes) is)) (own_bytes spelled)) in
    let first = bad.first in
    absurd (cc (read, first))

-- a value of the tables of rows is kept of one of them
kept_of_one : (rows : List RowFacts) (value : KeptFacts) (fault : Option CodecFault) → All IsSpelled rows
    → Contains (tables_of_rows rows) value → IsBad value fault → ⊥
kept_of_one [] value fault spelled held bad = absurd (let h = held.1 in omega arith)
kept_of_one (row ∷ rows) value fault spelled (zero, h, is) bad =
    good {row = row} value fault (All-head IsSpelled row rows spelled) (sym is) bad
kept_of_one (row ∷ rows) value fault spelled (suc k, h, is) bad =
    kept_of_one rows value fault (All-tail IsSpelled row rows spelled) (k, omega arith, is) bad

-- values that are rows hold none that isn't
pub none_bad : {rows : List RowFacts} {values : List KeptFacts} {value : KeptFacts} (fault : Option CodecFault)
    → AreRows rows values → Contains values value → IsBad value fault → ⊥
none_bad {rows} {values} {value} fault sound held bad =
    kept_of_one rows value fault sound.spelled (subst (λ vs. Contains vs value) sound.kept held) bad

-- the first bad value is one of them
pub first_held : {values : List KeptFacts} {value : KeptFacts} {fault : Option CodecFault} → IsFirstBad values value fault
    → Contains values value
first_held {values} {value} first =
    subst (λ vs. Contains vs value) (sym first.parts)
    (Contains-append_right first.before (value ∷ first.behind) value (0, omega arith, refl))

-- rows that are kept alike are the same
same_rows : (a b : List RowFacts) → All IsSpelled a → All IsSpelled b → tables_of_rows a ≡ tables_of_rows b → a ≡ b
same_rows [] [] p q e = refl
same_rows [] (y ∷ b) p q e = absurd (cc)
same_rows (x ∷ a) [] p q e = absurd (cc)
same_rows (x ∷ a) (y ∷ b) p q e =
    let first : kept_row x ≡ kept_row y = cc in
    let rest : tables_of_rows a ≡ tables_of_rows b = cc in
    let one : x ≡ y
    = one_row x y (row_bytes x) (own_bytes (All-head IsSpelled x a p))
    (subst (λ (bytes : List ℕ). IsRowBytes y bytes) (sym (ap (λ (v : KeptFacts). v.bytes) first)) (own_bytes (All-head IsSpelled y b q))) in
    let others : a ≡ b = same_rows a b (All-tail IsSpelled x a p) (All-tail IsSpelled y b q) rest in
    ap (λ r. r ∷ a) one ∙ ap (λ rs. y ∷ rs) others

-- values are those of one list of rows
pub one_rows : {a b : List RowFacts} {values : List KeptFacts} → AreRows a values → AreRows b values → a ≡ b
one_rows {a} {b} p q = same_rows a b p.spelled q.spelled (sym p.kept ∙ q.kept)

-- rows that aren't too many are too many by no reading
pub none_overfull : {rows : List RowFacts} {values : List KeptFacts} → AreRows rows values
    → length (current rows) ≤ LOG_LIMIT → IsOverfull values → ⊥
none_overfull {rows} sound few over =
    let same : rows ≡ over.rows
    = same_rows rows over.rows sound.spelled over.sound.spelled (sym sound.kept ∙ over.sound.kept) in
    let count : length (current rows) ≡ length (current over.rows) = ap (λ rs. length (current rs)) same in
    let many = over.many in
    absurd (omega arith)
