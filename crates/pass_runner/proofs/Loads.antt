-- How often paths are loaded, and are named by what is to be read.
use Rattle.std.proofs.Common.{◌≡◌, ℕ, ◌+◌, ◌≤◌, inl, inr, Bool, true, false, not, cond, List, [], ◌∷◌, ◌++◌, Option, Some, None, refl, sym, ◌∙◌, ap, subst, arith}
use Rattle.std.specs.List.{All, AllPass, filter}
use Rattle.std.specs.Option.{option_map}
use Rattle.std.specs.Prelude.{if◌then◌else◌, IfSome}
use Rattle.std.specs.Str.{bytes_eq}
use Rattle.std.proofs.lemmas.Bool.{false_from_ne_true, true≢false}
use Rattle.std.proofs.lemmas.List.Elements.{All-head, All-tail}
use Rattle.std.proofs.lemmas.List.Sums.{sum_by-append, sum_by-cons}
use Rattle.std.proofs.lemmas.Slice.Eq.{bytes_eq-Decides}
use Rattle.row_types.specs.Ascends.{IsBefore}
use Rattle.row_types.specs.Name.{NameFacts, same_name}
use Rattle.row_types.proofs.AscendsLemmas.{first_related, rest_related}
use Rattle.scan_queue.specs.Names.{is_in}
use Rattle.scan_queue.specs.Pass.{InOrder, IsPass, PassFacts, Precedes, left}
use Rattle.scan_queue.proofs.NameTests.{not_before_itself}
use Rattle.index_state.specs.State.{pass_or_none}
use Rattle.scan_worker.specs.Read.{heard_opening, heard_reading}
use Rattle.tree_trait.specs.Fills.{IsReadOfFile}
use Rattle.tree_trait.specs.Heard.{Heard, load, stat, read_dir, open_file, read_at, wants_memory}
use Rattle.tree_trait.specs.Listens.{heard_or_none}
use Rattle.tree_trait.specs.Open.{OpenFacts}
use Rattle.pass_runner.specs.Settled.{is_load_of, times_loaded, times_named}
use Rattle.pass_runner.specs.Turns.{IsLookAmong}

-- one name more
pub times_cons : (name : NameFacts) (names : List NameFacts) (path : List ℕ)
    → times_named (name ∷ names) path ≡ times_named (name ∷ []) path + times_named names path
times_cons name names path =
    let all = sum_by-cons (λ (n : NameFacts). cond (bytes_eq n.path path) 1 0) name names in
    let one = sum_by-cons (λ (n : NameFacts). cond (bytes_eq n.path path) 1 0) name [] in
    omega (arith, all, one)

-- more answers
pub loads_append : (xs ys : List Heard) (path : List ℕ)
    → times_loaded (xs ++ ys) path ≡ times_loaded xs path + times_loaded ys path
loads_append xs ys path = sum_by-append (λ (h : Heard). cond (is_load_of path h) 1 0) xs ys

-- the reads of an open file are neither loads nor openings
read_loads : (name : NameFacts) (h : Heard) (path : List ℕ) → IsReadOfFile name h → is_load_of path h ≡ false
read_loads name (read_at given at answer) path own = refl
read_loads name (load asked limit answer) path own = absurd own
read_loads name (stat asked answer) path own = absurd own
read_loads name (read_dir asked answer) path own = absurd own
read_loads name (open_file asked limit answer) path own = absurd own

loads_reads : (name : NameFacts) (reads : List Heard) (path : List ℕ) → All (IsReadOfFile name) reads
    → times_loaded reads path ≡ 0
loads_reads name [] path own = refl
loads_reads name (h ∷ rest) path own =
    let whole = sum_by-cons (λ (x : Heard). cond (is_load_of path x) 1 0) h rest in
    let here = ap {B = ℕ} (λ (b : Bool). cond b 1 0) (read_loads name h path (All-head (IsReadOfFile name) h rest own)) in
    let later = loads_reads name rest path (All-tail (IsReadOfFile name) h rest own) in
    omega (arith, whole, here, later)

-- the opening of a name, if it was heard
opening_loads : (name : NameFacts) (answer : OpenFacts) (path : List ℕ)
    → times_loaded (heard_or_none (heard_opening name answer)) path ≤ times_named (name ∷ []) path
opening_loads name answer path =
    elim (wants_memory (heard_opening name answer)) as (λ b.
    times_loaded (if b then [] else heard_opening name answer ∷ []) path ≤ times_named (name ∷ []) path) [
      | true ↦ omega arith
      | false ↦
          let heard = sum_by-cons (λ (h : Heard). cond (is_load_of path h) 1 0) (heard_opening name answer) [] in
          let named = sum_by-cons (λ (n : NameFacts). cond (bytes_eq n.path path) 1 0) name [] in
          omega (arith, heard, named)
    ]

pub loads_heard : (name : NameFacts) (answer : OpenFacts) (reads : List Heard) → All (IsReadOfFile name) reads
    → (path : List ℕ) → times_loaded (heard_reading name answer reads) path ≤ times_named (name ∷ []) path
loads_heard name answer reads own path =
    let both = loads_append (heard_or_none (heard_opening name answer)) reads path in
    let one = opening_loads name answer path in
    let none = loads_reads name reads path own in
    omega (arith, both, one, none)

-- a look loads nothing
look_loads : (looks : List ℕ → Bool) (h : Heard) (path : List ℕ) → IsLookAmong looks h → is_load_of path h ≡ false
look_loads looks (stat asked answer) path is = refl
look_loads looks (load asked limit answer) path is = absurd is
look_loads looks (read_dir asked answer) path is = absurd is
look_loads looks (open_file asked limit answer) path is = absurd is
look_loads looks (read_at name at answer) path is = absurd is

pub loads_looks : (looks : List ℕ → Bool) (answers : List Heard) (path : List ℕ) → All (IsLookAmong looks) answers
    → times_loaded answers path ≡ 0
loads_looks looks [] path all = refl
loads_looks looks (h ∷ rest) path all =
    let whole = sum_by-cons (λ (x : Heard). cond (is_load_of path x) 1 0) h rest in
    let here = ap {B = ℕ} (λ (b : Bool). cond b 1 0) (look_loads looks h path (All-head (IsLookAmong looks) h rest all)) in
    let later = loads_looks looks rest path (All-tail (IsLookAmong looks) h rest all) in
    omega (arith, whole, here, later)

-- some of the names
times_filter : (p : NameFacts → Bool) (names : List NameFacts) (path : List ℕ)
    → times_named (filter p names) path ≤ times_named names path
times_filter p [] path = omega arith
times_filter p (n ∷ names) path =
    let all = times_cons n names path in
    let rest = times_filter p names path in
    elim (p n) as (λ b. times_named (cond b (n ∷ filter p names) (filter p names)) path ≤ times_named (n ∷ names) path) [
      | true ↦ let some = times_cons n (filter p names) path in omega (arith, all, some, rest)
      | false ↦ omega (arith, all, rest)
    ]

-- what is to be read once a name left
pub times_left : (name : NameFacts) (pass : Option PassFacts) (path : List ℕ)
    → times_named (pass_or_none (option_map (left name) pass)).todo path ≤ times_named (pass_or_none pass).todo path
times_left name None path = omega arith
times_left name (Some p) path = times_filter (λ (other : NameFacts). not (same_name name other)) p.todo path

-- the pass is the same
pub same_todo : {new old : Option PassFacts} → new ≡ old → (path : List ℕ)
    → times_named (pass_or_none new).todo path ≤ times_named (pass_or_none old).todo path
same_todo same path =
    let e = ap (λ (o : Option PassFacts). times_named (pass_or_none o).todo path) same in omega (arith, e)

-- or what is to be read is
pub same_names : {new old : List NameFacts} → new ≡ old → (path : List ℕ) → times_named new path ≤ times_named old path
same_names same path = let e = ap (λ (l : List NameFacts). times_named l path) same in omega (arith, e)

-- a listed name that comes behind one of the path has another
apart : (listing : List NameFacts) (n m : NameFacts) (path : List ℕ) → n.path ≡ path → is_in listing m ≡ true
    → Precedes listing n m → bytes_eq m.path path ≡ false
apart listing n m path at listed (inl before) =
    false_from_ne_true (bytes_eq m.path path)
    (λ same. not_before_itself n.path
    (subst (λ (p : List ℕ). IsBefore n.path p) ((bytes_eq-Decides m.path path).0 same ∙ sym at) before))
apart listing n m path at listed (inr clash) = absurd (true≢false (sym listed ∙ clash.2))

none_behind : (listing : List NameFacts) (n : NameFacts) (names : List NameFacts) (path : List ℕ) → n.path ≡ path
    → All (λ (m : NameFacts). is_in listing m ≡ true) names → All (Precedes listing n) names → times_named names path ≡ 0
none_behind listing n [] path at listed behind = refl
none_behind listing n (m ∷ names) path at listed behind =
    let whole = sum_by-cons (λ (x : NameFacts). cond (bytes_eq x.path path) 1 0) m names in
    let here = ap {B = ℕ} (λ (b : Bool). cond b 1 0)
    (apart listing n m path at (All-head (λ (x : NameFacts). is_in listing x ≡ true) m names listed)
    (All-head (Precedes listing n) m names behind)) in
    let later = none_behind listing n names path at (All-tail (λ (x : NameFacts). is_in listing x ≡ true) m names listed)
    (All-tail (Precedes listing n) m names behind) in
    omega (arith, whole, here, later)

-- of listed names in order each path is one's alone
named_once : (listing names : List NameFacts) (path : List ℕ) → AllPass (is_in listing) names → InOrder listing names
    → times_named names path ≤ 1
named_once listing [] path listed order = omega arith
named_once listing (n ∷ names) path listed order =
    let whole = sum_by-cons (λ (x : NameFacts). cond (bytes_eq x.path path) 1 0) n names in
    let others = All-tail (λ (x : NameFacts). is_in listing x ≡ true) n names listed in
    elim (bytes_eq n.path path) as (λ b. bytes_eq n.path path ≡ b → times_named (n ∷ names) path ≤ 1) [
      | true ↦ λ e.
          let here = ap {B = ℕ} (λ (b : Bool). cond b 1 0) e in
          let none = none_behind listing n names path ((bytes_eq-Decides n.path path).0 e) others
          (first_related (Precedes listing) n names order) in
          omega (arith, whole, here, none)
      | false ↦ λ e.
          let here = ap {B = ℕ} (λ (b : Bool). cond b 1 0) e in
          let rest = named_once listing names path others (rest_related (Precedes listing) n names order) in
          omega (arith, whole, here, rest)
    ] refl

-- of what is to be read in a pass too
pub todo_once : (pass : Option PassFacts) (path : List ℕ) → IfSome pass IsPass → times_named (pass_or_none pass).todo path ≤ 1
todo_once None path h = omega arith
todo_once (Some p) path h = named_once p.listing p.todo path h.listed h.todo
