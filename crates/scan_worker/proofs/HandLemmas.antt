-- What a worker asks of its hand, and what it counts.
use Rattle.std.proofs.Common.{◌≡◌, ℕ, ◌+◌, ◌-◌, ◌^◌, ◌≤◌, min, Bool, List, [], ◌++◌, None, refl, sym, ◌∙◌, ap, append_assoc, arith}
use Rattle.std.specs.List.{All}
use Rattle.std.proofs.lemmas.List.{append-nil}
use Rattle.std.proofs.lemmas.List.Elements.{All-append, All-nil, All-weaker}
use Rattle.row_types.specs.Name.{NameFacts, stamp_at}
use Rattle.tree_trait.specs.Fills.{IsReadOfFile}
use Rattle.tree_trait.specs.Found.{Versions}
use Rattle.tree_trait.specs.Heard.{Heard, load, stat, read_dir, open_file, read_at}
use Rattle.tree_trait.specs.Listens.{heard_or_none, loads}
use Rattle.tree_trait.specs.Open.{OpenFacts, was_opened, was_too_large, open_gone, open_failed, open_no_memory}
use Rattle.tree_trait.specs.Shown.{ShownTree}
use Rattle.tree_trait.proofs.FillLemmas.{loads_reads}
use Rattle.tree_trait.proofs.ListenLemmas.{all_heard, listens_none, loads_both}
use Rattle.scan_worker.specs.Read.{AsksParts, heard_opening, heard_reading, opening_leads_to}
use Rattle.scan_worker.specs.Turns.{CountsLoad, counted_by}
use Rattle.scan_worker.specs.Works.{AreReadings, HandLoads, IsSparingLoad, no_more, one_more}
use Rattle.scan_worker.specs.declared.read.NameRead.{NameRead}
use Rattle.scan_worker.specs.declared.read.NameRead.TheVariants.{Row, Altered, Failed, OutOfMemory}
use Rattle.scan_worker.specs.declared.tally.Tally.{Tally}

-- at most one opening is counted of a listed file
counted_most : {W : Type 0} (given : NameRead W) → counted_by given ≤ 1
counted_most (Row row) = omega arith
counted_most (Altered met) = omega arith
counted_most Failed = omega arith
counted_most OutOfMemory = omega arith

-- an opening behind which the file was read is heard
pub row_heard : (version : Versions) (name : NameFacts) (answer : OpenFacts) (reads : List Heard) {W : Type 0} (given : NameRead W)
    → opening_leads_to version name answer reads given
    → counted_by given ≤ loads (heard_or_none (heard_opening name answer))
row_heard version name (was_opened stamp) reads given leads = let most = counted_most given in omega (arith, most)
row_heard version name (was_too_large stamp) reads given leads = let most = counted_most given in omega (arith, most)
row_heard version name open_gone reads given leads = let most = counted_most given in omega (arith, most)
row_heard version name open_failed reads given leads = let most = counted_most given in omega (arith, most)
row_heard version name open_no_memory reads (Row row) leads = absurd leads.0
row_heard version name open_no_memory reads (Altered met) leads = absurd leads.0
row_heard version name open_no_memory reads Failed leads = absurd leads
row_heard version name open_no_memory reads OutOfMemory leads = omega arith

pub at_most_one : (name : NameFacts) (answer : OpenFacts) → loads (heard_or_none (heard_opening name answer)) ≤ 1
at_most_one name (was_opened stamp) = omega arith
at_most_one name (was_too_large stamp) = omega arith
at_most_one name open_gone = omega arith
at_most_one name open_failed = omega arith
at_most_one name open_no_memory = omega arith

-- the reads behind it are no openings
pub reading_loads : (name : NameFacts) (answer : OpenFacts) (reads : List Heard) → All (IsReadOfFile name) reads
    → loads (heard_reading name answer reads) ≡ loads (heard_or_none (heard_opening name answer))
reading_loads name answer reads own =
    let both = loads_both (heard_or_none (heard_opening name answer)) reads in
    let none = loads_reads name reads own in
    omega (arith, both, none)

-- and are of the same path
read_spares : (spared : List NameFacts) (name : NameFacts) → stamp_at spared name.path ≡ None → (asked : Heard)
    → IsReadOfFile name asked → IsSparingLoad spared asked
read_spares spared name new (read_at given at answer) own = ap (λ (n : NameFacts). stamp_at spared n.path) own ∙ new
read_spares spared name new (load path limit answer) own = absurd own
read_spares spared name new (stat path answer) own = absurd own
read_spares spared name new (read_dir path answer) own = absurd own
read_spares spared name new (open_file path limit answer) own = absurd own

pub reading_spares : (spared : List NameFacts) (name : NameFacts) (answer : OpenFacts) (reads : List Heard)
    → stamp_at spared name.path ≡ None → All (IsReadOfFile name) reads
    → All (IsSparingLoad spared) (heard_reading name answer reads)
reading_spares spared name answer reads new own =
    All-append (IsSparingLoad spared) (heard_or_none (heard_opening name answer)) reads
    (all_heard (IsSparingLoad spared) (heard_opening name answer) (refl, new))
    (All-weaker (IsReadOfFile name) (IsSparingLoad spared) (read_spares spared name new) reads own)

-- one listed file, and one list of them behind another
pub readings_one : (name : NameFacts) (answer : OpenFacts) (reads : List Heard) → All (IsReadOfFile name) reads
    → AsksParts name reads → AreReadings (heard_reading name answer reads)
readings_one name answer reads own parts =
    one_more name answer reads [] (heard_reading name answer reads) (sym (append-nil (heard_reading name answer reads)))
    own parts no_more

pub readings_both : {xs : List Heard} (ys : List Heard) → AreReadings xs → AreReadings ys → AreReadings (xs ++ ys)
readings_both ys no_more q = q
readings_both ys (one_more name answer reads more all is own parts rest) q =
    one_more name answer reads (more ++ ys) (all ++ ys)
    (ap (λ (heard : List Heard). heard ++ ys) is ∙ append_assoc (heard_reading name answer reads) more ys) own parts
    (readings_both ys rest q)

-- what is counted of an opening, and that no other number changes
pub count_most : {W : Type 0} (given : NameRead W) (tally later : Tally) → CountsLoad given tally later
    → later.asked ≤ tally.asked + counted_by given
count_most (Row row) tally later h = let e = ap (λ (t : Tally). t.asked) h in omega (arith, e)
count_most (Altered met) tally later h = let e = ap (λ (t : Tally). t.asked) h in omega (arith, e)
count_most Failed tally later h = let e = ap (λ (t : Tally). t.asked) h in omega (arith, e)
count_most OutOfMemory tally later h = let e = ap (λ (t : Tally). t.asked) h in omega (arith, e)

pub count_least : {W : Type 0} (given : NameRead W) (tally later : Tally) → CountsLoad given tally later
    → min (tally.asked + counted_by given) (2 ^ 64 - 1) ≤ later.asked
count_least (Row row) tally later h = let e = ap (λ (t : Tally). t.asked) h in omega (arith, e)
count_least (Altered met) tally later h = let e = ap (λ (t : Tally). t.asked) h in omega (arith, e)
count_least Failed tally later h = let e = ap (λ (t : Tally). t.asked) h in omega (arith, e)
count_least OutOfMemory tally later h = let e = ap (λ (t : Tally). t.asked) h in omega (arith, e)

pub count_same : {W : Type 0} (given : NameRead W) (tally later : Tally) → CountsLoad given tally later
    → later.published + later.missed ≡ tally.published + tally.missed
count_same (Row row) tally later h = ap (λ (t : Tally). t.published + t.missed) h
count_same (Altered met) tally later h = ap (λ (t : Tally). t.published + t.missed) h
count_same Failed tally later h = ap (λ (t : Tally). t.published + t.missed) h
count_same OutOfMemory tally later h = ap (λ (t : Tally). t.published + t.missed) h

pub count_published : {W : Type 0} (given : NameRead W) (tally later : Tally) → CountsLoad given tally later
    → later.published ≡ tally.published
count_published (Row row) tally later h = ap (λ (t : Tally). t.published) h
count_published (Altered met) tally later h = ap (λ (t : Tally). t.published) h
count_published Failed tally later h = ap (λ (t : Tally). t.published) h
count_published OutOfMemory tally later h = ap (λ (t : Tally). t.published) h

module _ {told : Bool} {version : Versions} {spared : List NameFacts} where
  -- nothing was asked
  pub asks_none : {hand : ShownTree} (asked : ℕ) → HandLoads told version spared hand hand asked asked 0
  asks_none asked = record {
    more = [];
    listens = listens_none;
    spares = All-nil (IsSparingLoad spared);
    parts = no_more;
    asked = omega arith;
    counted = omega arith;
  }
