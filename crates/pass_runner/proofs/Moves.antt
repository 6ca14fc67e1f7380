-- What the hand heard and where the index went, one after the other.
use Rattle.std.proofs.Common.{◌≡◌, ℕ, ◌≤◌, inl, inr, Bool, true, false, List, ◌++◌, Option, Some, refl, sym, ◌∙◌, ap, subst, arith}
use Rattle.std.specs.List.{All, Contains}
use Rattle.std.proofs.lemmas.Bool.{true≢false}
use Rattle.std.proofs.lemmas.List.Elements.{All-contains, All-contains_itself, All-weaker, Contains-append_left, Contains-append_right}
use Rattle.row_types.specs.Faults.{Rose}
use Rattle.row_types.specs.Name.{NameFacts}
use Rattle.row_types.specs.Row.{RowFacts}
use Rattle.index_keeper.specs.Keeper.{ShownKeeper}
use Rattle.index_rows.specs.Rows.{row_names}
use Rattle.index_state.specs.Bound.{StaysBounded}
use Rattle.index_state.specs.Marks.{is_marked}
use Rattle.index_state.specs.State.{StateFacts, pass_or_none}
use Rattle.scan_queue.specs.Names.{is_in, is_path_in}
use Rattle.scan_queue.specs.Pass.{PassFacts}
use Rattle.scan_queue.specs.declared.miss.Cause.{Cause}
use Rattle.scan_queue.specs.declared.miss.Cause.TheVariants.{ReadFault, Altered, Appeared}
use Rattle.scan_queue.specs.declared.miss.Miss.{Miss}
use Rattle.scan_worker.specs.Read.{heard_reading}
use Rattle.tree_trait.specs.Heard.{Heard}
use Rattle.pass_runner.specs.Settled.{Advances, IsBacked, IsBrought, IsMissBy, IsPassOn, IsSeenGone, MissesBy, MovesRows}

-- a count that rose before or after has risen
pub rose_before : (a : ℕ) {b c : ℕ} → Rose a b → b ≤ c → Rose a c
rose_before a {b} {c} rose later = omega (arith, rose, later)

pub rose_after : {a b c : ℕ} → a ≤ b → Rose b c → Rose a c
rose_after {a} {b} {c} later rose = omega (arith, rose, later)

some_same : {a b : PassFacts} → Some a ≡ Some b → a ≡ b
some_same e = cc

one_pass : {a b : PassFacts} {o : Option PassFacts} → o ≡ Some a → o ≡ Some b → a ≡ b
one_pass p q = some_same (sym p ∙ q)

-- the listing stays
pub same_listing : {old new : Option PassFacts} → IsPassOn old new → (pass_or_none new).listing ≡ (pass_or_none old).listing
same_listing on =
    ap (λ (o : Option PassFacts). (pass_or_none o).listing) on.is ∙ on.over
    ∙ sym (ap (λ (o : Option PassFacts). (pass_or_none o).listing) on.was)

pub pass_then : {old mid new : Option PassFacts} → IsPassOn old mid → IsPassOn mid new → IsPassOn old new
pass_then p q = record {
  from = p.from;
  into = q.into;
  was = p.was;
  is = q.is;
  over = q.over ∙ ap (λ (a : PassFacts). a.listing) (one_pass q.was p.is) ∙ p.over;
}

-- what was heard is among more
module _ (some more : List Heard) {Failed Fails : Type 0} (among : (h : Heard) → Contains some h → Contains more h) (so : Failed → Fails) where
  gone_as : {name : NameFacts} → IsSeenGone some name → IsSeenGone more name
  gone_as {name} gone = record { answer = gone.answer; heard = among _ gone.heard; missing = gone.missing }

  backed_as : (listing names : List NameFacts) (name : NameFacts) (cause : Cause) → IsBacked listing names some Failed name cause
      → IsBacked listing names more Fails name cause
  backed_as listing names name ReadFault h = so h
  backed_as listing names name (Altered met) h =
      record { listed = h.listed; answer = h.answer; heard = among _ h.heard; other = h.other }
  backed_as listing names name Appeared h =
      record { seen = record { unlisted = h.seen.unlisted; heard = among _ h.seen.heard }; row = h.row }

  miss_as : (listing names : List NameFacts) (missed : List Miss) (miss : Miss) → IsMissBy listing names missed some Failed miss
      → IsMissBy listing names missed more Fails miss
  miss_as listing names missed miss (inl before) = inl before
  miss_as listing names missed miss (inr why) = inr (backed_as listing names miss.name miss.cause why)

  brought_as : (rows : List RowFacts) (row : RowFacts) → IsBrought rows some row → IsBrought rows more row
  brought_as rows row (inl before) = inl before
  brought_as rows row (inr read) = inr (record {
    answer = read.answer;
    reads = read.reads;
    heard = All-weaker (Contains some) (Contains more) among (heard_reading row.name read.answer read.reads) read.heard;
    says = read.says;
  })

  pub advances_as : {K : Type 0} {shows : K → ShownKeeper} {old new : StateFacts K} → Advances shows some Failed old new
      → Advances shows more Fails old new
  advances_as {old = old} {new = new} on = record {
    keeper = on.keeper;
    pass = on.pass;
    marked = on.marked;
    origin = on.origin;
    moves = record {
      stays = on.moves.stays;
      goes = λ name there gone none under. gone_as (on.moves.goes name there gone none under);
      comes = on.moves.comes;
      brings = All-weaker (IsBrought old.rows some) (IsBrought old.rows more) (brought_as old.rows) new.rows on.moves.brings;
    };
    missed =
        All-weaker (MissesBy old some Failed)
        (MissesBy old more Fails)
        (miss_as (pass_or_none old.pass).listing (row_names old.rows) (pass_or_none old.pass).missed) (pass_or_none new.pass).missed on.missed;
    still = on.still;
    todo = on.todo;
    bounded = on.bounded;
  }

-- the names that were missed before
pub still_missed : (listing names : List NameFacts) (missed : List Miss) (answers : List Heard) (Failed : Type 0)
    → All (IsMissBy listing names missed answers Failed) missed
still_missed listing names missed answers Failed =
    All-weaker (Contains missed) (IsMissBy listing names missed answers Failed) (λ m before. inl before) missed
    (All-contains_itself missed)

-- the rows that were there before
pub still_brought : (rows : List RowFacts) (answers : List Heard) → All (IsBrought rows answers) rows
still_brought rows answers =
    All-weaker (Contains rows) (IsBrought rows answers) (λ row before. inl before) rows (All-contains_itself rows)

-- the rows are those that were there before
pub moves_same : {listing : List NameFacts} {looks : List ℕ → Bool} {answers : List Heard} {old new : List RowFacts} → new ≡ old
    → MovesRows listing looks answers old new
moves_same {listing} {looks} {answers} {old} {new} same =
    subst (λ (rows : List RowFacts). MovesRows listing looks answers old rows) (sym same) (record {
      stays = λ name listed there. there;
      goes = λ name there gone none under. absurd (true≢false (sym there ∙ gone));
      comes = λ name there fresh. absurd (true≢false (sym there ∙ fresh));
      brings = still_brought old answers;
    })

-- rows that moved once and again
moves_then : {listing : List NameFacts} {looks : List ℕ → Bool} {answers : List Heard} {old mid new : List RowFacts}
    → MovesRows listing looks answers old mid → MovesRows listing looks answers mid new → MovesRows listing looks answers old new
moves_then {listing} {looks} {answers} {old} {mid} {new} p q =
    record {
      stays = λ name listed there. q.stays name listed (p.stays name listed there);
      goes = λ name there gone none under.
          elim (is_in (row_names mid) name) as (λ v. is_in (row_names mid) name ≡ v → IsSeenGone answers name) [
            | true ↦ λ stood. q.goes name stood gone none under
            | false ↦ λ went. p.goes name there went none under
          ] refl;
      comes = λ name there fresh.
          elim (is_in (row_names mid) name) as (λ v. is_in (row_names mid) name ≡ v → is_in listing name ≡ true) [
            | true ↦ λ stood. p.comes name stood fresh
            | false ↦ λ absent. q.comes name there absent
          ] refl;
      brings = All-weaker (IsBrought mid answers) (IsBrought old answers) brought new q.brings;
    }
  where
    brought : (row : RowFacts) → IsBrought mid answers row → IsBrought old answers row
    brought row (inl there) = All-contains (IsBrought old answers) mid row p.brings there
    brought row (inr read) = inr read

-- where no row of an unlisted name came, one that stands later stood before
backed_before : (listing mid old : List NameFacts) (answers : List Heard) (Failed : Type 0)
    → ((name : NameFacts) → is_in mid name ≡ true → is_in old name ≡ false → is_in listing name ≡ true)
    → (name : NameFacts) (cause : Cause) → IsBacked listing mid answers Failed name cause
    → IsBacked listing old answers Failed name cause
backed_before listing mid old answers Failed comes name ReadFault h = h
backed_before listing mid old answers Failed comes name (Altered met) h = h
backed_before listing mid old answers Failed comes name Appeared h = record {
  seen = h.seen;
  row =
      elim (is_in old name) as (λ v. is_in old name ≡ v → v ≡ true) [
        | true ↦ λ stood. refl
        | false ↦ λ fresh. absurd (true≢false (sym (comes name h.row fresh) ∙ h.seen.unlisted))
      ] refl;
}

-- one after the other
pub advances_then : {K : Type 0} {shows : K → ShownKeeper} {xs ys : List Heard} {First Second Failed : Type 0}
    {old mid new : StateFacts K} → (First → Failed) → (Second → Failed) → Advances shows xs First old mid
    → Advances shows ys Second mid new → Advances shows (xs ++ ys) Failed old new
advances_then {K} {shows} {xs} {ys} {First} {Second} {Failed} {old} {mid} {new} first second p q =
    let a : Advances shows (xs ++ ys) Failed old mid = advances_as xs (xs ++ ys) (λ h. Contains-append_left xs ys h) first p in
    let b : Advances shows (xs ++ ys) Failed mid new = advances_as ys (xs ++ ys) (λ h. Contains-append_right xs ys h) second q in
    let listing : (pass_or_none mid.pass).listing ≡ (pass_or_none old.pass).listing = same_listing p.pass in
    record {
      keeper = omega (arith, p.keeper, q.keeper);
      pass = pass_then p.pass q.pass;
      marked = q.marked ∙ p.marked;
      origin = q.origin ∙ p.origin;
      moves =
          moves_then a.moves
          (subst (λ (l : List NameFacts). MovesRows l (is_marked old.pass) (xs ++ ys) mid.rows new.rows) listing
          (subst (λ (l : List NameFacts). MovesRows (pass_or_none mid.pass).listing (is_path_in l) (xs ++ ys) mid.rows new.rows) p.marked b.moves));
      missed =
          All-weaker (Later (pass_or_none old.pass).listing) (Sooner (pass_or_none old.pass).listing) (λ m why. before m why)
          (pass_or_none new.pass).missed
          (subst (λ (l : List NameFacts). All (Later l) (pass_or_none new.pass).missed) listing b.missed);
      still = λ name listed missed.
          q.still name (ap (λ (l : List NameFacts). is_in l name) listing ∙ listed) (p.still name listed missed);
      todo = λ path. let first = p.todo path in let later = q.todo path in omega (arith, first, later);
      bounded =
          let later : StaysBounded (pass_or_none old.pass).listing mid new = subst (λ (l : List NameFacts). StaysBounded l mid new) listing q.bounded in
          omega (arith, p.bounded, later);
    }
  where
    Later : List NameFacts → Miss → Type 0
    Later l m = IsMissBy l (row_names mid.rows) (pass_or_none mid.pass).missed (xs ++ ys) Failed m

    Sooner : List NameFacts → Miss → Type 0
    Sooner l m = IsMissBy l (row_names old.rows) (pass_or_none old.pass).missed (xs ++ ys) Failed m

    before : (m : Miss) → Later (pass_or_none old.pass).listing m → Sooner (pass_or_none old.pass).listing m
    before m (inl there) =
        All-contains (Sooner (pass_or_none old.pass).listing) (pass_or_none mid.pass).missed m
        (advances_as xs (xs ++ ys) (λ h. Contains-append_left xs ys h) first p).missed there
    before m (inr why) =
        inr (backed_before (pass_or_none old.pass).listing (row_names mid.rows) (row_names old.rows) (xs ++ ys) Failed
        p.moves.comes m.name m.cause why)
