-- A scan that some of the hands were lent to is one of all: the others heard nothing.
use Rattle.std.proofs.Common.{◌≡◌, inl, inr, ℕ, zero, suc, ◌+◌, ◌≤◌, List, [], ◌∷◌, ◌++◌, drop, take, length, min, refl, sym, ◌∙◌, ap, subst, arith, IsTrue}
use Rattle.std.specs.Prelude.{IsSome}
use Rattle.std.specs.List.{AllZip, sum_by}
use Rattle.std.proofs.lemmas.List.{drop-append-le, drop_min, length-append, length-take, take-append-drop}
use Rattle.std.proofs.lemmas.List.Sums.{sum_by-append}
use Rattle.path_scope.specs.Scope.{Scope}
use Rattle.row_types.specs.Name.{NameFacts}
use Rattle.row_types.specs.Row.{RowFacts}
use Rattle.index_keeper.specs.Store.{ShownStore}
use Rattle.index_rows.specs.declared.change.Change.{Change}
use Rattle.index_rows.specs.Rows.{row_names}
use Rattle.index_state.specs.Opening.{current}
use Rattle.index_state.specs.declared.open_fault.OpenFault.{OpenFault}
use Rattle.tree_trait.specs.Heard.{Heard}
use Rattle.tree_trait.specs.Shown.{HandsOn, ShownTree}
use Rattle.pass_runner.specs.Owned.{HearLoads, LoadsBeside, loads_told}
use Rattle.pass_runner.specs.declared.pass_end.PassEnd.{PassEnd}
use Rattle.pass_runner.specs.declared.pass_end.PassEnd.TheVariants as ended
use Rattle.pass_runner.proofs.PassWalks.{helps_none}
use Rattle.pass_runner.proofs.StillLemmas.{all_front}
use Rattle.dbgd_commands.specs.Scan.{EndsScan, EndsScanEarly, EndsScanHelped, EndsInWalk, EndsPassed, EndsUnbegun, HelpsWith, LoadsBy, MakesPass, Scans}
use Rattle.dbgd_commands.specs.ScanSaid.{is_first_hand_fault}
use Rattle.dbgd_commands.specs.Stage.{Setting}
use Rattle.dbgd_commands.specs.declared.scan_end.ScanEnd.{ScanEnd}
use Rattle.dbgd_commands.specs.declared.scan_end.ScanEnd.TheVariants.{Refused, Passed}
use Rattle.dbgd_commands.proofs.HandLemmas.{goes_length, stays_on}

-- what holds of hands holds with others that are as they were
zip_beside : {T : Type 0} (R : T → T → Type 0) (hands left rest : List T) → ((hand : T) → R hand hand)
    → AllZip R hands left → AllZip R (hands ++ rest) (left ++ rest)
zip_beside R [] [] [] each zip = tt
zip_beside R [] [] (hand ∷ rest) each zip = (each hand, zip_beside R [] [] rest each tt)
zip_beside R [] (later ∷ left) rest each zip = absurd zip
zip_beside R (hand ∷ hands) [] rest each zip = absurd zip
zip_beside R (hand ∷ hands) (later ∷ left) rest each zip = (zip.0, zip_beside R hands left rest each zip.1)

-- a hand that isn't asked helps with nothing
idle : {T : Type 0} (s : Setting T) (listing : List NameFacts) (rows : List RowFacts) (one : T) → HelpsWith s listing rows one one
idle s listing rows one = helps_none s.sees s.tells_files s.world.version listing (row_names rows) one

module _ {T : Type 0} (s : Setting T) (scope : Scope) (rest : List T) (hand later : T) (hands left : List T) (old new : ShownStore) where
  makes_beside : {Ends : List NameFacts → List Heard → List Change → List RowFacts → List RowFacts → List RowFacts → Type 0}
      → MakesPass s scope (hand ∷ hands) (later ∷ left) old new Ends → MakesPass s scope ((hand ∷ hands) ++ rest) ((later ∷ left) ++ rest) old new Ends
  makes_beside run = record {
    found = run.found;
    held = run.held;
    met = run.met;
    alone = λ one. let long = length-append (hand ∷ hands) rest in run.alone (omega (arith, one, long));
    left = run.left;
    sound = run.sound;
    made = run.made;
    walk = run.walk;
    walked = run.walked;
    more = run.more;
    hands = (
      run.hands.0,
      zip_beside (HelpsWith s run.walk.listing (current run.found)) hands left rest (idle s run.walk.listing (current run.found)) run.hands.1,
    );
    kept = run.kept;
    moves = run.moves;
    ends = run.ends;
  }

  helped_beside : {Ends : List RowFacts → Type 0} → EndsScanHelped s scope (hand ∷ hands) (later ∷ left) old new Ends
      → EndsScanHelped s scope ((hand ∷ hands) ++ rest) ((later ∷ left) ++ rest) old new Ends
  helped_beside run = record {
    found = run.found;
    held = run.held;
    left = run.left;
    sound = run.sound;
    made = run.made;
    walk = run.walk;
    hands = (
      run.hands.0,
      zip_beside (HelpsWith s run.walk.listing (current run.found)) hands left rest (idle s run.walk.listing (current run.found)) run.hands.1,
    );
    stays = run.stays;
    ends = run.ends;
  }

  unbegun_beside : EndsUnbegun s scope (hand ∷ hands) (later ∷ left) old new → EndsUnbegun s scope ((hand ∷ hands) ++ rest) ((later ∷ left) ++ rest) old new
  unbegun_beside run = record {
    found = run.found;
    held = run.held;
    walk = run.walk;
    hands = (
      run.hands.0,
      zip_beside (HelpsWith s run.walk.listing (current run.found)) hands left rest (idle s run.walk.listing (current run.found)) run.hands.1,
    );
    has = run.has;
    made = run.made;
  }

  walk_beside : {Walked : ShownTree → ShownTree → Type 0} → EndsInWalk s (hand ∷ hands) (later ∷ left) old new Walked
      → EndsInWalk s ((hand ∷ hands) ++ rest) ((later ∷ left) ++ rest) old new Walked
  walk_beside run = record {
    found = run.found;
    held = run.held;
    hands = (run.hands.0, zip_beside (λ (h l : T). l ≡ h) hands left rest (λ (h : T). refl) run.hands.1);
    has = run.has;
    made = run.made;
  }

  passed_beside : (end : PassEnd) → EndsPassed s scope (hand ∷ hands) (later ∷ left) old new end
      → EndsPassed s scope ((hand ∷ hands) ++ rest) ((later ∷ left) ++ rest) old new end
  passed_beside (ended.Whole summary) run = makes_beside run
  passed_beside (ended.Missed miss) run = makes_beside run
  passed_beside (ended.Walk fault) run = walk_beside run
  passed_beside ended.Broken run = absurd run
  passed_beside ended.KeeperFault (inl run) = inl (makes_beside run)
  passed_beside ended.KeeperFault (inr run) = inr (helped_beside run)
  passed_beside ended.LogFull run = makes_beside run
  passed_beside ended.OutOfMemory (inl run) = inl (unbegun_beside run)
  passed_beside ended.OutOfMemory (inr (inl run)) = inr (inl (makes_beside run))
  passed_beside ended.OutOfMemory (inr (inr run)) = inr (inr (helped_beside run))

  early_beside : (fault : OpenFault) → EndsScanEarly s (hand ∷ hands) (later ∷ left) old new fault → EndsScanEarly s ((hand ∷ hands) ++ rest) ((later ∷ left) ++ rest) old new fault
  early_beside fault run = record { hands = ap (λ (l : List T). l ++ rest) run.hands; store = run.store }

  ends_beside : (end : ScanEnd) → EndsScan s scope (hand ∷ hands) (later ∷ left) old new end → EndsScan s scope ((hand ∷ hands) ++ rest) ((later ∷ left) ++ rest) old new end
  ends_beside (Refused fault) run = early_beside fault run
  ends_beside (Passed end) run = passed_beside end run

-- the hands that read heard as many loads with the others, which heard none
module _ {T : Type 0} (sees : T → ShownTree) (before after rest : List T) (same : length after ≡ length before) (enough : 3 ≤ length (before ++ rest) → 3 ≤ length before) where
  loads_of : List T → ℕ
  loads_of hands = sum_by (λ hand. loads_told (sees hand).heard) hands

  heard_beside : (count : ℕ) → 3 ≤ length before → HearLoads sees count (drop 2 before) (drop 2 after)
      → HearLoads sees count (drop 2 (before ++ rest)) (drop 2 (after ++ rest))
  heard_beside count some hear =
      subst (λ (hands : List T). HearLoads sees count hands (drop 2 (after ++ rest))) (sym (drop-append-le 2 before rest (omega (arith, some))))
      (subst (λ (hands : List T). HearLoads sees count (drop 2 before ++ rest) hands) (sym (drop-append-le 2 after rest (omega (arith, some, same))))
      (λ told.
      let fewer = hear (all_front (λ (hand : T). IsSome (sees hand).heard) (drop 2 after) rest told) in
      let old = sum_by-append (λ (hand : T). loads_told (sees hand).heard) (drop 2 before) rest in
      let new = sum_by-append (λ (hand : T). loads_told (sees hand).heard) (drop 2 after) rest in
      omega (arith, fewer, old, new)))

  pass_beside : (end : PassEnd) → LoadsBeside sees before after end → LoadsBeside sees (before ++ rest) (after ++ rest) end
  pass_beside (ended.Whole summary) hear = λ many.
      heard_beside (summary.added + summary.replaced) (enough many) (hear (enough many))
  pass_beside (ended.Missed miss) hear = tt
  pass_beside (ended.Walk fault) hear = tt
  pass_beside ended.Broken hear = tt
  pass_beside ended.KeeperFault hear = tt
  pass_beside ended.LogFull hear = tt
  pass_beside ended.OutOfMemory hear = tt

  by_beside : (end : ScanEnd) → LoadsBy sees before after end → LoadsBy sees (before ++ rest) (after ++ rest) end
  by_beside (Refused fault) hear = tt
  by_beside (Passed end) hear = pass_beside end hear

-- how a scan hands the first hand on, and each other one
abbrev First : {T : Type 0} → Setting T → ScanEnd → T → T → Type 0
First s end hand later = HandsOn s.tells_files s.world.version (s.sees hand) (s.sees later) ⊥ (IsTrue (is_first_hand_fault end))

abbrev Other : {T : Type 0} → Setting T → T → T → Type 0
Other s hand later = HandsOn s.tells_files s.world.version (s.sees hand) (s.sees later) ⊥ ⊥

module _ {T : Type 0} (s : Setting T) (path : List ℕ) {scope : Scope} {old new : ShownStore} (end : ScanEnd) where
  -- a scan that some of the hands were lent to is one of all of them
  scans_beside : (before after rest : List T) → (3 ≤ length (before ++ rest) → 3 ≤ length before)
      → Scans s path scope before after old new end → Scans s path scope (before ++ rest) (after ++ rest) old new end
  scans_beside (hand ∷ hands) (later ∷ left) rest enough scans =
      let same = goes_length (First s end) (Other s) (hand ∷ hands) (later ∷ left) scans.hands in
      record {
        ends = ends_beside s scope rest hand later hands left old new end scans.ends;
        loads = by_beside s.sees (hand ∷ hands) (later ∷ left) rest same enough end scans.loads;
        hands = (
          scans.hands.0,
          zip_beside (Other s) hands left rest (λ h. stays_on s.tells_files s.world.version (s.sees h) (λ none. none)) scans.hands.1,
        );
        store = scans.store;
        later = scans.later;
        opened = scans.opened;
        opens = scans.opens;
      }
  scans_beside [] after rest enough scans = absurd scans.hands
  scans_beside (hand ∷ hands) [] rest enough scans = absurd scans.hands

  -- so it is where the first ones were lent, three at least, or all
  pub scans_lent : (count n : ℕ) (hands left after : List T) → 3 ≤ count → n ≡ min count (length hands) → after ≡ left ++ drop n hands
      → Scans s path scope (take n hands) left old new end → Scans s path scope hands after old new end
  scans_lent count n hands left after some is all scans =
      let parts : take n hands ++ drop n hands ≡ hands = take-append-drop n hands in
      let long = length-take n hands in
      let enough : 3 ≤ length (take n hands ++ drop n hands) → 3 ≤ length (take n hands) = λ many.
      let whole = ap length parts in omega (arith, many, long, whole, some, is) in
      subst (λ (back : List T). Scans s path scope hands back old new end) (sym all)
      (subst (λ (lent : List T). Scans s path scope lent (left ++ drop n hands) old new end) parts
      (scans_beside (take n hands) left (drop n hands) enough scans))

-- the hands behind those that were lent are as they were
others_kept : {T : Type 0} (count : ℕ) (hands left : List T) → length left ≡ length (take count hands)
    → drop count (left ++ drop count hands) ≡ drop count hands
others_kept zero hands [] long = refl
others_kept zero hands (later ∷ left) long = absurd (omega (arith, long))
others_kept (suc count) [] [] long = refl
others_kept (suc count) [] (later ∷ left) long = absurd (omega (arith, long))
others_kept (suc count) (hand ∷ hands) [] long = absurd (omega (arith, long))
others_kept (suc count) (hand ∷ hands) (later ∷ left) long = others_kept count hands left (omega (arith, long))

pub others_stay_behind : {T : Type 0} (count n : ℕ) (hands left after : List T) → n ≡ min count (length hands)
    → length left ≡ n → after ≡ left ++ drop n hands → drop count after ≡ drop count hands
others_stay_behind {T} count n hands left after is long all =
    let rest : drop n hands ≡ drop count hands = ap (λ (k : ℕ). drop k hands) is ∙ drop_min count hands in
    let size = length-take count hands in
    let same : length left ≡ length (take count hands) = omega (arith, is, long, size) in
    ap (λ (l : List T). drop count l) (all ∙ ap (λ (l : List T). left ++ l) rest) ∙ others_kept count hands left same
