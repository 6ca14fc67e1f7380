-- A pass whose listing was walked.
use Rattle.std.proofs.Common.{◌≡◌, ℕ, inl, inr, Bool, true, false, List, [], Option, refl, sym, ◌∙◌, ap, subst, arith, Ok}
use Rattle.std.specs.List.{All, filter}
use Rattle.std.proofs.lemmas.List.Elements.{All-append, All-nil, All-weaker}
use Rattle.path_scope.specs.Scope.{Scope, is_in_scope}
use Rattle.row_types.specs.Faults.{Rose}
use Rattle.row_types.specs.Name.{NameFacts}
use Rattle.row_types.specs.Rules.{Rules}
use Rattle.index_keeper.specs.Keeper.{ShownKeeper}
use Rattle.index_rows.specs.Rows.{row_names}
use Rattle.index_state.specs.State.{StateFacts, pass_or_none}
use Rattle.index_state.specs.Step.{after_begin}
use Rattle.scan_queue.specs.Pass.{PassFacts}
use Rattle.scan_queue.specs.declared.miss.Cause.{Cause}
use Rattle.scan_queue.specs.declared.miss.Cause.TheVariants.{ReadFault, Altered, Appeared}
use Rattle.scan_queue.specs.declared.miss.Miss.{Miss}
use Rattle.tree_trait.specs.Asks.{IsAnswerTold}
use Rattle.tree_trait.specs.Dir.{DirFacts}
use Rattle.tree_trait.specs.Found.{Versions}
use Rattle.tree_trait.specs.Heard.{Heard, read_dir}
use Rattle.tree_trait.specs.Listens.{Listens}
use Rattle.tree_trait.specs.Shown.{HandsOn, ShownTree}
use Rattle.tree_walk.specs.Ends.{WalksTree}
use Rattle.tree_walk.specs.Files.{AreFilesUnder}
use Rattle.tree_walk.specs.declared.walked.Walk.{Walk as WalkFacts}
use Rattle.pass_runner.specs.Ends.{IsOutOfRoom}
use Rattle.index_state.specs.Plan.{plan_of}
use Rattle.scan_queue.specs.Names.{is_in}
use Rattle.scan_worker.specs.Works.{no_more}
use Rattle.pass_runner.specs.Helped.{IsSparing}
use Rattle.pass_runner.specs.Owned.{EndsPassHelped, EndsPass, HasMissed, HearsPass, HearsWalked, Helps, IsHelped, IsWholePass, LeavesIndex, RunsPass, TellsStill}
use Rattle.pass_runner.specs.Passes.{EndsOver, IsApart, IsFirstMiss, LeavesToHands}
use Rattle.pass_runner.specs.Settled.{IsBacked, MayBeAsked, Settles}
use Rattle.pass_runner.specs.declared.pass_end.PassEnd.{PassEnd}
use Rattle.pass_runner.specs.declared.pass_end.PassEnd.TheVariants.{Whole, Missed, Walk, Broken}
use Rattle.pass_runner.specs.declared.pass_end.PassEnd.TheVariants.{KeeperFault, LogFull, OutOfMemory}
use Rattle.pass_runner.proofs.Appearing.{backed_unlisted}
use Rattle.pass_runner.proofs.FullAnswers.{full_stays, listing_stays}
use Rattle.tree_trait.proofs.ListenLemmas.{lists_all, lists_both, listens_none}
use Rattle.pass_runner.proofs.Moves.{same_listing}
use Rattle.pass_runner.proofs.PassEnds.{all_backed, first_is}
use Rattle.pass_runner.proofs.PassHands.{rose_later}
use Rattle.pass_runner.proofs.ScopeLemmas.{asked_in, moves_in, readings_in}

backed_so : (listing names : List NameFacts) (answers : List Heard) {Failed Fails : Type 0} → (Failed → Fails)
    → (name : NameFacts) (cause : Cause) → IsBacked listing names answers Failed name cause
    → IsBacked listing names answers Fails name cause
backed_so listing names answers so name ReadFault h = so h
backed_so listing names answers so name (Altered met) h = h
backed_so listing names answers so name Appeared h = h

module _ (world : Rules) {told : Bool} {scope : Scope} {before met after : ShownTree} {walk : WalkFacts}
    {Asked Fails : Type 0} (walks : WalksTree told before met scope (Ok walk))
    (under : TellsStill told before → AreFilesUnder before.present scope walk.listing)
    (hands : HandsOn told world.version before met Asked Fails) where
  -- what the hand heard, of the walk and of what followed it
  pub hears_walked : (Wanted : Heard → Type 0) → ((path : List ℕ) (answer : DirFacts) → Wanted (read_dir path answer) → ⊥)
      → (more : List Heard) → Listens told world.version met after more → All Wanted more
      → HearsWalked told world.version scope walk walks.goes.more more before after
  hears_walked Wanted never more listens wanted = record {
    heard = lists_both before.heard met.heard after.heard walks.goes.more more (lists_all walks.goes.heard) listens.heard;
    whole = walks.goes.ends;
    full = full_stays scope Wanted never walks.goes.more more wanted walks.goes.ends.full;
    listing =
        listing_stays scope Wanted never walks.goes.more more wanted walks.goes.ends.full walk.listing walks.goes.ends.listing;
    fits = listens.fits;
    tells = λ t.
        All-append (IsAnswerTold before.present) walks.goes.more more (walks.goes.tells t.0 t.1)
        (subst (λ (names : List NameFacts). All (IsAnswerTold names) more) (hands.still t.1).same
        (listens.tells t.0 (hands.still t.1).still));
    under = under;
  }

  module _ {K : Type 0} (hands_given : ℕ) (old found : StateFacts K) {shows : K → ShownKeeper} {new : StateFacts K}
      (settles : Settles told world.version shows met after (after_begin walk.listing scope found) new)
      (helped : IsHelped hands_given walk.listing old found) where
    -- what was asked of a marked path was asked of one in the scope
    wanted_pass : All (MayBeAsked walk.listing (is_in_scope scope) (row_names found.rows)) settles.does.answers
    wanted_pass = asked_in scope walk.listing (row_names found.rows) settles.does.answers settles.does.wanted

    -- what the hand heard, of the walk and of the settling
    heard_pass : HearsPass told world.version scope (row_names found.rows) walk walks.goes.more settles.does.answers before after
    heard_pass = record {
      walks =
          hears_walked (MayBeAsked walk.listing (is_in_scope scope) (row_names found.rows)) (λ path answer never. never) settles.does.answers
          settles.does.listens wanted_pass;
      wanted = wanted_pass;
      parts = readings_in scope walk.listing (row_names found.rows) settles.does.parts;
      once = settles.once;
    }

    -- by what a name was missed
    abbrev Backed : Type 0 → Miss → Type 0
    Backed Failed = λ (miss : Miss). IsBacked walk.listing (row_names found.rows) settles.does.answers Failed miss.name miss.cause

    -- a count that rose in the settling rose in the pass
    fault_late : (miss : Miss) → Backed (Rose met.faults after.faults) miss → Backed (Rose before.faults after.faults) miss
    fault_late miss why = backed_so walk.listing (row_names found.rows) settles.does.answers (rose_later before.faults met.faults after.faults hands.cause.later) miss.name miss.cause why

    backed_new : All (Backed (Rose before.faults after.faults)) (pass_or_none new.pass).missed
    backed_new =
        All-weaker (Backed (Rose met.faults after.faults)) (Backed (Rose before.faults after.faults)) fault_late (pass_or_none new.pass).missed
        (all_backed refl settles)

    -- what it left of the index
    left_index : LeavesIndex scope walk.listing settles.does.answers (Rose before.faults after.faults) found new
    left_index = record {
      pass = settles.does.on.pass.into;
      is_open = settles.does.on.pass.is;
      over = sym (ap (λ (o : Option PassFacts). (pass_or_none o).listing) settles.does.on.pass.is) ∙ same_listing settles.does.on.pass;
      marked = sym (ap (λ (o : Option PassFacts). (pass_or_none o).marked) settles.does.on.pass.is) ∙ settles.does.on.marked;
      origin = settles.does.on.origin;
      bounded = settles.does.on.bounded;
      moves = moves_in scope walk.listing walks.goes.ends.listing.by_path settles.does.on.moves;
      missed =
          subst (λ (o : Option PassFacts). All (Backed (Rose before.faults after.faults)) (pass_or_none o).missed)
          settles.does.on.pass.is backed_new;
    }

    -- and both, with the end
    pub runs_pass : (Ends : StateFacts K → List Heard → Type 0) → Ends found settles.does.answers
        → RunsPass world told hands_given scope walk.listing before after old new Ends
    runs_pass Ends ends = record {
      walk = walk;
      over = refl;
      walked = walks.goes.more;
      more = settles.does.answers;
      found = found;
      helped = helped;
      hears = heard_pass;
      leaves = left_index;
      bounded = omega (arith, helped.allowed, helped.bounded, settles.does.on.bounded);
      ends = ends;
    }

    pub runs_to_miss : (miss : Miss) → IsFirstMiss miss new
        → HasMissed miss (Rose before.faults after.faults) walk.listing new found settles.does.answers
    runs_to_miss miss h =
        let why =
        first_is (Backed (Rose before.faults after.faults)) (pass_or_none new.pass).missed miss backed_new h.missed.first in
        let over : (pass_or_none new.pass).listing ≡ walk.listing = same_listing settles.does.on.pass in
        record {
          first = h.missed.first;
          tells = record {
            why = why;
            before = λ other met altered. h.missed.least other (settles.does.altered other met altered);
            apart = λ is.
                subst (λ (l : List NameFacts). IsApart l miss) over h.missed.apart is
                (backed_unlisted walk.listing (row_names found.rows) settles.does.answers (Rose before.faults after.faults) miss.name miss.cause why is);
          };
          sound = h.sound;
        }

-- the pass whose listing was walked
pub ends_walked : {K T : Type 0} (world : Rules) (told tells : Bool) (shows : K → ShownKeeper) (sees : T → ShownTree)
    (count : ℕ) (scope : Scope) (before met after : T) (old new : StateFacts K) (walk : WalkFacts) {Asked Fails : Type 0}
    (end : PassEnd) → WalksTree told (sees before) (sees met) scope (Ok walk)
    → (TellsStill told (sees before) → AreFilesUnder (sees before).present scope walk.listing)
    → HandsOn told world.version (sees before) (sees met) Asked Fails
    → EndsOver world told tells shows sees count walk.listing scope met after old new end
    → EndsPass world told tells shows count scope walk.listing (sees before) (sees after) old new end
ends_walked {K} {T} world told tells shows sees count scope before met after old new walk {Asked} {Fails} end walks under hands = by end
  where
    -- the other hands helped alone
    left : (Ends : Type 0) → LeavesToHands count walk.listing met after old new Ends
        → EndsPassHelped told count scope walk.listing (sees before) (sees after) old new Ends
    left Ends h = record {
      walk = walk;
      over = refl;
      walks = subst (λ (t : T). WalksTree told (sees before) (sees t) scope (Ok walk)) (sym h.hand) walks;
      helped = h.helped;
      bounded = omega (arith, h.helped.allowed, h.helped.bounded);
      ends = h.ends;
    }

    by : (e : PassEnd) → EndsOver world told tells shows sees count walk.listing scope met after old new e
        → EndsPass world told tells shows count scope walk.listing (sees before) (sees after) old new e
    by (Whole summary) h =
        runs_pass world walks under hands count old h.found h.begun.settles h.helped
        (λ found more. IsWholePass world tells shows (plan_of walk.listing (row_names old.rows)) summary new walk.listing) h.begun.ends
    by (Missed miss) h =
        runs_pass world walks under hands count old h.found h.begun.settles h.helped
        (HasMissed miss (Rose (sees before).faults (sees after).faults) walk.listing new)
        (runs_to_miss world walks under hands count old h.found h.begun.settles h.helped miss h.begun.ends)
    by KeeperFault (inl h) =
        inl (runs_pass world walks under hands count old h.found h.begun.settles h.helped (λ found more. new.broken ≡ true) h.begun.ends)
    by KeeperFault (inr h) = inr (left (new.broken ≡ true) h)
    by LogFull h = runs_pass world walks under hands count old h.found h.begun.settles h.helped (λ found more. IsOutOfRoom new) h.begun.ends
    by OutOfMemory (inl early) = inl (record {
      walk = walk;
      over = refl;
      walks = subst (λ (t : T). WalksTree told (sees before) (sees t) scope (Ok walk)) (sym early.hand) walks;
      same = early.state;
    })
    by OutOfMemory (inr (inl h)) =
        inr (inl (runs_pass world walks under hands count old h.found h.begun.settles h.helped (λ found more. new.broken ≡ false) h.begun.ends))
    by OutOfMemory (inr (inr h)) = inr (inr (left (new.broken ≡ false) h))
    by (Walk fault) h = absurd h.begun
    by Broken h = absurd h.begun

-- a hand that heard nothing more
pub helps_none : {T : Type 0} (sees : T → ShownTree) (told : Bool) (version : Versions) (listing names : List NameFacts)
    (hand : T) → Helps told version listing names (sees hand) (sees hand)
helps_none sees told version listing names hand = record {
  more = [];
  listens = listens_none;
  spares = All-nil (IsSparing (filter (is_in names) listing));
  parts = inl no_more;
}
