-- A pass over a shared index whose listing was walked.
use Rattle.std.proofs.Common.{◌≡◌, Bool, List, [], refl, sym, ap, arith, IsTrue, Ok}
use Rattle.std.proofs.lemmas.Bool.{true≢false}
use Rattle.path_scope.specs.Scope.{Scope, is_in_scope}
use Rattle.row_types.specs.Faults.{Rose}
use Rattle.row_types.specs.Name.{NameFacts}
use Rattle.row_types.specs.Rules.{Rules}
use Rattle.index_lock.proofs.Prefixes.{prefix_self}
use Rattle.index_rows.specs.declared.change.Change.{Change}
use Rattle.scan_queue.specs.declared.miss.Cause.{Cause}
use Rattle.scan_queue.specs.declared.miss.Cause.TheVariants.{ReadFault, Altered, Appeared}
use Rattle.tree_trait.specs.Heard.{Heard}
use Rattle.tree_trait.specs.Listens.{Listens}
use Rattle.tree_trait.specs.Shown.{HandsOn, ShownTree}
use Rattle.tree_walk.specs.Ends.{WalksTree}
use Rattle.tree_walk.specs.Files.{AreFilesUnder, FitsFault}
use Rattle.tree_walk.specs.declared.fault.WalkFault.{WalkFault}
use Rattle.tree_walk.specs.declared.fault.WalkFault.TheVariants as stop
use Rattle.tree_walk.specs.declared.walked.Walk.{Walk as WalkFacts}
use Rattle.pass_runner.specs.Helped.{IsSparing}
use Rattle.pass_runner.proofs.ReadsHeard.{readings_spare}
use Rattle.pass_runner.specs.Leading.{LeadsPass}
use Rattle.pass_runner.specs.Owned.{TellsStill, is_hand_fault, is_unwalked}
use Rattle.pass_runner.specs.Settled.{AreReadingsAndLooks}
use Rattle.pass_runner.specs.SharedPass.{EndsListed, EndsShared, HearsShared, IsDoneShared, IsMetByHand, IsOfPass, IsUnhinderedPass, RunsShared}
use Rattle.pass_runner.specs.declared.pass_end.PassEnd.{PassEnd}
use Rattle.pass_runner.specs.declared.pass_end.PassEnd.TheVariants.{Whole, Missed, Walk, Broken}
use Rattle.pass_runner.specs.declared.pass_end.PassEnd.TheVariants.{KeeperFault, LogFull, OutOfMemory}
use Rattle.pass_runner.proofs.LeadLemmas.{met_as}
use Rattle.pass_runner.proofs.PassHands.{rose_later}
use Rattle.pass_runner.proofs.PassWalks.{hears_walked}
use Rattle.pass_runner.proofs.StillLemmas.{never_other, never_there}

-- a pass that was led over a listing isn't one whose scope could not be walked
pub leads_walked : {told : Bool} (world : Rules) {listing : List NameFacts} {scope : Scope} {brought log : List Change}
    {before after : ShownTree} (end : PassEnd) → LeadsPass world told listing scope brought log before after end
    → IsTrue (is_unwalked end) → ⊥
leads_walked world (Walk fault) h is = h.ends
leads_walked world (Whole summary) h is = true≢false (sym is)
leads_walked world (Missed miss) h is = true≢false (sym is)
leads_walked world Broken h is = true≢false (sym is)
leads_walked world KeeperFault h is = true≢false (sym is)
leads_walked world LogFull h is = true≢false (sym is)
leads_walked world OutOfMemory h is = true≢false (sym is)

-- a miss that could not be read shows that the count rose
pub leads_fault : {told : Bool} (world : Rules) {listing : List NameFacts} {scope : Scope} {brought log : List Change}
    {before after : ShownTree} (end : PassEnd) → LeadsPass world told listing scope brought log before after end
    → IsTrue (is_hand_fault end) → Rose before.faults after.faults
leads_fault world (Walk fault) h is = absurd h.ends
leads_fault world {brought = brought} {log = log} {before = before} {after = after} (Missed miss) h is =
    by miss.cause h.ends.why is
  where
    by : (cause : Cause) → IsMetByHand brought log h.more (Rose before.faults after.faults) miss.name cause
        → IsTrue (is_hand_fault (Missed (record { name = miss.name; cause = cause }))) → Rose before.faults after.faults
    by ReadFault rose is = rose
    by (Altered met) why is = absurd (true≢false (sym is))
    by Appeared why is = absurd (true≢false (sym is))
leads_fault world (Whole summary) h is = absurd (true≢false (sym is))
leads_fault world Broken h is = absurd (true≢false (sym is))
leads_fault world KeeperFault h is = absurd (true≢false (sym is))
leads_fault world LogFull h is = absurd (true≢false (sym is))
leads_fault world OutOfMemory h is = absurd (true≢false (sym is))

-- how a pass ended, where one fault of the hand stands for another
ends_late : (world : Rules) (listing : List NameFacts) (scope : Scope) (brought log : List Change)
    (more : List Heard) {Failed Fails : Type 0} → (Failed → Fails) → (end : PassEnd)
    → EndsListed world listing scope brought log more Failed end → EndsListed world listing scope brought log more Fails end
ends_late world listing scope brought log more so (Whole summary) h = h
ends_late world listing scope brought log more so (Missed miss) h = record {
  why =
      met_as brought log brought log more more (prefix_self brought) (prefix_self log) (λ x there. there) so
      miss.name miss.cause h.why;
  of_pass = h.of_pass;
  stands = h.stands;
  sound = h.sound;
}
ends_late world listing scope brought log more so (Walk fault) h = h
ends_late world listing scope brought log more so Broken h = h
ends_late world listing scope brought log more so KeeperFault h = h
ends_late world listing scope brought log more so LogFull h = h
ends_late world listing scope brought log more so OutOfMemory h = h

module _ (world : Rules) {told : Bool} {scope : Scope} (brought log : List Change) {before met after : ShownTree}
    {walk : WalkFacts} {Asked Fails : Type 0} (walks : WalksTree told before met scope (Ok walk))
    (under : TellsStill told before → AreFilesUnder before.present scope walk.listing)
    (hands : HandsOn told world.version before met Asked Fails) where
  -- what the hand heard, of the walk and of the settling
  hears_shared : (more : List Heard) → Listens told world.version met after more → AreReadingsAndLooks (is_in_scope scope) more
      → HearsShared told world.version scope walk walks.goes.more more before after
  hears_shared more listens asks = record {
    walks = hears_walked world walks under hands (IsSparing []) (λ path answer never. never) more listens (readings_spare asks);
    asks = asks;
  }

  runs_shared : (end : PassEnd) → LeadsPass world told walk.listing scope brought log met after end
      → RunsShared world told scope brought log before after end
  runs_shared end led = record {
    walk = walk;
    walked = walks.goes.more;
    more = led.more;
    hears = hears_shared led.more led.listens led.asks;
    ends =
        ends_late world walk.listing scope brought log led.more
        (rose_later before.faults met.faults after.faults hands.cause.later) end led.ends;
  }

  pub ends_shared : (end : PassEnd) → LeadsPass world told walk.listing scope brought log met after end
      → EndsShared world told scope brought log before after end
  ends_shared (Walk fault) led = absurd led.ends
  ends_shared (Whole summary) led = runs_shared (Whole summary) led
  ends_shared (Missed miss) led = runs_shared (Missed miss) led
  ends_shared Broken led = runs_shared Broken led
  ends_shared KeeperFault led = runs_shared KeeperFault led
  ends_shared LogFull led = runs_shared LogFull led
  ends_shared OutOfMemory led = runs_shared OutOfMemory led

  -- a pass that nothing stands against is done
  pub done_shared : (end : PassEnd) → LeadsPass world told walk.listing scope brought log met after end
      → IsUnhinderedPass told scope log before after → IsDoneShared log end
  done_shared (Walk fault) led free = absurd led.ends
  done_shared (Whole summary) led free = tt
  done_shared (Missed miss) led free =
      absurd (none_missed miss.cause late.why led.ends.of_pass)
    where
      late : EndsListed world walk.listing scope brought log led.more (Rose before.faults after.faults) (Missed miss)
      late =
          ends_late world walk.listing scope brought log led.more
          (rose_later before.faults met.faults after.faults hands.cause.later) (Missed miss) led.ends

      none_missed : (cause : Cause) → IsMetByHand brought log led.more (Rose before.faults after.faults) miss.name cause
          → IsOfPass walk.listing scope miss.name cause → ⊥
      none_missed ReadFault rose fits = free.faultless rose
      none_missed (Altered seen) why listed =
          never_other (hears_shared led.more led.listens led.asks).walks free.still miss.name seen listed why
      none_missed Appeared why stray =
          never_there (hears_shared led.more led.listens led.asks).walks free.still miss.name stray why.heard
  done_shared Broken led free = led.ends.void
  done_shared KeeperFault led free = led.ends.void
  done_shared LogFull led free =
      let full = led.ends.full in let room = free.room in absurd (omega (arith, full, room))
  done_shared OutOfMemory led free = tt

-- a walk that nothing stands against ends with a fault only for want of memory
pub done_unwalked : {told : Bool} {scope : Scope} {log : List Change} {before after : ShownTree} (fault : WalkFault)
    → (TellsStill told before → FitsFault before.present scope fault) → (fault ≡ stop.Failed → Rose before.faults after.faults)
    → IsUnhinderedPass told scope log before after → IsDoneShared log (Walk fault)
done_unwalked stop.Failed fits rose free = absurd (free.faultless (rose refl))
done_unwalked stop.TooMany fits rose free = absurd (free.files (fits free.still))
done_unwalked stop.TooManyEntries fits rose free = absurd (free.entries (fits free.still))
done_unwalked (stop.RootGone path) fits rose free = absurd (free.there path (fits free.still).0 (fits free.still).1)
done_unwalked stop.OutOfMemory fits rose free = tt

-- a walk that failed is the hand's fault
pub fault_failed : (fault : WalkFault) → fault ≡ stop.Failed → IsTrue (is_hand_fault (Walk fault))
fault_failed fault is = ap (λ (f : WalkFault). is_hand_fault (Walk f)) is
