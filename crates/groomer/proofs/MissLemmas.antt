-- A name is missed by a judgement only where a file was seen.
use Rattle.std.proofs.Common.{◌≡◌, ◌≤◌, Bool, true, sym, arith}
use Rattle.std.proofs.lemmas.Bool.{and_parts, true≢false}
use Rattle.row_types.specs.Name.{NameFacts}
use Rattle.row_types.specs.Stamp.{StampFacts}
use Rattle.index_keeper.specs.Keeper.{ShownKeeper}
use Rattle.index_state.specs.Judge.{is_file}
use Rattle.index_state.specs.Marks.{is_marked}
use Rattle.index_state.specs.State.{StateFacts}
use Rattle.index_state.specs.Step.{Judges}
use Rattle.index_state.specs.declared.answer.Judged.{Judged}
use Rattle.index_state.specs.declared.answer.Judged.TheVariants as judged
use Rattle.scan_queue.specs.declared.miss.Seen.{Seen}
use Rattle.scan_queue.specs.declared.miss.Seen.TheVariants as seen
use Rattle.groomer.specs.Judged.{miss_by, miss_of}

seen_file : (met : Seen) (stamp : StampFacts) → is_file met stamp ≡ true → 1 ≤ miss_of met
seen_file (seen.File at) stamp there = omega arith
seen_file seen.Gone stamp there = absurd (true≢false (sym there))
seen_file seen.Other stamp there = absurd (true≢false (sym there))

pub judged_missed : {K : Type 0} (told : Bool) (shows : K → ShownKeeper) (name : NameFacts) (met : Seen) (old new : StateFacts K)
    (answer : Judged) → Judges told shows name met old answer new → miss_by answer ≤ miss_of met
judged_missed told shows name met old new judged.Strange h =
    seen_file met name.stamp (and_parts (is_marked old.pass name.path) (is_file met name.stamp) h.strange.strange).1
judged_missed told shows name met old new judged.Broken h = omega arith
judged_missed told shows name met old new judged.Kept h = omega arith
judged_missed told shows name met old new (judged.Moved now) h = omega arith
judged_missed told shows name met old new judged.LogFull h = omega arith
judged_missed told shows name met old new judged.OutOfMemory h = omega arith
judged_missed told shows name met old new judged.KeeperFault h = omega arith
judged_missed told shows name met old new judged.Dropped h = omega arith
