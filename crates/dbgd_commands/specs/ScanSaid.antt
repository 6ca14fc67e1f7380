-- What is said of the end of a scan, and which ends come of a failed call (this project's rule).
use Rattle.std.specs.Prelude.{◌⊎◌, Bool, true, false, ◌++◌, codes}
use Rattle.row_types.specs.Name.{NameFacts}
use Rattle.index_keeper.specs.Tables.{KeptFacts}
use Rattle.scan_queue.specs.declared.miss.Cause.{Cause}
use Rattle.scan_queue.specs.declared.miss.Cause.TheVariants.{ReadFault, Altered, Appeared}
use Rattle.tree_walk.specs.declared.fault.WalkFault.{WalkFault}
use Rattle.tree_walk.specs.declared.fault.WalkFault.TheVariants as stop
use Rattle.index_state.specs.declared.open_fault.OpenFault.{OpenFault}
use Rattle.index_state.specs.declared.open_fault.OpenFault.TheVariants as refusal
use Rattle.pass_runner.specs.Owned.{is_hand_fault as is_hand_fault_of}
use Rattle.pass_runner.specs.declared.pass_end.PassEnd.{PassEnd}
use Rattle.pass_runner.specs.declared.pass_end.PassEnd.TheVariants as pass
use Rattle.dbgd_commands.specs.Endings.{EndsSaying, EndsWhole, Saying, Streams, SaysMemory, error_saying}
use Rattle.dbgd_commands.specs.Endings.{fault_saying, gone_saying, limit_saying, no_memory_saying}
use Rattle.dbgd_commands.specs.Endings.{out_saying}
use Rattle.dbgd_commands.specs.Texts.{altered_text, appeared_text, summary_line}
use Rattle.dbgd_commands.specs.declared.scan_end.ScanEnd.{ScanEnd}
use Rattle.dbgd_commands.specs.declared.scan_end.ScanEnd.TheVariants.{Refused, Passed}
use Rattle.dbgd_commands.specs.declared.status.Status.{Status}
use Rattle.dbgd_commands.specs.declared.status.Status.TheVariants as status

-- whether the end comes of an open store alone
abbrev pub is_open : ScanEnd → Bool
is_open (Refused (refusal.BadRow kept fault)) = true
is_open (Refused refusal.LogFull) = true
is_open (Refused _) = false
is_open (Passed end) = true

-- whether a call of the first hand failed
abbrev pub is_first_hand_fault : ScanEnd → Bool
is_first_hand_fault (Refused fault) = false
is_first_hand_fault (Passed end) = is_hand_fault_of end

-- whether a call of the store failed
abbrev pub is_store_fault : ScanEnd → Bool
is_store_fault (Refused refusal.KeeperFault) = true
is_store_fault (Passed pass.KeeperFault) = true
is_store_fault _ = false

-- of a value that isn't a row under its path
abbrev pub bad_row_saying : KeptFacts → Saying
bad_row_saying kept = error_saying (codes "dbgd: bad row " ++ kept.path) status.BadRow

-- of a store on which no index could be opened
abbrev pub refusal_saying : OpenFault → Saying
refusal_saying refusal.KeeperFault = fault_saying (codes "store")
refusal_saying (refusal.BadRow kept fault) = bad_row_saying kept
refusal_saying refusal.LogFull = limit_saying (codes "changes")
refusal_saying refusal.OutOfMemory = no_memory_saying

-- of a walk that ended with a fault
abbrev pub walk_saying : WalkFault → Saying
walk_saying stop.Failed = fault_saying (codes "folder")
walk_saying stop.TooMany = limit_saying (codes "files")
walk_saying stop.TooManyEntries = limit_saying (codes "entries")
walk_saying (stop.RootGone path) = gone_saying path
walk_saying stop.OutOfMemory = no_memory_saying

-- of a name that was missed
abbrev pub miss_saying : NameFacts → Cause → Saying
miss_saying name ReadFault = fault_saying (codes "file")
miss_saying name (Altered met) = error_saying (altered_text name met) status.Altered
miss_saying name Appeared = error_saying (appeared_text name) status.Altered

-- of the end of a pass
abbrev pub pass_saying : PassEnd → Saying
pass_saying (pass.Whole summary) = out_saying (summary_line summary) status.Done
pass_saying (pass.Missed miss) = miss_saying miss.name miss.cause
pass_saying (pass.Walk fault) = walk_saying fault
pass_saying pass.Broken = fault_saying (codes "store")
pass_saying pass.KeeperFault = fault_saying (codes "store")
pass_saying pass.LogFull = limit_saying (codes "changes")
pass_saying pass.OutOfMemory = no_memory_saying

-- of the end of a scan
abbrev pub scan_saying : ScanEnd → Saying
scan_saying (Refused fault) = refusal_saying fault
scan_saying (Passed end) = pass_saying end

-- it was said; or, where its line is made, want of memory
abbrev pub SaysMiss : NameFacts → Cause → Streams → Streams → Status → Type 0
SaysMiss name ReadFault old new end = EndsWhole (miss_saying name ReadFault) old new end
SaysMiss name cause old new end = EndsWhole (miss_saying name cause) old new end ⊎ SaysMemory old new end

-- the end of a pass was said; or, where its line is made, want of memory
abbrev pub SaysPass : PassEnd → Streams → Streams → Status → Type 0
SaysPass (pass.Whole summary) old new end =
    EndsSaying (pass_saying (pass.Whole summary)) old new end ⊎ SaysMemory old new end
SaysPass (pass.Missed miss) old new end = SaysMiss miss.name miss.cause old new end
SaysPass how old new end = EndsWhole (pass_saying how) old new end

-- the end of a scan was said; or, where its line is made, want of memory
abbrev pub SaysEnd : ScanEnd → Streams → Streams → Status → Type 0
SaysEnd (Refused fault) old new end = EndsWhole (refusal_saying fault) old new end
SaysEnd (Passed how) old new end = SaysPass how old new end
