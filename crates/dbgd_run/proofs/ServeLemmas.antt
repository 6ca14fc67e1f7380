-- What the status of a server says, by what it did.
use Rattle.std.proofs.Common.{◌≡◌, inl, inr, ℕ, ◌<◌, ◌≤◌, Bool, true, false, ◌||◌, List, [], ◌++◌, All, map, Option, Some, None, length, refl, sym, ap, subst, arith, IsTrue}
use Rattle.std.proofs.lemmas.Bool.{true≢false}
use Rattle.path_scope.specs.Scope.{Scope}
use Rattle.row_types.specs.Faults.{Rose}
use Rattle.row_types.specs.Row.{RowFacts}
use Rattle.http_wire.specs.Door.{ShownDoor}
use Rattle.http_wire.specs.Sink.{GetsAll}
use Rattle.http_wire.specs.Stream.{ShownStream}
use Rattle.http_wire.specs.declared.door.DoorSaid.TheVariants as said
use Rattle.http_wire.proofs.Pieces.{gets_both, gets_none}
use Rattle.index_keeper.specs.Tables.{KeptFacts}
use Rattle.index_state.specs.Changes.{EndsVoid, VoidWhere}
use Rattle.index_state.specs.Opening.{AreRows}
use Rattle.index_rows.specs.declared.change.Change.{Change}
use Rattle.index_state.proofs.VoidEnds.{never_both}
use Rattle.index_state.specs.declared.open_fault.OpenFault.{OpenFault}
use Rattle.index_state.specs.declared.open_fault.OpenFault.TheVariants as refusal
use Rattle.dbgd_commands.specs.Endings.{SaysMemory}
use Rattle.dbgd_commands.specs.Kept.{StoreHoldsRows}
use Rattle.dbgd_commands.specs.Opened.{EndsOnlyWith}
use Rattle.dbgd_commands.specs.Scan.{Scans}
use Rattle.dbgd_commands.specs.ScanSaid.{pass_saying}
use Rattle.dbgd_commands.specs.Stage.{LeavesRest, ProgramStage, Setting}
use Rattle.dbgd_commands.specs.declared.scan_end.ScanEnd.TheVariants as scanned
use Rattle.dbgd_commands.specs.declared.status.Status.{Status}
use Rattle.dbgd_commands.specs.declared.status.Status.TheVariants as status
use Rattle.dbgd_commands.proofs.RowLemmas.{none_bad, none_overfull}
use Rattle.dbgd_commands.proofs.ScanLemmas.{bad_end, full_end}
use Rattle.dbgd_commands.proofs.StoreLemmas.{scans_wanting}
use Rattle.dbgd_run.specs.RoundSaid.{is_cut, is_unmade}
use Rattle.dbgd_run.specs.Rounds.{KeepsPassing, PassStage, Round}
use Rattle.dbgd_run.specs.Serve.{HasServed, IsUnopened, PassesOn, RunsServe, SaysUnserved, ServeWords, scope_in, served, served_setting, unopened, unserved}
use Rattle.dbgd_run.specs.ServeCauses.{IsServedWell, ServeEnds, ServeStatus, SomeDoorRose, lines_behind}
use Rattle.dbgd_run.specs.ServeSaid.{has_cut, is_any_failed, served_status, serving_line, wants_line}
use Rattle.dbgd_run.specs.Workers.{WorkerFacts}
use Rattle.dbgd_run.specs.declared.line_fate.LineFate.{LineFate}
use Rattle.dbgd_run.specs.declared.passes_end.PassesEnd.{PassesEnd}
use Rattle.dbgd_run.specs.declared.passes_end.PassesEnd.TheVariants.{Stopped, OutFailed, OutOfMemory}
use Rattle.dbgd_run.proofs.FailedDoors.{all_closed, some_rose}
use Rattle.dbgd_run.proofs.RoundLemmas.{later_out}
use Rattle.dbgd_run.proofs.TellLemmas.{out_later, out_rose, out_whole}

-- The standard output

module _ {T : Type 0} (s : Setting T) (scope : Scope) (secs : ℕ) where
  -- the count of the standard output never falls while passes are made
  keeps_later : (before after : PassStage T) (how : PassesEnd) → KeepsPassing s scope secs before how after
      → before.streams.out.write_faults ≤ after.streams.out.write_faults
  keeps_later before after Stopped keeps =
      let at = later_out s scope secs before keeps.last keeps.rounds keeps.go in
      let same : after.streams.out.write_faults ≡ keeps.last.streams.out.write_faults
      = ap (λ (at : PassStage T). at.streams.out.write_faults) keeps.ends.2.rest in
      omega (arith, at, same)
  keeps_later before after OutFailed keeps =
      let at = later_out s scope secs before keeps.last keeps.rounds keeps.go in
      let same : after.streams.out.write_faults ≡ keeps.last.streams.out.write_faults
      = ap (λ (at : PassStage T). at.streams.out.write_faults) keeps.ends.2.rest in
      omega (arith, at, same)
  keeps_later before after OutOfMemory keeps =
      let at = later_out s scope secs before keeps.last keeps.rounds keeps.go in
      let same : after.streams.out.write_faults ≡ keeps.last.streams.out.write_faults
      = ap (λ (at : PassStage T). at.streams.out.write_faults) keeps.ends.1 in
      omega (arith, at, same)

  on_later : (first : Round T) (how : Option PassesEnd) (last : PassStage T) → PassesOn s scope secs first how last
      → first.after.streams.out.write_faults ≤ last.streams.out.write_faults
  on_later first None last none =
      let same : last.streams.out.write_faults ≡ first.after.streams.out.write_faults
      = ap (λ (at : PassStage T). at.streams.out.write_faults) none.1 in
      omega (arith, same)
  on_later first (Some how) last kept = keeps_later first.after last how kept.1

  -- where memory was not refused for a line, and none was refused by the standard output, it got each line
  on_out : (first : Round T) (how : Option PassesEnd) (last : PassStage T) (passes : PassesOn s scope secs first how last)
      → wants_line first.fate how ≡ false → has_cut first.fate how ≡ false
      → GetsAll (lines_behind s scope secs first how last passes) first.after.streams.out last.streams.out
  on_out first None last none wants cut =
      subst (λ (at : PassStage T). GetsAll [] first.after.streams.out at.streams.out) (sym none.1)
      (gets_none first.after.streams.out)
  on_out first (Some Stopped) last kept wants cut = kept.1.out refl
  on_out first (Some OutFailed) last kept wants cut = absurd (true≢false cut)
  on_out first (Some OutOfMemory) last kept wants cut = absurd (true≢false wants)

  -- the same of the first pass alone
  first_made : (fate : LineFate) (how : Option PassesEnd) → wants_line fate how ≡ false → is_unmade fate ≡ false
  first_made fate None wants = wants
  first_made fate (Some Stopped) wants = wants
  first_made fate (Some OutFailed) wants = wants
  first_made fate (Some OutOfMemory) wants = absurd (true≢false wants)

  first_whole : (fate : LineFate) (how : Option PassesEnd) → has_cut fate how ≡ false → is_cut fate ≡ false
  first_whole fate None cut = cut
  first_whole fate (Some Stopped) cut = cut
  first_whole fate (Some OutFailed) cut = absurd (true≢false cut)
  first_whole fate (Some OutOfMemory) cut = cut

  -- a line was refused only where the count rose
  on_rose : (first : Round T) (how : Option PassesEnd) (last : PassStage T) (low : ℕ) → PassesOn s scope secs first how last
      → low ≤ first.after.streams.out.write_faults
      → (is_cut first.fate ≡ true → Rose low first.after.streams.out.write_faults)
      → has_cut first.fate how ≡ true → Rose low last.streams.out.write_faults
  on_rose first None last low passes least one cut =
      let more = on_later first None last passes in
      let rose = one cut in
      omega (arith, rose, more)
  on_rose first (Some Stopped) last low passes least one cut =
      let more = on_later first (Some Stopped) last passes in
      let rose = one cut in
      omega (arith, rose, more)
  on_rose first (Some OutFailed) last low passes least one cut =
      let rose = passes.1.failed refl in
      omega (arith, rose, least)
  on_rose first (Some OutOfMemory) last low passes least one cut =
      let more = on_later first (Some OutOfMemory) last passes in
      let rose = one cut in
      omega (arith, rose, more)

-- a log whose changes all change something doesn't end in a void one
not_void : (broken : Bool) (log : List Change) → VoidWhere broken log → broken ≡ false → ¬ EndsVoid log
not_void true log void is = absurd (true≢false is)
not_void false log void is = λ ends. never_both void ends

module _ {T : Type 0} (s : Setting T) (words : ServeWords) (before after : ProgramStage T) where
  module _ (code : Status) (run : HasServed s words before after code) where
    -- the count of the standard output behind the first pass
    first_least : before.command.streams.out.write_faults ≤ run.first.after.streams.out.write_faults
    first_least =
        let line = run.line.out.later in
        let pass = out_later run.first.end run.told run.first.after.streams run.first.fate run.made.tells in
        omega (arith, line, pass)

    cut_rose : has_cut run.first.fate run.how ≡ true
        → Rose before.command.streams.out.write_faults after.command.streams.out.write_faults
    cut_rose cut =
        let least = first_least in
        let rose = on_rose s (scope_in words) words.secs run.first run.how run.last before.command.streams.out.write_faults run.passes least
        (λ one.
        let line = run.line.out.later in
        let pass = out_rose run.first.end run.told run.first.after.streams run.first.fate run.made.tells one in
        omega (arith, line, pass)) cut in
        let same : after.command.streams.out.write_faults ≡ run.last.streams.out.write_faults = ap (λ (shown : ShownStream). shown.write_faults) run.out in
        omega (arith, rose, same)

    failed_rose : is_any_failed after.doors ≡ true → SomeDoorRose before.doors after.doors
    failed_rose failed =
        subst (λ (doors : List ShownDoor). SomeDoorRose doors after.doors) run.workers_are.doors
        (subst (λ (doors : List ShownDoor). SomeDoorRose (map (λ (worker : WorkerFacts T). worker.door) run.workers) doors) run.left_are.doors
        (some_rose (served_setting s words) run.first.after.log run.log run.workers run.left run.doors
        (subst (λ (doors : List ShownDoor). is_any_failed doors ≡ true) (sym run.left_are.doors) failed)))

    all_out : wants_line run.first.fate run.how ≡ false → has_cut run.first.fate run.how ≡ false
        → GetsAll
        (serving_line words.port words.workers ++ (pass_saying run.first.end).out
        ++ lines_behind s (scope_in words) words.secs run.first run.how run.last run.passes)
        before.command.streams.out after.command.streams.out
    all_out wants cut =
        let made = first_made s (scope_in words) words.secs run.first.fate run.how wants in
        let whole = first_whole s (scope_in words) words.secs run.first.fate run.how cut in
        subst
        (λ (shown : ShownStream). GetsAll
        (serving_line words.port words.workers ++ (pass_saying run.first.end).out
        ++ lines_behind s (scope_in words) words.secs run.first run.how run.last run.passes)
        before.command.streams.out shown) (sym run.out)
        (gets_both
        (gets_both run.line.out (out_whole run.first.end run.told run.first.after.streams run.first.fate run.made.tells whole made))
        (on_out s (scope_in words) words.secs run.first run.how run.last run.passes wants cut))

  -- where none of the four things came, all went well
  abbrev IsWellFrom : Status → Type 0
  IsWellFrom code = (run : HasServed s words before after code) → wants_line run.first.fate run.how ≡ false
      → has_cut run.first.fate run.how ≡ false → is_any_failed after.doors ≡ false → run.broken ≡ false
      → IsServedWell s words before after

  well_done : IsWellFrom status.Done
  well_done run wants cut failed sound = record {
    serves = run;
    closed =
        subst (λ (doors : List ShownDoor). All (λ (door : ShownDoor). door.last ≡ Some said.Closed) doors) run.left_are.doors
        (all_closed (served_setting s words) run.first.after.log run.log run.workers run.left run.doors
        (subst (λ (doors : List ShownDoor). is_any_failed doors ≡ false) (sym run.left_are.doors) failed));
    sound = not_void run.broken run.log run.logs.void sound;
    out = all_out status.Done run wants cut;
  }

  -- what the status of a server that served says, by the four things that it goes by
  by_four : (code : Status) → (run : HasServed s words before after code) → (wants cut failed broken : Bool)
      → wants_line run.first.fate run.how ≡ wants → has_cut run.first.fate run.how ≡ cut → is_any_failed after.doors ≡ failed
      → run.broken ≡ broken → code ≡ served_status wants (cut || (failed || broken)) → ServeStatus s words before after code
  by_four code run true cut failed broken w c f b is = subst (ServeStatus s words before after) (sym is) tt
  by_four code run false true failed broken w c f b is =
      subst (ServeStatus s words before after) (sym is) (inr (inr (cut_rose code run c)))
  by_four code run false false true broken w c f b is =
      subst (ServeStatus s words before after) (sym is) (inr (inl (failed_rose code run f)))
  by_four code run false false false true w c f b is =
      subst (ServeStatus s words before after) (sym is) (inl (run.store.cause.rose b))
  by_four code run false false false false w c f b is =
      subst (ServeStatus s words before after) (sym is) (subst IsWellFrom (sym is) well_done run w c f b)

  -- where no index was opened
  refused_status : (fault : OpenFault) (code : Status) → IsUnopened s words before after fault code
      → ServeStatus s words before after code
  refused_status refusal.KeeperFault code run =
      subst (ServeStatus s words before after) (sym run.said.ends) (inl (run.scans.store.rose refl))
  refused_status (refusal.BadRow kept fault) code run =
      subst (ServeStatus s words before after) (sym run.said.ends)
      (record {
        opened = run.scans.opened refl;
        values = run.scans.ends.store.values;
        gave = run.scans.ends.store.gave;
        so = record { kept = kept; fault = fault; first = run.scans.ends.store.why };
      })
  refused_status refusal.LogFull code run =
      subst (ServeStatus s words before after) (sym run.said.ends)
      (record {
        opened = run.scans.opened refl;
        values = run.scans.ends.store.values;
        gave = run.scans.ends.store.gave;
        so = run.scans.ends.store.why;
      })
  refused_status refusal.OutOfMemory code run = subst (ServeStatus s words before after) (sym run.said.ends) tt

  pub serve_status : (code : Status) → RunsServe s words before after code → ServeStatus s words before after code
  serve_status code (unopened fault run) = refused_status fault code run
  serve_status code (unserved run) = by_said run.said
    where
      by_said : SaysUnserved words before.command.streams after.command.streams code → ServeStatus s words before after code
      by_said (inl cut) = subst (ServeStatus s words before after) (sym cut.ends) (inr (inr cut.out.rose))
      by_said (inr late) = subst (ServeStatus s words before after) (sym late.wants.ends) tt
  serve_status code (served run) =
      by_four code run (wants_line run.first.fate run.how) (has_cut run.first.fate run.how) (is_any_failed after.doors) run.broken refl refl
      refl refl run.ends

  -- the rows that were found are those of the store, where it tells
  told_rows : (found : List RowFacts) → IsTrue s.tells_tables → StoreHoldsRows s.tells_tables before.command.store found
      → AreRows found before.command.store.tables
  told_rows found tells held = subst (λ (values : List KeptFacts). AreRows found values) (held.gave.tells tells) held.sound

  pub serve_ends : (code : Status) → RunsServe s words before after code → ServeEnds s before after code
  serve_ends code (unopened fault run) = record {
    bad = λ tells bad.
        subst (EndsOnlyWith status.BadRow before.command.store after.command.store) (sym run.said.ends)
        (bad_end s words.path (scope_in words) before.command after.command (scanned.Refused fault) tells bad run.scans);
    overfull = λ tells full.
        subst (EndsOnlyWith status.Limit before.command.store after.command.store) (sym run.said.ends)
        (full_end s words.path (scope_in words) before.command after.command (scanned.Refused fault) tells full run.scans);
  }
  serve_ends code (unserved run) = record {
    bad = λ tells bad. absurd (none_bad bad.fault (told_rows run.found tells run.held) bad.held bad.bad);
    overfull = λ tells full. absurd (none_overfull (told_rows run.found tells run.held) run.held.few full);
  }
  serve_ends code (served run) = record {
    bad = λ tells bad. absurd (none_bad bad.fault (told_rows run.found tells run.held) bad.held bad.bad);
    overfull = λ tells full. absurd (none_overfull (told_rows run.found tells run.held) run.held.few full);
  }

  -- memory was refused before the store was opened, and nothing was asked for
  pub serve_wanting : (code : Status) → 0 < length before.command.hands → after.command.hands ≡ before.command.hands
      → after.command.store ≡ before.command.store → SaysMemory before.command.streams after.command.streams code → LeavesRest before after
      → RunsServe s words before after code
  serve_wanting code some hands store said rest =
      unopened refusal.OutOfMemory (record {
        scans =
            subst
            (λ (left : List T). Scans s words.path (scope_in words) before.command.hands left before.command.store after.command.store (scanned.Refused refusal.OutOfMemory))
            (sym hands) (scans_wanting s words.path some store);
        said = said;
        rest = rest;
      })
