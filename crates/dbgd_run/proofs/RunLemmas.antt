-- A run, by what its words ask.
use Rattle.std.proofs.Common.{◌≡◌, ◌⊎◌, ℕ, ◌+◌, ◌<◌, false, List, [], drop, length, inl, inr, refl, sym, ap, subst, arith}
use Rattle.std.proofs.lemmas.Bool.{true≢false}
use Rattle.index_state.specs.declared.open_fault.OpenFault.TheVariants as refusal
use Rattle.path_canon.specs.Selected.{IsCauseFor}
use Rattle.path_canon.specs.declared.fault.SelectFault.{SelectFault}
use Rattle.path_canon.specs.declared.fault.SelectFault.TheVariants as refused
use Rattle.dbgd_words.specs.Patterns.{PatternTexts}
use Rattle.find_client.specs.Find.{HasEndCause, WritesCertified}
use Rattle.find_client.specs.declared.searching.FindEnd.{FindEnd}
use Rattle.find_client.specs.declared.searching.FindEnd.TheVariants as found
use Rattle.webapi_routes.specs.declared.route.Route.{Route}
use Rattle.dbgd_words.specs.Words.{Line, asks_find, asks_help, asks_ident, asks_query, asks_scan, asks_section, asks_serve, asks_sources, asks_trial, line_of, unreadable}
use Rattle.dbgd_words.proofs.OptionLemmas.{AsksByOptions, options_ask}
use Rattle.dbgd_commands.specs.CommandCauses.{ScanStatus, TrialStatus}
use Rattle.dbgd_commands.specs.Endings.{EndsSaying, SaysMemory, out_saying}
use Rattle.dbgd_commands.specs.Query.{RunsQuery}
use Rattle.dbgd_commands.specs.Stage.{CommandStage, LeavesRest, ProgramStage, Setting}
use Rattle.dbgd_commands.specs.Statuses.{code_of}
use Rattle.dbgd_commands.specs.Trial.{RunsTrial, SaysTrial, trial_end_line}
use Rattle.dbgd_commands.specs.declared.query_end.QueryEnd.TheVariants as looked
use Rattle.dbgd_commands.specs.declared.status.Status.{Status}
use Rattle.dbgd_commands.specs.declared.status.Status.TheVariants as status
use Rattle.dbgd_commands.proofs.CauseLemmas.{by_ends, ident_status, section_status, sources_status}
use Rattle.dbgd_commands.proofs.QueryLemmas.{queries_wanting, query_ends, query_status}
use Rattle.dbgd_commands.proofs.ScanLemmas.{scan_ends, scan_status}
use Rattle.dbgd_run.specs.Causes.{HasStatus, HelpStatus}
use Rattle.dbgd_run.specs.Find.{FindStatus, RunsFind, first_row, found_saying}
use Rattle.dbgd_run.specs.Needs.{asks_others}
use Rattle.dbgd_run.specs.Runs.{DoesLine, DoesWords, IsProgramRun, LacksRoom, Runs, SaysHelp}
use Rattle.dbgd_run.specs.Selecting.{SelectStatus, Selects, SelectsNothing, scope_by, selecting, unselected, unselected_saying}
use Rattle.dbgd_run.specs.Serve.{serve_words}
use Rattle.dbgd_run.specs.ServeCauses.{ServeStatus}
use Rattle.dbgd_run.proofs.ServeComplete.{serve_complete}
use Rattle.dbgd_run.proofs.ServeLemmas.{serve_ends, serve_status}

module _ {T : Type 0} (s : Setting T) (words : List (List ℕ)) (before after : CommandStage T) (end : Status) where
  -- what the status of a help or version says
  help_status : SaysHelp before after end → HelpStatus before after end
  help_status run = go run.says
    where
      go : EndsSaying (out_saying run.text status.Done) before.streams after.streams end ⊎ SaysMemory before.streams after.streams end
          → HelpStatus before after end
      go (inl ends) = by_ends (HelpStatus before after) (out_saying run.text status.Done) tt (λ rose. rose) ends
      go (inr wants) = subst (HelpStatus before after) (sym wants.ends) tt

  -- what the status of a trial says
  trial_status : (seed files : ℕ) → RunsTrial seed files before after end → TrialStatus seed files before after end
  trial_status seed files run = go run.says
    where
      go : SaysTrial seed files before.streams after.streams end → TrialStatus seed files before after end
      go (inl told) = said told.says
        where
          said : EndsSaying (out_saying (trial_end_line files told.rows) status.Done) before.streams after.streams end
              → TrialStatus seed files before after end
          said (inl whole) =
              subst (TrialStatus seed files before after) (sym whole.ends)
              (record { rows = told.rows; rows_are = told.rows_are; line = whole.out })
          said (inr cut) = subst (TrialStatus seed files before after) (sym cut.ends) cut.out.rose
      go (inr wants) = subst (TrialStatus seed files before after) (sym wants.ends) tt

-- what a status says that is not the usage, of a line that selects files
selects_status : (patterns : PatternTexts) (end : Status) (Says : Status → Type 0) → ¬ Says status.Usage → Says end
    → SelectStatus patterns end (Says end)
selects_status patterns status.Done Says none says = says
selects_status patterns status.Fault Says none says = says
selects_status patterns status.Usage Says none says = absurd (none says)
selects_status patterns status.Absent Says none says = says
selects_status patterns status.Altered Says none says = says
selects_status patterns status.Limit Says none says = says
selects_status patterns status.OutOfMemory Says none says = tt
selects_status patterns status.BadRow Says none says = says

-- the same where there is no selection
unselects_status : {T : Type 0} (patterns : PatternTexts) (end : Status) (Says : Status → Type 0) (before after : ProgramStage T)
    → SelectsNothing patterns before after end → SelectStatus patterns end (Says end)
unselects_status patterns end Says before after run = go run.fault run.why run.alone.says.ends
  where
    go : (fault : SelectFault) → IsCauseFor patterns.include patterns.exclude fault → end ≡ (unselected_saying fault).status
        → SelectStatus patterns end (Says end)
    go refused.BadInclude why is = subst (λ e. SelectStatus patterns e (Says e)) (sym is) (refused.BadInclude, why)
    go refused.BadExclude why is = subst (λ e. SelectStatus patterns e (Says e)) (sym is) (refused.BadExclude, why)
    go refused.TooBig why is = subst (λ e. SelectStatus patterns e (Says e)) (sym is) (refused.TooBig, why)
    go refused.OutOfMemory why is = subst (λ e. SelectStatus patterns e (Says e)) (sym is) tt

-- what is said of a line that selects files follows from what it does
selects_map : {T : Type 0} (patterns : PatternTexts) (before after : ProgramStage T) (end : Status) {does says : Type 0} → (does → says)
    → Selects patterns before after end does → Selects patterns before after end says
selects_map patterns before after end f (selecting taken run) = selecting taken (f run)
selects_map patterns before after end f (unselected run) = unselected run

-- what the status of a search says
find_status : {T : Type 0} (route : Route) (before after : ProgramStage T) (end : Status) → RunsFind route before after end
    → FindStatus route before after end
find_status route before after end run = go run.how run.said.ends run.found.certified run.found.cause
  where
    go : (how : FindEnd) → end ≡ (found_saying how).status
        → WritesCertified route before.command.streams.out after.command.streams.out how
        → HasEndCause before.cache (first_row before.links) before.command.streams.out route after.cache (first_row after.links)
        after.command.streams.out how → FindStatus route before after end
    go found.Cached is writes why = subst (FindStatus route before after) (sym is) writes
    go found.Fetched is writes why = subst (FindStatus route before after) (sym is) writes
    go found.NotKept is writes why = subst (FindStatus route before after) (sym is) (inl why)
    go found.Nothing is writes why =
        subst (FindStatus route before after) (sym is) (record { none = why.0; cache = why.1; links = why.2 })
    go found.CacheFault is writes why = subst (FindStatus route before after) (sym is) (inl why.1)
    go found.LinkFault is writes why = subst (FindStatus route before after) (sym is) (inr (inl why.2))
    go found.WriteFault is writes why = subst (FindStatus route before after) (sym is) (inr (inr why))
    go found.OutOfMemory is writes why = subst (FindStatus route before after) (sym is) tt

-- what a line does where doors, links, clock and cache are as they were; nothing is said so of one that selects files, or of a search
pub runs_apart : {T : Type 0} (s : Setting T) (line : Line) (before after : ProgramStage T) (end : Status)
    → Runs s line before.command after.command end → LeavesRest before after → DoesLine s line before after end
runs_apart s (asks_ident path) before after end runs rest = record { runs = runs; rest = rest }
runs_apart s (asks_sources path) before after end runs rest = record { runs = runs; rest = rest }
runs_apart s (asks_section path name) before after end runs rest = record { runs = runs; rest = rest }
runs_apart s (asks_query path id) before after end runs rest = record { runs = runs; rest = rest }
runs_apart s (asks_scan path workers patterns roots) before after end runs rest = absurd runs
runs_apart s (asks_trial seed files workers) before after end runs rest = record { runs = runs; rest = rest }
runs_apart s (asks_find cache route upstream) before after end runs rest = absurd runs
runs_apart s asks_help before after end runs rest = record { runs = runs; rest = rest }
runs_apart s (asks_serve path workers port secs sources upstream patterns roots) before after end runs rest = absurd runs
runs_apart s unreadable before after end runs rest = record { runs = runs; rest = rest }

-- the same of all that there is: a line that asks for no server, and one that does
module _ {T : Type 0} (s : Setting T) (words : List (List ℕ)) (before after : ProgramStage T) (end : Status) where
  -- what the status says
  has_status : (line : Line) → DoesLine s line before after end → HasStatus s words line before after end
  has_status (asks_ident path) run = ident_status s before.command after.command end path run.runs
  has_status (asks_sources path) run = sources_status s before.command after.command end path run.runs
  has_status (asks_section path name) run = section_status s before.command after.command end path name run.runs
  has_status (asks_query path id) run = query_status s path id before.command after.command end run.runs
  has_status (asks_scan path workers patterns roots) (selecting taken run) =
      selects_status patterns end (ScanStatus s (scope_by patterns roots) before.command after.command) (λ e. e)
      (scan_status s path (scope_by patterns roots) before.command after.command workers end run.0)
  has_status (asks_scan path workers patterns roots) (unselected run) =
      unselects_status patterns end (ScanStatus s (scope_by patterns roots) before.command after.command) before after run
  has_status (asks_trial seed files workers) run = trial_status s words before.command after.command end seed files run.runs
  has_status asks_help run = help_status s words before.command after.command end run.runs
  has_status (asks_serve path workers port secs sources upstream patterns roots) (selecting taken run) =
      selects_status patterns end (ServeStatus s (serve_words path workers port secs sources upstream patterns roots) before after) (λ e. e)
      (serve_status s (serve_words path workers port secs sources upstream patterns roots) before after end run)
  has_status (asks_serve path workers port secs sources upstream patterns roots) (unselected run) =
      unselects_status patterns end (ServeStatus s (serve_words path workers port secs sources upstream patterns roots) before after)
      before after run
  has_status (asks_find cache route upstream) run = find_status route before after end run
  has_status unreadable run = subst (λ e. HasStatus s words unreadable before after e) (sym run.runs.says.ends) tt

  -- doors, links, clock and cache are as they were, unless a server or a search is asked for
  leaves_rest : (line : Line) → DoesLine s line before after end → asks_others line ≡ false → LeavesRest before after
  leaves_rest (asks_ident path) run none = run.rest
  leaves_rest (asks_sources path) run none = run.rest
  leaves_rest (asks_section path name) run none = run.rest
  leaves_rest (asks_query path id) run none = run.rest
  leaves_rest (asks_scan path workers patterns roots) (selecting taken run) none = run.1
  leaves_rest (asks_scan path workers patterns roots) (unselected run) none = run.rest
  leaves_rest (asks_trial seed files workers) run none = run.rest
  leaves_rest asks_help run none = run.rest
  leaves_rest (asks_serve path workers port secs sources upstream patterns roots) run none = absurd (true≢false none)
  leaves_rest (asks_find cache route upstream) run none = absurd (true≢false none)
  leaves_rest unreadable run none = run.rest

  -- a part for each command
  pub is_run : (code : ℕ) → code ≡ code_of end → DoesLine s (line_of words) before after end → IsProgramRun s words before after code
  is_run code number run = record {
    status = end;
    number = number;
    ident = λ path is. (subst (λ (l : Line). DoesLine s l before after end) is run).runs;
    sources = λ path is. (subst (λ (l : Line). DoesLine s l before after end) is run).runs;
    section = λ path name is. (subst (λ (l : Line). DoesLine s l before after end) is run).runs;
    query = λ path id is.
        let does : RunsQuery s path id before.command after.command end
        = (subst (λ (l : Line). DoesLine s l before after end) is run).runs in
        record { does = does; ends = query_ends s path id before.command after.command end does };
    scan = λ path workers patterns roots is.
        selects_map patterns before after end
        (λ run. record { does = run.0; ends = scan_ends s path (scope_by patterns roots) before.command after.command workers end run.0 })
        (subst (λ (l : Line). DoesLine s l before after end) is run);
    trial = λ seed files workers is. (subst (λ (l : Line). DoesLine s l before after end) is run).runs;
    help = λ is. (subst (λ (l : Line). DoesLine s l before after end) is run).runs;
    serve = λ path workers port secs sources upstream patterns roots is.
        let words = serve_words path workers port secs sources upstream patterns roots in
        selects_map patterns before after end
        (λ does. record { does = does; ends = serve_ends s words before after end does; complete = serve_complete s words before after end does })
        (subst (λ (l : Line). DoesLine s l before after end) is run);
    find = λ cache route upstream is. inl (subst (λ (l : Line). DoesLine s l before after end) is run);
    usage = λ is. inl (subst (λ (l : Line). DoesLine s l before after end) is run).runs;
    causes = has_status (line_of words) run;
    rest = leaves_rest (line_of words) run;
  }

  -- of words that are read as options, where memory was refused
  module _ (lacks : LacksRoom words before after end) where
    query_lacks : (path id : List ℕ) → RunsQuery s path id before.command after.command end
    query_lacks path id = record {
      answers = record {
        end = looked.Refused refusal.OutOfMemory;
        queries = queries_wanting s.tells_tables path id lacks.alone.store;
        said = lacks.alone.says;
      };
      hands = lacks.alone.hands;
    }

    nothing_lacks : (patterns : PatternTexts) → SelectsNothing patterns before after end
    nothing_lacks patterns = record { fault = refused.OutOfMemory; why = tt; alone = lacks.alone; rest = lacks.rest }

    asks : (line : Line) → line_of words ≡ line → AsksByOptions line
    asks line is = subst AsksByOptions is (options_ask words lacks.options)

    lacks_status : (line : Line) → AsksByOptions line → HasStatus s words line before after status.OutOfMemory
    lacks_status (asks_ident path) never = absurd never
    lacks_status (asks_sources path) never = absurd never
    lacks_status (asks_section path name) never = absurd never
    lacks_status (asks_query path id) asked = tt
    lacks_status (asks_scan path workers patterns roots) asked = tt
    lacks_status (asks_trial seed files workers) never = absurd never
    lacks_status asks_help asked = tt
    lacks_status (asks_serve path workers port secs sources upstream patterns roots) asked = tt
    lacks_status (asks_find cache route upstream) asked = tt
    lacks_status unreadable asked = lacks.options

    pub lacks_room : (code : ℕ) → code ≡ code_of end → IsProgramRun s words before after code
    lacks_room code number = record {
      status = end;
      number = number;
      ident = λ path is. absurd (asks (asks_ident path) is);
      sources = λ path is. absurd (asks (asks_sources path) is);
      section = λ path name is. absurd (asks (asks_section path name) is);
      query = λ path id is. record { does = query_lacks path id; ends = query_ends s path id before.command after.command end (query_lacks path id) };
      scan = λ path workers patterns roots is. unselected (nothing_lacks patterns);
      trial = λ seed files workers is. absurd (asks (asks_trial seed files workers) is);
      help = λ is. record { text = []; says = inr lacks.alone.says; hands = lacks.alone.hands; store = lacks.alone.store };
      serve = λ path workers port secs sources upstream patterns roots is. unselected (nothing_lacks patterns);
      find = λ cache route upstream is. inr lacks;
      usage = λ is. inr lacks;
      causes =
          subst (λ e. HasStatus s words (line_of words) before after e) (sym lacks.alone.says.ends)
          (lacks_status (line_of words) (asks (line_of words) refl));
      rest = λ none. lacks.rest;
    }

-- a run of words
pub runs_words : {T : Type 0} (s : Setting T) (words : List (List ℕ)) (before after : ProgramStage T) (end : Status) (code : ℕ)
    → code ≡ code_of end → DoesWords s words before after end → IsProgramRun s words before after code
runs_words s words before after end code number (inl run) = is_run s words before after end code number run
runs_words s words before after end code number (inr lacks) = lacks_room s words before after end lacks code number
