-- Where nothing stands against it each pass of a server writes its line.
use Rattle.std.proofs.Common.{◌≡◌, inl, inr, ℕ, ◌+◌, ◌<◌, Bool, true, false, List, [], ◌∷◌, ◌++◌, All, take, Option, Some, None, length, length-append, refl, sym, ◌∙◌, ap, subst, arith, IsTrue}
use Rattle.std.proofs.lemmas.Bool.{false≢true}
use Rattle.std.proofs.lemmas.List.Elements.{All-nil, All-cons}
use mathlib.Core.List.{IsPrefix}
use Rattle.path_scope.specs.Scope.{Scope}
use Rattle.row_types.specs.Faults.{Rose}
use Rattle.row_types.specs.Name.{NameFacts}
use Rattle.tree_trait.specs.Shown.{HandsOn}
use Rattle.tree_walk.specs.declared.fault.WalkFault.TheVariants as stop
use Rattle.http_wire.specs.Stream.{ShownStream}
use Rattle.index_keeper.specs.Tables.{KeptFacts}
use Rattle.index_lock.proofs.Prefixes.{prefix_of_same, prefix_trans}
use Rattle.index_rows.specs.Log.{after_change}
use Rattle.index_rows.specs.declared.change.Change.{Change}
use Rattle.index_rows.specs.declared.rows.TheConstants.{LOG_LIMIT}
use Rattle.index_state.specs.Changes.{EachChanges, EndsVoid, VoidWhere}
use Rattle.index_state.specs.Opening.{AreRows, IsOverfull}
use Rattle.index_state.proofs.VoidEnds.{never_both}
use Rattle.index_state.specs.declared.open_fault.OpenFault.{OpenFault}
use Rattle.index_state.specs.declared.open_fault.OpenFault.TheVariants as refusal
use Rattle.pass_runner.specs.SharedPass.{IsDoneShared, IsUnhinderedPass}
use Rattle.pass_runner.specs.declared.pass_end.PassEnd.{PassEnd}
use Rattle.pass_runner.specs.declared.pass_end.PassEnd.TheVariants as pass
use Rattle.pass_runner.specs.Owned.{is_hand_fault}
use Rattle.dbgd_commands.specs.CommandCauses.{IsFreeHand}
use Rattle.dbgd_commands.specs.Endings.{Streams}
use Rattle.dbgd_commands.specs.Stage.{OfFirst, ProgramStage, Setting}
use Rattle.dbgd_commands.specs.declared.status.Status.{Status}
use Rattle.dbgd_commands.specs.declared.status.Status.TheVariants as status
use Rattle.dbgd_commands.proofs.HandLemmas.{by_first, of_first}
use Rattle.dbgd_commands.proofs.RowLemmas.{first_held, none_bad, none_overfull}
use Rattle.dbgd_run.specs.RoundSaid.{TellsPass, is_cut}
use Rattle.dbgd_run.specs.Rounds.{EndsPassing, PassesShared, PassStage, Round, RoundsGo}
use Rattle.dbgd_run.specs.Serve.{HasServed, IsUnopened, PassesOn, RunsServe, SaysUnserved, ServeWords, scope_in, served, unopened, unserved}
use Rattle.dbgd_run.specs.ServeCauses.{rounds_behind}
use Rattle.dbgd_run.specs.ServeComplete.{CompletesServe, IsFreeServe, WritesPassLine}
use Rattle.dbgd_run.specs.declared.line_fate.LineFate.{LineFate}
use Rattle.dbgd_run.specs.declared.line_fate.LineFate.TheVariants.{Written, Cut, Unmade}
use Rattle.dbgd_run.specs.declared.passes_end.PassesEnd.{PassesEnd}
use Rattle.dbgd_run.specs.declared.passes_end.PassesEnd.TheVariants.{Stopped, OutFailed, OutOfMemory}
use Rattle.dbgd_run.proofs.FreeHands.{HandLater, free_split, front_first, hands_both, same_later}
use Rattle.dbgd_run.proofs.RoundLemmas.{later_out}
use Rattle.dbgd_run.proofs.TellLemmas.{out_later, out_rose}

-- Logs

-- a beginning of a log whose changes all change something
front_changes : (names : List NameFacts) (xs more : List Change) → EachChanges names (xs ++ more) → EachChanges names xs
front_changes names [] more each = tt
front_changes names (x ∷ xs) more each = (each.0, front_changes (after_change names x) xs more each.1)

-- no beginning of such a log ends in a void change
never_void : (xs log : List Change) → IsPrefix xs log → EachChanges [] log → EndsVoid xs → ⊥
never_void xs log into each ends = never_both (front_changes [] xs into.0 (subst (EachChanges []) (sym into.1) each)) ends

sound_log : (broken : Bool) (log : List Change) → VoidWhere broken log → (broken ≡ true → ⊥) → EachChanges [] log
sound_log true log void never = absurd (never refl)
sound_log false log void never = void

-- a beginning is no longer than the list
shorter : (xs log : List Change) → IsPrefix xs log → length log < LOG_LIMIT → length xs < LOG_LIMIT
shorter xs log into room = long xs into.0 (subst (λ (l : List Change). length l < LOG_LIMIT) (sym into.1) room)
  where
    long : (xs more : List Change) → length (xs ++ more) < LOG_LIMIT → length xs < LOG_LIMIT
    long xs more room = let sum = length-append xs more in omega (arith, sum, room)

-- One pass

-- a pass that is done, of which no line was refused
line_done : (log : List Change) (end : PassEnd) (fate : LineFate) (old new : Streams) → IsDoneShared log end → (EndsVoid log → ⊥)
    → TellsPass end old new fate → (is_cut fate ≡ true → ⊥) → WritesPassLine end fate
line_done log end Cut old new done sound told never = absurd (never refl)
line_done log (pass.Whole summary) Written old new done sound told never = tt
line_done log (pass.Whole summary) Unmade old new done sound told never = tt
line_done log (pass.Walk stop.OutOfMemory) Written old new done sound told never = tt
line_done log (pass.Walk stop.OutOfMemory) Unmade old new done sound told never = absurd (false≢true told.0)
line_done log pass.OutOfMemory Written old new done sound told never = tt
line_done log pass.OutOfMemory Unmade old new done sound told never = absurd (false≢true told.0)
line_done log (pass.Missed miss) fate old new done sound told never = absurd (sound done)
line_done log (pass.Walk stop.Failed) fate old new done sound told never = absurd (sound done)
line_done log (pass.Walk stop.TooMany) fate old new done sound told never = absurd (sound done)
line_done log (pass.Walk stop.TooManyEntries) fate old new done sound told never = absurd (sound done)
line_done log (pass.Walk (stop.RootGone path)) fate old new done sound told never = absurd (sound done)
line_done log pass.Broken fate old new done sound told never = absurd (sound done)
line_done log pass.KeeperFault fate old new done sound told never = absurd (sound done)
line_done log pass.LogFull fate old new done sound told never = absurd (sound done)

module _ {T : Type 0} (s : Setting T) (scope : Scope) where
  round_later : (before after : PassStage T) (end : PassEnd) → PassesShared s scope end before after
      → OfFirst s HandLater before.hands after.hands
  round_later before after end passes =
      of_first s
      (λ hand left. HandsOn s.tells_files s.world.version (s.sees hand) (s.sees left) (0 < length scope.roots) (IsTrue (is_hand_fault end)))
      (λ hand left. HandsOn s.tells_files s.world.version (s.sees hand) (s.sees left) ⊥ ⊥)
      HandLater before.hands after.hands (λ hand left on. record { later = on.cause.later; still = on.still }) passes.goes

  pass_done : (log : List Change) (before after : PassStage T) (end : PassEnd) (fate : LineFate)
      → PassesShared s scope end before after → TellsPass end before.streams after.streams fate
      → OfFirst s (IsFreeHand s.tells_files scope) before.hands after.hands → IsPrefix after.log log → length log < LOG_LIMIT
      → EachChanges [] log → (Rose before.streams.out.write_faults after.streams.out.write_faults → ⊥) → WritesPassLine end fate
  pass_done log before after end fate passes told free into room each out =
      line_done after.log end fate before.streams after.streams
      (by_first s
      (λ hand left. IsUnhinderedPass s.tells_files scope after.log (s.sees hand) (s.sees left) → IsDoneShared after.log end)
      (λ hand left. HandsOn s.tells_files s.world.version (s.sees hand) (s.sees left) ⊥ ⊥)
      (IsFreeHand s.tells_files scope) before.hands after.hands passes.complete free
      (λ hand left goes is.
      goes (record {
        still = is.still;
        faultless = is.faultless;
        there = λ path held nothing. is.there (record { path = path; root = held; nothing = nothing });
        files = is.files;
        entries = is.entries;
        room = shorter after.log log into room;
      })))
      (never_void after.log log into each) told (λ cut. out (out_rose end before.streams after.streams fate told cut))

  -- Rounds

  module _ (secs : ℕ) where
    rounds_later : (start : List T) (before last : PassStage T) (rounds : List (Round T)) → OfFirst s HandLater start before.hands
        → RoundsGo s scope secs before rounds last → OfFirst s HandLater before.hands last.hands
    rounds_later start before last [] there same =
        subst (λ (at : PassStage T). OfFirst s HandLater before.hands at.hands) (sym same) (same_later s start before.hands there)
    rounds_later start before last (round ∷ rounds) there go =
        let one = round_later before round.after round.end go.0.passes in
        hands_both s before.hands round.after.hands last.hands one (rounds_later before.hands round.after last rounds one go.1)

    rounds_log : (before last : PassStage T) (rounds : List (Round T)) → RoundsGo s scope secs before rounds last
        → IsPrefix before.log last.log
    rounds_log before last [] same = prefix_of_same before.log last.log (sym (ap (λ (at : PassStage T). at.log) same))
    rounds_log before last (round ∷ rounds) go =
        prefix_trans before.log round.after.log last.log go.0.passes.later (rounds_log round.after last rounds go.1)

    rounds_done : (log : List Change) (before last : PassStage T) (rounds : List (Round T)) → RoundsGo s scope secs before rounds last
        → OfFirst s (IsFreeHand s.tells_files scope) before.hands last.hands → IsPrefix last.log log → length log < LOG_LIMIT
        → EachChanges [] log → (Rose before.streams.out.write_faults last.streams.out.write_faults → ⊥)
        → All (λ (round : Round T). WritesPassLine round.end round.fate) rounds
    rounds_done log before last [] same free into room each out = All-nil (λ (round : Round T). WritesPassLine round.end round.fate)
    rounds_done log before last (round ∷ rounds) go free into room each out =
        let one = round_later before round.after round.end go.0.passes in
        let rest = rounds_later before.hands round.after last rounds one go.1 in
        let parts = free_split s scope before.hands round.after.hands last.hands one rest free in
        let low = out_later round.end before.streams round.after.streams round.fate go.0.tells in
        let high = later_out s scope secs round.after last rounds go.1 in
        All-cons (λ (round : Round T). WritesPassLine round.end round.fate) round rounds
        (pass_done log before round.after round.end round.fate go.0.passes go.0.tells parts.0
        (prefix_trans round.after.log last.log log (rounds_log round.after last rounds go.1) into) room each
        (λ rose. out (omega (arith, rose, high))))
        (rounds_done log round.after last rounds go.1 parts.1 into room each (λ rose. out (omega (arith, rose, low))))

    -- the passing ends in the stage of its last round, but for the waits
    record EndsAt (mid after : PassStage T) : Type 0 where
      pub log : after.log ≡ mid.log
      pub hands : after.hands ≡ mid.hands
      pub streams : after.streams ≡ mid.streams

    ends_at_last : (rounds : List (Round T)) (mid after : PassStage T) (how : PassesEnd) → EndsPassing secs rounds mid how after
        → EndsAt mid after
    ends_at_last rounds mid after Stopped ends = record {
      log = ap (λ (at : PassStage T). at.log) ends.2.rest;
      hands = ap (λ (at : PassStage T). at.hands) ends.2.rest;
      streams = ap (λ (at : PassStage T). at.streams) ends.2.rest;
    }
    ends_at_last rounds mid after OutFailed ends = record {
      log = ap (λ (at : PassStage T). at.log) ends.2.rest;
      hands = ap (λ (at : PassStage T). at.hands) ends.2.rest;
      streams = ap (λ (at : PassStage T). at.streams) ends.2.rest;
    }
    ends_at_last rounds mid after OutOfMemory ends = record {
      log = ap (λ (at : PassStage T). at.log) ends.1;
      hands = ap (λ (at : PassStage T). at.hands) ends.1;
      streams = ap (λ (at : PassStage T). at.streams) ends.1;
    }

    -- the passes behind the first one, up to the last stage
    record Behind (first : Round T) (rounds : List (Round T)) (last : PassStage T) : Type 0 where
      pub mid : PassStage T
      pub go : RoundsGo s scope secs first.after rounds mid
      pub ends : EndsAt mid last

    behind : (first : Round T) (how : Option PassesEnd) (last : PassStage T) (passes : PassesOn s scope secs first how last)
        → Behind first (rounds_behind s scope secs first how last passes) last
    behind first None last none = record {
      mid = first.after;
      go = refl;
      ends = record {
        log = ap (λ (at : PassStage T). at.log) none.1;
        hands = ap (λ (at : PassStage T). at.hands) none.1;
        streams = ap (λ (at : PassStage T). at.streams) none.1;
      };
    }
    behind first (Some how) last kept = record {
      mid = kept.1.last;
      go = kept.1.go;
      ends = ends_at_last kept.1.rounds kept.1.last last how kept.1.ends;
    }

module _ {T : Type 0} (s : Setting T) (words : ServeWords) (before after : ProgramStage T) where
  served_done : (code : Status) (run : HasServed s words before after code) → IsFreeServe s (scope_in words) before after
      → length run.log < LOG_LIMIT
      → All (λ (round : Round T). WritesPassLine round.end round.fate)
      (run.first ∷ rounds_behind s (scope_in words) words.secs run.first run.how run.last run.passes)
  served_done code run free room =
      let on = behind s (scope_in words) words.secs run.first run.how run.last run.passes in
      let rounds = rounds_behind s (scope_in words) words.secs run.first run.how run.last run.passes in
      let each = sound_log run.broken run.log run.logs.void (λ is. free.store (run.store.cause.rose is)) in
      let start = take (words.workers + 2) before.command.hands in
      let one = round_later s (scope_in words) _ run.first.after run.first.end run.made.passes in
      let rest = rounds_later s (scope_in words) words.secs start run.first.after on.mid rounds one on.go in
      let most : OfFirst s (IsFreeHand s.tells_files (scope_in words)) start on.mid.hands
      = subst (λ (left : List T). OfFirst s (IsFreeHand s.tells_files (scope_in words)) start left) (run.hands ∙ on.ends.hands)
      (front_first s (IsFreeHand s.tells_files (scope_in words)) (words.workers + 2) (omega arith) before.command.hands after.command.hands free.hand) in
      let parts = free_split s (scope_in words) start run.first.after.hands on.mid.hands one rest most in
      let into = subst (λ (log : List Change). IsPrefix log run.log) on.ends.log run.within in
      let line = run.line.out.later in
      let one_line = out_later run.first.end run.told run.first.after.streams run.first.fate run.made.tells in
      let more = later_out s (scope_in words) words.secs run.first.after on.mid rounds on.go in
      let last : after.command.streams.out.write_faults ≡ on.mid.streams.out.write_faults
      = ap (λ (shown : ShownStream). shown.write_faults) run.out ∙ ap (λ (x : Streams). x.out.write_faults) on.ends.streams in
      All-cons (λ (round : Round T). WritesPassLine round.end round.fate) run.first rounds
      (pass_done s (scope_in words) run.log _ run.first.after run.first.end run.first.fate run.made.passes run.made.tells parts.0 run.passed room
      each (λ rose. free.out (omega (arith, rose, line, more, last))))
      (rounds_done s (scope_in words) words.secs run.log run.first.after on.mid rounds on.go parts.1 into room each
      (λ rose. free.out (omega (arith, rose, line, one_line, last))))

  refused_wants : (fault : OpenFault) (code : Status) → IsUnopened s words before after fault code → IsFreeServe s (scope_in words) before after
      → fault ≡ refusal.OutOfMemory
  refused_wants refusal.KeeperFault code run free = absurd (free.store (run.scans.store.rose refl))
  refused_wants (refusal.BadRow kept fault) code run free =
      absurd (none_bad fault
      (subst (λ (values : List KeptFacts). AreRows free.rows values) (sym (run.scans.ends.store.gave.tells free.tells)) free.held)
      (first_held run.scans.ends.store.why) run.scans.ends.store.why.bad)
  refused_wants refusal.LogFull code run free =
      absurd (none_overfull free.held free.few
      (subst (λ (values : List KeptFacts). IsOverfull values) (run.scans.ends.store.gave.tells free.tells) run.scans.ends.store.why))
  refused_wants refusal.OutOfMemory code run free = refl

  -- what comes of a server that nothing stands against
  pub serve_complete : (code : Status) (does : RunsServe s words before after code) → IsFreeServe s (scope_in words) before after
      → CompletesServe s words before after code does
  serve_complete code (unopened fault run) free = refused_wants fault code run free
  serve_complete code (unserved run) free = by_said run.said
    where
      by_said : SaysUnserved words before.command.streams after.command.streams code → code ≡ status.OutOfMemory
      by_said (inl cut) = absurd (free.out cut.out.rose)
      by_said (inr late) = late.wants.ends
  serve_complete code (served run) free = λ room. served_done code run free room
