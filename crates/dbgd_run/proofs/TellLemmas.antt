-- What is told of the end of a pass, and what the sinks got of it.
use Rattle.std.proofs.Common.{◌≡◌, inl, inr, ◌≤◌, true, false, refl, sym, subst}
use Rattle.std.proofs.lemmas.Bool.{false≢true, true≢false}
use Rattle.row_types.specs.Faults.{Rose}
use Rattle.scan_queue.specs.declared.miss.Cause.{Cause}
use Rattle.scan_queue.specs.declared.miss.Cause.TheVariants as cause
use Rattle.http_wire.specs.Sink.{GetsAll}
use Rattle.pass_runner.specs.declared.pass_end.PassEnd.{PassEnd}
use Rattle.pass_runner.specs.declared.pass_end.PassEnd.TheVariants as ended
use Rattle.dbgd_commands.specs.Endings.{EndsWhole, Gets, Saying, Streams}
use Rattle.dbgd_commands.specs.ScanSaid.{SaysMiss, SaysPass, pass_saying}
use Rattle.dbgd_commands.specs.declared.status.Status.{Status}
use Rattle.dbgd_run.specs.RoundSaid.{TellsPass, err_told, fate_by, is_cut, is_unmade}
use Rattle.dbgd_run.specs.declared.line_fate.LineFate.{LineFate}
use Rattle.dbgd_run.specs.declared.line_fate.LineFate.TheVariants as fated

-- it ends as its saying says
as_said : {saying : Saying} {old new : Streams} {end : Status} → EndsWhole saying old new end
    → EndsWhole saying old new saying.status
as_said whole = record { ends = refl; out = whole.out; err = whole.err }

-- what came of a line is as the status says with which it was said
pub told_by : (how : PassEnd) (old new : Streams) (end : Status) → SaysPass how old new end
    → TellsPass how old new (fate_by how end)
told_by (ended.Whole summary) old new end (inl (inl whole)) =
    subst (λ (said : Status). TellsPass (ended.Whole summary) old new (fate_by (ended.Whole summary) said)) (sym whole.ends)
    (as_said whole)
told_by (ended.Whole summary) old new end (inl (inr cut)) =
    subst (λ (said : Status). TellsPass (ended.Whole summary) old new (fate_by (ended.Whole summary) said)) (sym cut.ends)
    (record { ends = refl; out = cut.out; err = cut.err })
told_by (ended.Whole summary) old new end (inr wants) =
    subst (λ (said : Status). TellsPass (ended.Whole summary) old new (fate_by (ended.Whole summary) said)) (sym wants.ends)
    (refl, as_said wants)
told_by (ended.Missed miss) old new end told = missed miss.cause told
  where
    missed : (why : Cause) → SaysMiss miss.name why old new end
        → TellsPass (ended.Missed (record { name = miss.name; cause = why })) old new
        (fate_by (ended.Missed (record { name = miss.name; cause = why })) end)
    missed cause.ReadFault whole =
        subst (λ (said : Status). TellsPass (ended.Missed (record { name = miss.name; cause = cause.ReadFault })) old new
        (fate_by (ended.Missed (record { name = miss.name; cause = cause.ReadFault })) said)) (sym whole.ends) (as_said whole)
    missed (cause.Altered met) (inl whole) =
        subst (λ (said : Status). TellsPass (ended.Missed (record { name = miss.name; cause = cause.Altered met })) old new
        (fate_by (ended.Missed (record { name = miss.name; cause = cause.Altered met })) said)) (sym whole.ends) (as_said whole)
    missed (cause.Altered met) (inr wants) =
        subst (λ (said : Status). TellsPass (ended.Missed (record { name = miss.name; cause = cause.Altered met })) old new
        (fate_by (ended.Missed (record { name = miss.name; cause = cause.Altered met })) said)) (sym wants.ends)
        (refl, as_said wants)
    missed cause.Appeared (inl whole) =
        subst (λ (said : Status). TellsPass (ended.Missed (record { name = miss.name; cause = cause.Appeared })) old new
        (fate_by (ended.Missed (record { name = miss.name; cause = cause.Appeared })) said)) (sym whole.ends) (as_said whole)
    missed cause.Appeared (inr wants) =
        subst (λ (said : Status). TellsPass (ended.Missed (record { name = miss.name; cause = cause.Appeared })) old new
        (fate_by (ended.Missed (record { name = miss.name; cause = cause.Appeared })) said)) (sym wants.ends)
        (refl, as_said wants)
told_by (ended.Walk fault) old new end whole = as_said whole
told_by ended.Broken old new end whole = as_said whole
told_by ended.KeeperFault old new end whole = as_said whole
told_by ended.LogFull old new end whole = as_said whole
told_by ended.OutOfMemory old new end whole = as_said whole

module _ (how : PassEnd) (old new : Streams) where
  -- a line that was neither refused nor left out is whole
  pub out_whole : (fate : LineFate) → TellsPass how old new fate → is_cut fate ≡ false → is_unmade fate ≡ false
      → GetsAll (pass_saying how).out old.out new.out
  out_whole fated.Written told cut unmade = told.out
  out_whole fated.Cut told cut unmade = absurd (true≢false cut)
  out_whole fated.Unmade told cut unmade = absurd (true≢false unmade)

  -- a line is refused only where the count rose
  pub out_rose : (fate : LineFate) → TellsPass how old new fate → is_cut fate ≡ true
      → Rose old.out.write_faults new.out.write_faults
  out_rose fated.Written told cut = absurd (false≢true cut)
  out_rose fated.Cut told cut = told.out.rose
  out_rose fated.Unmade told cut = absurd (false≢true cut)

  -- the count never falls
  pub out_later : (fate : LineFate) → TellsPass how old new fate → old.out.write_faults ≤ new.out.write_faults
  out_later fated.Written told = told.out.later
  out_later fated.Cut told = told.out.later
  out_later fated.Unmade told = told.1.out.later

  -- what the standard error got
  pub err_gets : (fate : LineFate) → TellsPass how old new fate → Gets (err_told how fate) old.err new.err
  err_gets fated.Written told = told.err
  err_gets fated.Cut told = told.err
  err_gets fated.Unmade told = told.1.err
