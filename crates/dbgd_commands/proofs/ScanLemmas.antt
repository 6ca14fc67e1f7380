-- What the status of a scan says, by how it ended.
use Rattle.std.proofs.Common.{◌≡◌, inl, inr, ℕ, ◌+◌, ◌<◌, List, Bool, length, sym, refl, subst, arith, IsTrue}
use Rattle.std.specs.List.{Contains}
use Rattle.path_scope.specs.Scope.{Scope}
use Rattle.row_types.specs.Canon.{IsCanonPath}
use Rattle.row_types.specs.Faults.{Rose}
use Rattle.row_types.specs.Name.{NameFacts}
use Rattle.row_types.specs.Row.{RowFacts}
use Rattle.scan_queue.specs.declared.miss.Cause.{Cause}
use Rattle.scan_queue.specs.declared.miss.Cause.TheVariants as cause
use Rattle.http_wire.specs.Sink.{GetsAll}
use Rattle.index_rows.specs.declared.change.Change.{Change}
use Rattle.index_rows.specs.Rows.{row_names}
use Rattle.index_rows.specs.declared.rows.TheConstants.{LOG_LIMIT}
use Rattle.index_state.specs.Opening.{AreRows, IsOverfull, current}
use Rattle.index_state.specs.Plan.{most_changes, plan_of}
use Rattle.index_state.specs.declared.open_fault.OpenFault.TheVariants as refusal
use Rattle.tree_trait.specs.Found.{Versions}
use Rattle.tree_trait.specs.Heard.{Heard}
use Rattle.tree_trait.specs.Shown.{HandsOn, ShownTree}
use Rattle.tree_walk.specs.Files.{AreFilesUnder, FitsFault}
use Rattle.tree_walk.specs.declared.fault.WalkFault.{WalkFault}
use Rattle.tree_walk.specs.declared.walked.Walk.{Walk}
use Rattle.tree_walk.specs.declared.fault.WalkFault.TheVariants as stop
use Rattle.pass_runner.specs.Owned.{HearsPass, IsMissTold, TellsStill, WalksInto}
use Rattle.pass_runner.specs.declared.pass_end.PassEnd.{PassEnd}
use Rattle.pass_runner.specs.declared.pass_end.PassEnd.TheVariants as ended
use Rattle.pass_runner.specs.declared.summary.Summary.{Summary}
use Rattle.dbgd_commands.specs.CommandCauses.{HeardGone, HeardMany, HeardOtherFile, IsComplete, IsFreeHand}
use Rattle.dbgd_commands.specs.Opened.{EndsOnlyWith, HasSomeBad}
use Rattle.dbgd_commands.specs.CommandCauses.{IsUnhindered, ScanEnds, ScanStatus, of_changes, of_rows, of_walk}
use Rattle.dbgd_commands.specs.Endings.{Streams}
use Rattle.dbgd_commands.specs.Kept.{StoreHoldsRows}
use Rattle.dbgd_commands.specs.Scan.{EndsPassed, HelpsWith, MakesPass, RunsScan, Scans}
use Rattle.dbgd_commands.specs.ScanSaid.{SaysEnd, SaysMiss, is_first_hand_fault, miss_saying, scan_saying}
use Rattle.dbgd_commands.specs.Stage.{CommandStage, FirstRose, OfFirst, Setting}
use Rattle.dbgd_commands.specs.declared.scan_end.ScanEnd.{ScanEnd}
use Rattle.dbgd_commands.specs.declared.scan_end.ScanEnd.TheVariants.{Refused, Passed}
use Rattle.dbgd_commands.specs.declared.status.Status.{Status}
use Rattle.dbgd_commands.specs.declared.status.Status.TheVariants as status
use Rattle.dbgd_commands.proofs.ChangedLemmas.{IsChange, never_changed, was_inside}
use Rattle.dbgd_commands.proofs.HandLemmas.{both_first, first_both, of_first}
use Rattle.dbgd_commands.proofs.RowLemmas.{first_held, none_bad, none_overfull, one_rows}

-- what the status of the end says is said, or that memory was wanted, or that the standard output failed
by_end : (P : Status → Type 0) (how : ScanEnd) (old new : Streams) (end : Status)
    → (GetsAll (scan_saying how).out old.out new.out → P (scan_saying how).status)
    → P status.OutOfMemory
    → ((summary : Summary) → how ≡ Passed (ended.Whole summary) → Rose old.out.write_faults new.out.write_faults → P status.Fault)
    → SaysEnd how old new end → P end
by_end P (Refused refusal.KeeperFault) old new end said wants out whole = subst P (sym whole.ends) (said whole.out)
by_end P (Refused (refusal.BadRow kept fault)) old new end said wants out whole = subst P (sym whole.ends) (said whole.out)
by_end P (Refused refusal.LogFull) old new end said wants out whole = subst P (sym whole.ends) (said whole.out)
by_end P (Refused refusal.OutOfMemory) old new end said wants out whole = subst P (sym whole.ends) (said whole.out)
by_end P (Passed (ended.Whole summary)) old new end said wants out (inl (inl whole)) = subst P (sym whole.ends) (said whole.out)
by_end P (Passed (ended.Whole summary)) old new end said wants out (inl (inr cut)) = subst P (sym cut.ends) (out summary refl cut.out.rose)
by_end P (Passed (ended.Whole summary)) old new end said wants out (inr short) = subst P (sym short.ends) wants
by_end P (Passed (ended.Missed miss)) old new end said wants out told = missed miss.cause said told
  where
    missed : (why : Cause)
        → (GetsAll (scan_saying (Passed (ended.Missed (record { name = miss.name; cause = why })))).out old.out new.out
        → P (scan_saying (Passed (ended.Missed (record { name = miss.name; cause = why })))).status)
        → SaysMiss miss.name why old new end → P end
    missed cause.ReadFault so whole = subst P (sym whole.ends) (so whole.out)
    missed (cause.Altered met) so (inl whole) = subst P (sym whole.ends) (so whole.out)
    missed (cause.Altered met) so (inr short) = subst P (sym short.ends) wants
    missed cause.Appeared so (inl whole) = subst P (sym whole.ends) (so whole.out)
    missed cause.Appeared so (inr short) = subst P (sym short.ends) wants
by_end P (Passed (ended.Walk stop.Failed)) old new end said wants out whole = subst P (sym whole.ends) (said whole.out)
by_end P (Passed (ended.Walk stop.TooMany)) old new end said wants out whole = subst P (sym whole.ends) (said whole.out)
by_end P (Passed (ended.Walk stop.TooManyEntries)) old new end said wants out whole = subst P (sym whole.ends) (said whole.out)
by_end P (Passed (ended.Walk (stop.RootGone path))) old new end said wants out whole = subst P (sym whole.ends) (said whole.out)
by_end P (Passed (ended.Walk stop.OutOfMemory)) old new end said wants out whole = subst P (sym whole.ends) (said whole.out)
by_end P (Passed ended.Broken) old new end said wants out whole = subst P (sym whole.ends) (said whole.out)
by_end P (Passed ended.KeeperFault) old new end said wants out whole = subst P (sym whole.ends) (said whole.out)
by_end P (Passed ended.LogFull) old new end said wants out whole = subst P (sym whole.ends) (said whole.out)
by_end P (Passed ended.OutOfMemory) old new end said wants out whole = subst P (sym whole.ends) (said whole.out)

-- of a name that was missed, as it was heard
heard_other : {told : Bool} {version : Versions} {scope : Scope} {names : List NameFacts} {walk : Walk} {walked more : List Heard}
    {before after : ShownTree} (Failed : Type 0) (name : NameFacts) (why : Cause)
    → HearsPass told version scope names walk walked more before after → IsChange why → IsCanonPath name.path
    → IsMissTold (record { name = name; cause = why }) Failed walk.listing names more → HeardOtherFile told scope before after
heard_other {walk = walk} {walked = walked} {more = more} Failed name cause.ReadFault hears change path tells = absurd change
heard_other {walk = walk} {walked = walked} {more = more} Failed name (cause.Altered met) hears change path tells = record {
  walk = walk;
  walked = walked;
  more = more;
  heard = hears.walks.heard;
  whole = hears.walks.whole;
  name = name;
  cause = cause.Altered met;
  why = tells.why;
  still = never_changed Failed name (cause.Altered met) hears tt path tells.why tells.apart;
}
heard_other {walk = walk} {walked = walked} {more = more} Failed name cause.Appeared hears change path tells = record {
  walk = walk;
  walked = walked;
  more = more;
  heard = hears.walks.heard;
  whole = hears.walks.whole;
  name = name;
  cause = cause.Appeared;
  why = record {
    inside = was_inside name hears tells.why.seen.heard;
    unlisted = tells.apart refl;
    heard = tells.why.seen.heard;
  };
  still = never_changed Failed name cause.Appeared hears tt path tells.why tells.apart;
}

module _ {T : Type 0} (s : Setting T) (path : List ℕ) (scope : Scope) (before after : CommandStage T) where
  abbrev ScansTo : ScanEnd → Type 0
  ScansTo end = Scans s path scope before.hands after.hands before.store after.store end

  -- the first hand's call failed
  hand_rose : (end : ScanEnd) → ScansTo end → IsTrue (is_first_hand_fault end) → FirstRose s before.hands after.hands
  hand_rose end scans fails =
      of_first s
      (λ hand later. HandsOn s.tells_files s.world.version (s.sees hand) (s.sees later) ⊥ (IsTrue (is_first_hand_fault end)))
      (λ hand later. HandsOn s.tells_files s.world.version (s.sees hand) (s.sees later) ⊥ ⊥)
      (λ b a. Rose b.faults a.faults) before.hands after.hands (λ hand later on. on.cause.rose fails) scans.hands

  -- what the first hand heard of a walk that ended with a fault
  walk_heard : (fault : WalkFault) (Holds : ShownTree → ShownTree → Type 0) → ScansTo (Passed (ended.Walk fault))
      → ((b a : ShownTree) → WalksInto s.tells_files scope fault b a → Holds b a)
      → OfFirst s Holds before.hands after.hands
  walk_heard fault Holds scans each =
      of_first s (λ hand later. WalksInto s.tells_files scope fault (s.sees hand) (s.sees later))
      (λ hand left. left ≡ hand) Holds before.hands after.hands
      (λ hand later walked. each (s.sees hand) (s.sees later) walked) scans.ends.hands

  -- what it heard of a file that is another by now
  other_heard : (name : NameFacts) (why : Cause) → IsChange why
      → {Ends : List NameFacts → List Heard → List Change → List RowFacts → List RowFacts → List RowFacts → Type 0}
      → (pass : MakesPass s scope before.hands after.hands before.store after.store Ends) → IsCanonPath name.path
      → IsMissTold (record { name = name; cause = why }) (FirstRose s before.hands after.hands) pass.walk.listing (row_names pass.met)
      pass.more
      → OfFirst s (HeardOtherFile s.tells_files scope) before.hands after.hands
  other_heard name why change pass path tells =
      of_first s
      (λ hand later. HearsPass s.tells_files s.world.version scope (row_names pass.met) pass.walk pass.walked pass.more (s.sees hand) (s.sees later))
      (HelpsWith s pass.walk.listing (current pass.found))
      (HeardOtherFile s.tells_files scope) before.hands after.hands
      (λ hand later hears. heard_other (FirstRose s before.hands after.hands) name why hears change path tells) pass.hands

  -- what the status of a missed name says
  miss_status : (name : NameFacts) (why : Cause) → ScansTo (Passed (ended.Missed (record { name = name; cause = why })))
      → ScanStatus s scope before after (miss_saying name why).status
  miss_status name cause.ReadFault scans = inr (inl scans.ends.ends.tells.why)
  miss_status name (cause.Altered met) scans =
      other_heard name (cause.Altered met) tt scans.ends scans.ends.ends.path scans.ends.ends.tells
  miss_status name cause.Appeared scans =
      other_heard name cause.Appeared tt scans.ends scans.ends.ends.path scans.ends.ends.tells

  -- what the status of a scan's end says
  end_status : (end : ScanEnd) → ScansTo end → GetsAll (scan_saying end).out before.streams.out after.streams.out
      → ScanStatus s scope before after (scan_saying end).status
  end_status (Refused refusal.KeeperFault) scans said = inl (scans.store.rose refl)
  end_status (Refused (refusal.BadRow kept fault)) scans said = record {
    opened = scans.opened refl;
    values = scans.ends.store.values;
    gave = scans.ends.store.gave;
    so = record { kept = kept; fault = fault; first = scans.ends.store.why };
  }
  end_status (Refused refusal.LogFull) scans said =
      of_rows (record {
        opened = scans.opened refl;
        values = scans.ends.store.values;
        gave = scans.ends.store.gave;
        so = scans.ends.store.why;
      })
  end_status (Refused refusal.OutOfMemory) scans said = tt
  end_status (Passed (ended.Whole summary)) scans said = record { summary = summary; ends = scans.ends; loads = scans.loads; line = said }
  end_status (Passed (ended.Missed miss)) scans said = miss_status miss.name miss.cause scans
  end_status (Passed (ended.Walk stop.Failed)) scans said =
      inr (inl (hand_rose (Passed (ended.Walk stop.Failed)) scans refl))
  end_status (Passed (ended.Walk stop.TooMany)) scans said =
      of_walk (walk_heard stop.TooMany (HeardMany s.tells_files scope) scans (λ b a w. record {
        answers = w.walks.goes.more;
        heard = w.walks.goes.heard;
        many = inl w.walks.goes.ends;
        still = λ still. inl (w.fits still);
      }))
  end_status (Passed (ended.Walk stop.TooManyEntries)) scans said =
      of_walk (walk_heard stop.TooManyEntries (HeardMany s.tells_files scope) scans (λ b a w. record {
        answers = w.walks.goes.more;
        heard = w.walks.goes.heard;
        many = inr w.walks.goes.ends;
        still = λ still. inr (w.fits still);
      }))
  end_status (Passed (ended.Walk (stop.RootGone root))) scans said =
      walk_heard (stop.RootGone root) (HeardGone s.tells_files scope) scans (λ b a w. record {
        answers = w.walks.goes.more;
        path = root;
        heard = w.walks.goes.heard;
        gone = w.walks.goes.ends;
        still = λ still. let fits = w.fits still in record { path = root; root = fits.0; nothing = fits.1 };
      })
  end_status (Passed (ended.Walk stop.OutOfMemory)) scans said = tt
  end_status (Passed ended.Broken) scans said = absurd scans.ends
  end_status (Passed ended.KeeperFault) scans said = inl (scans.store.rose refl)
  end_status (Passed ended.LogFull) scans said = of_changes scans.ends
  end_status (Passed ended.OutOfMemory) scans said = tt

  pub scan_status : (workers : ℕ) (end : Status) → RunsScan s path workers scope before after end → ScanStatus s scope before after end
  scan_status workers end run =
      by_end (ScanStatus s scope before after) run.end before.streams after.streams end (end_status run.end run.scans) tt
      (λ summary whole rose. inr (inr rose)) run.said

  -- the rows that were found
  found_rows : (end : PassEnd) → EndsPassed s scope before.hands after.hands before.store after.store end
      → (rows : List RowFacts) × StoreHoldsRows s.tells_tables before.store rows
  found_rows (ended.Whole summary) ends = (ends.found, ends.held)
  found_rows (ended.Missed miss) ends = (ends.found, ends.held)
  found_rows (ended.Walk fault) ends = (ends.found, ends.held)
  found_rows ended.Broken ends = absurd ends
  found_rows ended.KeeperFault (inl ends) = (ends.found, ends.held)
  found_rows ended.KeeperFault (inr ends) = (ends.found, ends.held)
  found_rows ended.LogFull ends = (ends.found, ends.held)
  found_rows ended.OutOfMemory (inl ends) = (ends.found, ends.held)
  found_rows ended.OutOfMemory (inr (inl ends)) = (ends.found, ends.held)
  found_rows ended.OutOfMemory (inr (inr ends)) = (ends.found, ends.held)

  -- where the store tells, they are its tables
  told_rows : (end : PassEnd) → IsTrue s.tells_tables
      → (ends : EndsPassed s scope before.hands after.hands before.store after.store end)
      → AreRows (found_rows end ends).0 before.store.tables
  told_rows end tells ends =
      subst (λ values. AreRows (found_rows end ends).0 values) ((found_rows end ends).1.gave.tells tells) (found_rows end ends).1.sound

  -- a store that tells a bad value ends the scan so
  pub bad_end : (end : ScanEnd) → IsTrue s.tells_tables → HasSomeBad before.store.tables → ScansTo end
      → EndsOnlyWith status.BadRow before.store after.store (scan_saying end).status
  bad_end (Refused refusal.KeeperFault) tells bad scans = inr (inl (refl, scans.store.rose refl))
  bad_end (Refused (refusal.BadRow kept fault)) tells bad scans = inl refl
  bad_end (Refused refusal.LogFull) tells bad scans =
      absurd (none_bad bad.fault scans.ends.store.why.sound
      (subst (λ values. Contains values bad.kept) (sym (scans.ends.store.gave.tells tells)) bad.held) bad.bad)
  bad_end (Refused refusal.OutOfMemory) tells bad scans = inr (inr refl)
  bad_end (Passed end) tells bad scans = absurd (none_bad bad.fault (told_rows end tells scans.ends) bad.held bad.bad)

  -- one that tells too many rows ends it so
  pub full_end : (end : ScanEnd) → IsTrue s.tells_tables → IsOverfull before.store.tables → ScansTo end
      → EndsOnlyWith status.Limit before.store after.store (scan_saying end).status
  full_end (Refused refusal.KeeperFault) tells full scans = inr (inl (refl, scans.store.rose refl))
  full_end (Refused (refusal.BadRow kept fault)) tells full scans =
      absurd (none_bad fault (subst (λ values. AreRows full.rows values) (sym (scans.ends.store.gave.tells tells)) full.sound)
      (first_held scans.ends.store.why) scans.ends.store.why.bad)
  full_end (Refused refusal.LogFull) tells full scans = inl refl
  full_end (Refused refusal.OutOfMemory) tells full scans = inr (inr refl)
  full_end (Passed end) tells full scans =
      absurd (none_overfull (told_rows end tells scans.ends) (found_rows end scans.ends).1.few full)

  -- where nothing stands against it a name is missed by nothing
  never_missed : (name : NameFacts) (why : Cause) → IsUnhindered s scope before after
      → ScansTo (Passed (ended.Missed (record { name = name; cause = why }))) → ⊥
  never_missed name cause.ReadFault free scans =
      both_first s (IsFreeHand s.tells_files scope) (λ b a. Rose b.faults a.faults) before.hands after.hands free.hand scans.ends.ends.tells.why
      (λ b a hand rose. hand.faultless rose)
  never_missed name (cause.Altered met) free scans =
      both_first s (IsFreeHand s.tells_files scope) (HeardOtherFile s.tells_files scope) before.hands after.hands free.hand
      (other_heard name (cause.Altered met) tt scans.ends scans.ends.ends.path scans.ends.ends.tells)
      (λ b a hand heard. heard.still hand.still)
  never_missed name cause.Appeared free scans =
      both_first s (IsFreeHand s.tells_files scope) (HeardOtherFile s.tells_files scope) before.hands after.hands free.hand
      (other_heard name cause.Appeared tt scans.ends scans.ends.ends.path scans.ends.ends.tells)
      (λ b a hand heard. heard.still hand.still)

  -- nor does a walk end with a fault
  never_walk : (fault : WalkFault) → IsUnhindered s scope before after → ScansTo (Passed (ended.Walk fault))
      → ((b a : ShownTree) → IsFreeHand s.tells_files scope b a → FitsFault b.present scope fault → ⊥) → ⊥
  never_walk fault free scans never =
      both_first s (IsFreeHand s.tells_files scope) (WalksInto s.tells_files scope fault) before.hands after.hands free.hand
      (walk_heard fault (WalksInto s.tells_files scope fault) scans (λ b a w. w))
      (λ b a hand w. never b a hand (w.fits hand.still))

  -- nor has its log no room
  never_full : IsUnhindered s scope before after → ScansTo (Passed ended.LogFull) → ⊥
  never_full free scans =
      let ends = scans.ends in
      let under : OfFirst s (λ hand later. AreFilesUnder hand.present scope ends.walk.listing) before.hands after.hands =
      first_both s (IsFreeHand s.tells_files scope) (λ b a. TellsStill s.tells_files b → AreFilesUnder b.present scope ends.walk.listing)
      (λ b a. AreFilesUnder b.present scope ends.walk.listing) before.hands after.hands free.hand
      (of_first s
      (λ hand later. HearsPass s.tells_files s.world.version scope (row_names ends.met) ends.walk ends.walked ends.more (s.sees hand) (s.sees later))
      (HelpsWith s ends.walk.listing (current ends.found))
      (λ b a. TellsStill s.tells_files b → AreFilesUnder b.present scope ends.walk.listing) before.hands after.hands
      (λ hand later hears. hears.walks.under) ends.hands)
      (λ b a hand so. so hand.still) in
      let same : free.rows ≡ ends.found =
      one_rows free.held (subst (λ values. AreRows ends.found values) (ends.held.gave.tells free.tells) ends.held.sound) in
      let room = subst (λ (rows : List RowFacts). length (current rows)
      + most_changes (plan_of ends.walk.listing (row_names (current rows))) < LOG_LIMIT) same (free.room ends.walk.listing under) in
      let many = ends.ends.many in
      omega (arith, room, many)

  -- so it is done, or memory is wanted
  complete_end : (end : ScanEnd) → IsUnhindered s scope before after → ScansTo end
      → IsComplete (scan_saying end).status
  complete_end (Refused refusal.KeeperFault) free scans = absurd (free.store (scans.store.rose refl))
  complete_end (Refused (refusal.BadRow kept fault)) free scans =
      absurd (none_bad fault (subst (λ values. AreRows free.rows values) (sym (scans.ends.store.gave.tells free.tells)) free.held)
      (first_held scans.ends.store.why) scans.ends.store.why.bad)
  complete_end (Refused refusal.LogFull) free scans =
      absurd (none_overfull free.held free.few
      (subst (λ values. IsOverfull values) (scans.ends.store.gave.tells free.tells) scans.ends.store.why))
  complete_end (Refused refusal.OutOfMemory) free scans = tt
  complete_end (Passed (ended.Whole summary)) free scans = tt
  complete_end (Passed (ended.Missed miss)) free scans = absurd (never_missed miss.name miss.cause free scans)
  complete_end (Passed (ended.Walk stop.Failed)) free scans =
      absurd (both_first s (IsFreeHand s.tells_files scope) (λ b a. Rose b.faults a.faults) before.hands after.hands free.hand
      (hand_rose (Passed (ended.Walk stop.Failed)) scans refl) (λ b a hand rose. hand.faultless rose))
  complete_end (Passed (ended.Walk stop.TooMany)) free scans =
      absurd (never_walk stop.TooMany free scans (λ b a hand fits. hand.files fits))
  complete_end (Passed (ended.Walk stop.TooManyEntries)) free scans =
      absurd (never_walk stop.TooManyEntries free scans (λ b a hand fits. hand.entries fits))
  complete_end (Passed (ended.Walk (stop.RootGone root))) free scans =
      absurd (never_walk (stop.RootGone root) free scans
      (λ b a hand fits. hand.there (record { path = root; root = fits.0; nothing = fits.1 })))
  complete_end (Passed (ended.Walk stop.OutOfMemory)) free scans = tt
  complete_end (Passed ended.Broken) free scans = absurd scans.ends
  complete_end (Passed ended.KeeperFault) free scans = absurd (free.store (scans.store.rose refl))
  complete_end (Passed ended.LogFull) free scans = absurd (never_full free scans)
  complete_end (Passed ended.OutOfMemory) free scans = tt

  -- how a scan ends when
  pub scan_ends : (workers : ℕ) (end : Status) → RunsScan s path workers scope before after end → ScanEnds s scope before after end
  unfolding found_rows
  scan_ends workers end run = record {
    bad = λ tells bad.
        by_end (EndsOnlyWith status.BadRow before.store after.store) run.end before.streams after.streams end
        (λ _. bad_end run.end tells bad run.scans) (inr (inr refl))
        (λ summary whole rose.
        absurd (none_bad bad.fault (told_rows (ended.Whole summary) tells (subst ScansTo whole run.scans).ends) bad.held bad.bad)) run.said;
    overfull = λ tells full.
        by_end (EndsOnlyWith status.Limit before.store after.store) run.end before.streams after.streams end
        (λ _. full_end run.end tells full run.scans) (inr (inr refl))
        (λ summary whole rose.
        let ends = (subst ScansTo whole run.scans).ends in
        absurd (none_overfull (told_rows (ended.Whole summary) tells ends) ends.held.few full)) run.said;
    complete = λ free.
        by_end IsComplete run.end before.streams after.streams end
        (λ _. complete_end run.end free run.scans) tt (λ summary whole rose. absurd (free.out rose)) run.said;
  }
