-- Where the index goes in each of its steps.
use Rattle.std.proofs.Common.{◌≡◌, ℕ, ◌≤◌, inr, ◌&&◌, Bool, true, false, not, cond, List, [], ◌∷◌, length, Option, Some, None, refl, sym, ◌∙◌, ap, subst, arith}
use Rattle.std.specs.List.{All, Contains, filter}
use Rattle.std.specs.Option.{option_map}
use Rattle.std.specs.Prelude.{IfSome}
use Rattle.std.proofs.lemmas.Bool.{and_parts, true≢false}
use Rattle.std.proofs.lemmas.List.{length_push}
use Rattle.std.proofs.lemmas.List.Elements.{All-filter}
use Rattle.row_types.specs.Name.{NameFacts, same_name}
use Rattle.row_types.specs.Row.{RowFacts}
use Rattle.row_types.specs.Stamp.{StampFacts}
use Rattle.index_keeper.specs.Keeper.{ShownKeeper}
use Rattle.std.specs.Str.{bytes_eq}
use Rattle.index_rows.specs.Rows.{row_names, row_path}
use Rattle.index_rows.proofs.PathLemmas.{put_holds}
use Rattle.scan_queue.specs.Names.{IsByPath, is_in, without}
use Rattle.scan_queue.specs.Pass.{IsPass, MissesName, PassFacts, left}
use Rattle.scan_queue.specs.declared.miss.Cause.{Cause}
use Rattle.scan_queue.specs.declared.miss.Miss.{Miss}
use Rattle.scan_queue.specs.declared.miss.Seen.{Seen}
use Rattle.scan_queue.specs.declared.miss.Seen.TheVariants as seen
use Rattle.scan_queue.proofs.NameTests.{same_stamp-Decides}
use Rattle.index_rows.specs.Log.{drop_of, put_of}
use Rattle.index_state.specs.Away.{MissesOut}
use Rattle.index_state.specs.Bound.{StaysBounded}
use Rattle.index_state.specs.Invariant.{IndexInvariant}
use Rattle.index_state.specs.Judge.{IsGone, IsLeftOver, Removes, is_file, is_name_kept}
use Rattle.index_state.specs.Marks.{is_marked}
use Rattle.index_state.specs.State.{StateFacts, pass_or_none}
use Rattle.index_state.specs.Step.{IsAwaited, Stores}
use Rattle.index_state.proofs.Bounds.{drop_open, put_open}
use Rattle.index_state.proofs.Keeps.{there}
use Rattle.index_state.proofs.Members.{differs_in}
use Rattle.tree_trait.specs.Heard.{Heard, stat}
use Rattle.tree_trait.specs.declared.stat.StatAnswer.{StatAnswer}
use Rattle.tree_trait.specs.declared.stat.StatAnswer.TheVariants.{Folder, File, Other, Gone, Failed, OutOfMemory}
use Rattle.pass_runner.specs.Ends.{IsTurnOver}
use Rattle.pass_runner.specs.Settled.{Advances, IsBacked, IsBrought, IsMissBy, IsMissing, IsPassOn, IsReadOf, IsSeenGone, MissesBy, times_named}
use Rattle.groomer.specs.Looks.{looked_of}
use Rattle.pass_runner.specs.Turns.{HasSeenFile}
use Rattle.groomer.specs.declared.looking.Looked.TheVariants as looked
use Rattle.pass_runner.proofs.Altered.{left_still, out_differs, still_more, still_same}
use Rattle.pass_runner.proofs.Appearing.{left_all, missed_all}
use Rattle.pass_runner.proofs.Bounding.{bounded_same}
use Rattle.pass_runner.proofs.Loads.{same_names, same_todo, times_left}
use Rattle.pass_runner.proofs.Moves.{moves_same, still_brought, still_missed}
use Rattle.pass_runner.proofs.NameLists.{drop_comes, drop_goes, drop_stays, put_comes, put_goes, put_stays}

-- a pass was begun, where a name is listed in it, out of it or known not to be listed
pub listed_open : (pass : Option PassFacts) (name : NameFacts) → is_in (pass_or_none pass).listing name ≡ true → IsPassOn pass pass
listed_open None name h = absurd (true≢false (sym h))
listed_open (Some p) name h = record { from = p; into = p; was = refl; is = refl; over = refl }

pub out_open : (pass : Option PassFacts) (name : NameFacts) → is_in (pass_or_none pass).out name ≡ true → IsPassOn pass pass
out_open None name h = absurd (true≢false (sym h))
out_open (Some p) name h = record { from = p; into = p; was = refl; is = refl; over = refl }

-- a name that isn't to stay as it is isn't listed
pub kept_listed : (pass : Option PassFacts) (name : NameFacts) → is_name_kept pass name ≡ false → is_in (pass_or_none pass).listing name ≡ false
kept_listed None name h = absurd (true≢false h)
kept_listed (Some p) name h = h

-- the listing of an index is by path
pub listing_by_path : (pass : Option PassFacts) → IfSome pass IsPass → IsPassOn pass pass → IsByPath (pass_or_none pass).listing
listing_by_path pass place opened =
    subst (λ (o : Option PassFacts). IsByPath (pass_or_none o).listing) (sym opened.was) (there IsPass opened.was place).listing.by_path

-- a pass that a name leaves goes on
left_on : (name : NameFacts) {pass : Option PassFacts} → IsPassOn pass pass → IsPassOn pass (option_map (left name) pass)
left_on name opened = record {
  from = opened.from;
  into = left name opened.from;
  was = opened.was;
  is = ap (option_map (left name)) opened.was;
  over = refl;
}

left_missed : (name : NameFacts) (pass : Option PassFacts) (names : List NameFacts) (answers : List Heard) (Fails : Type 0)
    → All (IsMissBy (pass_or_none pass).listing names (pass_or_none pass).missed answers Fails) (pass_or_none (option_map (left name) pass)).missed
left_missed name pass names answers Fails =
    left_all (IsMissBy (pass_or_none pass).listing names (pass_or_none pass).missed answers Fails) name pass
    (still_missed (pass_or_none pass).listing names (pass_or_none pass).missed answers Fails)

-- its marks stay
left_marked : (name : NameFacts) (pass : Option PassFacts)
    → (pass_or_none (option_map (left name) pass)).marked ≡ (pass_or_none pass).marked
left_marked name None = refl
left_marked name (Some pass) = refl

filter_short : {X : Type 0} (p : X → Bool) (xs : List X) → length (filter p xs) ≤ length xs
filter_short p [] = omega arith
filter_short p (x ∷ xs) =
    elim (p x) as (λ b. length (cond b (x ∷ filter p xs) (filter p xs)) ≤ length (x ∷ xs)) [
      | true ↦ let h = filter_short p xs in omega arith
      | false ↦ let h = filter_short p xs in omega arith
    ]

module _ {K : Type 0} {shows : K → ShownKeeper} {old new : StateFacts K} where
  -- nothing but the keeper changed
  pub same_on : {F : Type 0} {answers : List Heard} → IsPassOn old.pass old.pass
      → (shows old.keeper).faults ≤ (shows new.keeper).faults → new.pass ≡ old.pass → new.rows ≡ old.rows
      → new.origin ≡ old.origin → StaysBounded (pass_or_none old.pass).listing old new
      → Advances shows answers F old new
  same_on {F} {answers} opened keeper pass rows origin bounded = record {
    keeper = keeper;
    pass = subst (λ (o : Option PassFacts). IsPassOn old.pass o) (sym pass) opened;
    marked = ap (λ (o : Option PassFacts). (pass_or_none o).marked) pass;
    origin = origin;
    moves = moves_same rows;
    missed =
        subst (λ (o : Option PassFacts). All (MissesBy old answers F) (pass_or_none o).missed)
        (sym pass) (still_missed (pass_or_none old.pass).listing (row_names old.rows) (pass_or_none old.pass).missed answers F);
    still = still_same old new (pass_or_none old.pass).listing (ap (λ (o : Option PassFacts). (pass_or_none o).missed) pass);
    todo = same_todo pass;
    bounded = bounded;
  }

  pub kept_on : {F : Type 0} {answers : List Heard} {keeper : K} → IsPassOn old.pass old.pass
      → (shows old.keeper).faults ≤ (shows new.keeper).faults → new ≡ record old { keeper = keeper } → Advances shows answers F old new
  kept_on opened later same =
      same_on opened later (ap (λ (s : StateFacts K). s.pass) same) (ap (λ (s : StateFacts K). s.rows) same)
      (ap (λ (s : StateFacts K). s.origin) same)
      (bounded_same old new (pass_or_none old.pass).listing (ap (λ (s : StateFacts K). s.log) same)
      (ap (λ (s : StateFacts K). s.rows) same) (ap (λ (s : StateFacts K). s.broken) same))

  -- the pass alone changed, and no name was missed
  pub pass_on : {F : Type 0} {answers : List Heard} → IsPassOn old.pass new.pass
      → (pass_or_none new.pass).marked ≡ (pass_or_none old.pass).marked
      → (pass_or_none new.pass).missed ≡ (pass_or_none old.pass).missed
      → ((path : List ℕ) → times_named (pass_or_none new.pass).todo path ≤ times_named (pass_or_none old.pass).todo path)
      → new ≡ record old { pass = new.pass } → Advances shows answers F old new
  pass_on {F} {answers} on marked missed todo same = record {
    keeper = let e = ap (λ (s : StateFacts K). (shows s.keeper).faults) same in omega (arith, e);
    pass = on;
    marked = marked;
    origin = ap (λ (s : StateFacts K). s.origin) same;
    moves = moves_same (ap (λ (s : StateFacts K). s.rows) same);
    missed =
        subst (λ (ms : List Miss). All (MissesBy old answers F) ms) (sym missed)
        (still_missed (pass_or_none old.pass).listing (row_names old.rows) (pass_or_none old.pass).missed answers F);
    still = still_same old new (pass_or_none old.pass).listing missed;
    todo = todo;
    bounded =
        bounded_same old new (pass_or_none old.pass).listing (ap (λ (s : StateFacts K). s.log) same) (ap (λ (s : StateFacts K). s.rows) same)
        (ap (λ (s : StateFacts K). s.broken) same);
  }

  -- a name whose row stands no more, or by another stamp, left
  pub moved_on : {F : Type 0} {answers : List Heard} (name : NameFacts) → is_in (pass_or_none old.pass).listing name ≡ false
      → IsPassOn old.pass old.pass → new ≡ record old { pass = option_map (left name) old.pass } → Advances shows answers F old new
  moved_on {F} {answers} name unlisted opened after =
      subst (λ (s : StateFacts K). Advances shows answers F old s) (sym after) (record {
        keeper = omega arith;
        pass = left_on name opened;
        marked = left_marked name old.pass;
        origin = refl;
        moves = moves_same refl;
        missed = left_missed name old.pass (row_names old.rows) answers F;
        still = λ n listed missed. left_still name n old.pass (differs_in (pass_or_none old.pass).listing n name listed unlisted) missed;
        todo = times_left name old.pass;
        bounded = omega arith;
      })

  -- the row of a listed name was put
  pub stored_on : {F : Type 0} {answers : List Heard} {true_row : RowFacts → Type 0} {tells : Bool} {row : RowFacts}
      → IndexInvariant true_row tells shows old → is_in (pass_or_none old.pass).out row.name ≡ true → IsReadOf answers row
      → Stores tells shows row old new → Advances shows answers F old new
  stored_on {F} {answers} {row = row} holds out read stored =
      let awaited : IsAwaited row.name old = stored.can.awaited in
      let opened : IsPassOn old.pass old.pass = listed_open old.pass row.name awaited.listed in
      let by_path : IsByPath (pass_or_none old.pass).listing = listing_by_path old.pass holds.each_name_in_one_place opened in
      subst (λ (s : StateFacts K). Advances shows answers F old s) (sym stored.after) (record {
        keeper = stored.keeper.asked.cause.later;
        pass = left_on row.name opened;
        marked = left_marked row.name old.pass;
        origin = refl;
        moves = record {
          stays = put_stays row (pass_or_none old.pass).listing old.rows by_path awaited.listed awaited.absent;
          goes = λ n stood gone none marked.
              absurd (put_goes row (pass_or_none old.pass).listing old.rows by_path awaited.listed n stood gone none);
          comes = put_comes row (pass_or_none old.pass).listing old.rows awaited.listed;
          brings = put_holds (IsBrought old.rows answers) row_path row old.rows (still_brought old.rows answers) (inr read);
        };
        missed = left_missed row.name old.pass (row_names old.rows) answers F;
        still = λ n listed missed.
            left_still row.name n old.pass (out_differs old.pass row.name n holds.each_name_in_one_place out missed) missed;
        todo = times_left row.name old.pass;
        bounded =
            let less = put_open old.rows row (pass_or_none old.pass).listing by_path awaited.listed awaited.absent in
            omega (arith, less, length_push old.log (put_of row.name));
      })

-- what was seen shows that the file is gone
missing_by : (answer : StatAnswer) (met : Seen) (stamp : StampFacts) → looked_of answer ≡ looked.Saw met
    → is_file met stamp ≡ false → IsMissing stamp answer
missing_by Folder met stamp saw gone = tt
missing_by Other met stamp saw gone = tt
missing_by Gone met stamp saw gone = tt
missing_by (File at) met stamp saw gone = λ same.
    let met_is : met ≡ seen.File at = cc in
    true≢false (sym ((same_stamp-Decides stamp at).1 (sym same)) ∙ sym (ap (λ (m : Seen). is_file m stamp) met_is) ∙ gone)
missing_by Failed met stamp saw gone = absurd (cc)
missing_by OutOfMemory met stamp saw gone = absurd (cc)

-- what was seen was the file
file_by : (answer : StatAnswer) (met : Seen) (stamp : StampFacts) → looked_of answer ≡ looked.Saw met
    → is_file met stamp ≡ true → answer ≡ File stamp
file_by (File at) met stamp saw there =
    let met_is : met ≡ seen.File at = cc in
    ap File (sym ((same_stamp-Decides stamp at).0 (ap (λ (m : Seen). is_file m stamp) (sym met_is) ∙ there)))
file_by Folder met stamp saw there =
    let met_is : met ≡ seen.Other = cc in
    absurd (true≢false (sym there ∙ ap (λ (m : Seen). is_file m stamp) met_is))
file_by Other met stamp saw there =
    let met_is : met ≡ seen.Other = cc in
    absurd (true≢false (sym there ∙ ap (λ (m : Seen). is_file m stamp) met_is))
file_by Gone met stamp saw there =
    let met_is : met ≡ seen.Gone = cc in
    absurd (true≢false (sym there ∙ ap (λ (m : Seen). is_file m stamp) met_is))
file_by Failed met stamp saw there = absurd (cc)
file_by OutOfMemory met stamp saw there = absurd (cc)

module _ {answers : List Heard} (looks : List ℕ → Bool) {name : NameFacts} {met : Seen} (sees : looks name.path ≡ true → HasSeenFile answers name met) where
  -- a file that is gone was looked for
  pub seen_gone : (looks name.path && is_file met name.stamp) ≡ false → looks name.path ≡ true → IsSeenGone answers name
  seen_gone gone marked =
      let saw : HasSeenFile answers name met = sees marked in
      record {
        answer = saw.answer;
        heard = saw.heard;
        missing = missing_by saw.answer met name.stamp saw.saw (ap (λ b. b && is_file met name.stamp) (sym marked) ∙ gone);
      }

  -- and so was one that is there
  pub seen_there : (looks name.path && is_file met name.stamp) ≡ true → Contains answers (stat name.path (File name.stamp))
  seen_there strange =
      let both = and_parts (looks name.path) (is_file met name.stamp) strange in
      let saw : HasSeenFile answers name met = sees both.0 in
      subst (λ (a : StatAnswer). Contains answers (stat name.path a)) (file_by saw.answer met name.stamp saw.saw both.1) saw.heard

module _ {K : Type 0} {shows : K → ShownKeeper} {old new : StateFacts K} where
  -- a name was missed, if it was out
  pub missed_on : {F : Type 0} {answers : List Heard} {name : NameFacts} {cause : Cause} (was_out : Bool)
      → IsPassOn old.pass old.pass → MissesOut name cause old was_out new
      → IsBacked (pass_or_none old.pass).listing (row_names old.rows) answers F name cause
      → Advances shows answers F old new
  missed_on {F} {answers} {name} {cause} true opened misses why =
      let on : IsPassOn old.pass new.pass = record {
        from = misses.missed.from;
        into = misses.missed.into;
        was = misses.missed.was;
        is = misses.missed.is;
        over = ap (λ (p : PassFacts). p.listing) misses.missed.step.same;
      } in
      let same : new ≡ record old { pass = new.pass } = misses.same in
      record {
        keeper = let e = ap (λ (s : StateFacts K). (shows s.keeper).faults) same in omega (arith, e);
        pass = on;
        marked =
            ap (λ (o : Option PassFacts). (pass_or_none o).marked) misses.missed.is ∙ ap (λ (p : PassFacts). p.marked) misses.missed.step.same
            ∙ ap (λ (o : Option PassFacts). (pass_or_none o).marked) (sym misses.missed.was);
        origin = ap (λ (s : StateFacts K). s.origin) same;
        moves = moves_same (ap (λ (s : StateFacts K). s.rows) same);
        missed =
            missed_all old new (MissesBy old answers F) true (inr why) misses
            (still_missed (pass_or_none old.pass).listing (row_names old.rows) (pass_or_none old.pass).missed answers F);
        still = still_more (pass_or_none old.pass).listing misses;
        todo =
            same_names
            (ap (λ (o : Option PassFacts). (pass_or_none o).todo) misses.missed.is ∙ ap (λ (p : PassFacts). p.todo) misses.missed.step.same
            ∙ ap (λ (o : Option PassFacts). (pass_or_none o).todo) (sym misses.missed.was));
        bounded =
            bounded_same old new (pass_or_none old.pass).listing (ap (λ (s : StateFacts K). s.log) same) (ap (λ (s : StateFacts K). s.rows) same)
            (ap (λ (s : StateFacts K). s.broken) same);
      }
  missed_on {F} {answers} false opened misses why =
      pass_on (subst (λ (o : Option PassFacts). IsPassOn old.pass o) (sym misses.missed.same) opened)
      (ap (λ (o : Option PassFacts). (pass_or_none o).marked) misses.missed.same)
      (ap (λ (o : Option PassFacts). (pass_or_none o).missed) misses.missed.same) (same_todo misses.missed.same) misses.same

  -- the row of a name that isn't listed was dropped
  pub removed_on : {F : Type 0} {answers : List Heard} {true_row : RowFacts → Type 0} {tells : Bool} {name : NameFacts} {met : Seen}
      → IndexInvariant true_row tells shows old → IsPassOn old.pass old.pass
      → (is_marked old.pass name.path ≡ true → HasSeenFile answers name met)
      → IsGone name met old → Removes tells shows name old new → Advances shows answers F old new
  removed_on {F} {answers} {name = name} {met = met} holds opened sees gone removes =
      let left_over : IsLeftOver name old = gone.left_over in
      let unlisted : is_in (pass_or_none old.pass).listing name ≡ false = kept_listed old.pass name left_over.unlisted in
      let ascend = holds.rows_sorted_and_true.ascend in
      subst (λ (s : StateFacts K). Advances shows answers F old s) (sym removes.after) (record {
        keeper = removes.keeper.cause.later;
        pass = left_on name opened;
        marked = left_marked name old.pass;
        origin = refl;
        moves = record {
          stays = λ n listed stood.
              drop_stays name old.rows ascend left_over.stands n
              (λ same. true≢false (sym listed ∙ ap (is_in (pass_or_none old.pass).listing) same ∙ unlisted)) stood;
          goes = λ n stood went none marked.
              let same : n ≡ name = drop_goes name old.rows ascend left_over.stands n stood went in
              subst (λ (m : NameFacts). IsSeenGone answers m) (sym same)
              (seen_gone (is_marked old.pass) sees gone.gone (ap (λ (m : NameFacts). is_marked old.pass m.path) (sym same) ∙ marked));
          comes = λ n stands fresh. absurd (true≢false (sym (drop_comes name old.rows n stands) ∙ fresh));
          brings =
              All-filter (λ (r : RowFacts). not (bytes_eq (row_path r) name.path)) (IsBrought old.rows answers) old.rows
              (still_brought old.rows answers);
        };
        missed = left_missed name old.pass (row_names old.rows) answers F;
        still = λ n listed missed. left_still name n old.pass (differs_in (pass_or_none old.pass).listing n name listed unlisted) missed;
        todo = times_left name old.pass;
        bounded =
            let less =
            drop_open name old.rows old.log (pass_or_none old.pass).listing ascend left_over.stands holds.rows_replay_the_log.names unlisted in
            omega (arith, less, length_push old.log (drop_of name));
      })

module _ {K : Type 0} {old new : StateFacts K} where
  -- the name is out no more
  pub left_over_pass : {name : NameFacts} → IsPassOn old.pass old.pass → new.broken ≡ false
      → new.pass ≡ option_map (left name) old.pass → IsTurnOver name old new
  left_over_pass {name} opened sound pass =
      let is : pass_or_none new.pass ≡ left name (pass_or_none old.pass)
      = ap (λ (o : Option PassFacts). pass_or_none o) pass
      ∙ subst (λ (o : Option PassFacts). pass_or_none (option_map (left name) o) ≡ left name (pass_or_none o)) (sym opened.was) refl in
      let todo : length (pass_or_none new.pass).todo ≡ length (filter (λ (n : NameFacts). not (same_name name n)) (pass_or_none old.pass).todo)
      = ap (λ (p : PassFacts). length p.todo) is in
      let groom : length (pass_or_none new.pass).groom ≡ length (filter (λ (n : NameFacts). not (same_name name n)) (pass_or_none old.pass).groom)
      = ap (λ (p : PassFacts). length p.groom) is in
      record {
        sound = sound;
        out = ap (λ (p : PassFacts). p.out) is;
        todo = omega (arith, todo, filter_short (λ (n : NameFacts). not (same_name name n)) (pass_or_none old.pass).todo);
        groom = omega (arith, groom, filter_short (λ (n : NameFacts). not (same_name name n)) (pass_or_none old.pass).groom);
      }

  pub missed_over : {name : NameFacts} {cause : Cause} (was_out : Bool) → is_in (pass_or_none old.pass).out name ≡ true
      → old.broken ≡ false → MissesOut name cause old was_out new → IsTurnOver name old new
  missed_over {name} {cause} true out sound misses =
      let step : MissesName misses.missed.from misses.missed.into name cause = misses.missed.step in
      let now : pass_or_none new.pass ≡ misses.missed.into = ap (λ (o : Option PassFacts). pass_or_none o) misses.missed.is in
      let was : misses.missed.from ≡ pass_or_none old.pass = ap (λ (o : Option PassFacts). pass_or_none o) (sym misses.missed.was) in
      let todo : length (pass_or_none new.pass).todo ≡ length (pass_or_none old.pass).todo
      = ap (λ (p : PassFacts). length p.todo) now ∙ ap (λ (p : PassFacts). length p.todo) step.same
      ∙ ap (λ (p : PassFacts). length p.todo) was in
      let groom : length (pass_or_none new.pass).groom ≡ length (pass_or_none old.pass).groom
      = ap (λ (p : PassFacts). length p.groom) now ∙ ap (λ (p : PassFacts). length p.groom) step.same
      ∙ ap (λ (p : PassFacts). length p.groom) was in
      record {
        sound = ap (λ (s : StateFacts K). s.broken) misses.same ∙ sound;
        out =
            ap (λ (p : PassFacts). p.out) now ∙ ap (λ (p : PassFacts). p.out) step.same
            ∙ ap (λ (p : PassFacts). without name p.out) was;
        todo = omega (arith, todo);
        groom = omega (arith, groom);
      }
  missed_over false out sound misses = absurd (true≢false (sym out ∙ misses.missed.absent))
