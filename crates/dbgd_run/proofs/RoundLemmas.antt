-- Passes between waits: one round more, and what all rounds come to.
use Rattle.std.proofs.Common.{◌≡◌, ◌⊎◌, inl, inr, ℕ, ◌+◌, ◌≤◌, Bool, true, false, ◌||◌, List, [], ◌∷◌, ◌++◌, map, refl, sym, ap, subst, ◌∙◌, arith, sum_by}
use Rattle.std.specs.List.{list_any}
use Rattle.std.proofs.lemmas.Bool.{false≢true}
use Rattle.std.proofs.lemmas.List.Folds.{list_any-append}
use Rattle.std.proofs.lemmas.List.Sums.{sum_by-cons}
use Rattle.path_scope.specs.Scope.{Scope}
use Rattle.row_types.specs.Faults.{Rose}
use Rattle.tree_trait.specs.Clock.{waited}
use Rattle.tree_trait.specs.declared.clock.Wake.TheVariants.{Again, Stop}
use Rattle.http_wire.specs.Sink.{GetsAll}
use Rattle.http_wire.specs.Stream.{ShownStream}
use Rattle.http_wire.specs.Told.{Gains}
use Rattle.http_wire.proofs.Pieces.{gets_both, gets_none}
use Rattle.dbgd_metrics.specs.Shares.{ShareFacts}
use Rattle.dbgd_metrics.specs.declared.number.Number.{Number}
use Rattle.dbgd_commands.specs.Endings.{Gets, Streams}
use Rattle.dbgd_commands.specs.Stage.{Setting}
use Rattle.dbgd_run.specs.RoundSaid.{GrowsShare, added_by, err_told, is_cut, is_unmade}
use Rattle.dbgd_run.specs.Rounds.{GetsLines, IsRound, KeepsPassing, PassStage, Round, RoundsGo, StopsPassing}
use Rattle.dbgd_run.specs.Rounds.{err_lines, is_any_cut, is_any_unmade, out_lines, stopped_by}
use Rattle.dbgd_run.specs.declared.line_fate.LineFate.TheVariants.{Written, Cut, Unmade}
use Rattle.dbgd_run.specs.declared.passes_end.PassesEnd.TheVariants.{Stopped, OutFailed, OutOfMemory}
use Rattle.dbgd_run.proofs.GainLemmas.{gains_more, gains_none}
use Rattle.dbgd_run.proofs.ShareLemmas.{counts_one, grows_as, grows_both, grows_none}
use Rattle.dbgd_run.proofs.TellLemmas.{err_gets, out_later, out_rose, out_whole}

-- Tests of lists

pub or_false : (b : Bool) → (b || false) ≡ b
or_false true = refl
or_false false = refl

or_true : (b : Bool) → (b || true) ≡ true
or_true true = refl
or_true false = refl

pub neither : (a b : Bool) → (a || b) ≡ false → (a ≡ false) × (b ≡ false)
neither true b none = (none, absurd (false≢true (sym none)))
neither false b none = (refl, none)

pub either : (a b : Bool) → (a || b) ≡ true → (a ≡ true) ⊎ (b ≡ true)
either true b some = inl refl
either false b some = inr some

any_more : {X : Type 0} (test : X → Bool) (xs : List X) (x : X) (a b : Bool) → list_any test xs ≡ a → test x ≡ b
    → list_any test (xs ++ x ∷ []) ≡ (a || b)
any_more test xs x a b some one =
    list_any-append test xs (x ∷ [])
    ∙ (ap (λ (c : Bool). c || (test x || false)) some
    ∙ (ap (λ (c : Bool). a || (c || false)) one ∙ ap (λ (c : Bool). a || c) (or_false b)))

-- Sinks

pub lines_none : (shown : ShownStream) → GetsLines [] shown shown
lines_none shown = record { whole = inl (gets_none shown); later = omega arith }

pub lines_of : (bytes : List ℕ) (old new : ShownStream) → Gets bytes old new → GetsLines bytes old new
lines_of bytes old new (inl all) = record { whole = inl all; later = all.later }
lines_of bytes old new (inr part) = record { whole = inr part.rose; later = part.later }

pub lines_both : (first rest : List ℕ) (old mid new : ShownStream) → GetsLines first old mid → GetsLines rest mid new
    → GetsLines (first ++ rest) old new
lines_both first rest old mid new one two =
    let early = one.later in
    let late = two.later in
    record { whole = joined one.whole two.whole; later = omega (arith, early, late) }
  where
    joined : GetsAll first old mid ⊎ Rose old.write_faults mid.write_faults
        → GetsAll rest mid new ⊎ Rose mid.write_faults new.write_faults
        → GetsAll (first ++ rest) old new ⊎ Rose old.write_faults new.write_faults
    joined (inl all) (inl more) = inl (gets_both all more)
    joined (inl all) (inr rose) = let early = one.later in inr (omega (arith, early, rose))
    joined (inr rose) more = let late = two.later in inr (omega (arith, rose, late))

-- the rounds so far: each line was made, and whether one was refused
pub record KeepsOn {T : Type 0} (s : Setting T) (scope : Scope) (secs : ℕ) (before : PassStage T) (failed : Bool)
    (now : PassStage T) : Type 0 where
  pub rounds : List (Round T)
  pub go : RoundsGo s scope secs before rounds now
  pub cut : is_any_cut rounds ≡ failed
  pub made : is_any_unmade rounds ≡ false

-- Ends that differ

stop_apart : Stopped ≡ OutFailed → ⊥
stop_apart e = cc

fail_apart : OutFailed ≡ Stopped → ⊥
fail_apart e = cc

memory_stop : OutOfMemory ≡ Stopped → ⊥
memory_stop e = cc

memory_fail : OutOfMemory ≡ OutFailed → ⊥
memory_fail e = cc

module _ {T : Type 0} (s : Setting T) (scope : Scope) (secs : ℕ) where
  go_on : (before now : PassStage T) (rounds : List (Round T)) (round : Round T) → RoundsGo s scope secs before rounds now
      → IsRound s scope secs now round → RoundsGo s scope secs before (rounds ++ round ∷ []) round.after
  go_on before now [] round same is = (subst (λ (at : PassStage T). IsRound s scope secs at round) same is, refl)
  go_on before now (first ∷ rounds) round go is = (go.0, go_on first.after now rounds round go.1 is)

  -- one wait a round
  all_waits : (before after : PassStage T) (rounds : List (Round T)) → RoundsGo s scope secs before rounds after
      → Gains before.woke (map (λ _. waited secs Again) rounds) after.woke
  all_waits before after [] same =
      subst (λ (at : PassStage T). Gains before.woke [] at.woke) (sym same) (gains_none before.woke)
  all_waits before after (first ∷ rounds) go =
      gains_more before.woke first.after.woke after.woke (waited secs Again ∷ []) (map (λ _. waited secs Again) rounds) go.0.waits
      (all_waits first.after after rounds go.1)

  -- each line on the standard output, where none was refused or left out
  all_out : (before after : PassStage T) (rounds : List (Round T)) → RoundsGo s scope secs before rounds after
      → is_any_cut rounds ≡ false → is_any_unmade rounds ≡ false
      → GetsAll (out_lines rounds) before.streams.out after.streams.out
  all_out before after [] same cut unmade =
      subst (λ (at : PassStage T). GetsAll [] before.streams.out at.streams.out) (sym same)
      (gets_none before.streams.out)
  all_out before after (first ∷ rounds) go cut unmade =
      let whole = neither (is_cut first.fate) (is_any_cut rounds) cut in
      let made = neither (is_unmade first.fate) (is_any_unmade rounds) unmade in
      gets_both (out_whole first.end before.streams first.after.streams first.fate go.0.tells whole.0 made.0)
      (all_out first.after after rounds go.1 whole.1 made.1)

  -- the count of the standard output never falls
  pub later_out : (before after : PassStage T) (rounds : List (Round T)) → RoundsGo s scope secs before rounds after
      → before.streams.out.write_faults ≤ after.streams.out.write_faults
  later_out before after [] same =
      let count : after.streams.out.write_faults ≡ before.streams.out.write_faults
      = ap (λ (at : PassStage T). at.streams.out.write_faults) same in
      omega (arith, count)
  later_out before after (first ∷ rounds) go =
      let one = out_later first.end before.streams first.after.streams first.fate go.0.tells in
      let rest = later_out first.after after rounds go.1 in
      omega (arith, one, rest)

  -- it rose where a line was refused
  rose_out : (before after : PassStage T) (rounds : List (Round T)) → RoundsGo s scope secs before rounds after
      → is_any_cut rounds ≡ true → Rose before.streams.out.write_faults after.streams.out.write_faults
  rose_out before after [] same cut = absurd (false≢true cut)
  rose_out before after (first ∷ rounds) go cut =
      which (either (is_cut first.fate) (is_any_cut rounds) cut) (λ some. rose_out first.after after rounds go.1 some)
    where
      which : (is_cut first.fate ≡ true) ⊎ (is_any_cut rounds ≡ true)
          → (is_any_cut rounds ≡ true → Rose first.after.streams.out.write_faults after.streams.out.write_faults)
          → Rose before.streams.out.write_faults after.streams.out.write_faults
      which (inl one) below =
          let rose = out_rose first.end before.streams first.after.streams first.fate go.0.tells one in
          let rest = later_out first.after after rounds go.1 in
          omega (arith, rose, rest)
      which (inr some) below =
          let one = out_later first.end before.streams first.after.streams first.fate go.0.tells in
          let rose = below some in
          omega (arith, one, rose)

  -- what the standard error got
  all_err : (before after : PassStage T) (rounds : List (Round T)) → RoundsGo s scope secs before rounds after
      → GetsLines (err_lines rounds) before.streams.err after.streams.err
  all_err before after [] same =
      subst (λ (at : PassStage T). GetsLines [] before.streams.err at.streams.err) (sym same)
      (lines_none before.streams.err)
  all_err before after (first ∷ rounds) go =
      lines_both (err_told first.end first.fate) (err_lines rounds) before.streams.err first.after.streams.err after.streams.err
      (lines_of (err_told first.end first.fate) before.streams.err first.after.streams.err
      (err_gets first.end before.streams first.after.streams first.fate go.0.tells))
      (all_err first.after after rounds go.1)

  -- what the share counted
  all_counts : (before after : PassStage T) (rounds : List (Round T)) → RoundsGo s scope secs before rounds after
      → GrowsShare (λ number. sum_by (λ (round : Round T). added_by round.end number) rounds) before.share after.share
  all_counts before after [] same =
      subst (λ (at : PassStage T). GrowsShare (λ _. 0) before.share at.share) (sym same) (grows_none before.share)
  all_counts before after (first ∷ rounds) go =
      grows_as
      (λ (number : Number). added_by first.end number + sum_by (λ (round : Round T). added_by round.end number) rounds)
      (λ (number : Number). sum_by (λ (round : Round T). added_by round.end number) (first ∷ rounds))
      before.share after.share
      (λ number. sym (sum_by-cons (λ (round : Round T). added_by round.end number) first rounds))
      (grows_both (added_by first.end) (λ number. sum_by (λ (round : Round T). added_by round.end number) rounds) before.share
      first.after.share after.share (counts_one first.end before.share first.after.share go.0.counts)
      (all_counts first.after after rounds go.1))

  -- no round yet
  pub keeps_none : (before : PassStage T) → KeepsOn s scope secs before false before
  keeps_none before = record { rounds = []; go = refl; cut = refl; made = refl }

  -- a round whose line was said
  pub keeps_written : (before now : PassStage T) (failed : Bool) (round : Round T) → KeepsOn s scope secs before failed now
      → IsRound s scope secs now round → round.fate ≡ Written → KeepsOn s scope secs before failed round.after
  keeps_written before now failed round keeps is written = record {
    rounds = keeps.rounds ++ round ∷ [];
    go = go_on before now keeps.rounds round keeps.go is;
    cut =
        any_more (λ (r : Round T). is_cut r.fate) keeps.rounds round failed false keeps.cut (ap is_cut written)
        ∙ or_false failed;
    made =
        any_more (λ (r : Round T). is_unmade r.fate) keeps.rounds round false false keeps.made (ap is_unmade written);
  }

  -- a round whose line was refused
  pub keeps_cut : (before now : PassStage T) (failed : Bool) (round : Round T) → KeepsOn s scope secs before failed now
      → IsRound s scope secs now round → round.fate ≡ Cut → KeepsOn s scope secs before true round.after
  keeps_cut before now failed round keeps is cut = record {
    rounds = keeps.rounds ++ round ∷ [];
    go = go_on before now keeps.rounds round keeps.go is;
    cut =
        any_more (λ (r : Round T). is_cut r.fate) keeps.rounds round failed true keeps.cut (ap is_cut cut)
        ∙ or_true failed;
    made = any_more (λ (r : Round T). is_unmade r.fate) keeps.rounds round false false keeps.made (ap is_unmade cut);
  }

  -- the clock said Stop
  pub keeps_stopped : (before now after : PassStage T) (failed : Bool) → KeepsOn s scope secs before failed now
      → StopsPassing secs now after → KeepsPassing s scope secs before (stopped_by failed) after
  keeps_stopped before now after false keeps stops =
      let streams : after.streams ≡ now.streams = ap (λ (at : PassStage T). at.streams) stops.rest in
      let share : after.share ≡ now.share = ap (λ (at : PassStage T). at.share) stops.rest in
      record {
        rounds = keeps.rounds;
        last = now;
        go = keeps.go;
        ends = (keeps.cut, keeps.made, stops);
        waits =
            gains_more before.woke now.woke after.woke (map (λ _. waited secs Again) keeps.rounds) (waited secs Stop ∷ [])
            (all_waits before now keeps.rounds keeps.go) stops.waits;
        out = λ _.
            subst (λ (shown : Streams). GetsAll (out_lines keeps.rounds) before.streams.out shown.out) (sym streams)
            (all_out before now keeps.rounds keeps.go keeps.cut keeps.made);
        failed = λ e. absurd (stop_apart e);
        err =
            subst (λ (shown : Streams). GetsLines (err_lines keeps.rounds) before.streams.err shown.err) (sym streams)
            (all_err before now keeps.rounds keeps.go);
        tally =
            subst (λ (later : ShareFacts). GrowsShare
            (λ number. sum_by (λ (round : Round T). added_by round.end number) keeps.rounds) before.share later) (sym share)
            (all_counts before now keeps.rounds keeps.go);
      }
  keeps_stopped before now after true keeps stops =
      let streams : after.streams ≡ now.streams = ap (λ (at : PassStage T). at.streams) stops.rest in
      let share : after.share ≡ now.share = ap (λ (at : PassStage T). at.share) stops.rest in
      record {
        rounds = keeps.rounds;
        last = now;
        go = keeps.go;
        ends = (keeps.cut, keeps.made, stops);
        waits =
            gains_more before.woke now.woke after.woke (map (λ _. waited secs Again) keeps.rounds) (waited secs Stop ∷ [])
            (all_waits before now keeps.rounds keeps.go) stops.waits;
        out = λ e. absurd (fail_apart e);
        failed = λ _.
            subst (λ (shown : Streams). Rose before.streams.out.write_faults shown.out.write_faults) (sym streams)
            (rose_out before now keeps.rounds keeps.go keeps.cut);
        err =
            subst (λ (shown : Streams). GetsLines (err_lines keeps.rounds) before.streams.err shown.err) (sym streams)
            (all_err before now keeps.rounds keeps.go);
        tally =
            subst (λ (later : ShareFacts). GrowsShare
            (λ number. sum_by (λ (round : Round T). added_by round.end number) keeps.rounds) before.share later) (sym share)
            (all_counts before now keeps.rounds keeps.go);
      }

  -- a line could not be made
  pub keeps_unmade : (before now : PassStage T) (failed : Bool) (round : Round T) → KeepsOn s scope secs before failed now
      → IsRound s scope secs now round → round.fate ≡ Unmade → KeepsPassing s scope secs before OutOfMemory round.after
  keeps_unmade before now failed round keeps is unmade =
      let go = go_on before now keeps.rounds round keeps.go is in
      record {
        rounds = keeps.rounds ++ round ∷ [];
        last = round.after;
        go = go;
        ends = (record { earlier = keeps.rounds; last = round; are = refl; made = keeps.made; unmade = unmade }, refl);
        waits = all_waits before round.after (keeps.rounds ++ round ∷ []) go;
        out = λ e. absurd (memory_stop e);
        failed = λ e. absurd (memory_fail e);
        err = all_err before round.after (keeps.rounds ++ round ∷ []) go;
        tally = all_counts before round.after (keeps.rounds ++ round ∷ []) go;
      }
