-- The work, from nothing and one after the other.
use Rattle.std.proofs.Common.{◌≡◌, ℕ, ◌+◌, ◌-◌, ◌^◌, ◌≤◌, min, Bool, List, ◌++◌, None, sym, ap, subst, arith}
use Rattle.std.specs.List.{All}
use Rattle.std.proofs.lemmas.List.Elements.{All-append}
use Rattle.row_types.specs.Name.{NameFacts, stamp_at}
use Rattle.index_lock.specs.Tokens.{IsLater, SeatFacts}
use Rattle.index_lock.proofs.Later.{later_self, later_trans}
use Rattle.index_rows.specs.declared.change.Change.{Change}
use Rattle.index_state.specs.State.{Origin}
use Rattle.tree_trait.specs.Found.{Versions}
use Rattle.tree_trait.specs.Heard.{Heard}
use Rattle.tree_trait.specs.Listens.{Listens, loads}
use Rattle.tree_trait.specs.Shown.{ShownTree}
use Rattle.tree_trait.proofs.ListenLemmas.{listens_then, loads_both}
use Rattle.index_desk.proofs.Shown.{puts_grow}
use Rattle.index_desk.specs.Counts.{puts}
use Rattle.index_desk.specs.Ends.{EndShows}
use Rattle.scan_worker.specs.Ends.{uncounted, uncounted_at}
use Rattle.scan_worker.specs.Read.{heard_reading}
use Rattle.scan_worker.specs.Turns.{LoadsListed, CountsTurn, FitsRead, counted_by, end_by, missed_by, no_tally, published_by, report_of}
use Rattle.scan_worker.specs.Works.{AreReadings, IsSparingLoad, Works, WorksOn}
use Rattle.scan_worker.specs.declared.read.NameRead.{NameRead}
use Rattle.scan_worker.specs.declared.read.NameRead.TheVariants as read
use Rattle.scan_worker.specs.declared.tally.Tally.{Tally}
use Rattle.scan_worker.specs.declared.turn.Turn.{Turn}
use Rattle.scan_worker.specs.declared.turn.Turn.TheVariants.{Published, Passed, Missed, Ended}
use Rattle.index_desk.specs.declared.work_end.WorkEnd.{WorkEnd}
use Rattle.scan_worker.proofs.HandLemmas.{asks_none, at_most_one, count_least, count_most, count_published, count_same, reading_loads, reading_spares, readings_both, readings_one, row_heard}

-- each name that counts as published or missed was read
counts_read : {W : Type 0} (given : NameRead W) (turn : Turn) → FitsRead given turn
    → published_by turn + missed_by turn ≤ counted_by given
counts_read (read.Row row) Published fits = omega arith
counts_read (read.Row row) Passed fits = omega arith
counts_read (read.Row row) Missed fits = absurd fits
counts_read (read.Row row) (Ended why) fits = omega arith
counts_read (read.Altered met) Published fits = absurd fits
counts_read (read.Altered met) Passed fits = omega arith
counts_read (read.Altered met) Missed fits = omega arith
counts_read (read.Altered met) (Ended why) fits = absurd fits
counts_read read.Failed Published fits = absurd fits
counts_read read.Failed Passed fits = omega arith
counts_read read.Failed Missed fits = omega arith
counts_read read.Failed (Ended why) fits = absurd fits
counts_read read.OutOfMemory turn fits =
    subst (λ (t : Turn). published_by t + missed_by t ≤ 0) (sym fits) (omega arith)

-- where no load is counted, the work ends for want of memory
counts_enough : {W : Type 0} (given : NameRead W) (turn : Turn) → FitsRead given turn
    → 1 ≤ counted_by given + uncounted (end_by turn)
counts_enough (read.Row row) turn fits = omega arith
counts_enough (read.Altered met) turn fits = omega arith
counts_enough read.Failed turn fits = omega arith
counts_enough read.OutOfMemory turn fits =
    subst (λ (t : Turn). 1 ≤ 0 + uncounted (end_by t)) (sym fits) (omega arith)

-- what is counted of what became of a name
turn_asked : (turn : Turn) (tally later : Tally) → CountsTurn turn tally later → later.asked ≡ tally.asked
turn_asked Published tally later h = ap (λ (t : Tally). t.asked) h
turn_asked Passed tally later h = ap (λ (t : Tally). t.asked) h
turn_asked Missed tally later h = ap (λ (t : Tally). t.asked) h
turn_asked (Ended why) tally later h = ap (λ (t : Tally). t.asked) h

turn_published : (turn : Turn) (tally later : Tally) → CountsTurn turn tally later
    → later.published ≤ tally.published + published_by turn
turn_published Published tally later h = let e = ap (λ (t : Tally). t.published) h in omega (arith, e)
turn_published Passed tally later h = let e = ap (λ (t : Tally). t.published) h in omega (arith, e)
turn_published Missed tally later h = let e = ap (λ (t : Tally). t.published) h in omega (arith, e)
turn_published (Ended why) tally later h = let e = ap (λ (t : Tally). t.published) h in omega (arith, e)

turn_both : (turn : Turn) (tally later : Tally) → CountsTurn turn tally later
    → later.published + later.missed ≤ tally.published + tally.missed + (published_by turn + missed_by turn)
turn_both Published tally later h = let e = ap (λ (t : Tally). t.published + t.missed) h in omega (arith, e)
turn_both Passed tally later h = let e = ap (λ (t : Tally). t.published + t.missed) h in omega (arith, e)
turn_both Missed tally later h = let e = ap (λ (t : Tally). t.published + t.missed) h in omega (arith, e)
turn_both (Ended why) tally later h = let e = ap (λ (t : Tally). t.published + t.missed) h in omega (arith, e)

module _ {told : Bool} {version : Versions} where
  -- the token alone went on
  pub works_later : {seat later : SeatFacts Change Origin} {hand : ShownTree} (tally : Tally) → IsLater seat later
      → WorksOn told version seat hand tally later hand tally 0
  works_later {seat} {later} tally is_later = record {
    later = is_later;
    published = let p = puts_grow seat.seen later.seen is_later.log in omega (arith, p);
    hand = asks_none tally.asked;
    done = omega arith;
  }

  -- nothing was done
  pub works_none : {seat : SeatFacts Change Origin} {hand : ShownTree} (tally : Tally)
      → WorksOn told version seat hand tally seat hand tally 0
  works_none {seat} tally = works_later tally (later_self seat)

  -- by what the hand heard
  works_of : {seat later : SeatFacts Change Origin} {before after : ShownTree} {tally last : Tally} {left_out : ℕ}
      (more : List Heard) → IsLater seat later → last.published + puts seat.seen ≤ tally.published + puts later.seen
      → Listens told version before after more → All (IsSparingLoad seat.origin.spared) more → AreReadings more
      → last.asked ≤ tally.asked + loads more → min (tally.asked + loads more) (2 ^ 64 - 1) ≤ last.asked + left_out
      → last.published + last.missed ≤ tally.published + tally.missed + loads more
      → WorksOn told version seat before tally later after last left_out
  works_of more later published listens spares parts asked counted done = record {
    later = later;
    published = published;
    hand = record { more = more; listens = listens; spares = spares; parts = parts; asked = asked; counted = counted };
    done = done;
  }

  -- one after the other
  pub works_then : {seat between later : SeatFacts Change Origin} {before mid after : ShownTree} {tally some last : Tally}
      {left_out : ℕ} → WorksOn told version seat before tally between mid some 0
      → WorksOn told version between mid some later after last left_out
      → WorksOn told version seat before tally later after last left_out
  works_then {seat = seat} p q =
      let both = loads_both p.hand.more q.hand.more in
      let first = p.done in
      let second = q.done in
      let a = p.published in
      let b = q.published in
      let asked = p.hand.asked in
      let more_asked = q.hand.asked in
      let counted = p.hand.counted in
      let more_counted = q.hand.counted in
      works_of (p.hand.more ++ q.hand.more) (later_trans p.later q.later) (omega (arith, a, b))
      (listens_then p.hand.listens q.hand.listens)
      (All-append (IsSparingLoad seat.origin.spared) p.hand.more q.hand.more p.hand.spares
      (subst (λ (o : Origin). All (IsSparingLoad o.spared) q.hand.more) p.later.origin q.hand.spares))
      (readings_both q.hand.more p.hand.parts q.hand.parts)
      (omega (arith, both, asked, more_asked)) (omega (arith, both, counted, more_counted))
      (omega (arith, both, first, second))

  -- a name was taken, opened, read and handed in
  pub works_turn : {W : Type 0} {seat taken later : SeatFacts Change Origin} {before after : ShownTree}
      {tally some last : Tally} {name : NameFacts} (given : NameRead W) (turn : Turn) → IsLater seat taken
      → stamp_at seat.origin.spared name.path ≡ None → LoadsListed told version name before after tally some given
      → IsLater taken later → puts taken.seen + published_by turn ≤ puts later.seen → FitsRead given turn
      → CountsTurn turn some last
      → WorksOn told version seat before tally later after last (uncounted (end_by turn))
  works_turn {seat = seat} {taken = taken} {tally = tally} {some = some} {last = last} {name = name} given turn took new asks on grown fits counts =
      let grow = puts_grow seat.seen taken.seen took.log in
      let heard = row_heard version name asks.does.answer asks.does.reads given asks.does.leads in
      let few = at_most_one name asks.does.answer in
      let whole = reading_loads name asks.does.answer asks.does.reads asks.does.own in
      let most = count_most given tally some asks.counts in
      let least = count_least given tally some asks.counts in
      let same = turn_asked turn some last counts in
      let enough = counts_enough given turn fits in
      let published = count_published given tally some asks.counts in
      let both = count_same given tally some asks.counts in
      let more = turn_published turn some last counts in
      let all = turn_both turn some last counts in
      let read = counts_read given turn fits in
      works_of (heard_reading name asks.does.answer asks.does.reads) (later_trans took on)
      (omega (arith, grow, grown, published, more)) asks.does.listens
      (reading_spares seat.origin.spared name asks.does.answer asks.does.reads new asks.does.own)
      (readings_one name asks.does.answer asks.does.reads asks.does.own asks.does.parts)
      (omega (arith, whole, heard, few, most, same)) (omega (arith, whole, heard, few, least, same, enough))
      (omega (arith, whole, both, all, read, heard))

  -- the report of the work
  pub works_report : {seat later : SeatFacts Change Origin} {before after : ShownTree} {tally : Tally} (why : WorkEnd)
      → WorksOn told version seat before no_tally later after tally (uncounted_at why) → EndShows why later.seen
      → Works told version seat before later after (report_of tally why)
  works_report why p shows = record {
    later = p.later;
    published = let a = p.published in omega (arith, a);
    hand = p.hand;
    done = let a = p.done in omega (arith, a);
    ends = shows;
  }
