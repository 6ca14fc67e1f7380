use Rattle.std.proofs.Common.{◌≡◌, false, sym, ap, ◌∙◌}
use Rattle.std.specs.List.{list_any}
use Rattle.httparse.specs.Grammar.{HasNoRequest}
use Rattle.http_wire.specs.Heads.{IsStillOpen}
use Rattle.http_wire.specs.Room.{is_feed}
use Rattle.http_wire.proofs.FindLemmas.{finds_end}
use Rattle.http_wire.proofs.GatherLemmas.{came_last, gathers_fill}
use Rattle.http_wire.proofs.LineLemmas.{no_head_yet, open_more}
use Rattle.http_wire.proofs.find.find_next.Goals as goal
use Rattle.http_wire.proofs.find.find_next.Goals.{then-look+in-Partial, else-look}

pub loop-look-preserved : goal.loop-look-preserved
loop-look-preserved g c =
    let fills = c.in-Bytes.ensures in
    let room = c.loop-look.room in
    let seen : HasNoRequest room × IsStillOpen room =
    elim c.if-look.branch [
      | then-look+in-Partial w ↦ w.in-Partial.ensures
      | else-look w ↦ (c.loop-look.invariant.looked w.if-look.false, c.loop-look.invariant.still w.if-look.false)
    ] in
    record {
      gathers = gathers_fill c.loop-look.invariant.gathers seen.0 seen.1 fills;
      looked = λ quiet.
          let quiet_new : list_any is_feed fills.came ≡ false =
          sym (ap (list_any is_feed) (came_last fills)) ∙ sym c.ends_line-look.ensures ∙ quiet in
          rw fills.all (no_head_yet room fills.came seen.0 quiet_new);
      still = λ quiet.
          let quiet_new : list_any is_feed fills.came ≡ false =
          sym (ap (list_any is_feed) (came_last fills)) ∙ sym c.ends_line-look.ensures ∙ quiet in
          rw fills.all (open_more fills.came seen.1 quiet_new);
    }

pub returns-in-End : goal.returns-in-End
returns-in-End g c =
    let room = c.loop-look.room in
    let seen : HasNoRequest room × IsStillOpen room =
    elim c.if-look.branch [
      | then-look+in-Partial w ↦ w.in-Partial.ensures
      | else-look w ↦ (c.loop-look.invariant.looked w.if-look.false, c.loop-look.invariant.still w.if-look.false)
    ] in
    let apart = rw c.held-held.ensures.value at c.if-held-eq-HEAD_LIMIT.false in
    rw (c.at_end.ensures, c.held-held.ensures.value)
    (finds_end c.loop-look.invariant.gathers c.in-End.ensures seen c.held-held.ensures.short apart)
