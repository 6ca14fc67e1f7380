use Rattle.std.proofs.Common.{◌≤◌, ap, arith, sym, ◌∙◌}
use Rattle.std.specs.Cmp.Lexicographic.{slice_cmp}
use Rattle.std.specs.Ordering.{nat_cmp}
use Rattle.source_paths.specs.Room.{texts_room}
use Rattle.source_paths.proofs.RoomLemmas.{no_room, room-insert}
use Rattle.source_paths.proofs.path_set.PathSet.insert.Goals.{else-self-room-via-then-self-room+else-not-contains, else-self-room-via-else-self-room}
use Rattle.source_paths.proofs.path_set.PathSet.insert.Goals as goal

pub invariant_of-self-then-branch : goal.invariant_of-self-then-branch
invariant_of-self-then-branch c =
    let fits : c.room_of-room.result ≤ c.self.inside.left = elim c.else-self-room.branch [
      | else-self-room-via-then-self-room+else-not-contains w ↦ absurd (no_room _ _ c.in_ok-insert.ensures.added c.if-branch.true (sym w.contains.ensures ∙ w.if-not-contains.false))
      | else-self-room-via-else-self-room w ↦ omega (arith, w.if-self-room.false)
    ] in
    let more = room-insert (slice_cmp nat_cmp) c.args.path c.self.inside.paths.keys in
    let keys = ap texts_room c.in_ok-insert.ensures.keys in
    omega (arith, fits, more, keys, c.room_of-room.ensures, c.self.invariant)
