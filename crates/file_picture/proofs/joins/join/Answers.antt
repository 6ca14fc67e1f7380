-- What the bytes touch decides.
use Rattle.std.proofs.Common.{refl}
use Rattle.file_picture.proofs.PutLemmas.{put_between, put_after, put_ahead, all_before, all_after, ends_true, ends_false, begins_true, begins_false}
use Rattle.file_picture.proofs.joins.join.Goals as goal

pub returns-then-before-clause-ok : goal.returns-then-before-clause-ok
returns-then-before-clause-ok c =
    let after = ends_true c.deref.ensures.value c.if-after.true c.ends_at-after.ensures in
    let before = begins_true c.deref-2.ensures.value c.if-before.true c.begins_at-before.ensures in
    put_between c.args.pieces.now.items c.args.at c.args.bytes.now c.args.count c.span.new.pieces.items c.requires.place after.0 after.1
    before.0 before.1 c.in_ok-span.ensures.ok

pub returns-then-after-clause-ok : goal.returns-then-after-clause-ok
returns-then-after-clause-ok c =
    let after = ends_true c.deref.ensures.value c.if-after.true c.ends_at-after.ensures in
    let before = begins_false c.deref-2.ensures.value c.if-before.false c.begins_at-before.ensures in
    put_after c.args.pieces.now.items c.args.at c.args.bytes.now c.args.count c.append.new.pieces.items c.requires.place after.0 after.1
    (all_after c.args.pieces.now.items c.args.at c.args.bytes.now c.args.count c.requires.place before) c.in_ok-append.ensures.ok

pub returns-then-before-2-clause-ok : goal.returns-then-before-2-clause-ok
returns-then-before-2-clause-ok c =
    let after = ends_false c.deref.ensures.value c.if-after.false c.ends_at-after.ensures in
    let before = begins_true c.deref-2.ensures.value c.if-before-2.true c.begins_at-before.ensures in
    put_ahead c.args.pieces.now.items c.args.at c.args.bytes.now c.args.count c.prepend.new.pieces.items c.requires.place
    (all_before c.args.pieces.now.items c.args.at c.args.bytes.now c.args.count c.requires.place after)
    before.0 before.1 c.in_ok-prepend.ensures.ok

pub returns-clause-ok : goal.returns-clause-ok
returns-clause-ok c =
    let after = ends_false c.deref.ensures.value c.if-after.false c.ends_at-after.ensures in
    let before = begins_false c.deref-2.ensures.value c.if-before-2.false c.begins_at-before.ensures in (
      refl,
      record {
        before = all_before c.args.pieces.now.items c.args.at c.args.bytes.now c.args.count c.requires.place after;
        after = all_after c.args.pieces.now.items c.args.at c.args.bytes.now c.args.count c.requires.place before;
      },
    )
