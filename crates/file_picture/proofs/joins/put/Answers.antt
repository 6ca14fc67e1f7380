-- The bytes touch no piece.
use Rattle.std.proofs.Common.{rules, ◌≡◌, sym, ◌∙◌, ap, subst, length, vec_len, arith}
use Rattle.std.specs.List.{insert}
use Rattle.std.proofs.lemmas.Bool.{MatchBool-at_false, eqb-false}
use Rattle.std.proofs.lemmas.Result.{on_ok_weaker}
use Rattle.file_picture.specs.Pieces.{CanPut, IsBegun, TouchesNone, piece_of}
use Rattle.file_picture.proofs.PutLemmas.{put_alone}
use Rattle.file_picture.proofs.joins.put.Goals as goal

pub returns-in-Ok-false-clause-ok : goal.returns-in-Ok-false-clause-ok
returns-in-Ok-false-clause-ok c =
    let long : vec_len c.args.bytes ≡ length c.args.bytes.items = search rules in
    let some = eqb-false (vec_len c.args.bytes) 0 (sym c.is_empty.ensures ∙ c.if-is_empty.false) in
    let can : CanPut c.args.pieces.now.items c.args.at c.args.bytes.items c.begun-count.result =
    record {
      apart = c.requires.apart;
      some = omega (arith, long, some);
      begun = subst (λ ps. IsBegun ps c.args.at c.begun-count.result) c.deref.ensures.value c.begun-count.ensures;
      free = c.requires.free;
    } in
    let left = MatchBool-at_false _ _ c.in-Ok-false.field-0-test c.in-Ok-false.ensures.ok in
    let none = subst (λ xs. TouchesNone c.args.pieces.now.items c.args.at (length xs) c.begun-count.result) c.deref-2.ensures.value left.1 in
    on_ok_weaker c.insert.result
    (λ is.
    put_alone c.args.pieces.now.items c.args.at c.args.bytes.items c.begun-count.result c.insert.new.pieces.items can none
    (is ∙ ap (λ xs. insert xs c.begun-count.result (piece_of c.args.at c.args.bytes.items)) left.0))
    c.insert.ensures.ok
