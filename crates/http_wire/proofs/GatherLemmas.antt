-- Bytes that come one after the other.
use Rattle.std.proofs.Common.{◌≡◌, ℕ, ◌-◌, ◌<◌, List, [], ◌∷◌, ◌++◌, drop, length, map, Option, Some, None}
use Rattle.std.proofs.Common.{refl, sym, ap, ◌∙◌, subst, arith, append_assoc, length-append}
use Rattle.std.proofs.Math.Seq.{drop-append_seam}
use Rattle.std.specs.List.{concat}
use Rattle.std.specs.Option.{option_map}
use Rattle.std.proofs.lemmas.List.{append-nil}
use Rattle.httparse.specs.Grammar.{HasNoRequest}
use Rattle.http_wire.specs.Calls.{gave, one_call}
use Rattle.http_wire.specs.Find.{AreReadsWanted, Gathers, ReadsAsWanted}
use Rattle.http_wire.specs.Heads.{IsStillOpen}
use Rattle.http_wire.specs.Room.{Fills}
use Rattle.http_wire.specs.Source.{ComesFrom}
use Rattle.http_wire.specs.Stream.{LeavesWriting, ShownStream}
use Rattle.http_wire.specs.Told.{Gains}
use Rattle.http_wire.specs.declared.source.ReadAnswer.{ReadAnswer}
use Rattle.http_wire.specs.declared.source.ReadAnswer.TheVariants.{Bytes, End, Failed}
use Rattle.http_wire.proofs.CallLemmas.{calls_both, calls_none, gains_both, one_call_some}

-- bytes and then more
pub comes-comes : (old mid new : Option (List ℕ)) (a b : List ℕ) → ComesFrom old a mid → ComesFrom mid b new
    → ComesFrom old (a ++ b) new
comes-comes old mid None a b first then = first ∙ ap (option_map (λ left. a ++ left)) then
comes-comes old mid (Some left) a b first then =
    first ∙ ap (option_map (λ left'. a ++ left')) then ∙ ap Some (sym (append_assoc a b left))

-- no bytes
pub comes_none : (left : Option (List ℕ)) → ComesFrom left [] left
comes_none None = refl
comes_none (Some left) = refl

leaves_both : {before between after : ShownStream} → LeavesWriting before between
    → LeavesWriting between after → LeavesWriting before after
leaves_both first then = record { written = then.written ∙ first.written; write_faults = then.write_faults ∙ first.write_faults }

-- one read more, where it is wanted
wanted_more : (held : List ℕ) (pieces : List (List ℕ)) (last : List ℕ) → AreReadsWanted held pieces
    → HasNoRequest (held ++ concat pieces) → IsStillOpen (held ++ concat pieces) → AreReadsWanted held (pieces ++ last ∷ [])
wanted_more held [] last had none still =
    (subst HasNoRequest (append-nil held) none, subst IsStillOpen (append-nil held) still, tt)
wanted_more held (piece ∷ pieces) last had none still =
    let here = sym (append_assoc held piece (concat pieces)) in (
      had.0,
      had.1,
      wanted_more (held ++ piece) pieces last had.2 (subst HasNoRequest here none) (subst IsStillOpen here still),
    )

-- nothing was read
pub reads_nothing : (held : List ℕ) (shown : ShownStream) → ReadsAsWanted held [] shown shown
reads_nothing held shown = record { reads = calls_none gave shown.calls; wanted = tt }

-- some bytes were read where they were wanted
reads_some : {held came : List ℕ} {before between after : ShownStream} (more : List ℕ) → ReadsAsWanted held came before between
    → HasNoRequest (held ++ came) → IsStillOpen (held ++ came) → 0 < length more
    → Gains between.calls (one_call gave more) after.calls → ReadsAsWanted held (came ++ more) before after
reads_some {held} {came} {before} {between} {after} more had none still some told =
    let one = subst (λ calls. Gains between.calls calls after.calls) (one_call_some gave more some) told in
    record {
      reads = calls_both had.reads (record { pieces = more ∷ []; all = sym (append-nil more); told = one });
      wanted = wanted_more held had.reads.pieces more had.wanted
          (subst (λ front. HasNoRequest (held ++ front)) had.reads.all none)
          (subst (λ front. IsStillOpen (held ++ front)) had.reads.all still);
    }

-- a read gave nothing
reads_none : {held came : List ℕ} {before between after : ShownStream} → ReadsAsWanted held came before between
    → Gains between.calls [] after.calls → ReadsAsWanted held came before after
reads_none {held} {came} {before} {between} {after} had told = record {
  reads = record {
    pieces = had.reads.pieces;
    all = had.reads.all;
    told = subst (λ calls. Gains before.calls calls after.calls) (append-nil (map gave had.reads.pieces))
        (gains_both before.calls between.calls after.calls (map gave had.reads.pieces) [] had.reads.told told);
  };
  wanted = had.wanted;
}

-- nothing came yet
pub gathers_none : (held : List ℕ) (shown : ShownStream) → Gathers held shown held shown
gathers_none held shown = record {
  came = [];
  all = sym (append-nil held);
  comes = comes_none shown.left;
  wanted = reads_nothing held shown;
  later = omega arith;
  writing = record { written = refl; write_faults = refl };
}

-- a read gave some bytes more, where it was wanted
pub gathers_fill : {held bytes more : List ℕ} {before between after : ShownStream} {n : ℕ}
    → Gathers held before bytes between → HasNoRequest bytes → IsStillOpen bytes → Fills bytes between more after (Bytes n)
    → Gathers held before more after
gathers_fill {held} {bytes} {more} {before} {between} {after} {n} had none still fills = record {
  came = had.came ++ fills.came;
  all = fills.all ∙ ap (λ front. front ++ fills.came) had.all ∙ append_assoc held had.came fills.came;
  comes = comes-comes before.left between.left after.left had.came fills.came had.comes fills.comes;
  wanted = reads_some fills.came had.wanted (subst HasNoRequest had.all none) (subst IsStillOpen had.all still)
      (let one = fills.is.1 in let len = fills.is.0 in omega arith) fills.told;
  later = let first = had.later in let then = fills.cause.later in omega arith;
  writing = leaves_both had.writing fills.writing;
}

-- the last of what is held then is what came
pub came_last : {bytes more : List ℕ} {between after : ShownStream} {n : ℕ}
    → (fills : Fills bytes between more after (Bytes n)) → drop (length more - n) more ≡ fills.came
came_last {bytes} {more} {between} {after} {n} fills =
    let len = fills.is.0 in
    let whole = ap length fills.all ∙ length-append bytes fills.came in
    let front : length more - n ≡ length bytes = omega arith in
    ap (λ k. drop k more) front ∙ ap (drop (length bytes)) fills.all ∙ drop-append_seam bytes fills.came

-- a read gave none
none_came : {held bytes more : List ℕ} {before between after : ShownStream} {answer : ReadAnswer}
    → Gathers held before bytes between → (fills : Fills bytes between more after answer) → fills.came ≡ []
    → Gathers held before more after
none_came {held} {bytes} {more} {before} {between} {after} {answer} had fills none = record {
  came = had.came;
  all = fills.all ∙ ap (λ came. bytes ++ came) none ∙ append-nil bytes ∙ had.all;
  comes =
      let here = subst (λ came. ComesFrom between.left came after.left) none fills.comes in
      subst (λ came. ComesFrom before.left came after.left) (append-nil had.came)
      (comes-comes before.left between.left after.left had.came [] had.comes here);
  wanted = reads_none had.wanted (subst (λ came. Gains between.calls (one_call gave came) after.calls) none fills.told);
  later = let first = had.later in let then = fills.cause.later in omega arith;
  writing = leaves_both had.writing fills.writing;
}

-- the source ended, or the read failed
pub gathers_end : {held bytes more : List ℕ} {before between after : ShownStream}
    → Gathers held before bytes between → Fills bytes between more after End → Gathers held before more after
gathers_end had fills = none_came had fills fills.is.0

pub gathers_failed : {held bytes more : List ℕ} {before between after : ShownStream}
    → Gathers held before bytes between → Fills bytes between more after Failed → Gathers held before more after
gathers_failed had fills = none_came had fills fills.is

pub ruleset gathering = (gathers_none, gathers_fill, gathers_end, gathers_failed)
