-- Bytes that come one after the other, and what is left behind them.
use Rattle.std.proofs.Common.{◌≡◌, ℕ, ◌<◌, List, [], ◌++◌, length, Option, Some, None, refl, sym, ap, ◌∙◌, subst, arith, append_assoc, length-append}
use Rattle.std.proofs.lemmas.List.{append-nil}
use Rattle.std.proofs.lemmas.Option.{same_Some}
use Rattle.http_wire.specs.Calls.{gave}
use Rattle.http_wire.specs.Room.{Fills}
use Rattle.upstream_wire.specs.Takes.{OfAll, OnlyGives, Takes}
use Rattle.http_wire.specs.Source.{ComesFrom, HasEnded}
use Rattle.http_wire.specs.Stream.{LeavesWriting, ShownStream}
use Rattle.http_wire.specs.declared.source.ReadAnswer.{ReadAnswer}
use Rattle.http_wire.specs.declared.source.ReadAnswer.TheVariants.{Bytes}
use Rattle.http_wire.proofs.CallLemmas.{calls_both, calls_none, calls_one}
use Rattle.http_wire.proofs.GatherLemmas.{comes-comes, comes_none}

leaves_both : {before between after : ShownStream} → LeavesWriting before between
    → LeavesWriting between after → LeavesWriting before after
leaves_both first then = record { written = then.written ∙ first.written; write_faults = then.write_faults ∙ first.write_faults }

-- nothing was taken yet
pub takes_none : (held : List ℕ) (shown : ShownStream) → Takes held shown [] held shown
takes_none held shown = record {
  came = [];
  all = append-nil held;
  comes = comes_none shown.left;
  reads = calls_none gave shown.calls;
  later = omega arith;
  writing = record { written = refl; write_faults = refl };
}

-- nothing came
pub gives_none : (shown : ShownStream) → OnlyGives shown shown
gives_none shown = record { came = []; comes = comes_none shown.left; reads = calls_none gave shown.calls }

-- what came was given
pub gives_of : {held taken now : List ℕ} {before after : ShownStream} → Takes held before taken now after
    → OnlyGives before after
gives_of takes = record { came = takes.came; comes = takes.comes; reads = takes.reads }

-- more came behind what was taken
pub takes_fill : {held taken mid now : List ℕ} {before between after : ShownStream} {answer : ReadAnswer}
    → Takes held before taken mid between → Fills mid between now after answer → Takes held before taken now after
takes_fill {held} {taken} {mid} {now} {before} {between} {after} had fills = record {
  came = had.came ++ fills.came;
  all = sym (append_assoc held had.came fills.came) ∙ ap (λ front. front ++ fills.came) had.all
      ∙ append_assoc taken mid fills.came ∙ ap (λ tail. taken ++ tail) (sym fills.all);
  comes = comes-comes before.left between.left after.left had.came fills.came had.comes fills.comes;
  reads = calls_both had.reads (calls_one gave fills.came between.calls after.calls fills.told);
  later = let first = had.later in let then = fills.cause.later in omega arith;
  writing = leaves_both had.writing fills.writing;
}

-- where some came, some are held
pub fill_some : {held now : List ℕ} {before after : ShownStream} {n : ℕ} → Fills held before now after (Bytes n) → 0 < length now
fill_some {held} {now} {before} {after} {n} fills =
    let count = fills.is.0 in
    let some = fills.is.1 in
    let size = ap length fills.all ∙ length-append held fills.came in
    omega arith

-- bytes and then more were taken
pub takes_both : {held one mid two now : List ℕ} {before between after : ShownStream}
    → Takes held before one mid between → Takes mid between two now after → Takes held before (one ++ two) now after
takes_both {held} {one} {mid} {two} {now} {before} {between} {after} first then = record {
  came = first.came ++ then.came;
  all = sym (append_assoc held first.came then.came) ∙ ap (λ front. front ++ then.came) first.all
      ∙ append_assoc one mid then.came ∙ ap (λ tail. one ++ tail) then.all ∙ sym (append_assoc one two now);
  comes = comes-comes before.left between.left after.left first.came then.came first.comes then.comes;
  reads = calls_both first.reads then.reads;
  later = let a = first.later in let b = then.later in omega arith;
  writing = leaves_both first.writing then.writing;
}

-- the front of what is held is taken
pub takes_front : {held taken now : List ℕ} {before after : ShownStream} (front rest : List ℕ)
    → Takes held before taken now after → now ≡ front ++ rest → Takes held before (taken ++ front) rest after
takes_front {held} {taken} {now} {before} {after} front rest had splits = record {
  came = had.came;
  all = had.all ∙ ap (λ tail. taken ++ tail) splits ∙ sym (append_assoc taken front rest);
  comes = had.comes;
  reads = had.reads;
  later = had.later;
  writing = had.writing;
}

-- what came and what is left are what were left
told : (left came : List ℕ) (after : Option (List ℕ)) → ComesFrom (Some left) came after
    → (now : List ℕ) × (after ≡ Some now) × (left ≡ came ++ now)
told left came None comes = absurd (cc)
told left came (Some now) comes = (now, refl, same_Some left (came ++ now) comes)

-- what was held and left are what was taken, what is held and what is left
pub behind : {held taken now : List ℕ} {before after : ShownStream} (left : List ℕ)
    → Takes held before taken now after → before.left ≡ Some left
    → (rest : List ℕ) × (after.left ≡ Some rest) × (held ++ left ≡ taken ++ (now ++ rest))
behind {held} {taken} {now} {before} {after} left had tells =
    let found = told left had.came after.left (sym tells ∙ had.comes) in (
      found.0,
      found.1,
      ap (λ tail. held ++ tail) found.2 ∙ sym (append_assoc held had.came found.0)
          ∙ ap (λ front. front ++ found.0) had.all ∙ append_assoc taken now found.0,
    )

-- at the end nothing is left
pub at_end : (left : Option (List ℕ)) (rest : List ℕ) → left ≡ Some rest → HasEnded left → rest ≡ []
at_end None rest is ended = absurd (cc)
at_end (Some left) rest is ended = same_Some rest [] (sym is ∙ ended refl)

-- a form that the bytes in front of what is left lack, the whole lacks
pub of_all : {held now : List ℕ} {before after : ShownStream} (Is : List ℕ → Type 0) → Takes held before [] now after
    → ((rest : List ℕ) → after.left ≡ Some rest → Is (now ++ rest)) → OfAll held before Is
of_all {held} {now} {before} {after} Is had lacks left tells =
    let found = behind left had tells in
    subst Is (sym found.2) (lacks found.0 found.1)
