-- Waiting for the end of a line.
use Rattle.std.proofs.Common.{◌≡◌, ℕ, ◌-◌, ◌<◌, ◌≤◌, inl, inr, false, ◌||◌, List, [], ◌++◌, length, drop, refl, sym, ap, ◌∙◌, arith, append_assoc, length-append}
use Rattle.std.specs.List.{list_any}
use Rattle.std.proofs.lemmas.Bool.{cases_lt}
use Rattle.std.proofs.lemmas.List.{append-nil}
use Rattle.std.proofs.lemmas.List.Folds.{list_any-append}
use Rattle.std.proofs.Math.Seq.{drop-append_seam}
use Rattle.http_wire.specs.Stream.{ShownStream}
use Rattle.http_wire.specs.declared.source.ReadAnswer.TheVariants.{Bytes, End, Failed}
use Rattle.http_wire.specs.Room.{Fills}
use Rattle.upstream_wire.specs.Takes.{Takes}
use Rattle.http_wire.specs.Room.{is_feed}
use Rattle.upstream_wire.specs.Waits.{ComesQuiet, ReadsOn, StopsWaiting}
use Rattle.upstream_wire.specs.declared.fault.ResponseFault.TheVariants.{NoResponse, ReadFault}
use Rattle.upstream_wire.proofs.RoomLemmas.{takes_fill, takes_none}

-- so far bytes without a line feed came, and there is room
pub record IsWaiting (held : List ℕ) (before : ShownStream) (now : List ℕ) (after : ShownStream) : Type 0 where
  pub takes : Takes held before [] now after
  pub quiet : ComesQuiet held now
  pub short : length now < 16384

-- a room that isn't full has place
pub has_place : (n : ℕ) → n ≤ 16384 → (n ≡ 16384 → ⊥) → n < 16384
has_place n fits apart =
    elim (cases_lt n 16384) [
      | inl less ↦ less
      | inr full ↦ absurd (apart (omega arith))
    ]

pub waits_none : (held : List ℕ) (shown : ShownStream) → length held < 16384 → IsWaiting held shown held shown
waits_none held shown short = record {
  takes = takes_none held shown;
  quiet = record { came = []; all = sym (append-nil held); quiet = refl };
  short = short;
}

-- what came last
last_bytes : (front came : List ℕ) (n : ℕ) → n ≡ length came → drop (length (front ++ came) - n) (front ++ came) ≡ came
last_bytes front came n size =
    let front_end : length (front ++ came) - n ≡ length front = omega (arith, length-append front came) in
    ap (λ k. drop k (front ++ came)) front_end ∙ drop-append_seam front came

-- no line feed came last
pub fill_quiet : {mid now : List ℕ} {between after : ShownStream} (n : ℕ) (fills : Fills mid between now after (Bytes n))
    → list_any is_feed (drop (length now - n) now) ≡ false → list_any is_feed fills.came ≡ false
fill_quiet {mid} {now} {between} {after} n fills quiet =
    sym (ap (λ bytes. list_any is_feed (drop (length bytes - n) bytes)) fills.all
    ∙ ap (λ bytes. list_any is_feed bytes) (last_bytes mid fills.came n fills.is.0))
    ∙ quiet

pub waits_more : {held mid now : List ℕ} {before between after : ShownStream} (n : ℕ)
    → IsWaiting held before mid between → Fills mid between now after (Bytes n)
    → list_any is_feed (drop (length now - n) now) ≡ false → length now < 16384 → IsWaiting held before now after
waits_more {held} {mid} {now} {before} {between} {after} n had fills quiet short = record {
  takes = takes_fill had.takes fills;
  quiet = record {
    came = had.quiet.came ++ fills.came;
    all = fills.all ∙ ap (λ front. front ++ fills.came) had.quiet.all ∙ append_assoc held had.quiet.came fills.came;
    quiet = list_any-append is_feed had.quiet.came fills.came
        ∙ ap (λ b. b || list_any is_feed fills.came) had.quiet.quiet ∙ fill_quiet n fills quiet;
  };
  short = short;
}

-- some bytes came
pub waits_on : {held mid now : List ℕ} {before between after : ShownStream} (n : ℕ)
    → IsWaiting held before mid between → Fills mid between now after (Bytes n) → ReadsOn held before now after
waits_on {held} {mid} {now} {before} {between} {after} n had fills = record {
  takes = takes_fill had.takes fills;
  more =
      let count = fills.is.0 in
      let some = fills.is.1 in
      let size = ap length fills.all ∙ length-append mid fills.came in
      let front = ap length had.quiet.all ∙ length-append held had.quiet.came in
      omega arith;
}

-- the source ended
pub waits_to_end : {held mid now : List ℕ} {before between after : ShownStream}
    → IsWaiting held before mid between → Fills mid between now after End → StopsWaiting NoResponse held before after
waits_to_end {held} {mid} {now} {before} {between} {after} had fills = record {
  now = now;
  takes = takes_fill had.takes fills;
  says = (
    record {
      came = had.quiet.came;
      all = fills.all ∙ ap (λ tail. mid ++ tail) fills.is.0 ∙ append-nil mid ∙ had.quiet.all;
      quiet = had.quiet.quiet;
    },
    fills.is.1,
  );
}

-- a read failed
pub waits_to_fault : {held mid now : List ℕ} {before between after : ShownStream}
    → IsWaiting held before mid between → Fills mid between now after Failed → StopsWaiting ReadFault held before after
waits_to_fault {held} {mid} {now} {before} {between} {after} had fills = record {
  now = now;
  takes = takes_fill had.takes fills;
  says =
      let first = had.takes.later in
      let rose = fills.cause.rose refl in
      omega arith;
}
