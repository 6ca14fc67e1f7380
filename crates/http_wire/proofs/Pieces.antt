-- Pieces that are written in a row.
use Rattle.std.proofs.Common.{◌≡◌, ℕ, ◌≤◌, ◌+◌, List, [], ◌++◌, length, take, drop, arith, refl}
use Rattle.std.proofs.Common.{sym, ◌∙◌, ap, Option, Some, None}
use Rattle.std.specs.Prelude.{is_some}
use Rattle.std.specs.Option.{option_map}
use Rattle.std.proofs.Common.{append_assoc, length-append, length-drop}
use Rattle.std.proofs.Math.Seq.{take-add, take-append-add}
use Rattle.std.proofs.lemmas.List.{append-nil}
use Rattle.http_wire.specs.Calls.{took}
use Rattle.http_wire.specs.Sink.{Appends, GetsAll, GetsPart, WritesStream}
use Rattle.http_wire.specs.Stream.{LeavesReading, ShownStream}
use Rattle.http_wire.specs.declared.sink.WriteAnswer.TheVariants.{Took}
use Rattle.http_wire.proofs.CallLemmas.{calls_both, calls_none, calls_one}

-- two pieces in a row
appends-append : (old mid new : Option (List ℕ)) (a b : List ℕ) → Appends old a mid
    → Appends mid b new → Appends old (a ++ b) new
appends-append old None new a b first then told =
    let gone : new ≡ None = then told in
    absurd (cc (ap is_some gone, told))
appends-append None (Some m) new a b first then told = let wrong : Some m ≡ None = first refl in absurd (cc)
appends-append (Some o) (Some m) new a b first then told =
    let so : Some m ≡ Some (o ++ a) = first refl in
    let now : new ≡ Some (m ++ b) = then told in
    now ∙ ap (option_map (λ w. w ++ b)) so ∙ ap Some (append_assoc o a b)

-- two calls in a row leave what each of them leaves
leaves_both : {before between after : ShownStream} → LeavesReading before between
    → LeavesReading between after → LeavesReading before after
leaves_both first then = record { left = then.left ∙ first.left; read_faults = then.read_faults ∙ first.read_faults }

-- two pieces were written whole
pub gets_both : {before between after : ShownStream} {a b : List ℕ} → GetsAll a before between
    → GetsAll b between after → GetsAll (a ++ b) before after
gets_both {before} {between} {after} {a} {b} first then = record {
  appends = appends-append before.written between.written after.written a b first.appends then.appends;
  calls = calls_both first.calls then.calls;
  later = let one = first.later in let two = then.later in omega arith;
  reading = leaves_both first.reading then.reading;
}

-- one piece was written whole, and then a part of the next
pub gets_then_part : {before between after : ShownStream} {a b : List ℕ} → GetsAll a before between
    → GetsPart b between after → GetsPart (a ++ b) before after
gets_then_part {before} {between} {after} {a} {b} first then = record {
  count = length a + then.count;
  proper = let less = then.proper in omega (arith, length-append a b);
  appends =
      rw (take-append-add a b then.count)
      (appends-append before.written between.written after.written a (take then.count b) first.appends then.appends);
  calls = rw (take-append-add a b then.count) (calls_both first.calls then.calls);
  later = let one = first.later in let two = then.later in omega arith;
  rose = let one = first.later in let two = then.rose in omega arith;
  reading = leaves_both first.reading then.reading;
}

-- the bytes in front were written, and then so many of the rest
pub gets_more : {before between after : ShownStream} (bytes : List ℕ) (at n : ℕ)
    → (at ≤ length bytes) × GetsAll (take at bytes) before between
    → WritesStream (drop at bytes) between after (Took n)
    → (at + n ≤ length bytes) × GetsAll (take (at + n) bytes) before after
gets_more {before} {between} {after} bytes at n had writes = (
  let taken = writes.takes.1 in let was = had.0 in omega (arith, length-drop at bytes),
  rw (take-add at n bytes)
      (gets_both had.1 (record {
        appends = writes.appends;
        calls = calls_one took (take n (drop at bytes)) between.calls after.calls writes.told;
        later = writes.cause.later;
        reading = writes.reading;
      })),
)

-- nothing is written of no bytes
pub gets_none : (shown : ShownStream) → GetsAll [] shown shown
gets_none shown = record {
  appends = λ told. nothing shown.written;
  calls = calls_none took shown.calls;
  later = omega arith;
  reading = record { left = refl; read_faults = refl };
}
  where
    nothing : (written : Option (List ℕ)) → written ≡ option_map (λ w. w ++ []) written
    nothing None = refl
    nothing (Some bytes) = ap Some (sym (append-nil bytes))

pub ruleset in_a_row = (gets_both, gets_then_part, gets_none)
