-- A listed name has its stamp in the listing.
use Rattle.std.proofs.Common.{◌≡◌, ◌&&◌, true, Some, ap, sym, ◌∙◌}
use Rattle.std.specs.Prelude.{◌==◌}
use Rattle.std.specs.Ordering.{int_eq}
use Rattle.std.proofs.lemmas.Bool.{and_parts}
use Rattle.std.proofs.lemmas.Bool.Decides.{Decides-eqb, Decides-int_eq}
use Rattle.row_types.specs.Stamp.{StampFacts}
use Rattle.row_types.proofs.PartLemmas.{stamps_same}
use Rattle.pass_runner.proofs.last_hold.is_listed.Goals as goal

-- stamps whose parts are the same are one
one_stamp : (a b : StampFacts) → ((a.size == b.size) && (int_eq a.secs b.secs && (a.nanos == b.nanos))) ≡ true → a ≡ b
one_stamp a b h =
    let first = and_parts (a.size == b.size) (int_eq a.secs b.secs && (a.nanos == b.nanos)) h in
    let rest = and_parts (int_eq a.secs b.secs) (a.nanos == b.nanos) first.1 in
    stamps_same a.size b.size a.secs b.secs a.nanos b.nanos ((Decides-eqb a.size b.size).0 first.0)
    ((Decides-int_eq a.secs b.secs).0 rest.0) ((Decides-eqb a.nanos b.nanos).0 rest.1)

pub returns-in-Some : goal.returns-in-Some
returns-in-Some c = λ yes.
    sym c.in-Some.ensures.value
    ∙ ap (λ (s : StampFacts). Some s) (one_stamp c.in-Some.stamp c.args.name.now.stamp (sym c.eq.ensures ∙ yes))
