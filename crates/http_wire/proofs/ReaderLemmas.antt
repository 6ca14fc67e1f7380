-- A reader that is over.
use Rattle.std.proofs.Common.{◌≡◌, true, [], refl, arith}
use Rattle.http_wire.specs.Reader.{StepsReader}
use Rattle.http_wire.specs.ReaderFacts.{ReaderFacts}
use Rattle.http_wire.specs.Stream.{ShownStream}
use Rattle.http_wire.specs.declared.find.Find.TheVariants.{Closed}
use Rattle.http_wire.proofs.GatherLemmas.{comes_none, reads_nothing}

-- it reads nothing, and is as it was
pub stays_over : (old : ReaderFacts) (shown : ShownStream) → old.over ≡ true → StepsReader old shown old shown Closed
stays_over old shown over = record {
  came = [];
  comes = comes_none shown.left;
  wanted = reads_nothing old.held shown;
  step = rw over (refl, refl);
  quiet = λ is. refl;
  cause = record { later = omega arith; rose = λ failed. absurd (cc) };
  writing = record { written = refl; write_faults = refl };
}
