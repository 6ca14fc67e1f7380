-- A stamp is three numbers, of which the last is below a second.
use Rattle.std.proofs.Common.{◌≡◌, ℤ, sym, ◌∙◌, ap, arith, rules}
use Rattle.std.specs.Int.{w64, cast_signed, cast_unsigned}
use Rattle.std.proofs.lemmas.Bool.{le-ltb, lt-ltb}
use Rattle.std.proofs.lemmas.Int.{to_z-of_z}
use borrow.Author.Gap.{read_sfits}
use Rattle.row_types.specs.declared.stamp.TheConstants.{NANOS_PER_SECOND}
use Rattle.row_types.proofs.PartLemmas.{stamp_from}
use Rattle.std.specs.Prelude.{Err}
use Rattle.row_codec.specs.Read.{stamp_in_front}
use Rattle.row_codec.proofs.Fronts.{fails, given, leads, passes_test, test_failed}
use Rattle.row_codec.proofs.parts.read_stamp.Goals as goal

pub returns-in_err-size : goal.returns-in_err-size
unfolding stamp_in_front
returns-in_err-size c =
    let is : c.from_residual.result ≡ Err c.in_err-size.field-0.0 = search rules in rw is (fails _ _ _ c.in_err-size.ensures)

pub returns-in_err-secs : goal.returns-in_err-secs
unfolding stamp_in_front
returns-in_err-secs c =
    let is : c.from_residual-in_err-secs.result ≡ Err c.in_err-secs.field-0.0 = search rules in rw is (leads _ _ _ _ _ c.in_ok-size.ensures (fails _ _ _ c.in_err-secs.ensures))

pub returns-in_err-nanos : goal.returns-in_err-nanos
unfolding stamp_in_front
returns-in_err-nanos c =
    let is : c.from_residual-in_err-nanos.result ≡ Err c.in_err-nanos.field-0.0 = search rules in rw is (leads _ _ _ _ _ c.in_ok-size.ensures (leads _ _ _ _ _ c.in_ok-secs.ensures (fails _ _ _ c.in_err-nanos.ensures)))

pub returns-then-nanos-ge-NANOS_PER_SECOND : goal.returns-then-nanos-ge-NANOS_PER_SECOND
unfolding stamp_in_front
returns-then-nanos-ge-NANOS_PER_SECOND c =
    leads _ _ _ _ _ c.in_ok-size.ensures (leads _ _ _ _ _ c.in_ok-secs.ensures (leads _ _ _ _ _ c.in_ok-nanos.ensures (test_failed _ _ _ _ (le-ltb c.in_ok-nanos.nanos NANOS_PER_SECOND (omega arith)))))

pub returns : goal.returns
unfolding stamp_in_front
returns c =
    let size = c.in_ok-size.size in
    let secs = c.in_ok-secs.secs in
    let nanos = c.in_ok-nanos.nanos in
    let same : cast_signed w64 (cast_unsigned w64 c.cast_signed.result) ≡ cast_signed w64 secs =
    ap (λ (z : ℤ). cast_signed w64 (cast_unsigned w64 z)) c.cast_signed.ensures ∙ to_z-of_z w64 (cast_signed w64 secs) (read_sfits w64 secs) in
    leads _ _ _ _ _ c.in_ok-size.ensures (leads _ _ _ _ _ c.in_ok-secs.ensures (leads _ _ _ _ _ c.in_ok-nanos.ensures
    (passes_test _ (stamp_from size (cast_signed w64 secs) nanos) _ _ (lt-ltb nanos NANOS_PER_SECOND (omega arith)) ∙ ap (λ (z : ℤ). given (stamp_from size z nanos) c.four.new.self) (sym same))))
