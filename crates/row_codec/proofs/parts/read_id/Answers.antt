-- An id is its length, if that is one, and so many bytes.
use Rattle.std.proofs.Common.{◌≡◌, ℕ, List, sym, ◌∙◌, ap, subst, rules}
use Rattle.std.specs.Prelude.{Err}
use Rattle.std.proofs.lemmas.Bool.{false≢true, false_from_ne_true}
use Rattle.row_codec.specs.Read.{some_bytes, id_at, is_id_length}
use Rattle.row_codec.proofs.Fronts.{fails, given, leads, passes_test, test_failed}
use Rattle.row_codec.proofs.OneSpelling.{id_length, length_id}
use Rattle.row_codec.proofs.parts.read_id.Goals as goal

pub returns-in_err-count : goal.returns-in_err-count
unfolding id_at
returns-in_err-count c =
    let is : c.from_residual.result ≡ Err c.in_err-count.field-0.0 = search rules in rw is (fails _ _ _ c.in_err-count.ensures)

pub returns-then-not-is_id_length : goal.returns-then-not-is_id_length
unfolding id_at
returns-then-not-is_id_length c =
    leads _ _ _ _ _ c.in_ok-count.ensures
    (fails _ _ _ (test_failed (is_id_length c.in_ok-count.count) _ _ _
    (false_from_ne_true (is_id_length c.in_ok-count.count) (λ t. false≢true (sym c.if-not-is_id_length.true ∙ c.is_id_length.ensures.1 (id_length c.in_ok-count.count t))))))

pub returns-in_err-id : goal.returns-in_err-id
unfolding id_at
returns-in_err-id c =
    let is : c.from_residual-in_err-id.result ≡ Err c.in_err-id.field-0.0 = search rules in rw is (
    leads _ _ _ _ _ c.in_ok-count.ensures
    (leads _ _ _ _ _ (passes_test (is_id_length c.in_ok-count.count) _ _ _ (length_id c.in_ok-count.count (c.is_id_length.ensures.0 c.if-not-is_id_length.false)))
    (subst (λ (n : ℕ). some_bytes n c.byte.new.self ≡ Err c.in_err-id.field-0.0) c.from.ensures c.in_err-id.ensures.value)))

pub returns : goal.returns
unfolding id_at
returns c =
    leads _ _ _ _ _ c.in_ok-count.ensures
    (leads _ _ _ _ _ (passes_test (is_id_length c.in_ok-count.count) _ _ _ (length_id c.in_ok-count.count (c.is_id_length.ensures.0 c.if-not-is_id_length.false)))
    (subst (λ (n : ℕ). some_bytes n c.byte.new.self ≡ given c.in_ok-id.id.now c.take.new.self) c.from.ensures c.in_ok-id.ensures.value ∙ ap (λ (id : List ℕ). given id c.take.new.self) (sym c.in-Some.ensures.value)))
