-- A path is a text that is one.
use Rattle.std.proofs.Common.{◌≡◌, ◌⊎◌, inl, inr, ℕ, List, false, refl, sym, ◌∙◌, ap, subst, rules}
use Rattle.std.specs.Prelude.{Err, Ok, IsOk}
use Rattle.row_codec.specs.Read.{is_path_text, path_at, text_in_front}
use Rattle.row_codec.specs.declared.fault.CodecFault.{CodecFault}
use Rattle.row_codec.specs.declared.fault.CodecFault.TheVariants.{BadText, OutOfMemory}
use Rattle.row_codec.proofs.Fronts.{fails, given, leads, passes_test, test_failed}
use Rattle.row_codec.proofs.read.read_path.Goals as goal

no_path : (bytes text rest : List ℕ) (fault : CodecFault) → text_in_front bytes ≡ Ok (text, rest) → ((fault ≡ BadText) × (is_path_text text ≡ false)) ⊎ (fault ≡ OutOfMemory) → (path_at bytes ≡ Err fault) ⊎ ((fault ≡ OutOfMemory) × IsOk (text_in_front bytes))
unfolding path_at
no_path bytes text rest fault e (inl bad) =
    inl (leads _ _ _ _ _ e (test_failed (is_path_text text) text rest BadText bad.1 ∙ ap (λ (f : CodecFault). Err f) (sym bad.0)))
no_path bytes text rest fault e (inr none) = inr (none, subst IsOk (sym e) refl)

pub returns-in_err-text : goal.returns-in_err-text
unfolding path_at
returns-in_err-text c =
    let is : c.from_residual.result ≡ Err c.in_err-text.field-0.0 = search rules in rw is (inl (fails _ _ _ c.in_err-text.ensures))

pub returns-in_err-path : goal.returns-in_err-path
unfolding path_at
returns-in_err-path c =
    let is : c.from_residual-in_err-path.result ≡ Err c.in_err-path.field-0.0 = search rules in rw is (no_path _ _ _ _ c.in_ok-text.ensures c.in_err-path.ensures.fault)

pub returns : goal.returns
unfolding path_at
returns c =
    leads _ _ _ _ _ c.in_ok-text.ensures (passes_test _ _ _ _ c.in_ok-path.ensures.path.1 ∙ ap (λ (path : List ℕ). given path c.text.new.self) (sym c.in_ok-path.ensures.path.0))
