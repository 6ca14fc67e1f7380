-- By its tag a reading is a reason, or an identity and sources.
use Rattle.std.proofs.Common.{◌≡◌, ◌⊎◌, inl, inr, ℕ, List, refl, ◌∙◌, arith, rules}
use Rattle.std.specs.Prelude.{Ok, Err}
use Rattle.file_formats.specs.Identity.{Identity}
use Rattle.row_codec.specs.Read.{ident_at, sources_at, tagged_at}
use Rattle.row_codec.specs.declared.codes.TheConstants.{ELF_TAG}
use Rattle.row_codec.specs.declared.fault.CodecFault.{CodecFault}
use Rattle.row_codec.specs.declared.fault.CodecFault.TheVariants.{OutOfMemory}
use Rattle.row_codec.proofs.Fronts.{fails, leads}
use Rattle.row_codec.proofs.OneSpelling.{elf_read, none_read, plain_read}
use Rattle.row_codec.proofs.read.read_tagged.Goals as goal

sources_fail : (tag : ℕ) (bytes one : List ℕ) (ident : Identity) (fault : CodecFault) → tag ≡ ELF_TAG → ident_at bytes ≡ Ok (ident, one) → (sources_at one ≡ Err fault) ⊎ (fault ≡ OutOfMemory) → (tagged_at tag bytes ≡ Err fault) ⊎ (fault ≡ OutOfMemory)
sources_fail tag bytes one ident fault t e (inl bad) = inl (elf_read tag bytes t ∙ leads _ _ _ _ _ e (fails _ _ _ bad))
sources_fail tag bytes one ident fault t e (inr none) = inr none

pub returns-in_err-why : goal.returns-in_err-why
returns-in_err-why c =
    let is : c.from_residual.result ≡ Err c.in_err-why.field-0.0 = search rules in rw is (inl (plain_read _ _ c.if-tag-eq-PLAIN_TAG.true ∙ fails _ _ _ c.in_err-why.ensures))

pub returns-then-tag-eq-PLAIN_TAG : goal.returns-then-tag-eq-PLAIN_TAG
returns-then-tag-eq-PLAIN_TAG c = plain_read _ _ c.if-tag-eq-PLAIN_TAG.true ∙ leads _ _ _ _ _ c.in_ok-why.ensures refl

pub returns-then-tag-ne-ELF_TAG : goal.returns-then-tag-ne-ELF_TAG
returns-then-tag-ne-ELF_TAG c = inl (none_read _ _ (λ e. omega arith) (λ e. omega arith))

pub returns-in_err-ident : goal.returns-in_err-ident
returns-in_err-ident c =
    let is : c.from_residual-in_err-ident.result ≡ Err c.in_err-ident.field-0.0 = search rules in rw is (inl (elf_read _ _ c.if-tag-ne-ELF_TAG.false ∙ fails _ _ _ c.in_err-ident.ensures))

pub returns-in_err-sources : goal.returns-in_err-sources
returns-in_err-sources c =
    let is : c.from_residual-in_err-sources.result ≡ Err c.in_err-sources.field-0.0 = search rules in rw is (sources_fail _ _ _ _ _ c.if-tag-ne-ELF_TAG.false c.in_ok-ident.ensures c.in_err-sources.ensures)

pub returns : goal.returns
returns c = elf_read _ _ c.if-tag-ne-ELF_TAG.false ∙ leads _ _ _ _ _ c.in_ok-ident.ensures (leads _ _ _ _ _ c.in_ok-sources.ensures refl)
