use Rattle.std.proofs.Common.{sym, subst}
use Rattle.file_formats.proofs.IdentityLemmas.{identity-unique}
use Rattle.file_picture.proofs.PassedLaws.{passed-first}
use Rattle.elf_file.specs.Parsed.{IsPictureWhole}
use Rattle.elf_file.proofs.WholeLemmas.{is_whole, never_needs}
use Rattle.elf_classify.proofs.SeenLemmas.{seen_whole}
use Rattle.elf_classify.proofs.identity.ident.Goals as goal

pub identity-requires : goal.identity-requires
identity-requires c = passed-first c.whole.result

pub unreachable-requires : goal.unreachable-requires
unreachable-requires c =
    never_needs c.whole.result (record { at = c.in-Need.at; len = c.in-Need.len })
    (subst IsPictureWhole (sym c.whole.ensures) (is_whole c.args.bytes.now)) c.in-Need.ensures.needs

pub returns-in-Ident-clause-answer : goal.returns-in-Ident-clause-answer
returns-in-Ident-clause-answer c = seen_whole c.args.bytes.now c.whole.result _ c.whole.ensures c.in-Ident.ensures

pub returns-in-Ident-clause-only : goal.returns-in-Ident-clause-only
returns-in-Ident-clause-only c = λ r is.
    identity-unique c.args.bytes.now _ r (seen_whole c.args.bytes.now c.whole.result _ c.whole.ensures c.in-Ident.ensures) is

pub returns-in-Plain-clause-answer : goal.returns-in-Plain-clause-answer
returns-in-Plain-clause-answer c = seen_whole c.args.bytes.now c.whole.result _ c.whole.ensures c.in-Plain.ensures

pub returns-in-Plain-clause-only : goal.returns-in-Plain-clause-only
returns-in-Plain-clause-only c = λ r is.
    identity-unique c.args.bytes.now _ r (seen_whole c.args.bytes.now c.whole.result _ c.whole.ensures c.in-Plain.ensures) is
