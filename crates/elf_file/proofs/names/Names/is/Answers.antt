use Rattle.std.proofs.Common.{sym, ◌∙◌}
use Rattle.std.proofs.lemmas.Bool.{le-ltb}
use Rattle.std.proofs.lemmas.List.{take_rest}
use Rattle.elf_file.proofs.SectionLemmas.{differ}
use Rattle.elf_file.proofs.TextLemmas.{text-is, no_text}
use Rattle.elf_file.proofs.names.Names.is.Goals as goal

pub returns-then-at-self : goal.returns-then-at-self
returns-then-at-self c =
    let bytes = c.self.inside.bytes.now in
    let value = rw (take_rest bytes c.args.at) at c.begins_with_text.ensures in
    let stands = text-is bytes c.args.at c.args.text.now in
    rw (← c.self.view_is) (λ h. stands.0 (sym value ∙ h), λ h. value ∙ stands.1 h)

pub returns-else-at-self : goal.returns-else-at-self
returns-else-at-self c =
    let none = no_text c.self.invariant c.if-at-self.false in
    rw (← c.self.view_is) (
      λ h. absurd (differ (sym (le-ltb _ _ c.if-at-self.false)) h),
      λ h. absurd (cc (none, h)),
    )
