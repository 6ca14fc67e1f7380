-- The file is that of the number's kind.
use Rattle.std.proofs.Common.{◌≡◌, IfOk, List, ℕ, sym, ◌∙◌, subst}
use Rattle.sample_files.specs.Samples.{debug_companion_of, dwarf_five_of, executable_of}
use Rattle.elf_forge.specs.Forge.{folder_of}
use Rattle.elf_forge.specs.declared.kind.Kind.TheVariants.{Whole, Executable, Companion, Text}
use Rattle.elf_forge.proofs.SizeLemmas.{forged_as}
use Rattle.elf_forge.proofs.forging.forge.Goals as goal

pub returns-in_ok-folder-in-Whole : goal.returns-in_ok-folder-in-Whole
returns-in_ok-folder-in-Whole c =
    subst (λ (f : List ℕ). IfOk c.dwarf_five_of.result (λ v. v.items ≡ f))
    (sym (forged_as Whole c.args.seed c.args.k (sym c.in-Whole.is ∙ c.kind_of.ensures)))
    (subst (λ (id : List ℕ). IfOk c.dwarf_five_of.result (λ v. v.items ≡ dwarf_five_of id (folder_of c.args.k))) c.id_of.ensures
    (subst (λ (folder : List ℕ). IfOk c.dwarf_five_of.result (λ v. v.items ≡ dwarf_five_of c.id_of.result folder))
    (c.as_str.ensures.value ∙ c.in_ok-folder-in-Whole.ensures) c.dwarf_five_of.ensures))

pub returns-in-Executable : goal.returns-in-Executable
returns-in-Executable c =
    subst (λ (f : List ℕ). IfOk c.executable_of.result (λ v. v.items ≡ f))
    (sym (forged_as Executable c.args.seed c.args.k (sym c.in-Executable.is ∙ c.kind_of.ensures)))
    (subst (λ (id : List ℕ). IfOk c.executable_of.result (λ v. v.items ≡ executable_of id)) c.id_of-in-Executable.ensures
    c.executable_of.ensures)

pub returns-in-Companion : goal.returns-in-Companion
returns-in-Companion c =
    subst (λ (f : List ℕ). IfOk c.debug_companion_of.result (λ v. v.items ≡ f))
    (sym (forged_as Companion c.args.seed c.args.k (sym c.in-Companion.is ∙ c.kind_of.ensures)))
    (subst (λ (id : List ℕ). IfOk c.debug_companion_of.result (λ v. v.items ≡ debug_companion_of id))
    c.id_of-in-Companion.ensures c.debug_companion_of.ensures)

pub returns-in-Text : goal.returns-in-Text
returns-in-Text c =
    subst (λ (f : List ℕ). IfOk c.text_of.result (λ v. v.items ≡ f))
    (sym (forged_as Text c.args.seed c.args.k (sym c.in-Text.is ∙ c.kind_of.ensures))) c.text_of.ensures
