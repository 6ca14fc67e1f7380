use Rattle.std.proofs.Common.{◌≡◌, ap, refl, subst, string_bytes}
use Rattle.std.proofs.lemmas.Str.{IsUtf8-string_bytes}
use Rattle.dwarf_forms.specs.Tells.{IsOnly}
use Rattle.row_types.specs.Sources.{Names}
use Rattle.source_paths.proofs.NameLemmas.{names_itself}
use Rattle.source_paths.proofs.named.path_named.Goals as goal

pub returns-in-Ok-check : goal.returns-in-Ok-check
returns-in-Ok-check c =
    let same : string_bytes c.in-Ok.text ≡ c.args.text.items = ap (λ v. v.items) c.in-Ok.ensures.ok in
    subst (λ t. IsOnly (Names t) c.in-Ok-check.path) same
    (names_itself (c.in-Ok-check.ensures.ok.0 refl) (IsUtf8-string_bytes c.in-Ok.text) c.in-Ok-check.ensures.value)
