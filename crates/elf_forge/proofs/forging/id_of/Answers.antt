-- The first bytes of the digest of the two numbers.
use Rattle.std.proofs.Common.{◌++◌, take, ap, ◌∙◌}
use Rattle.std.specs.Int.{w64, to_le_bytes}
use Rattle.sha2.specs.Sha256.{sha256}
use Rattle.elf_forge.specs.Forge.{forged_id}
use Rattle.elf_forge.proofs.forging.id_of.Goals as goal

pub returns : goal.returns
unfolding forged_id
returns c =
    c.front.ensures ∙ ap (take 20) (c.digest_of.ensures
    ∙ ap (λ m. sha256 (m ++ c.to_le_bytes-2.result)) c.to_le_bytes.ensures
    ∙ ap (λ m. sha256 (to_le_bytes w64 c.args.seed ++ m)) c.to_le_bytes-2.ensures)
