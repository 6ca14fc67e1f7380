-- A told world has no other bytes under the file's name.
use Rattle.std.proofs.Common.{List, ℕ, length, ◌∙◌, ap}
use Rattle.file_formats.specs.Numbers.{bytes_at}
use Rattle.tree_trait.proofs.found.Found.read_into.Goals as goal

pub returns-clause-bytes : goal.returns-clause-bytes
returns-clause-bytes g c = λ told b known.
    c.own_into.ensures.own
    ∙ ap (λ (all : List ℕ). bytes_at all c.args.at (length c.args.room.now))
    (g.W.Truth.one_content told c.args.self.now.path c.args.self.now.stamp c.args.self.now.bytes b
    c.is_version.ensures.known known)
