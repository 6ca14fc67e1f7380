-- What is read is what the answer to the route rests on.
use Rattle.std.proofs.Common.{ℕ, List, subst}
use Rattle.file_formats.specs.Parts.{IsSomeSection}
use Rattle.file_parts.specs.AtPath.{SeesAtPath}
use Rattle.answer_core.proofs.attempt.read_for.Goals as goal

pub returns-in-Some : goal.returns-in-Some
returns-in-Some g c =
    rw (← c.section_asked.ensures, c.in-Some.is)
    (subst (λ (n : List ℕ). SeesAtPath g.T.Tree.opened (IsSomeSection n) g.T.Tree.told g.W.Truth.version c.args.path.now
    (g.T.Tree.shows c.args.hand.now) (g.T.Tree.shows c.read_at_path.new.hand) c.read_at_path.result) c.bytes.ensures
    c.read_at_path.ensures)

pub returns-in-None : goal.returns-in-None
returns-in-None g c = rw (← c.section_asked.ensures, c.in-None.is) c.read_at_path-in-None.ensures
