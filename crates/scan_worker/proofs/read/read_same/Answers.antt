-- The open file has the listed name, of which the copies are.
use Rattle.std.proofs.Common.{◌≡◌, List, ℕ, refl, sym, ◌∙◌, ap, subst}
use Rattle.row_types.specs.Name.{NameFacts}
use Rattle.row_types.specs.Stamp.{StampFacts}
use Rattle.tree_trait.specs.Opened.{opened_name, unread_picture}
use Rattle.scan_worker.specs.Parts.{ReadsOpenFile}
use Rattle.scan_worker.specs.declared.read.NameRead.TheVariants.{OutOfMemory}
use Rattle.scan_worker.proofs.ReadLemmas.{opened_alone, name_of_parts}
use Rattle.scan_worker.proofs.read.read_same.Goals as goal

pub returns-in_default : goal.returns-in_default
returns-in_default g c =
    opened_alone g.T.Tree.told g.W.Truth.version c.args.name.now OutOfMemory c.requires.same (λ is. absurd (cc))

pub new-requires : goal.new-requires
new-requires g c =
    subst (λ (p : List ℕ). (b : List ℕ) × g.W.Truth.version p c.args.stamp b) (sym c.in-Ok.ensures.1) c.requires.known

pub read_parts-requires-clause-name : goal.read_parts-requires-clause-name
read_parts-requires-clause-name g c = λ κs within.
    subst (λ o. opened_name o ≡ c.in-Ok.own) (sym c.new.ensures)
    (name_of_parts {name = c.args.name.now} c.in-Ok.ensures.1 c.requires.same ∙ sym c.in-Ok.ensures.0)

pub read_parts-requires-clause-file : goal.read_parts-requires-clause-file
read_parts-requires-clause-file g c = λ κs within.
    subst (λ o. g.T.Tree.opened o.file ≡ opened_name o) (sym c.new.ensures)
    (c.requires.opened ∙ ap {B = NameFacts} (λ (p : List ℕ). record { path = p; stamp = c.args.stamp }) (sym c.in-Ok.ensures.1))

pub read_parts-requires-clause-unread : goal.read_parts-requires-clause-unread
read_parts-requires-clause-unread g c = λ κs within.
    subst (λ o. o.picture ≡ unread_picture o.stamp.size) (sym c.new.ensures) refl

pub returns : goal.returns
returns g c =
    subst (λ (s : StampFacts). ReadsOpenFile g.T.Tree.told g.W.Truth.version c.args.name.now s (g.T.Tree.shows c.args.hand.now)
    (g.T.Tree.shows c.read_parts.new.hand) c.read_parts.result) (sym c.requires.same)
    (subst (λ (n : NameFacts). ReadsOpenFile g.T.Tree.told g.W.Truth.version n n.stamp (g.T.Tree.shows c.args.hand.now)
    (g.T.Tree.shows c.read_parts.new.hand) c.read_parts.result) c.in-Ok.ensures.0 c.read_parts.ensures)
