-- The open file has the path and the stamp with which it was opened.
use Rattle.std.proofs.Common.{◌≡◌, ℕ, List, refl, sym, ◌∙◌, ap, subst}
use Rattle.row_types.specs.Name.{NameFacts}
use Rattle.tree_trait.specs.Opened.{opened_name, unread_picture}
use Rattle.file_parts.specs.AtPath.{stamped_name}
use Rattle.file_parts.proofs.PathLemmas.{sees_failed, sees_nothing, sees_read, sees_wanting}
use Rattle.file_parts.proofs.seen.read_opened.Goals as goal

pub returns-in_default : goal.returns-in_default
returns-in_default g c = sees_nothing

pub new-opened-requires : goal.new-opened-requires
new-opened-requires g c =
    subst (λ (p : List ℕ). (b : List ℕ) × g.W.Truth.version p c.args.stamp b) (sym c.in-Ok.ensures.ok) c.requires.known

pub fill_whole-end-requires-clause-file : goal.fill_whole-end-requires-clause-file
fill_whole-end-requires-clause-file g c = λ κs within.
    subst (λ o. g.T.Tree.opened o.file ≡ opened_name o) (sym c.new-opened.ensures)
    (c.requires.opened ∙ ap {B = NameFacts} (λ (p : List ℕ). stamped_name p c.args.stamp) (sym c.in-Ok.ensures.ok))

pub fill_whole-end-requires-clause-unread : goal.fill_whole-end-requires-clause-unread
fill_whole-end-requires-clause-unread g c = λ κs within.
    subst (λ o. o.picture ≡ unread_picture o.stamp.size) (sym c.new-opened.ensures) refl

pub returns-in-Done : goal.returns-in-Done
returns-in-Done g c =
    let same = ap (λ o. opened_name o) c.new-opened.ensures
    ∙ ap {B = NameFacts} (λ (p : List ℕ). stamped_name p c.args.stamp) c.in-Ok.ensures.ok in
    sees_read same c.fill_whole-end.new.opened c.fill_whole-end.ensures.name c.fill_whole-end.ensures.file c.knows.ensures.holds
    c.fill_whole-end.ensures.fills c.in-Done.is

pub returns-in-Failed : goal.returns-in-Failed
returns-in-Failed g c =
    let same = ap (λ o. opened_name o) c.new-opened.ensures
    ∙ ap {B = NameFacts} (λ (p : List ℕ). stamped_name p c.args.stamp) c.in-Ok.ensures.ok in
    sees_failed same c.fill_whole-end.ensures.fills c.in-Failed.is

pub returns-in-OutOfMemory : goal.returns-in-OutOfMemory
returns-in-OutOfMemory g c =
    let same = ap (λ o. opened_name o) c.new-opened.ensures
    ∙ ap {B = NameFacts} (λ (p : List ℕ). stamped_name p c.args.stamp) c.in-Ok.ensures.ok in
    sees_wanting same c.fill_whole-end.ensures.fills c.in-OutOfMemory.is
