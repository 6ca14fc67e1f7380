-- The run was read and put, or what stopped it is told; the file is read under its own name, which is that of the picture.
use Rattle.std.proofs.Common.{◌≡◌, arith, length, sym, ◌∙◌, ap, subst}
use Rattle.file_formats.specs.Numbers.{bytes_at}
use Rattle.file_picture.specs.Picture.{IsAdded, IsRangeFree}
use Rattle.tree_trait.specs.Fills.{RunEnds}
use Rattle.tree_trait.specs.Opened.{opened_name}
use Rattle.tree_trait.proofs.FillLemmas.{known_as, run_not_kept, run_put}
use Rattle.tree_trait.proofs.filling.fill_run.Goals as goal

pub read_run-requires-clause-some : goal.read_run-requires-clause-some
read_run-requires-clause-some g c = λ κs within. c.requires.some

pub read_run-requires-clause-inside : goal.read_run-requires-clause-inside
read_run-requires-clause-inside g c = λ κs within.
    let own = ap (λ o. g.T.Tree.opened o.file) c.opened.view_is ∙ c.requires.name in
    let same = ap (λ name. name.stamp.size) own in
    omega (arith, same, c.requires.inside)

pub take-requires-clause-inside : goal.take-requires-clause-inside
take-requires-clause-inside g c =
    let same = ap (λ o. o.stamp.size) c.opened.view_is in
    let long = c.in-Ok.ensures.long in
    omega (arith, same, long, c.requires.inside)

pub take-requires-clause-free : goal.take-requires-clause-free
take-requires-clause-free g c =
    let free = subst (λ p. IsRangeFree p c.args.place c.args.count) (sym (ap (λ o. o.picture) c.opened.view_is)) c.requires.free in
    subst (λ n. IsRangeFree c.opened.inside.picture c.args.place n) (sym c.in-Ok.ensures.long) free

pub take-requires-clause-known : goal.take-requires-clause-known
take-requires-clause-known g c =
    let own = ap (λ o. g.T.Tree.opened o.file) c.opened.view_is ∙ c.requires.name in
    let named = ap (λ o. opened_name o) c.opened.view_is in
    known_as g.W.Truth.told g.W.Truth.version (λ b. bytes_at b c.args.place (length c.in-Ok.bytes.items) ≡ c.in-Ok.bytes.items)
    (own ∙ sym named) c.in-Ok.ensures.bytes

pub returns-then-take-clause-name : goal.returns-then-take-clause-name
returns-then-take-clause-name g c = c.if-take.ensures.name ∙ ap (λ o. opened_name o) c.opened.view_is

pub returns-then-take-clause-opened : goal.returns-then-take-clause-opened
returns-then-take-clause-opened g c =
    let own = ap (λ o. g.T.Tree.opened o.file) c.opened.view_is ∙ c.requires.name in
    let named = c.if-take.ensures.name ∙ ap (λ o. opened_name o) c.opened.view_is in
    ap g.T.Tree.opened c.if-take.ensures.file ∙ c.in-Ok.ensures.name ∙ own ∙ sym named

pub returns-then-take-clause-reads : goal.returns-then-take-clause-reads
returns-then-take-clause-reads g c =
    let own = ap (λ o. g.T.Tree.opened o.file) c.opened.view_is ∙ c.requires.name in
    let added = subst (λ p. IsAdded p c.args.place c.in-Ok.bytes.items c.take.new.self.picture)
    (ap (λ o. o.picture) c.opened.view_is) c.if-take.ensures.added in
    run_put c.in-Ok.bytes.items own c.in-Ok.ensures.long c.in-Ok.ensures.read added

pub returns-else-take-clause-name : goal.returns-else-take-clause-name
returns-else-take-clause-name g c = c.if-take.ensures.name ∙ ap (λ o. opened_name o) c.opened.view_is

pub returns-else-take-clause-opened : goal.returns-else-take-clause-opened
returns-else-take-clause-opened g c =
    let own = ap (λ o. g.T.Tree.opened o.file) c.opened.view_is ∙ c.requires.name in
    let named = c.if-take.ensures.name ∙ ap (λ o. opened_name o) c.opened.view_is in
    ap g.T.Tree.opened c.if-take.ensures.file ∙ c.in-Ok.ensures.name ∙ own ∙ sym named

pub returns-else-take-clause-reads : goal.returns-else-take-clause-reads
returns-else-take-clause-reads g c =
    let own = ap (λ o. g.T.Tree.opened o.file) c.opened.view_is ∙ c.requires.name in
    run_not_kept c.in-Ok.bytes.items own c.in-Ok.ensures.long c.in-Ok.ensures.read
    (ap (λ o. o.picture) c.if-take.ensures.same ∙ ap (λ o. o.picture) c.opened.view_is)

pub returns-in-Err-clause-name : goal.returns-in-Err-clause-name
returns-in-Err-clause-name g c = ap (λ o. opened_name o) c.opened.view_is

pub returns-in-Err-clause-opened : goal.returns-in-Err-clause-opened
returns-in-Err-clause-opened g c =
    let own = ap (λ o. g.T.Tree.opened o.file) c.opened.view_is ∙ c.requires.name in
    c.in-Err.ensures.name ∙ own ∙ sym (ap (λ o. opened_name o) c.opened.view_is)

pub returns-in-Err-clause-reads : goal.returns-in-Err-clause-reads
returns-in-Err-clause-reads g c =
    let own = ap (λ o. g.T.Tree.opened o.file) c.opened.view_is ∙ c.requires.name in
    let run = c.in-Err.ensures.stop in
    let here = subst (λ name. RunEnds name c.args.place c.args.count c.args.opened.now.picture c.args.opened.now.picture c.in-Err.stop run.0)
    own (run.2 c.args.opened.now.picture) in (
      run.0,
      run.1,
      subst (λ p. RunEnds (opened_name c.args.opened.now) c.args.place c.args.count c.args.opened.now.picture p c.in-Err.stop run.0)
          (sym (ap (λ o. o.picture) c.opened.view_is)) here,
    )
