-- The order of the paths says both.
use Rattle.std.proofs.Common.{rules, ◌≡◌, ◌&&◌, Bool, true, false, sym, ◌∙◌, ap}
use Rattle.std.specs.Ordering.{is_eq, is_gt}
use Rattle.std.specs.Cmp.Lexicographic.{texts_ties}
use Rattle.std.specs.Str.{bytes_eq}
use Rattle.row_types.specs.Stamp.{same_stamp}
use Rattle.scan_queue.proofs.Merge.{before_by}
use Rattle.scan_queue.proofs.begin.compare.Goals as goal

pub returns-then-is_eq-clause-before : goal.returns-then-is_eq-clause-before
returns-then-is_eq-clause-before c =
    c.is_gt.ensures ∙ ap is_gt c.cmp-order.ensures ∙ before_by c.args.name.now.path c.args.other.now.path

pub returns-then-is_eq-clause-same : goal.returns-then-is_eq-clause-same
returns-then-is_eq-clause-same c =
    let path : bytes_eq c.args.name.now.path c.args.other.now.path ≡ true =
    texts_ties c.args.name.now.path c.args.other.now.path ∙ ap is_eq (sym c.cmp-order.ensures) ∙ sym c.is_eq.ensures ∙ c.if-is_eq.true in
    let stamp : c.eq.result ≡ same_stamp c.args.name.now.stamp c.args.other.now.stamp = search rules in
    stamp ∙ sym (ap (λ (b : Bool). b && same_stamp c.args.name.now.stamp c.args.other.now.stamp) path)

pub returns-else-is_eq-clause-before : goal.returns-else-is_eq-clause-before
returns-else-is_eq-clause-before c =
    c.is_gt.ensures ∙ ap is_gt c.cmp-order.ensures ∙ before_by c.args.name.now.path c.args.other.now.path

pub returns-else-is_eq-clause-same : goal.returns-else-is_eq-clause-same
returns-else-is_eq-clause-same c =
    let path : bytes_eq c.args.name.now.path c.args.other.now.path ≡ false =
    texts_ties c.args.name.now.path c.args.other.now.path ∙ ap is_eq (sym c.cmp-order.ensures) ∙ sym c.is_eq.ensures ∙ c.if-is_eq.false in
    c.if-is_eq.false ∙ sym (ap (λ (b : Bool). b && same_stamp c.args.name.now.stamp c.args.other.now.stamp) path)
