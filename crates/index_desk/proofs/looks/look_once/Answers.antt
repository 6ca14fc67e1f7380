-- A look leaves the value as it is.
use Rattle.std.proofs.Common.{rules, refl}
use Rattle.index_lock.proofs.Prefixes.{prefix_self}
use Rattle.index_desk.proofs.Goes.{held_by}
use Rattle.index_desk.proofs.looks.look_once.Goals as goal

pub returns : goal.returns
returns g c =
    held_by c.args.seat c.leave-later.result c.enter-held.result.value c.enter-held.result.value c.enter-held.result.value
    c.enter-held.ensures.begins c.enter-held.ensures.origin refl (refl, (c.value.result, c.look-answer.ensures, c.value.ensures))
    (prefix_self (g.S.Logged.log c.enter-held.result.value)) refl (search rules) c.leave-later.ensures.seen (search rules)
