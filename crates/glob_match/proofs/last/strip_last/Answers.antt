use Rattle.std.proofs.Common.{◌≡◌, subst, ℕ, ◌-◌, false, List, length, arith}
use Rattle.glob_match.specs.Glob.{is_glob_match}
use Rattle.glob_match.proofs.LastLemmas.{no_room_for, last_none, one_place}
use Rattle.glob_match.proofs.last.strip_last.Goals as goal

pub returns-then-text-part : goal.returns-then-text-part
returns-then-text-part c = no_room_for c.args.part.now c.args.text.now c.requires (omega arith)

pub returns-in_default : goal.returns-in_default
returns-in_default c =
    let fails : is_glob_match c.args.part.now c.split_at.result.1.now ≡ false =
    last_none c.args.part.now c.split_at.result.1.now c.match_front.result c.requires c.match_front.ensures c.in_default.not-Whole in
    one_place c.args.part.now c.args.text.now (length c.args.text.now - length c.args.part.now) c.requires (omega arith)
    (subst (λ (x : List ℕ). is_glob_match c.args.part.now x ≡ false) c.split_at.ensures.back fails)
