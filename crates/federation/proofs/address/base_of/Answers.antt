use Rattle.std.proofs.Common.{Some, None, sym, ap, ◌∙◌, arith}
use Rattle.std.proofs.lemmas.Str.Pattern.{strip_suffix_char}
use Rattle.federation.specs.Address.{base_of}
use Rattle.federation.proofs.BaseLemmas.{base_of_other, base_of_slash}
use Rattle.federation.proofs.address.base_of.Goals as goal

pub returns-in-Some : goal.returns-in-Some
returns-in-Some c =
    let cut = strip_suffix_char 47 c.args.path.now (Some c.in-Some.base) c.in-Some.ensures.cases (omega arith) in
    sym (ap base_of cut ∙ base_of_slash c.in-Some.base.now)

pub returns-in-None : goal.returns-in-None
returns-in-None c =
    base_of_other c.args.path.now (strip_suffix_char 47 c.args.path.now None c.in-None.ensures.cases (omega arith))
