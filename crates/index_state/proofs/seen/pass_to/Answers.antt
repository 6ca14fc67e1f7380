-- A name before the path is passed; from one that isn't before it on, the path is found here or nowhere.
use Rattle.std.proofs.Common.{◌≡◌, List, ◌∷◌, rules, sym, ◌∙◌, ap, subst}
use Rattle.std.proofs.lemmas.Map.Lookups.{exact_bytes}
use Rattle.row_types.specs.Name.{NameFacts, stamp_at}
use Rattle.index_rows.proofs.PathLemmas.{before_after}
use Rattle.scan_queue.specs.Names.{IsByPath}
use Rattle.index_state.specs.Seen.{behind}
use Rattle.index_state.proofs.Merge.{beyond_behind, beyond_stamp, here_behind, here_stamp, passed_behind, passed_stamp, rest_by_path}
use Rattle.index_state.proofs.seen.pass_to.Goals as goal

pub loop-name-preserved : goal.loop-name-preserved
loop-name-preserved c =
    let path = c.args.path.now in
    let whole : c.loop-name.left.now ≡ c.in-Some.name.now ∷ c.in-Some.rest.now = search rules in
    let before = sym c.cmp.ensures ∙ c.in-Less.is in record {
      stamp = sym (passed_stamp path c.in-Some.name.now c.in-Some.rest.now before) ∙ sym (ap (λ (ns : List NameFacts). stamp_at ns path) whole) ∙ c.loop-name.invariant.stamp;
      rest = sym (passed_behind path c.in-Some.name.now c.in-Some.rest.now before) ∙ sym (ap (λ (ns : List NameFacts). behind path ns) whole) ∙ c.loop-name.invariant.rest;
      by_path = rest_by_path c.in-Some.name.now c.in-Some.rest.now (subst (λ (ns : List NameFacts). IsByPath ns) whole c.loop-name.invariant.by_path);
    }

pub returns-in-Equal-clause-stamp : goal.returns-in-Equal-clause-stamp
returns-in-Equal-clause-stamp c =
    let path = c.args.path.now in
    let whole : c.loop-name.left.now ≡ c.in-Some.name.now ∷ c.in-Some.rest.now = search rules in
    sym (here_stamp path c.in-Some.name.now c.in-Some.rest.now (exact_bytes c.in-Some.name.now.path path (sym c.cmp.ensures ∙ c.in-Equal.is)))
    ∙ sym (ap (λ (ns : List NameFacts). stamp_at ns path) whole) ∙ c.loop-name.invariant.stamp

pub returns-in-Equal-clause-rest : goal.returns-in-Equal-clause-rest
returns-in-Equal-clause-rest c =
    let path = c.args.path.now in
    let whole : c.loop-name.left.now ≡ c.in-Some.name.now ∷ c.in-Some.rest.now = search rules in
    sym (here_behind path c.in-Some.name.now c.in-Some.rest.now (exact_bytes c.in-Some.name.now.path path (sym c.cmp.ensures ∙ c.in-Equal.is))
    (subst (λ (ns : List NameFacts). IsByPath ns) whole c.loop-name.invariant.by_path))
    ∙ sym (ap (λ (ns : List NameFacts). behind path ns) whole) ∙ c.loop-name.invariant.rest

pub returns-in-Greater-clause-stamp : goal.returns-in-Greater-clause-stamp
returns-in-Greater-clause-stamp c =
    let path = c.args.path.now in
    let whole : c.loop-name.left.now ≡ c.in-Some.name.now ∷ c.in-Some.rest.now = search rules in
    sym (beyond_stamp path c.in-Some.name.now c.in-Some.rest.now (before_after c.in-Some.name.now.path path (sym c.cmp.ensures ∙ c.in-Greater.is))
    (subst (λ (ns : List NameFacts). IsByPath ns) whole c.loop-name.invariant.by_path))
    ∙ sym (ap (λ (ns : List NameFacts). stamp_at ns path) whole) ∙ c.loop-name.invariant.stamp

pub returns-in-Greater-clause-rest : goal.returns-in-Greater-clause-rest
returns-in-Greater-clause-rest c =
    let path = c.args.path.now in
    let whole : c.loop-name.left.now ≡ c.in-Some.name.now ∷ c.in-Some.rest.now = search rules in
    whole
    ∙ sym (beyond_behind path c.in-Some.name.now c.in-Some.rest.now (before_after c.in-Some.name.now.path path (sym c.cmp.ensures ∙ c.in-Greater.is))
    (subst (λ (ns : List NameFacts). IsByPath ns) whole c.loop-name.invariant.by_path))
    ∙ sym (ap (λ (ns : List NameFacts). behind path ns) whole) ∙ c.loop-name.invariant.rest
