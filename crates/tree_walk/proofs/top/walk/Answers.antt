-- One folder after the other is read, until none is left.
use Rattle.path_scope.specs.Scope.{Scope, scope_of}
use Rattle.std.proofs.Common.{◌∙◌, ◌≡◌, ℕ, List, [], inl, sym, subst}
use Rattle.tree_trait.proofs.HandLemmas.{hands_then}
use Rattle.tree_walk.specs.Search.{SearchFacts}
use Rattle.tree_walk.specs.Underway.{IsUnderway}
use Rattle.tree_walk.proofs.GoesLemmas.{goes_on, goes_then, goes_then_up, goes_up}
use Rattle.tree_walk.proofs.LimitLemmas.{fault_fits}
use Rattle.tree_walk.proofs.WalkLemmas.{walk_ended, walks_by, files_of}
use Rattle.tree_walk.proofs.top.walk.Goals as goal

pub returns-in_err-search-clause-walk : goal.returns-in_err-search-clause-walk
returns-in_err-search-clause-walk g c =
    walks_by c.from_residual.result
    (goes_up c.from_residual.ensures.1 c.in_err-search.ensures.goes (λ heard bad. bad))

pub returns-in_err-search-clause-refused : goal.returns-in_err-search-clause-refused
returns-in_err-search-clause-refused g c = fault_fits c.from_residual.result (returns-in_err-search-clause-walk g c)

pub returns-in_err-read_folder-clause-walk : goal.returns-in_err-read_folder-clause-walk
returns-in_err-read_folder-clause-walk g c =
    let scope : Scope = scope_of c.args.roots.now (g.S.Selection.takes c.args.select.now) in
    walks_by c.from_residual-in_err-read_folder.result
    (goes_then_up c.from_residual-in_err-read_folder.ensures.1 c.loop-folder.invariant.goes
    c.loop-folder.invariant.hands.still
    (λ heard u. c.in_err-read_folder.ensures.goes heard scope c.loop-folder.invariant.same
    (subst (λ (s : SearchFacts). IsUnderway heard scope s [] []) c.in-Some.ensures u)))

pub returns-in_err-read_folder-clause-refused : goal.returns-in_err-read_folder-clause-refused
returns-in_err-read_folder-clause-refused g c =
    fault_fits c.from_residual-in_err-read_folder.result (returns-in_err-read_folder-clause-walk g c)

pub loop-folder-preserved : goal.loop-folder-preserved
loop-folder-preserved g c =
    let scope : Scope = scope_of c.args.roots.now (g.S.Selection.takes c.args.select.now) in
    record {
      goes = goes_then c.loop-folder.invariant.goes c.loop-folder.invariant.hands.still
          (λ heard u. c.in_ok-read_folder.ensures.goes heard scope c.loop-folder.invariant.same
          (subst (λ (s : SearchFacts). IsUnderway heard scope s [] []) c.in-Some.ensures u))
          (λ heard u. u);
      same = c.in_ok-read_folder.ensures.same ∙ c.loop-folder.invariant.same;
      hands = hands_then c.loop-folder.invariant.hands c.read_folder.ensures.hands (λ some. inl some)
          (λ none. absurd none);
    }

pub loop-folder-preserved-in_ok-read_folder : goal.loop-folder-preserved-in_ok-read_folder
loop-folder-preserved-in_ok-read_folder g c =
    let scope : Scope = scope_of c.args.roots.now (g.S.Selection.takes c.args.select.now) in
    record {
      goes = goes_then c.loop-folder.invariant.goes c.loop-folder.invariant.hands.still
          (λ heard u. c.in_ok-read_folder.ensures.goes heard scope c.loop-folder.invariant.same
          (subst (λ (s : SearchFacts). IsUnderway heard scope s [] []) c.in-Some.ensures u))
          (λ heard u. u);
      same = c.in_ok-read_folder.ensures.same ∙ c.loop-folder.invariant.same;
      hands = hands_then c.loop-folder.invariant.hands c.read_folder.ensures.hands (λ some. inl some)
          (λ none. absurd none);
    }

pub returns-clause-walk : goal.returns-clause-walk
returns-clause-walk g c =
    let now : c.next_folder.new.self ≡ c.loop-folder.search = c.in_default.ensures.0 in
    walks_by c.finish.result
    (goes_on c.loop-folder.invariant.goes
    (λ heard u. walk_ended c.finish.result
    (subst (λ (s : SearchFacts). IsUnderway heard (scope_of c.args.roots.now (g.S.Selection.takes c.args.select.now)) s [] []) (sym now) u)
    (subst (λ (s : SearchFacts). s.todo ≡ []) (sym now) c.in_default.ensures.1)
    c.finish.ensures.listing c.finish.ensures.skipped c.finish.ensures.memory))

pub returns-clause-files : goal.returns-clause-files
returns-clause-files g c = files_of c.finish.result (returns-clause-walk g c) c.loop-folder.invariant.hands
