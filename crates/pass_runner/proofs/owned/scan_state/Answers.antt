-- The first hand walks, and the pass over what was listed follows.
use Rattle.std.proofs.Common.{◌<◌, ℕ, Bool, List, [], inl, slice_set, refl, subst}
use Rattle.path_scope.specs.Scope.{scope_of}
use Rattle.row_types.specs.Rules.{rules}
use Rattle.index_rows.specs.Rows.{row_names}
use Rattle.tree_trait.proofs.HandLemmas.{hands_then}
use Rattle.pass_runner.specs.Passes.{EndsOver}
use Rattle.pass_runner.proofs.FirstHand.{goes_never, idle_unwalked, loads_past_first, walks_first}
use Rattle.pass_runner.proofs.PassEnds.{over_walked}
use Rattle.pass_runner.proofs.PassHands.{first_goes, hands_none, hands_walked}
use Rattle.pass_runner.proofs.PassWalks.{ends_walked, helps_none}
use Rattle.pass_runner.proofs.owned.scan_state.Goals as goal

pub returns-in-Ok-clause-pass : goal.returns-in-Ok-clause-pass
returns-in-Ok-clause-pass g c = (
  c.in-Ok.field-0.listing,
  walks_first _ _ _ c.args.hands.items c.scan_listed.result.1.items c.index_mut.result.now c.walk.new.hand
      (subst (λ n. 0 < n) c.args.hands.ok.0 c.requires.hand) c.index_mut.ensures.value
      c.scan_listed.ensures.over
      (λ later over. ends_walked {K = g.row.K.Denot} (rules g.W.Truth.version g.W.Truth.true_row g.W.Truth.told) g.T.Tree.told
      g.K.Keeper.told g.K.Keeper.shows g.T.Tree.shows c.args.hands.len (scope_of c.args.roots.now (g.P.Selection.takes c.args.select.now)) c.index_mut.result.now c.walk.new.hand later
      c.args.state c.scan_listed.result.0 c.in-Ok.field-0 c.scan_listed.result.2 c.in-Ok.ensures.walk
      (λ t. c.in-Ok.ensures.files t.0 t.1) c.walk.ensures.hands
      (subst (λ (takes : List ℕ → Bool). EndsOver {K = g.row.K.Denot} (rules g.W.Truth.version g.W.Truth.true_row g.W.Truth.told)
      g.T.Tree.told g.K.Keeper.told g.K.Keeper.shows g.T.Tree.shows c.args.hands.len c.in-Ok.field-0.listing
      (scope_of c.args.roots.now takes) c.walk.new.hand later c.args.state c.scan_listed.result.0 c.scan_listed.result.2)
      c.walk.ensures.same over)),
)

pub returns-in-Ok-clause-hands : goal.returns-in-Ok-clause-hands
returns-in-Ok-clause-hands g c =
    walks_first _ _ _ c.args.hands.items c.scan_listed.result.1.items c.index_mut.result.now c.walk.new.hand
    (subst (λ n. 0 < n) c.args.hands.ok.0 c.requires.hand) c.index_mut.ensures.value
    c.scan_listed.ensures.hands
    (λ later on. hands_then c.walk.ensures.hands on (λ asked. inl asked) (λ f. f))

pub returns-in-Ok-clause-loads : goal.returns-in-Ok-clause-loads
returns-in-Ok-clause-loads g c =
    loads_past_first g.T.Tree.shows c.args.hands.items c.scan_listed.result.1.items c.walk.new.hand c.scan_listed.result.2
    c.scan_listed.ensures.loads

pub returns-in-Err-clause-pass : goal.returns-in-Err-clause-pass
returns-in-Err-clause-pass g c = (
  [],
  first_goes _ _ c.args.hands.items c.index_mut.result.now c.walk.new.hand
      (subst (λ n. 0 < n) c.args.hands.ok.0 c.requires.hand) c.index_mut.ensures.value
      (record { stops = record { walks = c.in-Err.ensures.walk; fits = λ t. c.in-Err.ensures.refused t.0 t.1 }; same = refl })
      (helps_none g.T.Tree.shows g.T.Tree.told g.W.Truth.version [] (row_names c.args.state.rows)),
)

pub returns-in-Err-clause-hands : goal.returns-in-Err-clause-hands
returns-in-Err-clause-hands g c =
    first_goes _ _ c.args.hands.items c.index_mut.result.now c.walk.new.hand
    (subst (λ n. 0 < n) c.args.hands.ok.0 c.requires.hand) c.index_mut.ensures.value
    (hands_walked c.walk.result c.in-Err.fault c.in-Err.is c.walk.ensures.hands) (λ other. hands_none (λ never. never))

pub returns-in-Ok-clause-idle : goal.returns-in-Ok-clause-idle
returns-in-Ok-clause-idle g c = λ unwalked.
    absurd (goes_never _ _ (slice_set c.args.hands.items 0 c.walk.new.hand) c.scan_listed.result.1.items
    c.scan_listed.ensures.over
    (λ hand later over. over_walked {K = g.row.K.Denot} (rules g.W.Truth.version g.W.Truth.true_row g.W.Truth.told) g.T.Tree.told
    g.K.Keeper.told g.K.Keeper.shows g.T.Tree.shows c.args.hands.len c.in-Ok.field-0.listing
    (scope_of c.args.roots.now (g.P.Selection.takes c.walk.new.select)) hand later c.args.state
    c.scan_listed.result.0 c.scan_listed.result.2 over unwalked))

pub returns-in-Err-clause-idle : goal.returns-in-Err-clause-idle
returns-in-Err-clause-idle g c = λ unwalked. idle_unwalked c.args.hands.items c.walk.new.hand
