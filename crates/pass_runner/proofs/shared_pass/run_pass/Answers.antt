-- The first hand walks, and the pass over what was listed follows.
use Rattle.std.proofs.Common.{◌<◌, ℕ, Bool, List, [], inl, slice_set, refl, ◌∙◌, subst}
use Rattle.path_scope.specs.Scope.{scope_of}
use Rattle.row_types.specs.Rules.{rules}
use Rattle.index_lock.proofs.Later.{later_self}
use Rattle.tree_trait.proofs.HandLemmas.{hands_then}
use Rattle.pass_runner.specs.Leading.{LeadsPass}
use Rattle.pass_runner.proofs.FirstHand.{goes_never, idle_unwalked, unbegun_idle, walks_first}
use Rattle.pass_runner.proofs.PassHands.{first_goes, hands_none, hands_walked}
use Rattle.pass_runner.proofs.PassWalks.{helps_none}
use Rattle.pass_runner.proofs.SharedHands.{goes_both}
use Rattle.pass_runner.proofs.SharedWalks.{done_shared, done_unwalked, ends_shared, fault_failed, leads_walked}
use Rattle.pass_runner.proofs.shared_pass.run_pass.Goals as goal

pub returns-in-Ok-clause-pass : goal.returns-in-Ok-clause-pass
returns-in-Ok-clause-pass g c =
    walks_first _ _ _ c.args.hands.items c.pass_listed-desk.result.1.items c.index_mut.result.now c.walk.new.hand
    (subst (λ n. 0 < n) c.args.hands.ok.0 c.requires.hand) c.index_mut.ensures.value
    c.pass_listed-desk.ensures.over
    (λ later led. ends_shared (rules g.W.Truth.version g.W.Truth.true_row g.W.Truth.told) c.args.seat.seen
    c.pass_listed-desk.result.0.seat.seen c.in-Ok.ensures.walk (λ t. c.in-Ok.ensures.files t.0 t.1) c.walk.ensures.hands
    c.pass_listed-desk.result.2
    (subst (λ (takes : List ℕ → Bool). LeadsPass (rules g.W.Truth.version g.W.Truth.true_row g.W.Truth.told) g.T.Tree.told
    c.in-Ok.field-0.listing (scope_of c.args.roots.now takes) c.args.seat.seen c.pass_listed-desk.result.0.seat.seen
    (g.T.Tree.shows c.walk.new.hand) (g.T.Tree.shows later) c.pass_listed-desk.result.2) c.walk.ensures.same led))

pub returns-in-Ok-clause-hands : goal.returns-in-Ok-clause-hands
returns-in-Ok-clause-hands g c =
    walks_first _ _ _ c.args.hands.items c.pass_listed-desk.result.1.items c.index_mut.result.now c.walk.new.hand
    (subst (λ n. 0 < n) c.args.hands.ok.0 c.requires.hand) c.index_mut.ensures.value
    c.pass_listed-desk.ensures.hands
    (λ later on. hands_then c.walk.ensures.hands on (λ asked. inl asked) (λ f. f))

pub returns-in-Ok-clause-idle : goal.returns-in-Ok-clause-idle
returns-in-Ok-clause-idle g c = λ unbegun.
    unbegun_idle c.pass_listed-desk.result.2
    (λ unwalked. goes_never _ _ (slice_set c.args.hands.items 0 c.walk.new.hand) c.pass_listed-desk.result.1.items
    c.pass_listed-desk.ensures.over (λ hand later led.
    leads_walked (rules g.W.Truth.version g.W.Truth.true_row g.W.Truth.told) c.pass_listed-desk.result.2 led unwalked))
    (λ is. c.pass_listed-desk.ensures.idle is ∙ idle_unwalked c.args.hands.items c.walk.new.hand) unbegun

pub returns-in-Ok-clause-complete : goal.returns-in-Ok-clause-complete
returns-in-Ok-clause-complete g c =
    walks_first _ _ _ c.args.hands.items c.pass_listed-desk.result.1.items c.index_mut.result.now c.walk.new.hand
    (subst (λ n. 0 < n) c.args.hands.ok.0 c.requires.hand) c.index_mut.ensures.value
    (goes_both _ _ _ _ (slice_set c.args.hands.items 0 c.walk.new.hand) c.pass_listed-desk.result.1.items
    c.pass_listed-desk.ensures.over c.pass_listed-desk.ensures.hands)
    (λ later led. done_shared (rules g.W.Truth.version g.W.Truth.true_row g.W.Truth.told) c.args.seat.seen
    c.pass_listed-desk.result.0.seat.seen c.in-Ok.ensures.walk (λ t. c.in-Ok.ensures.files t.0 t.1) c.walk.ensures.hands
    c.pass_listed-desk.result.2
    (subst (λ (takes : List ℕ → Bool). LeadsPass (rules g.W.Truth.version g.W.Truth.true_row g.W.Truth.told) g.T.Tree.told
    c.in-Ok.field-0.listing (scope_of c.args.roots.now takes) c.args.seat.seen c.pass_listed-desk.result.0.seat.seen
    (g.T.Tree.shows c.walk.new.hand) (g.T.Tree.shows later) c.pass_listed-desk.result.2) c.walk.ensures.same led))

pub returns-in-Err-clause-later : goal.returns-in-Err-clause-later
returns-in-Err-clause-later g c = later_self c.args.seat

pub returns-in-Err-clause-pass : goal.returns-in-Err-clause-pass
returns-in-Err-clause-pass g c =
    first_goes _ _ c.args.hands.items c.index_mut.result.now c.walk.new.hand
    (subst (λ n. 0 < n) c.args.hands.ok.0 c.requires.hand) c.index_mut.ensures.value
    (record { stops = record { walks = c.in-Err.ensures.walk; fits = λ t. c.in-Err.ensures.refused t.0 t.1 }; same = refl })
    (helps_none g.T.Tree.shows g.T.Tree.told g.W.Truth.version [] [])

pub returns-in-Err-clause-hands : goal.returns-in-Err-clause-hands
returns-in-Err-clause-hands g c =
    first_goes _ _ c.args.hands.items c.index_mut.result.now c.walk.new.hand
    (subst (λ n. 0 < n) c.args.hands.ok.0 c.requires.hand) c.index_mut.ensures.value
    (hands_walked c.walk.result c.in-Err.fault c.in-Err.is c.walk.ensures.hands) (λ other. hands_none (λ never. never))

pub returns-in-Err-clause-idle : goal.returns-in-Err-clause-idle
returns-in-Err-clause-idle g c = λ unwalked. idle_unwalked c.args.hands.items c.walk.new.hand

pub returns-in-Err-clause-complete : goal.returns-in-Err-clause-complete
returns-in-Err-clause-complete g c =
    first_goes _ _ c.args.hands.items c.index_mut.result.now c.walk.new.hand
    (subst (λ n. 0 < n) c.args.hands.ok.0 c.requires.hand) c.index_mut.ensures.value
    (done_unwalked c.in-Err.fault (λ t. c.in-Err.ensures.refused t.0 t.1)
    (λ failed. (hands_walked c.walk.result c.in-Err.fault c.in-Err.is c.walk.ensures.hands).cause.rose (fault_failed c.in-Err.fault failed)))
    (λ other. hands_none (λ never. never))
