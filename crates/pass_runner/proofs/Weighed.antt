-- A pass whose end was weighed against the loads that were counted.
use Rattle.std.proofs.Common.{◌≡◌, ℕ, ◌≤◌, inl, inr, Bool, false, List, ◌∷◌, length, sym, ◌∙◌, ap, subst, arith, IsTrue}
use Rattle.std.specs.Prelude.{◌⊎◌}
use Rattle.std.specs.List.{AllZip, filter, sum_by}
use Rattle.std.proofs.lemmas.Bool.{true≢false}
use Rattle.row_types.specs.Name.{NameFacts}
use Rattle.scan_queue.specs.Names.{is_in}
use Rattle.tree_trait.specs.Found.{Versions}
use Rattle.tree_trait.specs.Shown.{HandsOn, ShownTree}
use Rattle.pass_runner.specs.Beside.{IsWeighed, is_whole}
use Rattle.pass_runner.specs.Helped.{BeginsWithLook, HelpedFrom, loads_counted, hands_in}
use Rattle.pass_runner.specs.Owned.{Helps, LoadsBeside, is_hand_fault}
use Rattle.pass_runner.specs.declared.helper.Helper.{Helper}
use Rattle.pass_runner.specs.declared.pass_end.PassEnd.{PassEnd}
use Rattle.pass_runner.specs.declared.pass_end.PassEnd.TheVariants.{Whole, Missed, Walk, Broken}
use Rattle.pass_runner.specs.declared.pass_end.PassEnd.TheVariants.{KeeperFault, LogFull, OutOfMemory}
use Rattle.pass_runner.proofs.CrewHands.{hands_one, helps_one, loads_beside, zip_hands, zip_places}
use Rattle.pass_runner.proofs.PassHands.{hands_none}
use Rattle.pass_runner.proofs.PassWalks.{helps_none}

-- an end of this kind was one before it was weighed
pub weighed_fault : (end : PassEnd) (asked : ℕ) (many : Bool) (final : PassEnd) → IsWeighed end asked many final
    → IsTrue (is_hand_fault final) → IsTrue (is_hand_fault end)
weighed_fault end asked many (Missed miss) w f = subst (λ (e : PassEnd). IsTrue (is_hand_fault e)) (sym w) f
weighed_fault end asked many (Walk fault) w f = subst (λ (e : PassEnd). IsTrue (is_hand_fault e)) (sym w) f
weighed_fault end asked many (Whole summary) w f = absurd (true≢false (sym f))
weighed_fault end asked many Broken w f = absurd (true≢false (sym f))
weighed_fault end asked many KeeperFault w f = absurd (true≢false (sym f))
weighed_fault end asked many LogFull w f = absurd (true≢false (sym f))
weighed_fault end asked many OutOfMemory w f = absurd (true≢false (sym f))

pub weighed_keeper : (end : PassEnd) (asked : ℕ) (many : Bool) (final : PassEnd) → IsWeighed end asked many final
    → final ≡ KeeperFault → end ≡ KeeperFault
weighed_keeper end asked many KeeperFault w is = w
weighed_keeper end asked many (Missed miss) w is = absurd (cc)
weighed_keeper end asked many (Walk fault) w is = absurd (cc)
weighed_keeper end asked many (Whole summary) w is = absurd (cc)
weighed_keeper end asked many Broken w is = absurd (cc)
weighed_keeper end asked many LogFull w is = absurd (cc)
weighed_keeper end asked many OutOfMemory w is = absurd (cc)

module _ {T : Type 0} (sees : T → ShownTree) (told : Bool) (version : Versions) (listing names : List NameFacts)
    (before after : List (Helper T)) (end : PassEnd) where
  -- the helpers helped, or are as they were, and then the pass isn't whole
  abbrev Came : Type 0
  Came = AllZip (HelpedFrom sees told version (filter (is_in names) listing)) before after
      ⊎ ((after ≡ before) × (is_whole end ≡ false))

  pub came_helps : Came → AllZip (λ hand later. Helps told version listing names (sees hand) (sees later))
      (hands_in before) (hands_in after)
  came_helps (inl zip) =
      zip_hands (λ hand later. Helps told version listing names (sees hand) (sees later))
      (helps_one sees told version listing names) before after zip
  came_helps (inr same) =
      zip_places (λ hand later. Helps told version listing names (sees hand) (sees later))
      (helps_none sees told version listing names) before after same.0

  pub came_hands : Came → AllZip (λ hand later. HandsOn told version (sees hand) (sees later) ⊥ ⊥)
      (hands_in before) (hands_in after)
  came_hands (inl zip) =
      zip_hands (λ hand later. HandsOn told version (sees hand) (sees later) ⊥ ⊥)
      (hands_one sees told version listing names) before after zip
  came_hands (inr same) =
      zip_places (λ hand later. HandsOn told version (sees hand) (sees later) ⊥ ⊥)
      (λ hand. hands_none (λ never. never)) before after same.0

  -- the loads of a pass that came to be whole
  pub came_loads : (first later : T) (asked : ℕ) (many : Bool) (final : PassEnd) → Came → BeginsWithLook before
      → asked ≤ sum_by loads_counted after → (3 ≤ length (first ∷ hands_in before) → IsTrue many)
      → IsWeighed end asked many final
      → LoadsBeside sees (first ∷ hands_in before) (later ∷ hands_in after) final
  came_loads first later asked many (Whole summary) (inl zip) look counts three w = λ long told_all.
      let hear = loads_beside sees told version listing names first later asked before after zip look counts told_all in
      let enough = w.1 (three long) in
      omega (arith, hear, enough)
  came_loads first later asked many (Whole summary) (inr same) look counts three w =
      absurd (true≢false (sym (ap (λ (e : PassEnd). is_whole e) w.0) ∙ same.1))
  came_loads first later asked many (Missed miss) came look counts three w = tt
  came_loads first later asked many (Walk fault) came look counts three w = tt
  came_loads first later asked many Broken came look counts three w = tt
  came_loads first later asked many KeeperFault came look counts three w = tt
  came_loads first later asked many LogFull came look counts three w = tt
  came_loads first later asked many OutOfMemory came look counts three w = tt

  -- the hands are those of the first one and of the helpers
  pub loads_by : (hands laters : List T) (first later : T) (final : PassEnd) → hands ≡ first ∷ hands_in before
      → laters ≡ later ∷ hands_in after
      → LoadsBeside sees (first ∷ hands_in before) (later ∷ hands_in after) final → LoadsBeside sees hands laters final
  loads_by hands laters first later final was is heard =
      subst (λ (hs : List T). LoadsBeside sees hs laters final) (sym was)
      (subst (λ (ls : List T). LoadsBeside sees (first ∷ hands_in before) ls final) (sym is) heard)
