-- The hands of a pass over a shared index.
use Rattle.std.proofs.Common.{◌≡◌, inl, inr, Bool, List, [], ◌∷◌}
use Rattle.std.specs.Prelude.{◌⊎◌}
use Rattle.std.specs.List.{AllZip}
use Rattle.tree_trait.specs.Found.{Versions}
use Rattle.tree_trait.specs.Shown.{HandsOn, ShownTree}
use Rattle.pass_runner.specs.Helped.{HelpedFrom, hands_in}
use Rattle.pass_runner.specs.Owned.{HandsGo, Helps}
use Rattle.pass_runner.specs.declared.helper.Helper.{Helper}
use Rattle.pass_runner.proofs.CrewHands.{hands_one, helps_one, zip_hands, zip_places}
use Rattle.pass_runner.proofs.PassHands.{hands_none}
use Rattle.pass_runner.proofs.PassWalks.{helps_none}

module _ {T : Type 0} (sees : T → ShownTree) (told : Bool) (version : Versions) (before after : List (Helper T)) where
  -- the helpers helped while no name was skipped, or are as they were
  abbrev Came : Type 0
  Came = AllZip (HelpedFrom sees told version []) before after ⊎ (after ≡ before)

  pub aided_helps : Came → AllZip (λ hand later. Helps told version [] [] (sees hand) (sees later))
      (hands_in before) (hands_in after)
  aided_helps (inl zip) =
      zip_hands (λ hand later. Helps told version [] [] (sees hand) (sees later))
      (helps_one sees told version [] []) before after zip
  aided_helps (inr same) =
      zip_places (λ hand later. Helps told version [] [] (sees hand) (sees later))
      (helps_none sees told version [] []) before after same

  pub aided_hands : Came → AllZip (λ hand later. HandsOn told version (sees hand) (sees later) ⊥ ⊥)
      (hands_in before) (hands_in after)
  aided_hands (inl zip) =
      zip_hands (λ hand later. HandsOn told version (sees hand) (sees later) ⊥ ⊥)
      (hands_one sees told version [] []) before after zip
  aided_hands (inr same) =
      zip_places (λ hand later. HandsOn told version (sees hand) (sees later) ⊥ ⊥)
      (λ hand. hands_none (λ never. never)) before after same

-- the first hand by one fact of the hands, and the others by another
pub goes_both : {T : Type 0} (One Two Other Another : T → T → Type 0) (hands laters : List T)
    → HandsGo One Another hands laters → HandsGo Two Other hands laters → HandsGo One Other hands laters
goes_both One Two Other Another [] laters one two = absurd one
goes_both One Two Other Another (h ∷ hs) [] one two = absurd one
goes_both One Two Other Another (h ∷ hs) (l ∷ ls) one two = (one.0, two.1)
