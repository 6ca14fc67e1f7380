-- The first hand walks before the pass over the listing.
use Rattle.std.proofs.Common.{◌≡◌, ◌+◌, ◌≤◌, ◌<◌, List, [], ◌∷◌, length, drop, slice_index_or, slice_set, refl, sym, subst, arith, IsTrue}
use Rattle.std.proofs.lemmas.Bool.{true≢false}
use Rattle.tree_trait.specs.Shown.{ShownTree}
use Rattle.pass_runner.specs.Owned.{HandsGo, HearLoads, LoadsBeside, is_unbegun, is_unwalked}
use Rattle.pass_runner.specs.declared.pass_end.PassEnd.{PassEnd}
use Rattle.pass_runner.specs.declared.pass_end.PassEnd.TheVariants.{Whole, Missed, Walk, Broken}
use Rattle.pass_runner.specs.declared.pass_end.PassEnd.TheVariants.{KeeperFault, LogFull, OutOfMemory}

-- what the first hand did before, and then
pub walks_first : {T : Type 0} (Then First Other : T → T → Type 0) (hands laters : List T) (hand met : T)
    → 0 < length hands → hand ≡ slice_index_or hands 0 hand → HandsGo Then Other (slice_set hands 0 met) laters
    → ((later : T) → Then met later → First hand later) → HandsGo First Other hands laters
walks_first Then First Other [] laters hand met some is goes so = absurd (omega (arith, some))
walks_first Then First Other (h ∷ hs) [] hand met some is goes so = absurd goes
walks_first {T} Then First Other (h ∷ hs) (later ∷ left) hand met some is goes so =
    (subst (λ (x : T). First x later) is (so later goes.0), goes.1)

-- the hands from the third on are the same, whatever the first one did before
pub loads_past_first : {T : Type 0} (sees : T → ShownTree) (hands laters : List T) (met : T) (end : PassEnd)
    → LoadsBeside sees (slice_set hands 0 met) laters end → LoadsBeside sees hands laters end
loads_past_first sees hands laters met (Whole summary) loads = by hands loads
  where
    by : (hs : List _) → (3 ≤ length (slice_set hs 0 met)
        → HearLoads sees (summary.added + summary.replaced) (drop 2 (slice_set hs 0 met)) (drop 2 laters))
        → 3 ≤ length hs → HearLoads sees (summary.added + summary.replaced) (drop 2 hs) (drop 2 laters)
    by [] h three = absurd (omega (arith, three))
    by (x ∷ xs) h three = h three
loads_past_first sees hands laters met (Missed miss) loads = tt
loads_past_first sees hands laters met (Walk fault) loads = tt
loads_past_first sees hands laters met Broken loads = tt
loads_past_first sees hands laters met KeeperFault loads = tt
loads_past_first sees hands laters met LogFull loads = tt
loads_past_first sees hands laters met OutOfMemory loads = tt

-- with one hand no other is to have heard anything
pub loads_alone : {T : Type 0} (sees : T → ShownTree) (hands laters : List T) (end : PassEnd) → length hands ≤ 1
    → LoadsBeside sees hands laters end
loads_alone sees hands laters (Whole summary) one = λ three. absurd (omega (arith, one, three))
loads_alone sees hands laters (Missed miss) one = tt
loads_alone sees hands laters (Walk fault) one = tt
loads_alone sees hands laters Broken one = tt
loads_alone sees hands laters KeeperFault one = tt
loads_alone sees hands laters LogFull one = tt
loads_alone sees hands laters OutOfMemory one = tt

-- the hands behind the first one are as they were
pub idle_unwalked : {T : Type 0} (hands : List T) (met : T) → drop 1 (slice_set hands 0 met) ≡ drop 1 hands
idle_unwalked [] met = refl
idle_unwalked (x ∷ xs) met = refl

-- where no pass began, one that is known not to end as a walk does was broken already
pub unbegun_idle : {Idle : Type 0} (end : PassEnd) → (IsTrue (is_unwalked end) → ⊥) → (end ≡ Broken → Idle) → IsTrue (is_unbegun end) → Idle
unbegun_idle (Walk fault) walked broken is = absurd (walked refl)
unbegun_idle Broken walked broken is = broken refl
unbegun_idle (Whole summary) walked broken is = absurd (true≢false (sym is))
unbegun_idle (Missed miss) walked broken is = absurd (true≢false (sym is))
unbegun_idle KeeperFault walked broken is = absurd (true≢false (sym is))
unbegun_idle LogFull walked broken is = absurd (true≢false (sym is))
unbegun_idle OutOfMemory walked broken is = absurd (true≢false (sym is))

-- what no first hand can do was not done
pub goes_never : {T : Type 0} (First Other : T → T → Type 0) (hands laters : List T)
    → HandsGo First Other hands laters → ((hand later : T) → First hand later → ⊥) → ⊥
goes_never First Other [] laters goes never = goes
goes_never First Other (h ∷ hs) [] goes never = goes
goes_never First Other (h ∷ hs) (l ∷ ls) goes never = never h l goes.0
