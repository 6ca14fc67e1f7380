-- A scan that ends at a file that was another, or at one that appeared.
use Rattle.std.proofs.Common.{◌≡◌, Bool, true, List, None, refl}
use Rattle.std.specs.List.{Contains}
use Rattle.std.proofs.lemmas.List.Elements.{All-contains}
use Rattle.path_scope.specs.Scope.{Scope, is_in_scope}
use Rattle.row_types.specs.Canon.{IsCanonPath}
use Rattle.row_types.specs.Name.{NameFacts, stamp_at}
use Rattle.scan_queue.specs.declared.miss.Cause.{Cause}
use Rattle.scan_queue.specs.declared.miss.Cause.TheVariants.{ReadFault, Altered, Appeared}
use Rattle.tree_trait.specs.Found.{Versions}
use Rattle.tree_trait.specs.Heard.{Heard, stat}
use Rattle.tree_trait.specs.Shown.{ShownTree}
use Rattle.tree_trait.specs.declared.stat.StatAnswer.TheVariants.{File}
use Rattle.tree_walk.specs.declared.walked.Walk.{Walk}
use Rattle.pass_runner.proofs.NameLists.{stamp_listed}
use Rattle.pass_runner.proofs.StillLemmas.{never_other, never_there}
use Rattle.pass_runner.specs.Owned.{HearsPass, TellsStill}
use Rattle.pass_runner.specs.Settled.{IsBacked, MayBeAsked}

-- whether a name was missed since a file is another by now
abbrev pub IsChange : Cause → Type 0
IsChange ReadFault = ⊥
IsChange (Altered met) = Unit {0}
IsChange Appeared = Unit {0}

-- a file that was found stands in the scope
pub was_inside : {told : Bool} {version : Versions} {scope : Scope} {names : List NameFacts} {walk : Walk} {walked more : List Heard}
    {before after : ShownTree} (name : NameFacts) → HearsPass told version scope names walk walked more before after
    → Contains more (stat name.path (File name.stamp)) → is_in_scope scope name.path ≡ true
was_inside {scope = scope} {names = names} {walk = walk} {more = more} name hears heard =
    All-contains (MayBeAsked walk.listing (is_in_scope scope) names) more (stat name.path (File name.stamp)) hears.wanted heard

-- where the hand tells files that never change, no listed file is another, and no file stands that isn't listed
pub never_changed : {told : Bool} {version : Versions} {scope : Scope} {names : List NameFacts} {walk : Walk}
    {walked more : List Heard} {before after : ShownTree} (Failed : Type 0) (name : NameFacts) (cause : Cause)
    → HearsPass told version scope names walk walked more before after → IsChange cause → IsCanonPath name.path
    → IsBacked walk.listing names more Failed name cause → (cause ≡ Appeared → stamp_at walk.listing name.path ≡ None)
    → TellsStill told before → ⊥
never_changed Failed name ReadFault hears change path why apart still = change
never_changed {walk = walk} Failed name (Altered met) hears change path why apart still =
    never_other hears.walks still name met (stamp_listed name walk.listing hears.walks.whole.listing.by_path why.listed)
    (record { answer = why.answer; heard = why.heard; other = why.other })
never_changed Failed name Appeared hears change path why apart still =
    never_there hears.walks still name
    (record {
      short = path.short;
      unlisted = apart refl;
      inside = was_inside name hears why.seen.heard;
    })
    why.seen.heard
