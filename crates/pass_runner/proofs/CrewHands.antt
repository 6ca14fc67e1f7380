-- The hands of a pass with which others help, one by one and together.
use Rattle.std.proofs.Common.{◌≡◌, ℕ, ◌+◌, ◌≤◌, ◌<◌, Bool, List, [], ◌∷◌, Option, Some, None, IsSome, All, length, drop, sym, ap, subst, arith}
use Rattle.std.specs.List.{AllZip, filter, sum_by}
use Rattle.std.proofs.lemmas.List.Elements.{All-head, All-tail}
use Rattle.std.proofs.lemmas.List.Sums.{sum_by-cons}
use Rattle.row_types.specs.Name.{NameFacts}
use Rattle.scan_queue.specs.Names.{is_in}
use Rattle.tree_trait.specs.Found.{Versions}
use Rattle.tree_trait.specs.Heard.{Heard, with_answers}
use Rattle.tree_trait.specs.Listens.{loads}
use Rattle.tree_trait.proofs.ListenLemmas.{loads_both}
use Rattle.tree_trait.specs.Shown.{HandsOn, ShownTree}
use Rattle.pass_runner.specs.Helped.{BeginsWithLook, HelpedFrom, CountsNoLook, loads_counted, hands_in}
use Rattle.pass_runner.specs.Owned.{HandsGo, HearLoads, Helps, loads_told}
use Rattle.pass_runner.specs.declared.helper.Helper.{Helper}
use Rattle.pass_runner.specs.declared.helper.Task.{Task}
use Rattle.pass_runner.specs.declared.helper.Task.TheVariants.{Look, Read}

-- a pair of hands of two lists of helpers
pub zip_hands : {T : Type 0} {R : Helper T → Helper T → Type 0} (Q : T → T → Type 0)
    → ((p q : Helper T) → R p q → Q p.hand q.hand) → (ps qs : List (Helper T)) → AllZip R ps qs
    → AllZip Q (hands_in ps) (hands_in qs)
zip_hands Q so [] [] zip = tt
zip_hands Q so [] (q ∷ qs) zip = absurd zip
zip_hands Q so (p ∷ ps) [] zip = absurd zip
zip_hands Q so (p ∷ ps) (q ∷ qs) zip = (so p q zip.0, zip_hands Q so ps qs zip.1)

zip_same : {T : Type 0} (Q : T → T → Type 0) → ((h : T) → Q h h) → (hands : List T) → AllZip Q hands hands
zip_same Q same [] = tt
zip_same Q same (h ∷ hs) = (same h, zip_same Q same hs)

-- no hand did anything
pub same_goes : {T : Type 0} (First Other : T → T → Type 0) (hands laters : List T) → laters ≡ hands → 0 < length hands
    → ((h : T) → First h h) → ((h : T) → Other h h) → HandsGo First Other hands laters
same_goes {T} First Other hands laters same some first other =
    subst (λ (ls : List T). HandsGo First Other hands ls) (sym same) (by hands some)
  where
    by : (hs : List T) → 0 < length hs → HandsGo First Other hs hs
    by [] none = absurd (omega (arith, none))
    by (h ∷ hs) none = (first h, zip_same Other other hs)

-- the hands of helpers that are the same
pub zip_places : {T : Type 0} (Q : T → T → Type 0) → ((h : T) → Q h h) → (ps qs : List (Helper T)) → qs ≡ ps
    → AllZip Q (hands_in ps) (hands_in qs)
zip_places {T} Q same ps qs e =
    subst (λ (zs : List (Helper T)). AllZip Q (hands_in ps) (hands_in zs)) (sym e) (zip_same Q same (hands_in ps))

-- the hands are those of the first one and of the helpers
pub goes_with : {T : Type 0} (First Other : T → T → Type 0) (hands laters : List T) (first later : T)
    (before after : List (Helper T)) → hands ≡ first ∷ hands_in before → laters ≡ later ∷ hands_in after → First first later
    → AllZip Other (hands_in before) (hands_in after) → HandsGo First Other hands laters
goes_with {T} First Other hands laters first later before after was is went others =
    subst (λ (hs : List T). HandsGo First Other hs laters) (sym was)
    (subst (λ (ls : List T). HandsGo First Other (first ∷ hands_in before) ls) (sym is) (went, others))

-- a hand that tells at the end told before, and heard so many loads more
told_more : (before after : Option (List Heard)) (more : List Heard) → after ≡ with_answers before more → IsSome after
    → loads_told before + loads more ≤ loads_told after
told_more None after more e some = absurd (cc)
told_more (Some heard) after more e some =
    let all = ap loads_told e in
    let both = loads_both heard more in
    omega (arith, all, both)

module _ {T : Type 0} (sees : T → ShownTree) (told : Bool) (version : Versions) (listing names : List NameFacts) where
  -- what each helper came to
  abbrev Came : Helper T → Helper T → Type 0
  Came = HelpedFrom sees told version (filter (is_in names) listing)

  pub helps_one : (p q : Helper T) → Came p q → Helps told version listing names (sees p.hand) (sees q.hand)
  helps_one p q h = record { more = h.0.more; listens = h.0.listens; spares = h.0.spares; parts = h.0.parts }

  pub hands_one : (p q : Helper T) → Came p q → HandsOn told version (sees p.hand) (sees q.hand) ⊥ ⊥
  hands_one p q h = h.0.listens.hand

  -- helpers whose hands tell heard as many loads as they count, or more
  loads_all : (ps qs : List (Helper T)) → AllZip Came ps qs → All (λ hand. IsSome (sees hand).heard) (hands_in qs)
      → sum_by (λ hand. loads_told (sees hand).heard) (hands_in ps) + sum_by loads_counted qs
      ≤ sum_by (λ hand. loads_told (sees hand).heard) (hands_in qs)
  loads_all [] [] zip all = omega arith
  loads_all [] (q ∷ qs) zip all = absurd zip
  loads_all (p ∷ ps) [] zip all = absurd zip
  loads_all (p ∷ ps) (q ∷ qs) zip all =
      let rest = loads_all ps qs zip.1 (All-tail (λ hand. IsSome (sees hand).heard) q.hand (hands_in qs) all) in
      let some = All-head (λ hand. IsSome (sees hand).heard) q.hand (hands_in qs) all in
      let one = told_more (sees p.hand).heard (sees q.hand).heard zip.0.0.more (zip.0.0.listens.heard.told some) some in
      let asked = zip.0.0.loaded in
      let a = sum_by-cons (λ hand. loads_told (sees hand).heard) p.hand (hands_in ps) in
      let b = sum_by-cons (λ hand. loads_told (sees hand).heard) q.hand (hands_in qs) in
      let c = sum_by-cons loads_counted q qs in
      omega (arith, rest, one, asked, a, b, c)

  none_by_look : (task was : Task) (asked : ℕ) → task ≡ was → was ≡ Look → CountsNoLook task asked → asked ≡ 0
  none_by_look Look was asked same look counted = counted
  none_by_look Read was asked same look counted = absurd (cc)

  -- the hands from the third on heard as many loads as all that help count, or more
  pub loads_beside : (first later : T) (asked : ℕ) (ps qs : List (Helper T)) → AllZip Came ps qs → BeginsWithLook ps
      → asked ≤ sum_by loads_counted qs → HearLoads sees asked (drop 2 (first ∷ hands_in ps)) (drop 2 (later ∷ hands_in qs))
  loads_beside first later asked [] [] zip look counts = λ all. omega (arith, counts)
  loads_beside first later asked [] (q ∷ qs) zip look counts = absurd zip
  loads_beside first later asked (p ∷ ps) [] zip look counts = absurd zip
  loads_beside first later asked (p ∷ ps) (q ∷ qs) zip look counts = λ all.
      let rest = loads_all ps qs zip.1 all in
      let none = none_by_look q.task p.task (loads_counted q) zip.0.1 look zip.0.2 in
      let c = sum_by-cons loads_counted q qs in
      omega (arith, rest, none, c, counts)
