-- Which counts of links rose.
use Rattle.std.proofs.Common.{◌≡◌, ℕ, suc, zero, ◌+◌, ◌≤◌, ◌⊎◌, inl, inr, List, [], ◌∷◌, ◌++◌, refl, subst, arith}
use Rattle.std.specs.Prelude.{count_by}
use Rattle.std.proofs.lemmas.List.Sums.{sum_by-append}
use Rattle.row_types.specs.Faults.{Rose, summed}
use Rattle.federation.specs.AskAll.{AsksLinks, HearsEach, all_heard, capped}
use Rattle.federation.specs.Heard.{LinkHeard, link_failed}
use Rattle.federation.specs.Link.{NoLinkRose, ShownLink, SomeLinkRose}
use Rattle.federation.specs.declared.asking.Upstream.TheVariants.{Nobody}
use Rattle.webapi_routes.specs.declared.route.Route.{Route}

none_or_some : (n : ℕ) → (n ≡ 0) ⊎ (1 ≤ n)
none_or_some zero = inl refl
none_or_some (suc n) = inr (omega arith)

rose_by : (a b n : ℕ) → summed a n ≤ b → 1 ≤ n → Rose a b
rose_by a b n h some = omega arith

-- a link whose answer failed has a count that rose
pub some_rose : (olds : List ShownLink) (parts : List (List LinkHeard)) (news : List ShownLink) → HearsEach olds parts news
    → 1 ≤ count_by link_failed (all_heard parts) → SomeLinkRose olds news
some_rose [] parts news h some =
    let none : 1 ≤ count_by link_failed (all_heard []) =
    subst (λ (x : List (List LinkHeard)). 1 ≤ count_by link_failed (all_heard x)) h.0 some in
    absurd (omega arith)
some_rose (o ∷ olds) [] news h some = absurd h
some_rose (o ∷ olds) (p ∷ parts) [] h some = absurd h
some_rose (o ∷ olds) (p ∷ parts) (n ∷ news) h some =
    let both : count_by link_failed (p ++ all_heard parts) ≡ count_by link_failed p + count_by link_failed (all_heard parts) =
    sum_by-append _ p (all_heard parts) in
    elim (none_or_some (count_by link_failed p)) [
      | inl none ↦ inr (some_rose olds parts news h.1 (omega (arith, some, both, none)))
      | inr more ↦ inl (rose_by o.faults n.faults (count_by link_failed p) h.0.rose more)
    ]

-- where no answer failed, no count rose
pub none_rose : (olds : List ShownLink) (parts : List (List LinkHeard)) (news : List ShownLink) → HearsEach olds parts news
    → count_by link_failed (all_heard parts) ≡ 0 → NoLinkRose olds news
none_rose [] parts news h none = h.1
none_rose (o ∷ olds) [] news h none = absurd h
none_rose (o ∷ olds) (p ∷ parts) [] h none = absurd h
none_rose (o ∷ olds) (p ∷ parts) (n ∷ news) h none =
    let both : count_by link_failed (p ++ all_heard parts) ≡ count_by link_failed p + count_by link_failed (all_heard parts) =
    sum_by-append _ p (all_heard parts) in
    (h.0.stays (omega (arith, both, none)), none_rose olds parts news h.1 (omega (arith, both, none)))

-- the same by the number that is told
pub nobody_rose : (olds news : List ShownLink) (route : Route) (hops refused failed : ℕ)
    → AsksLinks olds route hops news (Nobody refused failed) → 1 ≤ failed → SomeLinkRose olds news
nobody_rose olds news route hops refused failed asks some =
    let told : failed ≡ capped (count_by link_failed (all_heard asks.parts)) = asks.tells.3 in
    some_rose olds asks.parts news asks.hears (omega (arith, told, some))

pub nobody_stays : (olds news : List ShownLink) (route : Route) (hops refused failed : ℕ)
    → AsksLinks olds route hops news (Nobody refused failed) → failed ≡ 0 → NoLinkRose olds news
nobody_stays olds news route hops refused failed asks none =
    let told : failed ≡ capped (count_by link_failed (all_heard asks.parts)) = asks.tells.3 in
    none_rose olds asks.parts news asks.hears (omega (arith, told, none))
