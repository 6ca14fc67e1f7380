-- What links heard, one request behind the other.
use Rattle.std.proofs.Common.{◌≡◌, ℕ, ◌+◌, ◌-◌, ◌^◌, ◌<◌, ◌≤◌, ◌⊎◌, inl, inr, List, [], ◌∷◌, ◌++◌, length, refl, sym, ◌∙◌, ap, subst, append_assoc, arith}
use Rattle.std.specs.Prelude.{min, count_by}
use Rattle.std.proofs.lemmas.Bool.{cases_lt}
use Rattle.std.proofs.lemmas.List.Sums.{sum_by-append}
use Rattle.webapi_routes.specs.declared.route.Route.{Route}
use Rattle.federation.specs.AskAll.{AsksLinks, HearsEach, HearsPart, all_heard}
use Rattle.federation.specs.Heard.{LinkHeard, link_failed}
use Rattle.federation.specs.Link.{ShownLink}
use Rattle.federation.specs.declared.asking.TheConstants.{HOP_LIMIT}
use Rattle.federation.specs.declared.asking.Upstream.{Upstream}
use Rattle.http_wire.proofs.CallLemmas.{gains_both}
use Rattle.conn_server.specs.Links.{AsksEachLink, LinksFailed, LinksHear, SomeIsFull, all_parts, both_parts}

-- Parts

pub both_none : (parts : List (List LinkHeard)) → both_parts parts [] ≡ parts
both_none [] = refl
both_none (part ∷ parts) = refl

both_assoc : (a b c : List (List LinkHeard)) → both_parts (both_parts a b) c ≡ both_parts a (both_parts b c)
both_assoc [] b c = refl
both_assoc (p ∷ a) [] c = refl
both_assoc (p ∷ a) (q ∷ b) [] = refl
both_assoc (p ∷ a) (q ∷ b) (r ∷ c) =
    ap (λ (l : List LinkHeard). l ∷ both_parts (both_parts a b) c) (append_assoc p q r)
    ∙ ap (λ (rest : List (List LinkHeard)). (p ++ (q ++ r)) ∷ rest) (both_assoc a b c)

-- the parts of these requests, and of one more
pub all_more : (all : List (List (List LinkHeard))) (one : List (List LinkHeard))
    → both_parts (all_parts all) one ≡ all_parts (all ++ one ∷ [])
all_more [] one = sym (both_none one)
all_more (parts ∷ all) one =
    both_assoc parts (all_parts all) one ∙ ap (λ (rest : List (List LinkHeard)). both_parts parts rest) (all_more all one)

-- What links hear

part_both : (a b c : ShownLink) (p q : List LinkHeard) → HearsPart a p b → HearsPart b q c → HearsPart a (p ++ q) c
part_both a b c p q one two =
    let early = one.later in
    let late = two.later in
    let first = one.rose in
    let second = two.rose in
    let fails : count_by link_failed (p ++ q) ≡ count_by link_failed p + count_by link_failed q = sum_by-append _ p q in
    record {
      hears = gains_both a.asked b.asked c.asked p q one.hears two.hears;
      later = omega (arith, early, late);
      rose = omega (arith, first, second, fails);
      stays = λ none. two.stays (omega (arith, fails, none)) ∙ one.stays (omega (arith, fails, none));
    }

hears_both : (a b c : List ShownLink) (ps qs : List (List LinkHeard)) → HearsEach a ps b → HearsEach b qs c
    → HearsEach a (both_parts ps qs) c
hears_both [] [] c [] qs one two = two
hears_both [] (m ∷ b) c ps qs one two = let e = one.1 in absurd (cc)
hears_both [] [] c (p ∷ ps) qs one two = let e = one.0 in absurd (cc)
hears_both (o ∷ a) b c [] qs one two = absurd one
hears_both (o ∷ a) [] c (p ∷ ps) qs one two = absurd one
hears_both (o ∷ a) (m ∷ b) c (p ∷ ps) [] one two = absurd two
hears_both (o ∷ a) (m ∷ b) [] (p ∷ ps) (q ∷ qs) one two = absurd two
hears_both (o ∷ a) (m ∷ b) (n ∷ c) (p ∷ ps) (q ∷ qs) one two =
    (part_both o m n p q one.0 two.0, hears_both a b c ps qs one.1 two.1)

-- nothing was to be asked
pub links_none : (links : List ShownLink) → LinksHear links [] links
links_none links = inr (refl, refl)

-- some was heard, and then more
pub links_then : (a b c : List ShownLink) (ps qs : List (List LinkHeard)) → LinksHear a ps b → LinksHear b qs c
    → LinksHear a (both_parts ps qs) c
links_then a b c ps qs (inl one) (inl two) = inl (hears_both a b c ps qs one two)
links_then a b c ps qs (inr none) two =
    subst (λ (parts : List (List LinkHeard)). LinksHear a (both_parts parts qs) c) (sym none.0)
    (subst (λ (links : List ShownLink). LinksHear links qs c) none.1 two)
links_then a b c ps qs (inl one) (inr none) =
    subst (λ (parts : List (List LinkHeard)). LinksHear a (both_parts ps parts) c) (sym none.0)
    (subst (λ (parts : List (List LinkHeard)). LinksHear a parts c) (sym (both_none ps))
    (subst (λ (links : List ShownLink). LinksHear a ps links) (sym none.1) (inl one)))

same_each : (a b : List ShownLink) (ps : List (List LinkHeard)) → HearsEach a ps b → length a ≡ length b
same_each [] b ps h = sym (ap (λ (links : List ShownLink). length links) h.1)
same_each (o ∷ a) b [] h = absurd h
same_each (o ∷ a) [] (p ∷ ps) h = absurd h
same_each (o ∷ a) (n ∷ b) (p ∷ ps) h = let rest = same_each a b ps h.1 in omega (arith, rest)

-- there are as many links as before
pub same_links : (a b : List ShownLink) (ps : List (List LinkHeard)) → LinksHear a ps b → length b ≡ length a
same_links a b ps (inl each) = sym (same_each a b ps each)
same_links a b ps (inr none) = ap (λ (links : List ShownLink). length links) none.1

parts_each : (a b : List ShownLink) (ps : List (List LinkHeard)) → HearsEach a ps b → length ps ≡ length a
parts_each [] b ps h = ap (λ (parts : List (List LinkHeard)). length parts) h.0
parts_each (o ∷ a) b [] h = absurd h
parts_each (o ∷ a) [] (p ∷ ps) h = absurd h
parts_each (o ∷ a) (n ∷ b) (p ∷ ps) h = let rest = parts_each a b ps h.1 in omega (arith, rest)

-- what links told of a route, with their parts alone
pub asks_each : (olds news : List ShownLink) (route : Route) (hops : ℕ) (told : Upstream)
    → (asks : AsksLinks olds route hops news told) → AsksEachLink (length olds) route hops asks.parts told
asks_each olds news route hops told asks = record {
  each = parts_each olds news asks.parts asks.hears;
  order = asks.order;
  tells = asks.tells;
  limit = λ other. by_limit (asks.limit other);
}
  where
    by_limit : (hops < HOP_LIMIT) ⊎ (olds ≡ []) → (hops < HOP_LIMIT) ⊎ (length olds ≡ 0)
    by_limit (inl below) = inl below
    by_limit (inr none) = inr (ap (λ (links : List ShownLink). length links) none)

-- Counts

-- the smaller of a number and the last value is reached
full_or : (x y : ℕ) → min x (2 ^ 64 - 1) ≤ y → (2 ^ 64 - 1 ≤ y) ⊎ (x ≤ y)
full_or x y least = by_order (cases_lt y x)
  where
    by_order : (y < x) ⊎ (x ≤ y) → (2 ^ 64 - 1 ≤ y) ⊎ (x ≤ y)
    by_order (inr within) = inr within
    by_order (inl below) = inl (omega (arith, least, below))

each_failed : (a b : List ShownLink) (ps : List (List LinkHeard)) → HearsEach a ps b
    → LinksFailed a (count_by link_failed (all_heard ps)) b
each_failed [] [] [] h = inr (omega arith)
each_failed [] (n ∷ b) ps h = let e = h.1 in absurd (cc)
each_failed [] [] (p ∷ ps) h = let e = h.0 in absurd (cc)
each_failed (o ∷ a) b [] h = absurd h
each_failed (o ∷ a) [] (p ∷ ps) h = absurd h
each_failed (o ∷ a) (n ∷ b) (p ∷ ps) h =
    by_both (full_or (o.faults + count_by link_failed p) n.faults h.0.rose) (each_failed a b ps h.1)
  where
    by_both : (2 ^ 64 - 1 ≤ n.faults) ⊎ (o.faults + count_by link_failed p ≤ n.faults)
        → LinksFailed a (count_by link_failed (all_heard ps)) b
        → LinksFailed (o ∷ a) (count_by link_failed (p ++ all_heard ps)) (n ∷ b)
    by_both (inl full) rest = inl (inl full)
    by_both (inr first) (inl some) = inl (inr some)
    by_both (inr first) (inr second) =
        let fails : count_by link_failed (p ++ all_heard ps) ≡ count_by link_failed p + count_by link_failed (all_heard ps) =
        sum_by-append _ p (all_heard ps) in
        inr (omega (arith, first, second, fails))

-- at most as many failures were heard as the counts rose
pub counts_rose : (a b : List ShownLink) (ps : List (List LinkHeard)) (n : ℕ) → LinksHear a ps b
    → n ≤ count_by link_failed (all_heard ps) → LinksFailed a n b
counts_rose a b ps n (inl each) most = by_each (each_failed a b ps each)
  where
    by_each : LinksFailed a (count_by link_failed (all_heard ps)) b → LinksFailed a n b
    by_each (inl some) = inl some
    by_each (inr rose) = inr (omega (arith, rose, most))
counts_rose a b ps n (inr none) most =
    let zero : n ≤ count_by link_failed (all_heard []) =
    subst (λ (parts : List (List LinkHeard)). n ≤ count_by link_failed (all_heard parts)) none.0 most in
    subst (λ (links : List ShownLink). LinksFailed a n links) (sym none.1) (inr (omega (arith, zero)))

full_each : (a b : List ShownLink) (ps : List (List LinkHeard)) → HearsEach a ps b → SomeIsFull a → SomeIsFull b
full_each [] b ps h some = absurd some
full_each (o ∷ a) b [] h some = absurd h
full_each (o ∷ a) [] (p ∷ ps) h some = absurd h
full_each (o ∷ a) (n ∷ b) (p ∷ ps) h (inl full) =
    let later = h.0.later in
    inl (omega (arith, full, later))
full_each (o ∷ a) (n ∷ b) (p ∷ ps) h (inr some) = inr (full_each a b ps h.1 some)

-- a count that stands at its last value stays there
full_later : (a b : List ShownLink) (ps : List (List LinkHeard)) → LinksHear a ps b → SomeIsFull a → SomeIsFull b
full_later a b ps (inl each) some = full_each a b ps each some
full_later a b ps (inr none) some = subst (λ (links : List ShownLink). SomeIsFull links) (sym none.1) some

-- some failures, and then more
pub failed_then : (a b c : List ShownLink) (ps : List (List LinkHeard)) (m n : ℕ) → LinksHear b ps c → LinksFailed a m b
    → LinksFailed b n c → LinksFailed a (m + n) c
failed_then a b c ps m n hears (inl some) two = inl (full_later b c ps hears some)
failed_then a b c ps m n hears (inr one) (inl some) = inl some
failed_then a b c ps m n hears (inr one) (inr two) = inr (omega (arith, one, two))

-- the same failures, and nothing that is said of later ones
pub failed_later : (a b c : List ShownLink) (ps : List (List LinkHeard)) (n : ℕ) → LinksHear b ps c → LinksFailed a n b
    → LinksFailed a n c
failed_later a b c ps n hears one =
    let none : 0 ≤ count_by link_failed (all_heard ps) = omega arith in
    let same : n + 0 ≡ n = omega arith in
    subst (λ (count : ℕ). LinksFailed a count c) same
    (failed_then a b c ps n 0 hears one (counts_rose b c ps 0 hears none))
