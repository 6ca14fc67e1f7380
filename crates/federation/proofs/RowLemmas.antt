-- The links from one on.
use Rattle.std.proofs.Common.{◌≡◌, ◌≢◌, ℕ, ◌+◌, ◌<◌, ◌≤◌, ◌⊎◌, List, [], ◌∷◌, ◌++◌, length, All, map, inl, inr, refl, sym, ap, ◌∙◌, subst, arith, append_assoc}
use Rattle.std.specs.Prelude.{count_by}
use Rattle.std.proofs.lemmas.List.{append-nil}
use Rattle.std.proofs.lemmas.List.Elements.{All-append, All-cons, All-nil}
use Rattle.std.proofs.lemmas.List.Sums.{sum_by-append}
use Rattle.answer_check.specs.declared.passed.Passed.{Passed}
use Rattle.answer_check.specs.declared.passed.Passed.TheVariants as passed
use Rattle.federation.specs.AskAll.{AreQuestions, AsksLinks, HearsEach, all_heard}
use Rattle.federation.specs.Heard.{LinkHeard, link_failed, link_refused}
use Rattle.federation.specs.Link.{ShownLink}
use Rattle.federation.specs.Replies.{FailsToPass, LastReplyPasses, OnlyLastMayPass, questions_of}
use Rattle.federation.specs.Rows.{AsksOneLink, AsksRow, upstream_of_row, with_more}
use Rattle.federation.specs.declared.asking.Upstream.TheVariants.{HopLimit, Nobody}
use Rattle.federation.specs.declared.link_row.RowEnd.{RowEnd}
use Rattle.federation.specs.declared.link_row.RowEnd.TheVariants as row
use Rattle.federation.specs.declared.one_link.LinkEnd.TheVariants as link
use Rattle.http_wire.proofs.CallLemmas.{gains_nothing}
use Rattle.webapi_routes.specs.declared.route.Route.{Route}

-- the parts of links that aren't asked
abbrev quiet : List ShownLink → List (List LinkHeard)
quiet links = map (λ l. []) links

quiet_parts : (links : List ShownLink) → All (λ part. part ≡ []) (quiet links)
quiet_parts [] = All-nil (λ part. part ≡ [])
quiet_parts (l ∷ links) = All-cons (λ part. part ≡ []) [] (quiet links) refl (quiet_parts links)

quiet_all : (links : List ShownLink) → all_heard (quiet links) ≡ []
quiet_all [] = refl
quiet_all (l ∷ links) = quiet_all links

quiet_hears : (links : List ShownLink) → HearsEach links (quiet links) links
quiet_hears [] = (refl, refl)
quiet_hears (l ∷ links) = (
  record { hears = gains_nothing l.asked; later = omega arith; rose = omega arith; stays = λ _. refl },
  quiet_hears links,
)

-- no link
pub row_none : (route : Route) (hops : ℕ) → AsksRow [] route hops [] (row.Nobody 0 0)
row_none route hops = record {
  parts = [];
  hears = (refl, refl);
  order = tt;
  tells = (All-nil (AreQuestions hops (questions_of route)), All-nil (FailsToPass route), refl, refl);
}

-- the first link passed
pub row_passed : (o n : ShownLink) (links : List ShownLink) (route : Route) (hops : ℕ) (given : Passed)
    → AsksOneLink o route hops n (link.Passed given) → AsksRow (o ∷ links) route hops (n ∷ links) (row.Passed given)
row_passed o n links route hops given asks = record {
  parts = asks.heard ∷ quiet links;
  hears = (asks.part, quiet_hears links);
  order = inr (asks.tells.0, quiet_parts links);
  tells = subst (λ all. LastReplyPasses route all given)
      (sym (append-nil asks.heard) ∙ ap (λ t. asks.heard ++ t) (sym (quiet_all links))) asks.tells.1;
}

-- memory was refused at the first link
pub row_memory : (o n : ShownLink) (links : List ShownLink) (route : Route) (hops : ℕ)
    → AsksOneLink o route hops n link.OutOfMemory → AsksRow (o ∷ links) route hops (n ∷ links) row.OutOfMemory
row_memory o n links route hops asks = record {
  parts = asks.heard ∷ quiet links;
  hears = (asks.part, quiet_hears links);
  order = inr (asks.tells.0, quiet_parts links);
  tells = subst (OnlyLastMayPass route)
      (sym (append-nil asks.heard) ∙ ap (λ t. asks.heard ++ t) (sym (quiet_all links))) asks.tells.1;
}

-- the first link had nothing
pub row_more : (o n : ShownLink) (olds news : List ShownLink) (route : Route) (hops refused failed : ℕ) (told : RowEnd)
    → AsksOneLink o route hops n (link.Nothing refused failed) → AsksRow olds route hops news told
    → AsksRow (o ∷ olds) route hops (n ∷ news) (with_more told refused failed)
row_more o n olds news route hops refused failed (row.Passed given) asks rest = record {
  parts = asks.heard ∷ rest.parts;
  hears = (asks.part, rest.hears);
  order = inl (asks.tells.0, rest.order);
  tells = record {
    before = asks.heard ++ rest.tells.before;
    last = rest.tells.last;
    all = ap (λ t. asks.heard ++ t) rest.tells.all ∙ sym (append_assoc asks.heard rest.tells.before (rest.tells.last ∷ []));
    none = All-append (FailsToPass route) asks.heard rest.tells.before asks.tells.1 rest.tells.none;
    passes = rest.tells.passes;
    gives = rest.tells.gives;
  };
}
row_more o n olds news route hops refused failed (row.Nobody r f) asks rest =
    let fails : count_by link_failed (asks.heard ++ all_heard rest.parts)
    ≡ count_by link_failed asks.heard + count_by link_failed (all_heard rest.parts) =
    sum_by-append _ asks.heard (all_heard rest.parts) in
    let refuses : count_by link_refused (asks.heard ++ all_heard rest.parts)
    ≡ count_by link_refused asks.heard + count_by link_refused (all_heard rest.parts) =
    sum_by-append _ asks.heard (all_heard rest.parts) in
    let a = asks.tells.2 in
    let b = asks.tells.3 in
    let c = rest.tells.2 in
    let d = rest.tells.3 in
    record {
      parts = asks.heard ∷ rest.parts;
      hears = (asks.part, rest.hears);
      order = inl (asks.tells.0, rest.order);
      tells = (
        All-cons (AreQuestions hops (questions_of route)) asks.heard rest.parts asks.tells.0 rest.tells.0,
        All-append (FailsToPass route) asks.heard (all_heard rest.parts) asks.tells.1 rest.tells.1,
        omega arith,
        omega arith,
      );
    }
row_more o n olds news route hops refused failed row.OutOfMemory asks rest = record {
  parts = asks.heard ∷ rest.parts;
  hears = (asks.part, rest.hears);
  order = inl (asks.tells.0, rest.order);
  tells = record {
    before = asks.heard ++ rest.tells.before;
    rest = rest.tells.rest;
    all = ap (λ t. asks.heard ++ t) rest.tells.all ∙ sym (append_assoc asks.heard rest.tells.before rest.tells.rest);
    few = rest.tells.few;
    none = All-append (FailsToPass route) asks.heard rest.tells.before asks.tells.1 rest.tells.none;
  };
}

-- at the hop limit no link is asked
hop_limit : (links : List ShownLink) (route : Route) (hops : ℕ) → links ≢ [] → 8 ≤ hops → AsksLinks links route hops links HopLimit
hop_limit [] route hops some many = absurd (some refl)
hop_limit (l ∷ links) route hops some many = record {
  parts = quiet (l ∷ links);
  hears = quiet_hears (l ∷ links);
  order = inr (tt, quiet_parts links);
  tells = (many, (λ is. cc), quiet_parts (l ∷ links));
  limit = λ other. absurd (other refl);
}

pub hop_limit_of : {X : Type 0} (f : X → ShownLink) (links : List X) (route : Route) (hops : ℕ) → 0 < length links → 8 ≤ hops
    → AsksLinks (map f links) route hops (map f links) HopLimit
hop_limit_of f [] route hops some many = let no : ⊥ = omega (arith, some) in absurd no
hop_limit_of f (l ∷ links) route hops some many = hop_limit (f l ∷ map f links) route hops (λ is. cc) many

-- and without a link none is
pub no_links : {X : Type 0} (f : X → ShownLink) (links : List X) (route : Route) (hops : ℕ) → length links ≤ 0
    → AsksLinks (map f links) route hops (map f links) (Nobody 0 0)
no_links f [] route hops none = record {
  parts = [];
  hears = (refl, refl);
  order = tt;
  tells = (All-nil (AreQuestions hops (questions_of route)), All-nil (FailsToPass route), refl, refl);
  limit = λ _. inr refl;
}
no_links f (l ∷ links) route hops none = let no : ⊥ = omega (arith, none) in absurd no

-- below it they are asked
pub all_asked : (olds news : List ShownLink) (route : Route) (hops : ℕ) (told : RowEnd) → AsksRow olds route hops news told
    → (hops < 8) ⊎ (olds ≡ []) → AsksLinks olds route hops news (upstream_of_row told)
all_asked olds news route hops (row.Passed (passed.File file)) asks may = record {
  parts = asks.parts;
  hears = asks.hears;
  order = asks.order;
  tells = asks.tells;
  limit = λ _. may;
}
all_asked olds news route hops (row.Passed (passed.Section section)) asks may = record {
  parts = asks.parts;
  hears = asks.hears;
  order = asks.order;
  tells = asks.tells;
  limit = λ _. may;
}
all_asked olds news route hops (row.Passed (passed.Source bytes)) asks may = record {
  parts = asks.parts;
  hears = asks.hears;
  order = asks.order;
  tells = asks.tells;
  limit = λ _. may;
}
all_asked olds news route hops (row.Nobody refused failed) asks may = record {
  parts = asks.parts;
  hears = asks.hears;
  order = asks.order;
  tells = asks.tells;
  limit = λ _. may;
}
all_asked olds news route hops row.OutOfMemory asks may = record {
  parts = asks.parts;
  hears = asks.hears;
  order = asks.order;
  tells = asks.tells;
  limit = λ _. may;
}
