-- What a search comes to where nothing in the cache passed.
use Rattle.std.proofs.Common.{◌≡◌, ℕ, ◌≤◌, ◌==◌, ◌≢◌, ◌⊎◌, nat_le, inl, inr, Bool, true, false, List, [], ◌∷◌, length, Some, All, map, refl, sym, ap, ◌∙◌, subst, arith, if◌then◌else◌}
use Rattle.std.specs.List.{list_any}
use Rattle.std.proofs.lemmas.List.Elements.{All-cons, All-contains, All-head, All-nil, All-tail}
use Rattle.std.proofs.lemmas.Bool.{eqb-false, eqb-true, le-leb}
use Rattle.answer_check.specs.Passing.{Passes}
use Rattle.federation.specs.AskAll.{AsksLinks}
use Rattle.federation.specs.Link.{ShownLink}
use Rattle.federation.specs.Replies.{class_asked, files_of}
use Rattle.federation.specs.declared.asking.Upstream.{Upstream}
use Rattle.federation.specs.declared.asking.Upstream.TheVariants as links
use Rattle.federation.proofs.RoseLemmas.{nobody_rose, nobody_stays}
use Rattle.http_wire.specs.Stream.{ShownStream}
use Rattle.webapi_routes.specs.declared.route.Route.{Route}
use Rattle.find_client.specs.Cache.{CacheSaid, NamedValue, PutsInCache, SaysOf, ShownCache, told_of, absent, failed, held, memory, value_at}
use Rattle.find_client.specs.Find.{EndsFetch, FindsHeld, FindsNone, FollowsTold, HasEndCause, HoldsPassing, KeepsFile, by_nobody, kept_end}
use Rattle.find_client.specs.Looks.{FailsLook, Look, LookPasses, LooksFor, SaysLook, name_of, said_failed}
use Rattle.find_client.specs.declared.cache.CachePut.{CachePut}
use Rattle.find_client.specs.declared.cache.CachePut.TheVariants as put
use Rattle.find_client.specs.declared.cache.TheConstants.{VALUE_LIMIT}
use Rattle.find_client.specs.declared.look.LookEnd.TheVariants as look
use Rattle.find_client.specs.declared.searching.FindEnd.{FindEnd}
use Rattle.find_client.specs.declared.searching.FindEnd.TheVariants as end
use Rattle.find_client.proofs.LookLemmas.{later_rose, or_left_false, or_right_false, rose_later}

-- Causes

-- a put that failed raised the count
put_cause : (c m d : ShownCache) (olds news : List ShownLink) (o p : ShownStream) (route : Route) (name bytes : List ℕ) (said : CachePut)
    → c.faults ≤ m.faults → PutsInCache m name bytes said d → HasEndCause c olds o route d news p (kept_end said)
put_cause c m d olds news o p route name bytes put.Done later puts = tt
put_cause c m d olds news o p route name bytes put.Failed later puts =
    later_rose c.faults m.faults d.faults later (puts.cause.rose refl)
put_cause c m d olds news o p route name bytes put.OutOfMemory later puts = tt

-- nothing passed
finds_none : (c m : ShownCache) (olds news : List ShownLink) (route : Route) (failing : Bool) (refused faults : ℕ)
    → LooksFor c route (files_of route) m (look.Nothing failing) → AsksLinks olds route 0 news (links.Nobody refused faults)
    → FindsNone c olds route m news
finds_none c m olds news route failing refused faults looks asks = record {
  looks = looks.looks;
  files = looks.ends.0;
  asked = looks.hears;
  looked = looks.ends.1;
  parts = asks.parts;
  heard = asks.hears;
  all = asks.tells.0;
  none = asks.tells.1;
}

-- by whether no link failed
nobody_fine : (c m : ShownCache) (olds news : List ShownLink) (o : ShownStream) (route : Route) (refused faults : ℕ) (b : Bool)
    → LooksFor c route (files_of route) m (look.Nothing false) → AsksLinks olds route 0 news (links.Nobody refused faults)
    → (faults == 0) ≡ b → HasEndCause c olds o route m news o (if b then end.Nothing else end.LinkFault)
nobody_fine c m olds news o route refused faults true looks asks is = (
  finds_none c m olds news route false refused faults looks asks,
  looks.stays (sym looks.ends.2),
  nobody_stays olds news route 0 refused faults asks (eqb-true faults 0 is),
)
nobody_fine c m olds news o route refused faults false looks asks is =
    let some = eqb-false faults 0 is in (
      finds_none c m olds news route false refused faults looks asks,
      looks.stays (sym looks.ends.2),
      nobody_rose olds news route 0 refused faults asks (omega (arith, some)),
    )

nobody_cause : (c m : ShownCache) (olds news : List ShownLink) (o : ShownStream) (route : Route) (failing : Bool) (refused faults : ℕ)
    → LooksFor c route (files_of route) m (look.Nothing failing) → AsksLinks olds route 0 news (links.Nobody refused faults)
    → HasEndCause c olds o route m news o (by_nobody failing faults)
nobody_cause c m olds news o route true refused faults looks asks =
    (finds_none c m olds news route true refused faults looks asks, looks.rose (sym looks.ends.2))
nobody_cause c m olds news o route false refused faults looks asks =
    nobody_fine c m olds news o route refused faults (faults == 0) looks asks refl

told_cause : (c m d : ShownCache) (olds news : List ShownLink) (o p : ShownStream) (route : Route) (failing : Bool) (told : Upstream)
    (why : FindEnd) → LooksFor c route (files_of route) m (look.Nothing failing) → AsksLinks olds route 0 news told
    → FollowsTold route failing told m o d p why → HasEndCause c olds o route d news p why
told_cause c m d olds news o p route failing (links.File file) why looks asks (inl (whole, inl puts)) =
    subst (HasEndCause c olds o route d news p) (sym puts.2)
    (put_cause c m d olds news o p route (name_of route) file.bytes puts.0 looks.later puts.1)
told_cause c m d olds news o p route failing (links.File file) why looks asks (inl (whole, inr none)) =
    subst (HasEndCause c olds o route d news p) (sym none.0) tt
told_cause c m d olds news o p route failing (links.File file) why looks asks (inr part) =
    subst (HasEndCause c olds o route d news p) (sym part.1) part.0.rose
told_cause c m d olds news o p route failing (links.Section section) why looks asks (same, bytes, shows, inl whole) =
    subst (HasEndCause c olds o route d news p) (sym whole.1) tt
told_cause c m d olds news o p route failing (links.Section section) why looks asks (same, bytes, shows, inr part) =
    subst (HasEndCause c olds o route d news p) (sym part.1) part.0.rose
told_cause c m d olds news o p route failing (links.Source bytes) why looks asks (same, inl whole) =
    subst (HasEndCause c olds o route d news p) (sym whole.1) tt
told_cause c m d olds news o p route failing (links.Source bytes) why looks asks (same, inr part) =
    subst (HasEndCause c olds o route d news p) (sym part.1) part.0.rose
told_cause c m d olds news o p route failing (links.Nobody refused faults) why looks asks follows =
    subst (HasEndCause c olds o route d news p) (sym follows.2)
    (subst (λ (shown : ShownCache). HasEndCause c olds o route shown news p (by_nobody failing faults)) (sym follows.0)
    (subst (λ (stream : ShownStream). HasEndCause c olds o route m news stream (by_nobody failing faults)) (sym follows.1)
    (nobody_cause c m olds news o route failing refused faults looks asks)))
told_cause c m d olds news o p route failing links.HopLimit why looks asks follows = absurd follows
told_cause c m d olds news o p route failing links.OutOfMemory why looks asks follows =
    subst (HasEndCause c olds o route d news p) (sym follows.2) tt

pub cause_as : {c m d : ShownCache} {olds news : List ShownLink} {o p : ShownStream} {route : Route} {failing : Bool} {why : FindEnd}
    → LooksFor c route (files_of route) m (look.Nothing failing) → EndsFetch m olds o route failing d news p why
    → HasEndCause c olds o route d news p why
cause_as {c} {m} {d} {olds} {news} {o} {p} {route} {failing} {why} looks h =
    told_cause c m d olds news o p route failing h.told why looks h.asks h.follows

-- What is held

same_later : (c d : ShownCache) → d ≡ c → c.faults ≤ d.faults
same_later c d e = let same : d.faults ≡ c.faults = ap (λ x. x.faults) e in omega arith

-- the count of the cache goes on
keeps_later : (route : Route) (bytes : List ℕ) (c d : ShownCache) (why : FindEnd) → KeepsFile route bytes c d why → c.faults ≤ d.faults
keeps_later route bytes c d why (inl h) = h.1.cause.later
keeps_later route bytes c d why (inr h) = same_later c d h.1

fetch_later : (route : Route) (failing : Bool) (told : Upstream) (c d : ShownCache) (o p : ShownStream) (why : FindEnd)
    → FollowsTold route failing told c o d p why → c.faults ≤ d.faults
fetch_later route failing (links.File file) c d o p why (inl h) = keeps_later route file.bytes c d why h.1
fetch_later route failing (links.File file) c d o p why (inr h) = same_later c d h.2
fetch_later route failing (links.Section section) c d o p why h = same_later c d h.0
fetch_later route failing (links.Source bytes) c d o p why h = same_later c d h.0
fetch_later route failing (links.Nobody refused faults) c d o p why h = same_later c d h.0
fetch_later route failing links.HopLimit c d o p why h = absurd h
fetch_later route failing links.OutOfMemory c d o p why h = same_later c d h.0

told_small : (bytes : List ℕ) → length bytes ≤ VALUE_LIMIT → told_of (Some bytes) ≡ held bytes
told_small bytes small = let yes : nat_le (length bytes) VALUE_LIMIT ≡ true = le-leb (length bytes) VALUE_LIMIT small in rw yes

-- what is held and passes isn't passed over
not_said : (values : List NamedValue) (route file : Route) (bytes : List ℕ) (said : CacheSaid) → SaysOf (Some values) (name_of file) said
    → ¬ LookPasses route file said → said ≢ memory → said_failed said ≡ false → told_of (value_at (name_of file) values) ≡ held bytes
    → Passes route (class_asked file) bytes → ⊥
not_said values route file bytes (held other) says none some fine is passes =
    let same : held other ≡ held bytes = says ∙ is in
    let bytes_same : other ≡ bytes = cc in
    none (subst (λ (b : List ℕ). Passes route (class_asked file) b) (sym bytes_same) passes)
not_said values route file bytes absent says none some fine is passes = let no : absent ≡ held bytes = says ∙ is in cc
not_said values route file bytes failed says none some fine is passes = cc
not_said values route file bytes memory says none some fine is passes = some refl

not_looked : (values : List NamedValue) (route file : Route) (bytes : List ℕ) (looks : List Look) → All (SaysLook (Some values)) looks
    → All (FailsLook route) looks → list_any (λ (l : Look). said_failed l.said) looks ≡ false
    → told_of (value_at (name_of file) values) ≡ held bytes → Passes route (class_asked file) bytes
    → All (λ (f : Route). f ≡ file → ⊥) (map (λ (l : Look). l.file) looks)
not_looked values route file bytes [] says fails fine is passes = All-nil (λ (f : Route). f ≡ file → ⊥)
not_looked values route file bytes (l ∷ looks) says fails fine is passes =
    All-cons (λ (f : Route). f ≡ file → ⊥) l.file (map (λ (l : Look). l.file) looks)
    (λ (same : l.file ≡ file).
    let fail = All-head (FailsLook route) l looks fails in
    not_said values route file bytes l.said
    (subst (λ (f : Route). SaysOf (Some values) (name_of f) l.said) same (All-head (SaysLook (Some values)) l looks says))
    (subst (λ (f : Route). ¬ LookPasses route f l.said) same fail.0) fail.1
    (or_left_false (said_failed l.said) (list_any (λ (l : Look). said_failed l.said) looks) fine) is passes)
    (not_looked values route file bytes looks (All-tail (SaysLook (Some values)) l looks says) (All-tail (FailsLook route) l looks fails)
    (or_right_false (said_failed l.said) (list_any (λ (l : Look). said_failed l.said) looks) fine) is passes)

none_held : (values : List NamedValue) (route : Route) (looks : List Look) → All (SaysLook (Some values)) looks → All (FailsLook route) looks
    → map (λ (l : Look). l.file) looks ≡ files_of route → HoldsPassing values route
    → list_any (λ (l : Look). said_failed l.said) looks ≡ false → ⊥
none_held values route looks says fails are holds fine =
    let is : told_of (value_at (name_of holds.file) values) ≡ held holds.bytes = ap told_of holds.there ∙ told_small holds.bytes holds.small in
    All-contains (λ (f : Route). f ≡ holds.file → ⊥) (files_of route) holds.file
    (subst (All (λ (f : Route). f ≡ holds.file → ⊥)) are (not_looked values route holds.file holds.bytes looks says fails fine is holds.passes))
    holds.among refl

truth : (b : Bool) → (b ≡ true) ⊎ (b ≡ false)
truth true = inl refl
truth false = inr refl

pub held_as : {c m d : ShownCache} {olds news : List ShownLink} {o p : ShownStream} {route : Route} {failing : Bool} {why : FindEnd}
    → LooksFor c route (files_of route) m (look.Nothing failing) → EndsFetch m olds o route failing d news p why
    → FindsHeld c route d o p why
held_as {c} {m} {d} {olds} {news} {o} {p} {route} {failing} {why} looks h values is holds =
    elim (truth (list_any (λ (l : Look). said_failed l.said) looks.looks)) [
      | inl some ↦
          inr (inr (inl (rose_later c.faults m.faults d.faults (looks.rose some)
          (fetch_later route failing h.told m d o p why h.follows))))
      | inr fine ↦
          absurd (none_held values route looks.looks (subst (λ content. All (SaysLook content) looks.looks) is looks.says) looks.ends.1
          looks.ends.0 holds fine)
    ]
