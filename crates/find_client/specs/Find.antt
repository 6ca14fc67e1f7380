-- A search (this project's rule): the cache first, the links where nothing in it passes, and what passes is written and, where
-- it is a file of a link, kept.
use Rattle.std.specs.Prelude.{◌≡◌, ℕ, ◌≤◌, ◌==◌, ◌⊎◌, Bool, true, false, List, length, Some, if◌then◌else◌, All, map}
use Rattle.std.specs.List.{Contains, flat_map}
use Rattle.row_types.specs.Faults.{Rose}
use Rattle.http_wire.specs.Sink.{GetsAll, GetsPart}
use Rattle.http_wire.specs.Stream.{ShownStream}
use Rattle.http_wire.specs.Told.{Gains}
use Rattle.answer_check.specs.Passing.{Passes}
use Rattle.answer_check.specs.declared.passed.Passed.TheVariants as passed
use Rattle.federation.specs.AskAll.{AllAsked, AsksLinks, HearsEach, all_heard}
use Rattle.federation.specs.Heard.{LinkHeard}
use Rattle.federation.specs.Link.{NoLinkRose, ShownLink, SomeLinkRose}
use Rattle.federation.specs.Replies.{NoReplyPasses, class_asked, files_of, questions_of}
use Rattle.federation.specs.declared.asking.Upstream.{Upstream}
use Rattle.federation.specs.declared.asking.Upstream.TheVariants as links
use Rattle.find_client.specs.Cache.{NamedValue, LeavesContent, PutsInCache, ShownCache, value_at}
use Rattle.find_client.specs.Carried.{CarriesRoute, ShowsGiven}
use Rattle.find_client.specs.Looks.{FailsLook, Look, LooksFor, heard_of, name_of}
use Rattle.find_client.specs.declared.cache.CachePut.{CachePut}
use Rattle.find_client.specs.declared.cache.CachePut.TheVariants as put
use Rattle.find_client.specs.declared.cache.TheConstants.{VALUE_LIMIT}
use Rattle.find_client.specs.declared.look.LookEnd.{LookEnd}
use Rattle.find_client.specs.declared.look.LookEnd.TheVariants as look
use Rattle.find_client.specs.declared.searching.FindEnd.{FindEnd}
use Rattle.find_client.specs.declared.searching.FindEnd.TheVariants as end
use Rattle.webapi_routes.specs.declared.route.Route.{Route}
use Rattle.webapi_routes.specs.declared.route.Route.TheVariants.{Debuginfo, Executable, Metrics, Section, Source}

-- the end of a put behind a file that was written
abbrev pub kept_end : CachePut → FindEnd
kept_end put.Done = end.Fetched
kept_end put.Failed = end.NotKept
kept_end put.OutOfMemory = end.OutOfMemory

-- the end where nothing passed: by whether the cache couldn't be read, and how often a link failed
abbrev pub by_nobody : Bool → ℕ → FindEnd
by_nobody true faults = end.CacheFault
by_nobody false faults = if faults == 0 then end.Nothing else end.LinkFault

-- a file was kept under its name, or memory for the name was refused
abbrev pub KeepsFile : Route → List ℕ → ShownCache → ShownCache → FindEnd → Type 0
KeepsFile route bytes before after why =
    ((said : CachePut) × PutsInCache before (name_of route) bytes said after × (why ≡ kept_end said))
    ⊎ ((why ≡ end.OutOfMemory) × (after ≡ before))

-- bytes that passed were written whole, and then this holds; or a proper part of them was
abbrev pub WritesThen : List ℕ → ShownStream → ShownStream → FindEnd → Type 0 → Type 0 → Type 0
WritesThen bytes before after why Whole Stays =
    (GetsAll bytes before after × Whole) ⊎ (GetsPart bytes before after × (why ≡ end.WriteFault) × Stays)

-- what is done about what is told of the links
abbrev pub FollowsTold : Route → Bool → Upstream → ShownCache → ShownStream → ShownCache → ShownStream → FindEnd → Type 0
FollowsTold route failing (links.File file) c o d p why =
    WritesThen file.bytes o p why (KeepsFile route file.bytes c d why) (d ≡ c)
FollowsTold route failing (links.Section section) c o d p why =
    (d ≡ c) × (part : List ℕ) × ShowsGiven (passed.Section section) part × WritesThen part o p why (why ≡ end.Fetched) (Unit {0})
FollowsTold route failing (links.Source bytes) c o d p why = (d ≡ c) × WritesThen bytes.items o p why (why ≡ end.Fetched) (Unit {0})
FollowsTold route failing (links.Nobody refused faults) c o d p why = (d ≡ c) × (p ≡ o) × (why ≡ by_nobody failing faults)
FollowsTold route failing links.HopLimit c o d p why = ⊥
FollowsTold route failing links.OutOfMemory c o d p why = (d ≡ c) × (p ≡ o) × (why ≡ end.OutOfMemory)

-- the links were asked with hops 0, and this was done about it
pub record EndsFetch (c : ShownCache) (olds : List ShownLink) (o : ShownStream) (route : Route) (failing : Bool)
    (d : ShownCache) (news : List ShownLink) (p : ShownStream) (why : FindEnd) : Type 0 where
  pub told : Upstream
  pub asks : AsksLinks olds route 0 news told
  pub follows : FollowsTold route failing told c o d p why

-- what is done about what the cache gave: a link is asked only where nothing in it passes
abbrev pub FollowsLook : LookEnd → ShownCache → List ShownLink → ShownStream → Route → ShownCache → List ShownLink → ShownStream → FindEnd → Type 0
FollowsLook (look.Passed given) c olds o route d news p why =
    (d ≡ c) × (news ≡ olds) × (part : List ℕ) × ShowsGiven given part × WritesThen part o p why (why ≡ end.Cached) (Unit {0})
FollowsLook (look.Nothing failing) c olds o route d news p why = EndsFetch c olds o route failing d news p why
FollowsLook look.OutOfMemory c olds o route d news p why = (d ≡ c) × (news ≡ olds) × (p ≡ o) × (why ≡ end.OutOfMemory)

-- a search: the cache was looked at, and this was done about it
pub record Finds (c : ShownCache) (olds : List ShownLink) (o : ShownStream) (route : Route)
    (d : ShownCache) (news : List ShownLink) (p : ShownStream) (why : FindEnd) : Type 0 where
  pub gave : LookEnd
  pub between : ShownCache
  pub looks : LooksFor c route (files_of route) between gave
  pub follows : FollowsLook gave between olds o route d news p why

-- Certified bytes

-- what the route asks for was written whole
pub record WritesWhole (route : Route) (o p : ShownStream) : Type 0 where
  pub body : List ℕ
  pub carries : CarriesRoute route body
  pub written : GetsAll body o p

-- a proper part of it was
pub record WritesPart (route : Route) (o p : ShownStream) : Type 0 where
  pub body : List ℕ
  pub carries : CarriesRoute route body
  pub written : GetsPart body o p

-- nothing is written but what the route asks for: whole, unless the output failed; where memory was refused, nothing or the whole
abbrev pub WritesCertified : Route → ShownStream → ShownStream → FindEnd → Type 0
WritesCertified route o p end.Cached = WritesWhole route o p
WritesCertified route o p end.Fetched = WritesWhole route o p
WritesCertified route o p end.NotKept = WritesWhole route o p
WritesCertified route o p end.Nothing = p ≡ o
WritesCertified route o p end.CacheFault = p ≡ o
WritesCertified route o p end.LinkFault = p ≡ o
WritesCertified route o p end.WriteFault = WritesPart route o p
WritesCertified route o p end.OutOfMemory = (p ≡ o) ⊎ WritesWhole route o p

-- Causes

-- nothing passed: the cache was asked for each file in which the answer may be, each link was asked each question of the route
-- with hops 0, and none of the answers passes
pub record FindsNone (c : ShownCache) (olds : List ShownLink) (route : Route) (d : ShownCache) (news : List ShownLink) : Type 0 where
  pub looks : List Look
  pub files : map (λ l. l.file) looks ≡ files_of route
  pub asked : Gains c.asked (flat_map heard_of looks) d.asked
  pub looked : All (FailsLook route) looks
  pub parts : List (List LinkHeard)
  pub heard : HearsEach olds parts news
  pub all : AllAsked 0 (questions_of route) parts
  pub none : NoReplyPasses route (all_heard parts)

-- what an end says of the counts of faults, and of what passed: where the cache's answer was given no link was asked
abbrev pub HasEndCause : ShownCache → List ShownLink → ShownStream → Route → ShownCache → List ShownLink → ShownStream → FindEnd → Type 0
HasEndCause c olds o route d news p end.Cached = news ≡ olds
HasEndCause c olds o route d news p end.Fetched = Unit {0}
HasEndCause c olds o route d news p end.NotKept = Rose c.faults d.faults
HasEndCause c olds o route d news p end.Nothing = FindsNone c olds route d news × (d.faults ≡ c.faults) × NoLinkRose olds news
HasEndCause c olds o route d news p end.CacheFault = FindsNone c olds route d news × Rose c.faults d.faults
HasEndCause c olds o route d news p end.LinkFault = FindsNone c olds route d news × (d.faults ≡ c.faults) × SomeLinkRose olds news
HasEndCause c olds o route d news p end.WriteFault = Rose o.write_faults p.write_faults
HasEndCause c olds o route d news p end.OutOfMemory = Unit {0}

-- What the cache holds afterwards

-- the bytes that were written were put under this name, and this was answered
pub record PutsWritten (name : List ℕ) (said : CachePut) (c d : ShownCache) (o p : ShownStream) : Type 0 where
  pub bytes : List ℕ
  pub written : GetsAll bytes o p
  pub leaves : LeavesContent name bytes said c.content d.content

-- nothing was put, and no put failed
abbrev pub PutsNothing : CachePut → ShownCache → ShownCache → Type 0
PutsNothing put.Done c d = d.content ≡ c.content
PutsNothing _ c d = ⊥

-- a file that a link gave was put; a section or a source wasn't
abbrev pub PutsFetched : Route → CachePut → ShownCache → ShownCache → ShownStream → ShownStream → Type 0
PutsFetched (Debuginfo id) said c d o p = PutsWritten (name_of (Debuginfo id)) said c d o p
PutsFetched (Executable id) said c d o p = PutsWritten (name_of (Executable id)) said c d o p
PutsFetched (Section id name) said c d o p = PutsNothing said c d
PutsFetched (Source id path) said c d o p = PutsNothing said c d
PutsFetched Metrics said c d o p = ⊥

-- the cache holds what it held, but for a file that was fetched
abbrev pub KeepsFetched : Route → ShownCache → ShownCache → ShownStream → ShownStream → FindEnd → Type 0
KeepsFetched route c d o p end.Fetched = PutsFetched route put.Done c d o p
KeepsFetched route c d o p end.NotKept = PutsFetched route put.Failed c d o p
KeepsFetched route c d o p _ = d.content ≡ c.content

-- What is held is found

-- a value that is held passes for a route, under the name of one of its files
pub record HoldsPassing (values : List NamedValue) (route : Route) : Type 0 where
  pub file : Route
  pub among : Contains (files_of route) file
  pub bytes : List ℕ
  pub there : value_at (name_of file) values ≡ Some bytes
  pub small : length bytes ≤ VALUE_LIMIT
  pub passes : Passes route (class_asked file) bytes

-- a value that passes is found, unless memory is refused, the cache fails or the output fails
abbrev pub FindsHeld : ShownCache → Route → ShownCache → ShownStream → ShownStream → FindEnd → Type 0
FindsHeld c route d o p why =
    (values : List NamedValue) → c.content ≡ Some values → HoldsPassing values route
    → (why ≡ end.Cached) ⊎ (why ≡ end.OutOfMemory) ⊎ Rose c.faults d.faults ⊎ Rose o.write_faults p.write_faults
