-- The command `find` (this project's rule): what the cache and the first row of links give for a route is written, and how that
-- ended is said.
use Rattle.std.specs.Prelude.{◌≡◌, ◌⊎◌, List, [], ◌∷◌, codes, drop}
use Rattle.row_types.specs.Faults.{Rose}
use Rattle.http_wire.specs.Stream.{ShownStream}
use Rattle.federation.specs.Link.{NoLinkRose, ShownLink, SomeLinkRose}
use Rattle.find_client.specs.Cache.{ShownCache}
use Rattle.find_client.specs.Find.{Finds, FindsHeld, FindsNone, HasEndCause, KeepsFetched, WritesCertified, WritesWhole}
use Rattle.find_client.specs.declared.searching.FindEnd.{FindEnd}
use Rattle.find_client.specs.declared.searching.FindEnd.TheVariants as end
use Rattle.webapi_routes.specs.declared.route.Route.{Route}
use Rattle.dbgd_commands.specs.Endings.{Gets, Saying, error_saying, fault_saying, no_memory_saying, out_saying}
use Rattle.dbgd_commands.specs.Stage.{ProgramStage}
use Rattle.dbgd_commands.specs.declared.status.Status.{Status}
use Rattle.dbgd_commands.specs.declared.status.Status.TheVariants.{Done, Fault, Absent, OutOfMemory}

-- the links of a search: the first row
abbrev pub first_row : List (List ShownLink) → List ShownLink
first_row [] = []
first_row (row ∷ rows) = row

-- a search for a route over a cache, the first of the rows of links and an output, all that is promised of it; the other rows are
-- as they were
pub record FindsFirst (route : Route) (c : ShownCache) (rows : List (List ShownLink)) (o : ShownStream)
    (d : ShownCache) (later : List (List ShownLink)) (p : ShownStream) (how : FindEnd) : Type 0 where
  pub finds : Finds c (first_row rows) o route d (first_row later) p how
  pub certified : WritesCertified route o p how
  pub cause : HasEndCause c (first_row rows) o route d (first_row later) p how
  pub kept : KeepsFetched route c d o p how
  pub held : FindsHeld c route d o p how
  pub others : drop 1 later ≡ drop 1 rows

-- what is said of the end of a search, behind the bytes that were written
abbrev pub found_saying : FindEnd → Saying
found_saying end.Cached = out_saying [] Done
found_saying end.Fetched = out_saying [] Done
found_saying end.NotKept = fault_saying (codes "cache")
found_saying end.Nothing = error_saying (codes "dbgd: nothing found") Absent
found_saying end.CacheFault = fault_saying (codes "cache")
found_saying end.LinkFault = fault_saying (codes "upstream")
found_saying end.WriteFault = fault_saying (codes "output")
found_saying end.OutOfMemory = no_memory_saying

-- that was said on the standard error, and it gives the status
pub record SaysFound (how : FindEnd) (old new : ShownStream) (status : Status) : Type 0 where
  pub ends : status ≡ (found_saying how).status
  pub err : Gets (found_saying how).err old new

-- what a search does: no hand, no store, no door and no wait was asked for
pub record RunsFind {T : Type 0} (route : Route) (before after : ProgramStage T) (status : Status) : Type 0 where
  pub how : FindEnd
  pub found :
      FindsFirst route before.cache before.links before.command.streams.out
      after.cache after.links after.command.streams.out how
  pub said : SaysFound how before.command.streams.err after.command.streams.err status
  pub hands : after.command.hands ≡ before.command.hands
  pub store : after.command.store ≡ before.command.store
  pub doors : after.doors ≡ before.doors
  pub woke : after.woke ≡ before.woke

-- nothing passed, and nothing failed
pub record IsNowhere (route : Route) (c : ShownCache) (olds : List ShownLink) (d : ShownCache) (news : List ShownLink)
    : Type 0 where
  pub none : FindsNone c olds route d news
  pub cache : d.faults ≡ c.faults
  pub links : NoLinkRose olds news

-- the count of the cache, of a link or of the standard output rose
abbrev pub SomeFindRose : {T : Type 0} → ProgramStage T → ProgramStage T → Type 0
SomeFindRose before after =
    Rose before.cache.faults after.cache.faults
    ⊎ (SomeLinkRose (first_row before.links) (first_row after.links)
    ⊎ Rose before.command.streams.out.write_faults after.command.streams.out.write_faults)

-- what the status of a search says
abbrev pub FindStatus : {T : Type 0} → Route → ProgramStage T → ProgramStage T → Status → Type 0
FindStatus route before after Done = WritesWhole route before.command.streams.out after.command.streams.out
FindStatus route before after Fault = SomeFindRose before after
FindStatus route before after Absent =
    IsNowhere route before.cache (first_row before.links) after.cache (first_row after.links)
FindStatus route before after OutOfMemory = Unit {0}
FindStatus route before after _ = ⊥
