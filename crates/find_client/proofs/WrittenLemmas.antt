-- What is written of what a link answered.
use Rattle.std.proofs.Common.{◌≡◌, ℕ, ◌==◌, inl, inr, Bool, true, false, List, Option, Some, None, refl, sym, ap, ◌∙◌, subst, if◌then◌else◌}
use Rattle.file_formats.specs.Table.{IsSectionAnswer}
use Rattle.answer_check.specs.Passing.{GivesPassed, Passes}
use Rattle.answer_check.specs.declared.passed.Passed.{Passed}
use Rattle.answer_check.specs.declared.passed.Passed.TheVariants as passed
use Rattle.row_types.specs.declared.identity.Kind.{Kind}
use Rattle.federation.specs.AskAll.{AsksLinks}
use Rattle.federation.specs.Heard.{LinkHeard, LinkSaid, failed, memory, reply}
use Rattle.federation.specs.Link.{ShownLink}
use Rattle.federation.specs.Replies.{LastReplyPasses, ReplyGives, ReplyPasses, class_asked}
use Rattle.federation.specs.declared.asking.Upstream.{Upstream}
use Rattle.federation.specs.declared.asking.Upstream.TheVariants as links
use Rattle.http_wire.specs.Sink.{GetsAll}
use Rattle.http_wire.specs.Stream.{ShownStream}
use Rattle.webapi_routes.specs.declared.route.Route.{Route}
use Rattle.webapi_routes.specs.declared.route.Route.TheVariants.{Debuginfo, Executable, Source, Section, Metrics}
use Rattle.find_client.specs.Cache.{ShownCache}
use Rattle.find_client.specs.Carried.{CarriesRoute, ShowsGiven}
use Rattle.find_client.specs.Find.{EndsFetch, FollowsTold, WritesCertified, by_nobody, kept_end}
use Rattle.find_client.specs.declared.cache.CachePut.{CachePut}
use Rattle.find_client.specs.declared.cache.CachePut.TheVariants as put
use Rattle.find_client.specs.declared.searching.FindEnd.{FindEnd}
use Rattle.find_client.specs.declared.searching.FindEnd.TheVariants as end

-- what passes and is given is what the route asks for
carries : (route : Route) (class : Option Kind) (bytes body : List ℕ) (given : Passed) → Passes route class bytes
    → GivesPassed route class bytes given → ShowsGiven given body → CarriesRoute route body
carries (Debuginfo id) class bytes body (passed.File file) passes gives shows =
    subst (λ (b : List ℕ). CarriesRoute (Debuginfo id) b) (sym (shows ∙ ap (λ f. f.bytes) gives)) passes
carries (Debuginfo id) class bytes body (passed.Section section) passes gives shows = absurd gives
carries (Debuginfo id) class bytes body (passed.Source source) passes gives shows = absurd gives
carries (Executable id) class bytes body (passed.File file) passes gives shows =
    subst (λ (b : List ℕ). CarriesRoute (Executable id) b) (sym (shows ∙ ap (λ f. f.bytes) gives)) passes
carries (Executable id) class bytes body (passed.Section section) passes gives shows = absurd gives
carries (Executable id) class bytes body (passed.Source source) passes gives shows = absurd gives
carries (Section id name) (Some class) bytes body (passed.File file) passes gives shows = absurd gives
carries (Section id name) (Some class) bytes body (passed.Section section) passes gives shows = (
  bytes,
  record {
    class = class;
    certified = passes.0;
    section = subst (λ s. IsSectionAnswer s.file.bytes s.name (Some body)) gives shows;
  },
)
carries (Section id name) (Some class) bytes body (passed.Source source) passes gives shows = absurd gives
carries (Section id name) None bytes body given passes gives shows = absurd passes
carries (Source id path) class bytes body given passes gives shows = tt
carries Metrics class bytes body given passes gives shows = absurd passes

reply_carries : (route question : Route) (said : LinkSaid) (given : Passed) (body : List ℕ) → ReplyPasses route question said
    → ReplyGives route question said given → ShowsGiven given body → CarriesRoute route body
reply_carries route question (reply status bytes) given body passes gives shows =
    carries route (class_asked question) bytes body given passes.1 gives shows
reply_carries route question failed given body passes gives shows = absurd passes
reply_carries route question memory given body passes gives shows = absurd passes

last_carries : (route : Route) (all : List LinkHeard) (given : Passed) (body : List ℕ) → LastReplyPasses route all given
    → ShowsGiven given body → CarriesRoute route body
last_carries route all given body h shows = reply_carries route h.last.route h.last.said given body h.passes h.gives shows

-- the ends behind a file that was written whole
put_written : (route : Route) (o p : ShownStream) (body : List ℕ) (said : CachePut) → CarriesRoute route body → GetsAll body o p
    → WritesCertified route o p (kept_end said)
put_written route o p body put.Done is whole = record { body = body; carries = is; written = whole }
put_written route o p body put.Failed is whole = record { body = body; carries = is; written = whole }
put_written route o p body put.OutOfMemory is whole = inr (record { body = body; carries = is; written = whole })

-- the ends where nothing passed
unwritten_if : (route : Route) (o p : ShownStream) (b : Bool) → p ≡ o
    → WritesCertified route o p (if b then end.Nothing else end.LinkFault)
unwritten_if route o p true same = same
unwritten_if route o p false same = same

unwritten : (route : Route) (o p : ShownStream) (failing : Bool) (faults : ℕ) → p ≡ o → WritesCertified route o p (by_nobody failing faults)
unwritten route o p true faults same = same
unwritten route o p false faults same = unwritten_if route o p (faults == 0) same

told_written : (route : Route) (failing : Bool) (told : Upstream) (c d : ShownCache) (olds news : List ShownLink) (o p : ShownStream)
    (why : FindEnd) → AsksLinks olds route 0 news told → FollowsTold route failing told c o d p why → WritesCertified route o p why
told_written route failing (links.File file) c d olds news o p why asks (inl (whole, inl puts)) =
    subst (WritesCertified route o p) (sym puts.2)
    (put_written route o p file.bytes puts.0 (last_carries route _ (passed.File file) file.bytes asks.tells refl) whole)
told_written route failing (links.File file) c d olds news o p why asks (inl (whole, inr none)) =
    subst (WritesCertified route o p) (sym none.0)
    (put_written route o p file.bytes put.OutOfMemory (last_carries route _ (passed.File file) file.bytes asks.tells refl) whole)
told_written route failing (links.File file) c d olds news o p why asks (inr part) =
    subst (WritesCertified route o p) (sym part.1)
    (record { body = file.bytes; carries = last_carries route _ (passed.File file) file.bytes asks.tells refl; written = part.0 })
told_written route failing (links.Section section) c d olds news o p why asks (same, body, shows, inl whole) =
    subst (WritesCertified route o p) (sym whole.1)
    (record { body = body; carries = last_carries route _ (passed.Section section) body asks.tells shows; written = whole.0 })
told_written route failing (links.Section section) c d olds news o p why asks (same, body, shows, inr part) =
    subst (WritesCertified route o p) (sym part.1)
    (record { body = body; carries = last_carries route _ (passed.Section section) body asks.tells shows; written = part.0 })
told_written route failing (links.Source bytes) c d olds news o p why asks (same, inl whole) =
    subst (WritesCertified route o p) (sym whole.1)
    (record { body = bytes.items; carries = last_carries route _ (passed.Source bytes) bytes.items asks.tells refl; written = whole.0 })
told_written route failing (links.Source bytes) c d olds news o p why asks (same, inr part) =
    subst (WritesCertified route o p) (sym part.1)
    (record { body = bytes.items; carries = last_carries route _ (passed.Source bytes) bytes.items asks.tells refl; written = part.0 })
told_written route failing (links.Nobody refused faults) c d olds news o p why asks follows =
    subst (WritesCertified route o p) (sym follows.2) (unwritten route o p failing faults follows.1)
told_written route failing links.HopLimit c d olds news o p why asks follows = absurd follows
told_written route failing links.OutOfMemory c d olds news o p why asks follows =
    subst (WritesCertified route o p) (sym follows.2) (inl follows.1)

pub written_as : {c d : ShownCache} {olds news : List ShownLink} {o p : ShownStream} {route : Route} {failing : Bool} {why : FindEnd}
    → EndsFetch c olds o route failing d news p why → WritesCertified route o p why
written_as {c} {d} {olds} {news} {o} {p} {route} {failing} {why} h =
    told_written route failing h.told c d olds news o p why h.asks h.follows
