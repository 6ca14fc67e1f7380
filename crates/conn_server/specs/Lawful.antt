-- The lawful reply (this project's rule): a case of the table, told and spelled so. Below it stands what follows of every case.
use Rattle.std.specs.Prelude.{◌≡◌, ℕ, Bool, true, List, [], length, Option, Some, None, if◌then◌else◌}
use Rattle.answer_check.specs.Certified.{IsCertified}
use Rattle.index_rows.specs.declared.change.Change.{Change}
use Rattle.row_types.specs.declared.identity.Kind.{Kind}
use Rattle.row_types.specs.declared.identity.Kind.TheVariants as kind
use Rattle.tree_trait.specs.Found.{Versions}
use Rattle.tree_trait.specs.Heard.{Heard}
use Rattle.webapi_routes.specs.declared.route.Route.TheVariants as route
use Rattle.file_formats.specs.Table.{IsSectionAnswer}
use Rattle.answer_core.specs.Local.{file_found}
use Rattle.dbgd_metrics.specs.Shares.{ShareFacts}
use Rattle.federation.specs.Heard.{LinkHeard}
use Rattle.federation.specs.declared.asking.Upstream.{Upstream}
use Rattle.conn_server.specs.Asked.{Request, closes_after, readable, sends_body}
use Rattle.conn_server.specs.Bodies.{BodyFacts, found_here}
use Rattle.conn_server.specs.Cases.{IsCase}
use Rattle.conn_server.specs.Links.{AsksEachLink}
use Rattle.conn_server.specs.Pieces.{ArePiecesRead, AreContentOf}
use Rattle.conn_server.specs.Replies.{Shows, bytes_of, status_of}
use Rattle.conn_server.specs.Stage.{ConnSetting, ConnStage}
use Rattle.conn_server.specs.declared.report.Asked as declared
use Rattle.conn_server.specs.declared.report.Asked.TheVariants as asked
use Rattle.conn_server.specs.declared.report.Served.{Served}

-- a file of the id, of some class, has the body as the section of this name
pub record IsSectionOfFile (id name file body : List ℕ) : Type 0 where
  pub class : Kind
  pub certified : IsCertified class id file
  pub section : IsSectionAnswer file name (Some body)

-- what the body of a file is certified for: a file for the id and the class that are asked, a section as that of a file of
-- the id
abbrev pub Carries : declared.Asked → List ℕ → Type 0
Carries (asked.Route (route.Debuginfo id)) body = IsCertified kind.Debuginfo id body
Carries (asked.Route (route.Executable id)) body = IsCertified kind.Executable id body
Carries (asked.Route (route.Section id name)) body = (file : List ℕ) × IsSectionOfFile id name file body
Carries _ _ = Unit {0}

-- the bytes of a body are those of these reads: where a file that was found here is sent, it is read from its start on, of the
-- open file, in pieces; else nothing is read
abbrev pub IsBodySent : BodyFacts → Bool → List ℕ → List Heard → Type 0
IsBodySent (found_here (file_found from name path generation)) true body sent = ArePiecesRead name sent body
IsBodySent _ _ body sent = sent ≡ []

-- the body of a file that was found here is its content, where a path and a stamp name one
abbrev pub IsContentSent : Versions → BodyFacts → List ℕ → Type 0
IsContentSent version (found_here (file_found from name path generation)) body = AreContentOf version name body
IsContentSent version _ body = Unit {0}

-- what is told of a request and its reply, in whole, and what was read while it was written
pub record IsReplied (request : Request) (last : Bool) (served : Served) (bytes : List ℕ) (carried : BodyFacts) (sent : List Heard)
    : Type 0 where
  pub body : List ℕ
  pub file : Option (List ℕ)
  pub shows : Shows served.reason carried body file
  pub reads : IsBodySent carried (sends_body request) body sent
  pub carries : served.status ≡ 200 → Carries served.asked body
  pub status : served.status ≡ status_of served.reason
  pub len : served.len ≡ (if sends_body request then length body else 0)
  pub spelled : bytes ≡ bytes_of served.reason body file (closes_after request last) (sends_body request)

-- what so many links were asked for a request: nothing, or each what its route asks, with the hops of its head
abbrev pub AsksLinksFor : Option Upstream → ℕ → Request → declared.Asked → List (List LinkHeard) → Type 0
AsksLinksFor None links request what parts = parts ≡ []
AsksLinksFor (Some told) links (readable head) (asked.Route given) parts = AsksEachLink links given head.hops parts told
AsksLinksFor _ _ _ _ _ = ⊥

-- the reply to a request is lawful: a case of the table, by the hand and the own share as they stood, and by what the hand and the
-- links were asked and answered; and what the hand was asked behind that gave its body
pub record IsLawful
    {T : Type 0} (setting : ConnSetting T) (at : ConnStage T) (own noted : ShareFacts) (log : List Change) (answers sent : List Heard)
    (parts : List (List LinkHeard)) (request : Request) (last : Bool) (served : Served) (bytes : List ℕ) : Type 0 where
  pub carried : BodyFacts
  pub told : Option Upstream
  pub is : IsCase setting at own noted log request served.asked served.reason served.gen_ carried answers told
  pub asks : AsksLinksFor told (length at.links) request served.asked parts
  pub replied : IsReplied request last served bytes carried sent
  pub content : IsContentSent setting.version carried replied.body
