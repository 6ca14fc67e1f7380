-- What follows of each page: it is a text or a line, answers no route, and tells of no failure.
use Rattle.std.proofs.Common.{◌≡◌, ℕ, true, List, []}
use Rattle.answer_core.specs.Local.{Sight}
use Rattle.tree_trait.specs.Found.{Versions}
use Rattle.conn_server.specs.Bodies.{BodyFacts, DecidedFacts, found_here, found_upstream}
use Rattle.conn_server.specs.Exchange.{LoadFailed}
use Rattle.conn_server.specs.Lawful.{Carries}
use Rattle.conn_server.specs.Pages.{IsPageReply, PageSight}
use Rattle.conn_server.specs.PassedOver.{PassesOver}
use Rattle.conn_server.specs.Replies.{says_upstream_fault}
use Rattle.conn_server.specs.Sent.{CanCarry}
use Rattle.conn_server.specs.declared.reason.Reason.{Reason}
use Rattle.conn_server.specs.declared.report.Asked as given
use Rattle.conn_server.specs.declared.report.Asked.TheVariants as asked

-- no route is asked
abbrev pub AsksNoRoute : given.Asked → Type 0
AsksNoRoute (asked.Route route) = ⊥
AsksNoRoute _ = Unit {0}

-- no file is carried
abbrev pub CarriesNoFile : BodyFacts → Type 0
CarriesNoFile (found_here answer) = ⊥
CarriesNoFile (found_upstream given) = ⊥
CarriesNoFile _ = Unit {0}

-- what holds of the reply of each page
pub record IsPlainReply (decided : DecidedFacts) : Type 0 where
  pub asked : AsksNoRoute decided.asked
  pub body : CarriesNoFile decided.body
  pub no_load : LoadFailed decided.reason [] → ⊥
  pub no_link : says_upstream_fault decided.reason ≡ true → ⊥

-- a line for each line of the family
pub page_is_plain : (sight : PageSight) (target : List ℕ) (decided : DecidedFacts) → IsPageReply sight target decided
    → IsPlainReply decided
page_is_plain sight target decided is = absurd is

pub text_carried : (version : Versions) (body : BodyFacts) → CarriesNoFile body → CanCarry version body
text_carried version (found_here answer) text = absurd text
text_carried version _ text = tt

pub page_carries : (what : given.Asked) (bytes : List ℕ) → AsksNoRoute what → Carries what bytes
page_carries (asked.Route route) bytes other = absurd other
page_carries _ bytes other = tt

pub page_passes : (sight : Sight) (what : given.Asked) (why : Reason) → AsksNoRoute what → PassesOver sight what why
page_passes sight (asked.Route route) why other = absurd other
page_passes sight _ why other = tt
