-- What a link was asked and answered (this project's rule).
use Rattle.std.specs.Prelude.{ℕ, Bool, true, false, not, List}
use Rattle.federation.specs.declared.link.LinkAnswer.{LinkAnswer}
use Rattle.federation.specs.declared.link.LinkAnswer.TheVariants.{Failed, OutOfMemory, Reply}
use Rattle.webapi_routes.specs.declared.route.Route.{Route}

-- an answer: a status and the bytes of a body, that the link failed, or that memory was refused
pub data LinkSaid : Type 0 where
  reply : (status : ℕ) → (body : List ℕ) → LinkSaid
  failed : LinkSaid
  memory : LinkSaid

-- the same of the code's answer
abbrev pub said_by : LinkAnswer → LinkSaid
said_by (Reply status body) = reply status body.items
said_by Failed = failed
said_by OutOfMemory = memory

-- a question, with the number of forwarders, and its answer
pub record LinkHeard : Type 0 where
  pub route : Route
  pub hops : ℕ
  pub said : LinkSaid

-- whether an answer is that the link failed
abbrev pub is_failure : LinkSaid → Bool
is_failure failed = true
is_failure _ = false

-- whether the link failed
abbrev pub link_failed : LinkHeard → Bool
link_failed h = is_failure h.said

-- whether it answered something else
abbrev pub link_refused : LinkHeard → Bool
link_refused h = not (is_failure h.said)
