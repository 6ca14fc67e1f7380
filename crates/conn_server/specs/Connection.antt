-- A connection (this project's rule): the requests that were answered, in order, and how it ended.
use Rattle.std.specs.Prelude.{◌≡◌, ℕ, ◌+◌, ◌<◌, ◌≤◌, ◌==◌, ◌⊎◌, Bool, true, false, List, [], ◌∷◌, ◌++◌, map, length, count_by}
use Rattle.std.specs.List.{flat_map}
use mathlib.Core.List.{IsPrefix}
use Rattle.row_types.specs.Faults.{Rose, summed}
use Rattle.index_rows.specs.declared.change.Change.{Change}
use Rattle.http_wire.specs.Heads.{RefusesAsHead}
use Rattle.http_wire.specs.Source.{HasEnded}
use Rattle.http_wire.specs.Stream.{ShownStream}
use Rattle.http_wire.specs.declared.head.HeadFault.{HeadFault}
use Rattle.http_wire.specs.declared.head.HeadFault.TheVariants.{Cut}
use Rattle.answer_core.specs.Loads.{Hears}
use Rattle.federation.specs.Heard.{LinkHeard}
use Rattle.conn_server.specs.Asked.{HeadFacts, Request, closes_after, readable, refused}
use Rattle.conn_server.specs.Tallied.{TalliesServed}
use Rattle.conn_server.specs.Exchange.{Exchange, IsBodyCut, IsReplyDue, IsExchange, IsWriteCut, LeadsByExchange, LeavesUnanswered, Moves, MovesInOrder, NoMore, asked_for}
use Rattle.conn_server.specs.Links.{HeardFor, LinksFailed, LinksHear, all_parts, both_parts, hand_heard}
use Rattle.conn_server.specs.Replies.{says_read_fault, says_upstream_fault}
use Rattle.conn_server.specs.Stage.{ConnSetting, ConnStage, Wire, hand_at}
use Rattle.conn_server.specs.declared.connection.TheConstants.{REQUESTS}
use Rattle.conn_server.specs.declared.report.ConnEnd.{ConnEnd}
use Rattle.conn_server.specs.declared.report.ConnEnd.TheVariants as end
use Rattle.conn_server.specs.declared.report.ConnReport.{ConnReport}

-- whether the request of this place, counted from 0, is the last that a connection has
abbrev pub is_last_request : ℕ → Bool
is_last_request place = place + 1 == REQUESTS

-- these exchanges lead from the first moment to the last, each lawful where the one before it led
pub data ExchangesRow {T : Type 0} (setting : ConnSetting T) (a : ConnStage T) (v : Wire) : List Exchange → ConnStage T → Wire → Type 0 where
  none : ExchangesRow setting a v [] a v
  more : (xs : List Exchange) (b : ConnStage T) (w : Wire) (x : Exchange) (c : ConnStage T) (u : Wire) → ExchangesRow setting a v xs b w
      → IsExchange setting (is_last_request (length xs)) b x → LeadsByExchange setting x b c → MovesInOrder x.front x.bytes w u
      → ExchangesRow setting a v (xs ++ x ∷ []) c u

-- the exchanges from this place on are lawful by the objects as they stood at one moment
abbrev pub AreExchanges : {T : Type 0} → ConnSetting T → ConnStage T → ℕ → List Exchange → Type 0
AreExchanges setting at place [] = Unit {0}
AreExchanges setting at place (x ∷ xs) = IsExchange setting (is_last_request place) at x × AreExchanges setting at (place + 1) xs

-- the connection goes on behind each of the replies from this place on
abbrev pub GoOn : ℕ → List Exchange → Type 0
GoOn place [] = Unit {0}
GoOn place (x ∷ xs) = (closes_after x.request (is_last_request place) ≡ false) × GoOn (place + 1) xs

-- the logs of the requests go on from this one up to that one, and never back
abbrev pub LogsGrow : List Change → List Exchange → List Change → Type 0
LogsGrow log [] after = IsPrefix log after
LogsGrow log (x ∷ xs) after = IsPrefix log x.log × LogsGrow x.log xs after

-- what each link was asked for these requests, and answered
abbrev pub links_heard : List Exchange → List (List LinkHeard)
links_heard xs = all_parts (map (λ x. x.links) xs)

-- what follows of a row and what stands behind it, as seen from the first moment: each exchange is lawful by the objects as they
-- stood then; what came was the heads and what is held; what was written is the replies, and this part of one more; what the
-- hand heard is cut into one part a request, and the rest, and so is what each link heard; a load, or a link, failed for each that
-- was answered so
pub record IsRow
    {T : Type 0} (setting : ConnSetting T) (a : ConnStage T) (v : Wire) (xs : List Exchange) (rest : HeardFor) (part : List ℕ)
    (b : ConnStage T) (w : Wire) : Type 0 where
  pub are : AreExchanges setting a 0 xs
  pub logs : LogsGrow a.log xs b.log
  pub epoch : b.epoch ≡ a.epoch
  pub hears : Hears (hand_at setting a) (setting.shows b.hand) (flat_map asked_for xs ++ hand_heard rest) ⊥
  pub asks : LinksHear a.links (both_parts (links_heard xs) rest.links) b.links
  pub failed : summed (setting.shows a.hand).faults (count_by (λ x. says_read_fault x.served.reason) xs) ≤ (setting.shows b.hand).faults
  pub links_failed : LinksFailed a.links (count_by (λ x. says_upstream_fault x.served.reason) xs) b.links
  pub moves : Moves (flat_map (λ x. x.front) xs) (flat_map (λ x. x.bytes) xs ++ part) v w

-- the connection goes on behind each of these replies but the last one, which answers this request and closes
pub record LastCloses (request : Request) (xs : List Exchange) : Type 0 where
  pub going : List Exchange
  pub last : Exchange
  pub are : xs ≡ going ++ last ∷ []
  pub goes : GoOn 0 going
  pub asks : last.request ≡ request
  pub closes : closes_after request (is_last_request (length going)) ≡ true

-- the last reply closes, and answers a head
abbrev pub LastHeadCloses : List Exchange → Type 0
LastHeadCloses xs = (head : HeadFacts) × LastCloses (readable head) xs

-- behind these requests nothing is left to read
pub record IsAllRead (xs : List Exchange) (w : Wire) : Type 0 where
  pub goes : GoOn 0 xs
  pub none : w.held ≡ []
  pub ended : HasEnded w.stream.left

-- nothing was read, written, asked or told
pub record IsConnectionUntouched {T : Type 0} (a : ConnStage T) (v : Wire) (xs : List Exchange) (b : ConnStage T) (w : Wire) : Type 0 where
  pub none : xs ≡ []
  pub stands : b ≡ a
  pub stays : w ≡ v

-- how a connection ended behind these requests, of which the last was answered where the objects stood like this, with its
-- cause; a reply that was due wasn't written whole where a write failed, or where its file couldn't be read as it was checked;
-- memory was wanted before anything was read, or for a reply that was due
abbrev pub EndsConnection : {T : Type 0} → ConnSetting T → ConnStage T → Wire → ConnEnd → List Exchange → ConnStage T → HeardFor → List ℕ → ConnStage T
    → Wire → Type 0
EndsConnection setting a v end.Closed xs at rest part b w =
    (length xs < REQUESTS) × NoMore rest part × (LastHeadCloses xs ⊎ IsAllRead xs w)
EndsConnection setting a v end.Cut xs at rest part b w =
    GoOn 0 xs × NoMore rest part × RefusesAsHead (Cut (length w.held)) w.held w.stream.left
EndsConnection setting a v end.Refused xs at rest part b w =
    NoMore rest part × (fault : HeadFault) × LastCloses (refused fault) xs × RefusesAsHead fault w.held w.stream.left
EndsConnection setting a v end.Limit xs at rest part b w = (length xs ≡ REQUESTS) × NoMore rest part × LastHeadCloses xs
EndsConnection setting a v end.ReadFault xs at rest part b w =
    GoOn 0 xs × NoMore rest part × Rose v.stream.read_faults w.stream.read_faults
EndsConnection setting a v end.WriteFault xs at rest part b w =
    GoOn 0 xs × IsWriteCut setting (is_last_request (length xs)) at rest part b.log b.share w × Rose v.stream.write_faults w.stream.write_faults
EndsConnection setting a v (end.BodyFault why) xs at rest part b w =
    GoOn 0 xs × IsBodyCut setting (is_last_request (length xs)) at rest part b w why
EndsConnection setting a v end.OutOfMemory xs at rest part b w =
    GoOn 0 xs × (part ≡ []) × (rest.sent ≡ []) × (IsConnectionUntouched a v xs b w ⊎ IsReplyDue setting (is_last_request (length xs)) at rest b.log b.share w)

-- a connection from its first moment to its last: the requests that were answered, what is told and counted of them, and how it
-- ended
pub record ServesAll
    {T : Type 0} (setting : ConnSetting T) (a : ConnStage T) (v : Wire) (report : ConnReport) (b : ConnStage T) (w : Wire) : Type 0 where
  pub xs : List Exchange
  pub told : map (λ x. x.served) xs ≡ report.served.items
  pub at : ConnStage T
  pub held_at : Wire
  pub row : ExchangesRow setting a v xs at held_at
  pub rest : HeardFor
  pub part : List ℕ
  pub leaves : LeavesUnanswered setting rest part at held_at b w
  pub flat : IsRow setting a v xs rest part b w
  pub tallies : TalliesServed report.served.items a.share b.share
  pub ends : EndsConnection setting a v report.end xs at rest part b w

-- before the first read nothing is held
abbrev pub fresh_wire : ShownStream → Wire
fresh_wire stream = record { stream = stream; held = []; over = false }

-- the same of the stream alone, of which some bytes may be held in the end
abbrev pub Serves : {T : Type 0} → ConnSetting T → ConnStage T → ShownStream → ConnReport → ConnStage T → ShownStream → Type 0
Serves setting a before report b after =
    (w : Wire) × (w.stream ≡ after) × ServesAll setting a (fresh_wire before) report b w
