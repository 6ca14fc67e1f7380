-- The workers of a server (this project's rule): each serves one door, with a hand, a share of the counter table, a row of links
-- to other servers and a token of its own.
use Rattle.std.specs.Prelude.{◌≡◌, ◌≤◌, ℕ, Bool, true, false, List, All, length, map, Option, Some, IsSome, IsTrue}
use Rattle.std.specs.Global.{Vec}
use mathlib.Core.List.{IsPrefix}
use Rattle.index_lock.specs.Tokens.{SeatFacts}
use Rattle.index_rows.specs.declared.change.Change.{Change}
use Rattle.index_state.specs.State.{Origin}
use Rattle.federation.specs.Link.{ShownLink}
use Rattle.http_wire.specs.Door.{ShownDoor}
use Rattle.dbgd_metrics.specs.Numbers.{zeros}
use Rattle.dbgd_metrics.specs.Shares.{BookFacts, ShareFacts}
use Rattle.pass_runner.specs.SharedPass.{IsBetween}
use Rattle.conn_server.specs.Doors.{ServesDoor, all_exchanges}
use Rattle.conn_server.specs.Exchange.{Exchange}
use Rattle.conn_server.specs.Stage.{ConnSetting, conn_stage}
use Rattle.conn_server.specs.declared.door.DoorEnd.{DoorEnd}
use Rattle.conn_server.specs.declared.reason.Reason.{Reason}
use Rattle.conn_server.specs.declared.reason.Reason.TheVariants as reason
use Rattle.dbgd_run.specs.declared.worker.Worker.{Worker}

-- a worker at a moment: its hand, its share of the counter table, and what its door and each of its links show
pub record WorkerFacts (T : Type 0) : Type 0 where
  pub hand : T
  pub share : ShareFacts
  pub door : ShownDoor
  pub links : List ShownLink

-- the workers have these hands, these doors and these rows of links, in order
pub record AreWorkers
    {T : Type 0} (held : List T) (served : List ShownDoor) (rows : List (List ShownLink)) (workers : List (WorkerFacts T))
    : Type 0 where
  pub hands : map (λ worker. worker.hand) workers ≡ held
  pub doors : map (λ worker. worker.door) workers ≡ served
  pub links : map (λ worker. worker.links) workers ≡ rows

-- a share that has a row and has counted nothing
pub record HasCountedNothing (share : ShareFacts) : Type 0 where
  pub row : IsSome share.row
  pub nothing : share.numbers ≡ zeros
  pub unmarked : share.marked ≡ false

-- a share of this counter table that has a row and has counted nothing
pub record IsFreshShare (book : BookFacts) (share : ShareFacts) : Type 0 where
  pub of_book : share.book ≡ book.id
  pub fresh : HasCountedNothing share

-- by the reason of a reply, whether the index was asked for it and answered; the links are asked behind it
abbrev pub rests_on_index : Reason → Bool
rests_on_index reason.Local = true
rests_on_index reason.Upstream = true
rests_on_index reason.HopLimit = true
rests_on_index reason.ReadFault = true
rests_on_index reason.UpstreamFault = true
rests_on_index reason.NotFound = true
rests_on_index _ = false

-- a request was answered by a log between the two; where the index was asked for it, the generation that is told of it is the
-- length of such a log
pub record IsServedBetween (first last : List Change) (x : Exchange) : Type 0 where
  pub logs : IsBetween first last x.log
  pub least : IsTrue (rests_on_index x.served.reason) → length first ≤ x.served.gen_
  pub most : IsTrue (rests_on_index x.served.reason) → x.served.gen_ ≤ length last

-- a worker's door was served once, by a token that had seen the first log and then the second one, with its origin's epoch
pub record ServesOnce {T : Type 0} (setting : ConnSetting T) (first : List Change) (before : WorkerFacts T) (log : List Change)
    (after : WorkerFacts T) : Type 0 where
  pub end : DoorEnd
  pub epoch : ℕ
  pub epoch_after : ℕ
  pub serves :
      ServesDoor setting (conn_stage first epoch before.hand before.share before.links) before.door end
      (conn_stage log epoch_after after.hand after.share after.links) after.door

-- a worker's door was served once, at beginnings of the last log, and each of its requests at one that goes on from the first
pub record ServedBy {T : Type 0} (setting : ConnSetting T) (first last : List Change) (before after : WorkerFacts T) : Type 0 where
  pub log : List Change
  pub into : IsPrefix log last
  pub ran : ServesOnce setting first before log after
  pub between : All (IsServedBetween first last) (all_exchanges ran.serves.serves.visits)

-- what is known of a worker
abbrev pub worker_in : {T D L : Type 0} → (D → ShownDoor) → (L → ShownLink) → Worker T D L → WorkerFacts T
worker_in sees views worker =
    record { hand = worker.hand; share = worker.share; door = sees worker.door; links = map views worker.links.items }

-- what a run makes of a worker: its door was served once, and how that ended is kept
pub record WorkerRan
    {T D L : Type 0} (setting : ConnSetting T) (sees : D → ShownDoor) (views : L → ShownLink) (first : List Change)
    (before : Worker T D L) (log : List Change) (after : Worker T D L) : Type 0 where
  pub ran : ServesOnce setting first (worker_in sees views before) log (worker_in sees views after)
  pub kept : after.end ≡ Some ran.end

-- the same between two moments of the token
abbrev pub RunsWorker : {T D L : Type 0} → ConnSetting T → (D → ShownDoor) → (L → ShownLink) → SeatFacts Change Origin → Worker T D L
    → SeatFacts Change Origin → Worker T D L → Type 0
RunsWorker setting sees views start before later after = WorkerRan setting sees views start.seen before later.seen after

-- the same, at beginnings of the last log
pub record WorkerServed
    {T D L : Type 0} (setting : ConnSetting T) (sees : D → ShownDoor) (views : L → ShownLink) (first last : List Change)
    (before after : Worker T D L) : Type 0 where
  pub by : ServedBy setting first last (worker_in sees views before) (worker_in sees views after)
  pub kept : after.end ≡ Some by.ran.end

-- the hands of workers, in order
abbrev pub hands_at : {T D L : Type 0} → List (Worker T D L) → List T
hands_at workers = map (λ worker. worker.hand) workers

-- their doors
abbrev pub doors_at : {T D L : Type 0} → List (Worker T D L) → List D
doors_at workers = map (λ worker. worker.door) workers

-- their rows of links
abbrev pub links_at : {T D L : Type 0} → List (Worker T D L) → List (Vec L)
links_at workers = map (λ worker. worker.links) workers

-- their shares
abbrev pub shares_at : {T D L : Type 0} → List (Worker T D L) → List ShareFacts
shares_at workers = map (λ worker. worker.share) workers

-- their ends, where their doors were served
abbrev pub ends_at : {T D L : Type 0} → List (Worker T D L) → List (Option DoorEnd)
ends_at workers = map (λ worker. worker.end) workers

-- what is known of workers
abbrev pub workers_at : {T D L : Type 0} → (D → ShownDoor) → (L → ShownLink) → List (Worker T D L) → List (WorkerFacts T)
workers_at sees views workers = map (λ worker. worker_in sees views worker) workers
