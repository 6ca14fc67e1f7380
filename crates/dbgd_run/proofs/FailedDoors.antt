-- Which doors failed, of those that were served.
use Rattle.std.proofs.Common.{◌≡◌, inl, inr, Bool, true, false, ◌||◌, List, [], ◌∷◌, All, map, Option, Some, refl, subst}
use Rattle.std.specs.List.{AllZip}
use Rattle.std.proofs.lemmas.Bool.{false≢true, true≢false}
use Rattle.std.proofs.lemmas.List.Elements.{All-nil, All-cons}
use Rattle.row_types.specs.Faults.{Rose}
use Rattle.http_wire.specs.Door.{ShownDoor}
use Rattle.http_wire.specs.declared.door.DoorSaid.{DoorSaid}
use Rattle.http_wire.specs.declared.door.DoorSaid.TheVariants as said
use Rattle.index_rows.specs.declared.change.Change.{Change}
use Rattle.conn_server.specs.Doors.{said_at}
use Rattle.conn_server.specs.Stage.{ConnSetting}
use Rattle.conn_server.specs.declared.door.DoorEnd.{DoorEnd}
use Rattle.conn_server.specs.declared.door.DoorEnd.TheVariants as end
use Rattle.dbgd_run.specs.ServeCauses.{SomeDoorRose}
use Rattle.dbgd_run.specs.ServeSaid.{has_failed, is_any_failed}
use Rattle.dbgd_run.specs.Workers.{ServedBy, WorkerFacts}
use Rattle.dbgd_run.proofs.RoundLemmas.{neither}

-- a door that was served failed or closed, as it said last; it failed only where its count rose
module _ {T : Type 0} (setting : ConnSetting T) (first last : List Change) where
  rose_if : (before after : WorkerFacts T) → ServedBy setting first last before after → has_failed after.door.last ≡ true
      → Rose before.door.faults after.door.faults
  rose_if before after by failed = by_end by.ran.end by.ran.serves.ends.last by.ran.serves.ends.cause.rose
    where
      by_end : (why : DoorEnd) → after.door.last ≡ Some (said_at why) → (why ≡ end.Failed → Rose before.door.faults after.door.faults)
          → Rose before.door.faults after.door.faults
      by_end end.Failed is rose = rose refl
      by_end end.Closed is rose = absurd (false≢true (subst (λ (o : Option DoorSaid). has_failed o ≡ true) is failed))

  closed_if : (before after : WorkerFacts T) → ServedBy setting first last before after → has_failed after.door.last ≡ false
      → after.door.last ≡ Some said.Closed
  closed_if before after by failed = by_end by.ran.end by.ran.serves.ends.last
    where
      by_end : (why : DoorEnd) → after.door.last ≡ Some (said_at why) → after.door.last ≡ Some said.Closed
      by_end end.Failed is = absurd (true≢false (subst (λ (o : Option DoorSaid). has_failed o ≡ false) is failed))
      by_end end.Closed is = is

  pub some_rose : (workers left : List (WorkerFacts T)) → AllZip (ServedBy setting first last) workers left
      → is_any_failed (map (λ (worker : WorkerFacts T). worker.door) left) ≡ true
      → SomeDoorRose (map (λ (worker : WorkerFacts T). worker.door) workers) (map (λ (worker : WorkerFacts T). worker.door) left)
  some_rose [] [] all failed = absurd (false≢true failed)
  some_rose [] (after ∷ left) all failed = absurd all
  some_rose (before ∷ workers) [] all failed = absurd all
  some_rose (before ∷ workers) (after ∷ left) all failed =
      which (has_failed after.door.last) refl failed (λ rest. some_rose workers left all.1 rest)
    where
      which : (b : Bool) → has_failed after.door.last ≡ b
          → (has_failed after.door.last || is_any_failed (map (λ (worker : WorkerFacts T). worker.door) left)) ≡ true
          → (is_any_failed (map (λ (worker : WorkerFacts T). worker.door) left) ≡ true
          → SomeDoorRose (map (λ (worker : WorkerFacts T). worker.door) workers) (map (λ (worker : WorkerFacts T). worker.door) left))
          → SomeDoorRose (map (λ (worker : WorkerFacts T). worker.door) (before ∷ workers)) (map (λ (worker : WorkerFacts T). worker.door) (after ∷ left))
      which true is some below = inl (rose_if before after all.0 is)
      which false is some below =
          inr (below
          (subst (λ (b : Bool). (b || is_any_failed (map (λ (worker : WorkerFacts T). worker.door) left)) ≡ true) is some))

  pub all_closed : (workers left : List (WorkerFacts T)) → AllZip (ServedBy setting first last) workers left
      → is_any_failed (map (λ (worker : WorkerFacts T). worker.door) left) ≡ false
      → All (λ (door : ShownDoor). door.last ≡ Some said.Closed) (map (λ (worker : WorkerFacts T). worker.door) left)
  all_closed [] [] all none = All-nil (λ (door : ShownDoor). door.last ≡ Some said.Closed)
  all_closed [] (after ∷ left) all none = absurd all
  all_closed (before ∷ workers) [] all none = absurd all
  all_closed (before ∷ workers) (after ∷ left) all none =
      let both = neither (has_failed after.door.last) (is_any_failed (map (λ (worker : WorkerFacts T). worker.door) left)) none in
      All-cons (λ (door : ShownDoor). door.last ≡ Some said.Closed) after.door (map (λ (worker : WorkerFacts T). worker.door) left)
      (closed_if before after all.0 both.0) (all_closed workers left all.1 both.1)
