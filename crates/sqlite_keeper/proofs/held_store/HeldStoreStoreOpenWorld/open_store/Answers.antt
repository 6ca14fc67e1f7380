use Rattle.std.proofs.Common.{◌≡◌, ℕ, List, None, Some, rules, refl, ap, ◌∙◌}
use Rattle.index_keeper.specs.Store.{ShownStore}
use Rattle.index_keeper.specs.Tables.{KeptFacts}
use Rattle.sqlite.specs.Held.{Held, state}
use Rattle.sqlite_keeper.specs.HeldStore.{HeldStoreFacts}
use Rattle.sqlite_keeper.specs.Told.{tables}
use Rattle.sqlite_keeper.proofs.KeeperLemmas.{opens_held, shows_held}
use Rattle.sqlite_keeper.proofs.held_store.HeldStoreStoreOpenWorld.open_store.Goals as goal

-- what a store shows that tells its tables at most
abbrev shown : ℕ → ℕ → List KeptFacts → ShownStore
shown epoch faults tables = record { tables = tables; made = None; epoch = epoch; faults = faults; paths = None }

-- the keeper stands on the connection that was held, made ready
pub returns-in-Some-take-clause-opens : goal.returns-in-Some-take-clause-opens
returns-in-Some-take-clause-opens g c =
    let held = c.in-Some.connection in
    let old : HeldStoreFacts g.row.F.Denot = record { connection = c.self.inside.connection; faults = c.self.inside.faults; epoch = c.self.inside.epoch } in
    let was : c.self.inside.connection ≡ Some held = search rules in
    let given : c.in-Some-take.connection ≡ c.prepare.new.connection = search rules in
    rw (← c.self.view_is, c.new.ensures)
    (opens_held g.F.Store g.F.Telling.tells c.args.path.now held old (record { connection = c.take.new.self; faults = c.self.inside.faults; epoch = c.in-Ok.epoch })
    (record { connection = c.in-Some-take.connection; faults = 0; epoch = c.in-Ok.epoch }) was refl refl refl c.in-Ok.ensures.ok.rises
    (λ is. ap (λ (h : Held g.row.F.Denot). tables (state g.F.Store h)) given ∙ c.prepare.ensures.kept is))

-- a refusal leaves the tables
pub returns-in-Err-OutOfMemory-clause-opens : goal.returns-in-Err-OutOfMemory-clause-opens
returns-in-Err-OutOfMemory-clause-opens g c =
    let held = c.in-Some.connection in
    let old : HeldStoreFacts g.row.F.Denot = record { connection = c.self.inside.connection; faults = c.self.inside.faults; epoch = c.self.inside.epoch } in
    let was : c.self.inside.connection ≡ Some held = search rules in
    let new : HeldStoreFacts g.row.F.Denot = record { connection = Some c.prepare.new.connection; faults = c.self.inside.faults; epoch = c.self.inside.epoch } in
    rw (← c.self.view_is)
    (ap (shown c.self.inside.epoch c.self.inside.faults)
    (shows_held g.F.Store g.F.Telling.tells held c.prepare.new.connection old new was refl c.prepare.ensures.kept))

pub returns-in-Err-Failed-clause-opens : goal.returns-in-Err-Failed-clause-opens
returns-in-Err-Failed-clause-opens g c =
    let held = c.in-Some.connection in
    let old : HeldStoreFacts g.row.F.Denot = record { connection = c.self.inside.connection; faults = c.self.inside.faults; epoch = c.self.inside.epoch } in
    let was : c.self.inside.connection ≡ Some held = search rules in
    let new : HeldStoreFacts g.row.F.Denot = record { connection = Some c.prepare.new.connection; faults = c.self.inside.faults; epoch = c.self.inside.epoch } in
    rw (← c.self.view_is)
    (record {
      tables = λ is. shows_held g.F.Store g.F.Telling.tells held c.prepare.new.connection old new was refl c.prepare.ensures.kept;
      made = refl;
      later = search rules;
      faults = search rules;
      cause = search rules;
      paths = refl;
    })

-- the connection goes to the keeper, and comes back where it is refused
pub returns-in-Err-Failed-clause-hands : goal.returns-in-Err-Failed-clause-hands
returns-in-Err-Failed-clause-hands g c =
    let held = c.in-Some.connection in
    let was : c.self.inside.connection ≡ Some held = search rules in
    rw (← c.self.view_is, was) c.in-Err-Failed.ensures.err.back
