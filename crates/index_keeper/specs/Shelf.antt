-- What a store in memory keeps, and its keeper while one is out (this project's rule).
use Rattle.std.specs.Prelude.{◌≡◌, ◌⊎◌, ℕ, if◌then◌else◌, List, [], ◌∷◌, ◌++◌, Option}
use Rattle.index_keeper.specs.Plan.{PlanFacts, planned, after_call, is_made_next}
use Rattle.index_keeper.specs.Tables.{KeptFacts, EditFacts, edited, undo_of}

-- the tables, the changes that were answered Done, in order, and which calls fail
pub record ShelfFacts : Type 0 where
  pub tables : List KeptFacts
  pub made : List EditFacts
  pub plan : PlanFacts

-- these rows, before the first call
abbrev pub shelf_of : List KeptFacts → Option ℕ → List ℕ → ShelfFacts
shelf_of rows stop_at bad_calls = record { tables = rows; made = []; plan = planned stop_at bad_calls }

-- what is kept after a call that changes nothing
abbrev pub after_asking : ShelfFacts → ShelfFacts
after_asking shelf = record shelf { plan = after_call shelf.plan }

-- what is kept after a change that was answered Done
abbrev pub after_making : ShelfFacts → EditFacts → ShelfFacts
after_making shelf edit = record { tables = edited shelf.tables edit; made = shelf.made ++ edit ∷ []; plan = after_call shelf.plan }

-- what is kept after a change that failed: it is made where the plan says so
abbrev pub after_tearing : ShelfFacts → EditFacts → ShelfFacts
after_tearing shelf edit = record shelf { tables = if is_made_next shelf.plan then edited shelf.tables edit else shelf.tables; plan = after_call shelf.plan }

-- the change that leads from the tables after a change that failed to the other ones that a crash may leave
abbrev pub doubt_of : ShelfFacts → EditFacts → EditFacts
doubt_of shelf edit = if is_made_next shelf.plan then undo_of edit.path shelf.tables else edit

-- the tables are those before the change or those after it, and the doubt leads to the other ones
abbrev pub IsDoubt : EditFacts → List KeptFacts → List KeptFacts → EditFacts → Type 0
IsDoubt edit old new doubt = ((new ≡ old) × (edited new doubt ≡ edited old edit)) ⊎ ((new ≡ edited old edit) × (edited new doubt ≡ old))
