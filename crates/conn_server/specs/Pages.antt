-- The pages of the index (this project's rule): a target is looked up among them as it stands, undecoded, behind the method and the
-- body and in front of the routes. A page is a line of `IsPageTarget` and the lines of its replies in `IsPageReply`. None stands here
-- yet: the counters are a route.
use Rattle.std.specs.Prelude.{ℕ, List}
use Rattle.index_rows.specs.declared.change.Change.{Change}
use Rattle.row_types.specs.Row.{RowFacts}
use Rattle.conn_server.specs.Bodies.{DecidedFacts}

-- what a page rests on: the true rows of the world, the epoch of the token's origin, and the log at one hold
pub record PageSight : Type 1 where
  pub true_row : RowFacts → Type 0
  pub epoch : ℕ
  pub log : List Change

-- what a page rests on, of these
abbrev pub page_sight : (RowFacts → Type 0) → ℕ → List Change → PageSight
page_sight true_row epoch log = record { true_row = true_row; epoch = epoch; log = log }

-- the target is one of a page
abbrev pub IsPageTarget : List ℕ → Type 0
IsPageTarget target = ⊥

-- the target is one of no page
abbrev pub IsNoPage : List ℕ → Type 0
IsNoPage target = IsPageTarget target → ⊥

-- the page that this target asks for is answered so: what is asked, why it gets its reply, at which generation, and what that carries
abbrev pub IsPageReply : PageSight → List ℕ → DecidedFacts → Type 0
IsPageReply sight target decided = ⊥
