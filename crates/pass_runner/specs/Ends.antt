-- How the settling of a pass ends (this project's rule).
use Rattle.std.specs.Prelude.{◌≡◌, ◌≢◌, ◌≤◌, false, true, [], length, Option, Some, None}
use Rattle.row_types.specs.Name.{NameFacts}
use Rattle.index_rows.specs.Rows.{row_names}
use Rattle.index_rows.specs.declared.rows.TheConstants.{LOG_LIMIT}
use Rattle.index_state.specs.State.{StateFacts, pass_or_none}
use Rattle.scan_queue.specs.Names.{without}
use Rattle.index_desk.specs.declared.work_end.WorkEnd.{WorkEnd}
use Rattle.index_desk.specs.declared.work_end.WorkEnd.TheVariants.{Empty, Broken, KeeperFault, LogFull, OutOfMemory}
use Rattle.pass_runner.specs.Settled.{AppearedStand, NoneAppeared}

-- no name is left to be handed out; where none was out before, none is; where none had appeared before, the row of each one
-- that did stands
pub record AreNamesSettled {K : Type 0} (old new : StateFacts K) : Type 0 where
  pub sound : new.broken ≡ false
  pub todo : (pass_or_none new.pass).todo ≡ []
  pub groom : (pass_or_none new.pass).groom ≡ []
  pub out : (pass_or_none old.pass).out ≡ [] → (pass_or_none new.pass).out ≡ []
  pub appeared : NoneAppeared old → AppearedStand new

-- the log has no room, and the rows aren't those of the listing
pub record IsOutOfRoom {K : Type 0} (new : StateFacts K) : Type 0 where
  pub sound : new.broken ≡ false
  pub full : length new.log ≡ LOG_LIMIT
  pub apart : row_names new.rows ≢ (pass_or_none new.pass).listing

-- how the settling ended
abbrev pub SettlesBy : {K : Type 0} → StateFacts K → StateFacts K → WorkEnd → Type 0
SettlesBy old new Empty = AreNamesSettled old new
SettlesBy old new Broken = ⊥
SettlesBy old new KeeperFault = new.broken ≡ true
SettlesBy old new LogFull = IsOutOfRoom new
SettlesBy old new OutOfMemory = new.broken ≡ false

-- how a turn over a name that is out ended: the name is out no more, and no list of what is to be handed out grew
pub record IsTurnOver {K : Type 0} (name : NameFacts) (old new : StateFacts K) : Type 0 where
  pub sound : new.broken ≡ false
  pub out : (pass_or_none new.pass).out ≡ without name (pass_or_none old.pass).out
  pub todo : length (pass_or_none new.pass).todo ≤ length (pass_or_none old.pass).todo
  pub groom : length (pass_or_none new.pass).groom ≤ length (pass_or_none old.pass).groom

-- or it ended the settling
abbrev pub TurnsBy : {K : Type 0} → NameFacts → StateFacts K → StateFacts K → Option WorkEnd → Type 0
TurnsBy name old new None = IsTurnOver name old new
TurnsBy name old new (Some Empty) = ⊥
TurnsBy name old new (Some end) = SettlesBy old new end

-- no name is left to be read; where none was out before, none is, and where none had appeared, none has
pub record AreNamesRead {K : Type 0} (old new : StateFacts K) : Type 0 where
  pub sound : new.broken ≡ false
  pub todo : (pass_or_none new.pass).todo ≡ []
  pub out : (pass_or_none old.pass).out ≡ [] → (pass_or_none new.pass).out ≡ []
  pub appeared : NoneAppeared old → NoneAppeared new

-- how the reading of what is new ended
abbrev pub ReadsBy : {K : Type 0} → StateFacts K → StateFacts K → WorkEnd → Type 0
ReadsBy old new Empty = AreNamesRead old new
ReadsBy old new end = SettlesBy old new end
