-- What is known of the numbers of a line that was read (this project's rule).
use Rattle.std.specs.Prelude.{ℕ, ◌≤◌}
use Rattle.dbgd_words.specs.Words.{Line, asks_scan, asks_serve, asks_trial}
use Rattle.dbgd_words.specs.declared.scan.TheConstants.{MOST_WORKERS}
use Rattle.dbgd_words.specs.declared.serve.TheConstants.{MOST_PORT, MOST_SECS}
use Rattle.dbgd_words.specs.declared.trial.TheConstants.{MOST_FILES}

-- a trial has 1 to 100,000 files and 1 to 64 workers
pub record IsTrialFit (files workers : ℕ) : Type 0 where
  pub some : 1 ≤ files
  pub few : files ≤ MOST_FILES
  pub one : 1 ≤ workers
  pub most : workers ≤ MOST_WORKERS

-- a scan has 1 to 64 workers
pub record IsScanFit (workers : ℕ) : Type 0 where
  pub one : 1 ≤ workers
  pub most : workers ≤ MOST_WORKERS

-- a server has 1 to 64 workers, a port from 1 to 65,535, and up to 86,400 seconds from one scan to the next
pub record IsServeFit (workers port secs : ℕ) : Type 0 where
  pub one : 1 ≤ workers
  pub most : workers ≤ MOST_WORKERS
  pub some : 1 ≤ port
  pub highest : port ≤ MOST_PORT
  pub longest : secs ≤ MOST_SECS

-- so is it of a line that asks for one of these
abbrev pub FitsLimits : Line → Type 0
FitsLimits (asks_scan path workers patterns roots) = IsScanFit workers
FitsLimits (asks_serve path workers port secs sources upstream patterns roots) = IsServeFit workers port secs
FitsLimits (asks_trial seed files workers) = IsTrialFit files workers
FitsLimits _ = Unit {0}
