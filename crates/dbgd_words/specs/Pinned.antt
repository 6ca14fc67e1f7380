-- The numbers of words, pinned (this project's rule): code and definitions share the constants.
use Rattle.std.specs.Prelude.{◌≡◌}
use Rattle.dbgd_words.specs.declared.number.TheConstants.{MOST_DIGITS}
use Rattle.dbgd_words.specs.declared.scan.TheConstants.{MOST_WORKERS}
use Rattle.dbgd_words.specs.declared.serve.TheConstants.{MOST_PORT, MOST_SECS}
use Rattle.dbgd_words.specs.declared.trial.TheConstants.{MOST_FILES}

-- a number has at most 20 digits, a scan at most 64 workers, a trial at most 100,000 files, and a server a port of at most
-- 65,535 and waits of at most 86,400 seconds
pub record ArePinnedWordLimits : Type 0 where
  pub digits : MOST_DIGITS ≡ 20
  pub workers : MOST_WORKERS ≡ 64
  pub files : MOST_FILES ≡ 100000
  pub port : MOST_PORT ≡ 65535
  pub secs : MOST_SECS ≡ 86400
