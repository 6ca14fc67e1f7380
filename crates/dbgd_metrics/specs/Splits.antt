-- What a split of a share gives (this project's rule).
use Rattle.std.specs.Prelude.{◌≡◌, None}
use Rattle.dbgd_metrics.specs.declared.share.ShareSplit.{ShareSplit}
use Rattle.dbgd_metrics.specs.declared.share.ShareSplit.TheVariants.{Two, OutOfMemory}
use Rattle.dbgd_metrics.specs.Shares.{ShareFacts, IsNewShare}

-- the share comes back as it was, which is a new one where it has no row, and with it a new share, which knows of the drawn rows
-- what the first knows; it takes no memory, so the other answer never comes
abbrev pub SplitsShare : ShareFacts → ShareSplit → Type 0
SplitsShare share (Two first second) =
    (first ≡ share) × (share.row ≡ None → IsNewShare share.book first) × IsNewShare share.book second × (second.drawn ≡ share.drawn)
SplitsShare share (OutOfMemory back) = ⊥
