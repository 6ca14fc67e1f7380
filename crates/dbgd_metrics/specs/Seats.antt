-- What a share shows of its seat, and what it keeps of it (this project's rule).
use Rattle.std.specs.Prelude.{◌≡◌, ℕ, [], Bool, false, Option, MatchOption}
use Rattle.dbgd_metrics.specs.Numbers.{zeros}
use Rattle.dbgd_metrics.specs.Rule.{CountToken, IsRowInside}
use Rattle.dbgd_metrics.specs.Shares.{ShareFacts}

-- what contracts see of a share with this seat and this mark
abbrev pub share_with : CountToken → Bool → ShareFacts
share_with token marked = record { book = token.table_id; row = token.me.0.row; numbers = token.me.0.numbers; marked = marked; loads = token.me.0.loads; drawn = token.me.0.drawn }

-- the seat has no slot, and the share has noted its row, which is one of the table; without a row it has counted nothing and isn't marked
abbrev pub HasSeat : CountToken → Option ℕ → Bool → Type 0
HasSeat token row marked =
    (token.me.1 ≡ []) × (row ≡ token.me.0.row)
    × MatchOption row ((token.me.0.numbers ≡ zeros) × (marked ≡ false)) (λ own. IsRowInside own token.table_id.words)

-- the seat, without a slot, is that of a share which shows this
pub record IsSeatOf (share : ShareFacts) (token : CountToken) : Type 0 where
  pub table : token.table_id ≡ share.book
  pub row : token.me.0.row ≡ share.row
  pub slots : token.me.1 ≡ []
