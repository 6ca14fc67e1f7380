-- The link over HTTP (this project's rule).
use Rattle.std.specs.Prelude.{ℕ, None}
use Rattle.row_types.specs.Faults.{raised}
use Rattle.federation.specs.Link.{ShownLink}
use Rattle.federation.specs.declared.link.LinkAnswer.{LinkAnswer}
use Rattle.federation.specs.declared.link.LinkAnswer.TheVariants.{Failed, OutOfMemory, Reply}
use Rattle.upstream_wire.specs.declared.exchange.Answer.{Answer}
use Rattle.upstream_wire.specs.declared.exchange.Answer.TheVariants as answer

-- what it shows: no questions, and its count of faults
abbrev pub shown_http : ℕ → ShownLink
shown_http faults = record { asked = None; faults = faults }

-- what a dial answered, by the answer of the link
abbrev pub answer_told : LinkAnswer → Answer
answer_told (Reply status body) = answer.Response (record { status = status; body = body })
answer_told Failed = answer.Failed
answer_told OutOfMemory = answer.OutOfMemory

-- the count after an answer: one more where it is that the link failed
abbrev pub count_after : LinkAnswer → ℕ → ℕ
count_after Failed faults = raised faults
count_after _ faults = faults
