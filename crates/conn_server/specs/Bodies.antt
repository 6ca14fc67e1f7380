-- What a reply carries, and what is decided for a request, as plain data (this project's rule): an open file is seen as the path and
-- the stamp with which it was opened.
use Rattle.std.specs.Prelude.{ℕ, String}
use Rattle.std.specs.Global.{Global}
use Rattle.row_types.specs.Name.{NameFacts}
use Rattle.answer_check.specs.declared.passed.Passed.{Passed}
use Rattle.answer_core.specs.Local.{LocalFacts, file_found, section_found, source_found}
use Rattle.conn_server.specs.declared.body.Body.{Body}
use Rattle.conn_server.specs.declared.body.Body.TheVariants as kept
use Rattle.conn_server.specs.declared.decide.Decided.{Decided}
use Rattle.conn_server.specs.declared.reason.Reason.{Reason}
use Rattle.conn_server.specs.declared.report.Asked.{Asked}

-- what is carried: the line of a reason, what passed here, what passed of a link's answer, or the text of a page
pub data BodyFacts : Type 0 where
  own_line : BodyFacts
  found_here : (answer : LocalFacts) → BodyFacts
  found_upstream : (given : Passed) → BodyFacts
  page_text : (text : String Global) → BodyFacts

-- what is carried, by the path and the stamp with which files were opened; what passed here has this generation
abbrev pub body_facts : {F : Type 0} → (F → NameFacts) → ℕ → Body F → BodyFacts
body_facts opened n kept.Line = own_line
body_facts opened n (kept.File from file path) = found_here (file_found from (opened file) path n)
body_facts opened n (kept.Section from path) = found_here (section_found from path n)
body_facts opened n (kept.Source bytes path) = found_here (source_found bytes.items path n)
body_facts opened n (kept.Upstream given) = found_upstream given
body_facts opened n (kept.Page text) = page_text text

-- what is asked, why it gets its reply, the length of the index's log as it was asked, and what the reply carries
pub record DecidedFacts : Type 0 where
  pub asked : Asked
  pub reason : Reason
  pub generation : ℕ
  pub body : BodyFacts

-- what is decided, by the path and the stamp with which files were opened
abbrev pub decided_facts : {F : Type 0} → (F → NameFacts) → Decided F → DecidedFacts
decided_facts opened decided = record {
  asked = decided.asked;
  reason = decided.reason;
  generation = decided.generation;
  body = body_facts opened decided.generation decided.body;
}
