-- What was said so far, and what the fields from here on say.
use Rattle.std.proofs.Common.{◌≡◌, ℕ, ◌+◌, ◌-◌, ◌*◌, ◌≤◌, ◌||◌, List, length, drop, map, sum_by}
use Rattle.std.specs.List.{list_any}
use Rattle.httparse.specs.Spans.{header_bytes}
use Rattle.httparse.specs.declared.spans.HeaderSpan.{HeaderSpan}
use Rattle.http_wire.specs.Fields.{announces, asks_close, hops_in}
use Rattle.http_wire.specs.declared.fields.Said.{Said}
use Rattle.http_wire.proofs.fields.read_fields.Given as goal

-- what was said of the first fields, together with the others, is what all say
pub record SaysSoFar (bytes : List ℕ) (headers : List HeaderSpan) (at : ℕ) (said : Said) : Type 0 where
  pub within : at ≤ length headers
  pub close : (said.close || list_any asks_close (map (header_bytes bytes) (drop at headers)))
      ≡ list_any asks_close (map (header_bytes bytes) headers)
  pub has_body : (said.has_body || list_any announces (map (header_bytes bytes) (drop at headers)))
      ≡ list_any announces (map (header_bytes bytes) headers)
  pub hops : said.hops + sum_by hops_in (map (header_bytes bytes) (drop at headers))
      ≡ sum_by hops_in (map (header_bytes bytes) headers)
  pub few : said.hops ≤ 16385 * at

abbrev pub invariant-loop-at : goal.invariant-loop-at
invariant-loop-at l = SaysSoFar l.bytes l.headers l.at l.said

abbrev pub decreases-loop-at : goal.decreases-loop-at
decreases-loop-at l = length l.headers - l.at
