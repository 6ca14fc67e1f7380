-- What fields say together, as the reader of heads keeps it (this project's rule).
use Rattle.std.specs.Prelude.{◌≡◌, ◌+◌, ◌||◌, List, sum_by}
use Rattle.std.specs.List.{list_any}
use Rattle.http_wire.specs.Fields.{Pair, announces, asks_close, hops_in}
use Rattle.http_wire.specs.declared.fields.Said.{Said}

-- what is said once a field is added
abbrev pub said_with : Said → Pair → Said
said_with said field = record {
  close = said.close || asks_close field;
  has_body = said.has_body || announces field;
  hops = said.hops + hops_in field;
}

-- what these fields say
pub record Says (fields : List Pair) (said : Said) : Type 0 where
  pub close : said.close ≡ list_any asks_close fields
  pub has_body : said.has_body ≡ list_any announces fields
  pub hops : said.hops ≡ sum_by hops_in fields
