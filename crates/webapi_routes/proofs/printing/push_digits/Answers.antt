-- What a slice of bytes holds is bytes.
use Rattle.std.proofs.Common.{arith}
use Rattle.webapi_routes.proofs.printing.push_digits.Goals as goal

pub returns-clause-small : goal.returns-clause-small
returns-clause-small c = λ i. omega (arith, c.type_inv.bytes i)
