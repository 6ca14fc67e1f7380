-- Nothing is written on the output.
use Rattle.std.proofs.Common.{refl}
use Rattle.http_wire.proofs.Pieces.{gets_none}
use Rattle.dbgd_commands.proofs.speech.say_error.Goals as goal

pub returns : goal.returns
returns g c = record { ends = refl; out = gets_none (g.O.Stream.shows c.args.out.now); err = c.tell.ensures }
