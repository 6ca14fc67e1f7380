use Rattle.byte_read.proofs.TextLemmas.{first_is_position}
use Rattle.byte_read.proofs.text.text_size.Goals as goal

pub returns-clause-value : goal.returns-clause-value
returns-clause-value c = first_is_position 0 c.args.bytes.now _ c.memchr.ensures
