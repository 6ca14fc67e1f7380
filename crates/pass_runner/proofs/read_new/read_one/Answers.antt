use Rattle.pass_runner.proofs.Turning.{reads_awaited, turns_altered, turns_read, turns_unread, turns_wanting}
use Rattle.pass_runner.proofs.read_new.read_one.Goals as goal

pub publish_row-requires-clause-awaited : goal.publish_row-requires-clause-awaited
publish_row-requires-clause-awaited g c = λ κs within.
    reads_awaited c.in-Row.row c.in-Row.ensures.answer c.in-Row.ensures.reads c.in-Row.ensures.leads.0 c.requires.awaited

pub returns-in-Row : goal.returns-in-Row
returns-in-Row g c =
    turns_read c.in-Row.row c.show_index.ensures c.requires.sound c.requires.awaited c.requires.out c.in-Row.ensures
    c.publish_row.ensures

pub returns-in-Altered : goal.returns-in-Altered
returns-in-Altered g c =
    turns_altered c.miss.result c.show_index.ensures c.requires.sound c.requires.awaited c.requires.out c.in-Altered.ensures
    c.miss.ensures

pub returns-in-Failed : goal.returns-in-Failed
returns-in-Failed g c =
    turns_unread c.miss-in-Failed.result c.show_index.ensures c.requires.sound c.requires.awaited c.requires.out
    c.in-Failed.ensures c.miss-in-Failed.ensures

pub returns-in-OutOfMemory : goal.returns-in-OutOfMemory
returns-in-OutOfMemory g c =
    turns_wanting c.show_index.ensures c.requires.sound c.requires.awaited c.in-OutOfMemory.ensures
