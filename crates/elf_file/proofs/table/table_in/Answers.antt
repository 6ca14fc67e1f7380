use Rattle.elf_file.proofs.TestLemmas.{fails_first, fails_last, reads_table, fails_names}
use Rattle.elf_file.proofs.table.table_in.Goals as goal

pub returns-in-Err : goal.returns-in-Err
returns-in-Err c =
    fails_first c.args.view.now c.in_ok-head.head c.in-Err.fault c.in_ok-head.ensures c.in-Err.ensures.fault c.in-Err.ensures.ends

pub returns-in-Err-last_tests : goal.returns-in-Err-last_tests
returns-in-Err-last_tests c =
    fails_last c.args.view.now c.in_ok-head.head c.in-Err-last_tests.fault c.in_ok-head.ensures c.in_ok-zero.ensures.all
    c.in-Err-last_tests.ensures.fault c.in-Err-last_tests.ensures.ends

pub returns-then-names_are_there : goal.returns-then-names_are_there
returns-then-names_are_there c =
    reads_table c.args.view.now c.in_ok-head.head c.describe-table.result c.in_ok-entries.entries.now c.names_are_there.result
    c.in_ok-head.ensures c.in-Ok.ensures.ok c.in_ok-entries.ensures c.describe-table.ensures c.names_are_there.ensures
    c.if-names_are_there.true

pub returns-else-names_are_there : goal.returns-else-names_are_there
returns-else-names_are_there c =
    fails_names c.args.view.now c.in_ok-head.head c.describe-table.result c.in_ok-entries.entries.now c.names_are_there.result
    c.in_ok-head.ensures c.in-Ok.ensures.ok c.in_ok-entries.ensures c.describe-table.ensures c.names_are_there.ensures
    c.if-names_are_there.false
