use Rattle.std.proofs.Common.{◌∙◌, sym}
use Rattle.std.specs.BTreeSet.{contains}
use Rattle.std.proofs.lemmas.Bool.{not-false}
use Rattle.dwarf_forms.specs.Parts.{sections_of}
use Rattle.source_paths.specs.contracts.tables.TableKeyOrd.TheImpl.{cmp-value}
use Rattle.source_paths.proofs.KeyLemmas.{read-more, read-before}
use Rattle.source_paths.proofs.OrderLemmas.{key_same}
use Rattle.source_paths.proofs.tables.add_new_table.Goals as goal

pub returns-else-branch-clause-adds : goal.returns-else-branch-clause-adds
returns-else-branch-clause-adds c =
    read-before (sections_of c.args.parts.now) cmp-value.it key_same c.args.key c.args.tables.now.seen
    (not-false (contains cmp-value.it c.args.tables.now.seen c.args.key) (sym c.in_ok-insert.ensures.added ∙ c.if-branch.false)) c.requires.all

pub returns-in_ok-keep_fixed-clause-read : goal.returns-in_ok-keep_fixed-clause-read
returns-in_ok-keep_fixed-clause-read c =
    let s = sections_of c.args.parts.now in
    record {
      all = read-more s cmp-value.it c.args.key c.args.tables.now.seen.keys c.in_ok-insert.ensures.keys c.in_ok-last.ensures.adds c.requires.all;
      fixed = c.in_ok-keep_fixed.ensures s c.in_ok-last.ensures.fixed c.requires.fixed;
      last = c.in_ok-last.ensures.last;
    }
