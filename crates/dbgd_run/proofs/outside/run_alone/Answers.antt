use Rattle.std.proofs.Common.{◌<◌, length, inl, refl, arith}
use Rattle.file_formats.specs.Parts.{IsSomePart, IsSomeSection}
use Rattle.file_formats.specs.Windows.{IsSomeWindow}
use Rattle.dbgd_commands.specs.Ident.{SaysIdent}
use Rattle.dbgd_commands.specs.Section.{SaysSection}
use Rattle.dbgd_commands.specs.Sources.{SaysSources}
use Rattle.dbgd_commands.proofs.HandLemmas.{runs_file}
use Rattle.dbgd_run.proofs.outside.run_alone.Goals as goal

pub returns-in-Ident-clause-law : goal.returns-in-Ident-clause-law
returns-in-Ident-clause-law g c =
    let one = (rw c.in-Ident.is at c.requires.hand) (omega arith) in
    let some : 0 < length c.args.outside.now.hands.items = omega (arith, one, c.args.outside.now.hands.ok.0) in
    rw c.in-Ident.is
    (runs_file _ c.in-Ident.path.now (SaysIdent c.in-Ident.path.now) IsSomeWindow c.index_mut.result.now c.run_ident.new.hand c.args.outside.now.hands.items
    c.index_mut.ensures.value some c.run_ident.ensures)

pub returns-in-Sources-clause-law : goal.returns-in-Sources-clause-law
returns-in-Sources-clause-law g c =
    let one = (rw c.in-Sources.is at c.requires.hand) (omega arith) in
    let some : 0 < length c.args.outside.now.hands.items = omega (arith, one, c.args.outside.now.hands.ok.0) in
    rw c.in-Sources.is
    (runs_file _ c.in-Sources.path.now (SaysSources c.in-Sources.path.now) IsSomePart c.index_mut-in-Sources.result.now c.run_sources.new.hand c.args.outside.now.hands.items
    c.index_mut-in-Sources.ensures.value some c.run_sources.ensures)

pub returns-in-Section-clause-law : goal.returns-in-Section-clause-law
returns-in-Section-clause-law g c =
    let one = (rw c.in-Section.is at c.requires.hand) (omega arith) in
    let some : 0 < length c.args.outside.now.hands.items = omega (arith, one, c.args.outside.now.hands.ok.0) in
    rw c.in-Section.is
    (runs_file _ c.in-Section.path.now (SaysSection c.in-Section.path.now c.in-Section.name.now)
    (IsSomeSection c.in-Section.name.now) c.index_mut-in-Section.result.now c.run_section.new.hand c.args.outside.now.hands.items
    c.index_mut-in-Section.ensures.value some c.run_section.ensures)

pub returns-in-Query-clause-law : goal.returns-in-Query-clause-law
returns-in-Query-clause-law g c = rw c.in-Query.is (record { answers = c.run_query.ensures; hands = refl })

pub returns-in-Program-clause-law : goal.returns-in-Program-clause-law
returns-in-Program-clause-law g c =
    rw c.in-Program.is
    (record { text = c.as_bytes.result.now; says = inl c.say.ensures; hands = refl; store = refl })

pub returns-in-Help-clause-law : goal.returns-in-Help-clause-law
returns-in-Help-clause-law g c =
    rw c.in-Help.is
    (record { text = c.as_bytes-in-Help.result.now; says = inl c.say-in-Help.ensures; hands = refl; store = refl })
