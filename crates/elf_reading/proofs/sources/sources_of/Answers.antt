use Rattle.std.proofs.Common.{ap}
use Rattle.std.specs.Prelude.{option_map}
use Rattle.dwarf_forms.specs.Parts.{sections_of}
use Rattle.elf_reading.proofs.SourceLemmas.{no_sources, sources_found}
use Rattle.elf_reading.proofs.sources.sources_of.Goals as goal

pub returns-in-Some-clause-sources : goal.returns-in-Some-clause-sources
returns-in-Some-clause-sources c =
    sources_found c.sources.result (option_map sections_of c.args.parts) (sections_of c.in-Some.parts)
    (ap (option_map sections_of) c.in-Some.is) c.sources.ensures.exact c.sources.ensures.ascends

pub returns-in-None-clause-sources : goal.returns-in-None-clause-sources
returns-in-None-clause-sources c =
    no_sources (option_map sections_of c.args.parts) c.new.result (ap (option_map sections_of) c.in-None.is) c.new.ensures
