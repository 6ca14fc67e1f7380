-- What the load of a source makes of the candidate.
use Rattle.std.proofs.Common.{ap}
use Rattle.answer_core.specs.Given.{source_given}
use Rattle.answer_core.specs.declared.given.Given.TheVariants as given
use Rattle.answer_core.proofs.TriedLemmas.{tries_gone, tries_loaded, tries_too_large, tries_unloaded, tries_unmade}
use Rattle.answer_core.proofs.attempt.try_source.Goals as goal

pub returns-in-Found : goal.returns-in-Found
returns-in-Found g c =
    tries_loaded c.args.route.now c.args.candidate.now c.text.ensures.value c.requires c.in-Found.found
    (given.Source c.bytes_of.result) (ap source_given c.bytes_of.ensures) c.in-Found.ensures.asks

pub returns-in-TooLarge : goal.returns-in-TooLarge
returns-in-TooLarge g c =
    tries_too_large c.args.route.now c.args.candidate.now c.text.ensures.value c.requires _
    c.in-TooLarge.ensures.asks

pub returns-in-Gone : goal.returns-in-Gone
returns-in-Gone g c =
    tries_gone c.args.route.now c.args.candidate.now c.text.ensures.value c.requires c.in-Gone.ensures.asks

pub returns-in-Failed : goal.returns-in-Failed
returns-in-Failed g c =
    tries_unloaded c.args.route.now c.args.candidate.now c.text.ensures.value c.requires c.in-Failed.ensures.asks

pub returns-in-OutOfMemory : goal.returns-in-OutOfMemory
returns-in-OutOfMemory g c =
    tries_unmade c.args.route.now c.args.candidate.now c.text.ensures.value c.requires c.in-OutOfMemory.ensures.asks
