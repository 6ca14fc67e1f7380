-- What the opening of a file and the reads behind it make of the candidate.
use Rattle.std.proofs.Common.{refl}
use Rattle.file_parts.specs.AtPath.{file_too_large, file_gone}
use Rattle.answer_core.proofs.TriedLemmas.{tries_failed, tries_read, tries_refused, tries_wanting}
use Rattle.answer_core.proofs.attempt.try_file.Goals as goal

pub check_opened-requires-clause-file : goal.check_opened-requires-clause-file
check_opened-requires-clause-file g c = c.requires

pub check_opened-requires-clause-there : goal.check_opened-requires-clause-there
check_opened-requires-clause-there g c = c.in-Read.ensures.whole.there

pub returns-in-Read : goal.returns-in-Read
returns-in-Read g c =
    tries_read c.args.route.now c.args.candidate.now c.text.ensures.value c.requires c.in-Read.opened c.in-Read.ensures
    c.knows.ensures.holds c.check_opened.result c.check_opened.ensures

pub returns-in-TooLarge : goal.returns-in-TooLarge
returns-in-TooLarge g c =
    tries_refused c.args.route.now c.args.candidate.now c.text.ensures.value c.requires file_too_large (λ e. absurd (cc)) refl tt
    c.in-TooLarge.ensures.asks

pub returns-in-Gone : goal.returns-in-Gone
returns-in-Gone g c =
    tries_refused c.args.route.now c.args.candidate.now c.text.ensures.value c.requires file_gone (λ e. absurd (cc)) refl tt
    c.in-Gone.ensures.asks

pub returns-in-Failed : goal.returns-in-Failed
returns-in-Failed g c =
    tries_failed c.args.route.now c.args.candidate.now c.text.ensures.value c.requires c.in-Failed.ensures.asks

pub returns-in-OutOfMemory : goal.returns-in-OutOfMemory
returns-in-OutOfMemory g c =
    tries_wanting c.args.route.now c.args.candidate.now c.text.ensures.value c.requires c.in-OutOfMemory.ensures.asks
