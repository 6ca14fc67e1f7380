-- What is so of each file that agrees with the picture is so of each that has what was read.
use Rattle.std.proofs.Common.{◌≤◌, sym, subst}
use Rattle.file_formats.specs.Table.{IsSectionAnswer}
use Rattle.file_picture.specs.Agrees.{AgreesWithPicture}
use Rattle.file_picture.specs.Picture.{PictureFacts, sum_of}
use Rattle.row_types.specs.declared.limits.TheConstants.{READ_LIMIT}
use Rattle.tree_trait.specs.Needs.{IsOfReads}
use Rattle.file_parts.specs.AtPath.{file_read, file_too_large, file_gone, file_failed, file_no_memory}
use Rattle.file_parts.specs.Found.{Decides}
use Rattle.file_parts.specs.Wholes.{IsSectionOfEach}
use Rattle.file_parts.specs.declared.part.FilePart.TheVariants as part
use Rattle.file_parts.proofs.FoundLemmas.{of_found}
use Rattle.dbgd_commands.proofs.FileLemmas.{named_as}
use Rattle.dbgd_commands.proofs.section.run_named.Goals as goal

pub say_picture-requires-clause-decides : goal.say_picture-requires-clause-decides
say_picture-requires-clause-decides g c =
    subst (Decides (part.Section c.args.name)) (sym c.picture.ensures.value) c.in-Read.ensures.decided.decides

pub say_picture-requires-clause-small : goal.say_picture-requires-clause-small
say_picture-requires-clause-small g c =
    subst (λ (p : PictureFacts). sum_of p.pieces ≤ READ_LIMIT) (sym c.picture.ensures.value) c.in-Read.ensures.decided.small

pub returns-in-Read : goal.returns-in-Read
returns-in-Read g c =
    let said = c.say_picture.ensures in
    record {
      answer = file_read c.in-Read.opened.stamp c.in-Read.ensures.reads;
      asks = c.in-Read.ensures.asks;
      said = (
        said.0,
        of_found c.in-Read.ensures.decided c.picture.ensures.holds.seen
            (λ b f. said.1 b (subst (AgreesWithPicture b) (sym c.picture.ensures.value) f)),
        named_as (IsSectionOfEach c.args.name.now c.picture.result.now)
            (λ section. IsOfReads c.in-Read.opened.stamp.size c.in-Read.ensures.reads (λ b. IsSectionAnswer b c.args.name.now section)) said.0 _ _ _
            (λ section is. of_found c.in-Read.ensures.decided c.picture.ensures.holds.seen
            (λ b f. is.is b (subst (AgreesWithPicture b) (sym c.picture.ensures.value) f))) said.2,
      );
    }

pub returns-in-TooLarge : goal.returns-in-TooLarge
returns-in-TooLarge g c =
    record { answer = file_too_large; asks = c.in-TooLarge.ensures.asks; said = c.say_plain.ensures }

pub returns-in-Gone : goal.returns-in-Gone
returns-in-Gone g c =
    record { answer = file_gone; asks = c.in-Gone.ensures.asks; said = c.say_gone.ensures }

pub returns-in-Failed : goal.returns-in-Failed
returns-in-Failed g c =
    record { answer = file_failed; asks = c.in-Failed.ensures.asks; said = c.say_fault.ensures }

pub returns-in-OutOfMemory : goal.returns-in-OutOfMemory
returns-in-OutOfMemory g c =
    record { answer = file_no_memory; asks = c.in-OutOfMemory.ensures.asks; said = c.say_no_memory.ensures }
