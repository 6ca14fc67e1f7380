-- What a hand that helps heard: the openings and reads of one that reads, and the looks of one that looks for files.
use Rattle.std.proofs.Common.{Bool, List, inl, inr, arith}
use Rattle.std.proofs.lemmas.List.Elements.{All-weaker}
use Rattle.row_types.specs.Name.{NameFacts}
use Rattle.index_lock.specs.Tokens.{SeatFacts}
use Rattle.index_rows.specs.declared.change.Change.{Change}
use Rattle.index_state.specs.State.{Origin}
use Rattle.tree_trait.specs.Found.{Versions}
use Rattle.tree_trait.specs.Heard.{Heard, load, stat, read_dir, open_file, read_at}
use Rattle.tree_trait.specs.Shown.{ShownTree}
use Rattle.scan_worker.specs.Works.{IsSparingLoad, Works}
use Rattle.scan_worker.specs.declared.tally.WorkReport.{WorkReport}
use Rattle.groomer.specs.Grooms.{Grooms}
use Rattle.groomer.specs.Looks.{IsLook}
use Rattle.groomer.specs.declared.report.GroomReport.{GroomReport}
use Rattle.pass_runner.specs.Helped.{Helped, IsSparing}

load_spares : (spared : List NameFacts) (asked : Heard) → IsSparingLoad spared asked → IsSparing spared asked
load_spares spared (load path limit answer) h = absurd h
load_spares spared (stat path answer) h = absurd h
load_spares spared (read_dir path answer) h = absurd h
load_spares spared (open_file path limit answer) h = h
load_spares spared (read_at name at answer) h = h

look_spares : (spared : List NameFacts) (asked : Heard) → IsLook asked → IsSparing spared asked
look_spares spared (load path limit answer) h = absurd h
look_spares spared (stat path answer) h = tt
look_spares spared (read_dir path answer) h = absurd h
look_spares spared (open_file path limit answer) h = absurd h
look_spares spared (read_at name at answer) h = absurd h

module _ (told : Bool) (version : Versions) (seat : SeatFacts Change Origin) (before : ShownTree)
    (later : SeatFacts Change Origin) (after : ShownTree) where
  pub works_helped : (report : WorkReport) → Works told version seat before later after report
      → Helped told version seat.origin.spared before after report.asked
  works_helped report h = record {
    more = h.hand.more;
    listens = h.hand.listens;
    spares =
        All-weaker (IsSparingLoad seat.origin.spared) (IsSparing seat.origin.spared) (load_spares seat.origin.spared)
        h.hand.more h.hand.spares;
    parts = inl h.hand.parts;
    loaded = omega (arith, h.hand.asked);
  }

  pub grooms_helped : (report : GroomReport) → Grooms told version seat before later after report
      → Helped told version seat.origin.spared before after 0
  grooms_helped report h = record {
    more = h.hand.more;
    listens = h.hand.listens;
    spares =
        All-weaker IsLook (IsSparing seat.origin.spared) (look_spares seat.origin.spared) h.hand.more h.hand.looks;
    parts = inr h.hand.looks;
    loaded = omega arith;
  }
