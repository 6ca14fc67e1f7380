-- Where the source ended.
use Rattle.std.proofs.Common.{◌≡◌, ℕ, ◌<◌, ◌≤◌, Bool, true, false, inl, inr, List, ◌++◌, length, refl, sym, ap, ◌∙◌, subst, arith}
use Rattle.std.specs.Prelude.{IsTrue, ◌==◌, if◌then◌else◌}
use Rattle.std.proofs.lemmas.Bool.{cases_lt}
use Rattle.std.proofs.lemmas.List.{append-nil}
use Rattle.httparse.specs.Grammar.{HasNoRequest}
use Rattle.row_types.specs.Faults.{Rose}
use Rattle.http_wire.specs.Find.{FindsHead, Gathers, IsFind, find_failed, found_at_end}
use Rattle.http_wire.specs.Heads.{IsStillOpen}
use Rattle.http_wire.specs.Room.{Fills}
use Rattle.http_wire.specs.Stream.{ShownStream}
use Rattle.http_wire.specs.declared.find.Find.TheVariants.{Closed, Refused}
use Rattle.http_wire.specs.declared.head.HeadFault.TheVariants.{Cut}
use Rattle.http_wire.specs.declared.source.ReadAnswer.TheVariants.{End}
use Rattle.http_wire.proofs.ConnLemmas.{is_empty, is_none, not_none}
use Rattle.http_wire.proofs.GatherLemmas.{gathers_end}

-- the source ended behind bytes that hold no head
pub finds_end : {held bytes more : List ℕ} {before between after : ShownStream} → Gathers held before bytes between
    → Fills bytes between more after End → HasNoRequest bytes × IsStillOpen bytes → length bytes ≤ 16384
    → (length bytes ≡ 16384 → ⊥) → FindsHead held before more after (found_at_end (length bytes))
finds_end {held} {bytes} {more} {before} {between} {after} had fills seen short apart = record {
  gathers = gathers_end had fills;
  is = by_count (length bytes == 0) refl;
  rose = not_failed (length bytes == 0);
}
  where
    same : more ≡ bytes
    same = fills.all ∙ ap (λ came. bytes ++ came) fills.is.0 ∙ append-nil bytes

    inside : length bytes < 16384
    inside =
        elim (cases_lt (length bytes) 16384) [
          | inl less ↦ less
          | inr more_than ↦ absurd (apart (omega arith))
        ]

    by_count : (b : Bool) → (length bytes == 0) ≡ b
        → IsFind more after.left (if b then Closed else Refused (Cut (length bytes)))
    by_count true count = (same ∙ is_empty bytes (is_none _ count), fills.is.1)
    by_count false count = (
      ap length (sym same),
      not_none _ count,
      inside,
      subst HasNoRequest (sym same) seen.0,
      fills.is.1,
      subst IsStillOpen (sym same) seen.1,
    )

    not_failed : (b : Bool) → IsTrue (find_failed (if b then Closed else Refused (Cut (length bytes))))
        → Rose before.read_faults after.read_faults
    not_failed true wrong = absurd (cc)
    not_failed false wrong = absurd (cc)
