-- What the hand that leads a pass heard and noted, from nothing and one after the other.
use Rattle.std.proofs.Common.{inl, inr, Bool, List, [], ◌∷◌, ◌++◌, sym, subst}
use Rattle.std.specs.List.{All, Contains}
use Rattle.std.proofs.lemmas.List.Elements.{All-append, All-cons, All-contains, All-contains_itself, All-nil, All-weaker, Contains-append_left, Contains-append_right}
use mathlib.Core.List.{IsPrefix}
use Rattle.path_scope.specs.Scope.{Scope, is_in_scope}
use Rattle.row_types.specs.Faults.{Rose}
use Rattle.row_types.specs.Name.{NameFacts}
use Rattle.index_lock.specs.Tokens.{IsLater, SeatFacts}
use Rattle.index_lock.proofs.Later.{later_self, later_trans}
use Rattle.index_lock.proofs.Prefixes.{prefix_self, prefix_trans}
use Rattle.index_rows.specs.declared.change.Change.{Change}
use Rattle.index_state.specs.State.{Origin}
use Rattle.scan_queue.specs.declared.miss.Cause.{Cause}
use Rattle.scan_queue.specs.declared.miss.Cause.TheVariants.{ReadFault, Altered, Appeared}
use Rattle.scan_queue.specs.declared.miss.Miss.{Miss}
use Rattle.tree_trait.specs.Found.{Versions}
use Rattle.tree_trait.specs.Heard.{Heard}
use Rattle.tree_trait.specs.Listens.{Listens}
use Rattle.tree_trait.specs.Shown.{ShownTree}
use Rattle.tree_trait.proofs.ListenLemmas.{listens_none, listens_then}
use Rattle.pass_runner.specs.Leading.{IsMissNoted, LeadsInSettling, MayNote}
use Rattle.pass_runner.specs.Settled.{AreReadingsAndLooks}
use Rattle.pass_runner.specs.SharedPass.{IsMetByHand}
use Rattle.pass_runner.proofs.Moves.{rose_after, rose_before}
use Rattle.pass_runner.proofs.ReadsHeard.{readings_both, readings_none}

-- what a hand met stays met, of an earlier log up to a later one, and among more answers
pub met_as : (brought log first last : List Change) (some more : List Heard) {Failed Fails : Type 0}
    → IsPrefix first brought → IsPrefix log last → ((h : Heard) → Contains some h → Contains more h) → (Failed → Fails)
    → (name : NameFacts) (cause : Cause) → IsMetByHand brought log some Failed name cause → IsMetByHand first last more Fails name cause
met_as brought log first last some more front back among so name ReadFault h = so h
met_as brought log first last some more front back among so name (Altered met) h =
    record { answer = h.answer; heard = among _ h.heard; other = h.other }
met_as brought log first last some more front back among so name Appeared h = record {
  heard = among _ h.heard;
  at = h.at;
  between = record {
    from = prefix_trans first brought h.at front h.between.from;
    into = prefix_trans h.at log last h.between.into back;
  };
  row = h.row;
}

still_noted : (brought log : List Change) (answers : List Heard) (Failed : Type 0) (missed : List Miss)
    → All (IsMissNoted brought log answers Failed missed) missed
still_noted brought log answers Failed missed =
    All-weaker (Contains missed) (IsMissNoted brought log answers Failed missed) (λ m before. inl before) missed
    (All-contains_itself missed)

module _ {told : Bool} {version : Versions} {scope : Scope} {missed : List Miss} where
  -- nothing was noted
  pub leads_quiet : {seat later : SeatFacts Change Origin} {before after : ShownTree} (more : List Heard)
      → IsLater seat later → Listens told version before after more → AreReadingsAndLooks (is_in_scope scope) more
      → LeadsInSettling told version scope seat before later after missed missed
  leads_quiet {seat} {later} {before} {after} more on listens asks = record {
    later = on;
    more = more;
    listens = listens;
    asks = asks;
    noted = still_noted seat.seen later.seen more (Rose before.faults after.faults) missed;
  }

  -- the token alone went on
  pub leads_later : {seat later : SeatFacts Change Origin} {hand : ShownTree} → IsLater seat later
      → LeadsInSettling told version scope seat hand later hand missed missed
  leads_later on = leads_quiet [] on listens_none readings_none

  -- nothing was done
  pub leads_none : {seat : SeatFacts Change Origin} {hand : ShownTree}
      → LeadsInSettling told version scope seat hand seat hand missed missed
  leads_none {seat} = leads_later (later_self seat)

  -- a miss may have been noted
  pub leads_by : {seat later : SeatFacts Change Origin} {before after : ShownTree} {last : List Miss} (miss : Miss)
      (more : List Heard) → IsLater seat later → Listens told version before after more → AreReadingsAndLooks (is_in_scope scope) more
      → MayNote miss missed last
      → IsMetByHand seat.seen later.seen more (Rose before.faults after.faults) miss.name miss.cause
      → LeadsInSettling told version scope seat before later after missed last
  leads_by {seat} {later} {before} {after} {last} miss more on listens asks noted why = record {
    later = on;
    more = more;
    listens = listens;
    asks = asks;
    noted = by noted;
  }
    where
      Noted : Miss → Type 0
      Noted = IsMissNoted seat.seen later.seen more (Rose before.faults after.faults) missed

      by : MayNote miss missed last → All Noted last
      by (inl same) =
          subst (λ (l : List Miss). All Noted l) (sym same)
          (still_noted seat.seen later.seen more (Rose before.faults after.faults) missed)
      by (inr one) =
          subst (λ (l : List Miss). All Noted l) (sym one)
          (All-append Noted missed (miss ∷ [])
          (still_noted seat.seen later.seen more (Rose before.faults after.faults) missed)
          (All-cons Noted miss [] (inr why) (All-nil Noted)))

-- one after the other
pub leads_then : {told : Bool} {version : Versions} {scope : Scope} {seat between later : SeatFacts Change Origin}
    {before mid after : ShownTree} {missed some last : List Miss}
    → LeadsInSettling told version scope seat before between mid missed some → LeadsInSettling told version scope between mid later after some last
    → LeadsInSettling told version scope seat before later after missed last
leads_then {told} {version} {scope} {seat} {between} {later} {before} {mid} {after} {missed} {some} {last} p q = record {
  later = later_trans p.later q.later;
  more = p.more ++ q.more;
  listens = listens_then p.listens q.listens;
  asks = readings_both q.more p.asks q.asks;
  noted = All-weaker Second All_ on last q.noted;
}
  where
    First : Miss → Type 0
    First = IsMissNoted seat.seen between.seen p.more (Rose before.faults mid.faults) missed

    Second : Miss → Type 0
    Second = IsMissNoted between.seen later.seen q.more (Rose mid.faults after.faults) some

    All_ : Miss → Type 0
    All_ = IsMissNoted seat.seen later.seen (p.more ++ q.more) (Rose before.faults after.faults) missed

    early : (m : Miss) → First m → All_ m
    early m (inl there) = inl there
    early m (inr why) =
        inr (met_as seat.seen between.seen seat.seen later.seen p.more (p.more ++ q.more) (prefix_self seat.seen) q.later.log
        (λ h. Contains-append_left p.more q.more h) (λ rose. rose_before before.faults rose q.listens.hand.cause.later)
        m.name m.cause why)

    on : (m : Miss) → Second m → All_ m
    on m (inl there) = early m (All-contains First some m p.noted there)
    on m (inr why) =
        inr (met_as between.seen later.seen seat.seen later.seen q.more (p.more ++ q.more) p.later.log (prefix_self later.seen)
        (λ h. Contains-append_right p.more q.more h) (λ rose. rose_after p.listens.hand.cause.later rose)
        m.name m.cause why)
