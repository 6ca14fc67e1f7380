-- How a pass ends by its last hold, and by the plan of its first.
use Rattle.std.proofs.Common.{◌≡◌, ◌+◌, ◌<◌, inl, inr, Bool, List, [], ◌∷◌, ◌++◌, length, sym, ◌∙◌, ap, subst, arith}
use Rattle.std.specs.List.{Contains}
use Rattle.std.proofs.lemmas.List.{append-nil, length-append}
use Rattle.std.proofs.lemmas.List.Elements.{All-contains}
use mathlib.Core.List.{IsPrefix}
use Rattle.path_scope.specs.Scope.{Scope}
use Rattle.row_types.specs.Faults.{Rose}
use Rattle.row_types.specs.Name.{NameFacts}
use Rattle.row_types.specs.Rules.{Rules}
use Rattle.index_lock.proofs.Prefixes.{prefix_self, prefix_trans}
use Rattle.index_rows.specs.declared.change.Change.{Change}
use Rattle.scan_queue.specs.declared.miss.Miss.{Miss}
use Rattle.index_state.specs.Changes.{EachChanges, EndsVoid}
use Rattle.index_state.specs.declared.answer.Plan.{Plan}
use Rattle.index_state.proofs.VoidEnds.{never_both}
use Rattle.tree_trait.specs.Shown.{ShownTree}
use Rattle.index_lock.specs.Tokens.{SeatFacts}
use Rattle.index_state.specs.State.{Origin}
use Rattle.pass_runner.proofs.ReadsHeard.{readings_none}
use Rattle.pass_runner.specs.Leading.{EndsPlanned, IsMissNoted, IsPlanned, LastShows, LeadsInSettling, LeadsPass, SettlesLast}
use Rattle.pass_runner.specs.Numbers.{summary_of}
use Rattle.pass_runner.specs.SharedPass.{EndsListed, IsMetByHand}
use Rattle.pass_runner.specs.declared.pass_end.PassEnd.{PassEnd}
use Rattle.pass_runner.specs.declared.pass_end.PassEnd.TheVariants.{Whole, Missed, Walk, Broken}
use Rattle.pass_runner.specs.declared.pass_end.PassEnd.TheVariants.{KeeperFault, LogFull, OutOfMemory}
use Rattle.pass_runner.specs.declared.summary.Summary.{Summary}
use Rattle.pass_runner.proofs.LeadLemmas.{met_as}
use Rattle.tree_trait.proofs.ListenLemmas.{listens_none}

-- the settling, and what the last hold shows
pub settles_last : {told : Bool} (world : Rules) {listing : List NameFacts} {scope : Scope} {plan : Plan}
    {seat mid : SeatFacts Change Origin} (log : List Change) {before after : ShownTree} {met : List Miss}
    → LeadsInSettling told world.version scope seat before mid after [] met → IsPrefix mid.seen log → (end : PassEnd)
    → LastShows world listing scope plan met log end
    → SettlesLast world told listing scope plan seat.seen log before after end
settles_last world {listing} {scope} {plan} {seat} {mid} log {before} {after} {met} led on end shows = record {
  more = led.more;
  listens = led.listens;
  asks = led.asks;
  ends = by end shows;
}
  where
    Failed : Type 0
    Failed = Rose before.faults after.faults

    none_in : (m : Miss) → Contains [] m → ⊥
    none_in m h = absurd (omega (arith, h.1))

    own_met : (m : Miss) → Contains met m → IsMetByHand seat.seen log led.more Failed m.name m.cause
    own_met m there = noted m (All-contains (IsMissNoted seat.seen mid.seen led.more Failed []) met m led.noted there)
      where
        noted : (m : Miss) → IsMissNoted seat.seen mid.seen led.more Failed [] m
            → IsMetByHand seat.seen log led.more Failed m.name m.cause
        noted m (inl none) = absurd (none_in m none)
        noted m (inr why) =
            met_as seat.seen mid.seen seat.seen log led.more led.more (prefix_self seat.seen) on (λ h there. there) (λ f. f)
            m.name m.cause why

    by : (e : PassEnd) → LastShows world listing scope plan met log e
        → EndsPlanned world listing scope plan seat.seen log led.more Failed e
    by (Whole summary) h = h
    by (Missed miss) h =
        record { why = own_met miss h.among; of_pass = h.of_pass; stands = h.stands; sound = h.sound }
    by (Walk fault) h = absurd h
    by Broken h = absurd h
    by KeeperFault h = h
    by LogFull h = h
    by OutOfMemory h = tt

-- a void change comes behind a log without one
pub void_since : (early late : List Change) → IsPrefix early late → EachChanges [] early → EndsVoid late
    → length early < length late
void_since early late p each void = by p.0 p.1
  where
    by : (rest : List Change) → early ++ rest ≡ late → length early < length late
    by [] is = absurd (never_both (subst (λ (l : List Change). EachChanges [] l) (sym (append-nil early) ∙ is) each) void)
    by (x ∷ xs) is =
        let long = ap (λ (l : List Change). length l) is in
        let both = length-append early (x ∷ xs) in
        omega (arith, long, both)

-- the whole pass over a listing, which was planned at its first hold
pub leads_planned : {told : Bool} (world : Rules) {listing : List NameFacts} {scope : Scope} {plan : Plan}
    (brought first mid last : List Change) {before after : ShownTree} (end : PassEnd) → IsPrefix brought first
    → IsPlanned listing plan first → IsPrefix first mid → IsPrefix mid last
    → SettlesLast world told listing scope plan mid last before after end
    → LeadsPass world told listing scope brought last before after end
leads_planned world {listing} {scope} {plan} brought first mid last {before} {after} end front planned help on settled = record {
  more = settled.more;
  listens = settled.listens;
  asks = settled.asks;
  ends = by end settled.ends;
}
  where
    Failed : Type 0
    Failed = Rose before.faults after.faults

    to_mid : IsPrefix brought mid
    to_mid = prefix_trans brought first mid front help

    to_last : IsPrefix first last
    to_last = prefix_trans first mid last help on

    by : (e : PassEnd) → EndsPlanned world listing scope plan mid last settled.more Failed e
        → EndsListed world listing scope brought last settled.more Failed e
    by (Whole summary) h =
        let files : summary.files ≡ plan.files = ap (λ (s : Summary). s.files) h.numbers in
        record {
          names = h.names;
          sound = h.sound;
          at = first;
          between = record { from = front; into = to_last };
          rows = h.rows;
          stand = h.stand;
          numbers = h.numbers ∙ ap (λ (p : Plan). summary_of p h.rows) planned.planned;
          files = files ∙ ap (λ (p : Plan). p.files) planned.planned;
          parts = ap (λ (s : Summary). s.added + s.replaced + s.kept) h.numbers ∙ planned.parts ∙ sym files;
        }
    by (Missed miss) h = record {
      why =
          met_as mid last brought last settled.more settled.more to_mid (prefix_self last) (λ x there. there) (λ f. f)
          miss.name miss.cause h.why;
      of_pass = h.of_pass;
      stands = h.stands;
      sound = h.sound;
    }
    by (Walk fault) h = absurd h
    by Broken h = absurd h
    by KeeperFault h =
        let since = void_since first last to_last planned.sound h in
        let short = ap (λ (l : List Change). length l) front.1 in
        let both = length-append brought front.0 in
        record { void = h; since = omega (arith, since, short, both) }
    by LogFull h = h
    by OutOfMemory h = tt

-- where the last hold was over copies of the listing and of the scope
pub leads_again : {told : Bool} (world : Rules) {listing : List NameFacts} {scope : Scope} {plan : Plan}
    (brought first mid last : List Change) {before after : ShownTree} (end : PassEnd) → IsPrefix brought first
    → IsPlanned listing plan first → IsPrefix first mid → IsPrefix mid last → {again : List NameFacts}
    {scope_again : Scope} → again ≡ listing → scope_again ≡ scope
    → SettlesLast world told again scope_again plan mid last before after end
    → LeadsPass world told listing scope brought last before after end
leads_again {told} world {listing} {scope} {plan} brought first mid last {before} {after} end front planned help on {again} {scope_again} same_names same_scope settled =
    leads_planned world brought first mid last end front planned help on
    (subst (λ (rs : Scope). SettlesLast world told listing rs plan mid last before after end) same_scope
    (subst (λ (ns : List NameFacts). SettlesLast world told ns scope_again plan mid last before after end) same_names settled))

-- a pass that ended at its first hold, or before it
pub leads_early : {told : Bool} (world : Rules) (listing : List NameFacts) (scope : Scope) (brought log : List Change)
    {hand : ShownTree} (end : PassEnd) → EndsListed world listing scope brought log [] (Rose hand.faults hand.faults) end
    → LeadsPass world told listing scope brought log hand hand end
leads_early world listing scope brought log end ends =
    record { more = []; listens = listens_none; asks = readings_none; ends = ends }

-- a pass that was begun doesn't end as one that could not be
pub settled_sound : {told : Bool} (world : Rules) {listing : List NameFacts} {scope : Scope} {plan : Plan}
    {brought log : List Change} {before after : ShownTree} (end : PassEnd)
    → SettlesLast world told listing scope plan brought log before after end → end ≡ Broken → ⊥
settled_sound world Broken h is = h.ends
settled_sound world (Whole summary) h is = cc
settled_sound world (Missed miss) h is = cc
settled_sound world (Walk fault) h is = h.ends
settled_sound world KeeperFault h is = cc
settled_sound world LogFull h is = cc
settled_sound world OutOfMemory h is = cc
