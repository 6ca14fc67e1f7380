-- What the hand that leads a pass missed itself.
use Rattle.std.proofs.Common.{◌≡◌, inl, inr, Bool, true, false, List, [], refl, sym, ◌∙◌, ap, subst}
use Rattle.std.specs.List.{Contains}
use Rattle.std.specs.Bool.{OnTrue, OnFalse}
use Rattle.std.proofs.lemmas.Bool.{OnTrue_at, OnFalse_at, true≢false}
use Rattle.path_scope.specs.Scope.{Scope, is_in_scope}
use Rattle.row_types.specs.Faults.{Rose}
use Rattle.row_types.specs.Name.{NameFacts}
use Rattle.row_types.specs.Stamp.{StampFacts}
use Rattle.index_lock.specs.Tokens.{IsLater, SeatFacts}
use Rattle.index_lock.proofs.Later.{later_trans}
use Rattle.index_lock.proofs.Prefixes.{prefix_self}
use Rattle.index_rows.specs.declared.change.Change.{Change}
use Rattle.index_state.specs.Judge.{is_file}
use Rattle.index_state.specs.State.{Origin}
use Rattle.scan_queue.specs.declared.miss.Cause.{Cause}
use Rattle.scan_queue.specs.declared.miss.Cause.TheVariants.{ReadFault, Altered, Appeared}
use Rattle.scan_queue.specs.declared.miss.Miss.{Miss}
use Rattle.scan_queue.specs.declared.miss.Seen.{Seen}
use Rattle.scan_queue.specs.declared.miss.Seen.TheVariants as seen
use Rattle.scan_queue.proofs.NameTests.{same_stamp-Decides}
use Rattle.scan_worker.specs.Read.{FindsOther, ReadsName, heard_reading}
use Rattle.scan_worker.specs.declared.read.NameRead.{NameRead}
use Rattle.scan_worker.specs.declared.read.NameRead.TheVariants.{Failed}
use Rattle.tree_trait.specs.Found.{Versions}
use Rattle.tree_trait.specs.Heard.{Heard, stat, call_failed}
use Rattle.tree_trait.specs.Listens.{Listens, heard_or_none}
use Rattle.tree_trait.specs.Shown.{ShownTree}
use Rattle.tree_trait.specs.declared.stat.StatAnswer.{StatAnswer}
use Rattle.tree_trait.specs.declared.stat.StatAnswer.TheVariants as said
use Rattle.tree_trait.proofs.ListenLemmas.{is_heard, listens_none, listens_one}
use Rattle.groomer.specs.Looks.{LooksAtName, looked_of}
use Rattle.groomer.specs.declared.looking.Looked.{Looked}
use Rattle.groomer.specs.declared.looking.Looked.TheVariants as looked
use Rattle.pass_runner.specs.Leading.{IsStanding, LeadsInSettling, MayNote, MayNoteThere}
use Rattle.pass_runner.specs.Settled.{AreReadingsAndLooks}
use Rattle.pass_runner.specs.SharedPass.{IsMetByHand}
use Rattle.pass_runner.proofs.LeadLemmas.{leads_by, leads_quiet}
use Rattle.pass_runner.proofs.ReadsHeard.{opening_heard, readings_look, readings_none, readings_of}
use Rattle.pass_runner.proofs.Turning.{other_heard}

module _ {W : Type 0} {told : Bool} {version : Versions} {scope : Scope} {missed : List Miss} {seat taken later : SeatFacts Change Origin}
    {before after : ShownTree} {given : NameRead W} (name : NameFacts) (took : IsLater seat taken) (on : IsLater taken later)
    (does : ReadsName told version name before after given) where
  -- a listed file was opened and read, and nothing was noted
  pub leads_load : LeadsInSettling told version scope seat before later after missed missed
  leads_load =
      leads_quiet (heard_reading name does.answer does.reads) (later_trans took on) does.listens (readings_of name does)

  load_noted : {last : List Miss} (cause : Cause) → MayNote (record { name = name; cause = cause }) missed last
      → IsMetByHand seat.seen later.seen (heard_reading name does.answer does.reads) (Rose before.faults after.faults) name cause
      → LeadsInSettling told version scope seat before later after missed last
  load_noted cause noted why =
      leads_by (record { name = name; cause = cause }) (heard_reading name does.answer does.reads) (later_trans took on)
      does.listens (readings_of name does) noted why

  -- another file stood there, or none
  pub leads_other : {last : List Miss} (met : Seen) → FindsOther name does.answer met
      → MayNote (record { name = name; cause = Altered met }) missed last
      → LeadsInSettling told version scope seat before later after missed last
  leads_other met finds noted =
      load_noted (Altered met) noted
      (record {
        answer = does.answer;
        heard = opening_heard name does.answer does.reads (other_heard name does.answer met finds);
        other = finds;
      })

  -- it could not be read
  pub leads_unread : {last : List Miss} → given ≡ Failed → MayNote (record { name = name; cause = ReadFault }) missed last
      → LeadsInSettling told version scope seat before later after missed last
  leads_unread is noted = load_noted ReadFault noted (does.hands.cause.rose is)

-- what a look saw is what was answered
saw_file : (answer : StatAnswer) (stamp : StampFacts) → looked.Saw (seen.File stamp) ≡ looked_of answer
    → answer ≡ said.File stamp
saw_file (said.File other) stamp saw = cc
saw_file said.Folder stamp saw = absurd (cc)
saw_file said.Other stamp saw = absurd (cc)
saw_file said.Gone stamp saw = absurd (cc)
saw_file said.Failed stamp saw = absurd (cc)
saw_file said.OutOfMemory stamp saw = absurd (cc)

look_failed : (answer : StatAnswer) → looked.Failed ≡ looked_of answer → answer ≡ said.Failed
look_failed said.Failed saw = refl
look_failed (said.File other) saw = absurd (cc)
look_failed said.Folder saw = absurd (cc)
look_failed said.Other saw = absurd (cc)
look_failed said.Gone saw = absurd (cc)
look_failed said.OutOfMemory saw = absurd (cc)

-- what a hand heard that looked for a file under a root, or didn't
record HearsLook (told : Bool) (version : Versions) (scope : Scope) (name : NameFacts) (before after : ShownTree) (end : Looked) : Type 0 where
  more : List Heard
  listens : Listens told version before after more
  asks : AreReadingsAndLooks (is_in_scope scope) more
  saw : (stamp : StampFacts) → end ≡ looked.Saw (seen.File stamp) → Contains more (stat name.path (said.File stamp))
  rose : end ≡ looked.Failed → Rose before.faults after.faults

module _ {told : Bool} {version : Versions} {scope : Scope} where
  at_look : {name : NameFacts} {before after : ShownTree} (end : Looked) → is_in_scope scope name.path ≡ true
      → LooksAtName told version name before after end → HearsLook told version scope name before after end
  at_look {name} end under at = record {
    more = heard_or_none (stat name.path at.answer);
    listens = listens_one (stat name.path at.answer) at.asks;
    asks = readings_look name.path at.answer under;
    saw = λ stamp is.
        let answered : at.answer ≡ said.File stamp = saw_file at.answer stamp (sym is ∙ at.saw) in
        subst (λ (a : StatAnswer). Contains (heard_or_none (stat name.path a)) (stat name.path (said.File stamp))) (sym answered)
        (is_heard (stat name.path (said.File stamp)) refl);
    rose = λ is.
        at.asks.hands.cause.rose
        (ap (λ (a : StatAnswer). call_failed (stat name.path a)) (look_failed at.answer (sym is ∙ at.saw)));
  }

  no_look : {name : NameFacts} {hand : ShownTree} (end : Looked) → end ≡ looked.Saw seen.Gone
      → HearsLook told version scope name hand hand end
  no_look end unasked = record {
    more = [];
    listens = listens_none;
    asks = readings_none;
    saw = λ stamp is. absurd (cc);
    rose = λ is. absurd (cc);
  }

  look_heard : {T : Type 0} (shows : T → ShownTree) (before after : T) (under : Bool) (name : NameFacts) (end : Looked)
      → (under ≡ true → is_in_scope scope name.path ≡ true)
      → OnTrue under (LooksAtName told version name (shows before) (shows after) end)
      → OnFalse under (end ≡ looked.Saw seen.Gone) → OnFalse under (after ≡ before)
      → HearsLook told version scope name (shows before) (shows after) end
  look_heard {T} shows before after under name end own at unasked same =
      elim under as (λ b. under ≡ b → HearsLook told version scope name (shows before) (shows after) end) [
        | true ↦ λ is. at_look end (own is) (OnTrue_at is at)
        | false ↦ λ is.
            subst (λ (t : T). HearsLook told version scope name (shows before) (shows t) end) (sym (OnFalse_at is same))
            (no_look end (OnFalse_at is unasked))
      ] refl

-- the file that was seen is the name's own
own_file : (met : Seen) (stamp : StampFacts) → is_file met stamp ≡ true → met ≡ seen.File stamp
own_file (seen.File other) stamp is = ap (λ (s : StampFacts). seen.File s) (sym ((same_stamp-Decides stamp other).0 is))
own_file seen.Gone stamp is = absurd (true≢false (sym is))
own_file seen.Other stamp is = absurd (true≢false (sym is))

module _ {T : Type 0} {told : Bool} {version : Versions} {scope : Scope} {missed : List Miss}
    {seat taken : SeatFacts Change Origin} (later : SeatFacts Change Origin) (shows : T → ShownTree) (before after : T) (under : Bool)
    (name : NameFacts) (own : under ≡ true → is_in_scope scope name.path ≡ true) (took : IsLater seat taken) where
  -- the file of a row was looked for, and the row was judged
  pub leads_judged : {last : List Miss} (met : Seen)
      → OnTrue under (LooksAtName told version name (shows before) (shows after) (looked.Saw met))
      → OnFalse under (looked.Saw met ≡ looked.Saw seen.Gone) → OnFalse under (after ≡ before)
      → IsLater taken later → MayNoteThere name met later.seen missed last
      → LeadsInSettling told version scope seat (shows before) later (shows after) missed last
  leads_judged {last} met at unasked same on noted = by noted
    where
      heard : HearsLook told version scope name (shows before) (shows after) (looked.Saw met)
      heard = look_heard shows before after under name (looked.Saw met) own at unasked same

      by : MayNoteThere name met later.seen missed last
          → LeadsInSettling told version scope seat (shows before) later (shows after) missed last
      by (inl is) =
          subst (λ (l : List Miss). LeadsInSettling told version scope seat (shows before) later (shows after) missed l) (sym is)
          (leads_quiet heard.more (later_trans took on) heard.listens heard.asks)
      by (inr there) =
          leads_by (record { name = name; cause = Appeared }) heard.more (later_trans took on) heard.listens heard.asks
          (inr there.0)
          (record {
            heard = heard.saw name.stamp (ap (λ (s : Seen). looked.Saw s) (own_file met name.stamp there.1.file));
            at = later.seen;
            between = record { from = (later_trans took on).log; into = prefix_self later.seen };
            row = there.1.row;
          })

  -- the look failed
  pub leads_blind : {last : List Miss}
      → OnTrue under (LooksAtName told version name (shows before) (shows after) looked.Failed)
      → OnFalse under (looked.Failed ≡ looked.Saw seen.Gone) → OnFalse under (after ≡ before) → IsLater taken later
      → MayNote (record { name = name; cause = ReadFault }) missed last
      → LeadsInSettling told version scope seat (shows before) later (shows after) missed last
  leads_blind at unasked same on noted =
      let heard : HearsLook told version scope name (shows before) (shows after) looked.Failed
      = look_heard shows before after under name looked.Failed own at unasked same in
      leads_by (record { name = name; cause = ReadFault }) heard.more (later_trans took on) heard.listens heard.asks noted
      (heard.rose refl)

  -- memory for it was refused
  pub leads_wanting : OnTrue under (LooksAtName told version name (shows before) (shows after) looked.OutOfMemory)
      → OnFalse under (looked.OutOfMemory ≡ looked.Saw seen.Gone) → OnFalse under (after ≡ before) → IsLater taken later
      → LeadsInSettling told version scope seat (shows before) later (shows after) missed missed
  leads_wanting at unasked same on =
      let heard : HearsLook told version scope name (shows before) (shows after) looked.OutOfMemory
      = look_heard shows before after under name looked.OutOfMemory own at unasked same in
      leads_quiet heard.more (later_trans took on) heard.listens heard.asks

-- the name of a row that stands may have been noted
pub noted_there : {name : NameFacts} {met : Seen} {log : List Change} {missed last : List Miss} → IsStanding name met log
    → MayNote (record { name = name; cause = Appeared }) missed last → MayNoteThere name met log missed last
noted_there stands (inl same) = inl same
noted_there stands (inr one) = inr (one, stands)
