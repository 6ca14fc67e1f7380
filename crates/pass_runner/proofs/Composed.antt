-- What the settling did, from nothing and one after the other.
use Rattle.std.proofs.Common.{◌≡◌, ℕ, ◌+◌, ◌⊎◌, inl, inr, Bool, true, List, [], ◌++◌, refl, sym, ◌∙◌, ap, subst, arith}
use Rattle.std.specs.List.{All, Contains}
use Rattle.std.proofs.lemmas.Bool.{false_from_ne_true, true≢false}
use Rattle.std.proofs.lemmas.List.Elements.{All-nil, All-append, All-weaker, Contains-append_cases}
use Rattle.row_types.specs.Faults.{Rose}
use Rattle.row_types.specs.Name.{NameFacts}
use Rattle.row_types.specs.Row.{RowFacts}
use Rattle.index_keeper.specs.Keeper.{ShownKeeper}
use Rattle.index_rows.specs.Rows.{row_names}
use Rattle.index_state.specs.Invariant.{IndexInvariant}
use Rattle.index_state.specs.Marks.{is_marked}
use Rattle.index_state.specs.State.{StateFacts, pass_or_none}
use Rattle.scan_queue.specs.Names.{is_in, is_path_in}
use Rattle.scan_queue.specs.declared.miss.Seen.{Seen}
use Rattle.scan_worker.specs.Read.{heard_opening}
use Rattle.tree_trait.specs.Found.{Versions}
use Rattle.tree_trait.specs.Heard.{Heard, load, stat, read_dir, open_file, read_at}
use Rattle.tree_trait.specs.Listens.{Listens}
use Rattle.tree_trait.specs.Shown.{ShownTree}
use Rattle.pass_runner.specs.Settled.{AreReadingsAndLooks, Advances, AlteredAreMissed, IsHeardAltered, HadNoRow, IsPassOn, Proceeds, Settles, Wants, is_missed, times_loaded}
use Rattle.pass_runner.specs.Turns.{TakesNames}
use Rattle.tree_trait.proofs.ListenLemmas.{listens_none, listens_then}
use Rattle.pass_runner.proofs.Altered.{unaltered_none}
use Rattle.pass_runner.proofs.Loads.{loads_append, todo_once}
use Rattle.pass_runner.proofs.Moves.{advances_then, moves_same, rose_after, rose_before, same_listing, still_missed}
use Rattle.pass_runner.proofs.NameLists.{in_by_stamp}
use Rattle.pass_runner.proofs.ReadsHeard.{readings_both, readings_none}

module _ {K : Type 0} {told : Bool} {version : Versions} {shows : K → ShownKeeper} where
  -- by what was heard, and where the index went
  abbrev pub settles_by : {before after : ShownTree} {old new : StateFacts K} {answers : List Heard}
      → Listens told version before after answers
      → All (Wants old) answers
      → AreReadingsAndLooks (is_marked old.pass) answers
      → AlteredAreMissed (pass_or_none old.pass).listing answers new
      → Advances shows answers (Rose before.faults after.faults) old new
      → Proceeds told version shows before after old new
  settles_by {answers = answers} listens wanted parts altered on =
      record { answers = answers; listens = listens; wanted = wanted; parts = parts; on = on; altered = altered }

  -- nothing was done
  abbrev pub settles_none : {hand : ShownTree} {state : StateFacts K} → IsPassOn state.pass state.pass
      → Proceeds told version shows hand hand state state
  settles_none {hand} {state} opened =
      settles_by listens_none (All-nil (Wants state)) readings_none
      (unaltered_none (pass_or_none state.pass).listing state) (record {
        keeper = omega arith;
        pass = opened;
        marked = refl;
        origin = refl;
        moves = moves_same refl;
        missed = still_missed (pass_or_none state.pass).listing (row_names state.rows) (pass_or_none state.pass).missed [] (Rose hand.faults hand.faults);
        still = λ name listed missed. missed;
        todo = λ path. omega arith;
        bounded = omega arith;
      })

  -- a name that has no row later had none before
  had_before : {before after : ShownTree} {old mid : StateFacts K} → Proceeds told version shows before after old mid
      → (path : List ℕ) → HadNoRow (pass_or_none mid.pass).listing (row_names mid.rows) path
      → HadNoRow (pass_or_none old.pass).listing (row_names old.rows) path
  had_before {old = old} {mid = mid} p path h =
      let same : (pass_or_none mid.pass).listing ≡ (pass_or_none old.pass).listing = same_listing p.on.pass in
      let new : HadNoRow (pass_or_none old.pass).listing (row_names mid.rows) path
      = subst (λ (l : List NameFacts). HadNoRow l (row_names mid.rows) path) same h in
      let name : NameFacts = record { path = path; stamp = new.stamp } in
      record {
        stamp = new.stamp;
        listed = new.listed;
        absent =
            false_from_ne_true (is_in (row_names old.rows) name)
            (λ there. true≢false (sym (p.on.moves.stays name (in_by_stamp path new.stamp (pass_or_none old.pass).listing new.listed) there) ∙ new.absent));
      }

  -- what may be asked later might be asked before
  pub wanted_before : {before after : ShownTree} {old mid : StateFacts K} → Proceeds told version shows before after old mid
      → (asked : Heard) → Wants mid asked
      → Wants old asked
  wanted_before p (load path limit answer) h = absurd h
  wanted_before p (stat path answer) h = ap (λ (l : List NameFacts). is_path_in l path) (sym p.on.marked) ∙ h
  wanted_before p (read_dir path answer) h = absurd h
  wanted_before p (open_file path limit answer) h = (h.0, had_before p path h.1)
  wanted_before p (read_at name at answer) h = had_before p name.path h

  -- a name that was heard altered is missed in the end
  pub altered_then : {before between after : ShownTree} {old mid new : StateFacts K} (p : Proceeds told version shows before between old mid)
      (q : Proceeds told version shows between after mid new) → AlteredAreMissed (pass_or_none old.pass).listing (p.answers ++ q.answers) new
  altered_then {old = old} {mid = mid} {new = new} p q = λ name met h.
      by name met h (ap (λ (l : List NameFacts). is_in l name) (same_listing p.on.pass) ∙ h.listed)
      (Contains-append_cases p.answers q.answers (heard_opening name h.answer) h.heard)
    where
      by : (name : NameFacts) (met : Seen) (h : IsHeardAltered (pass_or_none old.pass).listing (p.answers ++ q.answers) name met)
          → is_in (pass_or_none mid.pass).listing name ≡ true
          → Contains p.answers (heard_opening name h.answer) ⊎ Contains q.answers (heard_opening name h.answer) → is_missed new name ≡ true
      by name met h listed (inl sooner) =
          q.on.still name listed (p.altered name met (record { listed = h.listed; answer = h.answer; heard = sooner; other = h.other }))
      by name met h listed (inr later) =
          q.altered name met (record { listed = listed; answer = h.answer; heard = later; other = h.other })

  -- one after the other
  abbrev pub settles_then : {before between after : ShownTree} {old mid new : StateFacts K}
      → Proceeds told version shows before between old mid → Proceeds told version shows between after mid new
      → Proceeds told version shows before after old new
  settles_then {before} {between} {after} {old} {mid} {new} p q =
      settles_by (listens_then p.listens q.listens)
      (All-append (Wants old) p.answers q.answers p.wanted
      (All-weaker (Wants mid)
      (Wants old) (wanted_before p) q.answers q.wanted))
      (readings_both q.answers p.parts
      (subst (λ (l : List NameFacts). AreReadingsAndLooks (is_path_in l) q.answers) p.on.marked q.parts))
      (altered_then p q)
      (advances_then (λ rose. rose_before before.faults rose q.listens.hand.cause.later) (λ rose. rose_after p.listens.hand.cause.later rose)
      p.on q.on)

  -- and what each load took
  pub takes_then : {before between after : ShownTree} {old mid new : StateFacts K}
      → TakesNames told version shows before between old mid → TakesNames told version shows between after mid new
      → TakesNames told version shows before after old new
  takes_then p q = record {
    does = settles_then p.does q.does;
    takes = λ path.
        let loads : times_loaded (settles_then p.does q.does).answers path
        ≡ times_loaded p.does.answers path + times_loaded q.does.answers path
        = loads_append p.does.answers q.does.answers path in
        let first = p.takes path in
        let later = q.takes path in
        omega (arith, loads, first, later);
  }

  -- what is to be read has each path once, so each is loaded once
  pub settles_once : {true_row : RowFacts → Type 0} {tells : Bool} {before after : ShownTree} {old new : StateFacts K}
      → IndexInvariant true_row tells shows old → TakesNames told version shows before after old new
      → Settles told version shows before after old new
  settles_once {old = old} holds t = record {
    does = t.does;
    once = λ path.
        let all = t.takes path in
        let one = todo_once old.pass path holds.each_name_in_one_place in
        omega (arith, all, one);
  }
