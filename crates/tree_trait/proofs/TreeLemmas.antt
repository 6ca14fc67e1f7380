-- What holds of a tree in memory at each stage.
use Rattle.std.proofs.Common.{◌≡◌, ℕ, ◌+◌, ◌<◌, ◌≤◌, ◌&&◌, Bool, true, false, List, [], ◌∷◌, map, length, All}
use Rattle.std.proofs.Common.{Option, Some, None, IfSome, slice_index_or, refl, sym, ◌∙◌, ap, subst, inl}
use Rattle.std.proofs.Common.{arith}
use Rattle.std.specs.Prelude.{IsSome, IsTrue, nat_lt, if◌then◌else◌}
use Rattle.std.specs.List.{list_all}
use Rattle.std.specs.Option.{IsSomeAnd}
use Rattle.std.proofs.lemmas.Bool.{false≢true, ltb-true}
use Rattle.std.proofs.lemmas.List.Elements.{All-map}
use Rattle.std.proofs.lemmas.List.Sums.{AllPass-from_list_all}
use Rattle.std.proofs.lemmas.Simd.{map-map}
use Rattle.row_types.specs.Canon.{is_canonical}
use Rattle.row_types.specs.Faults.{HasCause, Rose, raised}
use Rattle.row_types.specs.Name.{NameFacts}
use Rattle.row_types.proofs.CanonLemmas.{left_true, right_true}
use Rattle.tree_trait.specs.Asks.{AsksTree, FitsAny, IsAnswerTold, ReadsOpened}
use Rattle.tree_trait.specs.Found.{FoundFacts, IsFound, Versions, found_name}
use Rattle.tree_trait.specs.Heard.{Heard, call_failed, wants_memory, with_answers}
use Rattle.tree_trait.specs.HeardCalls.{IsListedAs}
use Rattle.tree_trait.specs.MemTree.{TreeFacts, IsScripted, IsStill, IsStageAnswer, RunsRead, answered, next_stage}
use Rattle.tree_trait.specs.MemTree.{is_bad_call, moved_to, present_in, tree_shows, with_heard, with_swaps}
use Rattle.tree_trait.specs.Present.{IsKnownName, are_apart, are_distinct}
use Rattle.tree_trait.specs.Script.{ScriptFacts, is_script, is_stage, is_call_listed, stage_for, names_at}
use Rattle.tree_trait.specs.Shown.{HandsOn, IsPresence, StaysStill}
use Rattle.tree_trait.specs.Swaps.{SwapsFacts, read_once}

-- a sound script's first stage is there
pub scripted_first : {version : Versions} (script : ScriptFacts) → IsTrue (is_script script)
    → All (All (IsFound version)) script.stages → IsScripted version script 0
scripted_first script sound known = record {
  sound = sound;
  placed = ltb-true 0 (length script.stages) (left_true _ (list_all is_stage script.stages) sound);
  known = known;
}

-- the names at a stage of a sound script are known
pub tree_known : {version : Versions} (tree : TreeFacts) → IsScripted version tree.script tree.stage
    → IsPresence version (tree_shows tree)
tree_known {version} tree scripted =
    let files : List FoundFacts = slice_index_or tree.script.stages tree.stage [] in
    let known : All (IsFound version) files = scripted.known tree.stage [] scripted.placed in
    let all_sound : IsTrue (list_all is_stage tree.script.stages) = right_true _ _ scripted.sound in
    let sound : IsTrue (is_stage files) =
    AllPass-from_list_all is_stage tree.script.stages all_sound tree.stage [] scripted.placed in
    record {
      known = All-map (IsKnownName version) found_name files
          (λ k d h. inl ((slice_index_or files k d).bytes, (known k d h).known));
      canonical =
          All-map (λ (name : NameFacts). IsTrue (is_canonical name.path)) found_name files
          (AllPass-from_list_all (λ (file : FoundFacts). is_canonical file.path) files
          (left_true (list_all (λ (file : FoundFacts). is_canonical file.path) files) _ sound));
      distinct =
          subst (λ (paths : List (List ℕ)). IsTrue (are_distinct paths))
          (sym (map-map (λ (name : NameFacts). name.path) found_name files))
          (right_true _ (are_distinct (map (λ file. file.path) files)) sound);
      apart = λ still. still.apart;
    }

-- the next stage is one of the script's, and no earlier one
next_placed : (moves : List ℕ) (call stage count : ℕ) → stage < count
    → (stage ≤ stage_for moves call stage count) × (stage_for moves call stage count < count)
next_placed moves call stage count placed =
    elim (is_call_listed moves call && nat_lt (stage + 1) count) as (λ b.
    (is_call_listed moves call && nat_lt (stage + 1) count) ≡ b
    → (stage ≤ (if b then stage + 1 else stage)) × ((if b then stage + 1 else stage) < count)) [
      | true ↦ λ t. (omega arith, ltb-true (stage + 1) count (right_true (is_call_listed moves call) _ t))
      | false ↦ λ t. (omega arith, placed)
    ] refl

-- a call that is answered by the files of the next stage hands the tree on, whatever questions are told from there on, and
-- whatever is swapped
hands_answered : {version : Versions} {next : TreeFacts} (tree : TreeFacts) (asked : Heard)
    (heard : Option (List Heard)) (swaps : SwapsFacts) → IsScripted version tree.script tree.stage
    → next ≡ with_swaps (with_heard (answered tree asked) heard) swaps → tree.faults ≤ next.faults
    → HandsOn true version (tree_shows tree) (tree_shows next) (Unit {0}) (IsTrue (call_failed asked))
hands_answered {version} tree asked heard swaps scripted e later =
    subst (λ (t : TreeFacts). HandsOn true version (tree_shows tree) (tree_shows t) (Unit {0}) (IsTrue (call_failed asked)))
    (sym e) (record {
      cause = cause;
      known = λ _ _. known;
      keeps = λ _ _. known;
      still = stays;
    })
  where
    placed : (tree.stage ≤ next_stage tree) × (next_stage tree < length tree.script.stages)
    placed = next_placed tree.script.moves tree.calls tree.stage (length tree.script.stages) scripted.placed

    known : IsPresence version (tree_shows (with_swaps (with_heard (answered tree asked) heard) swaps))
    known = tree_known (with_swaps (with_heard (answered tree asked) heard) swaps)
        (record { sound = scripted.sound; placed = placed.1; known = scripted.known })

    cause : HasCause tree.faults (if call_failed asked then raised tree.faults else tree.faults)
        (IsTrue (call_failed asked))
    cause =
        let risen : tree.faults ≤ (if call_failed asked then raised tree.faults else tree.faults) =
        subst (λ (t : TreeFacts). tree.faults ≤ t.faults) e later in
        record {
          later = risen;
          rose = λ failed. subst
              (λ (b : Bool). Rose tree.faults (if b then raised tree.faults else tree.faults)) (sym failed)
              (omega arith);
        }

    stays : IsStill tree
        → StaysStill (tree_shows tree) (tree_shows (with_swaps (with_heard (answered tree asked) heard) swaps))
    stays still =
        let same : names_at tree.script (next_stage tree) ≡ present_in tree =
        still.rests (next_stage tree) placed.0 placed.1 in
        let first = placed.0 in
        record {
          still = record {
            rests = λ stage later within. still.rests stage (omega (arith, first, later)) within ∙ sym same;
            apart = subst (λ (names : List NameFacts). IsTrue (are_apart (map (λ name. name.path) names)))
                (sym same) still.apart;
          };
          same = same;
        }

-- a call that is answered by the files of the next stage
asks_answered : {version : Versions} (tree : TreeFacts) {next : TreeFacts} {asked : Heard} {bad : Bool}
    → IsScripted version tree.script tree.stage
    → IsStageAnswer version bad (names_at tree.script (next_stage tree)) asked → wants_memory asked ≡ false
    → next ≡ answered tree asked → tree.faults ≤ next.faults
    → AsksTree true version (tree_shows tree) (tree_shows next) asked
asks_answered {version} tree {asked} scripted answer answers e later =
    subst (λ (t : TreeFacts). AsksTree true version (tree_shows tree) (tree_shows t) asked) (sym e) (record {
      fits = answer.fits;
      tells = λ _. answer.tells;
      listed = rw answers refl;
      hands = hands_answered {next = answered tree asked} tree asked (with_answers tree.heard (asked ∷ [])) tree.swaps scripted
          refl
          (subst (λ (t : TreeFacts). tree.faults ≤ t.faults) e later);
    })

-- where no questions are told, none is listed
pub told_none : (tree : TreeFacts) (answers : List Heard) → tree.heard ≡ None
    → tree ≡ with_heard tree (with_answers tree.heard answers)
told_none tree answers none =
    ap (with_heard tree) (none ∙ sym (ap (λ (heard : Option (List Heard)). with_answers heard answers) none))

-- what is told of a call, and then the call is counted
pub told_on : (mid next : TreeFacts) (answers : Option (List Heard)) (stage : ℕ) (failed : Bool)
    → (IsSome mid.heard → mid.heard ≡ answers) → next ≡ moved_to mid stage failed
    → IsSome next.heard → next.heard ≡ answers
told_on mid next answers stage failed told counted =
    subst (λ (heard : Option (List Heard)). IsSome heard → heard ≡ answers)
    (sym (ap (λ (t : TreeFacts). t.heard) counted)) told

pub ended_on : (tree mid next : TreeFacts) (asked : Heard) (stage : ℕ) (failed : Bool)
    → mid ≡ with_heard tree mid.heard → stage ≡ next_stage tree → failed ≡ call_failed asked
    → next ≡ moved_to mid stage failed → next ≡ with_heard (answered tree asked) next.heard
ended_on tree mid next asked stage failed same place fails counted =
    counted ∙ ap (λ (t : TreeFacts). moved_to t stage failed) same
    ∙ ap (λ (s : ℕ). moved_to (with_heard tree mid.heard) s failed) place
    ∙ ap (λ (f : Bool). moved_to (with_heard tree mid.heard) (next_stage tree) f) fails
    ∙ ap (with_heard (answered tree asked)) (sym (ap (λ (t : TreeFacts). t.heard) counted))

-- a call that is listed, and then counted, was answered
pub ended_by : (tree mid next : TreeFacts) (asked : Heard) (stage : ℕ) (failed : Bool)
    → mid ≡ with_heard tree (with_answers tree.heard (asked ∷ [])) → stage ≡ next_stage tree
    → failed ≡ call_failed asked → next ≡ moved_to mid stage failed → next ≡ answered tree asked
ended_by tree mid next asked stage failed same place fails counted =
    let told : Option (List Heard) = with_answers tree.heard (asked ∷ []) in
    counted ∙ ap (λ (t : TreeFacts). moved_to t stage failed) same
    ∙ ap (λ (s : ℕ). moved_to (with_heard tree told) s failed) place
    ∙ ap (λ (f : Bool). moved_to (with_heard tree told) (next_stage tree) f) fails

pub faults_on : (tree mid next : TreeFacts) → mid ≡ with_heard tree mid.heard → mid.faults ≤ next.faults
    → tree.faults ≤ next.faults
faults_on tree mid next same later = subst (λ (t : TreeFacts). t.faults ≤ next.faults) same later

-- a read of an open file that is answered by the script
pub reads_answered : {version : Versions} (tree next : TreeFacts) (asked : Heard)
    → IsScripted version tree.script tree.stage → RunsRead tree next asked → tree.faults ≤ next.faults
    → ReadsOpened true version (tree_shows tree) (tree_shows next) asked
reads_answered tree next asked scripted runs later = record {
  listed = runs.listed;
  hands = hands_answered tree asked next.heard (read_once tree.swaps) scripted runs.ends later;
}

-- a read that is listed, or not, and then counted
pub read_counted : (tree mid next : TreeFacts) (asked : Heard) → call_failed asked ≡ is_bad_call tree
    → (IsSome mid.heard → mid.heard ≡ with_answers tree.heard (asked ∷ [])) → mid ≡ with_heard (answered tree asked) mid.heard
    → next ≡ with_swaps mid (read_once mid.swaps) → RunsRead tree next asked
read_counted tree mid next asked fails told same counted = record {
  fails = fails;
  listed = subst (λ (heard : Option (List Heard)). IsSome heard → heard ≡ with_answers tree.heard (asked ∷ []))
      (sym (ap (λ (t : TreeFacts). t.heard) counted)) told;
  ends =
      counted ∙ ap (λ (t : TreeFacts). with_swaps t (read_once t.swaps)) same
      ∙ ap (λ (heard : Option (List Heard)). with_swaps (with_heard (answered tree asked) heard) (read_once tree.swaps))
      (sym (ap (λ (t : TreeFacts). t.heard) counted));
}

-- a call of which an answer was kept
pub asks_kept : {X : Type 0} (facts : X → Heard) {version : Versions} (tree next : TreeFacts) {asked : Heard}
    {bad : Bool} {names : List NameFacts} (call : Option X)
    → IsScripted version tree.script tree.stage → names ≡ names_at tree.script (next_stage tree)
    → IsStageAnswer version bad names asked
    → IfSome call (λ kept. IsListedAs asked (facts kept))
    → IsSomeAnd call (λ kept. next ≡ answered tree (facts kept)) → tree.faults ≤ next.faults
    → AsksTree true version (tree_shows tree) (tree_shows next) asked
asks_kept facts {version} tree next {asked} {bad} (Some kept) scripted files answer listed ended later =
    asks_answered tree scripted
    (subst (λ (ns : List NameFacts). IsStageAnswer version bad ns asked) files answer) listed.answered
    (ended ∙ ap (answered tree) listed.same) later
asks_kept facts tree next None scripted files answer listed ended later = absurd ended

-- a call for which memory was refused, which says nothing
pub asks_nothing : {version : Versions} {tree next : TreeFacts} {asked : Heard}
    → IsScripted version tree.script tree.stage → FitsAny version asked → IsAnswerTold (present_in tree) asked
    → call_failed asked ≡ false → wants_memory asked ≡ true → next ≡ tree
    → AsksTree true version (tree_shows tree) (tree_shows next) asked
asks_nothing {version} {tree} {asked} scripted fits tells fine wants e =
    subst (λ (t : TreeFacts). AsksTree true version (tree_shows tree) (tree_shows t) asked) (sym e) (record {
      fits = fits;
      tells = λ _. tells;
      listed = rw wants refl;
      hands = record {
        cause = record { later = omega arith; rose = λ failed. absurd (false≢true (sym fine ∙ failed)) };
        known = λ _ _. tree_known tree scripted;
        keeps = λ _ known. known;
        still = λ still. record { still = still; same = refl };
      };
    })
