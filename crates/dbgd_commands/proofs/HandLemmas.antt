-- Hands in order, before and after a call.
use Rattle.std.proofs.Common.{◌≡◌, ℕ, ◌<◌, Bool, List, [], ◌∷◌, length, refl, sym, subst, arith}
use Rattle.std.specs.List.{AllZip}
use Rattle.std.specs.Prelude.{slice_index_or, slice_set}
use Rattle.index_keeper.specs.Store.{ShownStore}
use Rattle.tree_trait.specs.Found.{Versions}
use Rattle.file_formats.specs.Windows.{Range}
use Rattle.file_parts.specs.AtPath.{FileAnswer}
use Rattle.tree_trait.specs.Shown.{HandsOn, ShownTree}
use Rattle.pass_runner.specs.Owned.{HandsGo}
use Rattle.dbgd_commands.specs.Endings.{Streams}
use Rattle.dbgd_commands.specs.File.{RunsFile, RunsOn}
use Rattle.dbgd_commands.specs.Stage.{OfFirst, Setting, command_stage}
use Rattle.dbgd_commands.specs.declared.status.Status.{Status}

-- hands that are as they were
same_zip : {T : Type 0} (hands : List T) → AllZip (λ hand left. left ≡ hand) hands hands
same_zip [] = tt
same_zip (hand ∷ hands) = (refl, same_zip hands)

-- the others are as they were where the list behind the first is
pub others_stay : {T : Type 0} {hands left : List T} → left ≡ hands → AllZip (λ hand later. later ≡ hand) hands left
others_stay {hands = hands} same = subst (λ left. AllZip (λ hand later. later ≡ hand) hands left) (sym same) (same_zip hands)

-- a command on one file, by the hand at the front
pub runs_file : {T : Type 0} (s : Setting T) (path : List ℕ) (Says : FileAnswer → Streams → Streams → Status → Type 0)
    (Of : List ℕ → Range → Type 0) (first later : T) (hands : List T) {store : ShownStore} {old new : Streams} {end : Status}
    → first ≡ slice_index_or hands 0 first → 0 < length hands
    → RunsOn Says Of s.tells_files s.world.version path (s.sees first) (s.sees later) old new end
    → RunsFile s path Says Of (command_stage hands store old) (command_stage (slice_set hands 0 later) store new) end
runs_file s path Says Of first later [] is some run = absurd (omega arith)
runs_file {T} s path Says Of first later (hand ∷ hands) {old = old} {new = new} {end = end} is some run = record {
  hands = (
    subst (λ (h : T). RunsOn Says Of s.tells_files s.world.version path (s.sees h) (s.sees later) old new end) is run,
    same_zip hands,
  );
  store = refl;
}

-- of the first hand alone
pub of_first : {T : Type 0} (s : Setting T) (First Other : T → T → Type 0) (Holds : ShownTree → ShownTree → Type 0)
    (hands left : List T) → ((hand later : T) → First hand later → Holds (s.sees hand) (s.sees later))
    → HandsGo First Other hands left → OfFirst s Holds hands left
of_first s First Other Holds (hand ∷ hands) (later ∷ left) each goes = each hand later goes.0
of_first s First Other Holds _ _ each goes = absurd goes

-- what follows of the first hand
pub by_first : {T : Type 0} (s : Setting T) (First Other : T → T → Type 0) (Holds : ShownTree → ShownTree → Type 0)
    {P : Type 0} (hands left : List T) → HandsGo First Other hands left → OfFirst s Holds hands left
    → ((hand later : T) → First hand later → Holds (s.sees hand) (s.sees later) → P) → P
by_first s First Other Holds (hand ∷ hands) (later ∷ left) goes holds each = each hand later goes.0 holds
by_first s First Other Holds _ _ goes holds each = absurd goes

-- two things of the first hand
pub both_first : {T : Type 0} (s : Setting T) (A B : ShownTree → ShownTree → Type 0) {P : Type 0} (hands left : List T)
    → OfFirst s A hands left → OfFirst s B hands left
    → ((before after : ShownTree) → A before after → B before after → P) → P
both_first s A B (hand ∷ hands) (later ∷ left) a b each = each (s.sees hand) (s.sees later) a b
both_first s A B _ _ a b each = absurd a

-- and what follows of both
pub first_both : {T : Type 0} (s : Setting T) (A B C : ShownTree → ShownTree → Type 0) (hands left : List T)
    → OfFirst s A hands left → OfFirst s B hands left
    → ((before after : ShownTree) → A before after → B before after → C before after) → OfFirst s C hands left
first_both s A B C (hand ∷ hands) (later ∷ left) a b each = each (s.sees hand) (s.sees later) a b
first_both s A B C _ _ a b each = absurd a

-- a hand that isn't asked is handed on
pub stays_on : (told : Bool) (version : Versions) (tree : ShownTree) {Fails : Type 0} → ¬ Fails → HandsOn told version tree tree ⊥ Fails
stays_on told version tree never = record {
  cause = record { later = omega arith; rose = λ fails. absurd (never fails) };
  known = λ t asked. absurd asked;
  keeps = λ t had. had;
  still = λ still. record { still = still; same = refl };
}

-- hands that aren't asked are handed on
pub hands_stay : {T : Type 0} (told : Bool) (version : Versions) (sees : T → ShownTree) {Fails : Type 0} (hands : List T)
    → 0 < length hands → ¬ Fails
    → HandsGo (λ hand later. HandsOn told version (sees hand) (sees later) ⊥ Fails)
    (λ hand later. HandsOn told version (sees hand) (sees later) ⊥ ⊥) hands hands
hands_stay told version sees [] some never = absurd (omega arith)
hands_stay {T} told version sees (hand ∷ hands) some never = (stays_on told version (sees hand) never, each hands)
  where
    each : (hs : List T) → AllZip (λ h l. HandsOn told version (sees h) (sees l) ⊥ ⊥) hs hs
    each [] = tt
    each (h ∷ hs) = (stays_on told version (sees h) (λ none. none), each hs)

-- as many hands come back
zip_length : {T : Type 0} (R : T → T → Type 0) (hands left : List T) → AllZip R hands left → length left ≡ length hands
zip_length R [] [] zip = refl
zip_length R [] (later ∷ left) zip = absurd zip
zip_length R (hand ∷ hands) [] zip = absurd zip
zip_length R (hand ∷ hands) (later ∷ left) zip = let rest = zip_length R hands left zip.1 in omega (arith, rest)

pub goes_length : {T : Type 0} (First Other : T → T → Type 0) (hands left : List T) → HandsGo First Other hands left
    → length left ≡ length hands
goes_length First Other [] left goes = absurd goes
goes_length First Other (hand ∷ hands) [] goes = absurd goes
goes_length First Other (hand ∷ hands) (later ∷ left) goes = let rest = zip_length Other hands left goes.1 in omega (arith, rest)
