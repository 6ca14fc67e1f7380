-- What a status says, by what a run does.
use Rattle.std.proofs.Common.{◌≡◌, inl, inr, ℕ, List, ◌∷◌, Option, Some, None, sym, refl, subst, Result, Ok, Err}
use Rattle.row_types.specs.Faults.{Rose}
use Rattle.file_formats.specs.Identity.{Identity}
use Rattle.file_formats.specs.declared.fault.Why.{Why}
use Rattle.file_formats.specs.Parts.{IsSomePart, IsSomeSection}
use Rattle.file_formats.specs.Windows.{IsSomeWindow, Range}
use Rattle.file_parts.specs.AtPath.{FileAnswer, file_read, file_too_large, file_gone, file_failed, file_no_memory}
use Rattle.file_formats.specs.Table.{IsSectionAnswer}
use Rattle.row_types.specs.Reading.{ReadsBytes}
use Rattle.row_types.specs.declared.reading.Reading.TheVariants.{Elf}
use Rattle.tree_trait.specs.Needs.{IsOfReads}
use Rattle.dbgd_commands.specs.CommandCauses.{FileStatus}
use Rattle.dbgd_commands.specs.Endings.{EndsSaying, Saying, Streams}
use Rattle.dbgd_commands.specs.File.{RunsFile, RunsOn}
use Rattle.dbgd_commands.specs.Ident.{SaysFile, SaysIdent}
use Rattle.dbgd_commands.specs.Stage.{CommandStage, FirstGoes, FirstRose, Setting}
use Rattle.dbgd_commands.specs.Section.{SaysBytes, SaysNamed, SaysSection}
use Rattle.dbgd_commands.specs.Sources.{SaysListed, SaysSources}
use Rattle.dbgd_commands.specs.declared.status.Status.{Status}
use Rattle.dbgd_commands.specs.declared.status.Status.TheVariants as status

-- what the saying's status says is said, or that the standard output failed
pub by_ends : (P : Status → Type 0) (saying : Saying) {old new : Streams} {end : Status}
    → P saying.status → (Rose old.out.write_faults new.out.write_faults → P status.Fault)
    → EndsSaying saying old new end → P end
by_ends P saying said out (inl whole) = subst P (sym whole.ends) said
by_ends P saying said out (inr cut) = subst P (sym cut.ends) (out cut.out.rose)

module _ {T : Type 0} (s : Setting T) (before after : CommandStage T) where
  -- what an opening or a read that failed says
  abbrev Failing : FileAnswer → Type 0
  Failing answer = answer ≡ file_failed → FirstRose s before.hands after.hands

  file_ends : {saying : Saying} {end : Status} → FileStatus s before after saying.status
      → EndsSaying saying before.streams after.streams end → FileStatus s before after end
  file_ends {saying} said ends = by_ends (FileStatus s before after) saying said (λ rose. inr rose) ends

  file_status : (r : Result Identity Why) (end : Status) → SaysFile r before.streams after.streams end
      → FileStatus s before after end
  file_status (Ok i) end (inl ends) = file_ends tt ends
  file_status (Ok i) end (inr wants) = subst (FileStatus s before after) (sym wants.ends) tt
  file_status (Err why) end ends = file_ends tt ends

  ident_by : (path : List ℕ) (answer : FileAnswer) (end : Status) → Failing answer
      → SaysIdent path answer before.streams after.streams end → FileStatus s before after end
  ident_by path (file_read stamp reads) end hand said = file_status said.0 end said.2
  ident_by path file_too_large end hand said = file_ends tt said
  ident_by path file_gone end hand said = subst (FileStatus s before after) (sym said.ends) tt
  ident_by path file_failed end hand said = subst (FileStatus s before after) (sym said.ends) (inl (hand refl))
  ident_by path file_no_memory end hand said = subst (FileStatus s before after) (sym said.ends) tt

  bytes_status : (section : Option (List ℕ)) (end : Status) → SaysBytes section before.streams after.streams end → FileStatus s before after end
  bytes_status (Some bytes) end ends = file_ends tt ends
  bytes_status None end said = subst (FileStatus s before after) (sym said.ends) tt

  named_status : (Is : Option (List ℕ) → Type 0) (r : Result Identity Why) (end : Status)
      → SaysNamed Is r before.streams after.streams end → FileStatus s before after end
  named_status Is (Ok i) end said = bytes_status said.section end said.says
  named_status Is (Err why) end said = subst (FileStatus s before after) (sym said.ends) tt

  section_by : (path name : List ℕ) (answer : FileAnswer) (end : Status) → Failing answer
      → SaysSection path name answer before.streams after.streams end → FileStatus s before after end
  section_by path name (file_read stamp reads) end hand said = named_status (λ section. IsOfReads stamp.size reads (λ b. IsSectionAnswer b name section)) said.0 end said.2
  section_by path name file_too_large end hand said = subst (FileStatus s before after) (sym said.ends) tt
  section_by path name file_gone end hand said = subst (FileStatus s before after) (sym said.ends) tt
  section_by path name file_failed end hand said = subst (FileStatus s before after) (sym said.ends) (inl (hand refl))
  section_by path name file_no_memory end hand said = subst (FileStatus s before after) (sym said.ends) tt

  listed_status : (Are : Identity → List (List ℕ) → Type 0) (r : Result Identity Why) (end : Status)
      → SaysListed Are r before.streams after.streams end → FileStatus s before after end
  listed_status Are (Ok i) end (inl said) = file_ends tt said.ends
  listed_status Are (Ok i) end (inr said) = subst (FileStatus s before after) (sym said.ends) tt
  listed_status Are (Err why) end said = subst (FileStatus s before after) (sym said.ends) tt

  sources_by : (path : List ℕ) (answer : FileAnswer) (end : Status) → Failing answer
      → SaysSources path answer before.streams after.streams end → FileStatus s before after end
  sources_by path (file_read stamp reads) end hand said =
      listed_status (λ i paths. IsOfReads stamp.size reads (λ b. ReadsBytes b (Elf i paths))) said.0 end said.2
  sources_by path file_too_large end hand said = subst (FileStatus s before after) (sym said.ends) tt
  sources_by path file_gone end hand said = subst (FileStatus s before after) (sym said.ends) tt
  sources_by path file_failed end hand said = subst (FileStatus s before after) (sym said.ends) (inl (hand refl))
  sources_by path file_no_memory end hand said = subst (FileStatus s before after) (sym said.ends) tt

-- of a command on one file, by what was found of it
by_answer : {T : Type 0} (s : Setting T) (path : List ℕ) (Says : FileAnswer → Streams → Streams → Status → Type 0)
    (Of : List ℕ → Range → Type 0) {old new : Streams} {end : Status} {P : Type 0} (hands left : List T)
    → FirstGoes (λ hand later. RunsOn Says Of s.tells_files s.world.version path (s.sees hand) (s.sees later) old new end) hands left
    → ((answer : FileAnswer) → (answer ≡ file_failed → FirstRose s hands left) → Says answer old new end → P) → P
by_answer s path Says Of (hand ∷ hands) (later ∷ left) goes by =
    by goes.0.answer (λ fails. goes.0.asks.hands.cause.rose fails) goes.0.said
by_answer s path Says Of _ _ goes by = absurd goes

module _ {T : Type 0} (s : Setting T) (before after : CommandStage T) (end : Status) where
  pub ident_status : (path : List ℕ) → RunsFile s path (SaysIdent path) IsSomeWindow before after end
      → FileStatus s before after end
  ident_status path run =
      by_answer s path (SaysIdent path) IsSomeWindow before.hands after.hands run.hands
      (λ answer hand said. ident_by s before after path answer end hand said)

  pub sources_status : (path : List ℕ) → RunsFile s path (SaysSources path) IsSomePart before after end
      → FileStatus s before after end
  sources_status path run =
      by_answer s path (SaysSources path) IsSomePart before.hands after.hands run.hands
      (λ answer hand said. sources_by s before after path answer end hand said)

  pub section_status : (path name : List ℕ) → RunsFile s path (SaysSection path name) (IsSomeSection name) before after end
      → FileStatus s before after end
  section_status path name run =
      by_answer s path (SaysSection path name) (IsSomeSection name) before.hands after.hands run.hands
      (λ answer hand said. section_by s before after path name answer end hand said)
