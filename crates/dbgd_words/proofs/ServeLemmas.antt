-- What the texts of a line of `serve` ask.
use Rattle.std.proofs.Common.{◌≡◌, ◌∙◌, ℕ, Bool, true, false, cond, List, Option, Some, None, Result, Ok, Err, IfOk, sym, ap, subst, map}
use Rattle.std.specs.Borrow.{Bor}
use Rattle.std.specs.List.{list_all}
use Rattle.std.specs.Option.{option_map_or}
use Rattle.clap.specs.Matches.{found_of}
use Rattle.clap.specs.Simple.{App, HasMatchesOf, is_simple, matches_of}
use Rattle.clap.specs.Walk.{rows_of}
use Rattle.clap.specs.declared.parser.matches.ArgMatches.{ArgMatches}
use Rattle.federation.specs.Server.{ServerFacts}
use Rattle.row_types.specs.Canon.{canon}
use Rattle.dbgd_words.specs.Patterns.{PatternTexts}
use Rattle.dbgd_words.specs.Words.{Line, asks_serve, is_root, served_by, servers_in, unreadable}
use Rattle.dbgd_words.proofs.TextLemmas.{each_path, each_root}

-- the rows of a parse by a simple command
pub has_rows : {E : Type 0} (app wanted : App) (words : List (List ℕ)) (answer : Result ArgMatches E) → app ≡ wanted
    → is_simple wanted ≡ true → IfOk answer (HasMatchesOf app words)
    → IfOk answer (λ matches. rows_of (found_of matches) ≡ matches_of wanted words)
has_rows app wanted words (Ok matches) same simple has =
    (subst (λ (a : App). HasMatchesOf a words matches) same has simple).0
has_rows app wanted words (Err why) same simple has = tt

module _ (file : List ℕ) (w p t : ℕ) (sources others : List (Bor (List ℕ))) (patterns : PatternTexts) (folders : List (Bor (List ℕ))) where
  abbrev Sources : List (List ℕ)
  Sources = map (λ folder. folder.now) sources

  abbrev Others : List (List ℕ)
  Others = map (λ text. text.now) others

  abbrev Folders : List (List ℕ)
  Folders = map (λ folder. folder.now) folders

  -- by the servers that the texts name
  abbrev Asking : Option (List ServerFacts) → Line
  Asking servers =
      option_map_or (λ upstream. asks_serve file w p t (map canon Sources) upstream patterns (map canon Folders)) servers unreadable

  abbrev By : Bool → Bool → Line
  By far near = cond far (cond near (Asking (servers_in Others)) unreadable) unreadable

  -- a folder that has no path can't be read
  pub no_folder : list_all (λ folder. is_root folder.now) folders ≡ false → unreadable ≡ served_by file w p t Sources Others patterns Folders
  no_folder none = sym (ap (λ far. By far (list_all is_root Sources)) (each_root folders ∙ none))

  -- nor can one for sources
  pub no_source : list_all (λ folder. is_root folder.now) folders ≡ true → list_all (λ folder. is_root folder.now) sources ≡ false
      → unreadable ≡ served_by file w p t Sources Others patterns Folders
  no_source all none =
      sym (ap (λ far. By far (list_all is_root Sources)) (each_root folders ∙ all) ∙ ap (By true) (each_root sources ∙ none))

  both : list_all (λ folder. is_root folder.now) folders ≡ true → list_all (λ folder. is_root folder.now) sources ≡ true
      → served_by file w p t Sources Others patterns Folders ≡ Asking (servers_in Others)
  both all each =
      ap (λ far. By far (list_all is_root Sources)) (each_root folders ∙ all) ∙ ap (By true) (each_root sources ∙ each)

  -- nor a text that is no address
  pub no_server : list_all (λ folder. is_root folder.now) folders ≡ true → list_all (λ folder. is_root folder.now) sources ≡ true
      → None ≡ servers_in Others → unreadable ≡ served_by file w p t Sources Others patterns Folders
  no_server all each none = sym (both all each ∙ ap Asking (sym none))

  -- all folders have paths, and each text is an address
  pub serves_all : list_all (λ folder. is_root folder.now) folders ≡ true → list_all (λ folder. is_root folder.now) sources ≡ true
      → {upstream : List ServerFacts} → Some upstream ≡ servers_in Others
      → {named paths : List (List ℕ)} → named ≡ map (λ folder. canon folder.now) sources
      → paths ≡ map (λ folder. canon folder.now) folders
      → asks_serve file w p t named upstream patterns paths ≡ served_by file w p t Sources Others patterns Folders
  serves_all all each {upstream} found {named} {paths} named_are paths_are =
      ap (λ (named : List (List ℕ)). asks_serve file w p t named upstream patterns paths) (named_are ∙ sym (each_path sources))
      ∙ (ap (asks_serve file w p t (map canon Sources) upstream patterns) (paths_are ∙ sym (each_path folders))
      ∙ sym (both all each ∙ ap Asking (sym found)))
