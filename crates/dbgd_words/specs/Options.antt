-- The arguments of `query`, `scan`, `serve` and `find` (this project's rule), in the words of `clap`. Each is a simple command of that
-- crate, whose reading of the words decides which text belongs to which argument; what a text says is decided in `Words`.
use Rattle.std.specs.Prelude.{ℕ, true, List, [], ◌∷◌, Some, codes}
use Rattle.clap.specs.Faults.{fault_of}
use Rattle.clap.specs.Kinds.{Kinds}
use Rattle.clap.specs.Simple.{App, matches_of, new_app, new_rule, on_top, with_rule}
use Rattle.clap.specs.Walk.{Row, Rule}
use Rattle.clap.specs.declared.builder.action.ArgAction.TheVariants.{Append, Set, SetTrue}

-- an option of a letter and a name, which takes one text and may not be repeated
abbrev pub option_rule : ℕ → List ℕ → Rule
option_rule letter name = record (new_rule name) {
  short = Some letter;
  long = Some name;
  value_names = 1;
  action = Some Set;
}

-- `-d FILE`, `--database FILE`: it has to be there
abbrev pub database_rule : Rule
database_rule = record (option_rule 100 (codes "database")) { required = true }

-- `-c N`, `--concurrency N`: 4 where it isn't there
abbrev pub concurrency_rule : Rule
concurrency_rule = record (option_rule 99 (codes "concurrency")) { defaults = codes "4" ∷ [] }

-- an option of a name alone, which takes one text and may not be repeated
abbrev pub long_rule : List ℕ → Rule
long_rule name = record (new_rule name) { long = Some name; value_names = 1; action = Some Set }

-- `-p PORT`, `--port PORT`: 8002 where it isn't there
abbrev pub port_rule : Rule
port_rule = record (option_rule 112 (codes "port")) { defaults = codes "8002" ∷ [] }

-- `-t SECS`, `--rescan-time SECS`: 300 where it isn't there
abbrev pub rescan_time_rule : Rule
rescan_time_rule = record (option_rule 116 (codes "rescan-time")) { defaults = codes "300" ∷ [] }

-- `--sources DIRS`
abbrev pub sources_rule : Rule
sources_rule = long_rule (codes "sources")

-- `--upstream URLS`
abbrev pub upstream_rule : Rule
upstream_rule = long_rule (codes "upstream")

-- `--upstream URLS`, which has to be there
abbrev pub servers_rule : Rule
servers_rule = record upstream_rule { required = true }

-- `--cache DIR`: it has to be there
abbrev pub cache_rule : Rule
cache_rule = record (long_rule (codes "cache")) { required = true }

-- `-I PATTERN`, `--include PATTERN`
abbrev pub include_rule : Rule
include_rule = option_rule 73 (codes "include")

-- `-X PATTERN`, `--exclude PATTERN`
abbrev pub exclude_rule : Rule
exclude_rule = option_rule 88 (codes "exclude")

-- `-F`, `--scan-file-dir`: a flag, which may not be repeated
abbrev pub scan_file_dir_rule : Rule
scan_file_dir_rule = record (new_rule (codes "scan-file-dir")) {
  short = Some 70;
  long = Some (codes "scan-file-dir");
  action = Some SetTrue;
}

-- `ID`: one text
abbrev pub id_rule : Rule
id_rule = record (new_rule (codes "ID")) { required = true; action = Some Set }

-- `KIND`: one text
abbrev pub kind_rule : Rule
kind_rule = record (new_rule (codes "KIND")) { required = true; action = Some Set }

-- `NAME`: one text, or none
abbrev pub name_rule : Rule
name_rule = record (new_rule (codes "NAME")) { action = Some Set }

-- `DIR`: one text or more
abbrev pub folders_rule : Rule
folders_rule = record (new_rule (codes "DIR")) { required = true; action = Some Append }

-- a command that answers its help and its version
abbrev pub command_app : List ℕ → App
command_app name = on_top (λ s. record s { has_version = true }) (new_app name)

-- the command `query`
abbrev pub query_app : App
query_app = with_rule (with_rule (command_app (codes "query")) database_rule) id_rule

-- the command `scan` with the options alone that take a text
abbrev pub options_app : App
options_app =
    with_rule (with_rule (with_rule (with_rule (command_app (codes "scan")) database_rule)
    concurrency_rule) include_rule) exclude_rule

-- the command `scan`
abbrev pub scan_app : App
scan_app = with_rule (with_rule options_app scan_file_dir_rule) folders_rule

-- the command `serve` with its store and its numbers alone
abbrev pub numbers_app : App
numbers_app =
    with_rule (with_rule (with_rule (with_rule (command_app (codes "serve")) database_rule)
    concurrency_rule) port_rule) rescan_time_rule

-- the command `serve` with these and its patterns alone
abbrev pub patterns_app : App
patterns_app = with_rule (with_rule numbers_app include_rule) exclude_rule

-- the command `serve`
abbrev pub serve_app : App
serve_app =
    with_rule (with_rule (with_rule (with_rule patterns_app scan_file_dir_rule) sources_rule)
    upstream_rule) folders_rule

-- the command `find` with its folder and its servers alone
abbrev pub sought_app : App
sought_app = with_rule (with_rule (command_app (codes "find")) cache_rule) servers_rule

-- the command `find`
abbrev pub find_app : App
find_app = with_rule (with_rule (with_rule sought_app kind_rule) id_rule) name_rule

-- why `clap` refuses a line of `query`; nothing where it reads it
unfoldable pub query_faults : List (List ℕ) → Kinds
query_faults words = fault_of query_app words

-- which texts of a line of `query` belong to which argument
unfoldable pub query_rows : List (List ℕ) → List Row
query_rows words = matches_of query_app words

-- why `clap` refuses a line of `scan`; nothing where it reads it
unfoldable pub scan_faults : List (List ℕ) → Kinds
scan_faults words = fault_of scan_app words

-- which texts of a line of `scan` belong to which argument
unfoldable pub scan_rows : List (List ℕ) → List Row
scan_rows words = matches_of scan_app words

-- why `clap` refuses a line of `serve`; nothing where it reads it
unfoldable pub serve_faults : List (List ℕ) → Kinds
serve_faults words = fault_of serve_app words

-- which texts of a line of `serve` belong to which argument
unfoldable pub serve_rows : List (List ℕ) → List Row
serve_rows words = matches_of serve_app words

-- why `clap` refuses a line of `find`; nothing where it reads it
unfoldable pub find_faults : List (List ℕ) → Kinds
find_faults words = fault_of find_app words

-- which texts of a line of `find` belong to which argument
unfoldable pub find_rows : List (List ℕ) → List Row
find_rows words = matches_of find_app words
