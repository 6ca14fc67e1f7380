-- Command lines (this project's rule): what the words after the program's name ask.
use Rattle.std.specs.Prelude.{ℕ, ◌-◌, ◌^◌, ◌&&◌, ◌||◌, ◌==◌, nat_le, Bool, false, true, List, [], ◌∷◌, if◌then◌else◌, length, map, codes}
use Rattle.std.specs.Prelude.{Option, Some, None, option_and_then, option_map, Result, Ok, Err}
use Rattle.std.specs.List.{list_all, list_any, slice_split}
use Rattle.std.specs.Option.{option_map_or}
use Rattle.std.specs.Str.{bytes_eq}
use Rattle.clap.specs.Kinds.{Kinds}
use Rattle.clap.specs.Walk.{Row, all_of, first_of}
use Rattle.clap.specs.declared.error.kind.ErrorKind.{ErrorKind}
use Rattle.clap.specs.declared.error.kind.ErrorKind.TheVariants.{DisplayHelp, DisplayVersion}
use Rattle.hex.specs.Hex.{decode_of}
use Rattle.hex.specs.declared.error.FromHexError.{FromHexError}
use Rattle.federation.specs.Address.{server_of_text}
use Rattle.federation.specs.Server.{ServerFacts}
use Rattle.row_types.specs.Absolute.{is_absolute}
use Rattle.row_types.specs.Canon.{canon}
use Rattle.row_types.specs.declared.build_id.TheConstants.{SHORTEST_ID, LONGEST_ID}
use Rattle.row_types.specs.declared.limits.TheConstants.{PATH_LIMIT}
use Rattle.dbgd_words.specs.Numbers.{is_between, spelled_number}
use Rattle.dbgd_words.specs.Patterns.{PatternTexts, patterns_in}
use Rattle.webapi_routes.specs.declared.route.Route.{Route}
use Rattle.webapi_routes.specs.declared.route.Route.TheVariants.{Debuginfo, Executable, Section, Source}
use Rattle.dbgd_words.specs.Options.{find_faults, find_rows, query_faults, query_rows, scan_faults, scan_rows}
use Rattle.dbgd_words.specs.Options.{serve_faults, serve_rows}
use Rattle.dbgd_words.specs.declared.scan.TheConstants.{MOST_WORKERS}
use Rattle.dbgd_words.specs.declared.serve.TheConstants.{MOST_PORT, MOST_SECS}
use Rattle.dbgd_words.specs.declared.trial.TheConstants.{MOST_FILES}

-- what a line asks: the identity of the file at a path, its source paths, the section of a name of it, the rows that a
-- store holds of an id, a scan of folders into a store by so many workers, with patterns, a server of a store by so many workers
-- on a port, with so many seconds from one scan of its folders to the next, further folders for sources, other servers that it
-- asks, and patterns for its scans, a search for a route in the cache of a folder and on other servers, a scan of so many
-- generated files of a seed, the help or version of the program or of a command, or nothing that can be read
pub data Line : Type 0 where
  asks_ident : (path : List ℕ) → Line
  asks_sources : (path : List ℕ) → Line
  asks_section : (path : List ℕ) (name : List ℕ) → Line
  asks_query : (store : List ℕ) (id : List ℕ) → Line
  asks_scan : (store : List ℕ) (workers : ℕ) (patterns : PatternTexts) (roots : List (List ℕ)) → Line
  asks_serve : (store : List ℕ) (workers : ℕ) (port : ℕ) (secs : ℕ) (sources : List (List ℕ))
      (upstream : List ServerFacts) (patterns : PatternTexts) (roots : List (List ℕ)) → Line
  asks_find : (cache : List ℕ) (route : Route) (upstream : List ServerFacts) → Line
  asks_trial : (seed : ℕ) (files : ℕ) (workers : ℕ) → Line
  asks_help : Line
  unreadable : Line

-- the words of `ident`: one file
abbrev pub ident_line : List (List ℕ) → Line
ident_line (path ∷ []) = asks_ident path
ident_line _ = unreadable

-- the words of `sources`: one file
abbrev pub sources_line : List (List ℕ) → Line
sources_line (path ∷ []) = asks_sources path
sources_line _ = unreadable

-- the words of `section`: one file and a name
abbrev pub section_line : List (List ℕ) → Line
section_line (path ∷ name ∷ []) = asks_section path name
section_line _ = unreadable

-- whether a word names a folder that can be scanned: one that has a canonical path
abbrev pub is_root : List ℕ → Bool
is_root word = is_absolute word && nat_le (length word) PATH_LIMIT

-- the bytes, where they are as many as an id has
abbrev pub of_id_length : Result (List ℕ) FromHexError → Option (List ℕ)
of_id_length (Ok bytes) = if is_between SHORTEST_ID LONGEST_ID (length bytes) then Some bytes else None
of_id_length (Err why) = None

-- the id that a text spells: two hexadecimal digits, of either case, for each of its bytes
abbrev pub spelled_id : List ℕ → Option (List ℕ)
spelled_id text = of_id_length (decode_of text)

-- whether it is with its help or its version that a command answers
abbrev pub is_help : ErrorKind → Bool
is_help DisplayHelp = true
is_help DisplayVersion = true
is_help _ = false

-- a line that isn't read as its command, by the reason
abbrev pub refused_line : ErrorKind → Line
refused_line kind = if is_help kind then asks_help else unreadable

-- a store and the text of an id
abbrev pub query_asked : Option (List ℕ) → Option (List ℕ) → Line
query_asked store id =
    option_map_or (λ store. option_map_or (asks_query store) (option_and_then spelled_id id) unreadable) store unreadable

-- a store, the text of a number of workers, 1 to 64, patterns, and folders
abbrev pub scan_asked : Option (List ℕ) → Option (List ℕ) → PatternTexts → Option (List (List ℕ)) → Line
scan_asked store number patterns folders = option_map_or (λ store.
    option_map_or (λ workers.
    option_map_or (λ folders.
    if list_all is_root folders then asks_scan store workers patterns (map canon folders) else unreadable)
    folders unreadable) (option_and_then (spelled_number 1 MOST_WORKERS) number) unreadable) store unreadable

-- the folders that a text names, with colons between them; none without a text
abbrev pub source_folders : Option (List ℕ) → List (List ℕ)
source_folders None = []
source_folders (Some text) = slice_split (λ b. b == 58) text

-- the addresses that a text names, with spaces between them; none without a text
abbrev pub upstream_texts : Option (List ℕ) → List (List ℕ)
upstream_texts None = []
upstream_texts (Some text) = slice_split (λ b. b == 32) text

-- where the servers of these addresses are, if each of the texts is an address
abbrev pub servers_in : List (List ℕ) → Option (List ServerFacts)
servers_in [] = Some []
servers_in (text ∷ texts) = option_and_then (λ at. option_map (λ more. at ∷ more) (servers_in texts)) (server_of_text text)

-- the number that an argument's text spells, where it is one of these
abbrev pub number_given : ℕ → ℕ → List ℕ → List Row → Option ℕ
number_given least most name rows = option_and_then (spelled_number least most) (first_of name rows)

-- a server: each of its folders, and each one for sources, has a canonical path, and each of the texts for other servers is an
-- address
abbrev pub served_by : List ℕ → ℕ → ℕ → ℕ → List (List ℕ) → List (List ℕ) → PatternTexts → List (List ℕ) → Line
served_by store workers port secs sources others patterns folders =
    if list_all is_root folders
    then (if list_all is_root sources
    then option_map_or (λ upstream. asks_serve store workers port secs (map canon sources) upstream patterns (map canon folders))
    (servers_in others) unreadable
    else unreadable) else unreadable

-- a store, a number of workers, a port, a number of seconds, patterns and folders, each where it can be read
abbrev pub serve_asked : Option (List ℕ) → Option ℕ → Option ℕ → Option ℕ → List (List ℕ) → List (List ℕ) → PatternTexts
    → Option (List (List ℕ)) → Line
serve_asked store workers port secs sources others patterns folders = option_map_or (λ store.
    option_map_or (λ workers.
    option_map_or (λ port.
    option_map_or (λ secs.
    option_map_or (λ folders. served_by store workers port secs sources others patterns folders)
    folders unreadable) secs unreadable) port unreadable) workers unreadable) store unreadable

-- a file has no name
abbrev pub file_named : Route → Option (List ℕ) → Option Route
file_named route None = Some route
file_named route (Some name) = None

-- the source of an id at a path: one that has a canonical path
abbrev pub source_named : List ℕ → List ℕ → Option Route
source_named id name = if is_root name then Some (Source id (canon name)) else None

-- the section of an id that has a name: one of a byte at least
abbrev pub section_named : List ℕ → List ℕ → Option Route
section_named id name = if nat_le 1 (length name) then Some (Section id name) else None

-- what a kind and an id name: a source and a section by their names, a file by none
abbrev pub route_named : List ℕ → List ℕ → Option (List ℕ) → Option Route
route_named kind id name =
    if bytes_eq kind (codes "debuginfo") then file_named (Debuginfo id) name
    else (if bytes_eq kind (codes "executable") then file_named (Executable id) name
    else (if bytes_eq kind (codes "source") then option_and_then (source_named id) name
    else (if bytes_eq kind (codes "section") then option_and_then (section_named id) name else None)))

-- a search for a route: each of the texts for servers is an address
abbrev pub sought_by : List ℕ → List (List ℕ) → Route → Line
sought_by cache others route = option_map_or (λ upstream. asks_find cache route upstream) (servers_in others) unreadable

-- a folder, a kind, the text of an id, a name if there is one, and the texts for servers
abbrev pub find_asked : Option (List ℕ) → Option (List ℕ) → Option (List ℕ) → Option (List ℕ) → List (List ℕ) → Line
find_asked cache kind id name others = option_map_or (λ cache.
    option_map_or (λ kind.
    option_map_or (λ id.
    option_map_or (sought_by cache others) (route_named kind id name) unreadable)
    (option_and_then spelled_id id) unreadable) kind unreadable) cache unreadable

-- a line of `query`, by why it is refused and by the texts of its arguments
abbrev pub query_said : Kinds → List Row → Line
query_said [] rows = query_asked (first_of (codes "database") rows) (first_of (codes "ID") rows)
query_said (kind ∷ more) rows = refused_line kind

-- a line of `scan`, by the same
abbrev pub scan_said : Kinds → List Row → Line
scan_said [] rows =
    scan_asked (first_of (codes "database") rows) (first_of (codes "concurrency") rows) (patterns_in rows)
    (all_of (codes "DIR") rows)
scan_said (kind ∷ more) rows = refused_line kind

-- a line of `serve`, by the same: 1 to 64 workers, a port from 1 to 65535, and 0 to 86400 seconds
abbrev pub serve_said : Kinds → List Row → Line
serve_said [] rows =
    serve_asked (first_of (codes "database") rows) (number_given 1 MOST_WORKERS (codes "concurrency") rows)
    (number_given 1 MOST_PORT (codes "port") rows) (number_given 0 MOST_SECS (codes "rescan-time") rows)
    (source_folders (first_of (codes "sources") rows)) (upstream_texts (first_of (codes "upstream") rows))
    (patterns_in rows) (all_of (codes "DIR") rows)
serve_said (kind ∷ more) rows = refused_line kind

-- a line of `find`, by the same
abbrev pub find_said : Kinds → List Row → Line
find_said [] rows =
    find_asked (first_of (codes "cache") rows) (first_of (codes "KIND") rows) (first_of (codes "ID") rows)
    (first_of (codes "NAME") rows) (upstream_texts (first_of (codes "upstream") rows))
find_said (kind ∷ more) rows = refused_line kind

-- the line of `query`, its name among the words
abbrev pub query_line : List (List ℕ) → Line
query_line words = query_said (query_faults words) (query_rows words)

-- the line of `scan`, its name among the words
abbrev pub scan_line : List (List ℕ) → Line
scan_line words = scan_said (scan_faults words) (scan_rows words)

-- the line of `serve`, its name among the words
abbrev pub serve_line : List (List ℕ) → Line
serve_line words = serve_said (serve_faults words) (serve_rows words)

-- the line of `find`, its name among the words
abbrev pub find_line : List (List ℕ) → Line
find_line words = find_said (find_faults words) (find_rows words)

-- a seed below 2^64, a number of files, 1 to 100,000, and one of workers, 1 to 64
abbrev pub trial_asked : List ℕ → List ℕ → List ℕ → Line
trial_asked seed files workers = option_map_or (λ seed.
    option_map_or (λ files. option_map_or (asks_trial seed files) (spelled_number 1 MOST_WORKERS workers) unreadable)
    (spelled_number 1 MOST_FILES files) unreadable) (spelled_number 0 (2 ^ 64 - 1) seed) unreadable

-- the words of `trial`: three numbers
abbrev pub trial_words : List (List ℕ) → Line
trial_words (seed ∷ files ∷ workers ∷ []) = trial_asked seed files workers
trial_words _ = unreadable

-- the words that ask for the help or the version of the program
abbrev pub program_words : List (List ℕ)
program_words = codes "--help" ∷ codes "-h" ∷ codes "--version" ∷ codes "-V" ∷ []

-- what such a word asks, by those that follow it: it stands alone
abbrev pub program_line : List (List ℕ) → Line
program_line [] = asks_help
program_line _ = unreadable

-- what the words ask: the first one names the command
abbrev pub line_of : List (List ℕ) → Line
line_of [] = unreadable
line_of (command ∷ rest) =
    if bytes_eq command (codes "ident") then ident_line rest
    else (if bytes_eq command (codes "sources") then sources_line rest
    else (if bytes_eq command (codes "section") then section_line rest
    else (if bytes_eq command (codes "query") then query_line (command ∷ rest)
    else (if bytes_eq command (codes "scan") then scan_line (command ∷ rest)
    else (if bytes_eq command (codes "serve") then serve_line (command ∷ rest)
    else (if bytes_eq command (codes "find") then find_line (command ∷ rest)
    else (if bytes_eq command (codes "trial") then trial_words rest
    else (if list_any (bytes_eq command) program_words then program_line rest else unreadable))))))))

-- whether the words are read as options, which takes memory
abbrev pub has_options : List (List ℕ) → Bool
has_options [] = false
has_options (command ∷ rest) =
    bytes_eq command (codes "query")
    || (bytes_eq command (codes "scan") || (bytes_eq command (codes "serve") || bytes_eq command (codes "find")))
