-- The numbers of a line that was read are within their limits.
use Rattle.std.proofs.Common.{◌≡◌, ◌≤◌, ℕ, Bool, true, false, ◌&&◌, List, [], ◌∷◌, Option, Some, None, codes, cond, refl, subst}
use Rattle.std.specs.List.{list_all, list_any}
use Rattle.std.specs.Option.{option_map_or}
use Rattle.std.specs.Prelude.{◌-◌, ◌^◌, map, nat_le, option_and_then}
use Rattle.std.specs.Str.{bytes_eq}
use Rattle.std.specs.Str.Parse.{digits_value}
use Rattle.std.proofs.lemmas.Bool.{and_parts, leb-true}
use Rattle.clap.specs.Kinds.{Kinds}
use Rattle.clap.specs.Walk.{Row, all_of, first_of}
use Rattle.row_types.specs.Canon.{canon}
use Rattle.dbgd_words.specs.Limits.{FitsLimits, IsScanFit, IsServeFit}
use Rattle.dbgd_words.specs.Numbers.{is_number, is_between, spelled_number}
use Rattle.webapi_routes.specs.declared.route.Route.{Route}
use Rattle.dbgd_words.specs.Options.{find_faults, find_rows, query_faults, query_rows, scan_faults, scan_rows, serve_faults, serve_rows}
use Rattle.dbgd_words.specs.Patterns.{PatternTexts, patterns_in}
use Rattle.dbgd_words.specs.Words.{Line, asks_help, asks_query, asks_scan, asks_trial, spelled_id, ident_line, is_help, is_root, line_of}
use Rattle.dbgd_words.specs.Words.{asks_find, find_said, route_named, sought_by}
use Rattle.dbgd_words.specs.Words.{asks_serve, number_given, query_said, scan_said, section_line, serve_said, served_by, source_folders, sources_line}
use Rattle.dbgd_words.specs.Words.{program_line, program_words, servers_in, trial_words, unreadable, upstream_texts}
use Rattle.dbgd_words.specs.declared.scan.TheConstants.{MOST_WORKERS}
use Rattle.dbgd_words.specs.declared.serve.TheConstants.{MOST_PORT, MOST_SECS}
use Rattle.dbgd_words.specs.declared.trial.TheConstants.{MOST_FILES}

some_is : {a b : ℕ} → Some a ≡ Some b → a ≡ b
some_is e = cc

-- a number that is read is one of those that may stand there
number_fits : (least most : ℕ) (text : List ℕ) (n : ℕ) → spelled_number least most text ≡ Some n → (least ≤ n) × (n ≤ most)
number_fits least most text n e = go (is_number text && is_between least most (digits_value 10 text)) refl e
  where
    go : (b : Bool) → (is_number text && is_between least most (digits_value 10 text)) ≡ b
        → cond b (Some (digits_value 10 text)) None ≡ Some n → (least ≤ n) × (n ≤ most)
    go true is found =
        let within = (and_parts (is_number text) (is_between least most (digits_value 10 text)) is).1 in
        let ends = and_parts (nat_le least (digits_value 10 text)) (nat_le (digits_value 10 text) most) within in
        subst (λ m. (least ≤ m) × (m ≤ most)) (some_is found)
        (leb-true least (digits_value 10 text) ends.0, leb-true (digits_value 10 text) most ends.1)
    go false is found = absurd (cc)

by_test : (test : Bool) (left right : Line) → FitsLimits left → FitsLimits right → FitsLimits (cond test left right)
by_test true left right a b = a
by_test false left right a b = b

by_option : {X : Type 0} (f : X → Line) (o : Option X) → ((x : X) → o ≡ Some x → FitsLimits (f x)) → FitsLimits (option_map_or f o unreadable)
by_option f None each = tt
by_option f (Some x) each = each x refl

trial_fits : (words : List (List ℕ)) → FitsLimits (trial_words words)
trial_fits (seed ∷ files ∷ workers ∷ []) =
    by_option _ (spelled_number 0 (2 ^ 64 - 1) seed) (λ s _.
    by_option _ (spelled_number 1 MOST_FILES files) (λ f is.
    by_option (asks_trial s f) (spelled_number 1 MOST_WORKERS workers) (λ w at.
    let a = number_fits 1 MOST_FILES files f is in
    let b = number_fits 1 MOST_WORKERS workers w at in
    record { some = a.0; few = a.1; one = b.0; most = b.1 })))
trial_fits [] = tt
trial_fits (a ∷ []) = tt
trial_fits (a ∷ b ∷ []) = tt
trial_fits (a ∷ b ∷ c ∷ d ∷ more) = tt

ident_fits : (words : List (List ℕ)) → FitsLimits (ident_line words)
ident_fits [] = tt
ident_fits (a ∷ []) = tt
ident_fits (a ∷ b ∷ more) = tt

sources_fits : (words : List (List ℕ)) → FitsLimits (sources_line words)
sources_fits [] = tt
sources_fits (a ∷ []) = tt
sources_fits (a ∷ b ∷ more) = tt

section_fits : (words : List (List ℕ)) → FitsLimits (section_line words)
section_fits [] = tt
section_fits (a ∷ []) = tt
section_fits (a ∷ b ∷ []) = tt
section_fits (a ∷ b ∷ c ∷ more) = tt

program_fits : (words : List (List ℕ)) → FitsLimits (program_line words)
program_fits [] = tt
program_fits (a ∷ more) = tt

query_fits : (kinds : Kinds) (rows : List Row) → FitsLimits (query_said kinds rows)
query_fits [] rows =
    by_option _ (first_of (codes "database") rows) (λ store _.
    by_option (asks_query store) (option_and_then spelled_id (first_of (codes "ID") rows)) (λ id _. tt))
query_fits (kind ∷ more) rows = by_test (is_help kind) asks_help unreadable tt tt

-- a number of workers that is read is one that a scan may have
workers_fit : (text : Option (List ℕ)) (workers : ℕ) → option_and_then (spelled_number 1 MOST_WORKERS) text ≡ Some workers
    → IsScanFit workers
workers_fit None workers at = absurd (cc)
workers_fit (Some text) workers at =
    let ends = number_fits 1 MOST_WORKERS text workers at in
    record { one = ends.0; most = ends.1 }

scan_fits : (kinds : Kinds) (rows : List Row) → FitsLimits (scan_said kinds rows)
scan_fits [] rows =
    by_option _ (first_of (codes "database") rows) (λ store _.
    by_option _ (option_and_then (spelled_number 1 MOST_WORKERS) (first_of (codes "concurrency") rows)) (λ workers at.
    by_option _ (all_of (codes "DIR") rows) (λ folders _.
    let fit = workers_fit (first_of (codes "concurrency") rows) workers at in
    by_test (list_all is_root folders) (asks_scan store workers (patterns_in rows) (map canon folders)) unreadable fit tt)))
scan_fits (kind ∷ more) rows = by_test (is_help kind) asks_help unreadable tt tt

-- a number of an argument that is read is one of those that may stand there
argument_fits : (least most : ℕ) (text : Option (List ℕ)) (n : ℕ) → option_and_then (spelled_number least most) text ≡ Some n
    → (least ≤ n) × (n ≤ most)
argument_fits least most None n at = absurd (cc)
argument_fits least most (Some text) n at = number_fits least most text n at

served_fits : (store : List ℕ) (workers port secs : ℕ) (sources others : List (List ℕ)) (patterns : PatternTexts)
    (folders : List (List ℕ)) → IsServeFit workers port secs
    → FitsLimits (served_by store workers port secs sources others patterns folders)
served_fits store workers port secs sources others patterns folders fit =
    by_test (list_all is_root folders) _ unreadable
    (by_test (list_all is_root sources) _ unreadable
    (by_option (λ upstream. asks_serve store workers port secs (map canon sources) upstream patterns (map canon folders))
    (servers_in others)
    (λ upstream _. fit)) tt) tt

serve_fits : (kinds : Kinds) (rows : List Row) → FitsLimits (serve_said kinds rows)
serve_fits [] rows =
    by_option _ (first_of (codes "database") rows) (λ store _.
    by_option _ (number_given 1 MOST_WORKERS (codes "concurrency") rows) (λ workers at.
    by_option _ (number_given 1 MOST_PORT (codes "port") rows) (λ port on.
    by_option _ (number_given 0 MOST_SECS (codes "rescan-time") rows) (λ secs each.
    by_option _ (all_of (codes "DIR") rows) (λ folders _.
    let a = argument_fits 1 MOST_WORKERS (first_of (codes "concurrency") rows) workers at in
    let b = argument_fits 1 MOST_PORT (first_of (codes "port") rows) port on in
    let c = argument_fits 0 MOST_SECS (first_of (codes "rescan-time") rows) secs each in
    served_fits store workers port secs (source_folders (first_of (codes "sources") rows))
    (upstream_texts (first_of (codes "upstream") rows)) (patterns_in rows) folders
    (record { one = a.0; most = a.1; some = b.0; highest = b.1; longest = c.1 }))))))
serve_fits (kind ∷ more) rows = by_test (is_help kind) asks_help unreadable tt tt

sought_fits : (cache : List ℕ) (others : List (List ℕ)) (route : Route) → FitsLimits (sought_by cache others route)
sought_fits cache others route = by_option (λ upstream. asks_find cache route upstream) (servers_in others) (λ upstream _. tt)

find_fits : (kinds : Kinds) (rows : List Row) → FitsLimits (find_said kinds rows)
find_fits [] rows =
    by_option _ (first_of (codes "cache") rows) (λ cache _.
    by_option _ (first_of (codes "KIND") rows) (λ kind _.
    by_option _ (option_and_then spelled_id (first_of (codes "ID") rows)) (λ id _.
    by_option _ (route_named kind id (first_of (codes "NAME") rows)) (λ route _.
    sought_fits cache (upstream_texts (first_of (codes "upstream") rows)) route))))
find_fits (kind ∷ more) rows = by_test (is_help kind) asks_help unreadable tt tt

-- whatever the words are
pub line_fits : (words : List (List ℕ)) → FitsLimits (line_of words)
line_fits [] = tt
line_fits (command ∷ rest) =
    by_test (bytes_eq command (codes "ident")) _ _ (ident_fits rest)
    (by_test (bytes_eq command (codes "sources")) _ _ (sources_fits rest)
    (by_test (bytes_eq command (codes "section")) _ _ (section_fits rest)
    (by_test (bytes_eq command (codes "query")) _ _ (query_fits (query_faults (command ∷ rest)) (query_rows (command ∷ rest)))
    (by_test (bytes_eq command (codes "scan")) _ _ (scan_fits (scan_faults (command ∷ rest)) (scan_rows (command ∷ rest)))
    (by_test (bytes_eq command (codes "serve")) _ _ (serve_fits (serve_faults (command ∷ rest)) (serve_rows (command ∷ rest)))
    (by_test (bytes_eq command (codes "find")) _ _ (find_fits (find_faults (command ∷ rest)) (find_rows (command ∷ rest)))
    (by_test (bytes_eq command (codes "trial")) _ _ (trial_fits rest)
    (by_test (list_any (bytes_eq command) program_words) _ unreadable (program_fits rest) tt))))))))
