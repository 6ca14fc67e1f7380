-- Words that are read as options.
use Rattle.std.proofs.Common.{◌≡◌, ℕ, Bool, true, false, List, [], ◌∷◌, Option, Some, None, codes, cond, refl, sym, subst, true≢false}
use Rattle.std.specs.List.{list_all}
use Rattle.std.specs.Option.{option_map_or}
use Rattle.std.specs.Prelude.{map, option_and_then}
use Rattle.std.specs.Str.{bytes_eq}
use Rattle.std.proofs.lemmas.Slice.Eq.{bytes_eq-Decides}
use Rattle.clap.specs.Kinds.{Kinds}
use Rattle.clap.specs.Walk.{Row, all_of, first_of}
use Rattle.clap.specs.declared.error.kind.ErrorKind.{ErrorKind}
use Rattle.row_types.specs.Canon.{canon}
use Rattle.dbgd_words.specs.Numbers.{spelled_number}
use Rattle.webapi_routes.specs.declared.route.Route.{Route}
use Rattle.dbgd_words.specs.Options.{find_faults, find_rows, query_faults, query_rows, scan_faults, scan_rows, serve_faults, serve_rows}
use Rattle.dbgd_words.specs.Patterns.{PatternTexts, patterns_in}
use Rattle.dbgd_words.specs.Words.{Line, asks_help, asks_query, asks_scan, has_options, spelled_id, is_help, is_root, line_of}
use Rattle.dbgd_words.specs.Words.{asks_find, find_said, route_named, sought_by}
use Rattle.dbgd_words.specs.Words.{asks_serve, number_given, query_said, refused_line, scan_said, serve_said, served_by, servers_in, source_folders, unreadable, upstream_texts}
use Rattle.dbgd_words.specs.declared.scan.TheConstants.{MOST_WORKERS}
use Rattle.dbgd_words.specs.declared.serve.TheConstants.{MOST_PORT, MOST_SECS}

-- what words that are read as options may ask
abbrev pub AsksByOptions : Line → Type 0
AsksByOptions (asks_query store id) = Unit {0}
AsksByOptions (asks_scan store workers patterns roots) = Unit {0}
AsksByOptions (asks_serve store workers port secs sources upstream patterns roots) = Unit {0}
AsksByOptions (asks_find cache route upstream) = Unit {0}
AsksByOptions asks_help = Unit {0}
AsksByOptions unreadable = Unit {0}
AsksByOptions _ = ⊥

by_test : (test : Bool) (left right : Line) → AsksByOptions left → AsksByOptions right → AsksByOptions (cond test left right)
by_test true left right a b = a
by_test false left right a b = b

by_option : {X : Type 0} (f : X → Line) (o : Option X) → ((x : X) → AsksByOptions (f x)) → AsksByOptions (option_map_or f o unreadable)
by_option f None each = tt
by_option f (Some x) each = each x

refused_asks : (kind : ErrorKind) → AsksByOptions (refused_line kind)
refused_asks kind = by_test (is_help kind) asks_help unreadable tt tt

query_asks : (kinds : Kinds) (rows : List Row) → AsksByOptions (query_said kinds rows)
query_asks [] rows =
    by_option _ (first_of (codes "database") rows) (λ store. by_option (asks_query store) (option_and_then spelled_id (first_of (codes "ID") rows)) (λ id. tt))
query_asks (kind ∷ more) rows = refused_asks kind

scan_asks : (kinds : Kinds) (rows : List Row) → AsksByOptions (scan_said kinds rows)
scan_asks [] rows =
    by_option _ (first_of (codes "database") rows) (λ store.
    by_option _ (option_and_then (spelled_number 1 MOST_WORKERS) (first_of (codes "concurrency") rows)) (λ workers.
    by_option _ (all_of (codes "DIR") rows) (λ folders.
    by_test (list_all is_root folders) (asks_scan store workers (patterns_in rows) (map canon folders)) unreadable tt tt)))
scan_asks (kind ∷ more) rows = refused_asks kind

served_asks : (store : List ℕ) (workers port secs : ℕ) (sources others : List (List ℕ)) (patterns : PatternTexts)
    (folders : List (List ℕ)) → AsksByOptions (served_by store workers port secs sources others patterns folders)
served_asks store workers port secs sources others patterns folders =
    by_test (list_all is_root folders) _ unreadable
    (by_test (list_all is_root sources) _ unreadable
    (by_option (λ upstream. asks_serve store workers port secs (map canon sources) upstream patterns (map canon folders))
    (servers_in others)
    (λ upstream. tt)) tt) tt

serve_asks : (kinds : Kinds) (rows : List Row) → AsksByOptions (serve_said kinds rows)
serve_asks [] rows =
    by_option _ (first_of (codes "database") rows) (λ store.
    by_option _ (number_given 1 MOST_WORKERS (codes "concurrency") rows) (λ workers.
    by_option _ (number_given 1 MOST_PORT (codes "port") rows) (λ port.
    by_option _ (number_given 0 MOST_SECS (codes "rescan-time") rows) (λ secs.
    by_option _ (all_of (codes "DIR") rows) (λ folders.
    served_asks store workers port secs (source_folders (first_of (codes "sources") rows))
    (upstream_texts (first_of (codes "upstream") rows)) (patterns_in rows) folders)))))
serve_asks (kind ∷ more) rows = refused_asks kind

sought_asks : (cache : List ℕ) (others : List (List ℕ)) (route : Route) → AsksByOptions (sought_by cache others route)
sought_asks cache others route = by_option (λ upstream. asks_find cache route upstream) (servers_in others) (λ upstream. tt)

find_asks : (kinds : Kinds) (rows : List Row) → AsksByOptions (find_said kinds rows)
find_asks [] rows =
    by_option _ (first_of (codes "cache") rows) (λ cache.
    by_option _ (first_of (codes "KIND") rows) (λ kind.
    by_option _ (option_and_then spelled_id (first_of (codes "ID") rows)) (λ id.
    by_option _ (route_named kind id (first_of (codes "NAME") rows)) (λ route.
    sought_asks cache (upstream_texts (first_of (codes "upstream") rows)) route))))
find_asks (kind ∷ more) rows = refused_asks kind

-- they ask nothing else
pub options_ask : (words : List (List ℕ)) → has_options words ≡ true → AsksByOptions (line_of words)
options_ask [] h = absurd (true≢false (sym h))
options_ask (command ∷ rest) h =
    go (bytes_eq command (codes "query")) refl (bytes_eq command (codes "scan")) refl (bytes_eq command (codes "serve")) refl
    (bytes_eq command (codes "find")) refl
  where
    go : (query : Bool) → bytes_eq command (codes "query") ≡ query → (scan : Bool) → bytes_eq command (codes "scan") ≡ scan
        → (serve : Bool) → bytes_eq command (codes "serve") ≡ serve
        → (find : Bool) → bytes_eq command (codes "find") ≡ find → AsksByOptions (line_of (command ∷ rest))
    go true is scan e serve f find g =
        subst (λ c. AsksByOptions (line_of (c ∷ rest))) (sym ((bytes_eq-Decides command (codes "query")).0 is))
        (query_asks (query_faults (codes "query" ∷ rest)) (query_rows (codes "query" ∷ rest)))
    go false e true is serve f find g =
        subst (λ c. AsksByOptions (line_of (c ∷ rest))) (sym ((bytes_eq-Decides command (codes "scan")).0 is))
        (scan_asks (scan_faults (codes "scan" ∷ rest)) (scan_rows (codes "scan" ∷ rest)))
    go false e false f true is find g =
        subst (λ c. AsksByOptions (line_of (c ∷ rest))) (sym ((bytes_eq-Decides command (codes "serve")).0 is))
        (serve_asks (serve_faults (codes "serve" ∷ rest)) (serve_rows (codes "serve" ∷ rest)))
    go false e false f false g true is =
        subst (λ c. AsksByOptions (line_of (c ∷ rest))) (sym ((bytes_eq-Decides command (codes "find")).0 is))
        (find_asks (find_faults (codes "find" ∷ rest)) (find_rows (codes "find" ∷ rest)))
    go false e false f false g false k = absurd (cc)
