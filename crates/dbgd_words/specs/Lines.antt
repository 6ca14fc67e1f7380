-- What the line asks that a reader of words gives (this project's rule).
use Rattle.dbgd_words.specs.Words.{Line as Asked, asks_find, asks_help, asks_ident, asks_query, asks_scan}
use Rattle.dbgd_words.specs.Words.{asks_section, asks_serve, asks_sources, asks_trial, unreadable}
use Rattle.dbgd_words.specs.Patterns.{pattern_texts}
use Rattle.dbgd_words.specs.declared.line.Line.{Line}
use Rattle.dbgd_words.specs.declared.line.Line.TheVariants.{Ident, Sources, Section, Query, Scan}
use Rattle.dbgd_words.specs.declared.line.Line.TheVariants.{Serve, Find, Trial, Program, Help, Usage}

-- what the line asks
abbrev pub asked_by : Line → Asked
asked_by (Ident path) = asks_ident path.now
asked_by (Sources path) = asks_sources path.now
asked_by (Section path name) = asks_section path.now name.now
asked_by (Query store id) = asks_query store.now id
asked_by (Scan line) = asks_scan line.store.now line.workers (pattern_texts line.patterns) line.roots.items
asked_by (Serve line) =
    asks_serve line.store.now line.workers line.port line.secs line.sources.items line.upstream.items
    (pattern_texts line.patterns) line.roots.items
asked_by (Find line) = asks_find line.cache.now line.route line.upstream.items
asked_by (Trial seed files workers) = asks_trial seed files workers
asked_by (Program text) = asks_help
asked_by (Help text) = asks_help
asked_by Usage = unreadable
