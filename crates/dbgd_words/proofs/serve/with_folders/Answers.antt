-- The folders, those for sources, and the addresses, by their tests.
use Rattle.std.proofs.Common.{rules, ◌≡◌, ◌∙◌, sym, false, true}
use Rattle.dbgd_words.proofs.ServeLemmas.{no_folder, no_server, no_source, serves_all}
use Rattle.dbgd_words.proofs.serve.with_folders.Goals as goal

pub returns-then-not-are_roots : goal.returns-then-not-are_roots
returns-then-not-are_roots c =
    let none : c.are_roots.result ≡ false = search rules in
    no_folder _ _ _ _ c.args.sources.now c.args.others.now _ c.args.folders.now (sym c.are_roots.ensures ∙ none)

pub returns-then-not-are_roots-2 : goal.returns-then-not-are_roots-2
returns-then-not-are_roots-2 c =
    let all : c.are_roots.result ≡ true = search rules in
    let none : c.are_roots-2.result ≡ false = search rules in
    no_source _ _ _ _ c.args.sources.now c.args.others.now _ c.args.folders.now (sym c.are_roots.ensures ∙ all)
    (sym c.are_roots-2.ensures ∙ none)

pub returns-in-Some : goal.returns-in-Some
returns-in-Some c =
    let all : c.are_roots.result ≡ true = search rules in
    let each : c.are_roots-2.result ≡ true = search rules in
    serves_all _ _ _ _ c.args.sources.now c.args.others.now _ c.args.folders.now (sym c.are_roots.ensures ∙ all)
    (sym c.are_roots-2.ensures ∙ each) (rw c.in-Some.is at c.in_ok-servers.ensures)
    c.in_ok-sources.ensures c.in_ok-roots.ensures

pub returns-in-None : goal.returns-in-None
returns-in-None c =
    let all : c.are_roots.result ≡ true = search rules in
    let each : c.are_roots-2.result ≡ true = search rules in
    no_server _ _ _ _ c.args.sources.now c.args.others.now _ c.args.folders.now (sym c.are_roots.ensures ∙ all)
    (sym c.are_roots-2.ensures ∙ each) (rw c.in-None.is at c.in_ok-servers.ensures)
