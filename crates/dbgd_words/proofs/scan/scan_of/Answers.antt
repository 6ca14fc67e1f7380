use Rattle.std.proofs.Common.{rules, ◌≡◌, ◌∙◌, ap, refl, sym, false, true, map, option_map}
use Rattle.dbgd_words.proofs.TextLemmas.{asks_all, asks_nothing}
use Rattle.dbgd_words.proofs.scan.scan_of.Goals as goal

pub returns-then-not-are_roots : goal.returns-then-not-are_roots
returns-then-not-are_roots c =
    let none : c.are_roots.result ≡ false = search rules in
    asks_nothing c.in-Some-texts_of.folders.now (sym c.text_of.ensures ∙ ap (option_map (λ text. text.now)) c.in-Some.is)
    (sym c.text_of-2.ensures ∙ ap (option_map (λ text. text.now)) c.in-Some-text_of.is)
    (sym c.number_in.ensures ∙ c.in-Some-number_in.is)
    refl
    (sym c.texts_of.ensures ∙ ap (option_map (λ texts. map (λ text. text.now) texts.now)) c.in-Some-texts_of.is)
    (sym c.are_roots.ensures ∙ none)

pub returns : goal.returns
returns c =
    let each : c.are_roots.result ≡ true = search rules in
    asks_all c.in-Some-texts_of.folders.now (sym c.text_of.ensures ∙ ap (option_map (λ text. text.now)) c.in-Some.is)
    (sym c.text_of-2.ensures ∙ ap (option_map (λ text. text.now)) c.in-Some-text_of.is)
    (sym c.number_in.ensures ∙ c.in-Some-number_in.is)
    (sym c.patterns_of.ensures)
    (sym c.texts_of.ensures ∙ ap (option_map (λ texts. map (λ text. text.now) texts.now)) c.in-Some-texts_of.is)
    (sym c.are_roots.ensures ∙ each) c.in_ok-roots.ensures
