-- One more server, none for a text that is no address, and in the end no text is left.
use Rattle.std.proofs.Common.{rules, ◌≡◌, ◌<◌, ◌≤◌, ◌+◌, ◌++◌, ◌∙◌, [], ◌∷◌, drop, length, map, sym, ap, arith}
use Rattle.std.proofs.lemmas.List.{drop_all, drop_more}
use Rattle.dbgd_words.specs.Words.{servers_in}
use Rattle.dbgd_words.proofs.ServerLemmas.{all_servers, not_a_server, nothing_in_front, one_more_server, servers_behind}
use Rattle.dbgd_words.proofs.upstream.servers_of.Goals as goal

pub loop-text-init : goal.loop-text-init
loop-text-init c =
    let all = servers_in (map (λ text. text.now) c.args.texts.now) in
    let none : c.in_ok-servers.servers.items ≡ [] = search rules in
    ap (λ before. servers_behind before all) none ∙ nothing_in_front all

pub loop-text-preserved : goal.loop-text-preserved
loop-text-preserved c =
    let at = c.loop-text in
    let texts = c.args.texts.now in
    let rest = drop (at.text-index + 1) texts in
    let below : at.text-index < length texts = omega arith in
    let pushed : c.push.new.self.items ≡ at.servers.items ++ c.in-Some.server ∷ [] = search rules in
    one_more_server at.servers.items c.push.new.self.items c.in-Some.server _ (map (λ text. text.now) rest) pushed
    (sym c.in_ok-read.ensures.address ∙ c.in-Some.is)
    (ap (λ left. servers_in (map (λ text. text.now) left)) (drop_more texts at.text-index _ below)) at.invariant

pub returns-in-None : goal.returns-in-None
returns-in-None c =
    let at = c.loop-text in
    let texts = c.args.texts.now in
    let rest = drop (at.text-index + 1) texts in
    let below : at.text-index < length texts = omega arith in
    not_a_server at.servers.items _ (map (λ text. text.now) rest) (sym c.in_ok-read.ensures.address ∙ c.in-None.is)
    (ap (λ left. servers_in (map (λ text. text.now) left)) (drop_more texts at.text-index _ below)) at.invariant

pub returns : goal.returns
returns c =
    let at = c.loop-text in
    let texts = c.args.texts.now in
    let none : length texts ≤ at.text-index = omega arith in
    all_servers at.servers.items (ap (λ left. servers_in (map (λ text. text.now) left)) (drop_all at.text-index texts none)) at.invariant
