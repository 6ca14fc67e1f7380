-- A link to one more server, and in the end none is left.
use Rattle.std.proofs.Common.{◌≡◌, ◌<◌, ◌≤◌, ◌+◌, ◌∙◌, List, [], ◌∷◌, ◌++◌, map, drop, length, sym, ap, arith, append_assoc, rules}
use Rattle.std.proofs.lemmas.List.{append-nil, drop_all, drop_more, map-append}
use Rattle.federation.specs.Server.{ServerFacts}
use Rattle.dbgd.specs.Servers.{server_of}
use Rattle.dbgd.proofs.row.Goals as goal

-- what was made of some stands in front of what is left of all
one_more : {A B : Type 0} (f : A → B) (xs ys : List A) (x : A) (b : B) (left rest all : List B) → ys ≡ xs ++ x ∷ [] → f x ≡ b
    → left ≡ b ∷ rest → map f xs ++ left ≡ all → map f ys ++ rest ≡ all
one_more f xs ys x b left rest all pushed is steps so =
    ap (λ zs. map f zs ++ rest) pushed ∙ ap (λ zs. zs ++ rest) (map-append f xs (x ∷ []))
    ∙ append_assoc (map f xs) (f x ∷ []) rest ∙ ap (λ y. map f xs ++ (y ∷ rest)) is
    ∙ ap (λ zs. map f xs ++ zs) (sym steps) ∙ so

pub loop-at-preserved : goal.loop-at-preserved
loop-at-preserved g c =
    let at = c.loop-at in
    let all : List ServerFacts = c.args.upstream.now in
    let below : at.at-index < length all = omega arith in
    let pushed : c.push.new.self.items ≡ at.links.items ++ c.in_ok-link.field-0 ∷ [] = search rules in
    one_more server_of at.links.items c.push.new.self.items c.in_ok-link.field-0 c.at-item.result _ _ all pushed c.in_ok-link.ensures
    (drop_more all at.at-index c.at-item.result below ∙ ap (λ y. y ∷ drop (at.at-index + 1) all) (sym c.at-item.is)) at.invariant

pub returns : goal.returns
returns g c =
    let at = c.loop-at in
    let all : List ServerFacts = c.args.upstream.now in
    let none : length all ≤ at.at-index = omega arith in
    sym (append-nil (map server_of at.links.items)) ∙ ap (λ rest. map server_of at.links.items ++ rest) (sym (drop_all at.at-index all none)) ∙ at.invariant
