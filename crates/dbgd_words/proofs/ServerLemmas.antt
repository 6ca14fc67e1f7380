-- Addresses that are read one after the other: what was read stands before what the texts that are left name.
use Rattle.std.proofs.Common.{◌≡◌, ℕ, List, [], ◌∷◌, ◌++◌, Option, Some, None, append-nil, append_assoc, refl, sym, ◌∙◌, ap, option_map}
use Rattle.std.specs.Prelude.{option_and_then}
use Rattle.federation.specs.Address.{server_of_text}
use Rattle.federation.specs.Server.{ServerFacts}
use Rattle.dbgd_words.specs.Words.{servers_in}

-- these servers, and those behind them, if there are such
abbrev pub servers_behind : List ServerFacts → Option (List ServerFacts) → Option (List ServerFacts)
servers_behind before servers = option_map (λ more. before ++ more) servers

-- nothing stands before them
pub nothing_in_front : (servers : Option (List ServerFacts)) → servers_behind [] servers ≡ servers
nothing_in_front None = refl
nothing_in_front (Some all) = refl

-- of two lists of servers before others
more_again : (before : List ServerFacts) (at : ServerFacts) (servers : Option (List ServerFacts))
    → servers_behind (before ++ at ∷ []) servers ≡ servers_behind before (option_map (λ more. at ∷ more) servers)
more_again before at None = refl
more_again before at (Some all) = ap (λ (xs : List ServerFacts). Some xs) (append_assoc before (at ∷ []) all)

-- by what a text is read as, and what the texts behind it name
abbrev Reads : List (List ℕ) → Option ServerFacts → Option (List ServerFacts)
Reads texts server = option_and_then (λ at. option_map (λ more. at ∷ more) (servers_in texts)) server

-- one more text, which is an address
pub one_more_server : {left : Option (List ServerFacts)} {whole : Option (List ServerFacts)} (before after : List ServerFacts)
    (at : ServerFacts) (text : List ℕ) (texts : List (List ℕ)) → after ≡ before ++ at ∷ [] → server_of_text text ≡ Some at
    → left ≡ servers_in (text ∷ texts) → servers_behind before left ≡ whole → servers_behind after (servers_in texts) ≡ whole
one_more_server {left} {whole} before after at text texts pushed is steps so =
    ap (λ (xs : List ServerFacts). servers_behind xs (servers_in texts)) pushed
    ∙ (more_again before at (servers_in texts)
    ∙ (ap (servers_behind before) (sym (ap (Reads texts) is)) ∙ (ap (servers_behind before) (sym steps) ∙ so)))

-- one that is none
pub not_a_server : {left : Option (List ServerFacts)} {whole : Option (List ServerFacts)} (before : List ServerFacts)
    (text : List ℕ) (texts : List (List ℕ)) → server_of_text text ≡ None → left ≡ servers_in (text ∷ texts)
    → servers_behind before left ≡ whole → None ≡ whole
not_a_server {left} {whole} before text texts is steps so =
    sym (ap (servers_behind before) (ap (Reads texts) is)) ∙ (ap (servers_behind before) (sym steps) ∙ so)

-- no text is left
pub all_servers : {left : Option (List ServerFacts)} {whole : Option (List ServerFacts)} (before : List ServerFacts)
    → left ≡ servers_in [] → servers_behind before left ≡ whole → Some before ≡ whole
all_servers {left} {whole} before none so = sym (ap (λ (xs : List ServerFacts). Some xs) (append-nil before)) ∙ (ap (servers_behind before) (sym none) ∙ so)
