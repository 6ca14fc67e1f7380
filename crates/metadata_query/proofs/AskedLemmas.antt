-- A target asks for one thing.
use Rattle.std.proofs.Common.{◌≡◌, ◌∙◌, sym, ap, subst, ℕ, List, [], ◌∷◌, ◌++◌, Result, Ok, Err, refl, arith, codes, inl, inr, Option, Some, None}
use Rattle.std.specs.Prelude.{MatchOption}
use Rattle.std.specs.Result.{result_unwrap_or}
use Rattle.std.proofs.lemmas.List.{append_cancel_left}
use Rattle.hex.specs.Hex.{decode_of}
use Rattle.hex.specs.declared.error.FromHexError.{FromHexError}
use Rattle.percent_encoding.specs.Percent.{percent_decode}
use Rattle.webapi_routes.specs.Path.{SpellsText}
use Rattle.metadata_query.specs.Asked.{Answers, Asks, KeyAsks, UnlessMemory}
use Rattle.metadata_query.specs.Written.{HasQuery, IsHalved, IsPair}
use Rattle.metadata_query.specs.declared.fault.MetaFault.{MetaFault}
use Rattle.metadata_query.specs.declared.fault.MetaFault.TheVariants.{BadQuery, OutOfMemory}
use Rattle.metadata_query.specs.declared.written.Pair.{Pair}
use Rattle.metadata_query.specs.declared.query.MetaQuery.{MetaQuery}
use Rattle.metadata_query.specs.declared.query.MetaQuery.TheVariants.{ByFile, ByGlob, ById}
use Rattle.metadata_query.proofs.CutLemmas.{cut_one, halved_one}

-- an id's digits stand for one id
id_one : (text a b : List ℕ) → decode_of text ≡ Ok a → decode_of text ≡ Ok b → a ≡ b
id_one text a b h k = ap (λ (r : Result (List ℕ) FromHexError). result_unwrap_or r []) (sym h ∙ k)

abbrev first_byte : List ℕ → ℕ
first_byte [] = 0
first_byte (c ∷ text) = c

-- a key is one word alone
apart : {X : Type 0} {key : List ℕ} (s t : List ℕ) → key ≡ s → key ≡ t → (first_byte s ≡ first_byte t → ⊥) → X
apart {X} {key} s t one other differ = absurd (differ (ap first_byte (sym one ∙ other)))

-- a key asks for one thing with a text
key_one : (key text : List ℕ) (a b : MetaQuery) → KeyAsks key text a → KeyAsks key text b → a ≡ b
key_one key text (ById a) (ById b) h k = ap ById (id_one text a b h.2 k.2)
key_one key text (ById a) (ByFile b) h k = apart (codes "buildid") (codes "file") h.0 k.0 (λ e. omega arith)
key_one key text (ById a) (ByGlob b) h k = apart (codes "buildid") (codes "glob") h.0 k.0 (λ e. omega arith)
key_one key text (ByFile a) (ById b) h k = apart (codes "file") (codes "buildid") h.0 k.0 (λ e. omega arith)
key_one key text (ByFile a) (ByFile b) h k = ap ByFile (h.3 ∙ sym k.3)
key_one key text (ByFile a) (ByGlob b) h k = apart (codes "file") (codes "glob") h.0 k.0 (λ e. omega arith)
key_one key text (ByGlob a) (ById b) h k = apart (codes "glob") (codes "buildid") h.0 k.0 (λ e. omega arith)
key_one key text (ByGlob a) (ByFile b) h k = apart (codes "glob") (codes "file") h.0 k.0 (λ e. omega arith)
key_one key text (ByGlob a) (ByGlob b) h k = ap ByGlob (h.3 ∙ sym k.3)

heads_differ : (k v : ℕ) → k ≡ v → k ≡ 107 → v ≡ 118 → ⊥
heads_differ k v same one other = omega arith

-- no part is both a key's and a value's
key_no_value : (key value : List ℕ) → codes "key=" ++ key ≡ codes "value=" ++ value → ⊥
key_no_value key value same = heads_differ 107 118 (ap first_byte same) refl refl

-- a query is one pair
pub pair_one : (query key value other another : List ℕ) → IsPair query key value → IsPair query other another → (key ≡ other) × (value ≡ another)
pair_one query key value other another (inl h) (inl k) =
    let both = halved_one h k in
    (append_cancel_left (codes "key=") key other both.0, append_cancel_left (codes "value=") value another both.1)
pair_one query key value other another (inr h) (inr k) =
    let both = halved_one h k in
    (append_cancel_left (codes "key=") key other both.1, append_cancel_left (codes "value=") value another both.0)
pair_one query key value other another (inl h) (inr k) = absurd (key_no_value key another (halved_one h k).0)
pair_one query key value other another (inr h) (inl k) = absurd (key_no_value other value (sym (halved_one h k).0))

-- a target asks for one thing
pub asks_one : (target : List ℕ) (a b : MetaQuery) → Asks target a → Asks target b → a ≡ b
asks_one target a b h k =
    let query : h.query ≡ k.query = (cut_one h.has.cut k.has.cut).1 in
    let pair : IsPair h.query k.key k.value = subst (λ (x : List ℕ). IsPair x k.key k.value) (sym query) k.pair in
    let both : (h.key ≡ k.key) × (h.value ≡ k.value) = pair_one h.query h.key h.value k.key k.value h.pair pair in
    let same : KeyAsks h.key (percent_decode h.value) b =
    subst (λ (x : List ℕ). KeyAsks x (percent_decode h.value) b) (sym both.0)
    (subst (λ (x : List ℕ). KeyAsks k.key (percent_decode x) b) (sym both.1) k.asks) in
    key_one h.key (percent_decode h.value) a b h.asks same

-- what a target asks for is the answer, unless memory was refused
pub only_that : (target : List ℕ) (result : Result MetaQuery MetaFault) (asked : MetaQuery) → Answers (Asks target) result → Asks target asked
    → UnlessMemory result (result ≡ Ok asked)
only_that target (Ok found) asked says asks = ap Ok (asks_one target found asked says asks)
only_that target (Err BadQuery) asked says asks = absurd (says asked asks)
only_that target (Err OutOfMemory) asked says asks = tt

-- what the key asks for with the text that the value spells is what the target asks for
pub target_answers : (target query key value : List ℕ) (result : Result MetaQuery MetaFault) → HasQuery target query → IsPair query key value
    → SpellsText value → Answers (KeyAsks key (percent_decode value)) result → Answers (Asks target) result
target_answers target query key value (Ok asked) has pair spells says =
    record { query = query; key = key; value = value; has = has; pair = pair; spells = spells; asks = says }
target_answers target query key value (Err BadQuery) has pair spells says = λ (asked : MetaQuery) (asks : Asks target asked).
    let same : query ≡ asks.query = (cut_one has.cut asks.has.cut).1 in
    let other : IsPair query asks.key asks.value = subst (λ (x : List ℕ). IsPair x asks.key asks.value) (sym same) asks.pair in
    let both : (key ≡ asks.key) × (value ≡ asks.value) = pair_one query key value asks.key asks.value pair other in
    says asked
    (subst (λ (x : List ℕ). KeyAsks x (percent_decode value) asked) (sym both.0)
    (subst (λ (x : List ℕ). KeyAsks asks.key (percent_decode x) asked) (sym both.1) asks.asks))
target_answers target query key value (Err OutOfMemory) has pair spells says = tt

-- a value that spells no text
pub no_text : (target query key value : List ℕ) → HasQuery target query → IsPair query key value → ¬ (SpellsText value)
    → (asked : MetaQuery) → ¬ (Asks target asked)
no_text target query key value has pair none asked asks =
    let same : query ≡ asks.query = (cut_one has.cut asks.has.cut).1 in
    let other : IsPair query asks.key asks.value = subst (λ (x : List ℕ). IsPair x asks.key asks.value) (sym same) asks.pair in
    let both : (key ≡ asks.key) × (value ≡ asks.value) = pair_one query key value asks.key asks.value pair other in
    none (subst (λ (x : List ℕ). SpellsText x) (sym both.1) asks.spells)

-- a query that is no pair
pub no_pair : (target query : List ℕ) → HasQuery target query → ((key value : List ℕ) → ¬ (IsPair query key value))
    → (asked : MetaQuery) → ¬ (Asks target asked)
no_pair target query has none asked asks =
    let same : query ≡ asks.query = (cut_one has.cut asks.has.cut).1 in
    none asks.key asks.value (subst (λ (x : List ℕ). IsPair x asks.key asks.value) (sym same) asks.pair)

-- a query that isn't halved is no pair
pub no_parts : (query : List ℕ) → ((first second : List ℕ) → ¬ (IsHalved query first second)) → (key value : List ℕ) → ¬ (IsPair query key value)
no_parts query none key value (inl h) = none (codes "key=" ++ key) (codes "value=" ++ value) h
no_parts query none key value (inr h) = none (codes "value=" ++ value) (codes "key=" ++ key) h

-- the parts of a halved query are a key and a value in one order, or it is no pair
pub neither : {query first second : List ℕ} → IsHalved query first second
    → ((key value : List ℕ) → first ≡ codes "key=" ++ key → ¬ (second ≡ codes "value=" ++ value))
    → ((key value : List ℕ) → second ≡ codes "key=" ++ key → ¬ (first ≡ codes "value=" ++ value))
    → (key value : List ℕ) → ¬ (IsPair query key value)
neither {query} {first} {second} halved one other key value (inl h) = let both = halved_one halved h in one key value both.0 both.1
neither {query} {first} {second} halved one other key value (inr h) = let both = halved_one halved h in other key value both.1 both.0

pub pair_behind : {query first second : List ℕ} (result : Option Pair) → IsHalved query first second
    → ((key value : List ℕ) → first ≡ codes "key=" ++ key → ¬ (second ≡ codes "value=" ++ value))
    → MatchOption result ((key value : List ℕ) → second ≡ codes "key=" ++ key → ¬ (first ≡ codes "value=" ++ value))
    (λ pair. (second ≡ codes "key=" ++ pair.key.now) × (first ≡ codes "value=" ++ pair.value.now))
    → MatchOption result ((key value : List ℕ) → ¬ (IsPair query key value)) (λ pair. IsPair query pair.key.now pair.value.now)
pair_behind None halved one other = neither halved one other
pair_behind {query} {first} {second} (Some pair) halved one both =
    inr (subst (λ (x : List ℕ). IsHalved query (codes "value=" ++ pair.value.now) x) both.0
    (subst (λ (x : List ℕ). IsHalved query x second) both.1 halved))

-- a target without a query
pub no_query : (target : List ℕ) → ((query : List ℕ) → ¬ (HasQuery target query)) → (asked : MetaQuery) → ¬ (Asks target asked)
no_query target none asked asks = none asks.query asks.has
