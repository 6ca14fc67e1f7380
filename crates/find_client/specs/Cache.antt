-- Caches (this project's rule): what one shows, and what a question and a put change.
use Rattle.std.specs.Prelude.{◌≡◌, ◌≢◌, ℕ, ◌⊎◌, false, List, [], ◌∷◌, length, Option, Some, None, if◌then◌else◌, nat_le}
use Rattle.std.specs.Str.{bytes_eq}
use Rattle.http_wire.specs.Told.{Gains}
use Rattle.row_types.specs.Faults.{HasCause}
use Rattle.find_client.specs.declared.cache.CacheAnswer.{CacheAnswer}
use Rattle.find_client.specs.declared.cache.CacheAnswer.TheVariants as answer
use Rattle.find_client.specs.declared.cache.CachePut.{CachePut}
use Rattle.find_client.specs.declared.cache.CachePut.TheVariants as put
use Rattle.find_client.specs.declared.cache.TheConstants.{VALUE_LIMIT}

-- the answer to a question for a name
pub data CacheSaid : Type 0 where
  held : (bytes : List ℕ) → CacheSaid
  absent : CacheSaid
  failed : CacheSaid
  memory : CacheSaid

-- the same of the code's answer
abbrev pub said_by : CacheAnswer → CacheSaid
said_by (answer.Held bytes) = held bytes.items
said_by answer.Absent = absent
said_by answer.Failed = failed
said_by answer.OutOfMemory = memory

-- a question with its answer, or a put with its answer
pub data CacheHeard : Type 0 where
  got : (name : List ℕ) → (said : CacheSaid) → CacheHeard
  kept : (name bytes : List ℕ) → (said : CachePut) → CacheHeard

-- a value with its name
pub record NamedValue : Type 0 where
  pub name : List ℕ
  pub bytes : List ℕ

-- the values that it holds, and its questions and puts so far with their answers, where they are told; and its count of faults
pub record ShownCache : Type 0 where
  pub content : Option (List NamedValue)
  pub asked : Option (List CacheHeard)
  pub faults : ℕ

-- the value of a name: the first of that name
abbrev pub value_at : List ℕ → List NamedValue → Option (List ℕ)
value_at name [] = None
value_at name (v ∷ values) = if bytes_eq v.name name then Some v.bytes else value_at name values

-- what is said of the value of a name: one that is too large is as none
abbrev pub told_of : Option (List ℕ) → CacheSaid
told_of None = absent
told_of (Some bytes) = if nat_le (length bytes) VALUE_LIMIT then held bytes else absent

-- what is told of the content decides what is said, unless the call failed or memory was refused
abbrev pub SaysOf : Option (List NamedValue) → List ℕ → CacheSaid → Type 0
SaysOf None name said = Unit {0}
SaysOf (Some values) name failed = Unit {0}
SaysOf (Some values) name memory = Unit {0}
SaysOf (Some values) name said = said ≡ told_of (value_at name values)

-- what a question adds: one for which memory was refused adds nothing
abbrev pub heard_get : List ℕ → CacheSaid → List CacheHeard
heard_get name memory = []
heard_get name said = got name said ∷ []

-- a question was asked: it changes nothing that is held, and the count rose exactly where it failed
pub record AsksOfCache (before : ShownCache) (name : List ℕ) (answer : CacheAnswer) (after : ShownCache) : Type 0 where
  pub says : SaysOf before.content name (said_by answer)
  pub content : after.content ≡ before.content
  pub hears : Gains before.asked (heard_get name (said_by answer)) after.asked
  pub cause : HasCause before.faults after.faults (said_by answer ≡ failed)
  pub stays : said_by answer ≢ failed → after.faults ≡ before.faults

-- the values are as before but for that of this name, which is these bytes
pub record KeepsValue (name bytes : List ℕ) (before after : List NamedValue) : Type 0 where
  pub there : value_at name after ≡ Some bytes
  pub others : (other : List ℕ) → bytes_eq name other ≡ false → value_at other after ≡ value_at other before

-- the same of values that are told; they are told afterwards exactly where they were before
abbrev pub KeepsContent : List ℕ → List ℕ → Option (List NamedValue) → Option (List NamedValue) → Type 0
KeepsContent name bytes before None = before ≡ None
KeepsContent name bytes (Some before) (Some after) = KeepsValue name bytes before after
KeepsContent name bytes None (Some after) = ⊥

-- what a put leaves: one that failed leaves the values with it or without it
abbrev pub LeavesContent : List ℕ → List ℕ → CachePut → Option (List NamedValue) → Option (List NamedValue) → Type 0
LeavesContent name bytes put.Done before after = KeepsContent name bytes before after
LeavesContent name bytes put.Failed before after = KeepsContent name bytes before after ⊎ (after ≡ before)
LeavesContent name bytes put.OutOfMemory before after = after ≡ before

-- what a put adds: one for which memory was refused adds nothing
abbrev pub heard_put : List ℕ → List ℕ → CachePut → List CacheHeard
heard_put name bytes put.OutOfMemory = []
heard_put name bytes said = kept name bytes said ∷ []

-- bytes were put, and the count rose exactly where it failed
pub record PutsInCache (before : ShownCache) (name bytes : List ℕ) (answer : CachePut) (after : ShownCache) : Type 0 where
  pub leaves : LeavesContent name bytes answer before.content after.content
  pub hears : Gains before.asked (heard_put name bytes answer) after.asked
  pub cause : HasCause before.faults after.faults (answer ≡ put.Failed)
  pub stays : answer ≢ put.Failed → after.faults ≡ before.faults
