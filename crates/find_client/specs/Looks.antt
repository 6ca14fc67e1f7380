-- What is looked for in a cache (this project's rule): the files in which a route's answer may be, in order, until one passes;
-- what is held passes by the definition by which a link's answer does.
use Rattle.std.specs.Prelude.{◌≡◌, ◌≢◌, ℕ, ◌≤◌, ◌||◌, Bool, true, false, List, [], ◌∷◌, ◌++◌, Option, All, codes, map}
use Rattle.std.specs.List.{flat_map, list_any}
use Rattle.hex.specs.Hex.{encode_lower}
use Rattle.find_client.specs.Cache.{CacheHeard, CacheSaid, NamedValue, SaysOf, ShownCache, failed, heard_get, held, memory}
use Rattle.http_wire.specs.Told.{Gains}
use Rattle.row_types.specs.Faults.{Rose}
use Rattle.federation.specs.Replies.{class_asked}
use Rattle.answer_check.specs.Passing.{GivesPassed, Passes}
use Rattle.find_client.specs.declared.look.LookEnd.{LookEnd}
use Rattle.find_client.specs.declared.look.LookEnd.TheVariants as look
use Rattle.answer_check.specs.declared.passed.Passed.{Passed}
use Rattle.webapi_routes.specs.declared.route.Route.{Route}
use Rattle.webapi_routes.specs.declared.route.Route.TheVariants.{Debuginfo, Executable}

-- the name of a file in a cache: its id in lower case, a dash and its class
abbrev pub name_of : Route → List ℕ
name_of (Debuginfo id) = encode_lower id ++ codes "-debuginfo"
name_of (Executable id) = encode_lower id ++ codes "-executable"
name_of _ = []

-- a file that was looked at, and what was said of it
pub record Look : Type 0 where
  pub file : Route
  pub said : CacheSaid

-- what is held passes for a route
abbrev pub LookPasses : Route → Route → CacheSaid → Type 0
LookPasses route file (held bytes) = Passes route (class_asked file) bytes
LookPasses route file _ = ⊥

-- what is given of it
abbrev pub LookGives : Route → Route → CacheSaid → Passed → Type 0
LookGives route file (held bytes) given = GivesPassed route (class_asked file) bytes given
LookGives route file _ given = ⊥

-- it doesn't pass, and memory was not refused for it
abbrev pub FailsLook : Route → Look → Type 0
FailsLook route l = (¬ LookPasses route l.file l.said) × (l.said ≢ memory)

-- whether the cache couldn't be read
abbrev pub said_failed : CacheSaid → Bool
said_failed failed = true
said_failed _ = false

-- what the looks told the cache's list
abbrev pub heard_of : Look → List CacheHeard
heard_of l = heard_get (name_of l.file) l.said

-- what is said is by what is told of the content
abbrev pub SaysLook : Option (List NamedValue) → Look → Type 0
SaysLook content l = SaysOf content (name_of l.file) l.said

-- these are the first files of the list that were looked at
pub record AreFirstLooks (files : List Route) (looks : List Look) : Type 0 where
  pub rest : List Route
  pub all : files ≡ map (λ l. l.file) looks ++ rest

-- the last of these looks passes, and this is given of it; none before it passes
pub record LastLookPasses (route : Route) (files : List Route) (looks : List Look) (given : Passed) : Type 0 where
  pub before : List Look
  pub last : Look
  pub all : looks ≡ before ++ last ∷ []
  pub first : AreFirstLooks files looks
  pub none : All (FailsLook route) before
  pub passes : LookPasses route last.file last.said
  pub gives : LookGives route last.file last.said given

-- what the looks gave: the first that passes; or each file was asked for and none passes, and whether some couldn't be read
abbrev pub LooksEnd : Route → List Route → List Look → LookEnd → Type 0
LooksEnd route files looks (look.Passed given) = LastLookPasses route files looks given
LooksEnd route files looks (look.Nothing failing) =
    (map (λ l. l.file) looks ≡ files) × All (FailsLook route) looks × (failing ≡ list_any (λ l. said_failed l.said) looks)
LooksEnd route files looks look.OutOfMemory = AreFirstLooks files looks

-- these files were looked for in a cache, for a route
pub record LooksFor (before : ShownCache) (route : Route) (files : List Route) (after : ShownCache) (end : LookEnd) : Type 0 where
  pub looks : List Look
  pub hears : Gains before.asked (flat_map heard_of looks) after.asked
  pub says : All (SaysLook before.content) looks
  pub content : after.content ≡ before.content
  pub later : before.faults ≤ after.faults
  pub rose : list_any (λ l. said_failed l.said) looks ≡ true → Rose before.faults after.faults
  pub stays : list_any (λ l. said_failed l.said) looks ≡ false → after.faults ≡ before.faults
  pub ends : LooksEnd route files looks end

-- whether it couldn't be read before is handed on
abbrev pub handed_on : Bool → LookEnd → LookEnd
handed_on before (look.Nothing failing) = look.Nothing (before || failing)
handed_on before end = end

-- one file was looked for
pub record LooksOne (before : ShownCache) (route file : Route) (failing : Bool) (after : ShownCache) (end : LookEnd) : Type 0 where
  pub told : LookEnd
  pub looks : LooksFor before route (file ∷ []) after told
  pub is : end ≡ handed_on failing told
