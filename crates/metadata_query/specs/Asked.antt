-- What a target asks of the index (this project's rule, after the metadata request of debuginfod(8), "WEBAPI").
use Rattle.std.specs.Prelude.{◌≡◌, ℕ, ◌<◌, ◌≤◌, true, List, codes, length, Result, Ok, Err}
use Rattle.std.specs.Str.{chars}
use Rattle.hex.specs.Hex.{decode_of}
use Rattle.percent_encoding.specs.Percent.{percent_decode}
use Rattle.row_types.specs.Absolute.{is_absolute}
use Rattle.row_types.specs.BuildId.{IsIdText}
use Rattle.row_types.specs.Canon.{canon}
use Rattle.row_types.specs.declared.limits.TheConstants.{PATH_LIMIT}
use Rattle.webapi_routes.specs.Path.{SpellsText}
use Rattle.metadata_query.specs.Written.{HasQuery, IsPair}
use Rattle.metadata_query.specs.declared.fault.MetaFault.{MetaFault}
use Rattle.metadata_query.specs.declared.fault.MetaFault.TheVariants.{BadQuery, OutOfMemory}
use Rattle.metadata_query.specs.declared.pattern.TheConstants.{PATTERN_LIMIT}
use Rattle.metadata_query.specs.declared.query.MetaQuery.{MetaQuery}
use Rattle.metadata_query.specs.declared.query.MetaQuery.TheVariants.{ByFile, ByGlob, ById}

-- what a key asks for with the text of its value: `buildid` with the digits of an id; `file` with a text that has a canonical
-- path, which is looked for; `glob` with a text that isn't empty and no longer than a pattern may be, character by character
abbrev pub KeyAsks : List ℕ → List ℕ → MetaQuery → Type 0
KeyAsks key text (ById id) = (key ≡ codes "buildid") × IsIdText text × (decode_of text ≡ Ok id)
KeyAsks key text (ByFile path) = (key ≡ codes "file") × (is_absolute text ≡ true) × (length text ≤ PATH_LIMIT) × (path ≡ canon text)
KeyAsks key text (ByGlob pattern) = (key ≡ codes "glob") × (0 < length text) × (length text ≤ PATTERN_LIMIT) × (pattern ≡ chars text)

-- what a target asks for: its query is a key and a value, the value spells a text, and the key asks for this with it
pub record Asks (target : List ℕ) (asked : MetaQuery) : Type 0 where
  pub query : List ℕ
  pub key : List ℕ
  pub value : List ℕ
  pub has : HasQuery target query
  pub pair : IsPair query key value
  pub spells : SpellsText value
  pub asks : KeyAsks key (percent_decode value) asked

-- the answer is what is asked for by this rule, BadQuery where nothing is, or memory was refused
abbrev pub Answers : (MetaQuery → Type 0) → Result MetaQuery MetaFault → Type 0
Answers asks (Ok asked) = asks asked
Answers asks (Err BadQuery) = (asked : MetaQuery) → ¬ (asks asked)
Answers asks (Err OutOfMemory) = Unit {0}

-- the fact holds, or memory was refused
abbrev pub UnlessMemory : Result MetaQuery MetaFault → Type 0 → Type 0
UnlessMemory (Err OutOfMemory) fact = Unit {0}
UnlessMemory _ fact = fact
