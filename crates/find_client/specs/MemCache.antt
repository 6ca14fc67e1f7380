-- The cache in memory (this project's rule): it fails at the calls of listed numbers, and tells what it holds and what it was asked.
use Rattle.std.specs.Prelude.{◌≡◌, ℕ, ◌==◌, ◌⊎◌, Bool, if◌then◌else◌, List, [], ◌∷◌, ◌++◌, Some, String, Vec, string_bytes}
use Rattle.std.specs.List.{list_any}
use Rattle.std.specs.declared.alloc.Global.{Global}
use Rattle.row_types.specs.Faults.{raised}
use Rattle.find_client.specs.Cache.{CacheHeard, CacheSaid, NamedValue, ShownCache, failed, got, kept, memory, said_by, told_of, value_at}
use Rattle.find_client.specs.declared.cache.CachePut.{CachePut}
use Rattle.find_client.specs.declared.cache.CachePut.TheVariants as put
use Rattle.find_client.specs.declared.mem_cache.CacheCall.{CacheCall}
use Rattle.find_client.specs.declared.mem_cache.CacheCall.TheVariants as call

-- the values, the questions and puts so far with their answers, the numbers of the calls that fail, the next call's number, and
-- the count of faults
pub record MemCacheFacts : Type 0 where
  pub held : List NamedValue
  pub asked : List CacheHeard
  pub bad_calls : List ℕ
  pub calls : ℕ
  pub faults : ℕ

-- what it shows: all of it
abbrev pub shown_mem_cache : MemCacheFacts → ShownCache
shown_mem_cache m = record { content = Some m.held; asked = Some m.asked; faults = m.faults }

-- bytes under a name
abbrev pub value_of : List ℕ → List ℕ → NamedValue
value_of name bytes = record { name = name; bytes = bytes }

-- the same of the code's pair
abbrev pub value_in : String Global × Vec ℕ Global → NamedValue
value_in pair = value_of (string_bytes pair.0) pair.1.items

-- what was heard by a call
abbrev pub heard_call : CacheCall → CacheHeard
heard_call (call.Got name answer) = got (string_bytes name) (said_by answer.value)
heard_call (call.Put name bytes answer) = kept (string_bytes name) bytes.value.items answer

-- whether the next call's number is among those that fail
abbrev pub is_bad_next : MemCacheFacts → Bool
is_bad_next m = list_any (λ number. number == m.calls) m.bad_calls

-- what the next call says, a question or a put
abbrev pub next_get : MemCacheFacts → List ℕ → CacheSaid
next_get m name = if is_bad_next m then failed else told_of (value_at name m.held)

abbrev pub next_put : MemCacheFacts → CachePut
next_put m = if is_bad_next m then put.Failed else put.Done

-- the cache with one more value, in front of an older one of its name
abbrev pub with_value : List ℕ → List ℕ → MemCacheFacts → MemCacheFacts
with_value name bytes m = record m { held = value_of name bytes ∷ m.held }

-- the cache after a call of which this was heard, by whether it failed
abbrev pub after_call : CacheHeard → Bool → MemCacheFacts → MemCacheFacts
after_call heard failing m = record m {
  asked = m.asked ++ heard ∷ [];
  calls = raised m.calls;
  faults = if failing then raised m.faults else m.faults;
}

-- a question was answered by the plan, or memory was refused and nothing changed
abbrev pub GetsByPlan : MemCacheFacts → List ℕ → CacheSaid → MemCacheFacts → Type 0
GetsByPlan old name said new =
    ((said ≡ next_get old name) × (new ≡ after_call (got name said) (is_bad_next old) old)) ⊎ ((said ≡ memory) × (new ≡ old))

-- a put was answered by the plan, or memory was refused and nothing changed
abbrev pub PutsByPlan : MemCacheFacts → List ℕ → List ℕ → CachePut → MemCacheFacts → Type 0
PutsByPlan old name bytes answer new =
    ((answer ≡ next_put old)
    × (new ≡ after_call (kept name bytes answer) (is_bad_next old) (if is_bad_next old then old else with_value name bytes old)))
    ⊎ ((answer ≡ put.OutOfMemory) × (new ≡ old))
