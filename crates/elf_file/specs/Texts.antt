-- Where the texts of a section end (ELF gABI, chapter 4, "String Table": each text ends with a 0).
use Rattle.std.specs.Prelude.{◌≡◌, ◌≢◌, ℕ, ◌+◌, ◌<◌, ◌≤◌, ◌==◌, ◌&&◌, Bool, not, nat_lt, nat_eq, List, length, slice_index}
use Rattle.std.specs.List.{list_all, list_any, starts_with}

-- no byte is 0
abbrev pub has_no_zero : List ℕ → Bool
has_no_zero bytes = list_all (λ x. not (x == 0)) bytes

-- so many bytes stand up to and with the last 0
pub record IsTextsEnd (bytes : List ℕ) (end : ℕ) : Type 0 where
  pub inside : end ≤ length bytes
  pub zero_before : (k : ℕ) → k + 1 ≡ end → slice_index bytes k ≡ 0
  pub none_after : (k : ℕ) → end ≤ k → k < length bytes → slice_index bytes k ≢ 0

-- a 0 stands at place k
abbrev pub is_zero_at : List ℕ → ℕ → Bool
is_zero_at bytes k = nat_lt k (length bytes) && (slice_index bytes k == 0)

-- the bytes begin with the text, which has no 0, and a 0 that ends it
abbrev pub is_text_first : List ℕ → List ℕ → Bool
is_text_first bytes text =
    starts_with nat_eq bytes text && is_zero_at bytes (length text)
    && not (list_any (λ x. x == 0) text)
