-- Bytes that stand for those of a file.
use Rattle.std.proofs.Common.{◌≡◌, ℕ, ◌&&◌, true, List, [], length, Option, Some, None, sym, ◌∙◌, ap}
use Rattle.std.specs.Prelude.{◌==◌, nat_le, option_map}
use Rattle.std.specs.List.{find}
use Rattle.std.specs.Option.{unwrap_or}
use Rattle.std.specs.Str.{bytes_eq}
use Rattle.std.proofs.lemmas.Bool.{eqb-true}
use Rattle.file_formats.specs.Numbers.{bytes_at}
use Rattle.row_types.proofs.CanonLemmas.{right_true}
use Rattle.tree_trait.specs.Found.{FoundFacts}
use Rattle.tree_trait.specs.Swaps.{SwapFacts, has_swapped}
use Rattle.tree_trait.proofs.NameLemmas.{find_passes}

-- they are as many as the file's own
pub swap_fits : (reads : ℕ) (file : FoundFacts) (list : List SwapFacts) (swap : SwapFacts)
    → Some swap ≡ find (has_swapped reads file) list → length swap.bytes ≡ length file.bytes
swap_fits reads file list swap found =
    let passes : has_swapped reads file swap ≡ true = find_passes (has_swapped reads file) list (sym found) in
    eqb-true (length swap.bytes) (length file.bytes)
    (right_true (nat_le swap.call reads && bytes_eq swap.path file.path) (length swap.bytes == length file.bytes) passes)

-- where nothing is swapped, none do
pub none_swapped : (reads : ℕ) (file : FoundFacts) (list : List SwapFacts) (swap : SwapFacts) → list ≡ []
    → Some swap ≡ find (has_swapped reads file) list → ⊥
none_swapped reads file list swap none found =
    let both : Some swap ≡ None = found ∙ ap (find (has_swapped reads file)) none in absurd (cc)

-- a part of what is found is one of what is seen
pub seen_by : (own : List ℕ) (found : Option SwapFacts) (other : Option SwapFacts) (at len : ℕ) → found ≡ other
    → bytes_at (unwrap_or (option_map (λ (s : SwapFacts). s.bytes) found) own) at len
    ≡ bytes_at (unwrap_or (option_map (λ (s : SwapFacts). s.bytes) other) own) at len
seen_by own found other at len same =
    ap (λ (o : Option SwapFacts). bytes_at (unwrap_or (option_map (λ (s : SwapFacts). s.bytes) o) own) at len) same
