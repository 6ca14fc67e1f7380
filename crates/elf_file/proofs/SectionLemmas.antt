-- A walk over the sections by index, in rising order.
use Rattle.std.proofs.Common.{◌≡◌, ◌∙◌, Bool, true, false, ℕ, ◌<◌, ◌≤◌, ◌+◌, arith}
use borrow.Author.Count.{below_more}
use Rattle.file_formats.specs.declared.header.SectionTable.{SectionTable}
use Rattle.file_formats.specs.Table.{IsSectionIndex}

-- no section of an index below n is such
abbrev pub NoneBelow : SectionTable → (ℕ → Type 0) → ℕ → Type 0
NoneBelow t P n = (i : ℕ) → i < n → IsSectionIndex t i → P i → ⊥

-- nor is one below n + 1, where the one of index n isn't
pub none_more : {t : SectionTable} {P : ℕ → Type 0} {n : ℕ}
    → NoneBelow t P n → (IsSectionIndex t n → P n → ⊥) → NoneBelow t P (n + 1)
none_more {t} {P} {n} below here = below_more (λ i. IsSectionIndex t i → P i → ⊥) n below here

-- a section that is such has no smaller index
pub none_before : {t : SectionTable} {P : ℕ → Type 0} {n i : ℕ}
    → NoneBelow t P n → IsSectionIndex t i → P i → n ≤ i
none_before {n = n} {i = i} below index such =
    let under : i < n → ⊥ = λ (h : i < n). below i h index such in omega (arith, under)

-- a test does not come out both ways
pub differ : {b : Bool} → false ≡ b → b ≡ true → ⊥
differ no_way yes_way = let e : false ≡ true = no_way ∙ yes_way in cc
