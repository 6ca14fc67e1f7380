-- What shows that the plain layout means what it says: a start is the first fit, and the parts lie
-- where the header has them.
use Rattle.std.proofs.Common.{◌≡◌, ℕ, zero, suc, ◌+◌, ◌-◌, ◌*◌, ◌/◌, ◌%◌, ◌<◌, List, [], ◌∷◌, ◌++◌, length, replicate, refl, ap, sym, ◌∙◌, arith, length-append}
use Rattle.std.proofs.lemmas.List.{length-replicate}
use Rattle.std.proofs.Math.Nat.{mod-lt, mod-eq_of_lt, mod_self, mod-add-div, add-mod_right, mul-mod_right, suc-mul}
use Rattle.std.specs.Int.{w16}
use Rattle.sample_files.specs.declared.shape.Order.{Order}
use Rattle.sample_files.specs.declared.shape.Order.TheVariants.{Little, Big}
use Rattle.sample_files.specs.declared.shape.Class.{Class}
use Rattle.sample_files.specs.declared.shape.Class.TheVariants.{Elf32, Elf64}
use Rattle.sample_files.specs.declared.shape.Shape.{Shape}
use Rattle.sample_files.specs.Parts.{Part}
use Rattle.sample_files.specs.Fields.{spelled, place_width, fields_bytes}
use Rattle.sample_files.specs.Layout.{padding, first_fit, parts_end, part_end, bodies, entries, entry_fields, first_fields, header, header_size, entry_size, table_place, entry_count, numbered, bodies_end, numbers_of, plain_layout, name_bytes}
use Rattle.sample_files.proofs.NoteLemmas.{length-word}

-- a place behind whole alignments and a rest, with the padding of that rest, is a multiple
multiple_at : (alignment whole rest : ℕ) → rest < alignment
    → (rest + alignment * whole + (alignment - rest) % alignment) % alignment ≡ 0
multiple_at alignment whole zero below =
    let minus_none : alignment - 0 ≡ alignment = omega arith in
    let none : (alignment - 0) % alignment ≡ 0 =
    ap (λ n. n % alignment) minus_none ∙ mod_self alignment in
    let place : 0 + alignment * whole + (alignment - 0) % alignment ≡ alignment * whole =
    omega (arith, none) in
    ap (λ n. n % alignment) place ∙ mul-mod_right alignment whole
multiple_at alignment whole (suc rest) below =
    let some : (alignment - suc rest) % alignment ≡ alignment - suc rest =
    mod-eq_of_lt (omega arith) in
    let place : suc rest + alignment * whole + (alignment - suc rest) % alignment
    ≡ alignment * whole + alignment =
    omega (arith, some) in
    ap (λ n. n % alignment) place ∙ add-mod_right (alignment * whole) alignment
    ∙ mul-mod_right alignment whole

-- a start is a multiple of the alignment
pub aligned-multiple : (alignment place : ℕ) → 0 < alignment
    → first_fit alignment place % alignment ≡ 0
aligned-multiple alignment place positive =
    ap (λ n. (n + padding alignment place) % alignment) (sym (mod-add-div place alignment))
    ∙ multiple_at alignment (place / alignment) (place % alignment) (mod-lt place positive)

-- a start is less than an alignment away, so it is the first multiple
pub aligned-first : (alignment place : ℕ) → 0 < alignment
    → first_fit alignment place < place + alignment
aligned-first alignment place positive =
    let near : padding alignment place < alignment =
    mod-lt (alignment - place % alignment) positive in omega arith

-- the size of a class's places and sizes
place_size : Class → ℕ
place_size Elf32 = 4
place_size Elf64 = 8

length-half : (order : Order) (n : ℕ) → length (spelled order w16 n) ≡ 2
unfolding spelled
length-half Little n = refl
length-half Big n = refl

length-place : (class : Class) (order : Order) (n : ℕ)
    → length (spelled order (place_width class) n) ≡ place_size class
unfolding spelled place_size
length-place Elf32 Little n = refl
length-place Elf32 Big n = refl
length-place Elf64 Little n = refl
length-place Elf64 Big n = refl

header_size-places : (class : Class) → header_size class ≡ 40 + 3 * place_size class
unfolding place_size
header_size-places Elf32 = refl
header_size-places Elf64 = refl

entry_size-places : (class : Class) → entry_size class ≡ 16 + 6 * place_size class
unfolding place_size
entry_size-places Elf32 = refl
entry_size-places Elf64 = refl

-- the header has the size that it states
pub length-header : (s : Shape) (place count : ℕ)
    → length (header s place count) ≡ header_size s.class
length-header s place count =
    simp (length-append, length-half, length-word, length-place)
    (omega (arith, header_size-places s.class))

-- the sections' bytes end where the last section ends
pub length-bodies : (place : ℕ) (parts : List Part)
    → place + length (bodies place parts) ≡ parts_end place parts
length-bodies place [] = omega arith
length-bodies place (part ∷ rest) =
    let later : part_end place part + length (bodies (part_end place part) rest)
    ≡ parts_end (part_end place part) rest =
    length-bodies (part_end place part) rest in
    simp (length-append, length-replicate {A = ℕ}) (omega arith)

one_more : (n size : ℕ) → size + n * size ≡ suc n * size
one_more n size = rw suc-mul (omega arith)

entries_more : (n size : ℕ) → size + n * size ≡ (1 + n) * size
entries_more n size = let e : 1 + n ≡ suc n = omega arith in rw e (one_more n size)

joined : (head body gap first rest : List ℕ)
    → length (head ++ body ++ gap ++ (first ++ rest))
    ≡ length head + length body + length gap + (length first + length rest)
joined head body gap first rest = simp length-append

sums : (body : ℕ) {head gap first rest start ends pad entry others all : ℕ}
    → head ≡ start → start + body ≡ ends → gap ≡ pad → first ≡ entry → rest ≡ others
    → entry + others ≡ all
    → head + body + gap + (first + rest) ≡ ends + pad + all
sums body a b c d e f = omega arith

-- each entry of the section table has the size that the header states
pub length-entry_fields : (s : Shape) (name offset : ℕ) (part : Part)
    → length (fields_bytes s (entry_fields name offset part)) ≡ entry_size s.class
length-entry_fields s name offset part =
    simp (length-append, length-word, length-place) (omega (arith, entry_size-places s.class))

pub length-first_fields : (s : Shape) (count : ℕ)
    → length (fields_bytes s (first_fields s.counts count)) ≡ entry_size s.class
length-first_fields s count =
    simp (length-append, length-word, length-place) (omega (arith, entry_size-places s.class))

pub length-entries : (s : Shape) (place name : ℕ) (parts : List Part)
    → length (entries s place name parts) ≡ length parts * entry_size s.class
length-entries s place name [] = omega arith
length-entries s place name (part ∷ rest) =
    let here : List ℕ = fields_bytes s (entry_fields name (first_fit part.alignment place) part) in
    let later : List ℕ = entries s (part_end place part) (name + length (name_bytes part)) rest in
    length-append here later
    ∙ ap (λ n. n + length later) (length-entry_fields s name (first_fit part.alignment place) part)
    ∙ ap (λ n. entry_size s.class + n)
    (length-entries s (part_end place part) (name + length (name_bytes part)) rest)
    ∙ one_more (length rest) (entry_size s.class)

-- the file ends with its section table, which begins at the place that the header states
pub length-plain_layout : (s : Shape) (parts : List Part)
    → length (plain_layout s parts) ≡ table_place s parts + entry_count parts * entry_size s.class
unfolding plain_layout
length-plain_layout s parts =
    let head : List ℕ = header s (table_place s parts) (entry_count parts) in
    let body : List ℕ = bodies (header_size s.class) (numbered parts) in
    let gap : List ℕ =
    replicate (padding (numbers_of s.class).table_alignment (bodies_end s parts)) 0 in
    let first : List ℕ = fields_bytes s (first_fields s.counts (entry_count parts)) in
    let rest : List ℕ = entries s (header_size s.class) 1 (numbered parts) in
    let sizes : length head ≡ header_size s.class =
    length-header s (table_place s parts) (entry_count parts) in
    let ends : header_size s.class + length body ≡ bodies_end s parts =
    length-bodies (header_size s.class) (numbered parts) in
    let gaps : length gap ≡ padding (numbers_of s.class).table_alignment (bodies_end s parts) =
    length-replicate _ 0 in
    let firsts : length first ≡ entry_size s.class = length-first_fields s (entry_count parts) in
    let rests : length rest ≡ length (numbered parts) * entry_size s.class =
    length-entries s (header_size s.class) 1 (numbered parts) in
    let more : entry_size s.class + length (numbered parts) * entry_size s.class
    ≡ entry_count parts * entry_size s.class =
    entries_more (length (numbered parts)) (entry_size s.class) in
    joined head body gap first rest ∙ sums _ sizes ends gaps firsts rests more
