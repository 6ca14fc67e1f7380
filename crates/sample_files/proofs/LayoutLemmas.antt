-- The plain layout of two lists of sections, one behind the other, and how long the names' section
-- is.
use Rattle.std.proofs.Common.{◌≡◌, ℕ, ◌+◌, ◌≤◌, List, [], ◌∷◌, ◌++◌, length, replicate, refl, ap, sym, ◌∙◌, arith, append_assoc, length-append, add-zero}
use Rattle.std.specs.List.{flat_map}
use Rattle.std.proofs.lemmas.List.Sums.{sum_by-cons}
use Rattle.sample_files.specs.declared.shape.Shape.{Shape}
use Rattle.sample_files.specs.Parts.{Part}
use Rattle.sample_files.specs.Fields.{fields_bytes}
use Rattle.sample_files.specs.Layout.{parts_end, part_end, bodies, entries, entry_fields, name_bytes, names_contents, parts_room, part_room, padding, first_fit, header_size, numbers_of, header, first_fields, names_part, entry_count, bodies_end, table_place, plain_layout}

pub parts_end-append : (place : ℕ) (front back : List Part)
    → parts_end place (front ++ back) ≡ parts_end (parts_end place front) back
parts_end-append place [] back = refl
parts_end-append place (part ∷ rest) back = parts_end-append (part_end place part) rest back

pub bodies-append : (place : ℕ) (front back : List Part)
    → bodies place (front ++ back) ≡ bodies place front ++ bodies (parts_end place front) back
bodies-append place [] back = refl
bodies-append place (part ∷ rest) back =
    let gap : List ℕ = replicate (padding part.alignment place) 0 in
    ap (λ xs. gap ++ part.contents ++ xs) (bodies-append (part_end place part) rest back)
    ∙ sym
    (append_assoc (gap ++ part.contents) (bodies (part_end place part) rest)
    (bodies (parts_end (part_end place part) rest) back))

pub entries-append : (s : Shape) (place name : ℕ) (front back : List Part)
    → entries s place name (front ++ back)
    ≡ entries s place name front
    ++ entries s (parts_end place front) (name + length (flat_map name_bytes front)) back
entries-append s place name [] back = rw add-zero refl
entries-append s place name (part ∷ rest) back =
    let here : List ℕ = fields_bytes s (entry_fields name (first_fit part.alignment place) part) in
    let next : ℕ = name + length (name_bytes part) in
    let later : next + length (flat_map name_bytes rest)
    ≡ name + length (name_bytes part ++ flat_map name_bytes rest) =
    simp length-append (omega arith) in
    ap (λ xs. here ++ xs) (entries-append s (part_end place part) next rest back)
    ∙ sym
    (append_assoc here (entries s (part_end place part) next rest)
    (entries s (parts_end (part_end place part) rest)
    (next + length (flat_map name_bytes rest)) back))
    ∙ ap
    (λ n. here ++ entries s (part_end place part) next rest ++ entries s
    (parts_end (part_end place part) rest) n back) later

pub length-names : (parts : List Part)
    → length (flat_map name_bytes parts) ≤ parts_room parts + length parts
length-names [] = omega arith
length-names (part ∷ rest) =
    let room : parts_room (part ∷ rest)
    ≡ part.alignment + length part.contents + length part.name + parts_room rest =
    sum_by-cons part_room part rest in
    let before : length (flat_map name_bytes rest) ≤ parts_room rest + length rest =
    length-names rest in
    let names : length (name_bytes part ++ flat_map name_bytes rest)
    ≡ length part.name + 1 + length (flat_map name_bytes rest) =
    simp length-append (omega arith) in
    omega arith

pub length-names_contents : (parts : List Part)
    → length (names_contents parts) ≡ 11 + length (flat_map name_bytes parts)
length-names_contents parts = simp length-append (omega arith)

counted : (n : ℕ) → 1 + (n + 1) ≡ n + 2
counted n = omega arith

regroup : (head bodies own_body gap first entries own_entry : List ℕ)
    → head ++ (bodies ++ own_body) ++ gap ++ (first ++ (entries ++ own_entry))
    ≡ head ++ bodies ++ own_body ++ gap ++ first ++ entries ++ own_entry
regroup head bodies own_body gap first entries own_entry = simp append_assoc

-- what the code pushes, with its numbers as they are found, is the file
pub plain_layout-pushed : (s : Shape) (parts : List Part)
    {start middle end gap count name : ℕ} {last : Part}
    → last ≡ names_part parts
    → start ≡ header_size s.class
    → middle ≡ parts_end start parts
    → end ≡ parts_end middle (last ∷ [])
    → gap ≡ padding (numbers_of s.class).table_alignment end
    → count ≡ length parts + 2
    → name ≡ 1 + length (flat_map name_bytes parts)
    → header s (end + gap) count ++ bodies start parts ++ bodies middle (last ∷ [])
    ++ replicate gap 0
    ++ fields_bytes s (first_fields s.counts count) ++ entries s start 1 parts
    ++ entries s middle name (last ∷ [])
    ≡ plain_layout s parts
unfolding plain_layout
plain_layout-pushed s parts {middle = middle} {end = end} {count = count}
    is_last is_start is_middle is_end is_gap is_count is_name =
    let hs : ℕ = header_size s.class in
    let own : List Part = names_part parts ∷ [] in
    let is_all : count ≡ entry_count parts =
    is_count ∙ sym (ap (λ n. 1 + n) (length-append parts own) ∙ counted (length parts)) in
    let is_bodies_end : end ≡ bodies_end s parts =
    is_end ∙ ap (λ l. parts_end middle (l ∷ [])) is_last
    ∙ ap (λ m. parts_end m own) (is_middle ∙ ap (λ p. parts_end p parts) is_start)
    ∙ sym (parts_end-append hs parts own) in
    rw (is_name, is_gap, is_bodies_end, is_middle, is_start, is_all, is_last)
    (rw (bodies-append hs parts own, entries-append s hs 1 parts own) (sym (regroup
    (header s (table_place s parts) (entry_count parts))
    (bodies hs parts)
    (bodies (parts_end hs parts) own)
    (replicate (padding (numbers_of s.class).table_alignment (bodies_end s parts)) 0)
    (fields_bytes s (first_fields s.counts (entry_count parts)))
    (entries s hs 1 parts)
    (entries s (parts_end hs parts) (1 + length (flat_map name_bytes parts)) own))))

-- how long the names' section is
pub ruleset names_steps = (length-names, length-names_contents)
