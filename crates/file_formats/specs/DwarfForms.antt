-- The forms of an attribute's value (DWARF 5, section 7.5.6, "Form Encodings", table 7.6): how a value of each form
-- stands in the bytes, and where what follows begins.
use Rattle.std.specs.Prelude.{◌≡◌, ℕ, ◌∷◌, [], List, Option, Some, None, Ok, Err, true, false, ◌==◌, if◌then◌else◌, ℤ}
use Rattle.std.specs.Option.{option_map}
use Rattle.std.specs.List.{find}
use Rattle.file_formats.specs.declared.dwarf_forms.TheConstants.{DW_FORM_ADDR, DW_FORM_BLOCK2, DW_FORM_BLOCK4, DW_FORM_DATA2, DW_FORM_DATA4, DW_FORM_DATA8, DW_FORM_STRING, DW_FORM_BLOCK, DW_FORM_BLOCK1, DW_FORM_DATA1, DW_FORM_FLAG, DW_FORM_SDATA, DW_FORM_STRP, DW_FORM_UDATA, DW_FORM_REF_ADDR, DW_FORM_REF1, DW_FORM_REF2, DW_FORM_REF4, DW_FORM_REF8, DW_FORM_REF_UDATA, DW_FORM_INDIRECT, DW_FORM_SEC_OFFSET, DW_FORM_EXPRLOC, DW_FORM_FLAG_PRESENT, DW_FORM_STRX, DW_FORM_ADDRX, DW_FORM_REF_SUP4, DW_FORM_STRP_SUP, DW_FORM_DATA16, DW_FORM_LINE_STRP, DW_FORM_REF_SIG8, DW_FORM_IMPLICIT_CONST, DW_FORM_LOCLISTX, DW_FORM_RNGLISTX, DW_FORM_REF_SUP8, DW_FORM_STRX1, DW_FORM_STRX2, DW_FORM_STRX3, DW_FORM_STRX4, DW_FORM_ADDRX1, DW_FORM_ADDRX2, DW_FORM_ADDRX3, DW_FORM_ADDRX4, ADDRESS_REF_VERSION}
use Rattle.file_formats.specs.declared.dwarf_forms.Width.TheVariants.{One, Two, Three, Four, Eight, Offset, Leb}
use Rattle.file_formats.specs.declared.dwarf_forms.Sense.{Sense}
use Rattle.file_formats.specs.declared.dwarf_forms.Sense.TheVariants.{Number, Place, Str, LineStr, SupStr, StrIndex, Other}
use Rattle.file_formats.specs.declared.dwarf_forms.Layout.{Layout}
use Rattle.file_formats.specs.declared.dwarf_forms.Layout.TheVariants.{Numbered, Signed, Text, Address, Reference, Passed, Block}
use Rattle.file_formats.specs.DwarfReads.{Input, At, Read, ReadFault, is_unknown_form, ◌>>=◌, offset_size, fixed_at, signed_at, unsigned_at, number_at, string_at}

-- a form's code, and how its values stand in the bytes
pub record FormRow : Type 0 where
  pub code : ℕ
  pub layout : Layout

-- the row of a code
abbrev pub form_row : ℕ → Layout → FormRow
form_row code layout = record { code = code; layout = layout }

-- the forms in the order of their codes, but for indirect and implicit_const
abbrev pub form_table : List FormRow
form_table =
    form_row DW_FORM_ADDR Address ∷
    form_row DW_FORM_BLOCK2 (Block Two) ∷
    form_row DW_FORM_BLOCK4 (Block Four) ∷
    form_row DW_FORM_DATA2 (Numbered Two Number) ∷
    form_row DW_FORM_DATA4 (Numbered Four Place) ∷
    form_row DW_FORM_DATA8 (Numbered Eight Place) ∷
    form_row DW_FORM_STRING Text ∷
    form_row DW_FORM_BLOCK (Block Leb) ∷
    form_row DW_FORM_BLOCK1 (Block One) ∷
    form_row DW_FORM_DATA1 (Numbered One Number) ∷
    form_row DW_FORM_FLAG (Passed 1) ∷
    form_row DW_FORM_SDATA Signed ∷
    form_row DW_FORM_STRP (Numbered Offset Str) ∷
    form_row DW_FORM_UDATA (Numbered Leb Number) ∷
    form_row DW_FORM_REF_ADDR Reference ∷
    form_row DW_FORM_REF1 (Passed 1) ∷
    form_row DW_FORM_REF2 (Passed 2) ∷
    form_row DW_FORM_REF4 (Passed 4) ∷
    form_row DW_FORM_REF8 (Passed 8) ∷
    form_row DW_FORM_REF_UDATA (Numbered Leb Other) ∷
    form_row DW_FORM_SEC_OFFSET (Numbered Offset Place) ∷
    form_row DW_FORM_EXPRLOC (Block Leb) ∷
    form_row DW_FORM_FLAG_PRESENT (Passed 0) ∷
    form_row DW_FORM_STRX (Numbered Leb StrIndex) ∷
    form_row DW_FORM_ADDRX (Numbered Leb Other) ∷
    form_row DW_FORM_REF_SUP4 (Passed 4) ∷
    form_row DW_FORM_STRP_SUP (Numbered Offset SupStr) ∷
    form_row DW_FORM_DATA16 (Passed 16) ∷
    form_row DW_FORM_LINE_STRP (Numbered Offset LineStr) ∷
    form_row DW_FORM_REF_SIG8 (Passed 8) ∷
    form_row DW_FORM_LOCLISTX (Numbered Leb Other) ∷
    form_row DW_FORM_RNGLISTX (Numbered Leb Other) ∷
    form_row DW_FORM_REF_SUP8 (Passed 8) ∷
    form_row DW_FORM_STRX1 (Numbered One StrIndex) ∷
    form_row DW_FORM_STRX2 (Numbered Two StrIndex) ∷
    form_row DW_FORM_STRX3 (Numbered Three StrIndex) ∷
    form_row DW_FORM_STRX4 (Numbered Four StrIndex) ∷
    form_row DW_FORM_ADDRX1 (Passed 1) ∷
    form_row DW_FORM_ADDRX2 (Passed 2) ∷
    form_row DW_FORM_ADDRX3 (Passed 3) ∷
    form_row DW_FORM_ADDRX4 (Passed 4) ∷ []

-- how values of a form stand in the bytes, none for a form that isn't in the table
unfoldable pub layout_of : ℕ → Option Layout
layout_of form = option_map (λ row. row.layout) (find (λ row. row.code == form) form_table)

-- a value as it stands: a number with what it means, a text in place, or what no rule reads
pub data Raw : Type 0 where
  numbered : Sense → ℕ → Raw
  inline : List ℕ → Raw
  passed_by : Raw

-- the size of the form ref_addr: that of an address in version 2 (DWARF 2, section 7.5.4, "Attribute Encodings"), and that of a place
-- in a section from version 3 on (DWARF 3, the same section)
abbrev pub reference_size : Input → ℕ
reference_size s = if s.version == ADDRESS_REF_VERSION then s.address_size else offset_size s.wide

-- the value of a layout at the place
abbrev pub layout_at : Input → Layout → ℕ → Read Raw
layout_at s (Numbered width sense) p =
    number_at s width p >>= λ n. Ok (record { value = numbered sense n.value; next = n.next })
layout_at s Signed p = signed_at s p >>= λ n. Ok (record { value = passed_by; next = n.next })
layout_at s Text p = string_at s p >>= λ t. Ok (record { value = inline t.value; next = t.next })
layout_at s Address p = fixed_at s s.address_size p (λ _. passed_by)
layout_at s Reference p = fixed_at s (reference_size s) p (λ _. passed_by)
layout_at s (Passed n) p = fixed_at s n p (λ _. passed_by)
layout_at s (Block width) p = number_at s width p >>= λ n. fixed_at s n.value n.next (λ _. passed_by)

-- the value of a form's layout at the place, a fault where the form has none
abbrev pub known_at : Input → ℕ → Option Layout → ℕ → Read Raw
known_at s form None p = Err (is_unknown_form form)
known_at s form (Some layout) p = layout_at s layout p

-- the value of form implicit_const, which takes no bytes, and which a constant has to stand for
abbrev pub implicit_at : Option ℤ → ℕ → Read Raw
implicit_at None p = Err (is_unknown_form DW_FORM_IMPLICIT_CONST)
implicit_at (Some constant) p = Ok (record { value = passed_by; next = p })

-- the value of a form other than indirect at the place
abbrev pub direct_at : Input → Option ℤ → ℕ → ℕ → Read Raw
direct_at s constant form p =
    if form == DW_FORM_IMPLICIT_CONST then implicit_at constant p else known_at s form (layout_of form) p

-- what a form leads to at a place: itself, with the place; through the number that stands there, which is a form again, where it
-- is indirect; and to a fault where no number can be read there
pub data LeadsToForm (s : Input) : ℕ → ℕ → Read ℕ → Type 0 where
  itself : (form p : ℕ) → (form == DW_FORM_INDIRECT) ≡ false → LeadsToForm s form p (Ok (record { value = form; next = p }))
  through : (form p : ℕ) (next : At ℕ) (last : Read ℕ) → (form == DW_FORM_INDIRECT) ≡ true → unsigned_at s p ≡ Ok next
      → LeadsToForm s next.value next.next last → LeadsToForm s form p last
  cut_off : (form p : ℕ) (fault : ReadFault) → (form == DW_FORM_INDIRECT) ≡ true → unsigned_at s p ≡ Err fault
      → LeadsToForm s form p (Err fault)

-- the constant of the abbreviation, which counts only where the form isn't indirect
abbrev pub constant_for : ℕ → Option ℤ → Option ℤ
constant_for form constant = if form == DW_FORM_INDIRECT then None else constant

-- the value of any form at the place: that of the form that it leads to, behind the chain; or the first fault
pub record IsForm (s : Input) (constant : Option ℤ) (form p : ℕ) (raw : Read Raw) : Type 0 where
  pub last : Read ℕ
  pub leads : LeadsToForm s form p last
  pub says : raw ≡ (last >>= λ at. direct_at s (constant_for form constant) at.value at.next)
