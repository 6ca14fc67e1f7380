-- The text of the data of an answer.
use Rattle.std.proofs.Common.{◌≡◌, ◌∙◌, sym, ap, refl, ℕ, Bool, true, false, ◌||◌, List, [], ◌∷◌, ◌++◌, codes, map, Result, Ok, Err, append_assoc, ◌==◌, inl, inr, subst}
use Rattle.std.proofs.lemmas.Bool.{cases_eq, ne_eqb}
use Rattle.std.specs.Prelude.{IfOk, String, string_bytes}
use Rattle.std.specs.declared.alloc.Global.{Global}
use Rattle.std.specs.List.{flat_map}
use Rattle.json.specs.Print.{escape, escape_byte}
use Rattle.serde_json.specs.Data.{Data}
use Rattle.serde_json.specs.View.{items_of}
use Rattle.serde_json.specs.Written.{compact_text, has_float, items_have_float, items_text}
use Rattle.metadata_text.specs.Values.{answer_data, file_data}
use Rattle.metadata_text.specs.Text.{FoundFacts, class_text, escaped, file_text, files_text, metadata_text}

at_escape : (b letter : ℕ) → b ≡ letter → escape_byte letter ≡ escaped letter → escape_byte b ≡ escaped b
at_escape b letter is same = subst (λ (x : ℕ). escape_byte x ≡ escaped x) (sym is) same

-- a byte that has no short escape
no_short : (b : ℕ) → (b == 34) ≡ false → (b == 92) ≡ false → (b == 8) ≡ false → (b == 12) ≡ false → (b == 10) ≡ false
    → (b == 13) ≡ false → (b == 9) ≡ false → escape_byte b ≡ escaped b
unfolding escape_byte
no_short b e34 e92 e8 e12 e10 e13 e9 = rw (e34, e92, e8, e12, e10, e13, e9) refl

cong2 : {a b c d : List ℕ} → a ≡ b → c ≡ d → a ++ c ≡ b ++ d
cong2 e f = cc

-- one byte, which is one of those with a short escape or none of them
same_byte : (b : ℕ) → escape_byte b ≡ escaped b
unfolding escape_byte
same_byte b =
    elim (cases_eq b 34) [
      | inl is ↦ at_escape b 34 is refl
      | inr not34 ↦ elim (cases_eq b 92) [
        | inl is ↦ at_escape b 92 is refl
        | inr not92 ↦ elim (cases_eq b 8) [
          | inl is ↦ at_escape b 8 is refl
          | inr not8 ↦ elim (cases_eq b 12) [
            | inl is ↦ at_escape b 12 is refl
            | inr not12 ↦ elim (cases_eq b 10) [
              | inl is ↦ at_escape b 10 is refl
              | inr not10 ↦ elim (cases_eq b 13) [
                | inl is ↦ at_escape b 13 is refl
                | inr not13 ↦ elim (cases_eq b 9) [
                  | inl is ↦ at_escape b 9 is refl
                  | inr not9 ↦
                      no_short b (ne_eqb b 34 not34) (ne_eqb b 92 not92) (ne_eqb b 8 not8) (ne_eqb b 12 not12) (ne_eqb b 10 not10)
                      (ne_eqb b 13 not13) (ne_eqb b 9 not9)
                ]
              ]
            ]
          ]
        ]
      ]
    ]

same_escape : (s : List ℕ) → escape s ≡ flat_map escaped s
same_escape [] = refl
same_escape (b ∷ s) = cong2 (same_byte b) (same_escape s)

same_file : (f : FoundFacts) → compact_text (file_data f) ≡ file_text f
unfolding escape_byte
same_file f = rw (same_escape f.build_id, same_escape f.file, same_escape (class_text f.class))

no_float : (fs : List FoundFacts) → items_have_float (items_of (map file_data fs)) ≡ false
no_float [] = refl
no_float (f ∷ fs) = no_float fs

no_float_in : (complete : Bool) (fs : List FoundFacts) → has_float (answer_data complete (map file_data fs)) ≡ false
no_float_in complete fs = ap (λ (b : Bool). b || false) (no_float fs)

-- the files behind one that is told, with the bracket
behind : List FoundFacts → List ℕ
behind [] = codes "]"
behind (f ∷ fs) = codes "," ++ (files_text (f ∷ fs) ++ codes "]")

same_behind : (fs : List FoundFacts) → items_text true (items_of (map file_data fs)) ≡ behind fs
unfolding behind
same_behind [] = refl
same_behind (f ∷ []) = ap (λ (x : List ℕ). 44 ∷ (x ++ codes "]")) (same_file f)
same_behind (f ∷ g ∷ fs) =
    ap (λ (x : List ℕ). 44 ∷ (x ++ items_text true (items_of (map file_data (g ∷ fs))))) (same_file f)
    ∙ (ap (λ (x : List ℕ). 44 ∷ (file_text f ++ x)) (same_behind (g ∷ fs))
    ∙ ap (λ (x : List ℕ). 44 ∷ x) (sym (append_assoc (file_text f) (44 ∷ files_text (g ∷ fs)) (codes "]"))))

same_files : (fs : List FoundFacts) → items_text false (items_of (map file_data fs)) ≡ files_text fs ++ codes "]"
unfolding behind
same_files [] = refl
same_files (f ∷ []) = ap (λ (x : List ℕ). x ++ codes "]") (same_file f)
same_files (f ∷ g ∷ fs) =
    ap (λ (x : List ℕ). x ++ items_text true (items_of (map file_data (g ∷ fs)))) (same_file f)
    ∙ (ap (λ (x : List ℕ). file_text f ++ x) (same_behind (g ∷ fs))
    ∙ sym (append_assoc (file_text f) (44 ∷ files_text (g ∷ fs)) (codes "]")))

same_text : (complete : Bool) (fs : List FoundFacts) → compact_text (answer_data complete (map file_data fs)) ≡ metadata_text complete fs
unfolding escape_byte
same_text true fs = ap (λ (x : List ℕ). codes "{\"complete\":true,\"results\":[" ++ (x ++ codes "}")) (same_files fs) ∙ ap (λ (x : List ℕ). codes "{\"complete\":true,\"results\":[" ++ x) (append_assoc (files_text fs) (codes "]") (codes "}"))
same_text false fs = ap (λ (x : List ℕ). codes "{\"complete\":false,\"results\":[" ++ (x ++ codes "}")) (same_files fs) ∙ ap (λ (x : List ℕ). codes "{\"complete\":false,\"results\":[" ++ x) (append_assoc (files_text fs) (codes "]") (codes "}"))

-- the text of an answer is the one that its data has, and holds no float
text_of : (complete : Bool) (fs : List FoundFacts) (files : List Data) (value : Data) (text : List ℕ) → files ≡ map file_data fs
    → value ≡ answer_data complete files → (has_float value ≡ false → text ≡ compact_text value) → text ≡ metadata_text complete fs
text_of complete fs files value text are is says =
    let whole : value ≡ answer_data complete (map file_data fs) = is ∙ ap (answer_data complete) are in
    says (ap has_float whole ∙ no_float_in complete fs) ∙ (ap compact_text whole ∙ same_text complete fs)

pub text_result : {E : Type 0} (complete : Bool) (fs : List FoundFacts) (files : List Data) (value : Data) (result : Result (String Global) E)
    → files ≡ map file_data fs → value ≡ answer_data complete files
    → IfOk result (λ s. has_float value ≡ false → string_bytes s ≡ compact_text value)
    → IfOk result (λ s. string_bytes s ≡ metadata_text complete fs)
text_result complete fs files value (Ok s) are is says = text_of complete fs files value (string_bytes s) are is says
text_result complete fs files value (Err e) are is says = tt
