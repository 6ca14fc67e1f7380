-- Bytes are read as a row exactly where they are its row bytes.
use Rattle.std.proofs.Common.{◌≡◌, ℕ, zero, suc, ◌<◌, ◌≤◌, ◌^◌, ◌==◌, ◌++◌, ◌⊎◌, inl, inr, ℤ, pos, negsuc, Bool, true, false, cond, Option, Some, None, List, [], ◌∷◌, length, refl, sym, ◌∙◌, ap, subst, arith, append_assoc}
use Rattle.std.specs.Prelude.{FitsSigned, Result, Ok, Err, IsOk, nat_lt}
use Rattle.std.specs.List.{flat_map, AllByRecursion}
use Rattle.std.specs.Int.{w64, cast_unsigned, cast_signed}
use Rattle.std.specs.Ordering.{is_lt}
use Rattle.std.specs.Str.{is_utf8}
use Rattle.std.proofs.lemmas.Bool.{and_from, and_parts, eqb-true, false_from_ne_true, le-ltb, lt-ltb, ltb-false, ltb-true, not-true, not_from_false}
use Rattle.std.proofs.lemmas.Cmp.{nat_list_cmp_total}
use Rattle.std.proofs.lemmas.Int.{of_z-to_z, to_z-of_z}
use Rattle.std.proofs.lemmas.List.Elements.{All-from_recursion, recursion_from_All}
use Rattle.std.proofs.lemmas.List.{append-nil}
use Rattle.std.proofs.lemmas.List.Kept.{AllPairs-cons}
use Rattle.std.proofs.lemmas.Slice.Eq.{bytes_eq-Decides}
use Rattle.std.proofs.lemmas.Str.{IsUtf8-from_is_utf8, is_utf8-from_IsUtf8}
use borrow.Author.Gap.{read_sfits}
use Rattle.file_formats.specs.Identity.{Identity}
use Rattle.file_formats.specs.declared.fault.Why.{Why}
use Rattle.file_formats.specs.declared.fault.Why.TheVariants.{NotElf, BadElf, NoSections, Core, NoBuildId, TooLarge}
use Rattle.row_types.specs.Ascends.{Ascends, IsBefore}
use Rattle.row_types.specs.BuildId.{IsIdLength}
use Rattle.row_types.specs.Canon.{canon, is_canonical}
use Rattle.row_types.specs.Row.{RowFacts}
use Rattle.row_types.specs.Stamp.{StampFacts}
use Rattle.row_types.specs.declared.build_id.TheConstants.{SHORTEST_ID, LONGEST_ID}
use Rattle.row_types.specs.declared.limits.TheConstants.{PATH_LIMIT}
use Rattle.row_types.specs.declared.reading.Reading.{Reading}
use Rattle.row_types.specs.declared.reading.Reading.TheVariants.{Plain, Elf}
use Rattle.row_types.specs.declared.stamp.TheConstants.{NANOS_PER_SECOND}
use Rattle.row_types.proofs.AscendsLemmas.{before_from_test, first_related, rest_related}
use Rattle.row_types.proofs.PartLemmas.{stamp_from}
use Rattle.row_codec.specs.Spelled.{AreSources, IsPathText, IsSpelledReading, IsStamp}
use Rattle.row_codec.specs.RowBytes.{IsRowBytes, eight_bytes, flags_byte, four_bytes, ident_bytes, reading_bytes, sources_bytes, stamp_bytes, spelled_text, why_byte}
use Rattle.row_codec.specs.Read.{HasPathInFront, and_then, row_at_end, one_byte, edition_at, flags_of, id_at, ident_at, is_above, is_id_length, is_path_text, known, path_at, paths_at, reading_at, row_of_bytes, sources_at, stamp_in_front, tagged_at, tested, text_in_front, why_at, why_of_number}
use Rattle.row_codec.specs.declared.codes.TheConstants.{PLAIN_TAG, ELF_TAG}
use Rattle.row_codec.specs.declared.fault.CodecFault.{CodecFault}
use Rattle.row_codec.specs.declared.fault.CodecFault.TheVariants.{BadTag, BadText, BadOrder, Trailing}
use Rattle.row_codec.specs.declared.parts.Flags.{Flags}
use Rattle.row_codec.proofs.Fronts.{AreBytes, behind_bytes, by_led, byte_written, bytes_read, bytes_written, eight_read, eight_written, four_read, four_written, given, leads, led, passes_test, test_passed, text_read, text_written}

-- paths
pub path_text : (x : List ℕ) → is_path_text x ≡ true → IsPathText x
path_text x h =
    let outer = and_parts _ _ h in
    let inner = and_parts (is_utf8 x) (is_canonical x) outer.0 in record {
      valid = IsUtf8-from_is_utf8 x inner.0;
      canonical = record { canonical = (bytes_eq-Decides (canon x) x).0 inner.1; short = ltb-false PATH_LIMIT (length x) (not-true (nat_lt PATH_LIMIT (length x)) outer.1) };
    }

pub text_path : (x : List ℕ) → IsPathText x → is_path_text x ≡ true
text_path x h =
    and_from _ _ (and_from _ _ (is_utf8-from_IsUtf8 x h.valid) ((bytes_eq-Decides (canon x) x).1 h.canonical.canonical))
    (not_from_false (nat_lt PATH_LIMIT (length x)) (le-ltb PATH_LIMIT (length x) h.canonical.short))

short_path : (text : List ℕ) → IsPathText text → length text < 2 ^ 32
short_path text h = omega (arith, h.canonical.short)

path_written : (bytes x rest : List ℕ) → AreBytes bytes → path_at bytes ≡ Ok (x, rest) → IsPathText x × (bytes ≡ spelled_text x ++ rest)
unfolding path_at
path_written bytes x rest h e =
    let one = led _ _ _ e in
    let passed = test_passed (is_path_text one.part) one.part x one.rest rest BadText one.then in (
      path_text x (ap is_path_text (sym passed.1) ∙ passed.0),
      text_written bytes one.part one.rest h one.read ∙ ap (λ (t : List ℕ). spelled_text t ++ one.rest) passed.1 ∙ ap (λ (r : List ℕ). spelled_text x ++ r) passed.2,
    )

path_read : (x rest : List ℕ) → IsPathText x → path_at (spelled_text x ++ rest) ≡ Ok (x, rest)
unfolding path_at
path_read x rest h = leads _ _ _ _ _ (text_read x rest (short_path x h)) (passes_test (is_path_text x) x rest BadText (text_path x h))

-- stamps
regroup : (a b c d : List ℕ) → ((a ++ b) ++ c) ++ d ≡ a ++ (b ++ (c ++ d))
regroup a b c d = simp append_assoc

stamp_written : (bytes : List ℕ) (s : StampFacts) (rest : List ℕ) → AreBytes bytes → stamp_in_front bytes ≡ Ok (s, rest) → IsStamp s × (bytes ≡ stamp_bytes s ++ rest)
unfolding stamp_in_front
stamp_written bytes s rest h e =
    let one = led _ _ _ e in
    let size = eight_written bytes one.part one.rest h one.read in
    let g = behind_bytes (eight_bytes one.part) one.rest (subst AreBytes size.written h) in
    let two = led _ _ _ one.then in
    let secs = eight_written one.rest two.part two.rest g two.read in
    let f = behind_bytes (eight_bytes two.part) two.rest (subst AreBytes secs.written g) in
    let three = led _ _ _ two.then in
    let nanos = four_written two.rest three.part three.rest f three.read in
    let passed = test_passed (nat_lt three.part NANOS_PER_SECOND) (stamp_from one.part (cast_signed w64 two.part) three.part) s three.rest rest BadTag three.then in
    let back : cast_unsigned w64 (cast_signed w64 two.part) ≡ two.part = of_z-to_z w64 two.part secs.below in (
      subst IsStamp passed.1 (record { size = size.below; secs = read_sfits w64 two.part; nanos = ltb-true three.part NANOS_PER_SECOND passed.0 }),
      size.written ∙ ap (λ (r : List ℕ). eight_bytes one.part ++ r) (secs.written ∙ ap (λ (r : List ℕ). eight_bytes two.part ++ r) (nanos.written ∙ ap (λ (r : List ℕ). four_bytes three.part ++ r) passed.2))
          ∙ sym (regroup (eight_bytes one.part) (eight_bytes two.part) (four_bytes three.part) rest)
          ∙ ap (λ (k : ℕ). ((eight_bytes one.part ++ eight_bytes k) ++ four_bytes three.part) ++ rest) (sym back)
          ∙ ap (λ (t : StampFacts). stamp_bytes t ++ rest) passed.1,
    )

unsigned_below : (z : ℤ) → FitsSigned w64 z → cast_unsigned w64 z < 2 ^ 64
unsigned_below (pos n) h = omega (arith, h.sfits)
unsigned_below (negsuc n) h = omega arith

stamp_read : (s : StampFacts) (rest : List ℕ) → IsStamp s → stamp_in_front (stamp_bytes s ++ rest) ≡ Ok (s, rest)
unfolding stamp_in_front
stamp_read s rest h =
    let last : tested (nat_lt s.nanos NANOS_PER_SECOND) (stamp_from s.size (cast_signed w64 (cast_unsigned w64 s.secs)) s.nanos) rest BadTag ≡ Ok (s, rest) =
    passes_test (nat_lt s.nanos NANOS_PER_SECOND) (stamp_from s.size (cast_signed w64 (cast_unsigned w64 s.secs)) s.nanos) rest BadTag (lt-ltb s.nanos NANOS_PER_SECOND h.nanos)
    ∙ ap (λ (z : ℤ). Ok (stamp_from s.size z s.nanos, rest)) (to_z-of_z w64 s.secs h.secs) in
    ap stamp_in_front (regroup (eight_bytes s.size) (eight_bytes (cast_unsigned w64 s.secs)) (four_bytes s.nanos) rest)
    ∙ leads _ _ _ _ _ (eight_read s.size (eight_bytes (cast_unsigned w64 s.secs) ++ (four_bytes s.nanos ++ rest)) h.size)
    (leads _ _ _ _ _ (eight_read (cast_unsigned w64 s.secs) (four_bytes s.nanos ++ rest) (unsigned_below s.secs h.secs))
    (leads _ _ _ _ _ (four_read s.nanos rest (omega (arith, h.nanos))) last))

-- numbers that stand for something
known_is : {X : Type 0} (o : Option X) (x : X) (xs ys : List ℕ) → known o xs ≡ Ok (x, ys) → (o ≡ Some x) × (xs ≡ ys)
known_is None x xs ys h =
    let none : ⊥ = cc in absurd none
known_is {X} (Some y) x xs ys h =
    let same : (y, xs) ≡ (x, ys) = cc in (ap (λ (p : X × List ℕ). Some p.0) same, ap (λ (p : X × List ℕ). p.1) same)

chosen : {X : Type 0} (spell : X → ℕ) (n : ℕ) (x w : X) (o : Option X) → (o ≡ Some w → n ≡ spell w) → cond (n == spell x) (Some x) o ≡ Some w → n ≡ spell w
chosen spell n x w o later h =
    elim (n == spell x) as (λ b. (n == spell x) ≡ b → cond b (Some x) o ≡ Some w → n ≡ spell w) [
      | true ↦ λ e k. let same : x ≡ w = cc in eqb-true n (spell x) e ∙ ap spell same
      | false ↦ λ e k. later k
    ] refl h

why_back : (n : ℕ) (w : Why) → why_of_number n ≡ Some w → n ≡ why_byte w
unfolding why_of_number
why_back n w h =
    chosen why_byte n NotElf w _
    (chosen why_byte n BadElf w _ (chosen why_byte n NoSections w _ (chosen why_byte n Core w _ (chosen why_byte n NoBuildId w _ (chosen why_byte n TooLarge w _ (λ k. let none : ⊥ = cc in absurd none)))))) h

why_written : (bytes : List ℕ) (w : Why) (rest : List ℕ) → why_at bytes ≡ Ok (w, rest) → bytes ≡ why_byte w ∷ rest
unfolding why_at
why_written bytes w rest e =
    let one = led _ _ _ e in
    let said = known_is (why_of_number one.part) w one.rest rest one.then in
    byte_written bytes one.part one.rest one.read ∙ ap (λ (n : ℕ). n ∷ one.rest) (why_back one.part w said.0) ∙ ap (λ (r : List ℕ). why_byte w ∷ r) said.1

byte_read : (b : ℕ) (rest : List ℕ) → one_byte (b ∷ rest) ≡ Ok (b, rest)
unfolding one_byte
byte_read b rest = refl

why_again : (w : Why) (rest : List ℕ) → known (why_of_number (why_byte w)) rest ≡ Ok (w, rest)
unfolding why_of_number
why_again NotElf rest = refl
why_again BadElf rest = refl
why_again NoSections rest = refl
why_again Core rest = refl
why_again NoBuildId rest = refl
why_again TooLarge rest = refl

why_read : (w : Why) (rest : List ℕ) → why_at (why_byte w ∷ rest) ≡ Ok (w, rest)
unfolding why_at
why_read w rest = leads _ _ _ _ _ (byte_read (why_byte w) rest) (why_again w rest)

abbrev sum_of : Flags → ℕ
sum_of flags = flags_byte flags.exec flags.debug

abbrev flags_from : Bool → Bool → Flags
flags_from exec debug = record { exec = exec; debug = debug }

flags_back : (n : ℕ) (f : Flags) → flags_of n ≡ Some f → n ≡ sum_of f
unfolding flags_of
flags_back n f h =
    chosen sum_of n (flags_from false false) f _
    (chosen sum_of n (flags_from true false) f _ (chosen sum_of n (flags_from false true) f _ (chosen sum_of n (flags_from true true) f _ (λ k. let none : ⊥ = cc in absurd none)))) h

flags_again : (exec debug : Bool) (rest : List ℕ) → known (flags_of (flags_byte exec debug)) rest ≡ Ok (flags_from exec debug, rest)
unfolding flags_of
flags_again false false rest = refl
flags_again true false rest = refl
flags_again false true rest = refl
flags_again true true rest = refl

-- ids
pub id_length : (n : ℕ) → is_id_length n ≡ true → IsIdLength n
id_length n h =
    let both = and_parts _ _ h in
    record { least = ltb-false n SHORTEST_ID (not-true (nat_lt n SHORTEST_ID) both.0); most = ltb-false LONGEST_ID n (not-true (nat_lt LONGEST_ID n) both.1) }

pub length_id : (n : ℕ) → IsIdLength n → is_id_length n ≡ true
length_id n h = and_from _ _ (not_from_false (nat_lt n SHORTEST_ID) (le-ltb n SHORTEST_ID h.least)) (not_from_false (nat_lt LONGEST_ID n) (le-ltb LONGEST_ID n h.most))

id_written : (bytes x rest : List ℕ) → id_at bytes ≡ Ok (x, rest) → IsIdLength (length x) × (bytes ≡ length x ∷ (x ++ rest))
unfolding id_at
id_written bytes x rest e =
    let one = led _ _ _ e in
    let two = led _ _ _ one.then in
    let passed = test_passed (is_id_length one.part) one.part two.part one.rest two.rest BadTag two.read in
    let parts = bytes_written two.part two.rest x rest two.then in (
      subst IsIdLength (passed.1 ∙ sym parts.0) (id_length one.part passed.0),
      byte_written bytes one.part one.rest one.read ∙ ap (λ (n : ℕ). n ∷ one.rest) (passed.1 ∙ sym parts.0) ∙ ap (λ (r : List ℕ). length x ∷ r) (passed.2 ∙ parts.1),
    )

id_read : (x rest : List ℕ) → IsIdLength (length x) → id_at (length x ∷ (x ++ rest)) ≡ Ok (x, rest)
unfolding id_at
id_read x rest h =
    leads _ _ _ _ _ (byte_read (length x) (x ++ rest)) (leads _ _ _ _ _ (passes_test (is_id_length (length x)) (length x) (x ++ rest) BadTag (length_id (length x) h)) (bytes_read x rest))

-- identities
abbrev ident_from : List ℕ → Flags → Identity
ident_from id flags = record { id = id; exec = flags.exec; debug = flags.debug }

ident_joined : (bytes one two rest id : List ℕ) (n : ℕ) (flags : Flags) → bytes ≡ n ∷ one → n ≡ sum_of flags → one ≡ two → two ≡ length id ∷ (id ++ rest) → bytes ≡ ident_bytes (ident_from id flags) ++ rest
ident_joined bytes one two rest id n flags p q r s = p ∙ ap (λ (k : ℕ). k ∷ one) q ∙ ap (λ (xs : List ℕ). sum_of flags ∷ xs) (r ∙ s)

ident_moved : (j i : Identity) (bytes xs ys : List ℕ) → given j xs ≡ given i ys → IsIdLength (length j.id) → bytes ≡ ident_bytes j ++ xs → IsIdLength (length i.id) × (bytes ≡ ident_bytes i ++ ys)
ident_moved j i bytes xs ys e sized written =
    let same : (j, xs) ≡ (i, ys) = cc in subst (λ (p : Identity × List ℕ). IsIdLength (length p.0.id) × (bytes ≡ ident_bytes p.0 ++ p.1)) same (sized, written)

ident_written : (bytes : List ℕ) (i : Identity) (rest : List ℕ) → ident_at bytes ≡ Ok (i, rest) → IsIdLength (length i.id) × (bytes ≡ ident_bytes i ++ rest)
unfolding ident_at
ident_written bytes i rest e =
    by_led _ _ _ _ e (λ n one read then.
    by_led _ _ _ _ then (λ flags two known_read then_id.
    by_led _ _ _ _ then_id (λ id three id_read last.
    let said = known_is (flags_of n) flags one two known_read in
    let id_is = id_written two id three id_read in
    ident_moved (ident_from id flags) i bytes three rest last id_is.0 (ident_joined bytes one two three id n flags (byte_written bytes n one read) (flags_back n flags said.0) said.1 id_is.1))))

ident_read : (i : Identity) (rest : List ℕ) → IsIdLength (length i.id) → ident_at (ident_bytes i ++ rest) ≡ Ok (i, rest)
unfolding ident_at
ident_read i rest h =
    leads _ _ _ _ _ (byte_read (flags_byte i.exec i.debug) (length i.id ∷ (i.id ++ rest)))
    (leads _ _ _ _ _ (flags_again i.exec i.debug (length i.id ∷ (i.id ++ rest))) (leads _ _ _ _ _ (id_read i.id rest h) refl))

-- each path stands behind the one before it
abbrev pub Follows : Option (List ℕ) → List (List ℕ) → Type 0
Follows last [] = Unit {0}
Follows last (p ∷ ps) = (is_above last p ≡ true) × Follows (Some p) ps

weaken : (P Q : List ℕ → Type 0) → ((x : List ℕ) → P x → Q x) → (xs : List (List ℕ)) → AllByRecursion P xs → AllByRecursion Q xs
weaken P Q says [] h = tt
weaken P Q says (x ∷ xs) h = (says x h.0, weaken P Q says xs h.1)

rises : (p : List ℕ) (ps : List (List ℕ)) → Follows (Some p) ps → AllByRecursion (IsBefore p) ps
rises p [] h = tt
rises p (q ∷ ps) h =
    let before = before_from_test p q h.0 in
    (before, weaken (IsBefore q) (IsBefore p) (λ x k. nat_list_cmp_total.trans p q x before k) ps (rises q ps h.1))

pub ascends : (last : Option (List ℕ)) (ps : List (List ℕ)) → Follows last ps → Ascends ps
ascends last [] h = λ i j d lt within. absurd (omega arith)
ascends last (p ∷ ps) h = AllPairs-cons IsBefore p ps (All-from_recursion (IsBefore p) ps (rises p ps h.1)) (ascends (Some p) ps h.1)

follows : (p : List ℕ) (ps : List (List ℕ)) → Ascends (p ∷ ps) → Follows (Some p) ps
follows p [] h = tt
follows p (q ∷ ps) h = (ap (λ o. is_lt o) (first_related IsBefore p (q ∷ ps) h 0 [] (omega arith)), follows q ps (rest_related IsBefore p (q ∷ ps) h))

follow : (ps : List (List ℕ)) → Ascends ps → Follows None ps
follow [] h = tt
follow (p ∷ ps) h = (refl, follows p ps h)

-- so many paths
record ReadPaths (count : ℕ) (last : Option (List ℕ)) (bytes : List ℕ) (ps : List (List ℕ)) (rest : List ℕ) : Type 0 where
  counted : length ps ≡ count
  texts : AllByRecursion IsPathText ps
  follow : Follows last ps
  written : bytes ≡ flat_map spelled_text ps ++ rest

paths_written : (count : ℕ) (last : Option (List ℕ)) (bytes : List ℕ) (ps : List (List ℕ)) (rest : List ℕ) → AreBytes bytes → paths_at count last bytes ≡ Ok (ps, rest) → ReadPaths count last bytes ps rest
unfolding paths_at
paths_written zero last bytes ps rest h e =
    let same : ([], bytes) ≡ (ps, rest) = cc in
    subst (λ (p : List (List ℕ) × List ℕ). ReadPaths zero last bytes p.0 p.1) same (record { counted = refl; texts = tt; follow = tt; written = refl })
paths_written (suc count) last bytes ps rest h e =
    let one = led _ _ _ e in
    let path = path_written bytes one.part one.rest h one.read in
    let two = led _ _ _ one.then in
    let passed = test_passed (is_above last one.part) one.part two.part one.rest two.rest BadOrder two.read in
    let three = led _ _ _ two.then in
    let g : AreBytes two.rest = subst AreBytes passed.2 (behind_bytes (spelled_text one.part) one.rest (subst AreBytes path.1 h)) in
    let more = paths_written count (Some two.part) two.rest three.part three.rest g three.read in
    let same : (two.part ∷ three.part, three.rest) ≡ (ps, rest) = cc (three.then) in
    let counted = more.counted in
    subst (λ (p : List (List ℕ) × List ℕ). ReadPaths (suc count) last bytes p.0 p.1) same
    (record {
      counted = omega arith;
      texts = (subst IsPathText passed.1 path.0, more.texts);
      follow = (ap (is_above last) (sym passed.1) ∙ passed.0, more.follow);
      written = path.1 ∙ ap (λ (t : List ℕ). spelled_text t ++ one.rest) passed.1 ∙ ap (λ (r : List ℕ). spelled_text two.part ++ r) (passed.2 ∙ more.written)
          ∙ sym (append_assoc (spelled_text two.part) (flat_map spelled_text three.part) three.rest);
    })

paths_read : (ps : List (List ℕ)) (last : Option (List ℕ)) (rest : List ℕ) → AllByRecursion IsPathText ps → Follows last ps → paths_at (length ps) last (flat_map spelled_text ps ++ rest) ≡ Ok (ps, rest)
unfolding paths_at
paths_read [] last rest t f = refl
paths_read (p ∷ ps) last rest t f =
    ap (paths_at (suc (length ps)) last) (append_assoc (spelled_text p) (flat_map spelled_text ps) rest)
    ∙ leads _ _ _ _ _ (path_read p (flat_map spelled_text ps ++ rest) t.0)
    (leads _ _ _ _ _ (passes_test (is_above last p) p (flat_map spelled_text ps ++ rest) BadOrder f.0) (leads _ _ _ _ _ (paths_read ps (Some p) rest t.1 f.1) refl))

-- sources
sources_written : (bytes : List ℕ) (ps : List (List ℕ)) (rest : List ℕ) → AreBytes bytes → sources_at bytes ≡ Ok (ps, rest) → AreSources ps × (bytes ≡ sources_bytes ps ++ rest)
unfolding sources_at
sources_written bytes ps rest h e =
    let one = led _ _ _ e in
    let number = four_written bytes one.part one.rest h one.read in
    let paths = paths_written one.part None one.rest ps rest (behind_bytes (four_bytes one.part) one.rest (subst AreBytes number.written h)) one.then in (
      record {
        few = subst (λ (n : ℕ). n < 2 ^ 32) (sym paths.counted) number.below;
        paths = All-from_recursion IsPathText ps paths.texts;
        ascend = ascends None ps paths.follow;
      },
      number.written ∙ ap (λ (r : List ℕ). four_bytes one.part ++ r) paths.written ∙ ap (λ (n : ℕ). four_bytes n ++ (flat_map spelled_text ps ++ rest)) (sym paths.counted)
          ∙ sym (append_assoc (four_bytes (length ps)) (flat_map spelled_text ps) rest),
    )

sources_read : (ps : List (List ℕ)) (rest : List ℕ) → AreSources ps → sources_at (sources_bytes ps ++ rest) ≡ Ok (ps, rest)
unfolding sources_at
sources_read ps rest h =
    ap sources_at (append_assoc (four_bytes (length ps)) (flat_map spelled_text ps) rest)
    ∙ leads _ _ _ _ _ (four_read (length ps) (flat_map spelled_text ps ++ rest) h.few) (paths_read ps None rest (recursion_from_All IsPathText ps h.paths) (follow ps h.ascend))

-- readings
by_tag : {Z : Type 0} (b c : Bool) (p q : Result Z CodecFault) (z : Z) → cond b p (cond c q (Err BadTag)) ≡ Ok z → ((b ≡ true) × (p ≡ Ok z)) ⊎ ((c ≡ true) × (q ≡ Ok z))
by_tag true c p q z h = inl (refl, h)
by_tag false true p q z h = inr (refl, h)
by_tag false false p q z h =
    let none : ⊥ = cc in absurd none

plain_at : List ℕ → Result (Reading × List ℕ) CodecFault
plain_at bytes = and_then {Y = Reading × List ℕ} (why_at bytes) (λ why rest. Ok (Plain why, rest))

elf_at : List ℕ → Result (Reading × List ℕ) CodecFault
elf_at bytes = and_then {Y = Reading × List ℕ} (ident_at bytes) (λ ident rest. and_then {Y = Reading × List ℕ} (sources_at rest) (λ sources rest. Ok (Elf ident sources, rest)))

-- the same reading and rest
read_as : (tag : ℕ) (bytes : List ℕ) (r s : Reading) (xs ys : List ℕ) → given r xs ≡ given s ys → IsSpelledReading r → tag ∷ bytes ≡ reading_bytes r ++ xs → IsSpelledReading s × (tag ∷ bytes ≡ reading_bytes s ++ ys)
read_as tag bytes r s xs ys e spelled written =
    let same : (r, xs) ≡ (s, ys) = cc in
    subst (λ (p : Reading × List ℕ). IsSpelledReading p.0 × (tag ∷ bytes ≡ reading_bytes p.0 ++ p.1)) same (spelled, written)

as_plain : (tag : ℕ) (bytes : List ℕ) (r : Reading) (rest : List ℕ) → tag ≡ PLAIN_TAG → plain_at bytes ≡ Ok (r, rest) → IsSpelledReading r × (tag ∷ bytes ≡ reading_bytes r ++ rest)
unfolding plain_at
as_plain tag bytes r rest t e =
    by_led _ _ _ _ e (λ why one read last.
    read_as tag bytes (Plain why) r one rest last tt (ap (λ (n : ℕ). n ∷ bytes) t ∙ ap (λ (xs : List ℕ). PLAIN_TAG ∷ xs) (why_written bytes why one read)))

elf_joined : (bytes one rest : List ℕ) (tag : ℕ) (ident : Identity) (sources : List (List ℕ)) → tag ≡ ELF_TAG → bytes ≡ ident_bytes ident ++ one → one ≡ sources_bytes sources ++ rest → tag ∷ bytes ≡ reading_bytes (Elf ident sources) ++ rest
elf_joined bytes one rest tag ident sources t p q =
    ap (λ (n : ℕ). n ∷ bytes) t
    ∙ ap (λ (xs : List ℕ). ELF_TAG ∷ xs) (p ∙ ap (λ (xs : List ℕ). ident_bytes ident ++ xs) q ∙ sym (append_assoc (ident_bytes ident) (sources_bytes sources) rest))

as_elf : (tag : ℕ) (bytes : List ℕ) (r : Reading) (rest : List ℕ) → AreBytes bytes → tag ≡ ELF_TAG → elf_at bytes ≡ Ok (r, rest) → IsSpelledReading r × (tag ∷ bytes ≡ reading_bytes r ++ rest)
unfolding elf_at
as_elf tag bytes r rest h t e =
    by_led _ _ _ _ e (λ ident one ident_read then.
    by_led _ _ _ _ then (λ sources two sources_read last.
    let front = ident_written bytes ident one ident_read in
    let behind = sources_written one sources two (behind_bytes (ident_bytes ident) one (subst AreBytes front.1 h)) sources_read in
    read_as tag bytes (Elf ident sources) r two rest last (front.0, behind.0) (elf_joined bytes one two tag ident sources t front.1 behind.1)))

reading_from : (tag : ℕ) (bytes : List ℕ) (r : Reading) (rest : List ℕ) → AreBytes bytes → tagged_at tag bytes ≡ Ok (r, rest) → IsSpelledReading r × (tag ∷ bytes ≡ reading_bytes r ++ rest)
unfolding tagged_at plain_at elf_at
reading_from tag bytes r rest h e =
    elim (by_tag (tag == PLAIN_TAG) (tag == ELF_TAG) (plain_at bytes) (elf_at bytes) (r, rest) e)
    [ inl k ↦ as_plain tag bytes r rest (eqb-true tag PLAIN_TAG k.0) k.1 | inr k ↦ as_elf tag bytes r rest h (eqb-true tag ELF_TAG k.0) k.1 ]

-- what stands behind each tag
pub plain_read : (tag : ℕ) (bytes : List ℕ) → tag ≡ PLAIN_TAG → tagged_at tag bytes ≡ and_then {Y = Reading × List ℕ} (why_at bytes) (λ why rest. Ok (Plain why, rest))
unfolding tagged_at
plain_read tag bytes t = subst (λ (n : ℕ). tagged_at n bytes ≡ and_then {Y = Reading × List ℕ} (why_at bytes) (λ why rest. Ok (Plain why, rest))) (sym t) refl

pub elf_read : (tag : ℕ) (bytes : List ℕ) → tag ≡ ELF_TAG → tagged_at tag bytes ≡ and_then {Y = Reading × List ℕ} (ident_at bytes) (λ ident rest. and_then {Y = Reading × List ℕ} (sources_at rest) (λ sources rest. Ok (Elf ident sources, rest)))
unfolding tagged_at
elf_read tag bytes t =
    subst (λ (n : ℕ). tagged_at n bytes ≡ and_then {Y = Reading × List ℕ} (ident_at bytes) (λ ident rest. and_then {Y = Reading × List ℕ} (sources_at rest) (λ sources rest. Ok (Elf ident sources, rest)))) (sym t) refl

pub none_read : (tag : ℕ) (bytes : List ℕ) → (tag ≡ PLAIN_TAG → ⊥) → (tag ≡ ELF_TAG → ⊥) → tagged_at tag bytes ≡ Err BadTag
unfolding tagged_at plain_at elf_at
none_read tag bytes p q =
    neither (tag == PLAIN_TAG) (tag == ELF_TAG) (plain_at bytes) (elf_at bytes) (false_from_ne_true (tag == PLAIN_TAG) (λ h. p (eqb-true tag PLAIN_TAG h))) (false_from_ne_true (tag == ELF_TAG) (λ h. q (eqb-true tag ELF_TAG h)))
  where
    neither : (b c : Bool) (x y : Result (Reading × List ℕ) CodecFault) → b ≡ false → c ≡ false → cond b x (cond c y (Err BadTag)) ≡ Err BadTag
    neither b c x y p q = rw (p, q) refl

reading_written : (bytes : List ℕ) (r : Reading) (rest : List ℕ) → AreBytes bytes → reading_at bytes ≡ Ok (r, rest) → IsSpelledReading r × (bytes ≡ reading_bytes r ++ rest)
unfolding reading_at
reading_written bytes r rest h e =
    by_led _ _ _ _ e (λ tag one read then.
    let byte = byte_written bytes tag one read in
    let behind = reading_from tag one r rest (behind_bytes (tag ∷ []) one (subst AreBytes byte h)) then in
    (behind.0, byte ∙ behind.1))

reading_read : (r : Reading) (rest : List ℕ) → IsSpelledReading r → reading_at (reading_bytes r ++ rest) ≡ Ok (r, rest)
unfolding reading_at tagged_at
reading_read (Plain why) rest h =
    leads _ _ _ _ _ (byte_read PLAIN_TAG (why_byte why ∷ rest)) (leads _ _ _ _ _ (why_read why rest) refl)
reading_read (Elf ident sources) rest h =
    leads _ _ _ _ _ (byte_read ELF_TAG ((ident_bytes ident ++ sources_bytes sources) ++ rest))
    (leads _ _ _ _ _ (ap ident_at (append_assoc (ident_bytes ident) (sources_bytes sources) rest) ∙ ident_read ident (sources_bytes sources ++ rest) h.0) (leads _ _ _ _ _ (sources_read sources rest h.1) refl))

-- a path has its text
pub path_has_text : (bytes path rest : List ℕ) → path_at bytes ≡ Ok (path, rest) → IsOk (text_in_front bytes)
unfolding path_at
path_has_text bytes path rest e =
    let one = led _ _ _ e in subst IsOk (sym one.read) refl

-- an edition, and the text of a path
pub has_path : (bytes : List ℕ) (edition : ℕ) (rest : List ℕ) → edition_at bytes ≡ Ok (edition, rest) → IsOk (text_in_front rest) → HasPathInFront bytes
unfolding HasPathInFront
has_path bytes edition rest e text = subst IsOk (sym (leads _ _ _ _ _ e refl)) text

-- rows
pub not_ended : (row : RowFacts) (rest : List ℕ) → (rest ≡ [] → ⊥) → row_at_end row rest ≡ Err Trailing
not_ended row [] h = absurd (h refl)
not_ended row (b ∷ rest) h = refl

-- a row of its parts
abbrev pub rows_from : ℕ → List ℕ → StampFacts → Reading → RowFacts
rows_from edition path stamp reading = record { name = record { path = path; stamp = stamp }; edition = edition; reading = reading }

ended : (row other : RowFacts) (rest : List ℕ) → row_at_end row rest ≡ Ok other → (row ≡ other) × (rest ≡ [])
ended row other [] h = (cc, refl)
ended row other (b ∷ rest) h =
    let none : ⊥ = cc in absurd none

-- an edition is a byte that isn't 0
edition_written : (bytes : List ℕ) (edition : ℕ) (rest : List ℕ) → edition_at bytes ≡ Ok (edition, rest) → (1 ≤ edition) × (bytes ≡ edition ∷ rest)
unfolding edition_at
edition_written bytes edition rest e =
    by_led _ _ _ _ e (λ n one read then.
    let passed = test_passed (nat_lt 0 n) n edition one rest BadTag then in
    (subst (λ (k : ℕ). 1 ≤ k) passed.1 (ltb-true 0 n passed.0), byte_written bytes n one read ∙ ap (λ (k : ℕ). k ∷ one) passed.1 ∙ ap (λ (xs : List ℕ). edition ∷ xs) passed.2))

-- the parts of a row, one behind the other
row_joined : (bytes one two three four path : List ℕ) (edition : ℕ) (stamp : StampFacts) (reading : Reading) → bytes ≡ edition ∷ one → one ≡ spelled_text path ++ two → two ≡ stamp_bytes stamp ++ three → three ≡ reading_bytes reading ++ four → four ≡ [] → bytes ≡ edition ∷ (spelled_text path ++ stamp_bytes stamp ++ reading_bytes reading)
row_joined bytes one two three four path edition stamp reading p q r s t =
    p
    ∙ ap (λ (xs : List ℕ). edition ∷ xs)
    (q ∙ ap (λ (xs : List ℕ). spelled_text path ++ xs) (r ∙ ap (λ (xs : List ℕ). stamp_bytes stamp ++ xs) (s ∙ ap (λ (xs : List ℕ). reading_bytes reading ++ xs) t ∙ append-nil (reading_bytes reading)))
    ∙ sym (append_assoc (spelled_text path) (stamp_bytes stamp) (reading_bytes reading)))

pub row_written : (row : RowFacts) (bytes : List ℕ) → AreBytes bytes → row_of_bytes bytes ≡ Ok row → IsRowBytes row bytes
unfolding row_of_bytes
row_written row bytes h e =
    by_led _ _ _ _ e (λ edition one edition_read then_path.
    by_led _ _ _ _ then_path (λ path two path_is then_stamp.
    by_led _ _ _ _ then_stamp (λ stamp three stamp_is then_reading.
    by_led _ _ _ _ then_reading (λ reading four reading_is last.
    let first = edition_written bytes edition one edition_read in
    let h_one = behind_bytes (edition ∷ []) one (subst AreBytes first.1 h) in
    let second = path_written one path two h_one path_is in
    let h_two = behind_bytes (spelled_text path) two (subst AreBytes second.1 h_one) in
    let third = stamp_written two stamp three h_two stamp_is in
    let h_three = behind_bytes (stamp_bytes stamp) three (subst AreBytes third.1 h_two) in
    let fourth = reading_written three reading four h_three reading_is in
    let end = ended (rows_from edition path stamp reading) row four last in
    subst (λ (r : RowFacts). IsRowBytes r bytes) end.0
    (record {
      spelled = record { least = first.0; most = subst AreBytes first.1 h 0; path = second.0; stamp = third.0; reading = fourth.0 };
      written = row_joined bytes one two three four path edition stamp reading first.1 second.1 third.1 fourth.1 end.1;
    })))))

pub row_read : (row : RowFacts) (bytes : List ℕ) → IsRowBytes row bytes → row_of_bytes bytes ≡ Ok row
unfolding row_of_bytes edition_at
row_read row bytes h =
    let s = h.spelled in
    let text = spelled_text row.name.path in
    let stamp = stamp_bytes row.name.stamp in
    let reading = reading_bytes row.reading in
    let grouped : bytes ≡ row.edition ∷ (text ++ (stamp ++ (reading ++ []))) =
    h.written ∙ ap (λ (xs : List ℕ). row.edition ∷ xs) (append_assoc text stamp reading ∙ ap (λ (xs : List ℕ). text ++ (stamp ++ xs)) (sym (append-nil reading))) in
    ap row_of_bytes grouped
    ∙ leads _ _ _ _ _ (leads _ _ _ _ _ (byte_read row.edition (text ++ (stamp ++ (reading ++ [])))) (passes_test (nat_lt 0 row.edition) row.edition (text ++ (stamp ++ (reading ++ []))) BadTag (lt-ltb 0 row.edition s.least)))
    (leads _ _ _ _ _ (path_read row.name.path (stamp ++ (reading ++ [])) s.path)
    (leads _ _ _ _ _ (stamp_read row.name.stamp (reading ++ []) s.stamp) (leads _ _ _ _ _ (reading_read row.reading [] s.reading) refl)))

-- no bytes spell two rows
pub one_row : (a b : RowFacts) (bytes : List ℕ) → IsRowBytes a bytes → IsRowBytes b bytes → a ≡ b
one_row a b bytes p q =
    let both : Ok a ≡ Ok b = sym (row_read a bytes p) ∙ row_read b bytes q in cc
