-- What is printed reads back.
use Rattle.std.proofs.Common.{◌≡◌, ◌≢◌, ℕ, ◌<◌, ◌*◌, ◌/◌, true, false, List, [], ◌∷◌, ◌++◌, All, Ok, length, get_or, refl, sym, ap, subst, ◌∙◌, arith, codes}
use Rattle.std.specs.Prelude.{◌==◌, fold, nat_lt}
use Rattle.std.specs.List.{AllPass, list_all}
use Rattle.std.specs.Str.{IsAscii, IsUtf8}
use Rattle.std.proofs.lemmas.Bool.{ltb-true}
use Rattle.std.proofs.lemmas.List.Elements.{All-weaker}
use Rattle.std.proofs.lemmas.List.Folds.{list_any-append, list_any_none}
use Rattle.std.proofs.lemmas.List.Sums.{AllPass-from_list_all}
use Rattle.std.proofs.lemmas.Str.{IsUtf8-append, IsUtf8-from_ascii}
use Rattle.std.proofs.lemmas.Str.Ascii.{IsAscii-from_all}
use Rattle.hex.specs.Hex.{IsBytes, encode_lower, is_hex_digit, lower_digits}
use Rattle.hex.proofs.HexLemmas.{IsAscii-encode_with, decode_of-encode_lower, decode_of-ok, length-encode_with}
use Rattle.percent_encoding.specs.Percent.{percent_decode, percent_encode}
use Rattle.percent_encoding.proofs.PercentLemmas.{round_trip}
use Rattle.row_types.specs.Absolute.{is_absolute}
use Rattle.row_types.specs.BuildId.{IsIdLength, IsIdText}
use Rattle.row_types.specs.Canon.{IsCanonical, keep, path_of_kept as joined_path, pieces}
use Rattle.row_types.specs.declared.limits.TheConstants.{SEPARATOR}
use Rattle.webapi_routes.specs.Routes.{IsShort, route_of}
use Rattle.webapi_routes.specs.Printed.{AreParts, CanBeAsked, IsIdBytes, IsRouteText, IsSourcePath, escaped_target, id_path, route_text}
use Rattle.webapi_routes.specs.Targets.{IsTextOf, PathSays, TargetSays, TextSays}
use Rattle.webapi_routes.specs.Path.{holds_zero, before_query}
use Rattle.webapi_routes.specs.Written.{IsWantedValid, Wanted, debuginfo, executable, metrics_path, section, source, wanted_text}
use Rattle.webapi_routes.specs.declared.printing.TheConstants.{ESCAPED}
use Rattle.webapi_routes.specs.declared.route.Route.{Route}
use Rattle.webapi_routes.specs.declared.route.Route.TheVariants.{Debuginfo, Executable, Source, Section, Metrics}
use Rattle.webapi_routes.proofs.Escapes.{all_path, escaped_is, escapes_whole, no_query, not_same}

-- bytes that a literal shows to be ASCII
All-below_test : (bytes : List ℕ) → list_all (λ b. nat_lt b 128) bytes ≡ true → All (λ b. b < 128) bytes
All-below_test bytes test =
    All-weaker (λ b. nat_lt b 128 ≡ true) (λ b. b < 128) (λ b small. ltb-true b 128 small) bytes (AllPass-from_list_all (λ b. nat_lt b 128) bytes test)

literal_utf8 : (bytes : List ℕ) → list_all (λ b. nat_lt b 128) bytes ≡ true → IsUtf8 bytes
literal_utf8 bytes test = IsUtf8-from_ascii bytes (IsAscii-from_all bytes (All-below_test bytes test))

path_begins : (kept : List (List ℕ)) → is_absolute (joined_path kept) ≡ true
path_begins [] = refl
path_begins (piece ∷ rest) = refl

-- the digits of an id
id_digits : (id : List ℕ) → IsBytes id → AllPass is_hex_digit (encode_lower id)
id_digits id small = (decode_of-ok (encode_lower id) id (decode_of-encode_lower id small)).1

no_slash_digit : (c : ℕ) → is_hex_digit c ≡ true → c ≢ SEPARATOR
no_slash_digit c digit e = absurd (cc digit)

no_zero_digit : (c : ℕ) → is_hex_digit c ≡ true → (c == 0) ≡ false
no_zero_digit c digit = not_same c 0 (λ e. absurd (cc digit))

ascii_digits : IsAscii lower_digits
ascii_digits = IsAscii-from_all lower_digits (All-below_test lower_digits refl)

-- the text of an id is one
id_text : (id : List ℕ) → IsBytes id → IsIdLength (length id) → IsIdText (encode_lower id)
id_text id small sized =
    let twice : length (encode_lower id) ≡ 2 * length id = length-encode_with lower_digits id in
    let half : length (encode_lower id) / 2 ≡ length id = omega (arith, twice) in record {
      even = omega (arith, twice);
      sized = subst IsIdLength (sym half) sized;
      digits = id_digits id small;
    }

-- a text of three parts is UTF-8, and holds no zero, where they are so
utf8_parts : (front id behind : List ℕ) → IsUtf8 front → IsUtf8 id → IsUtf8 behind → IsUtf8 (front ++ (id ++ behind))
utf8_parts front id behind f i b = IsUtf8-append front (id ++ behind) f (IsUtf8-append id behind i b)

no_zero_parts : (front id behind : List ℕ) → holds_zero front ≡ false → holds_zero id ≡ false → holds_zero behind ≡ false
    → holds_zero (front ++ (id ++ behind)) ≡ false
no_zero_parts front id behind f i b =
    list_any-append (λ n. n == 0) front (id ++ behind)
    ∙ rw (f, list_any-append (λ n. n == 0) id behind, i, b) refl

-- what is asked of an id can be asked by a target
abbrev IsAskable : Wanted → Type 0
IsAskable (source path) = IsSourcePath path × (holds_zero path ≡ false)
IsAskable (section name) = IsUtf8 name × (0 < length name) × (holds_zero name ≡ false)
IsAskable _ = Unit {0}

wanted_utf8 : (wanted : Wanted) → IsAskable wanted → IsUtf8 (SEPARATOR ∷ wanted_text wanted)
wanted_utf8 debuginfo asked = literal_utf8 (codes "/debuginfo") refl
wanted_utf8 executable asked = literal_utf8 (codes "/executable") refl
wanted_utf8 (source path) asked = IsUtf8-append (codes "/source") path (literal_utf8 (codes "/source") refl) asked.0.utf8
wanted_utf8 (section name) asked = IsUtf8-append (codes "/section/") name (literal_utf8 (codes "/section/") refl) asked.0

wanted_no_zero : (wanted : Wanted) → IsAskable wanted → holds_zero (SEPARATOR ∷ wanted_text wanted) ≡ false
wanted_no_zero debuginfo asked = refl
wanted_no_zero executable asked = refl
wanted_no_zero (source path) asked = list_any-append (λ n. n == 0) (codes "/source") path ∙ asked.1
wanted_no_zero (section name) asked = list_any-append (λ n. n == 0) (codes "/section/") name ∙ asked.2

-- a canonical path begins with a slash
absolute_path : (path : List ℕ) → IsCanonical path → is_absolute path ≡ true
absolute_path path same = subst (λ p. is_absolute p ≡ true) same (path_begins (fold keep [] (pieces path)))

wanted_valid : (wanted : Wanted) → IsAskable wanted → IsWantedValid wanted
wanted_valid debuginfo asked = tt
wanted_valid executable asked = tt
wanted_valid (source path) asked = absolute_path path asked.0.canon.canonical
wanted_valid (section name) asked = asked.1

wanted_short : (wanted : Wanted) → IsAskable wanted → IsShort wanted
wanted_short debuginfo asked = tt
wanted_short executable asked = tt
wanted_short (source path) asked = asked.0.canon.short
wanted_short (section name) asked = tt

-- a text is that of a route, is UTF-8 and holds no zero
record IsReadAs (route : Route) (text : List ℕ) : Type 0 where
  pub says : TextSays text (Ok route)
  pub utf8 : IsUtf8 text
  pub no_zero : holds_zero text ≡ false

-- the text of a route of an id is the route's
text_is : (id : List ℕ) (wanted : Wanted) (route : Route) → route ≡ route_of id wanted → IsIdBytes id → IsAskable wanted
    → IsTextOf (id_path id (wanted_text wanted)) route
text_is id wanted route value known asked = record {
  hex = encode_lower id;
  wanted = wanted;
  id = id;
  written = record {
    whole = refl;
    one_piece = All-weaker (λ c. is_hex_digit c ≡ true) (λ c. c ≢ SEPARATOR) no_slash_digit (encode_lower id) (id_digits id known.small);
    valid = wanted_valid wanted asked;
  };
  digits = id_text id known.small known.sized;
  bytes = decode_of-encode_lower id known.small;
  short = wanted_short wanted asked;
  value = value;
}

text_utf8 : (id : List ℕ) (wanted : Wanted) → IsAskable wanted → IsUtf8 (id_path id (wanted_text wanted))
text_utf8 id wanted asked =
    utf8_parts (codes "/buildid/") (encode_lower id) (SEPARATOR ∷ wanted_text wanted)
    (literal_utf8 (codes "/buildid/") refl)
    (IsUtf8-from_ascii (encode_lower id) (IsAscii-encode_with lower_digits id ascii_digits))
    (wanted_utf8 wanted asked)

text_no_zero : (id : List ℕ) (wanted : Wanted) → IsBytes id → IsAskable wanted → holds_zero (id_path id (wanted_text wanted)) ≡ false
text_no_zero id wanted small asked =
    no_zero_parts (codes "/buildid/") (encode_lower id) (SEPARATOR ∷ wanted_text wanted)
    refl
    (list_any_none (λ n. n == 0) (encode_lower id) (All-weaker (λ c. is_hex_digit c ≡ true) (λ c. (c == 0) ≡ false) no_zero_digit (encode_lower id) (id_digits id small)))
    (wanted_no_zero wanted asked)

-- the path of an id isn't that of the counters
id_path_other : (id behind : List ℕ) → id_path id behind ≡ metrics_path → ⊥
id_path_other id behind e = absurd (omega (arith, ap (λ l. get_or l 1 0) e))

-- the text of each route is read as that route
route_is : (route : Route) → AreParts route → CanBeAsked route → IsReadAs route (route_text route)
unfolding route_text
route_is (Debuginfo id) known asked = record {
  says = (id_path_other id (wanted_text debuginfo), text_is id debuginfo (Debuginfo id) refl known tt);
  utf8 = text_utf8 id debuginfo tt;
  no_zero = text_no_zero id debuginfo known.small tt;
}
route_is (Executable id) known asked = record {
  says = (id_path_other id (wanted_text executable), text_is id executable (Executable id) refl known tt);
  utf8 = text_utf8 id executable tt;
  no_zero = text_no_zero id executable known.small tt;
}
route_is (Source id path) known asked = record {
  says = (
    id_path_other id (wanted_text (source path)),
    text_is id (source path) (Source id path) (ap (Source id) (sym known.1.canon.canonical)) known.0 (known.1, asked),
  );
  utf8 = text_utf8 id (source path) (known.1, asked);
  no_zero = text_no_zero id (source path) known.0.small (known.1, asked);
}
route_is (Section id name) known asked = record {
  says = (id_path_other id (wanted_text (section name)), text_is id (section name) (Section id name) refl known asked);
  utf8 = text_utf8 id (section name) asked;
  no_zero = text_no_zero id (section name) known.small asked;
}
route_is Metrics known asked = record { says = refl; utf8 = literal_utf8 metrics_path refl; no_zero = refl }

-- what an encoding says, of a text that is read back
encoded_says : (text : List ℕ) {route : Route} → All (λ b. b < 256) text → IsReadAs route text
    → TargetSays (percent_encode ESCAPED text) (Ok route)
encoded_says text {route} small is =
    let back : percent_decode (percent_encode ESCAPED text) ≡ text = round_trip ESCAPED text refl small in
    let path : before_query (percent_encode ESCAPED text) ≡ percent_encode ESCAPED text = all_path (percent_encode ESCAPED text) (no_query text) in
    subst (λ p. PathSays p (Ok route)) (sym path) (
      record {
        escapes = escapes_whole text;
        utf8 = subst IsUtf8 (sym back) is.utf8;
        no_zero = ap holds_zero back ∙ is.no_zero;
      },
      subst (λ t. TextSays t (Ok route)) (sym back) is.says,
    )

-- the target of a route says the route
pub printed_says : (route : Route) {bytes target : List ℕ} → IsRouteText route bytes → All (λ b. b < 256) bytes → target ≡ escaped_target bytes
    → CanBeAsked route → TargetSays target (Ok route)
printed_says route {bytes} {target} writes small printed asked =
    let says : TargetSays (percent_encode ESCAPED bytes) (Ok route) =
    encoded_says bytes small (subst (IsReadAs route) (sym writes.text) (route_is route writes.parts asked)) in
    subst (λ t. TargetSays t (Ok route)) (sym (printed ∙ sym (escaped_is bytes small))) says
