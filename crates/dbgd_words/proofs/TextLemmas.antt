-- Texts that are no id or no number, folders that have a path, and the texts of arguments.
use Rattle.std.proofs.Common.{rules, ◌≡◌, ◌<◌, ◌≤◌, ◌&&◌, ◌∙◌, ◌*◌, ◌/◌, ◌^◌, ℕ, Bool, true, false, cond, List, [], ◌∷◌, length, Option, Some, None, Result, Ok, Err, refl, sym, ap, subst, arith, option_map, map}
use Rattle.std.specs.Prelude.{nat_le}
use Rattle.std.specs.Borrow.{Bor}
use Rattle.std.specs.Char.{is_ascii_digit}
use Rattle.std.specs.List.{list_all}
use Rattle.std.specs.Option.{option_map_or}
use Rattle.std.specs.Str.Parse.{ParsesUnsigned, digits_value}
use Rattle.std.proofs.lemmas.Bool.{and_parts, leb-true}
use Rattle.std.proofs.lemmas.List.Folds.{list_all-map}
use Rattle.std.proofs.lemmas.Str.Parse.{IsNumeralModel, numerals_by_value, parse_digits}
use Rattle.clap.specs.Matches.{first_value, matched_of, raw_values}
use Rattle.clap.specs.Walk.{all_of, first_of, rows_of}
use Rattle.clap.specs.declared.parser.matches.Found.{Found}
use Rattle.clap.proofs.WalkLemmas.{first_value-rows, raw_values-rows}
use Rattle.hex.specs.Hex.{decode_of}
use Rattle.hex.specs.declared.error.FromHexError.{FromHexError}
use Rattle.hex.proofs.HexLemmas.{decode_of-ok}
use Rattle.row_types.specs.Canon.{canon}
use Rattle.row_types.specs.BuildId.{IsIdLength, IsIdText}
use Rattle.row_types.specs.declared.build_id.TheConstants.{SHORTEST_ID, LONGEST_ID}
use Rattle.dbgd_words.specs.Numbers.{is_number, is_between, spelled_number}
use Rattle.dbgd_words.specs.Patterns.{PatternTexts}
use Rattle.dbgd_words.specs.Words.{Line, asks_scan, is_root, of_id_length, scan_asked, unreadable}
use Rattle.dbgd_words.specs.declared.number.TheConstants.{MOST_DIGITS}
use Rattle.dbgd_words.specs.declared.scan.TheConstants.{MOST_WORKERS}

-- the first text of an argument, and all of them
pub first_text : (f : Found) (id : List ℕ) → first_value f id ≡ first_of id (rows_of f)
first_text f id = first_value-rows f id

pub all_texts : (f : Found) (id : List ℕ) → option_map raw_values (matched_of f id) ≡ all_of id (rows_of f)
all_texts f id = raw_values-rows f id

own : IsNumeralModel (λ ds. list_all is_ascii_digit ds ≡ true) (digits_value 10)
own = numerals_by_value _ (search rules)

and_false : (a b : Bool) → b ≡ false → (a && b) ≡ false
and_false true b e = e
and_false false b e = refl

-- a number that no `u64` has is above any that one has
pub too_large : {E : Type 0} (least most : ℕ) (text : List ℕ) (why : E) → most < 2 ^ 64 → is_number text ≡ true
    → ParsesUnsigned 64 10 text (Err why) → None ≡ spelled_number least most text
too_large {E} least most text why fits number parses = go (is_between least most (digits_value 10 text)) refl
  where
    go : (within : Bool) → is_between least most (digits_value 10 text) ≡ within → None ≡ spelled_number least most text
    go true e =
        let some = and_parts (nat_le 1 (length text)) (nat_le (length text) MOST_DIGITS && list_all is_ascii_digit text) number in
        let digits = (and_parts (nat_le (length text) MOST_DIGITS) (list_all is_ascii_digit text) some.1).1 in
        let low : 1 ≤ length text = leb-true 1 (length text) some.0 in
        let high : digits_value 10 text ≤ most
        = leb-true (digits_value 10 text) most (and_parts (nat_le least (digits_value 10 text)) (nat_le (digits_value 10 text) most) e).1 in
        absurd (parse_digits own 64 text (Err why) parses digits (omega (arith, low), omega (arith, high, fits)))
    go false e =
        sym (ap (λ b. cond b (Some (digits_value 10 text)) None) (and_false (is_number text) (is_between least most (digits_value 10 text)) e))

-- a text that is no id's spells none
pub no_id : (text : List ℕ) → (IsIdText text → ⊥) → (answer : Result (List ℕ) FromHexError) → decode_of text ≡ answer
    → None ≡ of_id_length answer
no_id text never (Err why) is = refl
no_id text never (Ok bytes) is = go (is_between SHORTEST_ID LONGEST_ID (length bytes)) refl
  where
    go : (within : Bool) → is_between SHORTEST_ID LONGEST_ID (length bytes) ≡ within → None ≡ of_id_length (Ok bytes)
    go true e =
        let ok = decode_of-ok text bytes is in
        let long : length text ≡ 2 * length bytes = ok.2 in
        let half : length bytes ≡ length text / 2 = omega (arith, long) in
        let ends = and_parts (nat_le SHORTEST_ID (length bytes)) (nat_le (length bytes) LONGEST_ID) e in
        let sized : IsIdLength (length bytes) = record {
          least = leb-true SHORTEST_ID (length bytes) ends.0;
          most = leb-true (length bytes) LONGEST_ID ends.1;
        } in
        absurd (never (record { even = ok.0; sized = subst IsIdLength half sized; digits = ok.1 }))
    go false e = sym (ap (λ b. cond b (Some bytes) None) e)

-- texts that are read one by one or all at once
pub each_root : (folders : List (Bor (List ℕ)))
    → list_all is_root (map (λ folder. folder.now) folders) ≡ list_all (λ folder. is_root folder.now) folders
each_root folders = list_all-map is_root (λ (folder : Bor (List ℕ)). folder.now) folders

pub each_path : (folders : List (Bor (List ℕ)))
    → map canon (map (λ folder. folder.now) folders) ≡ map (λ folder. canon folder.now) folders
each_path [] = refl
each_path (folder ∷ folders) = ap (λ rest. canon folder.now ∷ rest) (each_path folders)

module _ {store number : Option (List ℕ)} {patterns : PatternTexts} {folders : Option (List (List ℕ))} {file digits : List ℕ} {workers : ℕ}
    {given : PatternTexts} (roots : List (Bor (List ℕ)))
    (has_store : store ≡ Some file) (has_number : number ≡ Some digits) (has_workers : spelled_number 1 MOST_WORKERS digits ≡ Some workers)
    (has_patterns : patterns ≡ given)
    (has_folders : folders ≡ Some (map (λ root. root.now) roots)) where
  abbrev Texts : List (List ℕ)
  Texts = map (λ root. root.now) roots

  abbrev By : Bool → Line
  By test = cond test (asks_scan file workers given (map canon Texts)) unreadable

  asked : scan_asked store number patterns folders ≡ By (list_all is_root Texts)
  asked =
      (λ i. scan_asked (has_store i) (has_number i) (has_patterns i) (has_folders i))
      ∙ ap (λ w. option_map_or (λ n. cond (list_all is_root Texts) (asks_scan file n given (map canon Texts)) unreadable) w unreadable) has_workers

  -- a scan whose folders have no path each can't be read
  pub asks_nothing : list_all (λ root. is_root root.now) roots ≡ false → unreadable ≡ scan_asked store number patterns folders
  asks_nothing none = sym (asked ∙ ap By (each_root roots ∙ none))

  -- one whose folders have one is asked
  pub asks_all : list_all (λ root. is_root root.now) roots ≡ true → {paths : List (List ℕ)} → paths ≡ map (λ root. canon root.now) roots
      → asks_scan file workers given paths ≡ scan_asked store number patterns folders
  asks_all each are =
      ap (asks_scan file workers given) (are ∙ sym (each_path roots)) ∙ sym (asked ∙ ap By (each_root roots ∙ each))
