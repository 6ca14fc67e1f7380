-- What is known of an open file's picture, as it is opened and as bytes are put.
use Rattle.std.proofs.Common.{◌≡◌, ℕ, ◌+◌, ◌≤◌, Bool, true, false, List, length, refl, ◌∙◌, subst, sym}
use Rattle.std.specs.Bool.{OnTrue, OnFalse}
use Rattle.std.proofs.lemmas.Bool.{OnTrue_at, OnFalse_at}
use Rattle.std.proofs.lemmas.List.Elements.{All-nil}
use Rattle.file_formats.specs.Numbers.{bytes_at}
use Rattle.file_picture.specs.Picture.{IsAdded, IsPicture, PictureFacts, piece_end}
use Rattle.file_picture.specs.Agrees.{AgreesWithPicture, filled_with_zeros}
use Rattle.file_picture.proofs.AgreeLaws.{added-agrees, filled-agrees, filled-sized}
use Rattle.row_types.specs.Stamp.{StampFacts}
use Rattle.tree_trait.specs.Found.{Versions}
use Rattle.tree_trait.specs.Opened.{HoldsPicture, IsPictureOf, unread_picture}

-- the two laws of a world
abbrev Sized : Bool → Versions → Type 0
Sized told version = told ≡ true → (path : List ℕ) (stamp : StampFacts) (b : List ℕ) → version path stamp b
    → length b ≡ stamp.size

abbrev Any : Bool → Versions → Type 0
Any told version = told ≡ false → (path : List ℕ) (stamp : StampFacts) (b : List ℕ) → length b ≡ stamp.size
    → version path stamp b

-- in a world that isn't told the filled picture is a version
seen_open : {version : Versions} → Any false version → (path : List ℕ) (stamp : StampFacts) (p : PictureFacts)
    → IsPicture p → p.size ≡ stamp.size → IsPictureOf version (record { path = path; stamp = stamp }) p
seen_open any path stamp p is sized = record {
  bytes = filled_with_zeros p;
  known = any refl path stamp (filled_with_zeros p) (filled-sized p ∙ sized);
  agrees = filled-agrees p is;
}

-- the picture of nothing
unread_is : (size : ℕ) → IsPicture (unread_picture size)
unread_is size = record { apart = tt; within = All-nil (λ q. piece_end q ≤ size) }

pub holds_new : (told : Bool) {version : Versions} → Sized told version → Any told version → (path : List ℕ)
    (stamp : StampFacts) → (b : List ℕ) × version path stamp b → HoldsPicture version path stamp (unread_picture stamp.size)
holds_new true sized any path stamp some = record {
  sized = refl;
  seen = record {
    bytes = some.0;
    known = some.1;
    agrees = record { sized = sized refl path stamp some.0 some.1; same = λ place x none. absurd (cc) };
  };
}
holds_new false sized any path stamp some = record {
  sized = refl;
  seen = seen_open any path stamp (unread_picture stamp.size) (unread_is stamp.size) refl;
}

-- bytes that are those of each version of the name were put
seen_more : (told : Bool) {version : Versions} → Any told version → (path : List ℕ) (stamp : StampFacts)
    {old new : PictureFacts} {at : ℕ} {bytes : List ℕ} → HoldsPicture version path stamp old
    → at + length bytes ≤ stamp.size
    → (told ≡ true → (b : List ℕ) → version path stamp b → bytes_at b at (length bytes) ≡ bytes)
    → IsAdded old at bytes new → IsPicture new → IsPictureOf version (record { path = path; stamp = stamp }) new
seen_more true any path stamp {at = at} {bytes = bytes} h fits own added is = record {
  bytes = h.seen.bytes;
  known = h.seen.known;
  agrees =
      added-agrees added h.seen.bytes h.seen.agrees
      (subst (λ (n : ℕ). at + length bytes ≤ n) (sym h.sized) fits) (own refl h.seen.bytes h.seen.known);
}
seen_more false any path stamp {new = new} h fits own added is = seen_open any path stamp new is (added.size ∙ h.sized)

pub holds_more : (told : Bool) {version : Versions} → Any told version → (path : List ℕ) (stamp : StampFacts)
    (old new : PictureFacts) (at : ℕ) (bytes : List ℕ) (kept : Bool) → HoldsPicture version path stamp old
    → at + length bytes ≤ stamp.size
    → (told ≡ true → (b : List ℕ) → version path stamp b → bytes_at b at (length bytes) ≡ bytes)
    → OnTrue kept (IsAdded old at bytes new) → OnFalse kept (new ≡ old) → IsPicture new
    → HoldsPicture version path stamp new
holds_more told any path stamp old new at bytes true h fits own added same is =
    let put : IsAdded old at bytes new = OnTrue_at refl added in
    record {
      sized = put.size ∙ h.sized;
      seen = seen_more told any path stamp h fits own put is;
    }
holds_more told {version} any path stamp old new at bytes false h fits own added same is =
    subst (HoldsPicture version path stamp) (sym (OnFalse_at refl same)) h

-- in a told world the picture agrees with the version of its name
pub told_agrees : {version : Versions} (path : List ℕ) (stamp : StampFacts) (p : PictureFacts)
    → ((a b : List ℕ) → version path stamp a → version path stamp b → a ≡ b) → HoldsPicture version path stamp p
    → (b : List ℕ) → version path stamp b → AgreesWithPicture b p
told_agrees path stamp p one h b known =
    subst (λ (a : List ℕ). AgreesWithPicture a p) (one h.seen.bytes b h.seen.known known) h.seen.agrees
