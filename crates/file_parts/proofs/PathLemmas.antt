-- What the opening of the file at a path and the reads behind it say together.
use Rattle.std.proofs.Common.{◌≡◌, ℕ, Bool, List, [], refl, sym, ◌∙◌, ap, subst, arith}
use Rattle.std.specs.Prelude.{IsTrue}
use Rattle.std.proofs.lemmas.List.{append-nil}
use Rattle.std.proofs.lemmas.List.Elements.{All-nil}
use Rattle.file_formats.specs.Windows.{Range}
use Rattle.file_picture.specs.Picture.{PictureFacts}
use Rattle.row_types.specs.Name.{NameFacts}
use Rattle.row_types.specs.Stamp.{StampFacts}
use Rattle.row_types.specs.declared.limits.TheConstants.{FILE_LIMIT}
use Rattle.tree_trait.specs.Asks.{AsksTree}
use Rattle.tree_trait.specs.Fills.{IsReadAmong, IsReadOfFile}
use Rattle.tree_trait.specs.Found.{Versions}
use Rattle.tree_trait.specs.Heard.{Heard, open_file, call_failed}
use Rattle.tree_trait.specs.Listens.{Listens, heard_or_none}
use Rattle.tree_trait.specs.Open.{OpenFacts, was_opened}
use Rattle.tree_trait.specs.Opened.{HoldsPicture, OpenedFacts, opened_name}
use Rattle.tree_trait.specs.Shown.{ShownTree}
use Rattle.tree_trait.specs.declared.filling.FillAnswer.{FillAnswer}
use Rattle.tree_trait.specs.declared.filling.FillAnswer.TheVariants.{Done, Failed, OutOfMemory}
use Rattle.tree_trait.proofs.FillLemmas.{listens_reads, reads_none}
use Rattle.tree_trait.proofs.ListenLemmas.{listens_one, listens_then, stays_on}
use Rattle.file_parts.specs.AtPath.{AsksOpening, IsSeenAs, IsSeenWhole, OpeningGives, ReadsRanges, SeesAtPath, SeesOpened}
use Rattle.file_parts.specs.AtPath.{file_failed, stamped_name, seen_answer}
use Rattle.file_parts.specs.Wholes.{FillsWhole, IsReadWhole}
use Rattle.file_parts.specs.declared.seen.FileSeen.{FileSeen}
use Rattle.file_parts.specs.declared.seen.FileSeen.TheVariants as seen

-- memory was refused before a read
pub sees_nothing : {W F : Type 0} {name_of : F → NameFacts} {Of : List ℕ → Range → Type 0} {told : Bool} {version : Versions}
    {path : List ℕ} {stamp : StampFacts} {hand : ShownTree}
    → SeesOpened {W = W} {F = F} name_of Of told version path stamp hand hand seen.OutOfMemory
sees_nothing {Of = Of} {path = path} {stamp = stamp} = record {
  reads = [];
  hears = reads_none;
  own = All-nil (IsReadOfFile (stamped_name path stamp));
  ranges = λ b h. All-nil (IsReadAmong (stamped_name path stamp) (Of b));
  gives = refl;
  whole = tt;
  rose = λ is. absurd (cc);
  named = tt;
}

module _ {W F : Type 0} {name_of : F → NameFacts} {Of : List ℕ → Range → Type 0} {told : Bool} {version : Versions}
    {path : List ℕ} {stamp : StampFacts} {before after : ShownTree} {own : NameFacts} (same : own ≡ stamped_name path stamp) where
  -- all was read
  pub sees_read : (opened : OpenedFacts F) {end : FillAnswer} → opened_name opened ≡ own
      → name_of opened.file ≡ opened_name opened → HoldsPicture version opened.path opened.stamp opened.picture
      → FillsWhole Of told version own before after opened.picture end → end ≡ Done
      → SeesOpened {W = W} {F = F} name_of Of told version path stamp before after (seen.Read opened)
  sees_read opened {end} named file holds fills is =
      let all : FillsWhole Of told version (stamped_name path stamp) before after opened.picture end =
      subst (λ (n : NameFacts). FillsWhole Of told version n before after opened.picture end) same fills in
      let whole : IsReadWhole Of stamp.size all.reads opened.picture = all.done is in
      let stamped : opened.stamp ≡ stamp = ap (λ (n : NameFacts). n.stamp) (named ∙ same) in
      record {
        reads = all.reads;
        hears = all.hears;
        own = all.own;
        ranges = all.ranges;
        gives = (
          stamped,
          refl,
          record {
            bytes = holds.seen.bytes;
            known = subst (λ (n : NameFacts). version n.path n.stamp holds.seen.bytes) (named ∙ same) holds.seen.known;
            has = whole.has holds.seen.bytes holds.seen.agrees;
          },
          all.filled is,
        );
        whole = subst (λ (t : StampFacts). IsReadWhole Of t.size all.reads opened.picture) (sym stamped) whole;
        rose = λ never. absurd (cc);
        named = (file, ap (λ (n : NameFacts). n.path) (named ∙ same));
      }

  -- a read failed
  pub sees_failed : {now : PictureFacts} {end : FillAnswer} → FillsWhole Of told version own before after now end → end ≡ Failed
      → SeesOpened {W = W} {F = F} name_of Of told version path stamp before after seen.Failed
  sees_failed {now} {end} fills is =
      let all : FillsWhole Of told version (stamped_name path stamp) before after now end =
      subst (λ (n : NameFacts). FillsWhole Of told version n before after now end) same fills in
      record {
        reads = all.reads;
        hears = all.hears;
        own = all.own;
        ranges = all.ranges;
        gives = all.failed is;
        whole = tt;
        rose = λ _. all.rose is;
        named = tt;
      }

  -- memory was refused
  pub sees_wanting : {now : PictureFacts} {end : FillAnswer} → FillsWhole Of told version own before after now end → end ≡ OutOfMemory
      → SeesOpened {W = W} {F = F} name_of Of told version path stamp before after seen.OutOfMemory
  sees_wanting {now} {end} fills is =
      let all : FillsWhole Of told version (stamped_name path stamp) before after now end =
      subst (λ (n : NameFacts). FillsWhole Of told version n before after now end) same fills in
      record {
        reads = all.reads;
        hears = all.hears;
        own = all.own;
        ranges = all.ranges;
        gives = all.wanting is;
        whole = tt;
        rose = λ is. absurd (cc);
        named = tt;
      }

-- what was found failed where its answer did
pub answer_failed : {W F : Type 0} (found : FileSeen W F) (reads : List Heard) → seen_answer found reads ≡ file_failed
    → found ≡ seen.Failed
answer_failed (seen.Read opened) reads is = absurd (cc)
answer_failed (seen.TooLarge stamp) reads is = absurd (cc)
answer_failed seen.Gone reads is = absurd (cc)
answer_failed seen.Failed reads is = refl
answer_failed seen.OutOfMemory reads is = absurd (cc)

-- the file was opened, and read
pub path_opened : {W F : Type 0} {name_of : F → NameFacts} {Of : List ℕ → Range → Type 0} {told : Bool} {version : Versions}
    {path : List ℕ} {stamp : StampFacts} {before mid after : ShownTree} (found : FileSeen W F)
    → AsksTree told version before mid (open_file path FILE_LIMIT (was_opened stamp))
    → SeesOpened name_of Of told version path stamp mid after found
    → SeesAtPath name_of Of told version path before after found
path_opened {path = path} {stamp} found asks sees = record {
  reads = sees.reads;
  asks = record {
    opening = was_opened stamp;
    reads = sees.reads;
    listens = listens_then (listens_one (open_file path FILE_LIMIT (was_opened stamp)) asks)
        (listens_reads (stamped_name path stamp) sees.hears sees.own);
    alone = tt;
    hands = record {
      cause = record {
        later = let a = asks.hands.cause.later in let b = sees.hears.hand.cause.later in omega (arith, a, b);
        rose = λ is.
            let later = asks.hands.cause.later in
            let rose = sees.rose (answer_failed found sees.reads is) in
            omega (arith, later, rose);
      };
      known = λ t asked. sees.hears.hand.keeps t (asks.hands.known t asked);
      keeps = λ t known. sees.hears.hand.keeps t (asks.hands.keeps t known);
      still = stays_on asks.hands.still sees.hears.hand.still;
    };
    ranges = (sees.own, sees.ranges);
    gives = sees.gives;
  };
  whole = sees.whole;
  named = sees.named;
}

-- only the opening was asked
pub path_alone : {W F : Type 0} {name_of : F → NameFacts} (Of : List ℕ → Range → Type 0) {told : Bool} {version : Versions}
    {path : List ℕ} {before after : ShownTree} (opening : OpenFacts) (found : FileSeen W F)
    → AsksTree told version before after (open_file path FILE_LIMIT opening) → ReadsRanges Of path opening []
    → OpeningGives version path opening [] (seen_answer found []) → IsSeenWhole Of found [] → IsSeenAs name_of path found
    → AsksOpening told version before after path opening
    → (seen_answer found [] ≡ file_failed → IsTrue (call_failed (open_file path FILE_LIMIT opening)))
    → SeesAtPath name_of Of told version path before after found
path_alone Of {told} {version} {path} {before} {after} opening found asks ranges gives whole named alone fails = record {
  reads = [];
  asks = record {
    opening = opening;
    reads = [];
    listens = subst (Listens told version before after) (sym (append-nil (heard_or_none (open_file path FILE_LIMIT opening))))
        (listens_one (open_file path FILE_LIMIT opening) asks);
    alone = alone;
    hands = record {
      cause = record { later = asks.hands.cause.later; rose = λ is. asks.hands.cause.rose (fails is) };
      known = asks.hands.known;
      keeps = asks.hands.keeps;
      still = asks.hands.still;
    };
    ranges = ranges;
    gives = gives;
  };
  whole = whole;
  named = named;
}
