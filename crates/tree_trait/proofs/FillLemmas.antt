-- What a filling has read and put so far.
use Rattle.std.proofs.Common.{◌≡◌, ◌⊎◌, inl, inr, ℕ, ◌+◌, ◌-◌, ◌<◌, ◌≤◌, Bool, true, List, [], ◌∷◌, ◌++◌, length, take, drop}
use Rattle.std.proofs.Common.{cond, false, Some, None, refl, sym, ◌∙◌, ap, subst, append_assoc, arith}
use Rattle.std.specs.List.{All, count_by, list_any}
use Rattle.std.specs.Prelude.{is_some}
use Rattle.std.proofs.Math.Seq.{take-append_seam}
use Rattle.std.proofs.lemmas.Bool.{cases_lt}
use Rattle.std.proofs.lemmas.List.{append-nil}
use Rattle.std.proofs.lemmas.List.Elements.{All-append, All-cons, All-head, All-nil, All-tail, All-weaker}
use Rattle.std.proofs.lemmas.List.Sums.{sum_by-cons}
use Rattle.file_formats.specs.Numbers.{bytes_at}
use Rattle.file_formats.specs.Windows.{Range, range}
use Rattle.file_picture.specs.Agrees.{AgreesWithPicture}
use Rattle.file_picture.specs.Counts.{is_inside, is_known, is_known_or}
use Rattle.file_picture.specs.Picture.{PictureFacts, IsAdded, IsCovered, IsFirstGap, IsRangeFree, known_byte, sum_of}
use Rattle.file_picture.proofs.AgreeLaws.{added-agrees, added-covered, added-keeps, covered-joined, given-bytes}
use Rattle.file_picture.proofs.CountLemmas.{is_in}
use Rattle.file_picture.proofs.ReadSoFarLaws.{added-only, either-left, either-of, either-right, inside_in}
use Rattle.row_types.specs.Name.{NameFacts}
use Rattle.tree_trait.specs.Asks.{FitsAny, IsAnswerTold, ReadsOpened}
use Rattle.tree_trait.specs.Fills.{AreRunsRead, FillsRange, HasFailedLast, HasRead, HearsReads, IsReadIn, IsReadOfFile, IsRunPut, IsRunRead, RunEnds}
use Rattle.tree_trait.specs.Fills.{none_left, run_read, run_failed, no_room, not_kept}
use Rattle.tree_trait.specs.Found.{Versions}
use Rattle.tree_trait.specs.Heard.{Heard, IsNoRead, load, stat, read_dir, open_file, read_at, call_failed}
use Rattle.tree_trait.specs.Listens.{Listens, is_load, loads}
use Rattle.tree_trait.specs.Open.{RoomFacts, room_filled, room_failed}
use Rattle.tree_trait.specs.Shown.{ShownTree}
use Rattle.tree_trait.specs.declared.filling.FillAnswer.{FillAnswer}
use Rattle.tree_trait.specs.declared.filling.FillAnswer.TheVariants.{Done, Failed, OutOfMemory}
use Rattle.tree_trait.proofs.ListenLemmas.{heard_front, heard_none, lists_all, lists_both, rest_all, stays_on}

-- a vector whose whole room was written has the room's bytes
pub written : (room items : List ℕ) (len : ℕ) → length room ≡ len
    → take len (room ++ drop (length room) items) ≡ room
written room items len e =
    ap (λ (n : ℕ). take n (room ++ drop (length room) items)) (sym e) ∙ take-append_seam room (drop (length room) items)

-- ---- what the hand read

module _ {told : Bool} {version : Versions} where
  pub reads_none : {hand : ShownTree} → HearsReads told version hand hand []
  reads_none {hand} = record {
    listed = lists_all (heard_none hand.heard);
    hand = record {
      cause = record { later = omega arith; rose = λ never. absurd never };
      known = λ _ never. absurd never;
      keeps = λ _ known. known;
      still = λ still. record { still = still; same = refl };
    };
  }

  pub reads_one : {before after : ShownTree} {name : NameFacts} {at : ℕ} {answer : RoomFacts}
      → ReadsOpened told version before after (read_at name at answer)
      → HearsReads told version before after (read_at name at answer ∷ [])
  reads_one {name = name} {at} {answer} reads = record {
    listed = record {
      told = reads.listed;
      unread = λ none. absurd (All-head IsNoRead (read_at name at answer) [] none);
    };
    hand = record {
      cause = record { later = reads.hands.cause.later; rose = λ never. absurd never };
      known = λ _ never. absurd never;
      keeps = reads.hands.keeps;
      still = reads.hands.still;
    };
  }

  pub reads_then : {before mid after : ShownTree} {xs ys : List Heard} → HearsReads told version before mid xs
      → HearsReads told version mid after ys → HearsReads told version before after (xs ++ ys)
  reads_then {before} {mid} {after} {xs} {ys} p q = record {
    listed = lists_both before.heard mid.heard after.heard xs ys p.listed q.listed;
    hand = record {
      cause = record { later = omega (arith, p.hand.cause.later, q.hand.cause.later); rose = λ never. absurd never };
      known = λ _ never. absurd never;
      keeps = λ t known. q.hand.keeps t (p.hand.keeps t known);
      still = stays_on p.hand.still q.hand.still;
    };
  }

-- ---- what is known of a place on is what was known at first

abbrev SameFrom : PictureFacts → PictureFacts → ℕ → Type 0
SameFrom now old from = (place : ℕ) → from ≤ place → known_byte now place ≡ known_byte old place

covered_back : {now old : PictureFacts} (from at len : ℕ) → SameFrom now old from → now.size ≡ old.size → from ≤ at
    → IsCovered now at len → IsCovered old at len
covered_back from at len same size low c = record {
  inside = let inside = c.inside in omega (arith, inside, size);
  known = λ place above below. ap is_some (sym (same place (omega (arith, low, above)))) ∙ c.known place above below;
}

gap_back : {now old : PictureFacts} (at len from count : ℕ) → SameFrom now old at → now.size ≡ old.size
    → IsFirstGap now at len from count → IsFirstGap old at len from count
gap_back at len from count same size gap =
    let above = gap.above in
    record {
      some = gap.some;
      above = above;
      below = gap.below;
      before = covered_back at at (from - at) same size (omega arith) gap.before;
      gap = λ place low high. sym (same place (omega (arith, above, low))) ∙ gap.gap place low high;
      ends = elim gap.ends [
        | inl end ↦ inl end
        | inr known ↦ inr (ap is_some (sym (same (from + count) (omega (arith, above)))) ∙ known)
      ];
    }

-- ---- which files agree once bytes were put

none_some : {x : ℕ} → None ≡ Some x → ⊥
none_some e = absurd (cc)

-- a place whose byte was known lies outside
away : (old : PictureFacts) (at len place x : ℕ) → IsRangeFree old at len → known_byte old place ≡ Some x
    → (place < at) ⊎ (at + len ≤ place)
away old at len place x free known = of (cases_lt place at) (cases_lt place (at + len))
  where
    of : (place < at) ⊎ (at ≤ place) → (place < at + len) ⊎ (at + len ≤ place) → (place < at) ⊎ (at + len ≤ place)
    of (inl under) other = inl under
    of (inr above) (inl within) = absurd (none_some (sym (free place above within) ∙ known))
    of (inr above) (inr past) = inr past

-- each agreed before
added_less : {old new : PictureFacts} {at : ℕ} {bytes : List ℕ} → IsAdded old at bytes new → IsRangeFree old at (length bytes)
    → (b : List ℕ) → AgreesWithPicture b new → AgreesWithPicture b old
added_less {old} {at = at} {bytes = bytes} added free b f = record {
  sized = f.sized ∙ added.size;
  same = λ place x known. f.same place x (added.others place (away old at (length bytes) place x free known) ∙ known);
}

-- and has the bytes
added_bytes : {old new : PictureFacts} {at : ℕ} {bytes : List ℕ} → IsAdded old at bytes new → at + length bytes ≤ old.size
    → (b : List ℕ) → AgreesWithPicture b new → bytes_at b at (length bytes) ≡ bytes
added_bytes {new = new} {at = at} {bytes = bytes} added fits b f =
    sym (given-bytes new b at (length bytes) bytes f
    (record { inside = let size = added.size in omega (arith, size, fits); long = refl; each = added.there }))

-- ---- so far

pub record FillsSoFar (told : Bool) (version : Versions) (before after : ShownTree) (name : NameFacts) (old now : PictureFacts)
    (at len done : ℕ) : Type 0 where
  pub low : done ≤ len
  pub there : IsCovered now at done
  pub beyond : SameFrom now old (at + done)
  pub size : now.size ≡ old.size
  pub keeps : (from n : ℕ) → IsCovered old from n → IsCovered now from n
  pub only : (q : ℕ) → is_known now q ≡ true → is_known_or old at len q ≡ true
  pub sum : sum_of old.pieces ≤ sum_of now.pieces
  pub rises : (IsCovered old at done → ⊥) → sum_of old.pieces < sum_of now.pieces
  pub so_far : List Heard
  pub more : (b : List ℕ) → AgreesWithPicture b old → All (HasRead b) so_far → AgreesWithPicture b now
  pub less : (b : List ℕ) → AgreesWithPicture b now → AgreesWithPicture b old
  pub kept : (b : List ℕ) → AgreesWithPicture b now → All (HasRead b) so_far
  pub hears : HearsReads told version before after so_far
  pub runs : (end : FillAnswer) (rest : List Heard) → AreRunsRead name old (at + done) (at + len) end rest
      → AreRunsRead name old at (at + len) end (so_far ++ rest)

-- a byte that is known once a run within a range was put was known before, or lies in the range
only_more : (old now new : PictureFacts) (at len place : ℕ) (bytes : List ℕ)
    → ((q : ℕ) → is_known now q ≡ true → is_known_or old at len q ≡ true) → IsAdded now place bytes new → at ≤ place
    → place + length bytes ≤ at + len → (q : ℕ) → is_known new q ≡ true → is_known_or old at len q ≡ true
only_more old now new at len place bytes only added above below q known =
    by (either-of (is_known now q) (is_inside place (length bytes) q) (added-only now place bytes new added q known))
  where
    by : (is_known now q ≡ true) ⊎ (is_inside place (length bytes) q ≡ true) → is_known_or old at len q ≡ true
    by (inl before) = only q before
    by (inr here) =
        let within = inside_in place (length bytes) q here in
        let low = within.above in
        let high = within.below in
        either-right (is_known old q) (is_inside at len q) (is_in at len q (omega (arith, low, above)) (omega (arith, high, below)))

module _ {told : Bool} {version : Versions} {before : ShownTree} {name : NameFacts} {old : PictureFacts} {at len : ℕ} where
  pub fills_none : at ≤ old.size → FillsSoFar told version before before name old old at len 0
  fills_none fits = record {
    low = omega arith;
    there = nothing;
    beyond = λ _ _. refl;
    size = refl;
    keeps = λ _ _ c. c;
    only = λ q known. either-left (is_known old q) (is_inside at len q) known;
    sum = omega arith;
    rises = λ never. absurd (never nothing);
    so_far = [];
    more = λ b f none. f;
    less = λ b f. f;
    kept = λ b f. All-nil (HasRead b);
    hears = reads_none;
    runs = λ end rest r. subst (λ (n : ℕ). AreRunsRead name old n (at + len) end rest) (omega arith) r;
  }
    where
      nothing : IsCovered old at 0
      nothing = record {
        inside = omega (arith, fits);
        known = λ place low high. absurd (omega (arith, low, high));
      }

  gap_of : {mid : ShownTree} {now : PictureFacts} {done place count : ℕ}
      → FillsSoFar told version before mid name old now at len done
      → IsFirstGap now (at + done) (len - done) place count
      → IsFirstGap old (at + done) (at + len - (at + done)) place count
  gap_of {done = done} {place} {count} h gap =
      subst (λ (n : ℕ). IsFirstGap old (at + done) n place count) (omega (arith, h.low))
      (gap_back (at + done) (len - done) place count h.beyond h.size gap)

  -- one run more, which is the first that isn't known
  pub fills_more : {mid after : ShownTree} {now new : PictureFacts} {done place count : ℕ} {reads : List Heard}
      → at + len ≤ old.size → FillsSoFar told version before mid name old now at len done
      → IsFirstGap now (at + done) (len - done) place count → HearsReads told version mid after reads
      → IsRunPut name place count now new reads
      → FillsSoFar told version before after name old new at len (place + count - at)
  fills_more {mid} {after} {now} {new} {done} {place} {count} fits h gap hears put =
      let bytes : List ℕ = put.read.bytes in
      let long : length bytes ≡ count = put.read.long in
      let above : at + done ≤ place = gap.above in
      let below : place + count ≤ at + done + (len - done) = gap.below in
      let low : done ≤ len = h.low in
      let some : 0 < count = gap.some in
      let size : now.size ≡ old.size = h.size in
      let next : at + (place + count - at) ≡ place + length bytes = omega (arith, above, long) in
      let added : IsAdded now place bytes new = put.added in
      let summed : sum_of new.pieces ≡ sum_of now.pieces + length bytes = added.sum in
      let more : sum_of old.pieces ≤ sum_of now.pieces = h.sum in
      let gap_old : IsFirstGap old (at + done) (at + len - (at + done)) place (length bytes) =
      subst (λ (n : ℕ). IsFirstGap old (at + done) (at + len - (at + done)) place n) (sym long) (gap_of h gap) in
      let inside : place + length bytes ≤ now.size = omega (arith, fits, size, long, below, low) in
      let free : IsRangeFree now place (length bytes) = subst (λ (n : ℕ). IsRangeFree now place n) (sym long) gap.gap in
      let asked : Heard = read_at name place (room_filled bytes) in
      let front : IsCovered now at (done + (place - (at + done))) =
      covered-joined now at done (place - (at + done)) h.there gap.before in
      let piece : IsCovered new place (length bytes) =
      added-covered added inside in
      let behind : IsCovered new (at + (done + (place - (at + done)))) (length bytes) =
      subst (λ (from : ℕ). IsCovered new from (length bytes)) (omega (arith, above)) piece in
      let whole : IsCovered new at (done + (place - (at + done)) + length bytes) =
      covered-joined new at (done + (place - (at + done))) (length bytes)
      (added-keeps added at (done + (place - (at + done))) front) behind in
      record {
        low = omega (arith, above, below, low);
        there = subst (λ (n : ℕ). IsCovered new at n) (omega (arith, above, long)) whole;
        beyond = λ from far.
            added.others from (inr (omega (arith, far, next))) ∙ h.beyond from (omega (arith, far, next, above));
        size = added.size ∙ size;
        keeps = λ from n c. added-keeps added from n (h.keeps from n c);
        only = only_more old now new at len place bytes h.only added (omega (arith, above)) (omega (arith, below, low, long));
        sum = omega (arith, summed, more);
        rises = λ _. omega (arith, summed, more, long, some);
        so_far = h.so_far ++ read_at name place (room_filled bytes) ∷ [];
        more = λ b f all.
            added-agrees added b (h.more b f (heard_front (HasRead b) h.so_far (asked ∷ []) all)) inside
            (All-head (HasRead b) asked [] (rest_all (HasRead b) h.so_far (asked ∷ []) all));
        less = λ b f. h.less b (added_less added free b f);
        kept = λ b f.
            All-append (HasRead b) h.so_far (asked ∷ []) (h.kept b (added_less added free b f))
            (All-cons (HasRead b) asked [] (added_bytes added inside b f) (All-nil (HasRead b)));
        hears = reads_then h.hears (subst (HearsReads told version mid after) put.read.heard hears);
        runs = λ end rest r.
            subst (AreRunsRead name old at (at + len) end)
            (sym (append_assoc h.so_far (read_at name place (room_filled bytes) ∷ []) rest))
            (h.runs end (read_at name place (room_filled bytes) ∷ rest)
            (run_read (at + done) (at + len) place bytes end rest gap_old
            (subst (λ (n : ℕ). AreRunsRead name old n (at + len) end rest) next r)));
      }

  -- nothing is left
  pub fills_all : {after : ShownTree} {now : PictureFacts} {done : ℕ}
      → FillsSoFar told version before after name old now at len done → IsCovered now (at + done) (len - done)
      → FillsRange told version before after name old now at (at + len) Done
  fills_all {after} {now} {done} h rest = record {
    reads = h.so_far ++ [];
    hears = subst (HearsReads told version before after) (sym (append-nil h.so_far)) h.hears;
    runs = h.runs Done [] (none_left (at + done) (at + len)
        (subst (λ (n : ℕ). IsCovered old (at + done) n) (omega (arith, h.low))
        (covered_back (at + done) (at + done) (len - done) h.beyond h.size (omega arith) rest)));
    more = λ b f all. h.more b f (heard_front (HasRead b) h.so_far [] all);
    less = h.less;
    kept = λ _ b f. All-append (HasRead b) h.so_far [] (h.kept b f) (All-nil (HasRead b));
  }

  pub rest_none : {after : ShownTree} {now : PictureFacts} {done : ℕ} → at + len ≤ old.size
      → FillsSoFar told version before after name old now at len done → len ≤ done
      → IsCovered now (at + done) (len - done)
  rest_none fits h over = record {
    inside = let low = h.low in let size = h.size in omega (arith, fits, low, size, over);
    known = λ place above below. absurd (omega (arith, above, below, over));
  }

  pub all_known : {after : ShownTree} {now : PictureFacts} {done : ℕ}
      → FillsSoFar told version before after name old now at len done → IsCovered now (at + done) (len - done)
      → IsCovered now at len
  all_known {now = now} {done} h rest =
      subst (λ (n : ℕ). IsCovered now at n) (omega (arith, h.low))
      (covered-joined now at done (len - done) h.there rest)

  pub all_rises : {after : ShownTree} {now : PictureFacts} {done : ℕ}
      → FillsSoFar told version before after name old now at len done → IsCovered now (at + done) (len - done)
      → (IsCovered old at len → ⊥) → sum_of old.pieces < sum_of now.pieces
  all_rises {now = now} {done} h rest never =
      h.rises (λ c. never (subst (λ (n : ℕ). IsCovered old at n) (omega (arith, h.low))
      (covered-joined old at done (len - done) c
      (covered_back (at + done) (at + done) (len - done) h.beyond h.size (omega arith) rest))))

  -- the files that agree where the picture stayed
  agree_more : {mid : ShownTree} {now new : PictureFacts} {done : ℕ} (reads : List Heard)
      (h : FillsSoFar told version before mid name old now at len done) → new ≡ now
      → (b : List ℕ) → AgreesWithPicture b old → All (HasRead b) (h.so_far ++ reads) → AgreesWithPicture b new
  agree_more reads h same b f all =
      subst (AgreesWithPicture b) (sym same) (h.more b f (heard_front (HasRead b) h.so_far reads all))

  agree_less : {mid : ShownTree} {now new : PictureFacts} {done : ℕ}
      (h : FillsSoFar told version before mid name old now at len done) → new ≡ now
      → (b : List ℕ) → AgreesWithPicture b new → AgreesWithPicture b old
  agree_less h same b f = h.less b (subst (AgreesWithPicture b) same f)

  agree_kept : {mid : ShownTree} {now new : PictureFacts} {done place count : ℕ} {reads : List Heard}
      (h : FillsSoFar told version before mid name old now at len done) → new ≡ now
      → reads ≡ read_at name place (room_failed count) ∷ []
      → (b : List ℕ) → AgreesWithPicture b new → All (HasRead b) (h.so_far ++ reads)
  agree_kept {place = place} {count} {reads} h same is b f =
      All-append (HasRead b) h.so_far reads (h.kept b (subst (AgreesWithPicture b) same f))
      (subst (All (HasRead b)) (sym is)
      (All-cons (HasRead b) (read_at name place (room_failed count)) [] tt (All-nil (HasRead b))))

  -- a run that failed, or met want of memory, is the last
  pub fills_stopped : {mid after : ShownTree} {now new : PictureFacts} {done place count : ℕ} {reads : List Heard}
      (end : FillAnswer) → (end ≡ Done → ⊥) → FillsSoFar told version before mid name old now at len done
      → IsFirstGap now (at + done) (len - done) place count → HearsReads told version mid after reads
      → RunEnds name place count now new end reads
      → FillsRange told version before after name old new at (at + len) end
  fills_stopped Done other h gap hears run = absurd (other refl)
  fills_stopped {done = done} {place} {count} {reads} Failed other h gap hears run = record {
    reads = h.so_far ++ reads;
    hears = reads_then h.hears hears;
    runs = h.runs Failed reads (subst (AreRunsRead name old (at + done) (at + len) Failed) (sym run.1)
        (run_failed (at + done) (at + len) place count (gap_of h gap)));
    more = agree_more reads h run.0;
    less = agree_less h run.0;
    kept = λ _. agree_kept h run.0 run.1;
  }
  fills_stopped {done = done} {place} {count} {reads} OutOfMemory other h gap hears run = record {
    reads = h.so_far ++ reads;
    hears = reads_then h.hears hears;
    runs = h.runs OutOfMemory reads (refused run.1);
    more = agree_more reads h run.0;
    less = agree_less h run.0;
    kept = λ never. absurd (never refl);
  }
    where
      refused : (reads ≡ []) ⊎ IsRunRead name place count reads → AreRunsRead name old (at + done) (at + len) OutOfMemory reads
      refused (inl none) =
          subst (AreRunsRead name old (at + done) (at + len) OutOfMemory) (sym none) (no_room (at + done) (at + len))
      refused (inr read) =
          subst (AreRunsRead name old (at + done) (at + len) OutOfMemory) (sym read.heard)
          (not_kept (at + done) (at + len) place read.bytes
          (subst (λ (n : ℕ). IsFirstGap old (at + done) (at + len - (at + done)) place n) (sym read.long) (gap_of h gap)))

-- a run that was read and put, by what its read and the picture's addition say
pub run_put : {told : Bool} {version : Versions} {before after : ShownTree} {own name : NameFacts} {place count : ℕ}
    {old new : PictureFacts} (bytes : List ℕ) → own ≡ name → length bytes ≡ count
    → ReadsOpened told version before after (read_at own place (room_filled bytes)) → IsAdded old place bytes new
    → (reads : List Heard) × HearsReads told version before after reads × RunEnds name place count old new Done reads
run_put {told} {version} {before} {after} {name = name} {place} bytes same long read added = (
  read_at name place (room_filled bytes) ∷ [],
  subst (λ (n : NameFacts). HearsReads told version before after (read_at n place (room_filled bytes) ∷ [])) same
      (reads_one read),
  record { read = record { bytes = bytes; long = long; heard = refl }; added = added },
)

-- a run that was read, and met want of memory then
pub run_not_kept : {told : Bool} {version : Versions} {before after : ShownTree} {own name : NameFacts} {place count : ℕ}
    {old new : PictureFacts} (bytes : List ℕ) → own ≡ name → length bytes ≡ count
    → ReadsOpened told version before after (read_at own place (room_filled bytes)) → new ≡ old
    → (reads : List Heard) × HearsReads told version before after reads × RunEnds name place count old new OutOfMemory reads
run_not_kept {told} {version} {before} {after} {name = name} {place} bytes same long read left = (
  read_at name place (room_filled bytes) ∷ [],
  subst (λ (n : NameFacts). HearsReads told version before after (read_at n place (room_filled bytes) ∷ [])) same
      (reads_one read),
  (left, inr (record { bytes = bytes; long = long; heard = refl })),
)

-- what is known of each version of one name is known of those of the same name
pub known_as : (told : Bool) (version : Versions) {own name : NameFacts} (Is : List ℕ → Type 0) → own ≡ name
    → (told ≡ true → (b : List ℕ) → version own.path own.stamp b → Is b)
    → told ≡ true → (b : List ℕ) → version name.path name.stamp b → Is b
known_as told version Is same known =
    subst (λ (n : NameFacts). told ≡ true → (b : List ℕ) → version n.path n.stamp b → Is b) same known

-- ---- of what the runs of a range are

-- each read lies in the range
pub runs_within : {name : NameFacts} {p : PictureFacts} {at to : ℕ} {end : FillAnswer} {reads : List Heard} (from len : ℕ)
    → from ≤ at → at ≤ to → to ≤ from + len → AreRunsRead name p at to end reads
    → All (IsReadIn name (range from len)) reads
runs_within {name} from len low order high (none_left at to covered) = All-nil (IsReadIn name (range from len))
runs_within {name} from len low order high (run_read at to place bytes end rest gap runs) =
    let above = gap.above in
    let below = gap.below in
    All-cons (IsReadIn name (range from len)) (read_at name place (room_filled bytes)) rest
    (refl, omega (arith, low, above), omega (arith, below, order, high))
    (runs_within from len (omega (arith, low, above)) (omega (arith, below, order)) high runs)
runs_within {name} from len low order high (run_failed at to place count gap) =
    let above = gap.above in
    let below = gap.below in
    All-cons (IsReadIn name (range from len)) (read_at name place (room_failed count)) []
    (refl, omega (arith, low, above), omega (arith, below, order, high)) (All-nil (IsReadIn name (range from len)))
runs_within {name} from len low order high (no_room at to) = All-nil (IsReadIn name (range from len))
runs_within {name} from len low order high (not_kept at to place bytes gap) =
    let above = gap.above in
    let below = gap.below in
    All-cons (IsReadIn name (range from len)) (read_at name place (room_filled bytes)) []
    (refl, omega (arith, low, above), omega (arith, below, order, high)) (All-nil (IsReadIn name (range from len)))

-- and the last one failed, where the filling did
pub runs_fail : {name : NameFacts} {p : PictureFacts} {at to : ℕ} {end : FillAnswer} {reads : List Heard}
    → AreRunsRead name p at to end reads → end ≡ Failed → HasFailedLast reads
runs_fail (none_left at to covered) is = absurd (cc)
runs_fail {name} (run_read at to place bytes end rest gap runs) is =
    let later = runs_fail runs is in
    record {
      front = read_at name place (room_filled bytes) ∷ later.front;
      last = later.last;
      all = ap (λ (more : List Heard). read_at name place (room_filled bytes) ∷ more) later.all;
      failed = later.failed;
    }
runs_fail {name} (run_failed at to place count gap) is = record {
  front = [];
  last = read_at name place (room_failed count);
  all = refl;
  failed = refl;
}
runs_fail (no_room at to) is = absurd (cc)
runs_fail (not_kept at to place bytes gap) is = absurd (cc)

-- where a range was filled, no read failed
pub runs_filled : {name : NameFacts} {p : PictureFacts} {at to : ℕ} {end : FillAnswer} {reads : List Heard}
    → AreRunsRead name p at to end reads → end ≡ Done → list_any call_failed reads ≡ false
runs_filled (none_left at to covered) is = refl
runs_filled (run_read at to place bytes end rest gap runs) is = runs_filled runs is
runs_filled (run_failed at to place count gap) is = absurd (cc)
runs_filled (no_room at to) is = absurd (cc)
runs_filled (not_kept at to place bytes gap) is = absurd (cc)

-- a read in a range is one of the file
read_own : (name : NameFacts) (r : Range) (asked : Heard) → IsReadIn name r asked → IsReadOfFile name asked
read_own name r (read_at given at (room_filled bytes)) h = h.0
read_own name r (read_at given at (room_failed count)) h = h.0
read_own name r (load path limit answer) h = absurd h
read_own name r (stat path answer) h = absurd h
read_own name r (read_dir path answer) h = absurd h
read_own name r (open_file path limit answer) h = absurd h

pub reads_own : (name : NameFacts) (r : Range) (reads : List Heard) → All (IsReadIn name r) reads
    → All (IsReadOfFile name) reads
reads_own name r reads all = All-weaker (IsReadIn name r) (IsReadOfFile name) (read_own name r) reads all

-- what was read of an open file is heard as any question is
read_fits : (version : Versions) (name : NameFacts) (asked : Heard) → IsReadOfFile name asked → FitsAny version asked
read_fits version name (read_at given at answer) h = tt
read_fits version name (load path limit answer) h = absurd h
read_fits version name (stat path answer) h = absurd h
read_fits version name (read_dir path answer) h = absurd h
read_fits version name (open_file path limit answer) h = absurd h

read_told : (present : List NameFacts) (name : NameFacts) (asked : Heard) → IsReadOfFile name asked
    → IsAnswerTold present asked
read_told present name (read_at given at answer) h = tt
read_told present name (load path limit answer) h = absurd h
read_told present name (stat path answer) h = absurd h
read_told present name (read_dir path answer) h = absurd h
read_told present name (open_file path limit answer) h = absurd h

pub listens_reads : {told : Bool} {version : Versions} {before after : ShownTree} {reads : List Heard} (name : NameFacts)
    → HearsReads told version before after reads → All (IsReadOfFile name) reads
    → Listens told version before after reads
listens_reads {version = version} {before = before} {reads = reads} name hears own = record {
  heard = hears.listed;
  fits = All-weaker (IsReadOfFile name) (FitsAny version) (read_fits version name) reads own;
  tells = λ _ _. All-weaker (IsReadOfFile name) (IsAnswerTold before.present) (read_told before.present name) reads own;
  hand = hears.hand;
}

-- and is neither a load nor an opening
read_loads : (name : NameFacts) (asked : Heard) → IsReadOfFile name asked → is_load asked ≡ false
read_loads name (read_at given at answer) h = refl
read_loads name (load path limit answer) h = absurd h
read_loads name (stat path answer) h = absurd h
read_loads name (read_dir path answer) h = absurd h
read_loads name (open_file path limit answer) h = absurd h

pub loads_reads : (name : NameFacts) (reads : List Heard) → All (IsReadOfFile name) reads → loads reads ≡ 0
loads_reads name [] own = refl
loads_reads name (asked ∷ rest) own =
    sum_by-cons (λ (h : Heard). cond (is_load h) 1 0) asked rest
    ∙ ap {B = ℕ} (λ (b : Bool). cond b 1 0 + count_by is_load rest)
    (read_loads name asked (All-head (IsReadOfFile name) asked rest own))
    ∙ (let later = loads_reads name rest (All-tail (IsReadOfFile name) asked rest own) in omega arith)
