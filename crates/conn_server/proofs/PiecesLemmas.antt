-- Pieces of a file, one after the other.
use Rattle.std.proofs.Common.{◌≡◌, ◌≢◌, ℕ, zero, suc, ◌+◌, ◌-◌, ◌*◌, ◌<◌, ◌≤◌, ◌⊎◌, inl, inr, Bool, true, false, List, [], ◌∷◌, ◌++◌}
use Rattle.std.proofs.Common.{Result, Ok, Err, Some, refl, sym, ◌∙◌, ap, subst, arith, length, get_or, take, drop, set, min, append_assoc, take-add}
use Rattle.std.specs.Prelude.{MatchResult}
use Rattle.std.proofs.lemmas.Bool.{cases_lt}
use Rattle.std.proofs.Math.Nat.{add-mul}
use Rattle.std.proofs.lemmas.List.{append-nil, get_or-append_right, get_or-drop, get_or-set_same, get_or-take, get_or_append_left, get_or_past, length-append, length-drop, length-set, length-take, length_push, nil_from_length, take-append-drop, take-append-le, take_all, take_at}
use Rattle.std.proofs.lemmas.List.Elements.{All-head}
use mathlib.Core.List.{IsPrefix}
use Rattle.file_formats.specs.Numbers.{bytes_at}
use Rattle.file_picture.specs.Agrees.{AgreesWithPicture}
use Rattle.file_picture.specs.Difference.{AgreesAt, IsFirstDifference}
use Rattle.file_picture.specs.Picture.{PictureFacts, known_byte}
use Rattle.file_picture.specs.declared.difference.Difference.{Difference}
use Rattle.index_lock.proofs.Prefixes.{prefix_self, prefix_trans}
use Rattle.row_types.specs.Name.{NameFacts}
use Rattle.row_types.specs.Stamp.{StampFacts}
use Rattle.tree_trait.specs.Asks.{ReadsOpened}
use Rattle.tree_trait.specs.Found.{Versions}
use Rattle.tree_trait.specs.Heard.{Heard, IsNoRead, read_at}
use Rattle.tree_trait.specs.Open.{RoomFacts, room_filled, room_failed}
use Rattle.tree_trait.specs.Opened.{HoldsPicture}
use Rattle.tree_trait.specs.Shown.{ShownTree}
use Rattle.http_wire.specs.Calls.{AreCalls, took}
use Rattle.http_wire.specs.Sink.{Appends, GetsAll, GetsPart}
use Rattle.http_wire.specs.Stream.{ShownStream}
use Rattle.http_wire.specs.declared.reply.ReplyFault.TheVariants as reply_fault
use Rattle.http_wire.proofs.Pieces.{gets_both, gets_none, gets_then_part}
use Rattle.answer_core.specs.Loads.{Hand, Hears}
use Rattle.answer_core.proofs.HearLemmas.{hears_none, hears_then}
use Rattle.answer_core.proofs.SinceLemmas.{since}
use Rattle.conn_server.specs.Pieces.{AreContentAt, AreContentOf, ArePiecesRead, CutsPiece, IsBodyCause, LeavesPiece, NamesOneContent, SendsFile, SendsFront, SendsPiece, StopsFile, StopsPiece, StopsRead, byte_change, cut_write, left_piece, no_piece, piece_read}
use Rattle.conn_server.specs.declared.pieces.TheConstants.{PIECE}
use Rattle.conn_server.specs.declared.report.BodyCause.{BodyCause}
use Rattle.conn_server.specs.declared.report.BodyCause.TheVariants as cause
use Rattle.conn_server.specs.declared.send_fault.SendFault.{SendFault}
use Rattle.conn_server.specs.declared.send_fault.SendFault.TheVariants as sending

-- how many bytes a piece has
pub piece_size : PIECE ≡ 65536
piece_size = refl

-- a piece has some
piece_some : 0 < PIECE
piece_some = subst (λ (n : ℕ). 0 < n) (sym piece_size) (omega arith)

-- ---- how many bytes so many pieces have

-- one piece more
more_pieces : (n k : ℕ) → (n + 1) * k ≡ n * k + k
more_pieces n k =
    let one : 1 * k ≡ k = omega arith in
    add-mul n 1 k ∙ ap (λ (x : ℕ). n * k + x) one

-- whole pieces, and one more of them
whole_more : (k reads more front both piece : ℕ) → front ≡ reads * k → more ≡ reads + 1 → both ≡ front + piece → piece ≡ k
    → both ≡ more * k
whole_more k reads more front both piece front_is more_is both_is full =
    both_is
    ∙ (ap (λ (x : ℕ). x + piece) front_is
    ∙ (ap (λ (x : ℕ). reads * k + x) full ∙ (sym (more_pieces reads k) ∙ ap (λ (x : ℕ). x * k) (sym more_is))))

-- what is left of some bytes behind as many as a piece has at most
some_piece : (k rest len : ℕ) → 0 < k → 0 < rest → len ≡ min k rest → 0 < len
some_piece k rest len some more is = omega (arith, some, more, is)

small_piece : (k rest len : ℕ) → len ≡ min k rest → len ≤ k
small_piece k rest len is = omega (arith, is)

less_rest : (k rest len : ℕ) → len ≡ min k rest → len ≤ rest
less_rest k rest len is = omega (arith, is)

full_piece : (k rest len : ℕ) → len ≡ min k rest → 0 < rest - len → len ≡ k
full_piece k rest len is more = omega (arith, is, more)

less_left : (k rest tail n : ℕ) → 0 < k → tail ≡ rest - k → rest ≤ suc n → tail ≤ n
less_left k rest tail n some is few = omega (arith, some, is, few)

more_left : (k rest tail : ℕ) → tail ≡ rest - k → 0 < tail → min k rest ≡ k
more_left k rest tail is more = omega (arith, is, more)

-- ---- reads of a body

-- some reads that go on from these give what these gave and the rest behind it
abbrev GivesRest : NameFacts → List Heard → List ℕ → List ℕ → Type 0
GivesRest name reads front rest = (sent : List Heard) × IsPrefix reads sent × ArePiecesRead name sent (front ++ rest)

none_left : (name : NameFacts) (rest : List ℕ) (reads : List Heard) (front : List ℕ) → length rest ≤ 0
    → ArePiecesRead name reads front → GivesRest name reads front rest
none_left name rest reads front few read =
    let none : rest ≡ [] = nil_from_length rest (omega (arith, few)) in
    let same : front ≡ front ++ rest = sym (ap (λ (l : List ℕ). front ++ l) none ∙ append-nil front) in
    (reads, prefix_self reads, subst (λ (l : List ℕ). ArePiecesRead name reads l) same read)

-- a piece is read, and then the rest
piece_then : (name : NameFacts) (n : ℕ) (rest : List ℕ) (reads : List Heard) (front : List ℕ) → length rest ≤ suc n
    → 0 < length rest → ArePiecesRead name reads front → length front ≡ length reads * PIECE
    → ((tail : List ℕ) (more : List Heard) (both : List ℕ) → length tail ≤ n → ArePiecesRead name more both
    → (0 < length tail → length both ≡ length more * PIECE) → GivesRest name more both tail)
    → GivesRest name reads front rest
piece_then name n rest reads front few some read full then =
    let piece : List ℕ = take PIECE rest in
    let tail : List ℕ = drop PIECE rest in
    let one : Heard = read_at name (length front) (room_filled piece) in
    let here : length piece ≡ min PIECE (length rest) = length-take PIECE rest in
    let left : length tail ≡ length rest - PIECE = length-drop PIECE rest in
    let step : ArePiecesRead name (reads ++ one ∷ []) (front ++ piece) =
    piece_read reads front piece read full (some_piece PIECE (length rest) (length piece) piece_some some here)
    (small_piece PIECE (length rest) (length piece) here) in
    let next : GivesRest name (reads ++ one ∷ []) (front ++ piece) tail =
    then tail (reads ++ one ∷ []) (front ++ piece) (less_left PIECE (length rest) (length tail) n piece_some left few) step
    (λ above. whole_more PIECE (length reads) (length (reads ++ one ∷ [])) (length front) (length (front ++ piece)) (length piece) full
    (length_push reads one) (length-append front piece) (here ∙ more_left PIECE (length rest) (length tail) left above)) in
    let same : (front ++ piece) ++ tail ≡ front ++ rest =
    append_assoc front piece tail ∙ ap (λ (l : List ℕ). front ++ l) (take-append-drop PIECE rest) in (
      next.0,
      prefix_trans reads (reads ++ one ∷ []) next.0 (one ∷ [], refl) next.1,
      subst (λ (l : List ℕ). ArePiecesRead name next.0 l) same next.2,
    )

-- some reads give the rest of a body, where those in front of it were of whole pieces
pub pieces_rest : (name : NameFacts) (n : ℕ) (rest : List ℕ) (reads : List Heard) (front : List ℕ) → length rest ≤ n
    → ArePiecesRead name reads front → (0 < length rest → length front ≡ length reads * PIECE)
    → (sent : List Heard) × IsPrefix reads sent × ArePiecesRead name sent (front ++ rest)
pieces_rest name zero rest reads front few read whole = none_left name rest reads front few read
pieces_rest name (suc n) rest reads front few read whole = elim (cases_lt 0 (length rest)) [
  | inl some ↦ piece_then name n rest reads front few some read (whole some)
      (λ tail more both less step above. pieces_rest name n tail more both less step above)
  | inr none ↦ none_left name rest reads front none read
]

-- some reads give a body
pub pieces_of : (name : NameFacts) (body : List ℕ) → (sent : List Heard) × ArePiecesRead name sent body
pieces_of name body =
    let all = pieces_rest name (length body) body [] [] (omega arith) no_piece (λ some. refl) in
    (all.0, all.2)

-- ---- bytes that agree with a picture

-- bytes that agree, and those behind them
pub agrees_both : (p : PictureFacts) (front piece : List ℕ) → AgreesAt p 0 front → AgreesAt p (length front) piece
    → AgreesAt p 0 (front ++ piece)
agrees_both p front piece first then i x below known = of (cases_lt i (length front))
  where
    of : (i < length front) ⊎ (length front ≤ i) → get_or (front ++ piece) i 0 ≡ x
    of (inl under) = get_or_append_left front piece 0 i under ∙ first i x under known
    of (inr over) =
        let all = length-append front piece in
        let place : length front + (i - length front) ≡ 0 + i = omega (arith, over) in
        get_or-append_right front piece (length front) i 0 refl over
        ∙ then (i - length front) x (omega (arith, below, over, all)) (ap (λ (k : ℕ). known_byte p k) place ∙ known)

-- a body that agrees from its start on is one of the files of the picture, where there is one
pub agrees_all : (p : PictureFacts) (b body : List ℕ) → AgreesWithPicture b p → length body ≡ p.size → AgreesAt p 0 body
    → AgreesWithPicture body p
agrees_all p b body f sized agrees = record { sized = sized; same = λ place x known. of place x known (cases_lt place (length body)) }
  where
    of : (place x : ℕ) → known_byte p place ≡ Some x → (place < length body) ⊎ (length body ≤ place) → get_or body place 0 ≡ x
    of place x known (inl under) =
        let same : 0 + place ≡ place = omega arith in
        agrees place x under (ap (λ (k : ℕ). known_byte p k) same ∙ known)
    of place x known (inr past) =
        let long = f.sized in
        get_or_past body place 0 past ∙ sym (get_or_past b place 0 (omega (arith, past, long, sized))) ∙ f.same place x known

-- such a file goes on from bytes that agree
pub agrees_rest : (p : PictureFacts) (b front : List ℕ) → AgreesWithPicture b p → length front ≤ p.size → AgreesAt p 0 front
    → AgreesWithPicture (front ++ drop (length front) b) p
agrees_rest p b front f fits agrees = record {
  sized =
      let all = length-append front (drop (length front) b) in
      let rest = length-drop (length front) b in
      let long = f.sized in
      omega (arith, all, rest, long, fits);
  same = λ place x known. of place x known (cases_lt place (length front));
}
  where
    of : (place x : ℕ) → known_byte p place ≡ Some x → (place < length front) ⊎ (length front ≤ place)
        → get_or (front ++ drop (length front) b) place 0 ≡ x
    of place x known (inl under) =
        let same : 0 + place ≡ place = omega arith in
        get_or_append_left front (drop (length front) b) 0 place under
        ∙ agrees place x under (ap (λ (k : ℕ). known_byte p k) same ∙ known)
    of place x known (inr over) =
        let same : length front + (place - length front) ≡ place = omega (arith, over) in
        get_or-append_right front (drop (length front) b) (length front) place 0 refl over
        ∙ get_or-drop (length front) b (place - length front) 0 ∙ ap (λ (k : ℕ). get_or b k 0) same ∙ f.same place x known

-- the first difference, by its three numbers
pub first_change : {p : PictureFacts} {at : ℕ} {bytes : List ℕ} {d : Difference} → IsFirstDifference p at bytes d
    → IsFirstDifference p at bytes (byte_change d.at d.checked d.seen)
first_change h = record {
  index = h.index;
  inside = h.inside;
  place = h.place;
  before = h.before;
  checked = h.checked;
  seen = h.seen;
  other = h.other;
}

-- ---- where a path and a stamp name one content

-- the byte at an index of a range
byte_in : (b : List ℕ) (at len i : ℕ) → i < len → get_or (bytes_at b at len) i 0 ≡ get_or b (at + i) 0
byte_in b at len i below = get_or-take len (drop at b) i 0 below ∙ get_or-drop at b i 0

-- in a world that isn't told a file of which one byte is another is a content too
other_content : (version : Versions) (name : NameFacts) (b : List ℕ) (at x : ℕ)
    → ((c : List ℕ) → length c ≡ name.stamp.size → version name.path name.stamp c) → length b ≡ name.stamp.size → at < length b
    → version name.path name.stamp b → get_or b at 0 ≢ x → NamesOneContent version → ⊥
other_content version name b at x any sized inside known other one =
    let c : List ℕ = set b at x in
    let both : b ≡ c = one name.path name.stamp b c known (any c (length-set b at x ∙ sized)) in
    other (ap (λ (l : List ℕ). get_or l at 0) both ∙ get_or-set_same b at x 0 inside)

-- where bytes that were read differ from what was checked, they don't
pub no_other_content : (told : Bool) {version : Versions}
    → (told ≡ false → (path : List ℕ) (stamp : StampFacts) (b : List ℕ) → length b ≡ stamp.size → version path stamp b)
    → (name : NameFacts) (p : PictureFacts) (at : ℕ) (bytes : List ℕ) (d : Difference)
    → HoldsPicture version name.path name.stamp p → at + length bytes ≤ p.size
    → (told ≡ true → (b : List ℕ) → version name.path name.stamp b → bytes ≡ bytes_at b at (length bytes))
    → IsFirstDifference p at bytes d → NamesOneContent version → ⊥
no_other_content true {version} any name p at bytes d holds fits reads h one =
    let b : List ℕ = holds.seen.bytes in
    let read : bytes ≡ bytes_at b at (length bytes) = reads refl b holds.seen.known in
    h.other (sym (holds.seen.agrees.same d.at d.checked h.checked) ∙ ap (λ (k : ℕ). get_or b k 0) h.place
    ∙ sym (byte_in b at (length bytes) h.index h.inside) ∙ sym (ap (λ (l : List ℕ). get_or l h.index 0) read) ∙ h.seen)
no_other_content false {version} any name p at bytes d holds fits reads h one =
    let inside = h.inside in
    let place = h.place in
    let long = holds.seen.agrees.sized in
    other_content version name holds.seen.bytes d.at d.seen (any refl name.path name.stamp) (long ∙ holds.sized)
    (omega (arith, fits, inside, place, long)) holds.seen.known
    (λ same. h.other (sym (holds.seen.agrees.same d.at d.checked h.checked) ∙ same)) one

-- bytes that were read of an open file are those of its content
pub content_read : (told : Bool) {version : Versions}
    → (told ≡ false → (path : List ℕ) (stamp : StampFacts) (b : List ℕ) → length b ≡ stamp.size → version path stamp b)
    → (name : NameFacts) (p : PictureFacts) (at : ℕ) (bytes : List ℕ) → HoldsPicture version name.path name.stamp p
    → at + length bytes ≤ p.size → 0 < length bytes
    → (told ≡ true → (b : List ℕ) → version name.path name.stamp b → bytes ≡ bytes_at b at (length bytes))
    → AreContentAt version name at bytes
content_read true {version} any name p at bytes holds fits some reads = λ one b known. reads refl b known
content_read false {version} any name p at bytes holds fits some reads = λ one b known.
    let long = holds.seen.agrees.sized in
    absurd (other_content version name holds.seen.bytes at (get_or holds.seen.bytes at 0 + 1) (any refl name.path name.stamp)
    (long ∙ holds.sized) (omega (arith, fits, some, long)) holds.seen.known (λ same. omega (arith, same)) one)

-- and those behind them
content_both : (version : Versions) (name : NameFacts) (front piece : List ℕ) → AreContentAt version name 0 front
    → AreContentAt version name (length front) piece → AreContentAt version name 0 (front ++ piece)
content_both version name front piece first then one b known =
    ap (λ (l : List ℕ). l ++ piece) (first one b known)
    ∙ (ap (λ (l : List ℕ). take (length front) b ++ l) (then one b known)
    ∙ (sym (take-add (length front) (length piece) b) ∙ ap (λ (n : ℕ). take n b) (sym (length-append front piece))))

-- such bytes, and behind them those of a file with the content, are the content
content_rest : (version : Versions) (name : NameFacts) (b front : List ℕ) → version name.path name.stamp b
    → AreContentAt version name 0 front → AreContentOf version name (front ++ drop (length front) b)
content_rest version name b front known content one =
    let same : front ++ drop (length front) b ≡ b =
    ap (λ (l : List ℕ). l ++ drop (length front) b) (content one b known) ∙ take-append-drop (length front) b in
    subst (λ (l : List ℕ). version name.path name.stamp l) (sym same) known

-- such bytes are the content, where they are as many
content_all : (version : Versions) (name : NameFacts) (b front : List ℕ) → version name.path name.stamp b
    → length front ≡ length b → AreContentAt version name 0 front → AreContentOf version name front
content_all version name b front known long content one =
    subst (λ (l : List ℕ). version name.path name.stamp l)
    (sym (content one b known ∙ take_all (length front) b (omega (arith, long)))) known

-- ---- one piece

-- a hand as a call finds it
abbrev pub hand_of : Bool → Versions → ShownTree → Hand
hand_of told version start = record { told = told; version = version; start = start }

module _ {told : Bool} {version : Versions} {old now : ShownTree} (name : NameFacts) (at : ℕ) where
  -- one read, as all that was heard
  pub read_heard : (answer : RoomFacts) → ReadsOpened told version old now (read_at name at answer)
      → Hears (hand_of told version old) now (read_at name at answer ∷ []) ⊥
  read_heard answer reads = record {
    heard = record {
      told = reads.listed;
      unread = λ none. absurd (All-head IsNoRead (read_at name at answer) [] none);
    };
    hands = record {
      cause = record { later = reads.hands.cause.later; rose = λ f. absurd f };
      known = λ is _. reads.hands.known is tt;
      keeps = reads.hands.keeps;
      still = reads.hands.still;
    };
  }

  -- a piece of so many bytes that was read, by what came of comparing and writing it
  pub piece_came : {U : Type 0} (p : PictureFacts) (piece : List ℕ) (len : ℕ) (before after : ShownStream)
      (result : Result U SendFault) → length piece ≡ len → ReadsOpened told version old now (read_at name at (room_filled piece))
      → ((d : Difference) → IsFirstDifference p at piece d → NamesOneContent version → ⊥) → AreContentAt version name at piece
      → MatchResult result (λ _. AgreesAt p at piece × GetsAll piece before after) (StopsRead p at piece before after)
      → MatchResult result (λ _. SendsPiece (hand_of told version old) name p at piece before now after)
      (StopsPiece (hand_of told version old) name p at len before now after)
  piece_came p piece len before after (Ok done) long reads never content sent =
      record { hears = read_heard (room_filled piece) reads; agrees = sent.0; content = content; gets = sent.1 }
  piece_came p piece len before after (Err (sending.Reply reply_fault.WriteFault)) long reads never content sent =
      record {
        piece = piece;
        sized = long;
        hears = read_heard (room_filled piece) reads;
        agrees = sent.0;
        content = content;
        gets = sent.1;
      }
  piece_came p piece len before after (Err (sending.Reply reply_fault.OutOfMemory)) long reads never content sent = absurd sent
  piece_came p piece len before after (Err (sending.Body cause.ReadFault)) long reads never content sent = absurd sent
  piece_came p piece len before after (Err (sending.Body (cause.Changed place checked seen))) long reads never content sent = record {
    answer = room_filled piece;
    asked = long;
    hears = read_heard (room_filled piece) reads;
    is = (sent.0, never (byte_change place checked seen) sent.0);
    same = sent.1;
  }

  -- a piece of so many bytes that wasn't read
  pub piece_failed : (p : PictureFacts) (asked len : ℕ) (stream : ShownStream) → asked ≡ len
      → ReadsOpened told version old now (read_at name at (room_failed asked))
      → LeavesPiece (hand_of told version old) name p at len stream now stream cause.ReadFault
  piece_failed p asked len stream same reads = record {
    answer = room_failed asked;
    asked = same;
    hears = read_heard (room_failed asked) reads;
    is = reads.hands.cause.rose refl;
    same = refl;
  }

-- ---- all of them

-- a proper prefix of some bytes is one of more bytes
pub part_in : (bytes rest : List ℕ) {before after : ShownStream} → GetsPart bytes before after → GetsPart (bytes ++ rest) before after
part_in bytes rest {before} {after} g =
    let less = g.proper in
    let all = length-append bytes rest in
    let within : g.count ≤ length bytes = omega (arith, less) in
    record {
      count = g.count;
      proper = omega (arith, less, all);
      appends = subst (λ (l : List ℕ). Appends before.written l after.written) (sym (take-append-le g.count bytes rest within))
          g.appends;
      calls = subst (λ (l : List ℕ). AreCalls took l before.calls after.calls) (sym (take-append-le g.count bytes rest within))
          g.calls;
      later = g.later;
      rose = g.rose;
      reading = g.reading;
    }

-- a cause since a later moment is one since an earlier one
pub cause_since : (hand : Hand) (between now : ShownTree) (p : PictureFacts) (at : ℕ) → hand.start.faults ≤ between.faults
    → (answer : RoomFacts) (why : BodyCause) → IsBodyCause (since hand between) p at answer now why
    → IsBodyCause hand p at answer now why
cause_since hand between now p at earlier (room_failed len) cause.ReadFault rose = omega (arith, earlier, rose)
cause_since hand between now p at earlier (room_failed len) (cause.Changed place checked seen) h = absurd h
cause_since hand between now p at earlier (room_filled bytes) cause.ReadFault h = absurd h
cause_since hand between now p at earlier (room_filled bytes) (cause.Changed place checked seen) h = h

-- nothing was sent yet
pub sent_none : (hand : Hand) (name : NameFacts) (p : PictureFacts) (stream : ShownStream)
    → SendsFront hand name p 0 stream hand.start stream
sent_none hand name p stream = record {
  reads = [];
  front = [];
  read = no_piece;
  sized = refl;
  whole = λ more. refl;
  agrees = λ i x below known. absurd (omega (arith, below));
  content = λ one b known. refl;
  hears = hears_none hand;
  gets = gets_none stream;
}

module _ {hand : Hand} {name : NameFacts} {p : PictureFacts} {at : ℕ} {before mid : ShownStream} {between : ShownTree}
    (f : SendsFront hand name p at before between mid) where
  -- one more read behind those
  heard_more : {now : ShownTree} (asked : Heard) → Hears (since hand between) now (asked ∷ []) ⊥
      → Hears hand now (f.reads ++ asked ∷ []) ⊥
  heard_more asked last = hears_then f.hears last (λ never. absurd never)

  -- a piece was read behind those
  read_more : (piece : List ℕ) → at ≡ length f.reads * PIECE → 0 < length piece → length piece ≤ PIECE
      → ArePiecesRead name (f.reads ++ read_at name at (room_filled piece) ∷ []) (f.front ++ piece)
  read_more piece full some small =
      subst (λ (k : ℕ). ArePiecesRead name (f.reads ++ read_at name k (room_filled piece) ∷ []) (f.front ++ piece)) f.sized
      (piece_read f.reads f.front piece f.read (f.sized ∙ full) some small)

  agrees_more : (piece : List ℕ) → AgreesAt p at piece → AgreesAt p 0 (f.front ++ piece)
  agrees_more piece agrees =
      agrees_both p f.front piece f.agrees (subst (λ (k : ℕ). AgreesAt p k piece) (sym f.sized) agrees)

  content_more : (piece : List ℕ) → AreContentAt hand.version name at piece
      → AreContentAt hand.version name 0 (f.front ++ piece)
  content_more piece content =
      content_both hand.version name f.front piece f.content
      (subst (λ (k : ℕ). AreContentAt hand.version name k piece) (sym f.sized) content)

module _ {hand : Hand} {name : NameFacts} {p : PictureFacts} {at : ℕ} {before mid after : ShownStream} {between now : ShownTree}
    (f : SendsFront hand name p at before between mid) (more : at < p.size) where
  -- one more piece
  pub sent_more : (piece : List ℕ) → length piece ≡ min PIECE (p.size - at)
      → SendsPiece (since hand between) name p at piece mid now after
      → SendsFront hand name p (at + length piece) before now after
  sent_more piece long s =
      let asked : Heard = read_at name at (room_filled piece) in
      let full : at ≡ length f.reads * PIECE = f.whole more in
      record {
        reads = f.reads ++ asked ∷ [];
        front = f.front ++ piece;
        read = read_more f piece full (some_piece PIECE (p.size - at) (length piece) piece_some (omega (arith, more)) long)
            (small_piece PIECE (p.size - at) (length piece) long);
        sized = length-append f.front piece ∙ ap (λ (k : ℕ). k + length piece) f.sized;
        whole = λ still. whole_more PIECE (length f.reads) (length (f.reads ++ asked ∷ [])) at (at + length piece) (length piece) full
            (length_push f.reads asked) refl (full_piece PIECE (p.size - at) (length piece) long (omega (arith, still)));
        agrees = agrees_more f piece s.agrees;
        content = content_more f piece s.content;
        hears = heard_more f asked s.hears;
        gets = gets_both f.gets s.gets;
      }

  -- a write of the next piece failed
  stops_write : (b : List ℕ) (len : ℕ) → hand.version name.path name.stamp b → AgreesWithPicture b p
      → len ≡ min PIECE (p.size - at)
      → CutsPiece (since hand between) name p at len mid now after
      → StopsFile hand name p before now after (sending.Reply reply_fault.WriteFault)
  stops_write b len known is long s =
      let piece : List ℕ = s.piece in
      let asked : Heard = read_at name at (room_filled piece) in
      let sized : length piece ≡ min PIECE (p.size - at) = s.sized ∙ long in
      let full : at ≡ length f.reads * PIECE = f.whole more in
      let there = f.sized in
      let size = is.sized in
      let all : length (f.front ++ piece) ≡ length f.front + length piece = length-append f.front piece in
      let rest : List ℕ = drop (length (f.front ++ piece)) b in
      let left : length rest ≡ length b - length (f.front ++ piece) = length-drop (length (f.front ++ piece)) b in
      let small : length piece ≤ p.size - at = less_rest PIECE (p.size - at) (length piece) sized in
      let reads = pieces_rest name (length rest) rest (f.reads ++ asked ∷ []) (f.front ++ piece) (omega arith)
      (read_more f piece full (some_piece PIECE (p.size - at) (length piece) piece_some (omega (arith, more)) sized)
      (small_piece PIECE (p.size - at) (length piece) sized))
      (λ above. whole_more PIECE (length f.reads) (length (f.reads ++ asked ∷ [])) (length f.front) (length (f.front ++ piece))
      (length piece) (f.sized ∙ full) (length_push f.reads asked) all
      (full_piece PIECE (p.size - at) (length piece) sized (omega (arith, above, left, all, size, there)))) in
      record {
        body = (f.front ++ piece) ++ rest;
        sent = reads.0;
        read = reads.2;
        agrees = agrees_rest p b (f.front ++ piece) is (omega (arith, all, there, small, more)) (agrees_more f piece s.agrees);
        content = content_rest hand.version name b (f.front ++ piece) known (content_more f piece s.content);
        heard = f.reads ++ asked ∷ [];
        hears = heard_more f asked s.hears;
        breaks = cut_write reads.1 (part_in (f.front ++ piece) rest (gets_then_part f.gets s.gets));
      }

  -- the next piece wasn't read as it was checked
  stops_read : (b : List ℕ) (len : ℕ) (why : BodyCause) → hand.version name.path name.stamp b → AgreesWithPicture b p
      → len ≡ min PIECE (p.size - at)
      → LeavesPiece (since hand between) name p at len mid now after why
      → StopsFile hand name p before now after (sending.Body why)
  stops_read b len why known is long s =
      let there = f.sized in
      let rest : List ℕ = drop (length f.front) b in
      let full : length f.front ≡ length f.reads * PIECE = f.sized ∙ f.whole more in
      let reads = pieces_rest name (length rest) rest f.reads f.front (omega arith) f.read (λ above. full) in
      record {
        body = f.front ++ rest;
        sent = reads.0;
        read = reads.2;
        agrees = agrees_rest p b f.front is (omega (arith, there, more)) f.agrees;
        content = content_rest hand.version name b f.front known f.content;
        heard = f.reads ++ read_at name at s.answer ∷ [];
        hears = heard_more f (read_at name at s.answer) s.hears;
        breaks = left_piece why at (record {
          whole = f.reads;
          answer = s.answer;
          heard_is = refl;
          goes_on = reads.1;
          place = f.whole more;
          below = more;
          asked = s.asked ∙ long;
          is = cause_since hand between now p at f.hears.hands.cause.later s.answer why s.is;
        }) (subst (λ (l : List ℕ). GetsAll l before after) (sym (take_at f.front rest at f.sized))
            (subst (λ (stream : ShownStream). GetsAll f.front before stream) (sym s.same) f.gets));
      }

  -- why the next piece stops them
  pub stops_there : (b : List ℕ) (len : ℕ) (end : SendFault) → hand.version name.path name.stamp b → AgreesWithPicture b p
      → len ≡ min PIECE (p.size - at)
      → StopsPiece (since hand between) name p at len mid now after end → StopsFile hand name p before now after end
  stops_there b len (sending.Reply reply_fault.WriteFault) known is long s = stops_write b len known is long s
  stops_there b len (sending.Reply reply_fault.OutOfMemory) known is long s = absurd s
  stops_there b len (sending.Body why) known is long s = stops_read b len why known is long s

-- the file is whole
pub front_whole : {hand : Hand} {name : NameFacts} {p : PictureFacts} {at : ℕ} {before after : ShownStream} {now : ShownTree}
    (b : List ℕ) → hand.version name.path name.stamp b → AgreesWithPicture b p → at ≡ p.size
    → SendsFront hand name p at before now after → SendsFile hand name p before now after
front_whole {hand} {name} {p} b known is whole f = record {
  body = f.front;
  sent = f.reads;
  read = f.read;
  agrees = agrees_all p b f.front is (f.sized ∙ whole) f.agrees;
  content = content_all hand.version name b f.front known (f.sized ∙ whole ∙ sym is.sized) f.content;
  hears = f.hears;
  gets = f.gets;
}
