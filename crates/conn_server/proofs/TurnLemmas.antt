-- What came of a request, as one exchange, or as what is left without one.
use Rattle.std.proofs.Common.{◌≡◌, ℕ, ◌≤◌, Bool, true, false, List, [], ◌++◌, length, map, Option, None, MatchBool, IsTrue, take}
use Rattle.std.proofs.Common.{Result, Ok, Err, refl, sym, ◌∙◌, ap, subst, arith}
use mathlib.Core.List.{IsPrefix}
use Rattle.httparse.specs.Grammar.{RequestHead, print_request}
use Rattle.row_types.specs.Faults.{HasCause}
use Rattle.index_rows.specs.declared.change.Change.{Change}
use Rattle.tree_trait.specs.Heard.{Heard}
use Rattle.tree_trait.specs.Shown.{ShownTree}
use Rattle.http_wire.specs.Calls.{AreCalls, gave, took}
use Rattle.http_wire.specs.Find.{ReadsAsWanted}
use Rattle.http_wire.specs.Heads.{RefusesAsHead, TellsHead}
use Rattle.http_wire.specs.Reader.{AnswersNext, head_failed}
use Rattle.http_wire.specs.ReaderFacts.{ReaderFacts}
use Rattle.http_wire.specs.Sink.{Appends, GetsAll}
use Rattle.http_wire.specs.Source.{ComesFrom, HasEnded}
use Rattle.http_wire.specs.Stream.{LeavesWriting, ShownStream}
use Rattle.http_wire.specs.declared.head.Head.{Head}
use Rattle.http_wire.specs.declared.head.HeadAnswer.{HeadAnswer}
use Rattle.http_wire.specs.declared.head.HeadAnswer.TheVariants as answer
use Rattle.http_wire.specs.declared.head.HeadFault.{HeadFault}
use Rattle.http_wire.specs.declared.head.HeadFault.TheVariants as head_fault
use Rattle.http_wire.specs.declared.reply.ReplyFault.TheVariants as reply_fault
use Rattle.http_wire.proofs.CallLemmas.{calls_none, gains_both}
use Rattle.answer_core.specs.Loads.{Hand, Hears}
use Rattle.answer_core.specs.Local.{file_found}
use Rattle.answer_core.proofs.HearLemmas.{hears_as, hears_none}
use Rattle.answer_core.proofs.SinceLemmas.{since}
use Rattle.dbgd_metrics.specs.Shares.{ShareFacts}
use Rattle.dbgd_metrics.specs.Totals.{OnlyNotes}
use Rattle.federation.specs.Heard.{LinkHeard}
use Rattle.federation.specs.declared.asking.Upstream.{Upstream}
use Rattle.conn_server.specs.Asked.{HeadFacts, Request, closes_after, head_facts, readable, refused, sends_body, told_facts}
use Rattle.conn_server.specs.Bodies.{BodyFacts, DecidedFacts, found_here, own_line}
use Rattle.conn_server.specs.Cases.{IsCase, bad_head, too_long, too_many}
use Rattle.conn_server.specs.Tallied.{CountsServed}
use Rattle.conn_server.specs.Decided.{plain}
use Rattle.conn_server.specs.Exchange.{Exchange, IsExchange, IsFrontOf, IsReplyDue, IsWhy, LeavesUnanswered, LoadFailed, MovesInOrder}
use Rattle.conn_server.specs.Lawful.{AsksLinksFor}
use Rattle.conn_server.specs.Links.{HeardFor, LinksHear, unheard}
use Rattle.conn_server.specs.Plans.{CarriesOut, EndsSo, TurnPlan, Plans, PlansNext, RepliesSo, ends_so, replies_so}
use Rattle.conn_server.specs.Replies.{bytes_of}
use Rattle.conn_server.specs.Stage.{ConnSetting, ConnStage, Wire, hand_at, conn_stage, wire_of}
use Rattle.conn_server.specs.Sent.{CountsSent, Delivers, LeavesCarried, Sends, sent_len, served_as, told_as}
use Rattle.conn_server.specs.Turns.{ClosesOn, EndsBehind, Exchanges, StopsFor, StopsOn, Turns, end_by_fault, end_of_head, turn_by}
use Rattle.conn_server.specs.declared.reason.Reason.{Reason}
use Rattle.conn_server.specs.declared.reason.Reason.TheVariants as reason
use Rattle.conn_server.specs.declared.report.Asked.TheVariants as asked
use Rattle.conn_server.specs.declared.report.BodyCause.{BodyCause}
use Rattle.conn_server.specs.declared.report.ConnEnd.{ConnEnd}
use Rattle.conn_server.specs.declared.report.ConnEnd.TheVariants as end
use Rattle.conn_server.specs.declared.send_fault.SendFault.{SendFault}
use Rattle.conn_server.specs.declared.send_fault.SendFault.TheVariants as sending
use Rattle.conn_server.specs.declared.turn.ConnTurn.{ConnTurn}
use Rattle.conn_server.proofs.CaseLemmas.{carries, finds_all}
use Rattle.conn_server.proofs.CountLemmas.{notes_none}
use Rattle.conn_server.proofs.JoinLemmas.{appends_none, hears_append}
use Rattle.conn_server.proofs.LinksLemmas.{links_none}
use Rattle.conn_server.proofs.PiecesLemmas.{cause_since}

-- the exchange of a request that was decided so
abbrev pub exchange_of : Request → List ℕ → DecidedFacts → List ℕ → Option (List ℕ) → Bool → HeardFor → List Change → ShareFacts
    → ShareFacts → Exchange
exchange_of request front decided body file last heard log own noted = record {
  request = request;
  front = front;
  served = served_as decided (sent_len (sends_body request) body);
  bytes = bytes_of decided.reason body file (closes_after request last) (sends_body request);
  answers = heard.answers;
  sent = heard.sent;
  links = heard.links;
  log = log;
  own = own;
  noted = noted;
}

-- what stopped a file since a later moment stopped it since an earlier one
carried_since : (hand : Hand) (between now : ShownTree) → hand.start.faults ≤ between.faults → (carried : BodyFacts)
    (sent heard : List Heard) (at : ℕ) (why : BodyCause) → LeavesCarried (since hand between) carried sent heard at now why
    → LeavesCarried hand carried sent heard at now why
carried_since hand between now earlier (found_here (file_found from name path n)) sent heard at why l = record {
  whole = l.whole;
  answer = l.answer;
  heard_is = l.heard_is;
  goes_on = l.goes_on;
  place = l.place;
  below = l.below;
  asked = l.asked;
  is = cause_since hand between now from.picture at earlier l.answer why l.is;
}
carried_since hand between now earlier _ sent heard at why l = absurd l

-- what is told of a head is what it says
facts_are : (head : Head) (h : RequestHead) → TellsHead head h → told_facts head ≡ head_facts h
facts_are head h t =
    let facts_of : List ℕ → List ℕ → Bool → Bool → ℕ → HeadFacts =
    λ m u c b n. record { method = m; target = u; close = c; body = b; hops = n } in
    ap (λ (m : List ℕ). facts_of m head.target.now head.close head.has_body head.hops) t.method
    ∙ (ap (λ (u : List ℕ). facts_of h.method u head.close head.has_body head.hops) t.target
    ∙ (ap (λ (c : Bool). facts_of h.method h.target c head.has_body head.hops) t.close
    ∙ (ap (λ (b : Bool). facts_of h.method h.target (head_facts h).close b head.hops) t.has_body
    ∙ ap (λ (n : ℕ). facts_of h.method h.target (head_facts h).close (head_facts h).body n) t.hops)))

-- what a read and then a write leave of the stream
moves_of : {front bytes : List ℕ} {v w : Wire} (came : List ℕ) (mid : ShownStream) → ComesFrom v.stream.left came mid.left
    → ReadsAsWanted v.held came v.stream mid → AreCalls took bytes mid.calls w.stream.calls → v.held ++ came ≡ front ++ w.held
    → v.stream.read_faults ≤ mid.read_faults → LeavesWriting v.stream mid → w.stream.left ≡ mid.left
    → w.stream.read_faults ≡ mid.read_faults → mid.write_faults ≤ w.stream.write_faults
    → Appends mid.written bytes w.stream.written → MovesInOrder front bytes v w
moves_of {front} {bytes} {v} {w} came mid comes wants writes cut later apart left reads least written = record {
  moves = record {
    came = came;
    comes = subst (λ (rest : Option (List ℕ)). ComesFrom v.stream.left came rest) (sym left) comes;
    cut = cut;
    written = subst (λ (old : Option (List ℕ)). Appends old bytes w.stream.written) apart.written written;
    read_faults = omega (arith, later, reads);
    write_faults =
        let same = apart.write_faults in
        omega (arith, same, least);
  };
  order = record {
    given = wants.reads.pieces;
    taken = writes.pieces;
    reads = wants.reads.all;
    writes = writes.all;
    told = gains_both v.stream.calls mid.calls w.stream.calls (map gave wants.reads.pieces) (map took writes.pieces)
        wants.reads.told writes.told;
    wanted = wants.wanted;
  };
}

-- the bytes that came and were held, and the stream that they came from
module _ {T : Type 0} (setting : ConnSetting T) (last : Bool) (a b : ConnStage T) (v : Wire) (mid : ShownStream) (came : List ℕ)
    (grows : IsPrefix a.log b.log) (stays : b.epoch ≡ a.epoch) (comes : ComesFrom v.stream.left came mid.left)
    (wants : ReadsAsWanted v.held came v.stream mid)
    (later : v.stream.read_faults ≤ mid.read_faults) (apart : LeavesWriting v.stream mid) where
  -- what is held of the stream in the end
  abbrev held_of : ShownStream → Wire
  held_of stream = record { stream = stream; held = v.held ++ came; over = true }

  -- nothing was asked and written
  quiet : (why : ConnEnd) → Hears (hand_at setting a) (setting.shows b.hand) [] ⊥ → LinksHear a.links [] b.links
      → OnlyNotes a.share b.share → StopsFor setting last a v unheard [] b (held_of mid) why → StopsOn setting last a v why b mid
  quiet why hears links notes cause = (
    held_of mid,
    refl,
    record {
      rest = unheard;
      part = [];
      leaves = record {
        log = grows;
        epoch = stays;
        hand = hears;
        links = links;
        share = notes;
        moves = moves_of came mid comes wants (calls_none took mid.calls) refl later apart refl refl (omega arith) (appends_none mid.written);
      };
      cause = cause;
    },
  )

  -- a request that was decided so, by what the hand and the links were asked first; and what came of its reply
  module _ (request : Request) (front : List ℕ) (decided : DecidedFacts) (told : Option Upstream) (answers : List Heard)
      (parts : List (List LinkHeard)) (noted : ShareFacts) (between : ShownTree) (after : ShownStream) (result : Result ℕ SendFault)
      (s : Sends (since (hand_at setting a) between) decided.reason decided.body (closes_after request last) (sends_body request) mid
      (setting.shows b.hand) after result)
      (case_ : IsCase setting a a.share noted b.log request decided.asked decided.reason decided.generation decided.body answers told)
      (asks : AsksLinksFor told (length a.links) request decided.asked parts) (fronts : IsFrontOf request front)
      (first : Hears (hand_at setting a) between answers (LoadFailed decided.reason answers))
      (links : LinksHear a.links parts b.links) (notes : OnlyNotes a.share noted) where
    -- the lawful exchange
    abbrev one : Exchange
    one = exchange_of request front decided s.body s.file last (record { answers = answers; sent = s.sent; links = parts }) b.log
        a.share noted

    abbrev one_is : IsExchange setting last a one
    one_is = record {
      lawful = record {
        carried = decided.body;
        told = told;
        is = case_;
        asks = asks;
        replied = record {
          body = s.body;
          file = s.file;
          shows = s.shows;
          reads = s.reads;
          carries = carries setting a a.share noted b.log request (length a.links) parts s.body s.file case_ asks s.shows;
          status = refl;
          len = refl;
          spelled = refl;
        };
        content = s.content;
      };
      complete = finds_all setting a a.share noted b.log request case_;
      fronts = fronts;
    }

    -- what the hand heard in all
    heard_all : (heard : List Heard) → s.heard ≡ heard
        → Hears (hand_at setting a) (setting.shows b.hand) (answers ++ heard) (LoadFailed decided.reason answers)
    heard_all heard same =
        subst (λ (es : List Heard). Hears (hand_at setting a) (setting.shows b.hand) (answers ++ es) (LoadFailed decided.reason answers)) same
        (hears_append (hand_at setting a) between (setting.shows b.hand) answers s.heard first s.hears)

    -- what was asked for it, where its reply isn't whole
    abbrev rest_of : HeardFor
    rest_of = record { answers = answers; sent = s.heard; links = parts }

    -- what is left then
    leaves_of : (w : Wire) (part : List ℕ) → MovesInOrder [] part v w → b.share ≡ noted → LeavesUnanswered setting rest_of part a v b w
    leaves_of w part moves same = record {
      log = grows;
      epoch = stays;
      hand = hears_as (λ f. absurd f) (heard_all s.heard refl);
      links = links;
      share = subst (λ (share : ShareFacts). OnlyNotes a.share share) (sym same) notes;
      moves = moves;
    }

    -- the reply is due
    abbrev due_of : (w : Wire) (behind : List ℕ) → w.held ≡ front ++ behind → IsWhy request w.held w.stream.left → b.share ≡ noted
        → IsReplyDue setting last a rest_of b.log b.share w
    due_of w behind cut why same = record {
      one = one;
      is = one_is;
      answers = refl;
      links = refl;
      logged = refl;
      own = refl;
      noted = sym same;
      behind = behind;
      held_is = cut;
      why = why;
    }

    -- it wasn't written, or not whole
    broken : (behind : List ℕ) → v.held ++ came ≡ front ++ behind → IsWhy request (v.held ++ came) mid.left → b.share ≡ noted
        → (fault : SendFault)
        → Delivers (since (hand_at setting a) between) decided.body (sends_body request) one.bytes s.body s.sent s.heard mid
        (setting.shows b.hand) after (Err fault) → StopsOn setting last a v (end_by_fault fault) b after
    broken behind cut why same (sending.Reply reply_fault.OutOfMemory) d =
        subst (λ (stream : ShownStream). StopsOn setting last a v end.OutOfMemory b stream) (sym d.1) (
          held_of mid,
          refl,
          record {
            rest = rest_of;
            part = [];
            leaves = leaves_of (held_of mid) []
                (moves_of came mid comes wants (calls_none took mid.calls) refl later apart refl refl (omega arith) (appends_none mid.written)) same;
            cause = (refl, d.0, due_of (held_of mid) behind cut why same);
          },
        )
    broken behind cut why same (sending.Reply reply_fault.WriteFault) d =
        let gets = d.1 in
        let still : IsWhy request (v.held ++ came) after.left =
        subst (λ (left : Option (List ℕ)). IsWhy request (v.held ++ came) left) (sym gets.reading.left) why in (
          held_of after,
          refl,
          record {
            rest = rest_of;
            part = take gets.count one.bytes;
            leaves = leaves_of (held_of after) (take gets.count one.bytes)
                (moves_of came mid comes wants gets.calls refl later apart gets.reading.left gets.reading.read_faults gets.later gets.appends) same;
            cause = (
              record {
                written = record {
                  due = due_of (held_of after) behind cut still same;
                  count = gets.count;
                  proper = gets.proper;
                  part_is = refl;
                };
                read = d.0;
              },
              let wrote = apart.write_faults in
                  let risen = gets.rose in
                  omega (arith, wrote, risen),
            );
          },
        )
    broken behind cut why same (sending.Body stop) d =
        let gets = d.gets in
        let still : IsWhy request (v.held ++ came) after.left =
        subst (λ (left : Option (List ℕ)). IsWhy request (v.held ++ came) left) (sym gets.reading.left) why in
        let rest = d.left in
        let under = d.below in (
          held_of after,
          refl,
          record {
            rest = rest_of;
            part = take d.count one.bytes;
            leaves = leaves_of (held_of after) (take d.count one.bytes)
                (moves_of came mid comes wants gets.calls refl later apart gets.reading.left gets.reading.read_faults gets.later gets.appends) same;
            cause = record {
              written = record {
                due = due_of (held_of after) behind cut still same;
                count = d.count;
                proper = omega (arith, rest, under);
                part_is = refl;
              };
              get = d.get;
              place = d.at;
              left = d.left;
              leaves = carried_since (hand_at setting a) between (setting.shows b.hand) first.hands.cause.later decided.body s.sent s.heard
                  d.at stop d.leaves;
            };
          },
        )

    -- it was written whole
    abbrev whole : (w : Wire) (closes : Bool) → v.held ++ came ≡ front ++ w.held → s.heard ≡ s.sent → GetsAll one.bytes mid w.stream
        → CountsServed one.served noted b.share → closes_after request last ≡ closes → Exchanges setting last a v one.served closes b w
    whole w closes cut all gets counts ends = record {
      x = one;
      told = refl;
      is = one_is;
      leads = record {
        log = grows;
        seen = refl;
        epoch = stays;
        hand = heard_all s.sent all;
        links = links;
        own = refl;
        share = record { notes = notes; counts = counts };
      };
      moves = moves_of came mid comes wants gets.calls cut later apart gets.reading.left gets.reading.read_faults gets.later gets.appends;
      ends = ends;
    }

    -- what is counted is what is told of it
    counts_one : (n : ℕ) → n ≡ sent_len (sends_body request) s.body → CountsServed (served_as decided n) noted b.share
        → CountsServed one.served noted b.share
    counts_one n len counts = subst (λ (k : ℕ). CountsServed (served_as decided k) noted b.share) len counts

    -- the connection ends behind it
    turn_last : (w : Wire) (why : ConnEnd) (n : ℕ) → v.held ++ came ≡ front ++ w.held → s.heard ≡ s.sent
        → GetsAll one.bytes mid w.stream → n ≡ sent_len (sends_body request) s.body → CountsServed (served_as decided n) noted b.share
        → closes_after request last ≡ true → EndsBehind last request w why
        → ClosesOn setting last a v (served_as decided n) why b w.stream
    turn_last w why n cut all gets len counts ends behind =
        subst (λ (k : ℕ). ClosesOn setting last a v (served_as decided k) why b w.stream) (sym len)
        (w, refl, record { one = whole w true cut all gets (counts_one n len counts) ends; cause = behind })

    -- what came of a head, by whether its reply closes
    head_closes : (reader_after : ReaderFacts) (head : HeadFacts) → request ≡ readable head
        → v.held ++ came ≡ front ++ reader_after.held → reader_after.over ≡ false → (n : ℕ) → s.heard ≡ s.sent
        → GetsAll one.bytes mid after → n ≡ sent_len (sends_body request) s.body → CountsServed (served_as decided n) noted b.share
        → (closes : Bool) → closes_after request last ≡ closes
        → Turns setting last a v (turn_by (Ok (served_as decided n)) closes (end_of_head last)) b (wire_of after reader_after)
    head_closes reader_after head is cut open_ n all gets len counts true ends =
        turn_last (wire_of after reader_after) (end_of_head last) n cut all gets len counts ends
        (subst (λ (r : Request). EndsBehind last r (wire_of after reader_after) (end_of_head last)) (sym is) refl)
    head_closes reader_after head is cut open_ n all gets len counts false ends = record {
      one = subst (λ (k : ℕ). Exchanges setting last a v (served_as decided k) false b (wire_of after reader_after)) (sym len)
          (whole (wire_of after reader_after) false cut all gets (counts_one n len counts) ends);
      open_ = open_;
    }

    -- what came of a head
    head_turn : (reader_after : ReaderFacts) (head : HeadFacts) → request ≡ readable head
        → v.held ++ came ≡ front ++ reader_after.held → reader_after.over ≡ false → (r : Result ℕ SendFault)
        → Delivers (since (hand_at setting a) between) decided.body (sends_body request) one.bytes s.body s.sent s.heard mid
        (setting.shows b.hand) after r → CountsSent (told_as decided r) noted b.share
        → Turns setting last a v (turn_by (told_as decided r) (closes_after request last) (end_of_head last)) b
        (wire_of after reader_after)
    head_turn reader_after head is cut open_ (Ok n) d counts =
        head_closes reader_after head is cut open_ n d.0 d.1 d.2 counts (closes_after request last) refl
    head_turn reader_after head is cut open_ (Err fault) d counts =
        broken reader_after.held cut (subst (λ (r : Request). IsWhy r (v.held ++ came) mid.left) (sym is) tt) counts fault d

    -- what came of bytes that are no head
    refused_turn : (reader_after : ReaderFacts) (fault : HeadFault) → request ≡ refused fault → front ≡ []
        → RefusesAsHead fault (v.held ++ came) mid.left → (r : Result ℕ SendFault)
        → Delivers (since (hand_at setting a) between) decided.body (sends_body request) one.bytes s.body s.sent s.heard mid
        (setting.shows b.hand) after r → CountsSent (told_as decided r) noted b.share
        → Turns setting last a v (turn_by (told_as decided r) true end.Refused) b (wire_of after reader_after)
    refused_turn reader_after fault is none refuses (Ok n) d counts =
        let gets = d.1 in
        turn_last (held_of after) end.Refused n
        (subst (λ (l : List ℕ). v.held ++ came ≡ l ++ (v.held ++ came)) (sym none) refl) d.0 d.1 d.2 counts
        (subst (λ (r : Request). closes_after r last ≡ true) (sym is) refl)
        (subst (λ (r : Request). EndsBehind last r (held_of after) end.Refused) (sym is)
        (refl, subst (λ (left : Option (List ℕ)). RefusesAsHead fault (v.held ++ came) left) (sym gets.reading.left) refuses))
    refused_turn reader_after fault is none refuses (Err stop) d counts =
        broken (v.held ++ came) (subst (λ (l : List ℕ). v.held ++ came ≡ l ++ (v.held ++ came)) (sym none) refl)
        (subst (λ (r : Request). IsWhy r (v.held ++ came) mid.left) (sym is) refuses) counts stop d

-- what came of the next request: of what was planned, by the objects as they stood then, and by what came of doing it
pub turn_of : {T : Type 0} (setting : ConnSetting T) (last : Bool) (a between : ConnStage T) (hand : T) (share : ShareFacts)
    (reader reader_after : ReaderFacts) (before mid after : ShownStream) (plan : TurnPlan) (what : ConnTurn) → reader.over ≡ false
    → IsPrefix a.log between.log → between.epoch ≡ a.epoch → PlansNext setting a reader last before plan between reader_after mid
    → CarriesOut (hand_at setting between) plan between.share mid what share (setting.shows hand) after
    → Turns setting last a (wire_of before reader) what (conn_stage between.log between.epoch hand share between.links) (wire_of after reader_after)
turn_of {T} setting last a between hand share reader reader_after before mid after plan what open_ grows origin next does =
    by_answer next.answer next.reads next.cause next.plans
  where
    v : Wire
    v = wire_of before reader

    b : ConnStage T
    b = conn_stage between.log between.epoch hand share between.links

    done : (p : TurnPlan) → plan ≡ p → CarriesOut (hand_at setting between) p between.share mid what share (setting.shows hand) after
    done p is = subst (λ (q : TurnPlan). CarriesOut (hand_at setting between) q between.share mid what share (setting.shows hand) after) is does

    silent : (why : ConnEnd) (came : List ℕ) → ComesFrom v.stream.left came mid.left → ReadsAsWanted v.held came v.stream mid → plan ≡ ends_so why → between ≡ a
        → StopsFor setting last a v unheard [] b (record { stream = mid; held = v.held ++ came; over = true }) why
        → Turns setting last a v what b (wire_of after reader_after)
    silent why came comes wants is stays cause =
        let e : EndsSo (hand_at setting between) why between.share mid what share (setting.shows hand) after = done (ends_so why) is in
        let counted : share ≡ a.share = e.uncounted ∙ ap (λ (s : ConnStage T). s.share) stays in
        subst (λ (w : ConnTurn). Turns setting last a v w b (wire_of after reader_after)) (sym e.is)
        (subst (λ (stream : ShownStream). StopsOn setting last a v why b stream) (sym e.same)
        (quiet setting last a b v mid came grows origin comes wants next.cause.later next.apart why
        (subst (λ (s : ConnStage T). Hears (hand_at setting s) (setting.shows hand) [] ⊥) stays e.hears)
        (subst (λ (s : ConnStage T). LinksHear a.links [] s.links) (sym stays) (links_none a.links))
        (subst (λ (s : ShareFacts). OnlyNotes a.share s) (sym counted) (notes_none a.share)) cause))

    by_refusal : (fault : HeadFault) (said : Reason) → (LoadFailed said [] → ⊥)
        → IsCase setting a a.share between.share b.log (refused fault) (asked.Head fault) said 0 own_line [] None
        → AnswersNext reader before reader_after mid (answer.Refused fault)
        → plan ≡ replies_so (plain (asked.Head fault) said) true true end.Refused → between ≡ a
        → Turns setting last a v what b (wire_of after reader_after)
    by_refusal fault said sound case_ reads is stays =
        let r : RepliesSo (hand_at setting between) (plain (asked.Head fault) said) true true end.Refused between.share mid what share
        (setting.shows hand) after = done (replies_so (plain (asked.Head fault) said) true true end.Refused) is in
        subst (λ (w : ConnTurn). Turns setting last a v w b (wire_of after reader_after)) (sym r.is)
        (refused_turn setting last a b v mid reads.came grows origin reads.comes reads.wanted next.cause.later next.apart (refused fault) []
        (plain (asked.Head fault) said) None [] [] between.share (setting.shows between.hand) after r.result r.sends case_ refl refl
        (hears_as sound (subst (λ (s : ConnStage T). Hears (hand_at setting a) (setting.shows s.hand) [] ⊥) (sym stays)
        (hears_none (hand_at setting a))))
        (subst (λ (s : ConnStage T). LinksHear a.links [] s.links) (sym stays) (links_none a.links))
        (subst (λ (s : ConnStage T). OnlyNotes a.share s.share) (sym stays) (notes_none a.share)) reader_after fault refl refl
        reads.says.2 r.result r.sends.delivers r.counts)

    by_answer : (given : HeadAnswer) → AnswersNext reader before reader_after mid given
        → HasCause before.read_faults mid.read_faults (IsTrue (head_failed given)) → Plans setting a given last plan between
        → Turns setting last a v what b (wire_of after reader_after)
    by_answer answer.Closed reads cause plans =
        let closed = subst (λ (o : Bool). MatchBool o ((reads.came ≡ []) × (reader_after ≡ reader))
        ((reader.held ++ reads.came ≡ []) × HasEnded mid.left × (reader_after.held ≡ []) × (reader_after.over ≡ false)))
        open_ reads.says in
        silent end.Closed reads.came reads.comes reads.wanted plans.0 plans.1 ((refl, refl), closed.0, closed.1)
    by_answer answer.ReadFault reads cause plans =
        silent end.ReadFault reads.came reads.comes reads.wanted plans.0 plans.1 ((refl, refl), cause.rose refl)
    by_answer (answer.Refused (head_fault.Cut len)) reads cause plans =
        let refusal = subst (λ (n : ℕ). RefusesAsHead (head_fault.Cut n) (reader.held ++ reads.came) mid.left) reads.says.2.0
        reads.says.2 in
        silent end.Cut reads.came reads.comes reads.wanted plans.0 plans.1 ((refl, refl), refusal)
    by_answer (answer.Refused (head_fault.Bad len)) reads cause plans =
        by_refusal (head_fault.Bad len) reason.BadHead (λ f. f) (bad_head len refl) reads plans.0 plans.1
    by_answer (answer.Refused head_fault.TooLong) reads cause plans =
        by_refusal head_fault.TooLong reason.TooLarge (λ f. f) (too_long refl) reads plans.0 plans.1
    by_answer (answer.Refused head_fault.TooMany) reads cause plans =
        by_refusal head_fault.TooMany reason.TooLarge (λ f. f) (too_many refl) reads plans.0 plans.1
    by_answer (answer.Head head) reads cause plans =
        let facts : HeadFacts = told_facts head in
        let h : RequestHead = reads.says.2 in
        let d = plans.decides in
        let r : RepliesSo (hand_at setting between) plans.decided (closes_after (readable facts) last) (sends_body (readable facts))
        (end_of_head last) between.share mid what share (setting.shows hand) after =
        done (replies_so plans.decided (closes_after (readable facts) last) (sends_body (readable facts)) (end_of_head last)) plans.is in
        subst (λ (w : ConnTurn). Turns setting last a v w b (wire_of after reader_after)) (sym r.is)
        (head_turn setting last a b v mid reads.came grows origin reads.comes reads.wanted next.cause.later next.apart (readable facts) (print_request h)
        plans.decided d.told d.answers d.parts between.share (setting.shows between.hand) after r.result r.sends d.is d.asks
        (record { head = h; valid = reads.says.3; says = facts_are head h reads.says.5; printed = refl }) d.hears d.links d.notes
        reader_after facts refl reads.says.4 reads.says.1 r.result r.sends.delivers r.counts)
