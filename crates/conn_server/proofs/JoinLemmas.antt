-- What follows of a row, object by object.
use Rattle.std.proofs.Common.{◌≡◌, ℕ, ◌+◌, ◌≤◌, Bool, true, false, List, [], ◌∷◌, ◌++◌, map, length, Option, Some, None}
use Rattle.std.proofs.Common.{inl, inr, refl, sym, ◌∙◌, ap, subst, append_assoc, append-nil, arith, cond}
use Rattle.std.proofs.lemmas.Bool.{false≢true}
use Rattle.std.proofs.lemmas.Grind.{flat_map-append}
use Rattle.std.proofs.lemmas.List.{map-append}
use Rattle.std.proofs.lemmas.List.Sums.{sum_by-append}
use Rattle.std.specs.List.{flat_map, count_by}
use Rattle.std.specs.Option.{IsSome, option_map}
use mathlib.Core.List.{IsPrefix}
use Rattle.row_types.specs.Faults.{HasCause, summed}
use Rattle.index_lock.proofs.Prefixes.{prefix_self, prefix_trans}
use Rattle.index_rows.specs.declared.change.Change.{Change}
use Rattle.tree_trait.specs.Heard.{Heard}
use Rattle.tree_trait.specs.Shown.{ShownTree}
use Rattle.http_wire.specs.Sink.{Appends}
use Rattle.http_wire.specs.Source.{ComesFrom}
use Rattle.http_wire.proofs.CallLemmas.{gains_nothing}
use Rattle.answer_core.specs.Loads.{Hand, Hears}
use Rattle.answer_core.proofs.HearLemmas.{hears_none, hears_then}
use Rattle.answer_core.proofs.SinceLemmas.{StillTo, since}
use Rattle.federation.specs.AskAll.{all_heard}
use Rattle.federation.specs.Heard.{LinkHeard, link_failed}
use Rattle.federation.specs.Link.{ShownLink}
use Rattle.conn_server.specs.Connection.{AreExchanges, GoOn, IsRow, LogsGrow, ExchangesRow, none, more, is_last_request, links_heard}
use Rattle.conn_server.specs.Exchange.{Exchange, IsExchange, LeadsByExchange, LeavesUnanswered, LoadFailed, Moves, MovesInOrder, asked_for}
use Rattle.conn_server.specs.Asked.{closes_after}
use Rattle.conn_server.specs.Lawful.{AsksLinksFor}
use Rattle.conn_server.specs.Links.{HeardFor, LinksFailed, LinksHear, all_parts, both_parts, hand_heard, unheard}
use Rattle.conn_server.specs.Replies.{says_read_fault, says_upstream_fault}
use Rattle.conn_server.specs.Stage.{ConnSetting, ConnStage, Wire, hand_at}
use Rattle.conn_server.specs.declared.reason.Reason.{Reason}
use Rattle.conn_server.specs.declared.reason.Reason.TheVariants as reason
use Rattle.conn_server.proofs.CaseLemmas.{a_link_failed, case_at, finds_all}
use Rattle.conn_server.proofs.CountLemmas.{notes_none}
use Rattle.conn_server.proofs.LinksLemmas.{all_more, both_none, counts_rose, failed_later, failed_then, links_none, links_then, same_links}

-- Places and logs

zero_more : (n : ℕ) → n ≡ 0 + n
zero_more n = omega arith

are_more : {T : Type 0} (setting : ConnSetting T) (at : ConnStage T) (place : ℕ) (xs : List Exchange) (x : Exchange)
    → AreExchanges setting at place xs → IsExchange setting (is_last_request (place + length xs)) at x
    → AreExchanges setting at place (xs ++ x ∷ [])
are_more setting at place [] x a b =
    let same : place + length {A = Exchange} [] ≡ place = omega arith in
    (subst (λ (p : ℕ). IsExchange setting (is_last_request p) at x) same b, tt)
are_more setting at place (y ∷ xs) x a b =
    let same : place + length (y ∷ xs) ≡ (place + 1) + length xs = omega arith in (
      a.0,
      are_more setting at (place + 1) xs x a.1 (subst (λ (p : ℕ). IsExchange setting (is_last_request p) at x) same b),
    )

pub goes_more : (place : ℕ) (xs : List Exchange) (x : Exchange) → GoOn place xs
    → closes_after x.request (is_last_request (place + length xs)) ≡ false → GoOn place (xs ++ x ∷ [])
goes_more place [] x a b =
    let same : place + length {A = Exchange} [] ≡ place = omega arith in
    (subst (λ (p : ℕ). closes_after x.request (is_last_request p) ≡ false) same b, tt)
goes_more place (y ∷ xs) x a b =
    let same : place + length (y ∷ xs) ≡ (place + 1) + length xs = omega arith in
    (a.0, goes_more (place + 1) xs x a.1 (subst (λ (p : ℕ). closes_after x.request (is_last_request p) ≡ false) same b))

logs_later : (first log after : List Change) (xs : List Exchange) → LogsGrow first xs log → IsPrefix log after
    → LogsGrow first xs after
logs_later first log after [] g p = prefix_trans first log after g p
logs_later first log after (x ∷ xs) g p = (g.0, logs_later x.log log after xs g.1 p)

logs_more : (first log : List Change) (xs : List Exchange) (x : Exchange) → LogsGrow first xs log → IsPrefix log x.log
    → LogsGrow first (xs ++ x ∷ []) x.log
logs_more first log [] x g p = (prefix_trans first log x.log g p, prefix_self x.log)
logs_more first log (y ∷ xs) x g p = (g.0, logs_more y.log log xs x g.1 p)

-- The hand

-- some was heard, and then more; the reason for a fault is that of the first
pub hears_append : (hand : Hand) (now later : ShownTree) (a b : List Heard) {F G : Type 0} → Hears hand now a F
    → Hears (since hand now) later b G → Hears hand later (a ++ b) F
hears_append hand now later a b first second = hears_then first second (λ f. inl f)

is_fault_of : (why : Reason) (answers : List Heard) → says_read_fault why ≡ true → LoadFailed why answers
is_fault_of reason.ReadFault answers e = tt
is_fault_of _ answers e = absurd (false≢true e)

-- a load failed for a request that was answered so
counted : (x : Exchange) (now later : ℕ) → HasCause now later (LoadFailed x.served.reason x.answers)
    → summed now (count_by (λ y. says_read_fault y.served.reason) (x ∷ [])) ≤ later
counted x now later c =
    by_test (says_read_fault x.served.reason) refl
  where
    by_test : (b : Bool) → says_read_fault x.served.reason ≡ b → summed now (0 + cond b 1 0) ≤ later
    by_test true e =
        let risen = c.rose (is_fault_of x.served.reason x.answers e) in
        omega (arith, risen)
    by_test false e =
        let later_on = c.later in
        omega (arith, later_on)

-- The links

-- a link failed for a request that was answered so
counted_link : {T : Type 0} (setting : ConnSetting T) (last : Bool) (at : ConnStage T) (x : Exchange) (now later : List ShownLink)
    → IsExchange setting last at x → LinksHear now x.links later
    → LinksFailed now (count_by (λ y. says_upstream_fault y.served.reason) (x ∷ [])) later
counted_link setting last at x now later is hears =
    counts_rose now later x.links (count_by (λ y. says_upstream_fault y.served.reason) (x ∷ [])) hears
    (by_test (says_upstream_fault x.served.reason) refl)
  where
    by_test : (b : Bool) → says_upstream_fault x.served.reason ≡ b → 0 + cond b 1 0 ≤ count_by link_failed (all_heard x.links)
    by_test true e =
        let some = a_link_failed setting at x.own x.noted x.log x.request (length at.links) x.links is.lawful.is is.lawful.asks e in
        omega (arith, some)
    by_test false e = omega arith

-- what links heard for these requests, and for one more
heard_more : (xs : List Exchange) (x : Exchange) → both_parts (links_heard xs) x.links ≡ links_heard (xs ++ x ∷ [])
heard_more xs x =
    all_more (map (λ y. y.links) xs) x.links
    ∙ ap (λ (all : List (List (List LinkHeard))). all_parts all) (sym (map-append (λ (y : Exchange). y.links) xs (x ∷ [])))

-- The stream

comes_append : (a b d : Option (List ℕ)) (c e : List ℕ) → ComesFrom a c b → ComesFrom b e d → ComesFrom a (c ++ e) d
comes_append a b None c e p q = p ∙ ap (λ (o : Option (List ℕ)). option_map (λ left. c ++ left) o) q
comes_append a b (Some rest) c e p q =
    p ∙ (ap (λ (o : Option (List ℕ)). option_map (λ left. c ++ left) o) q
    ∙ ap (λ (l : List ℕ). Some l) (sym (append_assoc c e rest)))

both : (a : Option (List ℕ)) (b e : List ℕ)
    → option_map (λ w. w ++ e) (option_map (λ w. w ++ b) a) ≡ option_map (λ w. w ++ (b ++ e)) a
both None b e = refl
both (Some w) b e = ap (λ (l : List ℕ). Some l) (append_assoc w b e)

appends_append : (a m n : Option (List ℕ)) (b e : List ℕ) → Appends a b m → Appends m e n → Appends a (b ++ e) n
appends_append a None n b e p q = λ some. absurd (false≢true (subst (λ (o : Option (List ℕ)). IsSome o) (q some) some))
appends_append a (Some w) n b e p q =
    λ some. q some ∙ (ap (λ (o : Option (List ℕ)). option_map (λ w. w ++ e) o) (p refl) ∙ both a b e)

comes_none : (a : Option (List ℕ)) → ComesFrom a [] a
comes_none None = refl
comes_none (Some left) = refl

pub appends_none : (a : Option (List ℕ)) → Appends a [] a
appends_none None = λ some. refl
appends_none (Some w) = λ some. ap (λ (l : List ℕ). Some l) (sym (append-nil w))

abbrev moves_none : (v : Wire) → Moves [] [] v v
moves_none v = record {
  came = [];
  comes = comes_none v.stream.left;
  cut = append-nil v.held;
  written = appends_none v.stream.written;
  read_faults = omega arith;
  write_faults = omega arith;
}

in_order_none : (v : Wire) → MovesInOrder [] [] v v
in_order_none v = record {
  moves = moves_none v;
  order = record { given = []; taken = []; reads = refl; writes = refl; told = gains_nothing v.stream.calls; wanted = tt };
}

moves_then : {f g d e : List ℕ} {v w u : Wire} → Moves f d v w → Moves g e w u → Moves (f ++ g) (d ++ e) v u
moves_then {f} {g} {d} {e} {v} {w} {u} one two = record {
  came = one.came ++ two.came;
  comes = comes_append v.stream.left w.stream.left u.stream.left one.came two.came one.comes two.comes;
  cut = sym (append_assoc v.held one.came two.came)
      ∙ (ap (λ (l : List ℕ). l ++ two.came) one.cut
      ∙ (append_assoc f w.held two.came
      ∙ (ap (λ (l : List ℕ). f ++ l) two.cut ∙ sym (append_assoc f g u.held))));
  written = appends_append v.stream.written w.stream.written u.stream.written d e one.written two.written;
  read_faults =
      let a = one.read_faults in
      let b = two.read_faults in
      omega (arith, a, b);
  write_faults =
      let a = one.write_faults in
      let b = two.write_faults in
      omega (arith, a, b);
}

moves_as : {f f' d d' : List ℕ} {v w : Wire} → f ≡ f' → d ≡ d' → Moves f d v w → Moves f' d' v w
moves_as {f} {f'} {d} {d'} {v} {w} same also m =
    subst (λ (front : List ℕ). Moves front d' v w) same (subst (λ (bytes : List ℕ). Moves f bytes v w) also m)

-- All of them

still_to : {T : Type 0} {setting : ConnSetting T} {a b : ConnStage T} {v w : Wire} {xs : List Exchange} {rest : HeardFor}
    {part : List ℕ} → IsRow setting a v xs rest part b w → StillTo (hand_at setting a) (setting.shows b.hand)
still_to row still = row.hears.hands.still still

-- an exchange, as seen from an earlier stage
pub exchange_at : {T : Type 0} (setting : ConnSetting T) (last : Bool) (a b : ConnStage T) (x : Exchange)
    → StillTo (hand_at setting a) (setting.shows b.hand) → b.epoch ≡ a.epoch → length b.links ≡ length a.links
    → IsExchange setting last b x → IsExchange setting last a x
exchange_at setting last a b x keeps origin same is =
    let case_ = case_at setting a b keeps origin x.log is.lawful.is in record {
      lawful = record {
        carried = is.lawful.carried;
        told = is.lawful.told;
        is = case_;
        asks = subst (λ (links : ℕ). AsksLinksFor is.lawful.told links x.request x.served.asked x.links) same is.lawful.asks;
        replied = is.lawful.replied;
        content = is.lawful.content;
      };
      complete = finds_all setting a x.own x.noted x.log x.request case_;
      fronts = is.fronts;
    }

flat_none : {T : Type 0} (setting : ConnSetting T) (a : ConnStage T) (v : Wire) → IsRow setting a v [] unheard [] a v
flat_none setting a v = record {
  are = tt;
  logs = prefix_self a.log;
  epoch = refl;
  hears = hears_none (hand_at setting a);
  asks = links_none a.links;
  failed = omega arith;
  links_failed = inr (omega arith);
  moves = moves_none v;
}

-- the parts of the exchanges, and one more
flat_one : {A : Type 0} (f : Exchange → List A) (xs : List Exchange) (x : Exchange)
    → flat_map f (xs ++ x ∷ []) ≡ flat_map f xs ++ f x
flat_one f xs x =
    flat_map-append f xs (x ∷ []) ∙ ap (λ l. flat_map f xs ++ l) (append-nil (f x))

flat_more : {T : Type 0} {setting : ConnSetting T} {a b c : ConnStage T} {v w u : Wire} {xs : List Exchange} (x : Exchange)
    → IsRow setting a v xs unheard [] b w → IsExchange setting (is_last_request (length xs)) b x → LeadsByExchange setting x b c
    → Moves x.front x.bytes w u → IsRow setting a v (xs ++ x ∷ []) unheard [] c u
flat_more {T} {setting} {a} {b} {c} {v} {w} {u} {xs} x row is leads moves = record {
  are = are_more setting a 0 xs x row.are (subst (λ (p : ℕ). IsExchange setting (is_last_request p) a x) (zero_more (length xs))
      (exchange_at setting (is_last_request (length xs)) a b x (still_to row) row.epoch
      (same_links a.links b.links (both_parts (links_heard xs) []) row.asks) is));
  logs = subst (λ (log : List Change). LogsGrow a.log (xs ++ x ∷ []) log) leads.seen
      (logs_more a.log b.log xs x row.logs (subst (λ (log : List Change). IsPrefix b.log log) (sym leads.seen) leads.log));
  epoch = leads.epoch ∙ row.epoch;
  hears = subst (λ (es : List Heard). Hears (hand_at setting a) (setting.shows c.hand) es ⊥)
      (ap (λ (l : List Heard). l ++ asked_for x) (append-nil (flat_map asked_for xs))
      ∙ (sym (flat_one asked_for xs x) ∙ sym (append-nil (flat_map asked_for (xs ++ x ∷ [])))))
      (hears_append (hand_at setting a) (setting.shows b.hand) (setting.shows c.hand) (flat_map asked_for xs ++ []) (asked_for x)
      row.hears leads.hand);
  asks = subst (λ (parts : List (List LinkHeard)). LinksHear a.links parts c.links)
      (ap (λ (parts : List (List LinkHeard)). both_parts parts x.links) (both_none (links_heard xs))
      ∙ (heard_more xs x ∙ sym (both_none (links_heard (xs ++ x ∷ [])))))
      (links_then a.links b.links c.links (both_parts (links_heard xs) []) x.links row.asks leads.links);
  failed =
      let one = row.failed in
      let two = counted x (setting.shows b.hand).faults (setting.shows c.hand).faults leads.hand.hands.cause in
      let all = sum_by-append (λ (y : Exchange). cond (says_read_fault y.served.reason) 1 0) xs (x ∷ []) in
      omega (arith, one, two, all);
  links_failed = subst (λ (count : ℕ). LinksFailed a.links count c.links)
      (sym (sum_by-append (λ (y : Exchange). cond (says_upstream_fault y.served.reason) 1 0) xs (x ∷ [])))
      (failed_then a.links b.links c.links x.links (count_by (λ y. says_upstream_fault y.served.reason) xs)
      (count_by (λ y. says_upstream_fault y.served.reason) (x ∷ [])) leads.links row.links_failed
      (counted_link setting (is_last_request (length xs)) b x b.links c.links is leads.links));
  moves = moves_as (sym (flat_one (λ y. y.front) xs x))
      (ap (λ (l : List ℕ). l ++ x.bytes) (append-nil (flat_map (λ y. y.bytes) xs))
      ∙ (sym (flat_one (λ y. y.bytes) xs x) ∙ sym (append-nil (flat_map (λ y. y.bytes) (xs ++ x ∷ [])))))
      (moves_then row.moves moves);
}

-- what stands behind a row
pub flat_leaves : {T : Type 0} {setting : ConnSetting T} {a b c : ConnStage T} {v w u : Wire} {xs : List Exchange} {rest : HeardFor}
    {part : List ℕ} → IsRow setting a v xs unheard [] b w → LeavesUnanswered setting rest part b w c u → IsRow setting a v xs rest part c u
flat_leaves {T} {setting} {a} {b} {c} {v} {w} {u} {xs} {rest} {part} row leaves = record {
  are = row.are;
  logs = logs_later a.log b.log c.log xs row.logs leaves.log;
  epoch = leaves.epoch ∙ row.epoch;
  hears = subst (λ (es : List Heard). Hears (hand_at setting a) (setting.shows c.hand) es ⊥)
      (ap (λ (l : List Heard). l ++ hand_heard rest) (append-nil (flat_map asked_for xs)))
      (hears_append (hand_at setting a) (setting.shows b.hand) (setting.shows c.hand) (flat_map asked_for xs ++ []) (hand_heard rest)
      row.hears leaves.hand);
  asks = subst (λ (parts : List (List LinkHeard)). LinksHear a.links parts c.links)
      (ap (λ (parts : List (List LinkHeard)). both_parts parts rest.links) (both_none (links_heard xs)))
      (links_then a.links b.links c.links (both_parts (links_heard xs) []) rest.links row.asks leaves.links);
  failed =
      let one = row.failed in
      let two = leaves.hand.hands.cause.later in
      omega (arith, one, two);
  links_failed = failed_later a.links b.links c.links rest.links (count_by (λ y. says_upstream_fault y.served.reason) xs) leaves.links
      row.links_failed;
  moves = moves_as (append-nil (flat_map (λ y. y.front) xs))
      (ap (λ (l : List ℕ). l ++ part) (append-nil (flat_map (λ y. y.bytes) xs)))
      (moves_then row.moves leaves.moves.moves);
}

pub leaves_none : {T : Type 0} (setting : ConnSetting T) (a : ConnStage T) (v : Wire) → LeavesUnanswered setting unheard [] a v a v
leaves_none setting a v = record {
  log = prefix_self a.log;
  epoch = refl;
  hand = hears_none (hand_at setting a);
  links = links_none a.links;
  share = notes_none a.share;
  moves = in_order_none v;
}

-- of a row all of them follow
pub flat_row : {T : Type 0} {setting : ConnSetting T} {a : ConnStage T} {v : Wire} (xs : List Exchange) (b : ConnStage T) (w : Wire)
    → ExchangesRow setting a v xs b w → IsRow setting a v xs unheard [] b w
flat_row {T} {setting} {a} {v} xs b w none = flat_none setting a v
flat_row {T} {setting} {a} {v} xs b w (more ys c u x d t row is leads moves) =
    flat_more x (flat_row ys c u row) is leads moves.moves
