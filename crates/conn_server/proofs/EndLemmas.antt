-- A connection: one request more, and how it ended.
use Rattle.std.proofs.Common.{◌≡◌, ℕ, ◌+◌, ◌<◌, ◌||◌, inl, inr, Bool, true, false, List, [], ◌∷◌, ◌++◌, map, length}
use Rattle.std.proofs.Common.{refl, sym, ◌∙◌, ap, subst, arith}
use Rattle.std.proofs.lemmas.Bool.{false≢true}
use Rattle.std.proofs.lemmas.Bool.Decides.{nat_tests}
use Rattle.std.proofs.lemmas.List.{length-append, length-map, map-append}
use Rattle.http_wire.specs.Stream.{ShownStream}
use Rattle.conn_server.specs.Asked.{HeadFacts, Request, closes_after, readable, refused}
use Rattle.conn_server.specs.Connection.{EndsConnection, GoOn, LastCloses, ExchangesRow, Serves, ServesAll, fresh_wire, is_last_request, more, none}
use Rattle.conn_server.specs.Tallied.{TalliesServed}
use Rattle.conn_server.specs.Exchange.{Exchange}
use Rattle.conn_server.specs.Links.{HeardFor, unheard}
use Rattle.conn_server.specs.Stage.{ConnSetting, ConnStage, Wire}
use Rattle.conn_server.specs.Turns.{ClosesConnection, EndsBehind, Exchanges, GoesOnBehind, Stops, StopsFor, Turns, end_of_head}
use Rattle.conn_server.specs.declared.connection.TheConstants.{REQUESTS}
use Rattle.conn_server.specs.declared.report.ConnEnd.{ConnEnd}
use Rattle.conn_server.specs.declared.report.ConnEnd.TheVariants as end
use Rattle.conn_server.specs.declared.report.ConnReport.{ConnReport}
use Rattle.conn_server.specs.declared.report.Served.{Served}
use Rattle.conn_server.specs.declared.turn.ConnTurn.{ConnTurn}
use Rattle.conn_server.proofs.CountLemmas.{notes_none, tallies_notes, told_tallies}
use Rattle.conn_server.proofs.JoinLemmas.{flat_leaves, flat_row, goes_more, leaves_none}

-- these requests were answered, and the connection goes on
pub record IsOpen {T : Type 0} (setting : ConnSetting T) (a : ConnStage T) (v : Wire) (told : List Served) (b : ConnStage T) (w : Wire)
    : Type 0 where
  pub xs : List Exchange
  pub told_is : map (λ x. x.served) xs ≡ told
  pub goes : GoOn 0 xs
  pub row : ExchangesRow setting a v xs b w
  pub open_ : w.over ≡ false

-- before the first request
pub open_first : {T : Type 0} (setting : ConnSetting T) (a : ConnStage T) (v : Wire) (told : List Served) → told ≡ [] → v.over ≡ false
    → IsOpen setting a v told a v
open_first setting a v told is open_ = record { xs = []; told_is = sym is; goes = tt; row = none; open_ = open_ }

-- the same requests
pub open_as : {T : Type 0} {setting : ConnSetting T} {a : ConnStage T} {v : Wire} {told known : List Served} {b : ConnStage T} {w : Wire}
    → told ≡ known → IsOpen setting a v told b w → IsOpen setting a v known b w
open_as {T} {setting} {a} {v} {told} {known} {b} {w} is open_ = subst (λ (l : List Served). IsOpen setting a v l b w) is open_

-- what came of a request, with the rows, its place and what came of it as they are known to be
pub turn_as : {T : Type 0} (setting : ℕ → ConnSetting T) (a : ConnStage T) (v : Wire) (b : ConnStage T) (w : Wire) {rows known_rows : ℕ}
    {last place : Bool} {what known : ConnTurn} → rows ≡ known_rows → last ≡ place → what ≡ known → Turns (setting rows) last a v what b w
    → Turns (setting known_rows) place a v known b w
turn_as {T} setting a v b w {rows} {known_rows} {last} {place} {what} {known} same at is t =
    subst (λ (n : ℕ). Turns (setting n) place a v known b w) same
    (subst (λ (k : ConnTurn). Turns (setting rows) place a v k b w) is (subst (λ (l : Bool). Turns (setting rows) l a v what b w) at t))

module _ {T : Type 0} {setting : ConnSetting T} {a : ConnStage T} {v : Wire} {told : List Served} {b : ConnStage T} {w : Wire}
    (base : IsOpen setting a v told b w) where
  -- as many requests were answered as are told
  pub same_length : length base.xs ≡ length told
  same_length = sym (length-map base.xs (λ x. x.served)) ∙ ap length base.told_is

  -- what is told, and then one request more
  told_more : (x : Exchange) (served : Served) → x.served ≡ served → map (λ x. x.served) (base.xs ++ x ∷ []) ≡ told ++ served ∷ []
  told_more x served one =
      map-append (λ x. x.served) base.xs (x ∷ [])
      ∙ (ap (λ (l : List Served). l ++ x.served ∷ []) base.told_is ∙ ap (λ (s : Served). told ++ s ∷ []) one)

  one_more : (served : Served) (closes : Bool) (c : ConnStage T) (u : Wire)
      → (e : Exchanges setting (is_last_request (length base.xs)) b w served closes c u) → ExchangesRow setting a v (base.xs ++ e.x ∷ []) c u
  one_more served closes c u e = more base.xs b w e.x c u base.row e.is e.leads e.moves

  -- a request that was answered, behind which the connection goes on
  pub goes_on : (served : Served) (c : ConnStage T) (u : Wire) → GoesOnBehind setting (is_last_request (length told)) b w served c u
      → IsOpen setting a v (told ++ served ∷ []) c u
  goes_on served c u goes =
      let at : GoesOnBehind setting (is_last_request (length base.xs)) b w served c u =
      subst (λ (n : ℕ). GoesOnBehind setting (is_last_request n) b w served c u) (sym same_length) goes in
      record {
        xs = base.xs ++ at.one.x ∷ [];
        told_is = told_more at.one.x served at.one.told;
        goes = goes_more 0 base.xs at.one.x base.goes
            (subst (λ (n : ℕ). closes_after at.one.x.request (is_last_request n) ≡ false) (zero_more (length base.xs)) at.one.ends);
        row = one_more served false c u at.one;
        open_ = at.open_;
      }
    where
      zero_more : (n : ℕ) → n ≡ 0 + n
      zero_more n = omega arith

  -- a connection whose last reply closes
  pub ends_last : (served : Served) (why : ConnEnd) (report : ConnReport) (c : ConnStage T) (after : ShownStream)
      → length told < REQUESTS
      → (u : Wire) × (u.stream ≡ after) × ClosesConnection setting (is_last_request (length told)) b w served why c u
      → report.served.items ≡ told ++ served ∷ [] → report.end ≡ why
      → (u : Wire) × (u.stream ≡ after) × ServesAll setting a v report c u
  ends_last served why report c after few closes items is =
      let u : Wire = closes.0 in
      let at : ClosesConnection setting (is_last_request (length base.xs)) b w served why c u =
      subst (λ (n : ℕ). ClosesConnection setting (is_last_request n) b w served why c u) (sym same_length) closes.2 in
      let x : Exchange = at.one.x in
      let row : ExchangesRow setting a v (base.xs ++ x ∷ []) c u = one_more served true c u at.one in (
        u,
        closes.1,
        record {
          xs = base.xs ++ x ∷ [];
          told = told_more x served at.one.told ∙ sym items;
          at = c;
          held_at = u;
          row = row;
          rest = unheard;
          part = [];
          leaves = leaves_none setting c u;
          flat = flat_row (base.xs ++ x ∷ []) c u row;
          tallies = told_tallies (base.xs ++ x ∷ []) report.served.items c.share (told_more x served at.one.told ∙ sym items) row
              (notes_none c.share);
          ends = subst (λ (e : ConnEnd). EndsConnection setting a v e (base.xs ++ x ∷ []) c unheard [] c u) (sym is)
              (by_request x u at.one.ends x.request refl at.cause);
        },
      )
    where
      short : length base.xs < REQUESTS
      short = subst (λ (n : ℕ). n < REQUESTS) (sym same_length) few

      closing : (x : Exchange) (r : Request) → x.request ≡ r → closes_after x.request (is_last_request (length base.xs)) ≡ true
          → LastCloses r (base.xs ++ x ∷ [])
      closing x r asks ends = record {
        going = base.xs;
        last = x;
        are = refl;
        goes = base.goes;
        asks = asks;
        closes = subst (λ (q : Request). closes_after q (is_last_request (length base.xs)) ≡ true) asks ends;
      }

      -- Limit exactly at the last place
      by_head : (x : Exchange) (u : Wire) (head : HeadFacts) → LastCloses (readable head) (base.xs ++ x ∷ []) → (l : Bool)
          → is_last_request (length base.xs) ≡ l → EndsConnection setting a v (end_of_head l) (base.xs ++ x ∷ []) c unheard [] c u
      by_head x u head last true e =
          let all = length-append base.xs (x ∷ []) in
          (grind (arith, nat_tests, e, all), (refl, refl), (head, last))
      by_head x u head last false e =
          let all = length-append base.xs (x ∷ []) in
          let less = short in
          (grind (arith, nat_tests, e, all, less), (refl, refl), inl (head, last))

      by_request : (x : Exchange) (u : Wire) → closes_after x.request (is_last_request (length base.xs)) ≡ true → (r : Request)
          → x.request ≡ r → EndsBehind (is_last_request (length base.xs)) r u why → EndsConnection setting a v why (base.xs ++ x ∷ []) c unheard [] c u
      by_request x u ends (readable head) asks cause =
          subst (λ (e : ConnEnd). EndsConnection setting a v e (base.xs ++ x ∷ []) c unheard [] c u) (sym cause)
          (by_head x u head (closing x (readable head) asks ends) (is_last_request (length base.xs)) refl)
      by_request x u ends (refused fault) asks cause =
          subst (λ (e : ConnEnd). EndsConnection setting a v e (base.xs ++ x ∷ []) c unheard [] c u) (sym cause.0)
          ((refl, refl), fault, closing x (refused fault) asks ends, cause.1)

  -- a connection that ended without a further whole reply
  pub ends_by : (why : ConnEnd) (report : ConnReport) (c : ConnStage T) (after : ShownStream) → length told < REQUESTS
      → (u : Wire) × (u.stream ≡ after) × Stops setting (is_last_request (length told)) b w why c u
      → report.served.items ≡ told → report.end ≡ why
      → (u : Wire) × (u.stream ≡ after) × ServesAll setting a v report c u
  ends_by why report c after few stops items is =
      let u : Wire = stops.0 in
      let at : Stops setting (is_last_request (length base.xs)) b w why c u =
      subst (λ (n : ℕ). Stops setting (is_last_request n) b w why c u) (sym same_length) stops.2 in (
        u,
        stops.1,
        record {
          xs = base.xs;
          told = base.told_is ∙ sym items;
          at = b;
          held_at = w;
          row = base.row;
          rest = at.rest;
          part = at.part;
          leaves = at.leaves;
          flat = flat_leaves (flat_row base.xs b w base.row) at.leaves;
          tallies = told_tallies base.xs report.served.items c.share (base.told_is ∙ sym items) base.row at.leaves.share;
          ends = subst (λ (e : ConnEnd). EndsConnection setting a v e base.xs b at.rest at.part c u) (sym is)
              (by_why u at.rest at.part why at.cause);
        },
      )
    where
      short : length base.xs < REQUESTS
      short = subst (λ (n : ℕ). n < REQUESTS) (sym same_length) few

      by_why : (u : Wire) (rest : HeardFor) (part : List ℕ) (e : ConnEnd)
          → StopsFor setting (is_last_request (length base.xs)) b w rest part c u e → EndsConnection setting a v e base.xs b rest part c u
      by_why u rest part end.Closed cause =
          (short, cause.0, inr (record { goes = base.goes; none = cause.1; ended = cause.2 }))
      by_why u rest part end.Cut cause = (base.goes, cause.0, cause.1)
      by_why u rest part end.ReadFault cause =
          let start = (flat_row base.xs b w base.row).moves.read_faults in
          let risen = cause.1 in
          (base.goes, cause.0, omega (arith, start, risen))
      by_why u rest part end.WriteFault cause =
          let start = (flat_row base.xs b w base.row).moves.write_faults in
          let risen = cause.1 in
          (base.goes, cause.0, omega (arith, start, risen))
      by_why u rest part (end.BodyFault why) cause = (base.goes, cause)
      by_why u rest part end.OutOfMemory cause = (base.goes, cause.0, cause.1, inr cause.2)
      by_why u rest part end.Refused cause = absurd cause
      by_why u rest part end.Limit cause = absurd cause

-- no memory for the report or the reader: nothing was read or written
pub ends_at_once : {T : Type 0} (setting : ConnSetting T) (a : ConnStage T) (before : ShownStream) (report : ConnReport)
    → report.served.items ≡ [] → report.end ≡ end.OutOfMemory → Serves setting a before report a before
ends_at_once {T} setting a before report nothing is = (
  fresh_wire before,
  refl,
  record {
    xs = [];
    told = sym nothing;
    at = a;
    held_at = fresh_wire before;
    row = none;
    rest = unheard;
    part = [];
    leaves = leaves_none setting a (fresh_wire before);
    flat = flat_row [] a (fresh_wire before) none;
    tallies = subst (λ (told : List Served). TalliesServed told a.share a.share) (sym nothing)
        (tallies_notes a.share a.share (notes_none a.share));
    ends = subst (λ (why : ConnEnd). EndsConnection setting a (fresh_wire before) why [] a unheard [] a (fresh_wire before)) (sym is)
        (tt, refl, refl, inl (record { none = refl; stands = refl; stays = refl }));
  },
)

or_last : (a b : Bool) → (a || b || true) ≡ true
or_last true b = refl
or_last false true = refl
or_last false false = refl

-- the last reply that a connection has closes
closes_last : (request : Request) → closes_after request true ≡ true
closes_last (readable head) = or_last head.close head.body
closes_last (refused fault) = refl

-- while the connection goes on, there are fewer replies than it has
pub goes_few : (place : ℕ) (xs : List Exchange) → GoOn place xs → place < REQUESTS → place + length xs < REQUESTS
goes_few place [] g few = omega (arith, few)
goes_few place (x ∷ xs) g few = by_place (goes_few (place + 1) xs g.1) (is_last_request place) refl
  where
    by_place : (place + 1 < REQUESTS → (place + 1) + length xs < REQUESTS) → (b : Bool) → is_last_request place ≡ b
        → place + length (x ∷ xs) < REQUESTS
    by_place rest true e = absurd (false≢true (sym g.0 ∙ (ap (λ (b : Bool). closes_after x.request b) e ∙ closes_last x.request)))
    by_place rest false e =
        let next : place + 1 < REQUESTS = grind (arith, nat_tests, few, e) in
        let more = rest next in
        omega (arith, more)
