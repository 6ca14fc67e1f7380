-- One request after the other is answered, until the connection ends.
use Rattle.std.proofs.Common.{◌≡◌, ℕ, ◌+◌, ◌<◌, List, [], ◌∷◌, ◌++◌, length, refl, sym, ◌∙◌, ap, subst, arith}
use Rattle.std.specs.Prelude.{◌==◌}
use Rattle.http_wire.specs.ReaderFacts.{ReaderFacts}
use Rattle.index_lock.proofs.Later.{later_self, later_trans}
use Rattle.conn_server.specs.Connection.{fresh_wire}
use Rattle.conn_server.specs.Objects.{setting_by, stage_by}
use Rattle.conn_server.specs.Stage.{conn_setting, wire_of}
use Rattle.conn_server.specs.declared.connection.TheConstants.{REQUESTS}
use Rattle.conn_server.specs.declared.report.Served.{Served}
use Rattle.conn_server.proofs.EndLemmas.{IsOpen, ends_by, ends_last, goes_few, goes_on, open_as, open_first, same_length, turn_as}
use Rattle.conn_server.proofs.connection.serve_all.Goals as goal

pub loop-entry-init : goal.loop-entry-init
loop-entry-init g c =
    let setting = setting_by g.W.Truth.true_row g.T.Tree.told g.W.Truth.version g.T.Tree.shows c.args.service.now.folders.now c.args.objects.now in
    let a = stage_by g.L.Link.shows c.args.desk.seat c.args.objects.now in
    let stream = g.N.Stream.shows c.args.conn.now in
    let few : 0 < REQUESTS = omega arith in (
      subst (λ (reader : ReaderFacts). IsOpen setting a (fresh_wire stream) c.args.served.items a (wire_of stream reader))
          (sym c.requires.fresh) (open_first setting a (fresh_wire stream) c.args.served.items c.requires.none refl),
      later_self c.args.desk.seat,
      (refl, refl, refl, refl),
      subst (λ (told : List Served). length told < REQUESTS) (sym c.requires.none) few,
      c.requires.room,
    )

pub loop-entry-preserved : goal.loop-entry-preserved
loop-entry-preserved g c =
    let base = c.loop-entry.invariant in
    let b = stage_by g.L.Link.shows c.loop-entry.desk.seat c.loop-entry.objects in
    let w = wire_of (g.N.Stream.shows c.loop-entry.conn) c.loop-entry.buffers.reader in
    let next_at = stage_by g.L.Link.shows c.next_turn-next.result.0.seat c.next_turn-next.new.objects in
    let u = wire_of (g.N.Stream.shows c.next_turn-next.new.conn) c.next_turn-next.new.buffers.reader in
    let next = c.next_turn-next.ensures in
    let count : c.len.result ≡ length c.loop-entry.served.items =
    omega (arith, c.len.ensures, c.loop-entry.served.ok.0) in
    let more = goes_on base.0 c.in-Replied.entry next_at u
    (turn_as (conn_setting g.W.Truth.true_row g.T.Tree.told g.W.Truth.version g.T.Tree.shows c.args.service.now.folders.now) b w next_at u (ap (λ book. book.rows) base.2.3)
    (ap (λ (n : ℕ). n + 1 == REQUESTS) count) c.in-Replied.is next.turn) in
    let zero : 0 < REQUESTS = omega arith in
    let few = goes_few 0 more.xs more.goes zero in
    let same = same_length more in
    let room = base.4 in
    let kept = c.push_reserved.ensures.capacity in
    let bound : length (c.loop-entry.served.items ++ c.in-Replied.entry ∷ []) < REQUESTS = omega (arith, few, same) in (
      open_as (sym c.push_reserved.ensures.items) more,
      later_trans base.1 next.later,
      (next.same.0 ∙ base.2.0, next.same.1 ∙ base.2.1, next.same.2 ∙ base.2.2, next.same.3 ∙ base.2.3),
      subst (λ (items : List Served). length items < REQUESTS) (sym c.push_reserved.ensures.items) bound,
      omega (arith, room, kept),
    )

pub returns-in-Last-clause-serves : goal.returns-in-Last-clause-serves
returns-in-Last-clause-serves g c =
    let base = c.loop-entry.invariant in
    let b = stage_by g.L.Link.shows c.loop-entry.desk.seat c.loop-entry.objects in
    let w = wire_of (g.N.Stream.shows c.loop-entry.conn) c.loop-entry.buffers.reader in
    let next_at = stage_by g.L.Link.shows c.next_turn-next.result.0.seat c.next_turn-next.new.objects in
    let u = wire_of (g.N.Stream.shows c.next_turn-next.new.conn) c.next_turn-next.new.buffers.reader in
    let count : c.len.result ≡ length c.loop-entry.served.items =
    omega (arith, c.len.ensures, c.loop-entry.served.ok.0) in
    ends_last base.0 c.in-Last.entry c.in-Last.end (record { served = c.push_reserved-in-Last.new.self; end = c.in-Last.end }) _ _ base.3
    (turn_as (conn_setting g.W.Truth.true_row g.T.Tree.told g.W.Truth.version g.T.Tree.shows c.args.service.now.folders.now) b w next_at u (ap (λ book. book.rows) base.2.3)
    (ap (λ (n : ℕ). n + 1 == REQUESTS) count) c.in-Last.is c.next_turn-next.ensures.turn)
    c.push_reserved-in-Last.ensures.items refl

pub returns-in-Ended-clause-serves : goal.returns-in-Ended-clause-serves
returns-in-Ended-clause-serves g c =
    let base = c.loop-entry.invariant in
    let b = stage_by g.L.Link.shows c.loop-entry.desk.seat c.loop-entry.objects in
    let w = wire_of (g.N.Stream.shows c.loop-entry.conn) c.loop-entry.buffers.reader in
    let next_at = stage_by g.L.Link.shows c.next_turn-next.result.0.seat c.next_turn-next.new.objects in
    let u = wire_of (g.N.Stream.shows c.next_turn-next.new.conn) c.next_turn-next.new.buffers.reader in
    let count : c.len.result ≡ length c.loop-entry.served.items =
    omega (arith, c.len.ensures, c.loop-entry.served.ok.0) in
    ends_by base.0 c.in-Ended.end (record { served = c.loop-entry.served; end = c.in-Ended.end }) _ _ base.3
    (turn_as (conn_setting g.W.Truth.true_row g.T.Tree.told g.W.Truth.version g.T.Tree.shows c.args.service.now.folders.now) b w next_at u (ap (λ book. book.rows) base.2.3)
    (ap (λ (n : ℕ). n + 1 == REQUESTS) count) c.in-Ended.is c.next_turn-next.ensures.turn)
    refl refl
