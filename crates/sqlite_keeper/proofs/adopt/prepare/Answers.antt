use Rattle.std.proofs.Common.{rules, subst}
use Rattle.sqlite.specs.Held.{state}
use Rattle.sqlite_keeper.specs.Schema.{Fits, IsStore}
use Rattle.sqlite_keeper.specs.declared.fault.SqlFault.TheVariants.{Failed}
use Rattle.sqlite_keeper.proofs.MadeLemmas.{IsAtRest}
use Rattle.sqlite_keeper.proofs.OpeningLemmas.{all_refused, front_keeps, refuses_by, told_made}
use Rattle.sqlite_keeper.proofs.adopt.prepare.Goals as goal

-- the tables were looked at, before and after
pub returns-clause-ok : goal.returns-clause-ok
returns-clause-ok g c =
    let before = c.args.connection.now in
    let after = c.make.new.connection in
    let fits = subst Fits c.schema.ensures.value (c.fits.ensures (search rules)) in
    let rest : IsAtRest (state g.F.Store before) = record { outside = search rules; settled = c.is_autocommit.ensures.settled (search rules) } in
    let makes = c.in_ok-number.ensures.ok in
    record {
      number = record {
        outside = rest.outside;
        fits = fits;
        makes = makes;
        kept = front_keeps g.F.Store before fits rest after c.make.ensures.front;
        told = told_made g.F.Store before after _ makes (subst IsStore c.schema-2.ensures.value (c.is_store.ensures (search rules))) c.schema-2.ensures.live;
      };
      rises = search rules;
    }

-- a store of bytes that tells what it holds is open
pub returns-clause-told : goal.returns-clause-told
returns-clause-told g c is =
    told_made g.F.Store c.args.connection.now c.make.new.connection _ c.in_ok-number.ensures.ok (subst IsStore c.schema-2.ensures.value (c.is_store.ensures (search rules))) c.schema-2.ensures.live
    (g.met.F.Telling.opened is c.make.new.connection)

pub returns-clause-kept : goal.returns-clause-kept
returns-clause-kept g c is =
    let before = c.args.connection.now in
    let after = c.make.new.connection in
    let fits = subst Fits c.schema.ensures.value (c.fits.ensures (search rules)) in
    let rest : IsAtRest (state g.F.Store before) = record { outside = search rules; settled = c.is_autocommit.ensures.settled (search rules) } in
    front_keeps g.F.Store before fits rest after c.make.ensures.front (g.met.F.Telling.clean is after) (g.met.F.Telling.opened is after)

pub returns-in_err-number-clause-kept : goal.returns-in_err-number-clause-kept
returns-in_err-number-clause-kept g c is =
    let before = c.args.connection.now in
    let after = c.make.new.connection in
    let fits = subst Fits c.schema.ensures.value (c.fits.ensures (search rules)) in
    let rest : IsAtRest (state g.F.Store before) = record { outside = search rules; settled = c.is_autocommit.ensures.settled (search rules) } in
    front_keeps g.F.Store before fits rest after c.make.ensures.front (g.met.F.Telling.clean is after) (g.met.F.Telling.opened is after)

pub returns-then-not-is_store-clause-kept : goal.returns-then-not-is_store-clause-kept
returns-then-not-is_store-clause-kept g c is =
    let before = c.args.connection.now in
    let after = c.make.new.connection in
    let fits = subst Fits c.schema.ensures.value (c.fits.ensures (search rules)) in
    let rest : IsAtRest (state g.F.Store before) = record { outside = search rules; settled = c.is_autocommit.ensures.settled (search rules) } in
    front_keeps g.F.Store before fits rest after c.make.ensures.front (g.met.F.Telling.clean is after) (g.met.F.Telling.opened is after)

pub returns-then-number-last-clause-kept : goal.returns-then-number-last-clause-kept
returns-then-number-last-clause-kept g c is =
    let before = c.args.connection.now in
    let after = c.make.new.connection in
    let fits = subst Fits c.schema.ensures.value (c.fits.ensures (search rules)) in
    let rest : IsAtRest (state g.F.Store before) = record { outside = search rules; settled = c.is_autocommit.ensures.settled (search rules) } in
    front_keeps g.F.Store before fits rest after c.make.ensures.front (g.met.F.Telling.clean is after) (g.met.F.Telling.opened is after)

-- an opening that stops short
pub returns-in_err-number-clause-err : goal.returns-in_err-number-clause-err
returns-in_err-number-clause-err g c =
    let before = c.args.connection.now in
    let after = c.make.new.connection in
    let fits = subst Fits c.schema.ensures.value (c.fits.ensures (search rules)) in
    let rest : IsAtRest (state g.F.Store before) = record { outside = search rules; settled = c.is_autocommit.ensures.settled (search rules) } in
    all_refused c.from_residual.result _ (λ fault. refuses_by g.F.Store before fits rest fault after c.make.ensures.front c.make.ensures.outside)

pub returns-then-not-is_store-clause-err : goal.returns-then-not-is_store-clause-err
returns-then-not-is_store-clause-err g c =
    let before = c.args.connection.now in
    let after = c.make.new.connection in
    let fits = subst Fits c.schema.ensures.value (c.fits.ensures (search rules)) in
    let rest : IsAtRest (state g.F.Store before) = record { outside = search rules; settled = c.is_autocommit.ensures.settled (search rules) } in
    refuses_by g.F.Store before fits rest Failed after c.make.ensures.front c.make.ensures.outside

pub returns-then-number-last-clause-err : goal.returns-then-number-last-clause-err
returns-then-number-last-clause-err g c =
    let before = c.args.connection.now in
    let after = c.make.new.connection in
    let fits = subst Fits c.schema.ensures.value (c.fits.ensures (search rules)) in
    let rest : IsAtRest (state g.F.Store before) = record { outside = search rules; settled = c.is_autocommit.ensures.settled (search rules) } in
    refuses_by g.F.Store before fits rest Failed after c.make.ensures.front c.make.ensures.outside
