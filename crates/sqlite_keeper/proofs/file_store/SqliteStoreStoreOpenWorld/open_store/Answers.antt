use Rattle.std.proofs.Common.{arith, sym, refl}
use Rattle.std.proofs.lemmas.Bool.{false≢true}
use Rattle.sqlite_keeper.proofs.file_store.SqliteStoreStoreOpenWorld.open_store.Goals as goal

-- the number goes on from the last one, and the keeper hasn't failed
pub returns-in-Ok-clause-opens : goal.returns-in-Ok-clause-opens
returns-in-Ok-clause-opens c =
    rw (← c.self.view_is) (record {
      holds = record { tables = λ told. absurd (false≢true told); settled = λ told. absurd (false≢true told); made = refl; faultless = c.in-Ok.ensures.begun.faultless };
      number = sym c.epoch-self-inside.ensures;
      rises = omega (arith, c.in-Ok.ensures.begun.rises, c.epoch-self-inside.ensures);
      later = omega (arith, c.in-Ok.ensures.begun.rises, c.epoch-self-inside.ensures);
      faults = refl;
      paths = refl;
    })
