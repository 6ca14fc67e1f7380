-- The dial in memory.
use Rattle.std.proofs.Common.{◌≡◌, ℕ, ◌<◌, List, [], ◌∷◌, ◌++◌, length, refl, sym, ap, subst, arith}
use Rattle.row_types.specs.Faults.{raised}
use Rattle.http_wire.specs.MemConn.{ConnFacts}
use Rattle.upstream_wire.specs.Dial.{Connects, dialled}
use Rattle.upstream_wire.specs.MemDial.{DialConnFacts, DialFacts, GivesConn, fresh_conn, given_of, shown_dial, shown_dialled}
use Rattle.upstream_wire.specs.declared.dial.DialAnswer.{DialAnswer}
use Rattle.upstream_wire.specs.declared.dial.DialAnswer.TheVariants.{Connected, Failed, OutOfMemory}

-- none was to come
pub gives_none : (old : DialFacts) (host : List ℕ) (port : ℕ) (new : DialFacts) (waiting : List ConnFacts) → length waiting ≡ 0
    → new ≡ record old { faults = raised old.faults } → GivesConn old host port Failed new waiting
gives_none old host port new [] none is = (refl, is)
gives_none old host port new (first ∷ later) none is = absurd (omega arith)

-- memory was refused
pub gives_no_memory : (old : DialFacts) (host : List ℕ) (port : ℕ) (new : DialFacts) (waiting : List ConnFacts) → 0 < length waiting
    → new ≡ old → GivesConn old host port OutOfMemory new waiting
gives_no_memory old host port new [] some is = absurd (omega arith)
gives_no_memory old host port new (first ∷ later) some is = is

-- the first was given
pub gives_first : (old : DialFacts) (host : List ℕ) (port : ℕ) (new : DialFacts) (waiting : List ConnFacts) (first : ConnFacts)
    (later : List ConnFacts) → waiting ≡ first ∷ later
    → new ≡ record old { waiting = later; given = old.given ++ given_of host port first ∷ [] }
    → GivesConn old host port (Connected (fresh_conn first)) new waiting
gives_first old host port new waiting first later all is =
    subst (λ w. GivesConn old host port (Connected (fresh_conn first)) new w) (sym all) (refl, is)

-- what the dial shows then
pub connects_by : (old : DialFacts) (host : List ℕ) (port : ℕ) (answer : DialAnswer DialConnFacts) (new : DialFacts)
    (waiting : List ConnFacts) → GivesConn old host port answer new waiting
    → Connects (shown_dial old) host port (dialled shown_dialled answer) (shown_dial new)
connects_by old host port answer new [] gives =
    subst (λ a. Connects (shown_dial old) host port (dialled shown_dialled a) (shown_dial new)) (sym gives.0)
    (subst (λ n. Connects (shown_dial old) host port (dialled shown_dialled Failed) (shown_dial n)) (sym gives.1)
    (refl, refl, omega arith))
connects_by old host port (Connected conn) new (first ∷ later) gives =
    subst (λ c. Connects (shown_dial old) host port (dialled shown_dialled (Connected c)) (shown_dial new)) (sym gives.0)
    (subst (λ n. Connects (shown_dial old) host port (dialled shown_dialled (Connected (fresh_conn first))) (shown_dial n))
    (sym gives.1) ((λ told. refl), refl, omega arith))
connects_by old host port Failed new (first ∷ later) gives = absurd gives
connects_by old host port OutOfMemory new (first ∷ later) gives = ap shown_dial gives
