use Rattle.std.proofs.Common.{◌≡◌, ℕ, List, length, take, ap, arith, Bor}
use Rattle.std.proofs.lemmas.List.{take_all}
use Rattle.sample_files.proofs.NoteLemmas.{length-padded_notes}
use Rattle.sample_files.proofs.notes.padded_notes.Goals as goal

pub returns-clause-short : goal.returns-clause-short
returns-clause-short c =
    let most = length-padded_notes (λ (id : Bor (List ℕ)). id.now) c.args.order c.args.ids.now in
    let all : take c.loop-id.id-index c.args.ids.now ≡ c.args.ids.now =
    take_all _ _ (omega arith) in
    let pushed = ap length c.loop-id.invariant in
    let whole = rw all at pushed in
    omega (arith, c.loop-id.bytes.ok.0)
