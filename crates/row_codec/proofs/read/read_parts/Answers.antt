-- The parts of a row are read one behind the other, and nothing stands behind them.
use Rattle.std.proofs.Common.{◌≡◌, ◌⊎◌, inl, inr, ℕ, List, [], sym, ◌∙◌, ap, subst, rules}
use Rattle.std.specs.Prelude.{Ok, Err, IsOk}
use Rattle.std.proofs.lemmas.Bool.{false≢true}
use Rattle.row_types.specs.Row.{RowFacts}
use Rattle.row_types.specs.Stamp.{StampFacts}
use Rattle.row_codec.specs.Read.{row_at_end, edition_at, path_at, reading_at, row_of_bytes, stamp_in_front, text_in_front}
use Rattle.row_codec.specs.Reads.{RefusesRowBytes}
use Rattle.row_codec.specs.declared.fault.CodecFault.{CodecFault}
use Rattle.row_codec.specs.declared.fault.CodecFault.TheVariants.{OutOfMemory}
use Rattle.row_codec.proofs.Fronts.{fails, given, leads}
use Rattle.row_codec.proofs.OneSpelling.{has_path, not_ended, path_has_text, rows_from}
use Rattle.row_codec.proofs.read.read_parts.Goals as goal

no_path : (bytes rest : List ℕ) (edition : ℕ) (fault : CodecFault) → edition_at bytes ≡ Ok (edition, rest) → (path_at rest ≡ Err fault) ⊎ ((fault ≡ OutOfMemory) × IsOk (text_in_front rest)) → RefusesRowBytes bytes fault
unfolding row_of_bytes
no_path bytes rest edition fault e (inl bad) = inl (leads _ _ _ _ _ e (fails _ _ _ bad))
no_path bytes rest edition fault e (inr none) = inr (none.0, has_path bytes edition rest e none.1)

no_reading : (bytes one two three path : List ℕ) (edition : ℕ) (stamp : StampFacts) (fault : CodecFault) → edition_at bytes ≡ Ok (edition, one) → path_at one ≡ Ok (path, two) → stamp_in_front two ≡ Ok (stamp, three) → (reading_at three ≡ Err fault) ⊎ (fault ≡ OutOfMemory) → RefusesRowBytes bytes fault
unfolding row_of_bytes
no_reading bytes one two three path edition stamp fault e p s (inl bad) = inl (leads _ _ _ _ _ e (leads _ _ _ _ _ p (leads _ _ _ _ _ s (fails _ _ _ bad))))
no_reading bytes one two three path edition stamp fault e p s (inr none) = inr (none, has_path bytes edition one e (path_has_text one path two p))

pub returns-in_err-edition : goal.returns-in_err-edition
unfolding row_of_bytes
returns-in_err-edition c =
    let first : edition_at c.args.bytes.now ≡ Err c.in_err-edition.field-0.0 =
    subst (λ (bytes : List ℕ). edition_at bytes ≡ Err c.in_err-edition.field-0.0) c.new-left.ensures c.in_err-edition.ensures.value in
    let is : c.from_residual.result ≡ Err c.in_err-edition.field-0.0 = search rules in
    rw is (inl (fails _ _ _ first))

pub returns-in_err-path : goal.returns-in_err-path
unfolding row_of_bytes
returns-in_err-path c =
    let first : edition_at c.args.bytes.now ≡ given c.in_ok-edition.edition c.read_edition.new.left =
    subst (λ (bytes : List ℕ). edition_at bytes ≡ given c.in_ok-edition.edition c.read_edition.new.left) c.new-left.ensures c.in_ok-edition.ensures.value in
    let is : c.from_residual-in_err-path.result ≡ Err c.in_err-path.field-0.0 = search rules in
    rw is (no_path _ _ _ _ first c.in_err-path.ensures)

pub returns-in_err-stamp : goal.returns-in_err-stamp
unfolding row_of_bytes
returns-in_err-stamp c =
    let first : edition_at c.args.bytes.now ≡ given c.in_ok-edition.edition c.read_edition.new.left =
    subst (λ (bytes : List ℕ). edition_at bytes ≡ given c.in_ok-edition.edition c.read_edition.new.left) c.new-left.ensures c.in_ok-edition.ensures.value in
    let is : c.from_residual-in_err-stamp.result ≡ Err c.in_err-stamp.field-0.0 = search rules in
    rw is (inl (leads _ _ _ _ _ first (leads _ _ _ _ _ c.in_ok-path.ensures (fails _ _ _ c.in_err-stamp.ensures))))

pub returns-in_err-reading : goal.returns-in_err-reading
unfolding row_of_bytes
returns-in_err-reading c =
    let first : edition_at c.args.bytes.now ≡ given c.in_ok-edition.edition c.read_edition.new.left =
    subst (λ (bytes : List ℕ). edition_at bytes ≡ given c.in_ok-edition.edition c.read_edition.new.left) c.new-left.ensures c.in_ok-edition.ensures.value in
    let is : c.from_residual-in_err-reading.result ≡ Err c.in_err-reading.field-0.0 = search rules in
    rw is (no_reading _ _ _ _ _ _ _ _ first c.in_ok-path.ensures c.in_ok-stamp.ensures c.in_err-reading.ensures)

pub returns-then-not-is_empty : goal.returns-then-not-is_empty
unfolding row_of_bytes
returns-then-not-is_empty c =
    let first : edition_at c.args.bytes.now ≡ given c.in_ok-edition.edition c.read_edition.new.left =
    subst (λ (bytes : List ℕ). edition_at bytes ≡ given c.in_ok-edition.edition c.read_edition.new.left) c.new-left.ensures c.in_ok-edition.ensures.value in
    inl (leads _ _ _ _ _ first (leads _ _ _ _ _ c.in_ok-path.ensures (leads _ _ _ _ _ c.in_ok-stamp.ensures (leads _ _ _ _ _ c.in_ok-reading.ensures
    (not_ended (rows_from c.in_ok-edition.edition c.in_ok-path.path c.in_ok-stamp.stamp c.in_ok-reading.reading) c.read_reading.new.left (λ h. false≢true (sym c.if-not-is_empty.true ∙ c.is_empty.ensures.1 h)))))))

pub returns : goal.returns
unfolding row_of_bytes
returns c =
    let first : edition_at c.args.bytes.now ≡ given c.in_ok-edition.edition c.read_edition.new.left =
    subst (λ (bytes : List ℕ). edition_at bytes ≡ given c.in_ok-edition.edition c.read_edition.new.left) c.new-left.ensures c.in_ok-edition.ensures.value in
    let end : c.read_reading.new.left ≡ [] = c.is_empty.ensures.0 c.if-not-is_empty.false in
    leads _ _ _ _ _ first (leads _ _ _ _ _ c.in_ok-path.ensures (leads _ _ _ _ _ c.in_ok-stamp.ensures (leads _ _ _ _ _ c.in_ok-reading.ensures
    (ap (row_at_end (rows_from c.in_ok-edition.edition c.in_ok-path.path c.in_ok-stamp.stamp c.in_ok-reading.reading)) end ∙ ap (λ (row : RowFacts). Ok row) (sym c.new.ensures)))))
