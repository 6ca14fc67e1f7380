-- One more source is read, or the first fault is met.
use Rattle.std.proofs.Common.{◌≡◌, ℕ, ◌-◌, ◌<◌, ◌⊎◌, inl, inr, ◌++◌, true, false, Option, None, List, [], ◌∷◌, length, sym, ◌∙◌, ap, subst, arith, rules}
use Rattle.std.specs.Prelude.{Err, Ok, IsOk}
use Rattle.std.specs.List.{slice_get}
use Rattle.std.proofs.lemmas.Bool.{false≢true}
use Rattle.row_codec.specs.Read.{four_at, is_above, path_at, paths_at, sources_at, text_in_front}
use Rattle.row_codec.specs.declared.fault.CodecFault.{CodecFault}
use Rattle.row_codec.specs.declared.fault.CodecFault.TheVariants.{OutOfMemory}
use Rattle.row_codec.proofs.Fronts.{fails, given, leads}
use Rattle.row_codec.proofs.OneSpelling.{Follows, ascends}
use Rattle.row_codec.proofs.Sources.{all_read, behind, behind_none, follows_push, last_of, last_pushed, last_there, one_more, order_fails, path_fails}
use Rattle.row_codec.proofs.read.read_sources.Goals as goal

source_fails : (bytes four left : List ℕ) (count n : ℕ) (ps : List (List ℕ)) (fault : CodecFault) → four_at bytes ≡ Ok (count, four) → paths_at count None four ≡ behind ps (paths_at n (last_of None ps) left) → 0 < n → (path_at left ≡ Err fault) ⊎ ((fault ≡ OutOfMemory) × IsOk (text_in_front left)) → (sources_at bytes ≡ Err fault) ⊎ (fault ≡ OutOfMemory)
unfolding sources_at
source_fails bytes four left count n ps fault e so_far some (inl bad) =
    inl (leads _ _ _ _ _ e (so_far ∙ path_fails ps n (last_of None ps) left fault some bad))
source_fails bytes four left count n ps fault e so_far some (inr none) = inr none.0

pub returns-in_err-count : goal.returns-in_err-count
unfolding sources_at
returns-in_err-count c =
    let is : c.from_residual.result ≡ Err c.in_err-count.field-0.0 = search rules in rw is (inl (fails _ _ _ c.in_err-count.ensures))

pub loop-count-init : goal.loop-count-init
loop-count-init c =
    let items : c.new-paths.result.items ≡ [] = c.new-paths.ensures.items in record {
      follow = subst (Follows None) (sym items) tt;
      so_far = subst (λ (ps : List (List ℕ)). paths_at c.in_ok-count.count None c.four.new.self ≡ behind ps (paths_at c.in_ok-count.count (last_of None ps) c.four.new.self)) (sym items) (behind_none (paths_at c.in_ok-count.count None c.four.new.self));
    }

pub returns-in_err-path : goal.returns-in_err-path
unfolding sources_at
returns-in_err-path c =
    let is : c.from_residual-in_err-path.result ≡ Err c.in_err-path.field-0.0 = search rules in rw is (
    source_fails c.args.left.now c.four.new.self c.loop-count.left c.in_ok-count.count c.loop-count.count c.loop-count.paths.items c.in_err-path.field-0.0 c.in_ok-count.ensures c.loop-count.invariant.so_far (omega arith) c.in_err-path.ensures)

pub returns-then-not-is_above : goal.returns-then-not-is_above
unfolding sources_at
returns-then-not-is_above c =
    let ps = c.loop-count.paths.items in
    let p = c.in_ok-path.path in
    let above : is_above (last_of None ps) p ≡ false =
    sym (c.is_above.ensures ∙ ap (λ (xs : List (List ℕ)). is_above (slice_get xs (length xs - 1)) p) c.as_slice.ensures.value ∙ ap (λ (o : Option (List ℕ)). is_above o p) (last_there ps)) ∙ c.if-not-is_above.true in
    inl (leads _ _ _ _ _ c.in_ok-count.ensures (c.loop-count.invariant.so_far ∙ order_fails ps c.loop-count.count (last_of None ps) c.loop-count.left p c.read_path.new.left (omega arith) c.in_ok-path.ensures above))

pub loop-count-preserved : goal.loop-count-preserved
loop-count-preserved c =
    let ps = c.loop-count.paths.items in
    let p = c.in_ok-path.path in
    let above : is_above (last_of None ps) p ≡ true =
    sym (c.is_above.ensures ∙ ap (λ (xs : List (List ℕ)). is_above (slice_get xs (length xs - 1)) p) c.as_slice.ensures.value ∙ ap (λ (o : Option (List ℕ)). is_above o p) (last_there ps)) ∙ c.if-not-is_above.false in
    let items : c.push.new.self.items ≡ ps ++ p ∷ [] = c.in_ok-push.ensures.items in record {
      follow = subst (Follows None) (sym items) (follows_push None ps p c.loop-count.invariant.follow above);
      so_far = c.loop-count.invariant.so_far ∙ one_more ps c.loop-count.count (last_of None ps) c.loop-count.left p c.read_path.new.left (omega arith) c.in_ok-path.ensures above
          ∙ ap (λ (o : Option (List ℕ)). behind (ps ++ p ∷ []) (paths_at (c.loop-count.count - 1) o c.read_path.new.left)) (sym (last_pushed None ps p))
          ∙ ap (λ (xs : List (List ℕ)). behind xs (paths_at (c.loop-count.count - 1) (last_of None xs) c.read_path.new.left)) (sym items);
    }

pub unreachable-requires : goal.unreachable-requires
unreachable-requires c = false≢true (c.in-Err.ensures.ok.1 (ascends None c.loop-count.paths.items c.loop-count.invariant.follow))

pub returns : goal.returns
unfolding sources_at
returns c =
    let ps = c.loop-count.paths.items in
    leads _ _ _ _ _ c.in_ok-count.ensures
    (c.loop-count.invariant.so_far ∙ all_read ps c.loop-count.count (last_of None ps) c.loop-count.left (omega arith) ∙ ap (λ (xs : List (List ℕ)). given xs c.loop-count.left) (sym c.in-Ok.ensures.value))
