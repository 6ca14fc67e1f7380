-- What the clause on the limit of changes says of lists that are known.
use Rattle.std.proofs.Common.{◌≡◌, ◌≤◌, Bool, List, [], length, refl, arith}
use Rattle.std.specs.Prelude.{is_none}
use Rattle.std.proofs.lemmas.List.Sums.{count_by-le-length}
use Rattle.row_types.specs.Name.{NameFacts, stamp_at}
use Rattle.row_types.specs.Row.{RowFacts}
use Rattle.index_keeper.specs.Store.{ShownStore}
use Rattle.index_rows.specs.declared.change.Change.{Change}
use Rattle.index_rows.specs.declared.rows.TheConstants.{LOG_LIMIT}
use Rattle.index_state.specs.Plan.{is_other}
use Rattle.scan_queue.specs.declared.listing.TheConstants.{LISTING_LIMIT}
use Rattle.dbgd_commands.specs.Scan.{IsOutOfChanges}

-- a scan into a store without rows never meets it, however many files are listed
pub never_from_nothing : (told : Bool) (new : ShownStore) (listing : List NameFacts) (changes : List Change) (left : List RowFacts)
    → length listing ≤ LISTING_LIMIT → IsOutOfChanges told new listing changes [] left → ⊥
never_from_nothing told new listing changes left few h =
    let added = count_by-le-length (λ (name : NameFacts). is_none (stamp_at [] name.path)) listing in
    let replaced = count_by-le-length (λ (name : NameFacts). is_other (stamp_at [] name.path) name.stamp) listing in
    let many = h.many in
    let limit : LOG_LIMIT ≡ 4194304 = refl in
    let most : LISTING_LIMIT ≡ 1048576 = refl in
    absurd (omega (arith, few, added, replaced, many, limit, most))
