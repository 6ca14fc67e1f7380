-- The picture is one of a version still.
use Rattle.std.proofs.Common.{◌≡◌, ℕ, ◌+◌, ◌≤◌, List, length, true, ap, subst, sym}
use Rattle.std.specs.String.{string_bytes}
use Rattle.file_formats.specs.Numbers.{bytes_at}
use Rattle.tree_trait.specs.Opened.{opened_name}
use Rattle.tree_trait.proofs.OpenedLemmas.{holds_more}
use Rattle.tree_trait.proofs.opened.Opened.take.Goals as goal

pub invariant_of-self : goal.invariant_of-self
invariant_of-self g c =
    let bytes : List ℕ = c.args.bytes.items in
    holds_more g.W.Truth.told g.W.Truth.any_content (string_bytes c.self.inside.path) c.self.inside.stamp
    c.self.inside.picture c.put_in.new.picture c.args.at bytes c.put_in.result c.self.invariant
    (subst (λ o. c.args.at + length bytes ≤ o.stamp.size) (sym c.self.view_is) c.requires.inside)
    (subst (λ o. g.W.Truth.told ≡ true → (b : List ℕ) → g.W.Truth.version o.path o.stamp b → bytes_at b c.args.at (length bytes) ≡ bytes)
    (sym c.self.view_is) c.requires.known)
    c.put_in.ensures.added c.put_in.ensures.same c.put_in.ensures.holds

pub returns-clause-name : goal.returns-clause-name
returns-clause-name g c = ap (λ o. opened_name o) c.self.view_is
