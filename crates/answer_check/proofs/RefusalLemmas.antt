-- Bytes are certified, or refused for one reason.
use Rattle.std.proofs.Common.{◌≡◌, sym, ◌∙◌, ap, subst, ℕ, List, true, false, Ok, Err, Option, Some, None}
use Rattle.std.specs.Prelude.{IfNone, IfSome}
use Rattle.file_formats.specs.declared.fault.Why.{Why}
use Rattle.file_formats.specs.Identity.{Identity, IsIdentity}
use Rattle.file_formats.proofs.IdentityLemmas.{identity-unique}
use Rattle.row_types.specs.declared.identity.Kind.{Kind}
use Rattle.answer_check.specs.declared.certified.CheckFault.{CheckFault}
use Rattle.answer_check.specs.declared.certified.CheckFault.TheVariants.{Plain, OtherId, OtherClass}
use Rattle.answer_check.specs.Certified.{is_of_class, IsCertified}
use Rattle.answer_check.specs.Refusal.{PassesIdentity, RefusesBytes, RefusesIdentity}

-- a file has one identity
same_identity : {b : List ℕ} {i j : Identity} → IsIdentity b (Ok i) → IsIdentity b (Ok j) → i ≡ j
same_identity {b} p q = let same = identity-unique b _ _ p q in cc

-- an identity isn't a reason why there is none
never_both : {b : List ℕ} {i : Identity} {why : Why}
    → IsIdentity b (Ok i) → IsIdentity b (Err why) → ⊥
never_both {b} p q = let same = identity-unique b _ _ p q in cc

-- two files' ids are one where the identities are
same_id : {b : List ℕ} {i j : Identity} → IsIdentity b (Ok i) → IsIdentity b (Ok j) → i.id ≡ j.id
same_id p q = ap (λ i. i.id) (same_identity p q)

-- what is refused isn't certified
pub refused-not_certified : {kind : Kind} {id b : List ℕ} (fault : CheckFault)
    → RefusesBytes kind id b fault → IsCertified kind id b → ⊥
refused-not_certified (Plain why) h (i, is) = never_both is.identity h
refused-not_certified (OtherId seen) h (i, is) =
    h.other (sym h.seen_id ∙ same_id h.identity is.identity ∙ is.same_id)
refused-not_certified {kind} (OtherClass j) h (i, is) =
    let same = same_identity h.identity is.identity in
    let both : false ≡ true = sym h.other ∙ ap (is_of_class kind) same ∙ is.of_class in cc

-- one reason holds
pub refusal-unique : (kind : Kind) (id b : List ℕ) (f g : CheckFault)
    → RefusesBytes kind id b f → RefusesBytes kind id b g → f ≡ g
refusal-unique kind id b (Plain why) (Plain other) p q =
    let same = identity-unique b (Err why) (Err other) p q in ap (λ w. Plain w) (cc)
refusal-unique kind id b (Plain why) (OtherId seen) p q = absurd (never_both q.identity p)
refusal-unique kind id b (Plain why) (OtherClass j) p q = absurd (never_both q.identity p)
refusal-unique kind id b (OtherId seen) (Plain why) p q = absurd (never_both p.identity q)
refusal-unique kind id b (OtherId seen) (OtherId other) p q =
    ap (λ i. OtherId i) (sym p.seen_id ∙ same_id p.identity q.identity ∙ q.seen_id)
refusal-unique kind id b (OtherId seen) (OtherClass j) p q =
    absurd (p.other (sym p.seen_id ∙ same_id p.identity q.identity ∙ q.same_id))
refusal-unique kind id b (OtherClass i) (Plain why) p q = absurd (never_both p.identity q)
refusal-unique kind id b (OtherClass i) (OtherId seen) p q =
    absurd (q.other (sym q.seen_id ∙ same_id q.identity p.identity ∙ p.same_id))
refusal-unique kind id b (OtherClass i) (OtherClass j) p q =
    ap (λ k. OtherClass k) (same_identity p.identity q.identity)

-- ---- by the identity

-- bytes are refused by what their identity is
pub refuses_bytes : (kind : Kind) (id b : List ℕ) (i : Identity) (fault : CheckFault) → IsIdentity b (Ok i)
    → RefusesIdentity kind id i fault → RefusesBytes kind id b fault
refuses_bytes kind id b i (Plain why) is h = absurd h
refuses_bytes kind id b i (OtherId seen) is h = record { ident = i; identity = is; seen_id = h.0; other = h.1 }
refuses_bytes kind id b i (OtherClass other) is h = record {
  identity = subst (λ (j : Identity). IsIdentity b (Ok j)) h.0 is;
  same_id = sym (ap (λ (j : Identity). j.id) h.0) ∙ h.1;
  other = sym (ap (is_of_class kind) h.0) ∙ h.2;
}

-- and certified
pub certified_by : (kind : Kind) (id b : List ℕ) (i : Identity) → IsIdentity b (Ok i) → PassesIdentity kind id i
    → IsCertified kind id b
certified_by kind id b i is passes = (i, record { identity = is; same_id = passes.same_id; of_class = passes.of_class })

-- what is found of the identity is so of the bytes
pub refused_identity : (kind : Kind) (id b : List ℕ) (i : Identity) (fault : Option CheckFault) → IsIdentity b (Ok i)
    → IfSome fault (RefusesIdentity kind id i) → IfSome fault (RefusesBytes kind id b)
refused_identity kind id b i None is h = tt
refused_identity kind id b i (Some fault) is h = refuses_bytes kind id b i fault is h

pub passed_identity : (kind : Kind) (id b : List ℕ) (i : Identity) (fault : Option CheckFault) → IsIdentity b (Ok i)
    → IfNone fault (PassesIdentity kind id i) → IfNone fault (IsCertified kind id b)
passed_identity kind id b i None is h = certified_by kind id b i is h
passed_identity kind id b i (Some fault) is h = tt
