-- Why bytes are not certified, in the order of the tests (this project's rule).
use Rattle.std.specs.Prelude.{◌≡◌, ◌≢◌, ℕ, List, true, false, Ok, Err}
use Rattle.file_formats.specs.Identity.{Identity, IsIdentity}
use Rattle.row_types.specs.declared.identity.Kind.{Kind}
use Rattle.answer_check.specs.declared.certified.CheckFault.{CheckFault}
use Rattle.answer_check.specs.declared.certified.CheckFault.TheVariants.{Plain, OtherId, OtherClass}
use Rattle.answer_check.specs.Certified.{is_of_class}

-- the file has an identity, of this other id
pub record HasOtherId (id : List ℕ) (b : List ℕ) (seen : List ℕ) : Type 0 where
  pub ident : Identity
  pub identity : IsIdentity b (Ok ident)
  pub seen_id : ident.id ≡ seen
  pub other : seen ≢ id

-- the file has this identity, of the id and not of the class
pub record HasOtherClass (kind : Kind) (id : List ℕ) (b : List ℕ) (i : Identity) : Type 0 where
  pub identity : IsIdentity b (Ok i)
  pub same_id : i.id ≡ id
  pub other : is_of_class kind i ≡ false

-- the bytes are refused for this reason, the first that holds
abbrev pub RefusesBytes : Kind → List ℕ → List ℕ → CheckFault → Type 0
RefusesBytes kind id b (Plain why) = IsIdentity b (Err why)
RefusesBytes kind id b (OtherId seen) = HasOtherId id b seen
RefusesBytes kind id b (OtherClass i) = HasOtherClass kind id b i

-- a file of this identity is refused for this reason, the first that holds
abbrev pub RefusesIdentity : Kind → List ℕ → Identity → CheckFault → Type 0
RefusesIdentity kind id i (Plain why) = ⊥
RefusesIdentity kind id i (OtherId seen) = (i.id ≡ seen) × (seen ≢ id)
RefusesIdentity kind id i (OtherClass other) = (i ≡ other) × (i.id ≡ id) × (is_of_class kind i ≡ false)

-- a file of this identity is certified
pub record PassesIdentity (kind : Kind) (id : List ℕ) (i : Identity) : Type 0 where
  pub same_id : i.id ≡ id
  pub of_class : is_of_class kind i ≡ true
