-- Certified bytes (this project's rule): a file of a build-id and a class.
use Rattle.std.specs.Prelude.{◌≡◌, ℕ, List, Bool, true, Ok}
use Rattle.file_formats.specs.Identity.{Identity, IsIdentity}
use Rattle.row_types.specs.declared.identity.Kind.{Kind}
use Rattle.row_types.specs.declared.identity.Kind.TheVariants.{Executable, Debuginfo}

-- a class, a build-id and the bytes of a file
pub record CertifiedFacts : Type 0 where
  pub kind : Kind
  pub id : List ℕ
  pub bytes : List ℕ

-- whether a file of this identity is of the class
abbrev pub is_of_class : Kind → Identity → Bool
is_of_class Executable i = i.exec
is_of_class Debuginfo i = i.debug

-- the file has an identity of this id and class
pub record IsOfClass (kind : Kind) (id : List ℕ) (b : List ℕ) (i : Identity) : Type 0 where
  pub identity : IsIdentity b (Ok i)
  pub same_id : i.id ≡ id
  pub of_class : is_of_class kind i ≡ true

-- the bytes are a file of this id and class
abbrev pub IsCertified : Kind → List ℕ → List ℕ → Type 0
IsCertified kind id b = (i : Identity) × IsOfClass kind id b i
