-- What is said of two calls of which one runs beside the other (this project's rule).
use Rattle.std.specs.Prelude.{◌≡◌}
use Rattle.std.specs.Borrow.{MutBor}
use Rattle.std.specs.Fn.{Shared}

module _ {F X : Type 0} (g : Shared F (MutBor X × Unit {0}) (Unit {0} × (MutBor X × Unit {0}))) (f : F) where
  -- f may be called with a `&mut` to x
  abbrev pub TakesWork : X → Type 0
  TakesWork x = (p : MutBor X) → p.now ≡ x → g.pre f (p, tt)

  -- a call of f with a `&mut` to x may leave y there
  pub record DoesWork (x y : X) : Type 0 where
    pub argument : MutBor X
    pub argument_is : argument.now ≡ x
    pub after_call : MutBor X
    pub call : g.post f (argument, tt) (tt, (after_call, tt))
    pub left : after_call.now ≡ y
