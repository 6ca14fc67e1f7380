-- A vector that was written as a whole has the room's bytes.
use Rattle.std.proofs.Common.{◌≡◌, ◌∷◌, [], ℕ, List, length, refl, sym, ◌∙◌, ap, subst, inl}
use Rattle.file_formats.specs.Numbers.{bytes_at}
use Rattle.tree_trait.specs.Asks.{ReadsOpened}
use Rattle.tree_trait.specs.Heard.{read_at}
use Rattle.tree_trait.specs.Open.{room_filled, room_failed}
use Rattle.tree_trait.proofs.FillLemmas.{reads_none, reads_one, written}
use Rattle.tree_trait.proofs.filling.read_run.Goals as goal

pub returns-in_default-clause-stop : goal.returns-in_default-clause-stop
returns-in_default-clause-stop g c = ([], reads_none, λ p. (refl, inl refl))

pub returns-in-Filled-clause-long : goal.returns-in-Filled-clause-long
returns-in-Filled-clause-long g c =
    let room = c.in-Filled.ensures.len ∙ c.as_mut_slice.ensures.len in
    ap length (written c.read_at.new.room c.in-Ok.bytes.items c.in-Ok.bytes.len room) ∙ room ∙ c.in-Ok.ensures.len

pub returns-in-Filled-clause-read : goal.returns-in-Filled-clause-read
returns-in-Filled-clause-read g c =
    let room = c.in-Filled.ensures.len ∙ c.as_mut_slice.ensures.len in
    subst (λ (bytes : List ℕ). ReadsOpened g.T.Tree.told g.W.Truth.version (g.T.Tree.shows c.args.hand.now) (g.T.Tree.shows c.read_at.new.self)
    (read_at (g.T.Tree.opened c.args.file.now) c.args.place (room_filled bytes)))
    (sym (written c.read_at.new.room c.in-Ok.bytes.items c.in-Ok.bytes.len room)) c.in-Filled.ensures.asks

pub returns-in-Filled-clause-bytes : goal.returns-in-Filled-clause-bytes
returns-in-Filled-clause-bytes g c = λ told b known.
    let room = c.in-Filled.ensures.len ∙ c.as_mut_slice.ensures.len in
    subst (λ (bytes : List ℕ). bytes_at b c.args.place (length bytes) ≡ bytes)
    (sym (written c.read_at.new.room c.in-Ok.bytes.items c.in-Ok.bytes.len room))
    (ap (bytes_at b c.args.place) c.in-Filled.ensures.len ∙ sym (c.in-Filled.ensures.bytes refl told b known))

pub returns-in-Failed-clause-stop : goal.returns-in-Failed-clause-stop
returns-in-Failed-clause-stop g c = (
  read_at (g.T.Tree.opened c.args.file.now) c.args.place (room_failed (length c.read_at.new.room)) ∷ [],
  reads_one c.in-Failed.ensures.asks,
  λ p. (
    refl,
    ap (λ (n : ℕ). read_at (g.T.Tree.opened c.args.file.now) c.args.place (room_failed n) ∷ [])
        (c.in-Failed.ensures.len ∙ c.as_mut_slice.ensures.len ∙ c.in-Ok.ensures.len),
  ),
)

pub returns-in-Failed-clause-failed : goal.returns-in-Failed-clause-failed
returns-in-Failed-clause-failed g c = λ _. c.in-Failed.ensures.asks.hands.cause.rose refl
