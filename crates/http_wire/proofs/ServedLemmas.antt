-- A head that is served and stands in front of what is held and left is the one that is given.
use Rattle.std.proofs.Common.{◌≡◌, ℕ, false, List, [], ◌∷◌, ◌++◌, length, Option, Some, None}
use Rattle.std.proofs.Common.{refl, sym, ap, ◌∙◌, subst, arith, append_assoc, length-append}
use Rattle.std.proofs.lemmas.List.{append-nil}
use Rattle.std.proofs.lemmas.Option.{same_Some}
use Rattle.httparse.specs.Grammar.{ReadsRequest, RequestHead, print_request}
use Rattle.httparse.proofs.GrammarLemmas.{request_prefix_free}
use Rattle.http_wire.specs.Heads.{IsServed, RefusesAsHead, TellsHead}
use Rattle.http_wire.specs.Reader.{AnswersNext, Says, head_failed}
use Rattle.http_wire.specs.ReaderFacts.{ReaderFacts}
use Rattle.http_wire.specs.Source.{ComesFrom, HasEnded}
use Rattle.http_wire.specs.Stream.{ShownStream}
use Rattle.http_wire.specs.declared.head.HeadAnswer.{HeadAnswer}
use Rattle.http_wire.specs.declared.head.HeadAnswer.TheVariants as answer
use Rattle.http_wire.specs.declared.head.HeadFault.{HeadFault}
use Rattle.http_wire.specs.declared.head.HeadFault.TheVariants.{Bad, Cut, TooLong, TooMany}
use Rattle.http_wire.proofs.LineLemmas.{ends_in_feed, never_by_lines, within_front}

-- the answer tells this head, and these bytes are behind it
abbrev pub Gives : RequestHead → List ℕ → List ℕ → List ℕ → HeadAnswer → Type 0
Gives h rest held now (answer.Head head) = TellsHead head h × (held ++ now ≡ rest)
Gives h rest held now _ = ⊥

-- what came and what is left are what was left
told : (left came : List ℕ) (after : Option (List ℕ)) → ComesFrom (Some left) came after
    → (now : List ℕ) × (after ≡ Some now) × (left ≡ came ++ now)
told left came None comes = absurd (cc)
told left came (Some now) comes = (now, refl, same_Some left (came ++ now) comes)

-- at the end nothing is left
at_end : (left : Option (List ℕ)) (now : List ℕ) → left ≡ Some now → HasEnded left → now ≡ []
at_end None now is ended = absurd (cc)
at_end (Some left) now is ended = same_Some now [] (sym is ∙ ended refl)

-- no head is empty
not_empty : (h : RequestHead) (rest : List ℕ) → [] ≡ print_request h ++ rest → ⊥
not_empty h rest none =
    let end = ends_in_feed h in
    let size = ap length none ∙ length-append (print_request h) rest in
    let some = ap length end.1 ∙ length-append end.0 (10 ∷ []) in
    omega arith

-- bytes that go on to a served head aren't refused
not_refused : (bytes now : List ℕ) (left : Option (List ℕ)) (h : RequestHead) (rest : List ℕ) (fault : HeadFault)
    → IsServed h → left ≡ Some now → ReadsRequest (bytes ++ now) h rest → RefusesAsHead fault bytes left → ⊥
not_refused bytes now left h rest (Bad len) served is reads refuses = never_by_lines bytes refuses.1 now h rest reads
not_refused bytes now left h rest TooLong served is reads refuses =
    let short = served.short in
    let whole = refuses.0 in
    refuses.1 h _ (within_front bytes now h rest reads (omega arith))
not_refused bytes now left h rest TooMany served is reads refuses =
    let few = served.few in
    let more = refuses.none now h rest reads in
    omega arith
not_refused bytes now left h rest (Cut len) served is reads refuses =
    let same : bytes ++ now ≡ bytes = ap (λ tail. bytes ++ tail) (at_end left now is refuses.4) ∙ append-nil bytes in
    refuses.3 h rest (reads.0, sym same ∙ reads.1)

-- by the answer
by_answer : (old new : ReaderFacts) (came now : List ℕ) (left : Option (List ℕ)) (h : RequestHead) (rest : List ℕ)
    (answer : HeadAnswer) → old.over ≡ false → IsServed h → left ≡ Some now
    → ReadsRequest ((old.held ++ came) ++ now) h rest → head_failed answer ≡ false → Says old came new left answer
    → Gives h rest new.held now answer
by_answer old new came now left h rest (answer.Head head) open_ served is reads sound says =
    let valid = says.3.valid in
    let one = request_prefix_free (old.held ++ came) now says.2 h new.held rest (valid, says.4) reads in
    (subst (λ k. TellsHead head k) one.0 says.5, one.1)
by_answer old new came now left h rest answer.Closed open_ served is reads sound says =
    let closed = rw open_ at says in
    let none : [] ≡ (old.held ++ came) ++ now =
    sym (ap (λ tail. (old.held ++ came) ++ tail) (at_end left now is closed.1) ∙ append-nil (old.held ++ came) ∙ closed.0) in
    not_empty h rest (none ∙ reads.1)
by_answer old new came now left h rest (answer.Refused fault) open_ served is reads sound says =
    not_refused (old.held ++ came) now left h rest fault served is reads says.2
by_answer old new came now left h rest answer.ReadFault open_ served is reads sound says = absurd (cc)

-- of a told source, where no read failed
pub gives_served : (old new : ReaderFacts) (before after : ShownStream) (answer : HeadAnswer) (h : RequestHead)
    (left rest : List ℕ) → old.over ≡ false → before.left ≡ Some left → IsServed h
    → old.held ++ left ≡ print_request h ++ rest → head_failed answer ≡ false → AnswersNext old before new after answer
    → (now : List ℕ) × (after.left ≡ Some now) × Gives h rest new.held now answer
gives_served old new before after answer h left rest open_ tells served front sound answers =
    let after_is = told left answers.came after.left (sym tells ∙ answers.comes) in
    let whole : (old.held ++ answers.came) ++ after_is.0 ≡ print_request h ++ rest =
    append_assoc old.held answers.came after_is.0 ∙ ap (λ tail. old.held ++ tail) (sym after_is.2) ∙ front in (
      after_is.0,
      after_is.1,
      by_answer old new answers.came after_is.0 after.left h rest answer open_ served after_is.1 (served.valid, whole) sound answers.says,
    )
