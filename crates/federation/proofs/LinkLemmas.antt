-- The questions to one link.
use Rattle.std.proofs.Common.{◌≡◌, ℕ, ◌+◌, ◌≤◌, Bool, true, false, not, List, [], ◌∷◌, ◌++◌, length, refl, sym, ap, ◌∙◌, subst, arith, if◌then◌else◌}
use Rattle.std.specs.Prelude.{count_by}
use Rattle.std.proofs.lemmas.List.Elements.{All-append, All-cons, All-nil}
use Rattle.std.proofs.lemmas.List.Sums.{sum_by-append}
use Rattle.row_types.specs.Faults.{Rose}
use Rattle.http_wire.specs.Told.{Gains}
use Rattle.http_wire.proofs.CallLemmas.{gains_both, gains_nothing}
use Rattle.federation.specs.AskAll.{AreFirstQuestions, AreQuestions, HearsPart, IsQuestion}
use Rattle.federation.specs.Heard.{LinkHeard, link_failed, link_refused}
use Rattle.federation.specs.Link.{ShownLink}
use Rattle.federation.specs.Replies.{FailsToPass, NoReplyPasses, questions_of}
use Rattle.federation.specs.Rows.{AsksOneLink, HearsOne, JudgesOne, link_end}
use Rattle.federation.specs.declared.judging.QuestionEnd.{QuestionEnd}
use Rattle.federation.specs.declared.judging.QuestionEnd.TheVariants as ended
use Rattle.federation.specs.declared.one_link.LinkEnd.TheVariants as link
use Rattle.answer_check.specs.declared.passed.Passed.{Passed}
use Rattle.webapi_routes.specs.declared.route.Route.{Route}

-- a link heard nothing
part_nothing : (shown : ShownLink) → HearsPart shown [] shown
part_nothing shown = record { hears = gains_nothing shown.asked; later = omega arith; rose = omega arith; stays = λ _. refl }

-- the count of one answer
count_one : (h : LinkHeard) (b : Bool) → link_failed h ≡ b → count_by link_failed (h ∷ []) ≡ 0 + (if b then 1 else 0)
count_one h b is = ap (λ (c : Bool). 0 + (if c then 1 else 0)) is

refused_one : (h : LinkHeard) (b : Bool) → link_failed h ≡ b → count_by link_refused (h ∷ []) ≡ 0 + (if not b then 1 else 0)
refused_one h b is = ap (λ (c : Bool). 0 + (if not c then 1 else 0)) is

-- a link heard one question
part_one : (before after : ShownLink) (h : LinkHeard) (b : Bool) → link_failed h ≡ b → Gains before.asked (h ∷ []) after.asked
    → before.faults ≤ after.faults → (b ≡ true → Rose before.faults after.faults)
    → (b ≡ false → after.faults ≡ before.faults) → HearsPart before (h ∷ []) after
part_one before after h true is hears later rose stays =
    let up = rose refl in
    let one = count_one h true is in
    record {
      hears = hears;
      later = later;
      rose = omega arith;
      stays = λ none. let no : ⊥ = omega (arith, one, none) in absurd no;
    }
part_one before after h false is hears later rose stays =
    let none = count_one h false is in
    record { hears = hears; later = later; rose = omega arith; stays = λ _. stays refl }

-- a link heard some and then more
parts_both : (before mid after : ShownLink) (some more : List LinkHeard) → HearsPart before some mid → HearsPart mid more after
    → HearsPart before (some ++ more) after
parts_both before mid after some more first next_ =
    let early = first.later in
    let late = next_.later in
    let risen = first.rose in
    let again = next_.rose in
    let both : count_by link_failed (some ++ more) ≡ count_by link_failed some + count_by link_failed more =
    sum_by-append _ some more in
    record {
      hears = gains_both before.asked mid.asked after.asked some more first.hears next_.hears;
      later = omega arith;
      rose = omega arith;
      stays = λ none. next_.stays (omega (arith, both, none)) ∙ first.stays (omega (arith, both, none));
    }

questions_more : (hops : ℕ) (qs : List Route) (q : Route) (front : List LinkHeard) (h : LinkHeard) → AreQuestions hops qs front
    → IsQuestion hops q h → AreQuestions hops (qs ++ q ∷ []) (front ++ h ∷ [])
questions_more hops [] q front h are is = subst (λ f. AreQuestions hops (q ∷ []) (f ++ h ∷ [])) (sym are) (is, refl)
questions_more hops (p ∷ qs) q [] h are is = absurd are
questions_more hops (p ∷ qs) q (g ∷ front) h are is = (are.0, questions_more hops qs q front h are.1 is)

-- all questions are the first ones too
pub first_of_all : (hops : ℕ) (qs : List Route) (heard : List LinkHeard) → AreQuestions hops qs heard
    → AreFirstQuestions hops qs heard
first_of_all hops [] [] are = tt
first_of_all hops [] (h ∷ heard) are = absurd (cc)
first_of_all hops (q ∷ qs) [] are = absurd are
first_of_all hops (q ∷ qs) (h ∷ heard) are = (are.0, first_of_all hops qs heard are.1)

-- and so are they with the first ones behind them
first_more : (hops : ℕ) (qs more : List Route) (front heard : List LinkHeard) → AreQuestions hops qs front
    → AreFirstQuestions hops more heard → AreFirstQuestions hops (qs ++ more) (front ++ heard)
first_more hops [] more front heard are first =
    subst (λ f. AreFirstQuestions hops more (f ++ heard)) (sym are) first
first_more hops (p ∷ qs) more [] heard are first = absurd are
first_more hops (p ∷ qs) more (g ∷ front) heard are first = (are.0, first_more hops qs more front heard are.1 first)

-- one question is the first of more
first_wider : (hops : ℕ) (q : Route) (rest : List Route) (heard : List LinkHeard) → AreFirstQuestions hops (q ∷ []) heard
    → AreFirstQuestions hops (q ∷ rest) heard
first_wider hops q rest [] first = tt
first_wider hops q rest (h ∷ []) first = (first.0, tt)
first_wider hops q rest (h ∷ g ∷ heard) first = absurd first.1

-- the first of one question is one at most
one_at_most : (hops : ℕ) (q : Route) (heard : List LinkHeard) → AreFirstQuestions hops (q ∷ []) heard → length heard ≤ 1
one_at_most hops q [] first = omega arith
one_at_most hops q (h ∷ []) first = omega arith
one_at_most hops q (h ∷ g ∷ heard) first = absurd first.1

-- all that was heard so far: none of it passes
record Front (before : ShownLink) (route : Route) (hops : ℕ) (qs : List Route) (mid : ShownLink) (refused failed : ℕ) : Type 0 where
  front : List LinkHeard
  part : HearsPart before front mid
  are : AreQuestions hops qs front
  none : NoReplyPasses route front
  refused_is : refused ≡ count_by link_refused front
  failed_is : failed ≡ count_by link_failed front

-- nothing was heard yet
front_none : (before : ShownLink) (route : Route) (hops : ℕ) → Front before route hops [] before 0 0
front_none before route hops = record {
  front = [];
  part = part_nothing before;
  are = refl;
  none = All-nil (FailsToPass route);
  refused_is = refl;
  failed_is = refl;
}

-- an answer that doesn't pass, by whether the link failed
abbrev FailsOne : ShownLink → Route → Route → ℕ → ShownLink → Bool → Type 0
FailsOne before route q hops after b = HearsOne before q hops after (λ h. FailsToPass route h × (link_failed h ≡ b))

-- one that comes behind others
front_more : (before mid after : ShownLink) (route q : Route) (hops : ℕ) (qs : List Route) (refused failed r f : ℕ) (b : Bool)
    → Front before route hops qs mid refused failed → FailsOne mid route q hops after b → mid.faults ≤ after.faults
    → (b ≡ true → Rose mid.faults after.faults) → (b ≡ false → after.faults ≡ mid.faults)
    → r ≡ refused + (0 + (if not b then 1 else 0)) → f ≡ failed + (0 + (if b then 1 else 0))
    → Front before route hops (qs ++ q ∷ []) after r f
front_more before mid after route q hops qs refused failed r f b had judged later rose stays refuses fails =
    let h = judged.heard in
    let was_refused = had.refused_is in
    let was_failed = had.failed_is in
    let one_refused = refused_one h b judged.says.1 in
    let one_failed = count_one h b judged.says.1 in
    let all_refused : count_by link_refused (had.front ++ h ∷ []) ≡ count_by link_refused had.front + count_by link_refused (h ∷ []) =
    sum_by-append _ had.front (h ∷ []) in
    let all_failed : count_by link_failed (had.front ++ h ∷ []) ≡ count_by link_failed had.front + count_by link_failed (h ∷ []) =
    sum_by-append _ had.front (h ∷ []) in
    record {
      front = had.front ++ h ∷ [];
      part = parts_both before mid after had.front (h ∷ []) had.part
          (part_one mid after h b judged.says.1 judged.hears later rose stays);
      are = questions_more hops qs q had.front h had.are judged.is_question;
      none = All-append (FailsToPass route) had.front (h ∷ []) had.none
          (All-cons (FailsToPass route) h [] judged.says.0 (All-nil (FailsToPass route)));
      refused_is = omega arith;
      failed_is = omega arith;
    }

-- the same where the answer was refused, and where the link failed
front_refused : (before mid after : ShownLink) (route q : Route) (hops : ℕ) (qs : List Route) (refused failed : ℕ)
    → Front before route hops qs mid refused failed → JudgesOne mid route q hops after ended.Refused
    → Front before route hops (qs ++ q ∷ []) after (refused + 1) failed
front_refused before mid after route q hops qs refused failed had judges =
    front_more before mid after route q hops qs refused failed (refused + 1) failed false had judges.judged judges.later
    (λ is. absurd (cc)) (λ _. judges.stays (λ is. cc)) (omega arith) (omega arith)

front_failed : (before mid after : ShownLink) (route q : Route) (hops : ℕ) (qs : List Route) (refused failed : ℕ)
    → Front before route hops qs mid refused failed → JudgesOne mid route q hops after ended.Failed
    → Front before route hops (qs ++ q ∷ []) after refused (failed + 1)
front_failed before mid after route q hops qs refused failed had judges =
    front_more before mid after route q hops qs refused failed refused (failed + 1) true had judges.judged judges.later
    (λ is. judges.rose refl) (λ is. absurd (cc)) (omega arith) (omega arith)

-- all questions were asked, and nothing passes
nothing_passed : (before after : ShownLink) (route : Route) (hops : ℕ) (qs : List Route) (refused failed : ℕ)
    → Front before route hops qs after refused failed → questions_of route ≡ qs
    → AsksOneLink before route hops after (link.Nothing refused failed)
nothing_passed before after route hops qs refused failed had all = record {
  heard = had.front;
  part = had.part;
  tells = (subst (λ ps. AreQuestions hops ps had.front) (sym all) had.are, had.none, had.refused_is, had.failed_is);
}

-- an answer passes behind others; questions may be left
one_passes : (before mid after : ShownLink) (route q : Route) (hops : ℕ) (qs rest : List Route) (refused failed : ℕ) (given : Passed)
    → Front before route hops qs mid refused failed → JudgesOne mid route q hops after (ended.Passed given)
    → questions_of route ≡ qs ++ q ∷ rest → AsksOneLink before route hops after (link.Passed given)
one_passes before mid after route q hops qs rest refused failed given had judges all =
    let h = judges.judged.heard in
    record {
      heard = had.front ++ h ∷ [];
      part = parts_both before mid after had.front (h ∷ []) had.part
          (part_one mid after h false judges.judged.says.2 judges.judged.hears judges.later (λ is. absurd (cc))
          (λ _. judges.stays (λ is. cc)));
      tells = (
        subst (λ ps. AreFirstQuestions hops ps (had.front ++ h ∷ [])) (sym all)
            (first_more hops qs (q ∷ rest) had.front (h ∷ []) had.are (judges.judged.is_question, tt)),
        record {
          before = had.front;
          last = h;
          all = refl;
          none = had.none;
          passes = judges.judged.says.0;
          gives = judges.judged.says.1;
        },
      );
    }

-- memory is refused behind others; questions may be left
one_stops : (before mid after : ShownLink) (route q : Route) (hops : ℕ) (qs rest : List Route) (refused failed : ℕ)
    → Front before route hops qs mid refused failed → JudgesOne mid route q hops after ended.OutOfMemory
    → questions_of route ≡ qs ++ q ∷ rest → AsksOneLink before route hops after link.OutOfMemory
one_stops before mid after route q hops qs rest refused failed had judges all =
    let more = judges.judged.heard in
    let late = judges.later in
    let none = judges.judged.none_failed in
    record {
      heard = had.front ++ more;
      part = parts_both before mid after had.front more had.part
          (record { hears = judges.judged.hears; later = late; rose = omega arith; stays = λ _. judges.stays (λ is. cc) });
      tells = (
        subst (λ ps. AreFirstQuestions hops ps (had.front ++ more)) (sym all)
            (first_more hops qs (q ∷ rest) had.front more had.are (first_wider hops q rest more judges.judged.are_first)),
        record {
          before = had.front;
          rest = more;
          all = refl;
          few = one_at_most hops q more judges.judged.are_first;
          none = had.none;
        },
      );
    }

-- the last question of a link
ends : (before mid after : ShownLink) (route q : Route) (hops : ℕ) (qs : List Route) (refused failed : ℕ) (e : QuestionEnd)
    → Front before route hops qs mid refused failed → JudgesOne mid route q hops after e → questions_of route ≡ qs ++ q ∷ []
    → AsksOneLink before route hops after (link_end e refused failed)
ends before mid after route q hops qs refused failed (ended.Passed given) had judges all =
    one_passes before mid after route q hops qs [] refused failed given had judges all
ends before mid after route q hops qs refused failed ended.Refused had judges all =
    nothing_passed before after route hops (qs ++ q ∷ []) (refused + 1) failed
    (front_refused before mid after route q hops qs refused failed had judges) all
ends before mid after route q hops qs refused failed ended.Failed had judges all =
    nothing_passed before after route hops (qs ++ q ∷ []) refused (failed + 1)
    (front_failed before mid after route q hops qs refused failed had judges) all
ends before mid after route q hops qs refused failed ended.OutOfMemory had judges all =
    one_stops before mid after route q hops qs [] refused failed had judges all

-- the only question
pub one_only : (before after : ShownLink) (route : Route) (hops : ℕ) (e : QuestionEnd) → questions_of route ≡ route ∷ []
    → JudgesOne before route route hops after e → AsksOneLink before route hops after (link_end e 0 0)
one_only before after route hops e only judges =
    ends before before after route route hops [] 0 0 e (front_none before route hops) judges only

-- the first of two questions passed, or wanted memory
pub one_passed : (before after : ShownLink) (route p q : Route) (hops : ℕ) (given : Passed) → questions_of route ≡ p ∷ q ∷ []
    → JudgesOne before route p hops after (ended.Passed given) → AsksOneLink before route hops after (link.Passed given)
one_passed before after route p q hops given all judges =
    one_passes before before after route p hops [] (q ∷ []) 0 0 given (front_none before route hops) judges all

pub one_memory : (before after : ShownLink) (route p q : Route) (hops : ℕ) → questions_of route ≡ p ∷ q ∷ []
    → JudgesOne before route p hops after ended.OutOfMemory → AsksOneLink before route hops after link.OutOfMemory
one_memory before after route p q hops all judges =
    one_stops before before after route p hops [] (q ∷ []) 0 0 (front_none before route hops) judges all

-- the second of two questions
pub two_refused : (before mid after : ShownLink) (route p q : Route) (hops : ℕ) (e : QuestionEnd) → questions_of route ≡ p ∷ q ∷ []
    → JudgesOne before route p hops mid ended.Refused → JudgesOne mid route q hops after e
    → AsksOneLink before route hops after (link_end e 1 0)
two_refused before mid after route p q hops e all first next_ =
    ends before mid after route q hops (p ∷ []) 1 0 e
    (front_refused before before mid route p hops [] 0 0 (front_none before route hops) first) next_ all

pub two_failed : (before mid after : ShownLink) (route p q : Route) (hops : ℕ) (e : QuestionEnd) → questions_of route ≡ p ∷ q ∷ []
    → JudgesOne before route p hops mid ended.Failed → JudgesOne mid route q hops after e
    → AsksOneLink before route hops after (link_end e 0 1)
two_failed before mid after route p q hops e all first next_ =
    ends before mid after route q hops (p ∷ []) 0 1 e
    (front_failed before before mid route p hops [] 0 0 (front_none before route hops) first) next_ all
