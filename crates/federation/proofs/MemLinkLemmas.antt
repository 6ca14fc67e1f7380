-- The link in memory.
use Rattle.std.proofs.Common.{◌≡◌, ℕ, ◌<◌, ◌≤◌, inl, inr, List, [], ◌∷◌, ◌++◌, Some, length, map, slice_index_or, refl, sym, ap, ◌∙◌, arith}
use Rattle.std.proofs.lemmas.List.{append-nil}
use Rattle.federation.specs.Heard.{LinkHeard, LinkSaid, failed, memory, reply, said_by}
use Rattle.federation.specs.Link.{AsksOfLink, heard_by}
use Rattle.federation.specs.MemLink.{AnswersScript, GivesScripted, MemLinkFacts, count_said, heard_one, later_said, next_said, shown_mem_link}
use Rattle.federation.specs.declared.link.LinkAnswer.{LinkAnswer}
use Rattle.webapi_routes.specs.declared.route.Route.{Route}

-- what memory is refused for isn't heard
answers_unheard : (old new : MemLinkFacts) (route : Route) (hops : ℕ) (said next_ : LinkSaid) → next_ ≡ memory
    → next_said old.script ≡ next_ → GivesScripted old said new old.script → AnswersScript old route hops said new
answers_unheard old new route hops said next_ none is gives =
    let same : next_said old.script ≡ memory = is ∙ none in
    inl (
      gives.gives,
      gives.after ∙ ap (λ (asked : List LinkHeard). record old {
        script = later_said old.script;
        asked = asked;
        faults = count_said (next_said old.script) old.faults;
      }) (sym (ap (λ s. old.asked ++ heard_by route hops s) same ∙ append-nil old.asked)),
    )

pub answers_memory : (old new : MemLinkFacts) (route : Route) (hops : ℕ) (said : LinkSaid) → next_said old.script ≡ memory
    → GivesScripted old said new old.script → AnswersScript old route hops said new
answers_memory old new route hops said none gives = answers_unheard old new route hops said memory refl none gives

-- what is heard of another answer
heard_is : (route : Route) (hops : ℕ) (said : LinkSaid) → (said ≡ memory → ⊥) → heard_by route hops said ≡ heard_one route hops said ∷ []
heard_is route hops (reply status body) some = refl
heard_is route hops failed some = refl
heard_is route hops memory some = absurd (some refl)

-- a question was noted, and its answer given
pub answers_noted : (old mid new : MemLinkFacts) (route : Route) (hops : ℕ) (said : LinkSaid) (q : LinkHeard)
    → (next_said old.script ≡ memory → ⊥) → q ≡ heard_one route hops (next_said old.script)
    → mid ≡ record old { asked = old.asked ++ q ∷ [] } → GivesScripted mid said new mid.script
    → AnswersScript old route hops said new
answers_noted old mid new route hops said q some is noted gives =
    let scripts : mid.script ≡ old.script = ap (λ m. m.script) noted in
    let counts : mid.faults ≡ old.faults = ap (λ m. m.faults) noted in
    let asks : mid.asked ≡ old.asked ++ heard_by route hops (next_said old.script) =
    ap (λ m. m.asked) noted ∙ ap (λ h. old.asked ++ h ∷ []) is
    ∙ ap (λ hs. old.asked ++ hs) (sym (heard_is route hops (next_said old.script) some)) in
    inl (
      gives.gives ∙ ap next_said scripts,
      gives.after ∙ cc (scripts, counts, asks),
    )

-- the count stays where the link didn't fail
count_other : (said : LinkSaid) (faults : ℕ) → (said ≡ failed → ⊥) → count_said said faults ≡ faults
count_other (reply status body) faults other = refl
count_other failed faults other = absurd (other refl)
count_other memory faults other = refl

-- what the link shows then
pub asks_by : (old new : MemLinkFacts) (route : Route) (hops : ℕ) (answer : LinkAnswer) → AnswersScript old route hops (said_by answer) new
    → old.faults ≤ new.faults → AsksOfLink (shown_mem_link old) route hops answer (shown_mem_link new)
asks_by old new route hops answer (inl got) later = record {
  hears = λ some. ap (λ m. Some m.asked) got.1
      ∙ ap (λ s. Some (old.asked ++ heard_by route hops s)) (sym got.0);
  cause = record {
    later = later;
    rose = λ is.
        let same = ap (λ m. m.faults) got.1 ∙ ap (λ s. count_said s old.faults) (sym got.0 ∙ is) in
        omega (arith, same);
  };
  stays = λ other. ap (λ m. m.faults) got.1 ∙ count_other (next_said old.script) old.faults (λ is. other (got.0 ∙ is));
}
asks_by old new route hops answer (inr refused) later = record {
  hears = λ some. ap (λ m. Some m.asked) refused.1
      ∙ sym (ap (λ s. Some (old.asked ++ heard_by route hops s)) refused.0 ∙ ap Some (append-nil old.asked));
  cause = record { later = later; rose = λ is. let wrong : failed ≡ memory = sym is ∙ refused.0 in absurd (cc) };
  stays = λ _. ap (λ m. m.faults) refused.1;
}

-- what the next answer says
pub next_front : (items : List LinkAnswer) (a : LinkAnswer) → 0 < length items → a ≡ slice_index_or items 0 a
    → said_by a ≡ next_said (map said_by items)
next_front [] a some is = absurd (omega arith)
next_front (x ∷ items) a some is = ap said_by is

pub next_none : (items : List LinkAnswer) → length items ≡ 0 → failed ≡ next_said (map said_by items)
next_none [] none = refl
next_none (x ∷ items) none = absurd (omega arith)
