-- One question to one link.
use Rattle.std.proofs.Common.{◌≡◌, ℕ, ◌≤◌, List, [], ◌∷◌, refl}
use Rattle.http_wire.specs.Told.{Gains}
use Rattle.federation.specs.AskAll.{IsQuestion}
use Rattle.federation.specs.Heard.{LinkHeard, LinkSaid, failed, reply}
use Rattle.federation.specs.Judging.{JudgesBody}
use Rattle.federation.specs.Link.{AsksOfLink, ShownLink}
use Rattle.federation.specs.Replies.{class_asked}
use Rattle.federation.specs.Rows.{JudgesOne}
use Rattle.federation.specs.declared.judging.QuestionEnd.{QuestionEnd}
use Rattle.federation.specs.declared.judging.QuestionEnd.TheVariants as ended
use Rattle.federation.specs.declared.link.LinkAnswer.TheVariants.{Failed, OutOfMemory}
use Rattle.webapi_routes.specs.declared.route.Route.{Route}

-- what is heard of a response
abbrev pub reply_heard : Route → ℕ → ℕ → List ℕ → LinkHeard
reply_heard question hops status body = record { route = question; hops = hops; said = reply status body }

question_is : (question : Route) (hops : ℕ) (said : LinkSaid)
    → IsQuestion hops question (record { route = question; hops = hops; said = said })
question_is question hops said = record { route = refl; with_hops = refl }

-- the body of a response of status 200 was judged
pub judges_body : (before after : ShownLink) (route question : Route) (hops status : ℕ) (body : List ℕ) (what : QuestionEnd)
    → Gains before.asked (reply_heard question hops status body ∷ []) after.asked → before.faults ≤ after.faults
    → after.faults ≡ before.faults → status ≡ 200 → JudgesBody route (class_asked question) body what
    → JudgesOne before route question hops after what
judges_body before after route question hops status body (ended.Passed given) hears later same ok judges = record {
  judged = record {
    heard = reply_heard question hops status body;
    is_question = question_is question hops (reply status body);
    hears = hears;
    says = ((ok, judges.0), judges.1, refl);
  };
  later = later;
  rose = λ is. absurd (cc);
  stays = λ _. same;
}
judges_body before after route question hops status body ended.Refused hears later same ok judges = record {
  judged = record {
    heard = reply_heard question hops status body;
    is_question = question_is question hops (reply status body);
    hears = hears;
    says = ((λ passes. judges passes.1), refl);
  };
  later = later;
  rose = λ is. absurd (cc);
  stays = λ _. same;
}
judges_body before after route question hops status body ended.Failed hears later same ok judges = absurd judges
judges_body before after route question hops status body ended.OutOfMemory hears later same ok judges = record {
  judged = record {
    heard = reply_heard question hops status body ∷ [];
    are_first = (question_is question hops (reply status body), tt);
    hears = hears;
    none_failed = refl;
  };
  later = later;
  rose = λ is. absurd (cc);
  stays = λ _. same;
}

-- a response of another status doesn't pass
pub judges_status : (before after : ShownLink) (route question : Route) (hops status : ℕ) (body : List ℕ)
    → Gains before.asked (reply_heard question hops status body ∷ []) after.asked → before.faults ≤ after.faults
    → after.faults ≡ before.faults → (status ≡ 200 → ⊥) → JudgesOne before route question hops after ended.Refused
judges_status before after route question hops status body hears later same other = record {
  judged = record {
    heard = reply_heard question hops status body;
    is_question = question_is question hops (reply status body);
    hears = hears;
    says = ((λ passes. other passes.0), refl);
  };
  later = later;
  rose = λ is. absurd (cc);
  stays = λ _. same;
}

-- the link failed
pub judges_failed : (before after : ShownLink) (route question : Route) (hops : ℕ) → AsksOfLink before question hops Failed after
    → JudgesOne before route question hops after ended.Failed
judges_failed before after route question hops asks = record {
  judged = record {
    heard = record { route = question; hops = hops; said = failed };
    is_question = question_is question hops failed;
    hears = asks.hears;
    says = ((λ passes. passes), refl);
  };
  later = asks.cause.later;
  rose = λ is. asks.cause.rose refl;
  stays = λ other. absurd (other refl);
}

-- memory was refused
pub judges_memory : (before after : ShownLink) (route question : Route) (hops : ℕ)
    → AsksOfLink before question hops OutOfMemory after → JudgesOne before route question hops after ended.OutOfMemory
judges_memory before after route question hops asks = record {
  judged = record { heard = []; are_first = tt; hears = asks.hears; none_failed = refl };
  later = asks.cause.later;
  rose = λ is. absurd (cc);
  stays = λ _. asks.stays (λ is. cc);
}
