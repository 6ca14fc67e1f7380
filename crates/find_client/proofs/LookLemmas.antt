-- What is looked for in a cache.
use Rattle.std.proofs.Common.{◌≡◌, ◌≢◌, ℕ, ◌≤◌, inl, inr, Bool, true, false, ◌||◌, List, [], ◌∷◌, ◌++◌, Option, All, map, refl, sym, ap, ◌∙◌, subst, arith, append_assoc}
use Rattle.std.specs.List.{flat_map, list_any}
use Rattle.std.proofs.lemmas.Bool.{or_cases}
use Rattle.std.proofs.lemmas.Grind.{flat_map-append}
use Rattle.std.proofs.lemmas.List.{append-nil, map-append}
use Rattle.std.proofs.lemmas.List.Elements.{All-append, All-cons, All-nil}
use Rattle.std.proofs.lemmas.List.Folds.{list_any-append}
use Rattle.answer_check.specs.Passing.{GivesPassed, Passes}
use Rattle.answer_check.specs.declared.passed.Passed.{Passed}
use Rattle.row_types.specs.declared.identity.Kind.{Kind}
use Rattle.federation.specs.Replies.{class_asked}
use Rattle.row_types.specs.Faults.{Rose}
use Rattle.http_wire.specs.Told.{Gains}
use Rattle.http_wire.proofs.CallLemmas.{gains_both, gains_nothing}
use Rattle.webapi_routes.specs.declared.route.Route.{Route}
use Rattle.find_client.specs.Cache.{AsksOfCache, CacheHeard, CacheSaid, ShownCache, absent, failed, heard_get, held, memory, said_by}
use Rattle.find_client.specs.Looks.{AreFirstLooks, FailsLook, Look, LookGives, LookPasses, LooksEnd, LooksFor, LooksOne, SaysLook, handed_on, heard_of, name_of, said_failed}
use Rattle.find_client.specs.declared.cache.CacheAnswer.{CacheAnswer}
use Rattle.find_client.specs.declared.look.LookEnd.{LookEnd}
use Rattle.find_client.specs.declared.look.LookEnd.TheVariants as look

-- a look
abbrev look_of : Route → CacheSaid → Look
look_of file said = record { file = file; said = said }

no_true : {X : Type 0} → false ≡ true → X
no_true e = absurd (cc)

-- what one look ended as
abbrev pub EndsOne : Route → Route → CacheSaid → LookEnd → Type 0
EndsOne route file said (look.Passed given) = LookPasses route file said × LookGives route file said given
EndsOne route file said (look.Nothing failing) = FailsLook route (look_of file said) × (failing ≡ said_failed said)
EndsOne route file said look.OutOfMemory = Unit {0}

or_none : (b : Bool) → b ≡ (b || false)
or_none true = refl
or_none false = refl

one_end : (route file : Route) (said : CacheSaid) (end : LookEnd) → EndsOne route file said end
    → LooksEnd route (file ∷ []) (look_of file said ∷ []) end
one_end route file said (look.Passed given) e = record {
  before = [];
  last = look_of file said;
  all = refl;
  first = record { rest = []; all = refl };
  none = All-nil (FailsLook route);
  passes = e.0;
  gives = e.1;
}
one_end route file said (look.Nothing failing) e =
    (refl, All-cons (FailsLook route) (look_of file said) [] e.0 (All-nil (FailsLook route)), e.1 ∙ or_none (said_failed said))
one_end route file said look.OutOfMemory e = record { rest = []; all = refl }

failed_one : (said : CacheSaid) → (said_failed said || false) ≡ true → said ≡ failed
failed_one (held bytes) e = no_true e
failed_one absent e = no_true e
failed_one failed e = refl
failed_one memory e = no_true e

other_one : (said : CacheSaid) → (said_failed said || false) ≡ false → said ≢ failed
other_one (held bytes) e = λ is. cc
other_one absent e = λ is. cc
other_one failed e = absurd (cc)
other_one memory e = λ is. cc

-- one file was looked for
looked : (before after : ShownCache) (route file : Route) (answer : CacheAnswer) (end : LookEnd)
    → AsksOfCache before (name_of file) answer after → EndsOne route file (said_by answer) end
    → LooksFor before route (file ∷ []) after end
looked before after route file answer end asks ends = record {
  looks = look_of file (said_by answer) ∷ [];
  hears = subst (λ (h : List CacheHeard). Gains before.asked h after.asked) (sym (append-nil (heard_get (name_of file) (said_by answer)))) asks.hears;
  says = All-cons (SaysLook before.content) (look_of file (said_by answer)) [] asks.says (All-nil (SaysLook before.content));
  content = asks.content;
  later = asks.cause.later;
  rose = λ (e : (said_failed (said_by answer) || false) ≡ true). asks.cause.rose (failed_one (said_by answer) e);
  stays = λ (e : (said_failed (said_by answer) || false) ≡ false). asks.stays (other_one (said_by answer) e);
  ends = one_end route file (said_by answer) end ends;
}

-- none was
pub looked_none : (before : ShownCache) (route : Route) (files : List Route) (end : LookEnd) → LooksEnd route files [] end
    → LooksFor before route files before end
looked_none before route files end ends = record {
  looks = [];
  hears = gains_nothing before.asked;
  says = All-nil (SaysLook before.content);
  content = refl;
  later = omega arith;
  rose = λ (e : false ≡ true). no_true e;
  stays = λ _. refl;
  ends = ends;
}

-- one file was looked for, and something was handed on
pub look_ends : (before after : ShownCache) (route file : Route) (failing : Bool) (answer : CacheAnswer) (told end : LookEnd)
    → AsksOfCache before (name_of file) answer after → EndsOne route file (said_by answer) told → end ≡ handed_on failing told
    → LooksOne before route file failing after end
look_ends before after route file failing answer told end asks ends is =
    record { told = told; looks = looked before after route file answer told asks ends; is = is }

pub look_memory : (before : ShownCache) (route file : Route) (failing : Bool) → LooksOne before route file failing before look.OutOfMemory
look_memory before route file failing =
    record { told = look.OutOfMemory; looks = looked_none before route (file ∷ []) look.OutOfMemory (record { rest = file ∷ []; all = refl }); is = refl }

-- the first look, where nothing is handed on
same_told : (told : LookEnd) → handed_on false told ≡ told
same_told (look.Passed given) = refl
same_told (look.Nothing failing) = refl
same_told look.OutOfMemory = refl

pub first_look : {before after : ShownCache} {route file : Route} {end : LookEnd} → LooksOne before route file false after end
    → LooksFor before route (file ∷ []) after end
first_look {before} {after} {route} {file} {end} h =
    subst (LooksFor before route (file ∷ []) after) (sym (h.is ∙ same_told h.told)) h.looks

-- the first of one file are those of two
first_wider : (file more : Route) (looks : List Look) → AreFirstLooks (file ∷ []) looks → AreFirstLooks (file ∷ more ∷ []) looks
first_wider file more looks h = record {
  rest = h.rest ++ more ∷ [];
  all = ap (λ (x : List Route). x ++ more ∷ []) h.all ∙ append_assoc (map (λ (l : Look). l.file) looks) h.rest (more ∷ []);
}

-- the first file decides, and a second is not looked for
pub first_passed : {before after : ShownCache} {route : Route} (file more : Route) (given : Passed)
    → LooksFor before route (file ∷ []) after (look.Passed given) → LooksFor before route (file ∷ more ∷ []) after (look.Passed given)
first_passed {before} {after} {route} file more given h = record {
  looks = h.looks;
  hears = h.hears;
  says = h.says;
  content = h.content;
  later = h.later;
  rose = h.rose;
  stays = h.stays;
  ends = record {
    before = h.ends.before;
    last = h.ends.last;
    all = h.ends.all;
    first = first_wider file more h.looks h.ends.first;
    none = h.ends.none;
    passes = h.ends.passes;
    gives = h.ends.gives;
  };
}

pub first_memory : {before after : ShownCache} {route : Route} (file more : Route)
    → LooksFor before route (file ∷ []) after look.OutOfMemory → LooksFor before route (file ∷ more ∷ []) after look.OutOfMemory
first_memory {before} {after} {route} file more h = record {
  looks = h.looks;
  hears = h.hears;
  says = h.says;
  content = h.content;
  later = h.later;
  rose = h.rose;
  stays = h.stays;
  ends = first_wider file more h.looks h.ends;
}

-- all of the first and the first of the second
first_both : (first second : Route) (a b : List Look) → map (λ (l : Look). l.file) a ≡ first ∷ [] → AreFirstLooks (second ∷ []) b
    → AreFirstLooks (first ∷ second ∷ []) (a ++ b)
first_both first second a b are h = record {
  rest = h.rest;
  all = (ap (λ (x : List Route). x ++ second ∷ []) (sym are) ∙ ap (λ (x : List Route). map (λ (l : Look). l.file) a ++ x) h.all)
      ∙ (sym (append_assoc (map (λ (l : Look). l.file) a) (map (λ (l : Look). l.file) b) h.rest)
      ∙ ap (λ (x : List Route). x ++ h.rest) (sym (map-append (λ (l : Look). l.file) a b)));
}

-- the end of two files, by that of the second
two_end : (route first second : Route) (failing : Bool) (a b : List Look) (told : LookEnd)
    → LooksEnd route (first ∷ []) a (look.Nothing failing) → LooksEnd route (second ∷ []) b told
    → LooksEnd route (first ∷ second ∷ []) (a ++ b) (handed_on failing told)
two_end route first second failing a b (look.Passed given) none e = record {
  before = a ++ e.before;
  last = e.last;
  all = ap (λ (x : List Look). a ++ x) e.all ∙ sym (append_assoc a e.before (e.last ∷ []));
  first = first_both first second a b none.0 e.first;
  none = All-append (FailsLook route) a e.before none.1 e.none;
  passes = e.passes;
  gives = e.gives;
}
two_end route first second failing a b (look.Nothing later) none e = (
  map-append (λ (l : Look). l.file) a b ∙ (ap (λ (x : List Route). x ++ map (λ (l : Look). l.file) b) none.0 ∙ ap (λ (x : List Route). first ∷ x) e.0),
  All-append (FailsLook route) a b none.1 e.1,
  (ap (λ (x : Bool). x || later) none.2 ∙ ap (λ (x : Bool). list_any (λ (l : Look). said_failed l.said) a || x) e.2)
      ∙ sym (list_any-append (λ (l : Look). said_failed l.said) a b),
)
two_end route first second failing a b look.OutOfMemory none e = first_both first second a b none.0 e

pub or_left_false : (a b : Bool) → (a || b) ≡ false → a ≡ false
or_left_false true b e = absurd (cc)
or_left_false false b e = refl

pub or_right_false : (a b : Bool) → (a || b) ≡ false → b ≡ false
or_right_false true b e = absurd (cc)
or_right_false false b e = e

pub rose_later : (a b d : ℕ) → Rose a b → b ≤ d → Rose a d
rose_later a b d rose later = omega arith

pub later_rose : (a b d : ℕ) → a ≤ b → Rose b d → Rose a d
later_rose a b d later rose = omega arith

two_rose : (a b d : ℕ) (x y : List Look) → a ≤ b → b ≤ d
    → (list_any (λ (l : Look). said_failed l.said) x ≡ true → Rose a b) → (list_any (λ (l : Look). said_failed l.said) y ≡ true → Rose b d)
    → list_any (λ (l : Look). said_failed l.said) (x ++ y) ≡ true → Rose a d
two_rose a b d x y early late first next_ e =
    elim (or_cases (list_any (λ (l : Look). said_failed l.said) x) (list_any (λ (l : Look). said_failed l.said) y)
    (sym (list_any-append (λ (l : Look). said_failed l.said) x y) ∙ e)) [
      | inl here ↦ rose_later a b d (first here) late
      | inr there ↦ later_rose a b d early (next_ there)
    ]

two_stay : (a b d : ℕ) (x y : List Look) → (list_any (λ (l : Look). said_failed l.said) x ≡ false → b ≡ a)
    → (list_any (λ (l : Look). said_failed l.said) y ≡ false → d ≡ b) → list_any (λ (l : Look). said_failed l.said) (x ++ y) ≡ false → d ≡ a
two_stay a b d x y first next_ e =
    let both = sym (list_any-append (λ (l : Look). said_failed l.said) x y) ∙ e in
    next_ (or_right_false (list_any (λ (l : Look). said_failed l.said) x) (list_any (λ (l : Look). said_failed l.said) y) both)
    ∙ first (or_left_false (list_any (λ (l : Look). said_failed l.said) x) (list_any (λ (l : Look). said_failed l.said) y) both)

-- two files were looked for
pub two_looks : {before mid after : ShownCache} {route : Route} (first second : Route) (failing : Bool) {end : LookEnd}
    → LooksFor before route (first ∷ []) mid (look.Nothing failing) → LooksOne mid route second failing after end
    → LooksFor before route (first ∷ second ∷ []) after end
two_looks {before} {mid} {after} {route} first second failing {end} h one = record {
  looks = h.looks ++ one.looks.looks;
  hears = subst (λ (x : List CacheHeard). Gains before.asked x after.asked) (sym (flat_map-append heard_of h.looks one.looks.looks))
      (gains_both before.asked mid.asked after.asked (flat_map heard_of h.looks) (flat_map heard_of one.looks.looks) h.hears one.looks.hears);
  says = All-append (SaysLook before.content) h.looks one.looks.looks h.says
      (subst (λ content. All (SaysLook content) one.looks.looks) h.content one.looks.says);
  content = one.looks.content ∙ h.content;
  later = omega (arith, h.later, one.looks.later);
  stays = two_stay before.faults mid.faults after.faults h.looks one.looks.looks h.stays one.looks.stays;
  rose = two_rose before.faults mid.faults after.faults h.looks one.looks.looks h.later one.looks.later h.rose one.looks.rose;
  ends = subst (LooksEnd route (first ∷ second ∷ []) (h.looks ++ one.looks.looks)) (sym one.is)
      (two_end route first second failing h.looks one.looks.looks one.told h.ends one.looks.ends);
}

-- what one look came to, by the check of what is held
pub held_passes : (route file : Route) (class : Option Kind) (bytes : List ℕ) (given : Passed) → class ≡ class_asked file
    → Passes route class bytes × GivesPassed route class bytes given → EndsOne route file (held bytes) (look.Passed given)
held_passes route file class bytes given is h =
    (subst (λ (k : Option Kind). Passes route k bytes) is h.0, subst (λ (k : Option Kind). GivesPassed route k bytes given) is h.1)

pub held_fails : (route file : Route) (class : Option Kind) (bytes : List ℕ) → class ≡ class_asked file → ¬ Passes route class bytes
    → EndsOne route file (held bytes) (look.Nothing false)
held_fails route file class bytes is none =
    ((subst (λ (k : Option Kind). ¬ Passes route k bytes) is none, λ (e : held bytes ≡ memory). cc), refl)

pub absent_fails : (route file : Route) → EndsOne route file absent (look.Nothing false)
absent_fails route file = ((λ (h : ⊥). h, λ (e : absent ≡ memory). cc), refl)

pub failed_fails : (route file : Route) → EndsOne route file failed (look.Nothing true)
failed_fails route file = ((λ (h : ⊥). h, λ (e : failed ≡ memory). cc), refl)

pub ends_memory : (route file : Route) (said : CacheSaid) → EndsOne route file said look.OutOfMemory
ends_memory route file said = tt

-- one file was looked for, by its name
pub look_by : (before after : ShownCache) (route file : Route) (failing : Bool) (name : List ℕ) (answer : CacheAnswer) (told end : LookEnd)
    → name ≡ name_of file → AsksOfCache before name answer after → EndsOne route file (said_by answer) told → end ≡ handed_on failing told
    → LooksOne before route file failing after end
look_by before after route file failing name answer told end named asks ends is =
    look_ends before after route file failing answer told end
    (subst (λ (n : List ℕ). AsksOfCache before n answer after) named asks) ends is

pub keeps_failing : (failing : Bool) → look.Nothing failing ≡ handed_on failing (look.Nothing false)
keeps_failing true = refl
keeps_failing false = refl

pub fails_now : (failing : Bool) → look.Nothing true ≡ handed_on failing (look.Nothing true)
fails_now true = refl
fails_now false = refl

-- the first file decides where something passed or memory was refused
pub first_decides : {before after : ShownCache} {route : Route} (file more : Route) (end : LookEnd)
    → ((failing : Bool) → end ≡ look.Nothing failing → ⊥) → LooksOne before route file false after end
    → LooksFor before route (file ∷ more ∷ []) after end
first_decides file more (look.Passed given) other h = first_passed file more given (first_look h)
first_decides file more (look.Nothing failing) other h = absurd (other failing refl)
first_decides file more look.OutOfMemory other h = first_memory file more (first_look h)
