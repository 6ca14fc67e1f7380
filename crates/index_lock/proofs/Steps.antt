-- Each kind of step keeps the lock's rule.
use Rattle.std.proofs.Common.{◌≡◌, ◌≢◌, ℕ, zero, suc, ◌+◌, ◌*◌, ◌%◌, List, [], ◌∷◌, ◌++◌, length, get_or, set, refl, sym, ap, ◌∙◌, subst, inl, inr, ⊎_elim, arith, Option, Some, None}
use mathlib.Core.Option.{some, none, some-injective, some-ne-none}
use mathlib.Core.Option as maybe
use lib.ListN.{get_elem?}
use lib.Seq.{set-get_or}
use prog.Atomic.{either}
use Rattle.std.specs.Prelude.{◌==◌}
use Rattle.atomic_table.specs.Table.{State, Me, step, Act, keeps, takes, gives, Valid, stepped, carried_after, Allows, Splits, Joins, opening, Seen, Final}
use Rattle.atomic_table.proofs.Lists.{at_set, set_else, set_again, at_longer, at_snoc, exchanged}
use Rattle.index_lock.specs.declared.view.Known.{Known}
use Rattle.index_lock.specs.declared.view.View.{View}
use Rattle.index_lock.specs.declared.view.View.TheVariants.{Spent, Rests, Joined, Holds, Ends}
use Rattle.index_lock.specs.Rule.{Continues, known_of, HasSeenAll, taken_at, slot_under, IsLockFree, IsLockHeld, KeepsLock, joined_known, joined_view, acquired, released, settled, ended}
use Rattle.index_lock.proofs.Prefixes.{prefix_self, prefix_trans, longer_begins}

module _ {E O : Type 0} where
  pub goes_on_self : (known : Known E O) → Continues known known
  goes_on_self known = record { log = prefix_self known.log; origin = refl }

  pub goes_on_trans : (a b c : Known E O) → Continues a b → Continues b c → Continues a c
  goes_on_trans a b c p q =
      record { log = prefix_trans a.log b.log c.log p.log q.log; origin = q.origin ∙ p.origin }

  -- what was seen of a beginning was seen of the whole
  seen_on : (all more : Known E O) → Continues all more → (view : View E O) → HasSeenAll all view
      → HasSeenAll more view
  seen_on all more on Spent h = tt
  seen_on all more on (Rests known) h = goes_on_trans known all more h on
  seen_on all more on (Joined known mine theirs) h = (goes_on_trans known all more h.0 on, h.1, h.2)
  seen_on all more on (Holds known) h = goes_on_trans known all more h on
  seen_on all more on (Ends known) h = goes_on_trans known all more h on

  -- both of two tokens had seen beginnings of what a join keeps
  joined_seen : (all mine theirs : Known E O) → Continues mine all → Continues theirs all
      → HasSeenAll all (joined_view (Rests mine) (Rests theirs))
  joined_seen all mine theirs p q =
      let both = longer_begins mine.log theirs.log all.log p.log q.log in (
        record { log = both.0; origin = p.origin },
        record { log = both.1; origin = refl },
        record { log = both.2; origin = sym p.origin ∙ q.origin },
      )

  -- each of the views fits to all that there is
  abbrev AllSeen : Known E O → List (View E O) → Type 0
  AllSeen all views = (j : ℕ) (view : View E O) → get_elem? views j ≡ some view → HasSeenAll all view

  all_seen_set : (all : Known E O) (views : List (View E O)) (id : ℕ) (new : View E O)
      → AllSeen all views → HasSeenAll all new → AllSeen all (set views id new)
  all_seen_set all views id new seen here j view at =
      ⊎_elim (λ (t : (j ≡ id) × (new ≡ view)). subst (HasSeenAll all) t.1 here)
      (λ (t : (j ≢ id) × (get_elem? views j ≡ some view)). seen j view t.1)
      (at_set views id j new view at)

  all_seen_snoc : (all : Known E O) (views : List (View E O)) (new : View E O) → AllSeen all views
      → HasSeenAll all new → AllSeen all (views ++ new ∷ [])
  all_seen_snoc all views new seen here j view at =
      ⊎_elim
      (seen j view) (λ (e : new ≡ view). subst (HasSeenAll all) e here) (at_snoc views new view j at)

  -- one view takes the lock: no other has it
  none_else : (views : List (View E O)) (id : ℕ) (new : View E O)
      → ((j : ℕ) (view : View E O) → get_elem? views j ≡ some view → taken_at view ≡ none)
      → (j : ℕ) (view : View E O) → get_elem? (set views id new) j ≡ some view
      → taken_at view ≢ none → j ≡ id
  none_else views id new nobody j view at has = ⊎_elim (λ (t : (j ≡ id) × (new ≡ view)). t.0)
      (λ (t : (j ≢ id) × (get_elem? views j ≡ some view)). absurd (has (nobody j view t.1)))
      (at_set views id j new view at)

  -- what a join keeps
  joined_kept : {known known' mine mine' theirs theirs' : Known E O}
      → Joined known mine theirs ≡ Joined known' mine' theirs' → known ≡ known'
  joined_kept e = cc

-- a place that is there, after a write
set_there : {A : Type 0} (l : List A) (i : ℕ) (new old : A) → get_elem? l i ≡ some old
    → get_elem? (set l i new) i ≡ some new
set_there [] i new old e = absurd (some-ne-none old (sym e))
set_there (x ∷ xs) zero new old e = refl
set_there (x ∷ xs) (suc i) new old e = set_there xs i new old e

-- what the slot that was taken last has, if one is out
abbrev slot_of : {S : Type 0} → List (ℕ × Option S) → Option S
slot_of [] = None
slot_of (x ∷ xs) = x.1

none_or : {A : Type 0} (o : maybe.Option A) → (o ≢ none → ⊥) → o ≡ none
none_or none h = refl
none_or (some x) h = absurd (h (λ e. some-ne-none x e))

-- the word of a lock that is held isn't even
odd : {E : Type 0} (words : List ℕ) (log : List E) (word : ℕ) → get_or words 0 0 ≡ word
    → words ≡ (2 * length log + 1) ∷ [] → word % 2 ≡ 0 → ⊥
odd words log word here is even =
    let e : get_or words 0 0 ≡ 2 * length log + 1 =
    ap (λ (ws : List ℕ). get_or ws 0 0) is in omega arith

module _ {S E O : Type 0} (log : S → List E) (origin : S → O) where
  abbrev St : Type 0
  St = State (Option S) (View E O)

  abbrev Rule : St → Type 0
  Rule = KeepsLock log origin

  -- a view that hasn't the lock becomes another that hasn't it
  quiet : (s : St) (id : ℕ) (old new : View E O) → Rule s → get_elem? s.views id ≡ some old
      → taken_at old ≡ none → taken_at new ≡ none
      → ((all : Known E O) → AllSeen all s.views → HasSeenAll all new)
      → Rule record { words = s.words; homes = s.homes; views = set s.views id new }
  quiet s id old new (inl free) at off off' sees = inl record {
    value = free.value;
    word = free.word;
    slot = free.slot;
    nobody =
        λ j view e. ⊎_elim
        (λ (t : (j ≡ id) × (new ≡ view)). subst (λ (v : View E O). taken_at v ≡ none) t.1 off')
        (λ (t : (j ≢ id) × (get_elem? s.views j ≡ some view)). free.nobody j view t.1)
        (at_set s.views id j new view e);
    seen =
        all_seen_set (known_of log origin free.value) s.views id new free.seen
        (sees (known_of log origin free.value) free.seen);
  }
  quiet s id old new (inr held) at off off' sees =
      let apart : held.holder ≢ id =
      λ e. some-ne-none held.all
      (sym held.took
      ∙ (ap taken_at
      (some-injective held.holding old (sym held.there ∙ (ap (get_elem? s.views) e ∙ at)))
      ∙ off)) in inr record {
        holder = held.holder;
        holding = held.holding;
        all = held.all;
        there = set_else s.views id held.holder new apart ∙ held.there;
        took = held.took;
        word = held.word;
        slot = held.slot;
        alone =
            λ j view e has. ⊎_elim
            (λ (t : (j ≡ id) × (new ≡ view)). absurd
            (has (subst (λ (v : View E O). taken_at v ≡ none) t.1 off')))
            (λ (t : (j ≢ id) × (get_elem? s.views j ≡ some view)). held.alone j view t.1 has)
            (at_set s.views id j new view e);
        seen = all_seen_set held.all s.views id new held.seen (sees held.all held.seen);
      }

  -- a new view that hasn't the lock
  comes : (s : St) (new : View E O) → Rule s → taken_at new ≡ none
      → ((all : Known E O) → AllSeen all s.views → HasSeenAll all new)
      → Rule record { words = s.words; homes = s.homes; views = s.views ++ new ∷ [] }
  comes s new (inl free) off sees = inl record {
    value = free.value;
    word = free.word;
    slot = free.slot;
    nobody =
        λ j view e. ⊎_elim (free.nobody j view)
        (λ (t : new ≡ view). subst (λ (v : View E O). taken_at v ≡ none) t off)
        (at_snoc s.views new view j e);
    seen =
        all_seen_snoc (known_of log origin free.value) s.views new free.seen
        (sees (known_of log origin free.value) free.seen);
  }
  comes s new (inr held) off sees = inr record {
    holder = held.holder;
    holding = held.holding;
    all = held.all;
    there = at_longer s.views (new ∷ []) held.holder held.holding held.there;
    took = held.took;
    word = held.word;
    slot = held.slot;
    alone =
        λ j view e has. ⊎_elim (λ (t : get_elem? s.views j ≡ some view). held.alone j view t has)
        (λ (t : new ≡ view). absurd (has (subst (λ (v : View E O). taken_at v ≡ none) t off)))
        (at_snoc s.views new view j e);
    seen = all_seen_snoc held.all s.views new held.seen (sees held.all held.seen);
  }

  -- the same word is written again
  same_word : (s : St) (homes : _) (views : List (View E O))
      → Rule record { words = s.words; homes = homes; views = views }
      → Rule record { words = set s.words 0 (get_or s.words 0 0); homes = homes; views = views }
  same_word s homes views rule =
      subst (λ (ws : List ℕ). Rule record { words = ws; homes = homes; views = views })
      (sym (set-get_or s.words 0 0)) rule

  -- nothing changes
  nothing : (s : St) (id : ℕ) (view : View E O) → Rule s → get_elem? s.views id ≡ some view
      → Rule record {
        words = set s.words 0
            (get_or s.words 0 0);
        homes = s.homes;
        views = set s.views id view;
      }
  nothing s id view rule at = same_word s s.homes (set s.views id view)
      (subst (λ
      (vs : List (View E O)). Rule record { words = s.words; homes = s.homes; views = vs }) (sym
      (set_again s.views id view at)) rule)

  -- a lock that nobody has taken yet
  pub opens : (value : S) (word : ℕ) → word ≡ 2 * length (log value)
      → Rule (opening (word ∷ []) (Some value ∷ []) (Rests (known_of log origin value)))
  opens value word is = let first = Rests (known_of log origin value) in inl record {
    value = value;
    word = ap (λ (n : ℕ). n ∷ []) is;
    slot = refl;
    nobody =
        λ j view e. ⊎_elim (λ (h : get_elem? [] j ≡ some view). absurd (some-ne-none view (sym h)))
        (λ (h : first ≡ view). subst (λ (v : View E O). taken_at v ≡ none) h refl)
        (at_snoc [] first view j e);
    seen =
        all_seen_snoc (known_of log origin value) [] first
        (λ j view h. absurd (some-ne-none view (sym h))) (goes_on_self (known_of log origin value));
  }

  pub splits : (id : ℕ) {known : Known E O} {view : View E O} → view ≡ Rests known
      → Splits Rule id view view view
  splits id {view = view} is s rule at =
      let kept : Rule record { words = s.words; homes = s.homes; views = set s.views id view } =
      subst
      (λ (vs : List (View E O)). Rule record { words = s.words; homes = s.homes; views = vs })
      (sym (set_again s.views id view at)) rule in
      comes record { words = s.words; homes = s.homes; views = set s.views id view } view kept
      (ap taken_at is)
      (λ all seen. seen id view
      (subst (λ (vs : List (View E O)). get_elem? vs id ≡ some view)
      (sym (set_again s.views id view at)) at))

  pub joins : (id other : ℕ) {mine theirs : Known E O} {v w : View E O} → v ≡ Rests mine
      → w ≡ Rests theirs → Joins Rule id v other w (joined_view v w) Spent
  joins id other {mine} {theirs} {v} {w} is is' s rule at apart at' =
      let both : View E O = joined_view v w in
      let there : get_elem? s.views other ≡ some w =
      sym (set_else s.views id other both apart) ∙ at' in
      let off : taken_at both ≡ none = ap taken_at (λ k. joined_view (is k) (is' k)) in
      let first = quiet s id v both rule at (ap taken_at is) off (λ all seen.
      subst (HasSeenAll all) (λ k. joined_view (sym is k) (sym is' k))
      (joined_seen all mine theirs (subst (HasSeenAll all) is (seen id v at))
      (subst (HasSeenAll all) is' (seen other w there)))) in
      quiet record { words = s.words; homes = s.homes; views = set s.views id both }
      other w Spent first at' (ap taken_at is') refl (λ all seen. tt)

  -- the views that are there fit to one log
  seen_in : (s : St) → Rule s → (all : Known E O) × AllSeen all s.views
  seen_in s (inl free) = (known_of log origin free.value, free.seen)
  seen_in s (inr held) = (held.all, held.seen)

  -- after a join, a load tells that both tokens had seen beginnings of what is kept
  pub settles : (slots id : ℕ) (me : Me (Option S) (View E O)) {known mine theirs : Known E O}
      → me.0 ≡ Joined known mine theirs
      → Allows Rule slots id me 0 (λ n. n) (settled (step slots 0 0 0 none) me)
  settles slots id me {known} {mine} {theirs} is s rule deep at fits =
      let there = seen_in s rule in (
        Rests known,
        keeps,
        tt,
        same_word s s.homes (set s.views id (Rests known))
            (quiet s id me.0 (Rests known) rule at (ap taken_at is) refl
            (λ all seen. (subst (HasSeenAll all) is (seen id me.0 at)).0)),
        λ known' mine' theirs' e.
            let same : known ≡ known' = joined_kept (sym is ∙ e) in
            let had : HasSeenAll there.0 (Joined known' mine' theirs') =
            subst (HasSeenAll there.0) e (there.1 id me.0 at) in
            (ap (λ (k : Known E O). (Rests k, me.1)) same, had.1, had.2),
      )

  -- what a join and the load after it make of two tokens that rest
  pub joined_and_settled : {one other between after : Me (Option S) (View E O)}
      {mine theirs : Known E O} (slots found : ℕ)
      → one ≡ (Rests mine, []) → other ≡ (Rests theirs, [])
      → between ≡ (joined_view one.0 other.0, one.1)
      → settled (step slots 0 0 0 none) between found after
      → (after ≡ (Rests (joined_known mine theirs), [])) × Continues mine (joined_known mine theirs)
      × Continues theirs (joined_known mine theirs)
  joined_and_settled {between = between} {mine = mine} {theirs = theirs}
      slots found is is' join told =
      let both : between ≡ (Joined (joined_known mine theirs) mine theirs, []) =
      join ∙ λ k. (joined_view (is k).0 (is' k).0, (is k).1) in
      let said =
      told (joined_known mine theirs) mine theirs
      (ap (λ (m : Me (Option S) (View E O)). m.0) both) in (
        said.0
            ∙ ap (λ (m : Me (Option S) (View E O)). (Rests (joined_known mine theirs), m.1)) both,
        said.1,
        said.2,
      )

  -- a free lock is taken, with its value
  takes_it : (s : St) (free : IsLockFree log origin s) (slots id word new : ℕ) (known : Known E O)
      → get_elem? s.views id ≡ some (Rests known) → new ≡ word + 1 → get_or s.words 0 0 ≡ word
      → (w : View E O) × (a : Act (Option S)) × Valid s.homes [] a
      × Rule (stepped s 0 new id [] w a)
      × acquired log origin
      (step slots 0 word new none) (Rests known, []) (get_or s.words 0 0) (w, carried_after [] a)
  takes_it s free slots id word new known at next here =
      let all : Known E O = known_of log origin free.value in
      let number : new ≡ 2 * length all.log + 1 =
      omega (arith, ap (λ (ws : List ℕ). get_or ws 0 0) free.word) in (
        Holds all,
        takes 0 (Some free.value),
        ap (λ (h : List _). get_elem? h 0) free.slot,
        inr record {
          holder = id;
          holding = Holds all;
          all = all;
          there = set_there s.views id (Holds all) (Rests known) at;
          took = refl;
          word = ap (λ (ws : List ℕ). set ws 0 new) free.word ∙ ap (λ (n : ℕ). n ∷ []) number;
          slot = ap (λ (h : List _). set h 0 none) free.slot;
          alone = none_else s.views id (Holds all) free.nobody;
          seen = all_seen_set all s.views id (Holds all) free.seen (goes_on_self all);
        },
        (
          λ _. (
            free.value,
            refl,
            λ known' e. subst (HasSeenAll all) e (free.seen id (Rests known) at),
          ),
          λ other. absurd (other here),
        ),
      )

  -- whatever the lock is, a token that rests takes it, or finds another word and nothing changes
  acquires_resting : (slots id word new : ℕ) (known : Known E O) → word % 2 ≡ 0 → new ≡ word + 1
      → Allows Rule slots id (Rests known, []) 0 (λ n. either (n == word) new n)
      (acquired log origin (step slots 0 word new none) (Rests known, []))
  acquires_resting slots id word new known even next s rule deep at fits =
      exchanged (get_or s.words 0 0) word new
      (λ (m : ℕ). (w : View E O) × (a : Act (Option S)) × Valid s.homes [] a
      × Rule (stepped s 0 m id [] w a)
      × acquired log origin
      (step slots 0 word new none) (Rests known, []) (get_or s.words 0 0) (w, carried_after [] a))
      (λ here. ⊎_elim
      (λ (free : IsLockFree log origin s). takes_it s free slots id word new known at next here)
      (λ (held : IsLockHeld s). absurd (odd s.words held.all.log word here held.word even)) rule)
      (λ other. (
        Rests known,
        keeps,
        tt,
        nothing s id (Rests known) rule at,
        (λ here. absurd (other here), λ _. refl),
      ))

  pub acquires : (slots id word new : ℕ) {me : Me (Option S) (View E O)} {known : Known E O}
      → me ≡ (Rests known, []) → word % 2 ≡ 0 → new ≡ word + 1
      → Allows Rule slots id me 0
      (λ n. either (n == word) new n) (acquired log origin (step slots 0 word new none) me)
  acquires slots id word new {known = known} is even next =
      subst
      (λ (m : Me (Option S) (View E O)). Allows Rule slots id m 0 (λ n. either (n == word) new n)
      (acquired log origin (step slots 0 word new none) m)) (sym is)
      (acquires_resting slots id word new known even next)

  -- who holds is the holder, and took the lock at what is known
  holder_is : (s : St) (held : IsLockHeld s) (id : ℕ) (known : Known E O)
      → get_elem? s.views id ≡ some (Holds known) → (id ≡ held.holder) × (held.all ≡ known)
  holder_is s held id known at =
      let mine : id ≡ held.holder = held.alone id (Holds known) at (λ e. some-ne-none known e) in
      let same : held.holding ≡ Holds known =
      some-injective held.holding
      (Holds known) (sym held.there ∙ (ap (get_elem? s.views) (sym mine) ∙ at)) in
      (mine, some-injective held.all known (sym held.took ∙ ap taken_at same))

  -- no other has the lock
  others_off : (s : St) (held : IsLockHeld s) (id : ℕ) → id ≡ held.holder → (j : ℕ) (view : View E O)
      → j ≢ id → get_elem? s.views j ≡ some view → taken_at view ≡ none
  others_off s held id mine j view apart at =
      none_or (taken_at view) (λ has. apart (held.alone j view at has ∙ sym mine))

  releases_held : (s : St) (held : IsLockHeld s) (id new : ℕ) (known : Known E O) (value : S)
      → get_elem? s.views id ≡ some (Holds known) → Continues known (known_of log origin value)
      → new ≡ 2 * length (log value)
      → IsLockFree log origin
      (stepped s 0 new id ((0, Some value) ∷ []) (Rests (known_of log origin value)) gives)
  releases_held s held id new known value at on number =
      let all : Known E O = known_of log origin value in
      let is = holder_is s held id known at in
      let on' : Continues held.all all =
      subst (λ (k : Known E O). Continues k all) (sym is.1) on in record {
        value = value;
        word = ap (λ (ws : List ℕ). set ws 0 new) held.word ∙ ap (λ (n : ℕ). n ∷ []) number;
        slot = ap (λ (h : List _). set h 0 (some (Some value))) held.slot;
        nobody =
            λ j view e. ⊎_elim
            (λ (t : (j ≡ id) × (Rests all ≡ view)).
            subst (λ (v : View E O). taken_at v ≡ none) t.1 refl)
            (λ (t : (j ≢ id) × (get_elem? s.views j ≡ some view)).
            others_off s held id is.0 j view t.0 t.1)
            (at_set s.views id j (Rests all) view e);
        seen =
            all_seen_set all s.views id (Rests all)
            (λ j view e. seen_on held.all all on' view (held.seen j view e)) (goes_on_self all);
      }

  releases_holding : (slots id new : ℕ) (known : Known E O) (value : S)
      → Continues known (known_of log origin value) → new ≡ 2 * length (log value)
      → Allows Rule slots id (Holds known, (0, Some value) ∷ []) 0 (λ _. new)
      (λ _. released log origin (step slots 0 new 0 none) (Holds known, (0, Some value) ∷ []) new)
  releases_holding slots id new known value on number s rule deep at fits = (
    Rests (known_of log origin value),
    gives,
    tt,
    inl (⊎_elim
        (λ (free : IsLockFree log origin s).
        absurd (some-ne-none known (free.nobody id (Holds known) at)))
        (λ (held : IsLockHeld s). releases_held s held id new known value at on number) rule),
    λ value' e. let in_slot : Some value ≡ Some value' = ap slot_of e in let same : value
        ≡ value' = cc in ap (λ (v : S). (Rests (known_of log origin v), [])) same,
  )

  -- the holder gives the value back, and has then seen its log
  pub releases : (slots id new : ℕ) {me : Me (Option S) (View E O)} {known : Known E O} {value : S}
      → me ≡ (Holds known, (0, Some value) ∷ []) → Continues known (known_of log origin value)
      → new ≡ 2 * length (log value)
      → Allows Rule slots id me 0
      (λ _. new) (λ _. released log origin (step slots 0 new 0 none) me new)
  releases slots id new {known = known} {value = value} is on number =
      subst
      (λ (m : Me (Option S) (View E O)). Allows Rule slots id m 0 (λ _. new)
      (λ _. released log origin (step slots 0 new 0 none) m new)) (sym is)
      (releases_holding slots id new known value on number)

  ends_held : (s : St) (held : IsLockHeld s) (id : ℕ) (known : Known E O)
      → get_elem? s.views id ≡ some (Holds known)
      → IsLockHeld {S = S} record {
        words = s.words;
        homes = set s.homes 0
            (some None);
        views = set s.views id (Ends known);
      }
  ends_held s held id known at =
      let is = holder_is s held id known at in record {
        holder = id;
        holding = Ends known;
        all = held.all;
        there = set_there s.views id (Ends known) (Holds known) at;
        took = ap (λ (k : Known E O). some k) (sym is.1);
        word = held.word;
        slot = ap (λ (h : List _). set h 0 (some None)) held.slot;
        alone = λ j view e has. ⊎_elim (λ (t : (j ≡ id) × (Ends known ≡ view)). t.0)
            (λ (t : (j ≢ id) × (get_elem? s.views j ≡ some view)). absurd
            (has (others_off s held id is.0 j view t.0 t.1))) (at_set s.views id j
            (Ends known) view e);
        seen =
            all_seen_set held.all s.views id (Ends known) held.seen
            (subst (λ (k : Known E O). Continues known k) (sym is.1) (goes_on_self known));
      }

  ends_holding : (slots id : ℕ) (known : Known E O)
      → Allows Rule slots id (Holds known, (0, None) ∷ []) 0
      (λ n. n) (ended (step slots 0 0 0 none) (Holds known, (0, None) ∷ []))
  ends_holding slots id known s rule deep at fits = (
    Ends known,
    gives,
    tt,
    ⊎_elim
        (λ (free : IsLockFree log origin s).
        absurd (some-ne-none known (free.nobody id (Holds known) at)))
        (λ (held : IsLockHeld s). same_word s (set s.homes 0 (some None)) (set s.views id (Ends known))
        (inr (ends_held s held id known at))) rule,
    λ known' e. let same : known ≡ known' = cc in ap (λ (k : Known E O). (Ends k, [])) same,
  )

  -- the holder ends the lock, and gives the slot back empty
  pub ends : (slots id : ℕ) {me : Me (Option S) (View E O)} {known : Known E O}
      → me ≡ (Holds known, (0, None) ∷ [])
      → Allows Rule slots id me 0 (λ n. n) (ended (step slots 0 0 0 none) me)
  ends slots id {known = known} is =
      subst
      (λ (m : Me (Option S) (View E O)). Allows Rule slots id m 0 (λ n. n)
      (ended (step slots 0 0 0 none) m)) (sym is) (ends_holding slots id known)

  slot_at_end : (s : St) (id : ℕ) (known : Known E O) → Rule s
      → get_elem? s.views id ≡ some (Ends known) → get_elem? s.homes 0 ≡ some (some None)
  slot_at_end s id known (inl free) at =
      absurd (some-ne-none known (free.nobody id (Ends known) at))
  slot_at_end s id known (inr held) at =
      let mine : id ≡ held.holder = held.alone id (Ends known) at (λ e. some-ne-none known e) in
      let same : held.holding ≡ Ends known =
      some-injective held.holding
      (Ends known) (sym held.there ∙ (ap (get_elem? s.views) (sym mine) ∙ at)) in
      ap (λ (h : List _). get_elem? h 0) held.slot
      ∙ ap (λ (v : View E O). some (slot_under S v)) same

  -- once the lock has ended, the slot is empty
  pub empty_at_end : (words : List ℕ) (slots : List (Option S)) (id : ℕ) {view : View E O}
      {known : Known E O} → view ≡ Ends known → Final (Seen Rule id view) words slots
      → get_elem? slots 0 ≡ some None
  empty_at_end words slots id {known = known} is final =
      final.4 0 None
      (slot_at_end final.0 id known final.1.0 (final.1.1 ∙ ap (λ (v : View E O). some v) is))
