-- What each step asks of the table: whatever it is then, the seat can go on and the rule is kept.
use Rattle.std.proofs.Common.{◌≡◌, ℕ, ◌+◌, ◌%◌, ◌<◌, List, [], ◌∷◌, ◌++◌, length, get_or, set, refl, sym, ap, ◌∙◌, subst, arith, Some, None}
use Rattle.std.specs.Prelude.{◌==◌, ◌^◌}
use mathlib.Core.Option.{some, none}
use lib.ListN.{get_elem?}
use lib.Seq.{set-get_or}
use prog.Atomic.{either}
use Rattle.atomic_table.specs.Table.{State, Me, step, Act, keeps, Valid, stepped, carried_after, Allows, Joins, Splits}
use Rattle.atomic_table.proofs.Lists.{exchanged, set_again, set_else}
use Rattle.dbgd_metrics.specs.declared.view.Known.{Known}
use Rattle.dbgd_metrics.specs.Rule.{KeepsBook, heir, word_at, known_after, TellsOwn, read, never_comes, no_seat, noticed, drew, added}
use Rattle.dbgd_metrics.proofs.Views.{one_row}
use Rattle.dbgd_metrics.proofs.Keeps.{keeps_look, keeps_draw, keeps_add, keeps_split}

abbrev U : Type 0
U = Unit {0}

-- the same word is written again
same_word : {rows : ℕ} {views : List Known} (word : ℕ) (s : State U Known) → KeepsBook rows record { words = s.words; homes = s.homes; views = views }
    → KeepsBook rows record { words = set s.words word (get_or s.words word 0); homes = s.homes; views = views }
same_word {rows} {views} word s k = subst (λ (ws : List ℕ). KeepsBook rows record { words = ws; homes = s.homes; views = views }) (sym (set-get_or s.words word 0)) k

-- a word of the own row holds the own number
tells : {rows : ℕ} (id slots word first : ℕ) (s : State U Known) (me : Me U Known) → KeepsBook rows s → get_elem? s.views id ≡ some me.0 → TellsOwn (step slots word first 0 none) me (get_or s.words word 0)
tells {rows} id slots word first s me k at row place mine small is = ap (λ (w : ℕ). get_or s.words w 0) is ∙ k.same id me.0 row place at mine small

-- a load changes nothing
pub reads : (rows slots id word : ℕ) (me : Me U Known) → Allows (KeepsBook rows) slots id me word (λ n. n) (read (step slots word 0 0 none) me)
reads rows slots id word me s k deep at fits = (me.0, keeps, tt, same_word word s (keeps_look id s me.0 k at refl refl refl), (refl, tells id slots word 0 s me k at))

-- a load may be noted
pub notices : (rows slots id word : ℕ) (me : Me U Known) → Allows (KeepsBook rows) slots id me word (λ n. n) (noticed (step slots word 0 0 none) me)
notices rows slots id word me s k deep at fits =
    let new = known_after me.0 (record { word = word; found = get_or s.words word 0 } ∷ []) in
    (new, keeps, tt, same_word word s (keeps_look id s new k at refl refl refl), (refl, tells id slots word 0 s me k at))

-- a seat without a row takes the next, or finds another number and nothing changes
pub takes_next : (rows slots id d next : ℕ) (me : Me U Known) → me.0.row ≡ None → d < rows → next ≡ d + 1
    → Allows (KeepsBook rows) slots id me 0 (λ n. either (n == d) next n) (drew (step slots 0 d next none) me)
takes_next rows slots id d next me off more is s k deep at fits =
    exchanged (get_or s.words 0 0) d next (λ (m : ℕ). (w : Known) × (a : Act U) × Valid s.homes me.1 a × KeepsBook rows (stepped s 0 m id me.1 w a)
    × drew (step slots 0 d next none) me (get_or s.words 0 0) (w, carried_after me.1 a))
    (λ here. (
      record me.0 { row = Some d; drawn = d + 1 },
      keeps,
      tt,
      subst (λ (m : ℕ). KeepsBook rows record { words = set s.words 0 m; homes = s.homes; views = set s.views id (record me.0 { row = Some d; drawn = d + 1 }) }) (sym is) (keeps_draw id s d k at off here more),
      (
        (λ e. (ap (λ (n : ℕ). (record me.0 { row = Some n; drawn = n + 1 }, me.1)) (sym e), k.behind id me.0 at)),
        (λ n. absurd (n here)),
      ),
    ))
    (λ other. (me.0, keeps, tt, same_word 0 s (keeps_look id s me.0 k at refl refl refl), ((λ e. absurd (other e)), (λ _. refl))))

-- a number of the own row grows
pub adds : (rows slots id row place n : ℕ) (word : ℕ) (me : Me U Known) → me.0.row ≡ Some row → place < 53 → word ≡ word_at row place → get_or me.0.numbers place 0 + n < 2 ^ 64
    → Allows (KeepsBook rows) slots id me word (λ m. (m + n) % 2 ^ 64) (added (step slots word n 0 none) me)
adds rows slots id row place n word me mine small is room s k deep at fits =
    let found : get_or s.words word 0 ≡ get_or me.0.numbers place 0 = tells id slots word n s me k at row place mine small is in
    let sum : (get_or s.words word 0 + n) % 2 ^ 64 ≡ get_or me.0.numbers place 0 + n = omega (arith, found, room) in
    let new = record me.0 { numbers = set me.0.numbers place (get_or me.0.numbers place 0 + n) } in (
      new,
      keeps,
      tt,
      subst (λ (m : ℕ). KeepsBook rows record { words = set s.words word m; homes = s.homes; views = set s.views id new }) (sym sum)
          (subst (λ (w : ℕ). KeepsBook rows record { words = set s.words w (get_or me.0.numbers place 0 + n); homes = s.homes; views = set s.views id new }) (sym is) (keeps_add id s (get_or me.0.numbers place 0 + n) k at mine small)),
      λ row' place' mine' small' is'. let one : row' ≡ row = one_row mine' mine in let here : place ≡ place' = omega (arith, is, is', one) in
          ap (λ (p : ℕ). (record me.0 { numbers = set me.0.numbers p (get_or me.0.numbers p 0 + n) }, me.1)) here,
    )

-- a new seat comes, and the old one stays as it is
pub splits_off : (rows id : ℕ) (known : Known) → Splits {S = U} (KeepsBook rows) id known known (heir known)
splits_off rows id known s k at =
    subst (λ (vs : List Known). KeepsBook rows record { words = s.words; homes = s.homes; views = vs ++ heir known ∷ [] })
    (sym (set_again s.views id known at)) (keeps_split id s k at)

-- two seats with one row would be one seat, so they can't be joined
pub clash : (rows id other : ℕ) (mine its : Known) (row : ℕ) → mine.row ≡ Some row → its.row ≡ Some row
    → Joins {S = U} (KeepsBook rows) id mine other its no_seat no_seat
clash rows id other mine its row here there s k at two more =
    absurd (two (k.alone other id its mine row (sym (set_else s.views id other no_seat two) ∙ more) at there here))

-- there is no seat without numbers, so it makes no step
pub never : (rows slots id word : ℕ) (me : Me U Known) → me.0 ≡ no_seat
    → Allows (KeepsBook rows) slots id me word (λ n. n) (never_comes (step slots word 0 0 none) me)
never rows slots id word me none_of s k deep at fits =
    let whole : length me.0.numbers ≡ 53 = k.whole id me.0 at in
    let empty : length me.0.numbers ≡ 0 = ap (λ (known : Known). length known.numbers) none_of in
    absurd (omega (arith, whole, empty))
