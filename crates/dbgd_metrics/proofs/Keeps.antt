-- Each kind of step keeps the rule of the counters' table.
use Rattle.std.proofs.Common.{◌≡◌, ◌≢◌, ◌⊎◌, ℕ, zero, suc, ◌+◌, ◌*◌, ◌<◌, ◌≤◌, List, [], ◌∷◌, ◌++◌, length, get_or, set, replicate, refl, sym, ap, ◌∙◌, ⊎_elim, arith, get_or-set_same, get_or-set_other, length-set, Some, None}
use Rattle.std.proofs.lemmas.List.{length-replicate}
use mathlib.Core.Option.{some, some-ne-none}
use mathlib.Core.Logic.{dite}
use native.Mathlib.Decide.{ℕ_discrete}
use lib.ListN.{get_elem?}
use Rattle.atomic_table.specs.Table.{State, opening}
use Rattle.atomic_table.proofs.Lists.{at_snoc, at_longer}
use Rattle.dbgd_metrics.specs.declared.view.Known.{Known}
use Rattle.dbgd_metrics.specs.Numbers.{zeros}
use Rattle.dbgd_metrics.specs.Rule.{KeepsBook, blank, heir, word_at}
use Rattle.dbgd_metrics.proofs.Views.{row_or_none, one_row, set_there, by_view, still_owned}

-- a list of zeros has only zeros
zero_at : (n place : ℕ) → get_or (replicate {A = ℕ} n 0) place 0 ≡ 0
zero_at zero place = refl
zero_at (suc n) zero = refl
zero_at (suc n) (suc place) = zero_at n place

module _ {S : Type 0} where
  -- a seat's view becomes another with the same row and numbers
  pub keeps_look : {rows : ℕ} {old : Known} (id : ℕ) (s : State S Known) (new : Known) → KeepsBook rows s → get_elem? s.views id ≡ some old → new.row ≡ old.row → new.numbers ≡ old.numbers → new.drawn ≡ old.drawn
      → KeepsBook rows record { words = s.words; homes = s.homes; views = set s.views id new }
  keeps_look {rows} {old} id s new k at row numbers drawn =
      let Had : ℕ → Known → Type 0 = λ j known. (b : Known) × (get_elem? s.views j ≡ some b) × (b.row ≡ known.row) × (b.numbers ≡ known.numbers) × (b.drawn ≡ known.drawn) in
      let had : (j : ℕ) (known : Known) → get_elem? (set s.views id new) j ≡ some known → Had j known =
      by_view Had s.views id new (old, at, sym row, sym numbers, sym drawn) (λ j known n e. (known, e, refl, refl, refl)) in record {
        size = k.size;
        drawn = k.drawn;
        below = λ j known r e is. let b = had j known e in k.below j b.0 r b.1 (b.2 ∙ is);
        owned = λ r less. let o = k.owned r less in let a = still_owned s.views id o.0 r old new o.1 at (λ is. row ∙ is) o.2 o.3 in (o.0, a.0, a.1, a.2);
        alone = λ i j one other r e f is is'. let a = had i one e in let b = had j other f in k.alone i j a.0 b.0 r a.1 b.1 (a.2 ∙ is) (b.2 ∙ is');
        behind = λ j known e. let b = had j known e in let less = k.behind j b.0 b.1 in omega (arith, b.4, less);
        whole = λ j known e. let b = had j known e in ap length (sym b.3) ∙ k.whole j b.0 b.1;
        same = λ j known r place e is small. let b = had j known e in k.same j b.0 r place b.1 (b.2 ∙ is) small ∙ ap (λ (ns : List ℕ). get_or ns place 0) b.3;
        idle = λ j known e is. let b = had j known e in sym b.3 ∙ k.idle j b.0 b.1 (b.2 ∙ is);
        rest = k.rest;
      }

  -- a seat without a row takes the next
  pub keeps_draw : {rows : ℕ} {old : Known} (id : ℕ) (s : State S Known) (d : ℕ) → KeepsBook rows s → get_elem? s.views id ≡ some old → old.row ≡ None → get_or s.words 0 0 ≡ d → d < rows
      → KeepsBook rows record { words = set s.words 0 (d + 1); homes = s.homes; views = set s.views id (record old { row = Some d; drawn = d + 1 }) }
  keeps_draw {rows} {old} id s d k at none is more =
      let words : List ℕ = set s.words 0 (d + 1) in
      let new : Known = record old { row = Some d; drawn = d + 1 } in
      let some_word : 0 < length s.words = omega (arith, k.size) in
      let first : get_or words 0 0 ≡ d + 1 = get_or-set_same s.words 0 (d + 1) 0 some_word in
      let other : (w : ℕ) → w ≢ 0 → get_or words w 0 ≡ get_or s.words w 0 = λ w n. get_or-set_other s.words 0 w (d + 1) 0 n in
      record {
        size = length-set s.words 0 (d + 1) ∙ k.size;
        drawn = omega (arith, first);
        below = λ j known r e is'. by_view (λ _ v. v.row ≡ Some r → r < get_or words 0 0) s.views id new
            (λ f. let same : d ≡ r = one_row refl f in omega (arith, first, same))
            (λ i v n f g. let b = k.below i v r f g in omega (arith, first, is, b)) j known e is';
        owned = λ r less. dite (ℕ_discrete r d)
            (λ (e : r ≡ d). (id, new, set_there s.views id new old at, ap (λ (n : ℕ). Some n) (sym e)))
            (λ (n : r ≢ d). let o = k.owned r (omega (arith, first, is, n, less)) in
            let a = still_owned s.views id o.0 r old new o.1 at (λ f. absurd (row_or_none f none)) o.2 o.3 in (o.0, a.0, a.1, a.2));
        alone = λ i j one two r e f is' is''. by_view (λ i v. v.row ≡ Some r → i ≡ j) s.views id new
            (λ g. by_view (λ j w. w.row ≡ Some r → id ≡ j) s.views id new (λ _. refl)
            (λ j w n h g'. let b = k.below j w r h g' in let same : d ≡ r = one_row refl g in absurd (omega (arith, is, b, same))) j two f is'')
            (λ i v n h g. by_view (λ j w. w.row ≡ Some r → i ≡ j) s.views id new
            (λ g'. let b = k.below i v r h g in let same : d ≡ r = one_row refl g' in absurd (omega (arith, is, b, same)))
            (λ j w n' h' g'. k.alone i j v w r h h' g g') j two f is'') i one e is';
        behind = by_view (λ _ v. v.drawn ≤ get_or words 0 0) s.views id new (omega (arith, first))
            (λ j v n e. let b = k.behind j v e in omega (arith, first, is, b));
        whole = by_view (λ _ v. length v.numbers ≡ 53) s.views id new (k.whole id old at) (λ j v n e. k.whole j v e);
        same = λ j known r place e is' small. by_view (λ _ v. v.row ≡ Some r → get_or words (word_at r place) 0 ≡ get_or v.numbers place 0) s.views id new
            (λ g. let same : d ≡ r = one_row refl g in
            other (word_at r place) (omega arith) ∙ (k.rest (word_at r place) (omega (arith, is, same)) (omega (arith, more, same, small)) ∙ sym (ap (λ (ns : List ℕ). get_or ns place 0) (k.idle id old at none) ∙ zero_at 53 place)))
            (λ i v n f g. other (word_at r place) (omega arith) ∙ k.same i v r place f g small) j known e is';
        idle = λ j known e is'. by_view (λ _ v. v.row ≡ None → v.numbers ≡ zeros) s.views id new (λ g. absurd (row_or_none refl g)) (λ i v n f g. k.idle i v f g) j known e is';
        rest = λ w big small. other w (omega (arith, big)) ∙ k.rest w (omega (arith, big, first, is)) small;
      }

  -- a number of a seat's row grows, and its word with it
  pub keeps_add : {rows row place : ℕ} {old : Known} (id : ℕ) (s : State S Known) (n : ℕ) → KeepsBook rows s → get_elem? s.views id ≡ some old → old.row ≡ Some row → place < 53
      → KeepsBook rows record { words = set s.words (word_at row place) n; homes = s.homes; views = set s.views id (record old { numbers = set old.numbers place n }) }
  keeps_add {rows} {row} {place} {old} id s n k at mine small =
      let word : ℕ = word_at row place in
      let words : List ℕ = set s.words word n in
      let new : Known = record old { numbers = set old.numbers place n } in
      let below : row < get_or s.words 0 0 = k.below id old row at mine in
      let inside : word < length s.words = omega (arith, k.size, k.drawn, below, small) in
      let same : get_or words word 0 ≡ n = get_or-set_same s.words word n 0 inside in
      let other : (w : ℕ) → w ≢ word → get_or words w 0 ≡ get_or s.words w 0 = λ w ne. get_or-set_other s.words word w n 0 ne in
      let first : get_or words 0 0 ≡ get_or s.words 0 0 = other 0 (omega arith) in record {
        size = length-set s.words word n ∙ k.size;
        drawn = omega (arith, first, k.drawn);
        below = λ j known r e is. by_view (λ _ v. v.row ≡ Some r → r < get_or words 0 0) s.views id new
            (λ g. let b = k.below id old r at g in omega (arith, first, b))
            (λ i v ne f g. let b = k.below i v r f g in omega (arith, first, b)) j known e is;
        owned = λ r less. let o = k.owned r (omega (arith, first, less)) in let a = still_owned s.views id o.0 r old new o.1 at (λ f. f) o.2 o.3 in (o.0, a.0, a.1, a.2);
        alone = λ i j one two r e f is is'. by_view (λ i v. v.row ≡ Some r → i ≡ j) s.views id new
            (λ g. by_view (λ j w. w.row ≡ Some r → id ≡ j) s.views id new (λ _. refl) (λ j w ne h g'. k.alone id j old w r at h g g') j two f is')
            (λ i v ne h g. by_view (λ j w. w.row ≡ Some r → i ≡ j) s.views id new (λ g'. k.alone i id v old r h at g g') (λ j w ne' h' g'. k.alone i j v w r h h' g g') j two f is') i one e is;
        behind = by_view (λ _ v. v.drawn ≤ get_or words 0 0) s.views id new (let b = k.behind id old at in omega (arith, first, b))
            (λ j v ne e. let b = k.behind j v e in omega (arith, first, b));
        whole = by_view (λ _ v. length v.numbers ≡ 53) s.views id new (length-set old.numbers place n ∙ k.whole id old at) (λ j v ne e. k.whole j v e);
        same = λ j known r p e is less. by_view (λ _ v. v.row ≡ Some r → get_or words (word_at r p) 0 ≡ get_or v.numbers p 0) s.views id new
            (λ g. let one : r ≡ row = one_row g mine in dite (ℕ_discrete p place)
            (λ (q : p ≡ place). let here : word_at r p ≡ word = omega (arith, q, one) in
            ap (λ (w : ℕ). get_or words w 0) here ∙ (same ∙ sym (ap (λ (m : ℕ). get_or (set old.numbers place n) m 0) q ∙ get_or-set_same old.numbers place n 0 (omega (arith, k.whole id old at, small)))))
            (λ (q : p ≢ place). other (word_at r p) (λ h. q (omega (arith, h, one))) ∙ (k.same id old r p at g less ∙ sym (get_or-set_other old.numbers place p n 0 q))))
            (λ i v ne f g. other (word_at r p) (λ h. let one : r ≡ row = omega (arith, h, less, small) in ne (k.alone i id v old r f at g (mine ∙ ap (λ (m : ℕ). Some m) (sym one)))) ∙ k.same i v r p f g less) j known e is;
        idle = λ j known e is. by_view (λ _ v. v.row ≡ None → v.numbers ≡ zeros) s.views id new (λ g. absurd (row_or_none mine g)) (λ i v ne f g. k.idle i v f g) j known e is;
        rest = λ w big less. other w (λ h. omega (arith, h, big, first, below, small)) ∙ k.rest w (omega (arith, big, first)) less;
      }

  -- a new seat knows nothing but what an old one knows of the drawn rows
  pub keeps_split : {rows : ℕ} {old : Known} (id : ℕ) (s : State S Known) → KeepsBook rows s → get_elem? s.views id ≡ some old
      → KeepsBook rows record { words = s.words; homes = s.homes; views = s.views ++ heir old ∷ [] }
  keeps_split {rows} {old} id s k at =
      let had : (j : ℕ) (known : Known) → get_elem? (s.views ++ heir old ∷ []) j ≡ some known → (get_elem? s.views j ≡ some known) ⊎ (heir old ≡ known) = λ j known e. at_snoc s.views (heir old) known j e in
      let rowed : (j r : ℕ) (known : Known) → get_elem? (s.views ++ heir old ∷ []) j ≡ some known → known.row ≡ Some r → get_elem? s.views j ≡ some known =
      λ j r known e is. ⊎_elim (λ (h : get_elem? s.views j ≡ some known). h) (λ (h : heir old ≡ known). absurd (row_or_none is (ap (λ (v : Known). v.row) (sym h)))) (had j known e) in record {
        size = k.size;
        drawn = k.drawn;
        below = λ j known r e is. k.below j known r (rowed j r known e is) is;
        owned = λ r less. let o = k.owned r less in (o.0, o.1, at_longer s.views (heir old ∷ []) o.0 o.1 o.2, o.3);
        alone = λ i j one two r e f is is'. k.alone i j one two r (rowed i r one e is) (rowed j r two f is') is is';
        behind = λ j known e. ⊎_elim (λ (h : get_elem? s.views j ≡ some known). k.behind j known h)
            (λ (h : heir old ≡ known). let less = k.behind id old at in let same = ap (λ (v : Known). v.drawn) h in omega (arith, less, same)) (had j known e);
        whole = λ j known e. ⊎_elim (λ (h : get_elem? s.views j ≡ some known). k.whole j known h) (λ (h : heir old ≡ known). ap (λ (v : Known). length v.numbers) (sym h)) (had j known e);
        same = λ j known r place e is small. k.same j known r place (rowed j r known e is) is small;
        idle = λ j known e is. ⊎_elim (λ (h : get_elem? s.views j ≡ some known). k.idle j known h is) (λ (h : heir old ≡ known). ap (λ (v : Known). v.numbers) (sym h)) (had j known e);
        rest = k.rest;
      }

  -- a table of zeros with one seat
  pub keeps_opening : {rows : ℕ} {words : List ℕ} → words ≡ replicate (1 + 53 * rows) 0 → KeepsBook rows (opening {S = S} words [] blank)
  keeps_opening {rows} {words} is =
      let had : (j : ℕ) (known : Known) → get_elem? (blank ∷ []) j ≡ some known → blank ≡ known =
      λ j known e. ⊎_elim (λ (h : get_elem? [] j ≡ some known). absurd (some-ne-none known (sym h))) (λ (h : blank ≡ known). h) (at_snoc [] blank known j e) in
      let rowed : (j r : ℕ) (known : Known) → get_elem? (blank ∷ []) j ≡ some known → known.row ≡ Some r → ⊥ = λ j r known e f. row_or_none f (ap (λ (v : Known). v.row) (sym (had j known e))) in
      let all : (w : ℕ) → get_or words w 0 ≡ 0 = λ w. ap (λ (ws : List ℕ). get_or ws w 0) is ∙ zero_at (1 + 53 * rows) w in record {
        size = ap length is ∙ length-replicate (1 + 53 * rows) 0;
        drawn = omega (arith, all 0);
        below = λ j known r e f. absurd (rowed j r known e f);
        owned = λ r less. absurd (omega (arith, less, all 0));
        alone = λ i j one two r e f g h. absurd (rowed i r one e g);
        behind = λ j known e. let none = ap (λ (v : Known). v.drawn) (had j known e) in omega (arith, none);
        whole = λ j known e. ap (λ (v : Known). length v.numbers) (sym (had j known e));
        same = λ j known r place e f small. absurd (rowed j r known e f);
        idle = λ j known e f. ap (λ (v : Known). v.numbers) (sym (had j known e));
        rest = λ w big small. all w;
      }
