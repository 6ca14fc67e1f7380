-- What is known of a file and what is asked for decide the answer.
use Rattle.std.proofs.Common.{◌≡◌, ◌⊎◌, inl, inr, ◌+◌, ◌<◌, ◌≤◌, ℕ, true, List, [], Option, Result, Ok, Err, refl, sym, ◌∙◌, ap, subst, arith}
use Rattle.std.specs.Prelude.{IfOk}
use Rattle.file_formats.specs.Cover.{CoverMore, IsPlaceOf}
use Rattle.file_formats.specs.DwarfSections.{IsDebugAnswer}
use Rattle.file_formats.specs.DwarfUnits.{DebugSections}
use Rattle.file_formats.specs.Identity.{Identity, IsIdentity}
use Rattle.file_formats.specs.Parts.{IsSomePart}
use Rattle.file_formats.specs.Windows.{AgreeOnWindows, IsSomeWindow, Range, range}
use Rattle.file_formats.specs.declared.fault.Why.{Why}
use Rattle.file_picture.specs.Agrees.{AgreesWithPicture, AsksOf, IsOfEach, filled_with_zeros}
use Rattle.file_picture.specs.Counts.{count_in, is_inside, is_known, is_known_or}
use Rattle.file_picture.specs.Passed.{HasPassed}
use Rattle.file_picture.specs.Picture.{PictureFacts, IsPicture, sum_of}
use Rattle.file_picture.specs.ReadSoFar.{HasWindows, Holds, IsReadOn, IsReadSoFar}
use Rattle.file_formats.proofs.WindowLaws.{identity-of_windows}
use Rattle.file_picture.proofs.AgreeLaws.{agree-covered, filled-agrees}
use Rattle.file_picture.proofs.CountLemmas.{count-less, count-pieces}
use Rattle.file_picture.proofs.ReadSoFarLaws.{asked-more, either-of, inside_in, there-less}
use Rattle.row_types.specs.Name.{NameFacts}
use Rattle.row_types.specs.Reading.{ReadsBytes, with_sources, without_sources}
use Rattle.row_types.specs.Sources.{AreSourcesOf}
use Rattle.row_types.specs.declared.limits.TheConstants.{READ_LIMIT}
use Rattle.row_types.specs.declared.reading.Reading.TheVariants.{Elf}
use Rattle.tree_trait.specs.Found.{Versions}
use Rattle.tree_trait.specs.Heard.{Heard}
use Rattle.tree_trait.specs.Needs.{IsOfReads}
use Rattle.tree_trait.specs.Opened.{IsPictureOf}
use Rattle.elf_classify.specs.DebugViews.{KnowsIdentity}
use Rattle.elf_classify.specs.Views.{IsIdentityOfEach}
use Rattle.file_parts.specs.Found.{AreWide, Decides, HasIdentity, IsBare, IsFound, IsFoundNext, IsFoundSoFar, ReadsIdentity, ReadsIdentityOfEach, SaysBare, wide, narrow}
use Rattle.file_parts.specs.Wholes.{IsThereWhole, needs_of}
use Rattle.file_parts.specs.declared.part.FilePart.{FilePart}
use Rattle.file_parts.specs.declared.part.FilePart.TheVariants as part
use Rattle.file_parts.proofs.KnownLemmas.{inside, none_needed}

-- ---- what the reading gives

same_ok : {one other : Identity} → ◌≡◌ {A = Result Identity Why} (Ok one) (Ok other) → one ≡ other
same_ok e = cc

-- an identity is that of the bytes
is_of : {b : List ℕ} {r : Result Identity Why} (identity : Identity) → ReadsIdentity b r → r ≡ Ok identity → IsIdentity b (Ok identity)
is_of identity (wide cover) e = absurd (cc)
is_of {b} identity (narrow answer few is) e = subst (IsIdentity b) e is

-- whose windows cover no more than may be read
few_of : {b : List ℕ} {r : Result Identity Why} (identity : Identity) → ReadsIdentity b r → r ≡ Ok identity
    → CoverMore (IsSomeWindow b) READ_LIMIT → ⊥
few_of identity (wide cover) e = absurd (cc)
few_of identity (narrow answer few is) e = few

module _ (p : PictureFacts) (is : IsPicture p) where
  -- all windows are there
  pub identity_narrow : (answer : Result Identity Why) → sum_of p.pieces ≤ READ_LIMIT → IsIdentityOfEach p answer → ReadsIdentityOfEach p answer
  identity_narrow answer small s b f = narrow answer (there-less p READ_LIMIT (IsSomeWindow b) is small (s.there b f)) (s.is b f)

  -- one isn't
  pub identity_wide : {at len : ℕ} → IsThereWhole IsSomeWindow p ⊎ AreWide p → AsksOf IsSomeWindow p at len → (b : List ℕ) → AgreesWithPicture b p
      → CoverMore (IsSomeWindow b) READ_LIMIT
  identity_wide (inl whole) asks b f = absurd (none_needed is whole asks)
  identity_wide (inr many) asks b f = many b f

  -- a file with an identity isn't too large
  pub not_wide : HasIdentity p → AreWide p → ⊥
  not_wide k many =
      let f = filled-agrees p is in
      few_of k.identity (k.reads (filled_with_zeros p) f) refl (many (filled_with_zeros p) f)

  pub whole_of : {Of : List ℕ → Range → Type 0} → HasIdentity p → IsThereWhole Of p ⊎ AreWide p → IsThereWhole Of p
  whole_of k (inl whole) = whole
  whole_of k (inr many) = absurd (not_wide k many)

  windows_of : HasIdentity p → IsThereWhole IsSomePart p ⊎ AreWide p ⊎ IsBare p → IsThereWhole IsSomeWindow p
  windows_of k (inl whole) = λ b f r w. whole b f r (inl w)
  windows_of k (inr (inl many)) = absurd (not_wide k many)
  windows_of k (inr (inr bare)) = bare.windows

  pub knows_found : HasIdentity p → IsThereWhole IsSomePart p ⊎ AreWide p ⊎ IsBare p → KnowsIdentity p
  knows_found k decides = record {
    identity = k.identity;
    known = record { is = λ b f. is_of k.identity (k.reads b f) refl; there = windows_of k decides };
  }

  -- all parts are there
  pub sources_parts : {E : Type 0} (parts : Option DebugSections) (found : Result (List (List ℕ)) E) → sum_of p.pieces ≤ READ_LIMIT
      → IsOfEach IsSomePart (λ b. IsDebugAnswer b parts) p → IfOk found (λ paths. (b : List ℕ) → IsDebugAnswer b parts → AreSourcesOf b paths)
      → IfOk found (λ paths. (identity : Identity) → ReadsIdentityOfEach p (Ok identity) → (b : List ℕ) → AgreesWithPicture b p → ReadsBytes b (Elf identity paths))
  sources_parts parts (Ok paths) small s are = λ identity reads b f.
      with_sources identity paths (few_of identity (reads b f) refl) (is_of identity (reads b f) refl)
      (there-less p READ_LIMIT (IsSomePart b) is small (s.there b f)) (are b (s.is b f))
  sources_parts parts (Err e) small s are = tt

  -- one isn't
  pub sources_bare : {at len : ℕ} (paths : List (List ℕ)) → paths ≡ [] → HasIdentity p → IsThereWhole IsSomePart p ⊎ AreWide p ⊎ IsBare p
      → AsksOf IsSomePart p at len → (identity : Identity) → ReadsIdentityOfEach p (Ok identity) → (b : List ℕ) → AgreesWithPicture b p
      → ReadsBytes b (Elf identity paths)
  sources_bare paths none k (inl whole) asks identity reads b f = absurd (none_needed is whole asks)
  sources_bare paths none k (inr (inl many)) asks identity reads b f = absurd (not_wide k many)
  sources_bare paths none k (inr (inr bare)) asks identity reads b f =
      subst (λ (s : List (List ℕ)). ReadsBytes b (Elf identity s)) (sym none)
      (without_sources identity (few_of identity (reads b f) refl) (is_of identity (reads b f) refl) (bare.many b f))

-- ---- what decides

-- a window is among what each answer needs
pub window_needed : (which : FilePart) (b : List ℕ) (r : Range) → IsSomeWindow b r → needs_of which b r
window_needed part.Identity b r w = w
window_needed part.Debug b r w = inl w
window_needed (part.Section name) b r w = inl w

pub window_asked_of : (which : FilePart) (p : PictureFacts) (at len : ℕ) → AsksOf IsSomeWindow p at len → AsksOf (needs_of which) p at len
window_asked_of which p at len asks = record { gone = asks.gone; among = λ b f. window_needed which b (range at len) (asks.among b f) }

pub whole_decides : (which : FilePart) (p : PictureFacts) → IsThereWhole (needs_of which) p → Decides which p
whole_decides part.Identity p whole = inl whole
whole_decides part.Debug p whole = inl whole
whole_decides (part.Section name) p whole = inl whole

wide_decides : (which : FilePart) (p : PictureFacts) → AreWide p → Decides which p
wide_decides part.Identity p many = inr many
wide_decides part.Debug p many = inr (inl many)
wide_decides (part.Section name) p many = inr many

-- the windows that are there cover too much with one that is asked for
pub window_decides : (which : FilePart) (p : PictureFacts) (at len : ℕ) → IsFoundSoFar (needs_of which) p → AsksOf IsSomeWindow p at len
    → READ_LIMIT < count_in (is_known_or p at len) 0 p.size → Decides which p
window_decides which p at len read asks more = wide_decides which p (λ b f.
    asked-more (IsSomeWindow b) p at len READ_LIMIT (windows b f (read.holds b f)) (asks.among b f) more)
  where
    windows : (b : List ℕ) → AgreesWithPicture b p → Holds (IsSomeWindow b) p ⊎ (HasWindows p b × Holds (needs_of which b) p) → Holds (IsSomeWindow b) p
    windows b f (inl holds) = holds
    windows b f (inr both) = absurd (asks.gone (both.0 (range at len) (asks.among b f)))

pub window_may : (p : PictureFacts) (at len : ℕ) → AsksOf IsSomeWindow p at len → count_in (is_known_or p at len) 0 p.size ≤ READ_LIMIT → IsFoundNext p at len
window_may p at len asks most = record { small = most; among = λ b f. inl (asks.among b f) }

pub rest_may : (p : PictureFacts) (at len : ℕ) → IsThereWhole IsSomeWindow p → count_in (is_known_or p at len) 0 p.size ≤ READ_LIMIT → IsFoundNext p at len
rest_may p at len windows most = record { small = most; among = λ b f. inr (windows b f) }

-- the parts cover too much
pub bare_decides : (which : FilePart) (p : PictureFacts) → IsThereWhole IsSomeWindow p → SaysBare which p true → Decides which p
bare_decides part.Identity p windows more = absurd (cc)
bare_decides part.Debug p windows more = inr (inr (record { windows = windows; many = more }))
bare_decides (part.Section name) p windows more = absurd (cc)

-- where all windows are there and a part isn't, the identity is known
pub knows_of : (p : PictureFacts) (at len : ℕ) → IsPicture p → IsThereWhole IsSomeWindow p → AsksOf IsSomePart p at len → KnowsIdentity p
knows_of p at len is windows asks = of (asks.among (filled_with_zeros p) (filled-agrees p is))
  where
    agree : (b : List ℕ) → AgreesWithPicture b p → AgreeOnWindows (filled_with_zeros p) b
    agree b f = record {
      sized = (filled-agrees p is).sized ∙ sym f.sized;
      same = λ r w. agree-covered p (filled_with_zeros p) b r.at r.len (filled-agrees p is) f (windows (filled_with_zeros p) (filled-agrees p is) r w);
    }

    of : IsSomePart (filled_with_zeros p) (range at len) → KnowsIdentity p
    of (inl w) = absurd (asks.gone (windows (filled_with_zeros p) (filled-agrees p is) (range at len) w))
    of (inr d) = record {
      identity = d.has.identity;
      known = record { is = λ b f. identity-of_windows (agree b f) d.has.is_identity; there = windows };
    }

-- and what was read is what a reader asks
pub read_of : (p : PictureFacts) → IsFoundSoFar IsSomePart p → IsReadSoFar READ_LIMIT p
read_of p read = record { small = read.small; holds = read.holds }

-- so far it is so of a file of which nothing was read
pub none_found : (Of : List ℕ → Range → Type 0) (size : ℕ) → IsFoundSoFar Of (record { size = size; pieces = [] })
none_found Of size = record { small = omega arith; holds = λ b f. inl (λ place known. absurd (cc)) }

-- what is known behind a read was known before it, or lies in what was read
held : (p new : PictureFacts) (at len : ℕ) (Of : Range → Type 0) → IsReadOn p at len new → Holds Of p → Of (range at len) → Holds Of new
held p new at len Of on holds one place known = by (either-of (is_known p place) (is_inside at len place) (on.only place known))
  where
    by : (is_known p place ≡ true) ⊎ (is_inside at len place ≡ true) → IsPlaceOf Of place
    by (inl before) = holds place before
    by (inr inside) = record { range = range at len; of = one; inside = inside_in at len place inside }

wider : {Of Other : Range → Type 0} (p : PictureFacts) → ((r : Range) → Of r → Other r) → Holds Of p → Holds Other p
wider p among holds place known = let h = holds place known in record { range = h.range; of = among h.range h.of; inside = h.inside }

-- a range that may be read keeps what was read so far
pub found_keeps : (which : FilePart) (p : PictureFacts) (at len : ℕ) (new : PictureFacts) → IsFoundSoFar (needs_of which) p
    → AsksOf (needs_of which) p at len → IsFoundNext p at len → IsReadOn p at len new → IsFoundSoFar (needs_of which) new
found_keeps which p at len new read asks next on = record {
  small =
      let known : count_in (is_known new) 0 new.size ≡ sum_of new.pieces =
      count-pieces new.pieces 0 new.size on.is.apart (λ i d below. let e = on.is.within i d below in omega (arith, e)) in
      let same : count_in (is_known new) 0 new.size ≤ count_in (is_known_or p at len) 0 new.size =
      count-less (is_known new) (is_known_or p at len) 0 new.size on.only in
      let sized : count_in (is_known_or p at len) 0 new.size ≡ count_in (is_known_or p at len) 0 p.size =
      ap (count_in (is_known_or p at len) 0) on.size in
      let most = next.small in omega (arith, known, same, sized, most);
  holds = λ b f. of b (asks.among b (on.less b f)) (next.among b (on.less b f)) (read.holds b (on.less b f));
}
  where
    windows : (b : List ℕ) → IsSomeWindow b (range at len) → Holds (IsSomeWindow b) p ⊎ (HasWindows p b × Holds (needs_of which b) p) → Holds (IsSomeWindow b) p
    windows b w (inl holds) = holds
    windows b w (inr both) = absurd (asks.gone (both.0 (range at len) w))

    needed : (b : List ℕ) → Holds (IsSomeWindow b) p ⊎ (HasWindows p b × Holds (needs_of which b) p) → Holds (needs_of which b) p
    needed b (inl holds) = wider p (window_needed which b) holds
    needed b (inr both) = both.1

    of : (b : List ℕ) → needs_of which b (range at len) → IsSomeWindow b (range at len) ⊎ HasWindows p b
        → Holds (IsSomeWindow b) p ⊎ (HasWindows p b × Holds (needs_of which b) p)
        → Holds (IsSomeWindow b) new ⊎ (HasWindows new b × Holds (needs_of which b) new)
    of b one (inl window) holds = inl (held p new at len (IsSomeWindow b) on (windows b window holds) window)
    of b one (inr all) holds = inr (λ r w. on.keeps r.at r.len (all r w), held p new at len (needs_of which b) on (needed b holds) one)

-- a range that is asked for lies in the file
pub asked_fits : (which : FilePart) (p : PictureFacts) (at len : ℕ) → IsPicture p → AsksOf (needs_of which) p at len → at + len ≤ p.size
asked_fits which p at len is asks =
    let f = filled-agrees p is in
    let within : at + len ≤ _ = inside which (filled_with_zeros p) (range at len) (asks.among (filled_with_zeros p) f) in
    subst (λ n. at + len ≤ n) f.sized within

-- what was passed before a range was read is passed behind it
pub found_passes : {A E : Type 0} (old new : PictureFacts) (given : Result A E) (i : ℕ)
    → IfOk given (λ _. (k : ℕ) → HasPassed old k → HasPassed new k) → HasPassed old i → IfOk given (λ _. HasPassed new i)
found_passes old new (Ok a) i each passed = each i passed
found_passes old new (Err e) i each passed = tt

-- what is so of each file that agrees with the picture is so of each that has what was read
pub of_found : {which : FilePart} {size : ℕ} {reads : List Heard} {p : PictureFacts} {version : Versions} {name : NameFacts}
    {Is : List ℕ → Type 0} → IsFound which size reads p → IsPictureOf version name p → ((b : List ℕ) → AgreesWithPicture b p → Is b)
    → IsOfReads size reads Is
of_found found seen each = record {
  bytes = seen.bytes;
  has = found.has seen.bytes seen.agrees;
  is = λ b h. each b (found.agrees b h);
}
