-- What is known of a file and what is asked for decide what it is found to be, and it is so of each file that agrees.
use Rattle.std.proofs.Common.{◌≡◌, ◌⊎◌, inl, inr, ◌+◌, ◌≤◌, ◌<◌, ℕ, true, false, List, [], length, Option, Ok, Err, sym, subst, arith}
use Rattle.file_formats.specs.Cover.{CoverMore, IsPlaceOf}
use Rattle.file_formats.specs.DwarfSections.{IsDebugAnswer}
use Rattle.file_formats.specs.DwarfUnits.{DebugSections}
use Rattle.file_formats.specs.Identity.{Identity}
use Rattle.file_formats.specs.Parts.{IsDebugRange, IsSomePart}
use Rattle.file_formats.specs.Windows.{Range, range, IsSomeWindow}
use Rattle.file_formats.specs.declared.fault.Why.{Why}
use Rattle.file_formats.specs.declared.fault.Why.TheVariants.{TooLarge}
use Rattle.file_formats.proofs.CoverLaws.{cover-within}
use Rattle.file_formats.proofs.IdentityLemmas.{identity-unique}
use Rattle.file_formats.proofs.PartLaws.{part-inside}
use Rattle.file_picture.specs.Agrees.{AgreesWithPicture, AsksOf, IsOfEach, filled_with_zeros}
use Rattle.file_picture.specs.Counts.{count_in, is_among, is_inside, is_known, is_known_or, is_known_or_among}
use Rattle.file_picture.specs.Picture.{PictureFacts, IsCovered, IsPicture}
use Rattle.file_picture.specs.ReadSoFar.{HasWindows, IsNextRead, IsReadSoFar}
use Rattle.file_picture.specs.declared.view.Need.{Need}
use Rattle.file_picture.proofs.AgreeLaws.{filled-agrees}
use Rattle.file_picture.proofs.CountLemmas.{count-less, count-most}
use Rattle.file_picture.proofs.ReadSoFarLaws.{asked-more, covers_less, covers_more, either-left, either-of, either-right, holds-parts, holds-windows, inside_in, there-less}
use Rattle.row_types.specs.Name.{NameFacts}
use Rattle.row_types.specs.Reading.{ReadsBytes, ReadsWithin, RestsOn, too_large, no_identity, with_sources, without_sources}
use Rattle.row_types.specs.Row.{RowFacts, too_large_row}
use Rattle.row_types.specs.Sources.{AreSourcesOf}
use Rattle.row_types.specs.declared.limits.TheConstants.{EDITION, FILE_LIMIT, READ_LIMIT}
use Rattle.row_types.specs.declared.reading.Reading.{Reading}
use Rattle.row_types.specs.declared.reading.Reading.TheVariants.{Elf, Plain}
use Rattle.tree_trait.specs.Reader.{IsReadPart, IsRestPart, IsRowOf}
use Rattle.elf_classify.specs.DebugViews.{AreDebugPlaces, KnowsIdentity}
use Rattle.elf_classify.specs.Views.{IsIdentityOfEach}
use Rattle.elf_reading.specs.RowViews.{CoversMore}
use Rattle.elf_reading.proofs.ReadLemmas.{large_is_read, row_says}

-- a window that is asked for is a part
pub window_asked : (p : PictureFacts) (at len : ℕ) → AsksOf IsSomeWindow p at len → AsksOf IsSomePart p at len
window_asked p at len asks = record { gone = asks.gone; among = λ b f. inl (asks.among b f) }

-- it lies in the file
pub window_fits : (p : PictureFacts) (at len : ℕ) → IsPicture p → AsksOf IsSomeWindow p at len → at + len ≤ p.size
window_fits p at len is asks =
    let f = filled-agrees p is in
    let inside : at + len ≤ _ = part-inside (filled_with_zeros p) (range at len) (inl (asks.among (filled_with_zeros p) f)) in
    subst (λ n. at + len ≤ n) f.sized inside

module _ (limit : ℕ) (p : PictureFacts) (is : IsPicture p) (read : IsReadSoFar limit p) where
  -- the windows that are there cover too much with one that is asked for
  pub window_seen : (at len : ℕ) → AsksOf IsSomeWindow p at len → limit < count_in (is_known_or p at len) 0 p.size
      → IsOfEach (RestsOn limit) (λ b. ReadsWithin limit b (Plain TooLarge)) p
  window_seen at len asks more = record { is = λ b f. too_large (cover b f); there = λ b f r h. absurd (h.few (cover b f)) }
    where
      cover : (b : List ℕ) → AgreesWithPicture b p → CoverMore (IsSomeWindow b) limit
      cover b f =
          asked-more (IsSomeWindow b) p at len limit
          (holds-windows p b (range at len) asks.gone (asks.among b f) (read.holds b f)) (asks.among b f) more

  -- they don't, and it may be read
  pub window_next : (at len : ℕ) → AsksOf IsSomeWindow p at len → count_in (is_known_or p at len) 0 p.size ≤ limit
      → AsksOf IsSomePart p at len × IsNextRead limit p at len
  window_next at len asks most = (window_asked p at len asks, record { small = most; among = λ b f. inl (asks.among b f) })

  -- windows that are all there cover no more than may be read
  few : (b : List ℕ) → HasWindows p b → CoverMore (IsSomeWindow b) limit → ⊥
  few b all = there-less p limit (IsSomeWindow b) is read.small all

  -- there is no identity
  pub plain_seen : (why : Why) → IsIdentityOfEach p (Err why) → IsOfEach (RestsOn limit) (λ b. ReadsWithin limit b (Plain why)) p
  plain_seen why s = record {
    is = λ b f. no_identity why (few b (s.there b f)) (s.is b f);
    there = λ b f r h. of b f r h.part;
  }
    where
      of : (b : List ℕ) → AgreesWithPicture b p → (r : Range) → IsSomeWindow b r ⊎ (IsDebugRange b r × (CoverMore (IsSomePart b) limit → ⊥))
          → IsCovered p r.at r.len
      of b f r (inl w) = s.there b f r w
      of b f r (inr d) =
          let both = identity-unique b (Err why) (Ok d.0.has.identity) (s.is b f) d.0.has.is_identity in absurd (cc)

  module _ (identity : Identity) (known : IsIdentityOfEach p (Ok identity)) where
    -- all parts are there
    pub sources_seen : (parts : Option DebugSections) (sources : List (List ℕ)) → IsOfEach IsSomePart (λ b. IsDebugAnswer b parts) p
        → ((b : List ℕ) → IsDebugAnswer b parts → AreSourcesOf b sources)
        → IsOfEach (RestsOn limit) (λ b. ReadsWithin limit b (Elf identity sources)) p
    sources_seen parts sources s are = record {
      is = λ b f.
          with_sources identity sources (few b (known.there b f)) (known.is b f)
          (there-less p limit (IsSomePart b) is read.small (s.there b f)) (are b (s.is b f));
      there = λ b f r h. of b f r h.part;
    }
      where
        of : (b : List ℕ) → AgreesWithPicture b p → (r : Range) → IsSomeWindow b r ⊎ (IsDebugRange b r × (CoverMore (IsSomePart b) limit → ⊥))
            → IsCovered p r.at r.len
        of b f r (inl w) = known.there b f r w
        of b f r (inr d) = s.there b f r (inr d.0)

    -- the parts cover too much
    pub none_seen : CoversMore limit p true → IsOfEach (RestsOn limit) (λ b. ReadsWithin limit b (Elf identity [])) p
    none_seen more = record {
      is = λ b f. without_sources identity (few b (known.there b f)) (known.is b f) (more b f);
      there = λ b f r h. of b f r h.part;
    }
      where
        of : (b : List ℕ) → AgreesWithPicture b p → (r : Range) → IsSomeWindow b r ⊎ (IsDebugRange b r × (CoverMore (IsSomePart b) limit → ⊥))
            → IsCovered p r.at r.len
        of b f r (inl w) = known.there b f r w
        of b f r (inr d) = absurd (d.1 (more b f))

    -- they don't, and the one that is asked for may be read
    pub part_next : (at len : ℕ) → AsksOf IsSomePart p at len → CoversMore limit p false → IsNextRead limit p at len
    part_next at len asks less = record {
      small = less.1 at len asks;
      among = λ b f. inr (record { windows = known.there b f; few = less.0 b f });
    }

-- what is counted of all parts by their places decides it
module _ (limit : ℕ) (p : PictureFacts) (is : IsPicture p) (read : IsReadSoFar limit p) (k : KnowsIdentity p) (places : List Need)
    (are : AreDebugPlaces p places) where
  pub counts_more : limit < count_in (is_known_or_among p places) 0 p.size → CoversMore limit p true
  counts_more more b f = covers_more (IsSomePart b) (is_known_or_among p places) p.size limit (λ q e. of q (either-of (is_known p q) (is_among places q) e)) more
    where
      of : (q : ℕ) → (is_known p q ≡ true) ⊎ (is_among places q ≡ true) → IsPlaceOf (IsSomePart b) q
      of q (inl known) = holds-parts p b (read.holds b f) q known
      of q (inr among) = let h = (are.each b f q).0 among in record { range = h.range; of = inr h.of; inside = h.inside }

  counts_less : count_in (is_known_or_among p places) 0 p.size ≤ limit → (b : List ℕ) → AgreesWithPicture b p
      → CoverMore (IsSomePart b) limit → ⊥
  counts_less most b f = covers_less (IsSomePart b) (is_known_or_among p places) p.size limit (λ q h. (here q h h.of, under q h)) most
    where
      here : (q : ℕ) (h : IsPlaceOf (IsSomePart b) q) → IsSomePart b h.range → is_known_or_among p places q ≡ true
      here q h (inl w) = either-left (is_known p q) (is_among places q) ((k.known.there b f h.range w).known q h.inside.above h.inside.below)
      here q h (inr d) =
          either-right (is_known p q) (is_among places q) ((are.each b f q).1 (record { range = h.range; of = d; inside = h.inside }))

      under : (q : ℕ) → IsPlaceOf (IsSomePart b) q → q < p.size
      under q h =
          let fits = part-inside b h.range h.of in
          let below = h.inside.below in
          let sized = f.sized in omega (arith, fits, below, sized)

  counts_small : count_in (is_known_or_among p places) 0 p.size ≤ limit → (at len : ℕ) → AsksOf IsSomePart p at len
      → count_in (is_known_or p at len) 0 p.size ≤ limit
  counts_small most at len asks =
      let f = filled-agrees p is in
      let less = count-less (is_known_or p at len) (is_known_or_among p places) 0 p.size
      (λ q e. of q (asks.among (filled_with_zeros p) f) (either-of (is_known p q) (is_inside at len q) e)) in
      omega (arith, less, most)
    where
      of : (q : ℕ) → IsSomePart (filled_with_zeros p) (range at len) → (is_known p q ≡ true) ⊎ (is_inside at len q ≡ true)
          → is_known_or_among p places q ≡ true
      of q part (inl known) = either-left (is_known p q) (is_among places q) known
      of q (inl w) (inr inside) = absurd (asks.gone (k.known.there (filled_with_zeros p) (filled-agrees p is) (range at len) w))
      of q (inr d) (inr inside) =
          either-right (is_known p q) (is_among places q)
          ((are.each (filled_with_zeros p) (filled-agrees p is) q).1 (record { range = range at len; of = d; inside = inside_in at len q inside }))

  pub counts_few : count_in (is_known_or_among p places) 0 p.size ≤ limit → CoversMore limit p false
  counts_few most = (counts_less most, counts_small most)

-- what is asked for is a part on which the row rests
pub row_asked : (name : NameFacts) (p : PictureFacts) (at len : ℕ) → name.stamp.size ≤ FILE_LIMIT → AsksOf IsSomePart p at len
    → AsksOf (IsReadPart name.stamp) p at len
row_asked name p at len small n = record { gone = n.gone; among = λ b f. record { small = small; part = n.among b f } }

-- the row is that of each file that agrees
pub row_seen : (name : NameFacts) (p : PictureFacts) (reading : Reading) (row : RowFacts)
    → row ≡ record { name = name; edition = EDITION; reading = reading } → name.stamp.size ≤ FILE_LIMIT
    → IsOfEach (RestsOn READ_LIMIT) (λ b. ReadsBytes b reading) p → IsOfEach (IsRestPart name.stamp) (λ b. IsRowOf name b row) p
row_seen name p reading row e small s = record {
  is = λ b f. row_says name b reading row e small (s.is b f);
  there = λ b f r h. s.there b f r h.rests;
}

not_both : (m n : ℕ) → m < n → n ≤ m → ⊥
not_both m n less more = omega arith

-- that of a file above the limit rests on nothing
pub large_seen : (name : NameFacts) (p : PictureFacts) (row : RowFacts) → row ≡ too_large_row name → FILE_LIMIT < name.stamp.size
    → IsOfEach (IsRestPart name.stamp) (λ b. IsRowOf name b row) p
large_seen name p row e above = record {
  is = λ b f. subst (IsRowOf name b) (sym e) (large_is_read name b above);
  there = λ b f r h. absurd (not_both FILE_LIMIT name.stamp.size above h.small);
}

-- the parts of a file of no more than so many bytes cover no more
pub small_covers : (limit : ℕ) (p : PictureFacts) → p.size ≤ limit → CoversMore limit p false
small_covers limit p small = (
  λ b f more.
      let sized = f.sized in
      cover-within (IsSomePart b) (length b) limit (part-inside b) (omega (arith, sized, small)) more,
  λ at len asks. let most = count-most (is_known_or p at len) 0 p.size in omega (arith, most, small),
)
