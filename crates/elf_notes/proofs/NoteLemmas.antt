-- The places that a walk over notes reaches are the places of the notes.
use Rattle.std.proofs.Common.{◌≡◌, ℕ, ◌≤◌, true, false, arith}
use Rattle.file_formats.specs.Notes.{Notes, HoldsNote, IsNotePlace, first_place, place_after, next_place, is_build_id, HasBuildId}

-- the walk from place p reaches the note at place q
pub data ReachesNote (s : Notes) : ℕ → ℕ → Type 0 where
  here : (p : ℕ) → HoldsNote s p → ReachesNote s p p
  later : (p q : ℕ) → HoldsNote s p → ReachesNote s (next_place s p) q → ReachesNote s p q

-- a walk that reaches a note reaches the one after it
reached_next : {s : Notes} {p q : ℕ}
    → ReachesNote s p q → HoldsNote s (next_place s q) → ReachesNote s p (next_place s q)
reached_next {s} (here r there) h = later r (next_place s r) there (here (next_place s r) h)
reached_next {s} (later r t there rest) h = later r (next_place s t) there (reached_next rest h)

-- the walk from the start reaches each place
pub reached-place : {s : Notes} {q : ℕ} → IsNotePlace s q → ReachesNote s 0 q
reached-place (first_place h) = here 0 h
reached-place (place_after p before h) = reached_next (reached-place before) h

-- a walk goes forward
pub reached-le : {s : Notes} {p q : ℕ} → ReachesNote s p q → p ≤ q
reached-le (here r h) = omega arith
reached-le {s} (later r t h rest) = let up : next_place s r ≤ t = reached-le rest in omega arith

-- past a note that is no build-id, the walk still reaches each build-id
pub reached-past : {s : Notes} {p q : ℕ}
    → ReachesNote s p q → is_build_id s p ≡ false → is_build_id s q ≡ true
    → ReachesNote s (next_place s p) q
reached-past (here r h) other same = absurd (cc)
reached-past (later r t h rest) other same = rest

-- where no note is, the walk reaches nothing
pub reached-end : {s : Notes} {p q : ℕ} → ReachesNote s p q → (HoldsNote s p → ⊥) → ⊥
reached-end (here r h) none = none h
reached-end (later r t h rest) none = none h

-- what a walk that has come to place p knows of the build-ids
pub record IsUnderWay (s : Notes) (p : ℕ) : Type 0 where
  pub place : HoldsNote s p → IsNotePlace s p
  pub ahead : (q : ℕ) → HasBuildId s q → ReachesNote s p q

pub under_way-start : {s : Notes} → IsUnderWay s 0
under_way-start = record { place = λ h. first_place h; ahead = λ q h. reached-place h.at }

pub under_way-next : {s : Notes} {p : ℕ}
    → IsUnderWay s p → HoldsNote s p → is_build_id s p ≡ false → IsUnderWay s (next_place s p)
under_way-next {p = p} w there other = record {
  place = λ h. place_after p (w.place there) h;
  ahead = λ q h. reached-past (w.ahead q h) other h.build_id;
}
