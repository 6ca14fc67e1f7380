-- What is read of a picture is so of each file that agrees with it.
use Rattle.std.proofs.Common.{sym, ◌∙◌, ℕ, suc, List, arith, Result}
use Rattle.file_formats.specs.declared.fault.Why.{Why}
use Rattle.file_formats.specs.Identity.{Identity, IsIdentity}
use Rattle.file_formats.specs.Windows.{AgreeOnWindows, Range, range, IsSomeWindow, rank}
use Rattle.file_formats.proofs.AgreeBelow.{AgreeBelow, agree_all, all_below}
use Rattle.file_formats.proofs.WindowLaws.{identity-of_windows}
use Rattle.file_formats.proofs.WindowLemmas.{window_moves, agree_turned}
use Rattle.file_picture.specs.Agrees.{AgreesWithPicture, filled_with_zeros}
use Rattle.file_picture.specs.Picture.{PictureFacts, IsPicture, IsCovered}
use Rattle.file_picture.specs.declared.view.Need.{Need}
use Rattle.file_picture.proofs.AgreeLaws.{agree-covered, filled-agrees}
use Rattle.elf_file.specs.Steps.{AllHere, Needs}

-- a file that agrees with a picture agrees with its filled form in the windows that are there
pub agrees_below : {p : PictureFacts} {b : List ℕ} {n : ℕ} → IsPicture p → AgreesWithPicture b p → AllHere p n → AgreeBelow (filled_with_zeros p) b n
agrees_below {p} {b} a f all = record {
  sized = (filled-agrees p a).sized ∙ sym f.sized;
  same = λ w r below is. agree-covered p (filled_with_zeros p) b r.at r.len (filled-agrees p a) f (all.here w r below is);
}

-- a need is a window of each file that agrees with the picture
pub need-of_each : {p : PictureFacts} {need : Need} → IsPicture p → Needs p need → (b : List ℕ) → AgreesWithPicture b p
    → IsSomeWindow b (range need.at need.len)
need-of_each {need = need} a n b f = record {
  window = n.window;
  is = window_moves (range need.at need.len) n.window (agrees_below a f n.before) n.is;
}

-- with all windows there, the filled picture agrees with each file on them
pub agree_there : {p : PictureFacts} {b : List ℕ} → IsPicture p → AgreesWithPicture b p → ((n : ℕ) → AllHere p n) → AgreeOnWindows (filled_with_zeros p) b
agree_there {p} {b} a f all = agree_all (λ n. agrees_below a f (all n))

-- the answer of a picture whose windows are there is that of each file that agrees with it
pub identity-of_each : {p : PictureFacts} {r : Result Identity Why} → IsPicture p → ((n : ℕ) → AllHere p n)
    → IsIdentity (filled_with_zeros p) r → (b : List ℕ) → AgreesWithPicture b p → IsIdentity b r
identity-of_each a all is b f = identity-of_windows (agree_there a f all) is

-- and all windows of each such file are there
pub windows-of_each : {p : PictureFacts} → IsPicture p → ((n : ℕ) → AllHere p n) → (b : List ℕ) → AgreesWithPicture b p → (r : Range)
    → IsSomeWindow b r → IsCovered p r.at r.len
windows-of_each {p} a all b f r h =
    let turned : AgreeBelow b (filled_with_zeros p) (rank h.window) =
    agree_turned (rank h.window) (all_below (rank h.window) (agree_there a f all)) in
    (all (suc (rank h.window))).here h.window r (omega arith) (window_moves r h.window turned h.is)
