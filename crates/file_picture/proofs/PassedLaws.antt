-- Sections that needn't be looked at again, needn't as a picture grows.
use Rattle.std.proofs.Common.{ℕ, List, arith}
use Rattle.file_picture.specs.Agrees.{AgreesWithPicture}
use Rattle.file_picture.specs.Passed.{HasPassed}
use Rattle.file_picture.specs.Picture.{PictureFacts, IsCovered}

-- no section stands before the first
pub passed-first : (p : PictureFacts) → HasPassed p 1
passed-first p = record {
  above = omega arith;
  none = λ b f t is j id before h. let above = h.section.index.above in absurd (omega (arith, before, above));
  there = λ b f j r before w. let above = w.here.index.above in absurd (omega (arith, before, above));
}

-- what was passed is, where more of the file is there
pub passed-more : {old new : PictureFacts} {i : ℕ} → ((b : List ℕ) → AgreesWithPicture b new → AgreesWithPicture b old)
    → ((at len : ℕ) → IsCovered old at len → IsCovered new at len) → HasPassed old i → HasPassed new i
passed-more less keeps passed = record {
  above = passed.above;
  none = λ b f t is j id before h. passed.none b (less b f) t is j id before h;
  there = λ b f j r before w. keeps r.at r.len (passed.there b (less b f) j r before w);
}
