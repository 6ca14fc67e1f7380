-- Lines of `trial` with more or fewer words than three.
use Rattle.std.proofs.Common.{◌≡◌, ◌≢◌, ℕ, List, [], ◌∷◌, length, refl}
use Rattle.dbgd_words.specs.Words.{trial_words, unreadable}

pub no_three : (words : List (List ℕ)) → length words ≢ 3 → unreadable ≡ trial_words words
no_three [] n = refl
no_three (a ∷ []) n = refl
no_three (a ∷ b ∷ []) n = refl
no_three (a ∷ b ∷ c ∷ []) n = absurd (n refl)
no_three (a ∷ b ∷ c ∷ d ∷ more) n = refl
