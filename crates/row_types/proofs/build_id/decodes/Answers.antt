-- It decodes exactly where the text is digits for the room.
use Rattle.std.proofs.Common.{◌≡◌, List, ℕ, length, Result, Ok, Err, MatchResult, is_ok, sym, ◌∙◌, ap}
use Rattle.hex.specs.Hex.{decode_sized}
use Rattle.hex.specs.declared.error.FromHexError.{FromHexError}
use Rattle.hex.proofs.HexLemmas.{IsOk-decode_sized}
use Rattle.row_types.proofs.build_id.decodes.Goals as goal

-- the call succeeds where there is a decoding
ok_is : (decoded : Result (List ℕ) FromHexError) (result : Result (Unit {0}) FromHexError) (out : List ℕ) → MatchResult decoded (λ bytes. (result ≡ Ok tt) × (out ≡ bytes)) (λ e. result ≡ Err e) → is_ok result ≡ is_ok decoded
ok_is (Ok bytes) result out h = ap is_ok h.0
ok_is (Err e) result out h = ap is_ok h

pub returns-clause-ok : goal.returns-clause-ok
returns-clause-ok c =
    let sized = IsOk-decode_sized c.args.text.now (length c.args.room.now) in
    let same = c.is_ok.ensures.value ∙ ok_is (decode_sized c.args.text.now (length c.args.room.now)) c.decode_to_slice.result c.decode_to_slice.new.out c.decode_to_slice.ensures.value in (
      λ h. let both = sized.0 (sym same ∙ h) in record { long = both.0; digits = both.1 },
      λ h. same ∙ sized.1 (h.long, h.digits),
    )
