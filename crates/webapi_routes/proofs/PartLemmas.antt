-- The parts that a text is cut into.
use Rattle.std.proofs.Common.{◌≡◌, ◌≢◌, ℕ, List, ◌∷◌, ◌++◌, Option, Some, None, Bor, Result, Ok, Err, sym, ap, ◌∙◌, lit<, codes}
use Rattle.std.specs.Prelude.{MatchOption}
use Rattle.std.proofs.lemmas.List.{append_cancel_left}
use Rattle.std.proofs.lemmas.List.Elements.{All-from_get_or}
use Rattle.std.proofs.lemmas.Str.Pattern.{IsSplitOnceResult, split_after, split_parts}
use Rattle.hex.specs.Hex.{decode_of}
use Rattle.row_types.specs.BuildId.{IsIdText}
use Rattle.row_types.specs.declared.limits.TheConstants.{SEPARATOR}
use Rattle.webapi_routes.specs.Targets.{IdTextSays, IsNoIdText, UnlessMemory}
use Rattle.webapi_routes.specs.Parts.{IsTooLong, Makes}
use Rattle.webapi_routes.specs.Written.{IsWantedText, IsWritten, Wanted, debuginfo, executable, section, source, wanted_text}
use Rattle.webapi_routes.specs.declared.fault.RouteFault.{RouteFault}
use Rattle.webapi_routes.specs.declared.fault.RouteFault.TheVariants.{BadEscape, BadId, BadPath, NoRoute, OutOfMemory}
use Rattle.webapi_routes.specs.declared.route.Route.{Route}

-- where a text is cut at its first slash behind the front, what stands there are the parts that it is written from
parts_there : {text tail : List ℕ} (cut : Option (Bor (List ℕ) × Bor (List ℕ))) → text ≡ codes "/buildid/" ++ tail → IsSplitOnceResult 47 tail cut
    → (hex : List ℕ) (wanted : Wanted) → IsWritten text hex wanted
    → MatchOption cut ⊥ (λ x. (x.0.now ≡ hex) × (x.1.now ≡ wanted_text wanted))
parts_there {text} {tail} cut front splits hex wanted w =
    split_after 47 tail hex (wanted_text wanted) cut splits (lit< tt)
    (append_cancel_left (codes "/buildid/") tail (hex ++ SEPARATOR ∷ wanted_text wanted) (sym front ∙ w.whole))
    (λ i within. w.one_piece i 0 within)

-- a text that isn't cut there is no route's
pub no_slash : {text tail : List ℕ} → text ≡ codes "/buildid/" ++ tail → IsSplitOnceResult 47 tail None → IsNoIdText text
no_slash front splits hex wanted w = parts_there None front splits hex wanted w

-- nor is one that asks for nothing that is known
pub nothing_asked : {text tail : List ℕ} (x : Bor (List ℕ) × Bor (List ℕ)) → text ≡ codes "/buildid/" ++ tail → IsSplitOnceResult 47 tail (Some x)
    → ((wanted : Wanted) → ¬ (IsWantedText x.1.now wanted)) → IsNoIdText text
nothing_asked x front splits none hex wanted w =
    none wanted (record { text = (parts_there (Some x) front splits hex wanted w).1; valid = w.valid })

-- one that asks for something is written so
pub something_asked : {text tail : List ℕ} {wanted : Wanted} (x : Bor (List ℕ) × Bor (List ℕ)) → text ≡ codes "/buildid/" ++ tail
    → IsSplitOnceResult 47 tail (Some x) → IsWantedText x.1.now wanted → IsWritten text x.0.now wanted
something_asked x front splits asks =
    let parts = split_parts 47 _ (Some x) splits (lit< tt) in record {
      whole = front ∙ ap (λ l. codes "/buildid/" ++ l) (parts.0 ∙ ap (λ l. x.0.now ++ SEPARATOR ∷ l) asks.text);
      one_piece = All-from_get_or (λ b. b ≢ SEPARATOR) x.0.now 0 parts.1;
      valid = asks.valid;
    }

-- what asks for none of the four asks for nothing
pub none_asked : {bytes : List ℕ} → (bytes ≡ codes "debuginfo" → ⊥) → (bytes ≡ codes "executable" → ⊥)
    → ((path : List ℕ) → ¬ (IsWantedText bytes (source path))) → ((name : List ℕ) → ¬ (IsWantedText bytes (section name)))
    → (wanted : Wanted) → ¬ (IsWantedText bytes wanted)
none_asked d e p n debuginfo asks = d asks.text
none_asked d e p n executable asks = e asks.text
none_asked d e p n (source path) asks = p path asks
none_asked d e p n (section name) asks = n name asks

-- a path that is too long was asked for
long_path : {text hex : List ℕ} (wanted : Wanted) → IsWritten text hex wanted → IsIdText hex → IsTooLong wanted → IdTextSays text (Err BadPath)
long_path debuginfo w digits long = absurd long
long_path executable w digits long = absurd long
long_path {text} {hex} (source path) w digits long = record { hex = hex; path = path; written = w; digits = digits; long = long }
long_path (section name) w digits long = absurd long

-- what is made of the parts is what the text says
pub made_says : {text hex id : List ℕ} {wanted : Wanted} (answer : Result Route RouteFault) → IsWritten text hex wanted → IsIdText hex → decode_of hex ≡ Ok id
    → Makes id wanted answer → UnlessMemory answer (IdTextSays text answer)
made_says {text} {hex} {id} {wanted} (Ok route) w digits bytes makes =
    record { hex = hex; wanted = wanted; id = id; written = w; digits = digits; bytes = bytes; short = makes.0; value = makes.1 }
made_says (Err BadEscape) w digits bytes makes = absurd makes
made_says (Err NoRoute) w digits bytes makes = absurd makes
made_says (Err BadId) w digits bytes makes = absurd makes
made_says (Err BadPath) w digits bytes makes = long_path _ w digits makes
made_says (Err OutOfMemory) w digits bytes makes = tt
