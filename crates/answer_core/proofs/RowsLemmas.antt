-- In a told world the file of a row that is there is among the candidates, and would pass.
use Rattle.std.proofs.Common.{◌≡◌, ℕ, zero, suc, ◌<◌, ◌&&◌, inl, inr, Bool, true, false, List, [], ◌∷◌, ◌++◌}
use Rattle.std.proofs.Common.{map, filter, length, get_or, Contains, IsTrue, Some, refl, sym, ◌≤◌, ◌∙◌, ap, subst, arith}
use Rattle.std.proofs.lemmas.List.Folds.{list_any_at}
use Rattle.index_rows.specs.Classes.{has_class, lists_source}
use Rattle.row_types.specs.Row.{RowFacts}
use Rattle.row_types.specs.declared.identity.Kind.{Kind}
use Rattle.row_types.specs.declared.identity.Kind.TheVariants as kind
use Rattle.answer_check.specs.Certified.{IsCertified}
use Rattle.webapi_routes.specs.declared.route.Route.{Route}
use Rattle.webapi_routes.specs.declared.route.Route.TheVariants.{Debuginfo, Executable, Source, Section, Metrics}
use Rattle.answer_core.specs.Candidates.{as_class, candidates, is_in_one, is_source_listed, of_class, source_in}
use Rattle.row_types.specs.declared.limits.TheConstants.{FILE_LIMIT}
use Rattle.answer_core.specs.Complete.{HasToFind, IsSourceThere, IsThere, IsToldWorld, NoneIsThere, SomeWouldPass, WouldPass, size_limit}
use Rattle.answer_core.specs.Loads.{Hand, NonePasses}
use Rattle.answer_core.specs.Local.{AreCandidatesAt, Sight}
use Rattle.answer_check.specs.Passing.{Passes}
use Rattle.answer_check.specs.Section.{HasSectionOf}
use Rattle.answer_core.specs.declared.candidate.Candidate.{Candidate}
use Rattle.answer_core.proofs.CompleteLemmas.{complete, read_of, row_certified}

-- the row's file would pass, where its bytes do
would_pass : {true_row : RowFacts → Type 0} (hand : Hand) (route : Route) (class : Kind) (id : List ℕ) (row : RowFacts)
    → size_limit route ≡ FILE_LIMIT → IsToldWorld true_row hand.version → true_row row → IsThere hand class id row
    → ((bytes : List ℕ) → hand.version row.name.path row.name.stamp bytes → IsCertified class id bytes
    → Passes route (Some class) bytes)
    → WouldPass hand route (as_class class row)
would_pass hand route class id row most world sound there passes =
    let reads = world.reads row sound in record {
      stamp = row.name.stamp;
      there = there.at;
      small = subst (λ n. row.name.stamp.size ≤ n) (sym most) (read_of hand.version row class id reads there.is).0;
      passes = λ b known sized. passes b known (row_certified hand.version world.one row class id reads there.is b known);
    }

-- a candidate more
some_left : (hand : Hand) (route : Route) (xs ys : List Candidate) → SomeWouldPass hand route xs
    → SomeWouldPass hand route (xs ++ ys)
some_left hand route [] ys some = absurd some
some_left hand route (x ∷ xs) ys (inl would) = inl would
some_left hand route (x ∷ xs) ys (inr some) = inr (some_left hand route xs ys some)

some_right : (hand : Hand) (route : Route) (xs ys : List Candidate) → SomeWouldPass hand route ys
    → SomeWouldPass hand route (xs ++ ys)
some_right hand route [] ys some = some
some_right hand route (x ∷ xs) ys some = inr (some_right hand route xs ys some)

some_more : (hand : Hand) (route : Route) (class : Kind) (p : RowFacts → Bool) (row : RowFacts) (rows : List RowFacts)
    (b : Bool) → p row ≡ b → SomeWouldPass hand route (map (as_class class) (filter p rows))
    → SomeWouldPass hand route (map (as_class class) (filter p (row ∷ rows)))
some_more hand route class p row rows true e some = rw e (inr some)
some_more hand route class p row rows false e some = rw e some

-- the file of the row at this place is a candidate
some_at : (hand : Hand) (route : Route) (class : Kind) (p : RowFacts → Bool) (rows : List RowFacts) (k : ℕ) (row : RowFacts)
    → k < length rows → get_or rows k row ≡ row → p row ≡ true → WouldPass hand route (as_class class row)
    → SomeWouldPass hand route (map (as_class class) (filter p rows))
some_at hand route class p [] k row within here is would = absurd (omega arith)
some_at hand route class p (x ∷ rows) zero row within here is would = rw (ap p here ∙ is) (inl (rw here would))
some_at hand route class p (x ∷ rows) (suc k) row within here is would =
    some_more hand route class p x rows (p x) refl (some_at hand route class p rows k row (omega arith) here is would)

of_class_has : (hand : Hand) (route : Route) (class : Kind) (id : List ℕ) (rows : List RowFacts) (row : RowFacts)
    → Contains rows row → has_class id class row.reading ≡ true → WouldPass hand route (as_class class row)
    → SomeWouldPass hand route (of_class rows id class)
of_class_has hand route class id rows row in_ is would =
    some_at hand route class (λ r. has_class id class r.reading) rows in_.0 row in_.1 in_.2 is would

source_has : (hand : Hand) (folders : List (List ℕ)) (id path : List ℕ) (rows : List RowFacts) (row : RowFacts)
    → Contains rows row → IsSourceThere hand folders id path row
    → SomeWouldPass hand (Source id path) (source_in rows folders id path)
source_has hand folders id path rows row in_ there =
    let listed : is_source_listed rows id path ≡ true =
    list_any_at (λ r. lists_source id path r.reading) rows in_.0 row in_.1 (ap (λ r. lists_source id path r.reading) in_.2 ∙ there.lists) in
    let both : (is_source_listed rows id path && is_in_one folders path) ≡ true =
    ap (λ b. b && is_in_one folders path) listed ∙ there.inside in
    rw both (inl (record { stamp = there.stamp; there = there.at; small = there.small; passes = λ b known sized. tt }))

-- a row by which something has to be found gives a candidate that would pass
has_to_find : {true_row : RowFacts → Type 0} (hand : Hand) (folders : List (List ℕ)) (route : Route) (rows : List RowFacts)
    (row : RowFacts) → IsToldWorld true_row hand.version → true_row row → Contains rows row → HasToFind hand folders route row
    → SomeWouldPass hand route (candidates rows folders route)
has_to_find hand folders (Debuginfo id) rows row world sound in_ there =
    of_class_has hand (Debuginfo id) kind.Debuginfo id rows row in_ there.is
    (would_pass hand (Debuginfo id) kind.Debuginfo id row refl world sound there (λ bytes known certified. certified))
has_to_find hand folders (Executable id) rows row world sound in_ there =
    of_class_has hand (Executable id) kind.Executable id rows row in_ there.is
    (would_pass hand (Executable id) kind.Executable id row refl world sound there (λ bytes known certified. certified))
has_to_find hand folders (Source id path) rows row world sound in_ there = source_has hand folders id path rows row in_ there
has_to_find hand folders Metrics rows row world sound in_ there = absurd there
has_to_find hand folders (Section id name) rows row world sound in_ has =
    by_case has.class has.there (would_pass hand (Section id name) has.class id row refl world sound has.there
    (λ bytes known certified. (
      certified,
      subst (λ (b : List ℕ). HasSectionOf b name)
          (world.one row.name.path row.name.stamp has.bytes bytes has.known known) has.has,
    )))
  where
    by_case : (class : Kind) → IsThere hand class id row → WouldPass hand (Section id name) (as_class class row)
        → SomeWouldPass hand (Section id name) (candidates rows folders (Section id name))
    by_case kind.Debuginfo there would =
        some_left hand (Section id name) (of_class rows id kind.Debuginfo) (of_class rows id kind.Executable)
        (of_class_has hand (Section id name) kind.Debuginfo id rows row in_ there.is would)
    by_case kind.Executable there would =
        some_right hand (Section id name) (of_class rows id kind.Debuginfo) (of_class rows id kind.Executable)
        (of_class_has hand (Section id name) kind.Executable id rows row in_ there.is would)

-- where nothing was found of a hand that is told and still, no candidate that would pass is there, and no row by which
-- something has to be found
pub none_is_there : (sight : Sight) (route : Route) (all : List Candidate)
    → AreCandidatesAt sight.true_row sight.log sight.folders route all → IsTrue sight.hand.told → sight.hand.start.Still
    → NonePasses sight.hand route all sight.answers false → NoneIsThere sight route
none_is_there sight route all stood told still none =
    let no : SomeWouldPass sight.hand route all → ⊥ = complete sight.hand route all sight.answers told still none in record {
      all = all;
      stood = stood;
      none = no;
      no_row = λ world row in_ has. no (rw stood.are (has_to_find sight.hand sight.folders route stood.rows row world
          (subst sight.true_row in_.2 (stood.stood.sound.holds in_.0 row in_.1)) in_ has));
    }
