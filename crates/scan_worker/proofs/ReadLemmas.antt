-- What the opening of a listed file and the reads behind it say together.
use Rattle.std.proofs.Common.{◌≡◌, ℕ, Bool, List, [], ◌∷◌, ◌++◌, refl, sym, ◌∙◌, ap, subst, arith}
use Rattle.std.specs.Prelude.{IsTrue}
use Rattle.std.proofs.lemmas.List.{append-nil}
use Rattle.std.proofs.lemmas.List.Elements.{All-nil}
use Rattle.row_types.specs.Faults.{Rose}
use Rattle.row_types.specs.Name.{NameFacts}
use Rattle.row_types.specs.Stamp.{StampFacts}
use Rattle.tree_trait.specs.Asks.{AsksTree}
use Rattle.tree_trait.specs.Fills.{HearsReads, IsReadAmong, IsReadOfFile}
use Rattle.tree_trait.specs.Found.{Versions}
use Rattle.tree_trait.specs.Heard.{Heard, call_failed}
use Rattle.tree_trait.specs.Listens.{Listens, heard_or_none}
use Rattle.tree_trait.specs.Open.{OpenFacts, was_opened, was_too_large, open_gone, open_failed, open_no_memory}
use Rattle.tree_trait.specs.Reader.{IsReadPart}
use Rattle.tree_trait.specs.Shown.{HandsOn, ShownTree}
use Rattle.tree_trait.proofs.FillLemmas.{listens_reads, reads_none}
use Rattle.tree_trait.proofs.ListenLemmas.{listens_one, listens_then, stays_on}
use Rattle.scan_worker.specs.Parts.{ReadsOpenFile}
use Rattle.scan_worker.specs.Read.{AsksAlone, FailsToRead, ReadsName, heard_opening, opening_leads_to}
use Rattle.scan_worker.specs.declared.read.NameRead.{NameRead}
use Rattle.scan_worker.specs.declared.read.NameRead.TheVariants.{Row, Altered, Failed, OutOfMemory}

-- nothing has no last
no_last : (front : List Heard) (last : Heard) → [] ≡ front ++ last ∷ [] → ⊥
no_last [] last e = absurd (cc)
no_last (x ∷ front) last e = absurd (cc)

-- the same path and stamp
pub name_of_parts : {path : List ℕ} {stamp : StampFacts} {name : NameFacts} → path ≡ name.path → stamp ≡ name.stamp
    → record { path = path; stamp = stamp } ≡ name
name_of_parts {stamp = stamp} {name} p s =
    ap {B = NameFacts} (λ (q : List ℕ). record { path = q; stamp = stamp }) p
    ∙ ap {B = NameFacts} (λ (t : StampFacts). record { path = name.path; stamp = t }) s

-- an opening alone fails itself
fails_alone : (name : NameFacts) (answer : OpenFacts) → FailsToRead name answer [] → IsTrue (call_failed (heard_opening name answer))
fails_alone name (was_opened stamp) fails = absurd (no_last fails.1.front fails.1.last fails.1.all)
fails_alone name (was_too_large stamp) fails = absurd fails
fails_alone name open_gone fails = absurd fails
fails_alone name open_failed fails = refl
fails_alone name open_no_memory fails = absurd fails

module _ {W : Type 0} (told : Bool) (version : Versions) (name : NameFacts) where
  -- a file was opened, and nothing of it read
  pub opened_alone : {stamp : StampFacts} {hand : ShownTree} (given : NameRead W)
      → opening_leads_to version name (was_opened stamp) [] given → (given ≡ Failed → ⊥)
      → ReadsOpenFile told version name stamp hand hand given
  opened_alone given leads never = record {
    reads = [];
    hears = reads_none;
    own = All-nil (IsReadOfFile name);
    parts = λ b h. All-nil (IsReadAmong name (IsReadPart name.stamp b));
    leads = leads;
    rose = λ is. absurd (never is);
  }

  -- the call that opens and the reads behind it, as one call
  hands_both : {before opened after : ShownTree} {asked : Heard} {reads : List Heard} (given : NameRead W)
      → AsksTree told version before opened asked → HearsReads told version opened after reads
      → (given ≡ Failed → Rose before.faults after.faults)
      → HandsOn told version before after (Unit {0}) (given ≡ Failed)
  hands_both given asks hears rose = record {
    cause = record {
      later = let a = asks.hands.cause.later in let b = hears.hand.cause.later in omega (arith, a, b);
      rose = rose;
    };
    known = λ t asked. hears.hand.keeps t (asks.hands.known t asked);
    keeps = λ t known. hears.hand.keeps t (asks.hands.keeps t known);
    still = stays_on asks.hands.still hears.hand.still;
  }

  -- the file that was listed was opened, and read
  leads_unaltered : {stamp : StampFacts} (reads : List Heard) (before after : ShownTree) (given : NameRead W) → stamp ≡ name.stamp
      → opening_leads_to version name (was_opened stamp) reads given
      → AsksAlone told version before after name (was_opened stamp) given
  leads_unaltered reads before after (Row row) same leads = tt
  leads_unaltered reads before after (Altered met) same leads = absurd (leads.0.0 same)
  leads_unaltered reads before after Failed same leads = tt
  leads_unaltered reads before after OutOfMemory same leads = tt

  pub reads_opened : {stamp : StampFacts} {before opened after : ShownTree} (given : NameRead W) → stamp ≡ name.stamp
      → AsksTree told version before opened (heard_opening name (was_opened stamp))
      → ReadsOpenFile told version name stamp opened after given → ReadsName told version name before after given
  reads_opened {stamp} {before} {opened} {after} given same asks does = record {
    answer = was_opened stamp;
    reads = does.reads;
    listens = listens_then (listens_one (heard_opening name (was_opened stamp)) asks) (listens_reads name does.hears does.own);
    alone = leads_unaltered does.reads before after given same does.leads;
    hands = hands_both given asks does.hears
        (λ is. let later = asks.hands.cause.later in let rose = does.rose is in omega (arith, later, rose));
    own = does.own;
    parts = does.parts;
    leads = does.leads;
  }

  -- only the opening was asked
  alone_of : {before after : ShownTree} (answer : OpenFacts) (given : NameRead W)
      → AsksTree told version before after (heard_opening name answer) → AsksAlone told version before after name answer given
  alone_of answer (Altered met) asks = asks
  alone_of (was_opened stamp) (Row row) asks = tt
  alone_of (was_opened stamp) Failed asks = tt
  alone_of (was_opened stamp) OutOfMemory asks = tt
  alone_of (was_too_large stamp) (Row row) asks = asks
  alone_of (was_too_large stamp) Failed asks = asks
  alone_of (was_too_large stamp) OutOfMemory asks = asks
  alone_of open_gone (Row row) asks = asks
  alone_of open_gone Failed asks = asks
  alone_of open_gone OutOfMemory asks = asks
  alone_of open_failed (Row row) asks = asks
  alone_of open_failed Failed asks = asks
  alone_of open_failed OutOfMemory asks = asks
  alone_of open_no_memory (Row row) asks = asks
  alone_of open_no_memory Failed asks = asks
  alone_of open_no_memory OutOfMemory asks = asks

  pub reads_alone : {before after : ShownTree} (answer : OpenFacts) (given : NameRead W)
      → AsksTree told version before after (heard_opening name answer) → opening_leads_to version name answer [] given
      → ReadsName told version name before after given
  reads_alone {before} {after} answer given asks leads = record {
    answer = answer;
    reads = [];
    listens = subst (Listens told version before after) (sym (append-nil (heard_or_none (heard_opening name answer))))
        (listens_one (heard_opening name answer) asks);
    alone = alone_of answer given asks;
    hands = record {
      cause = record {
        later = asks.hands.cause.later;
        rose = λ is. asks.hands.cause.rose (fails_alone name answer
            (subst (λ (g : NameRead W). opening_leads_to version name answer [] g) is leads));
      };
      known = asks.hands.known;
      keeps = asks.hands.keeps;
      still = asks.hands.still;
    };
    own = All-nil (IsReadOfFile name);
    parts = λ b h. All-nil (IsReadAmong name (IsReadPart name.stamp b));
    leads = leads;
  }
