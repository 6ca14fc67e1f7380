-- What a body that was sent is certified for.
use Rattle.std.proofs.Common.{ℕ, List, Option, Some, None, sym, ◌∙◌, ap, subst}
use Rattle.answer_check.specs.Certified.{CertifiedFacts, IsCertified}
use Rattle.file_formats.specs.Table.{IsSectionAnswer}
use Rattle.file_parts.specs.AtPath.{stamped_name}
use Rattle.row_types.specs.Name.{NameFacts}
use Rattle.row_types.specs.declared.identity.Kind.{Kind}
use Rattle.row_types.specs.declared.identity.Kind.TheVariants as kind
use Rattle.tree_trait.specs.Found.{Versions}
use Rattle.tree_trait.specs.Heard.{Heard}
use Rattle.tree_trait.specs.Needs.{IsOfReads}
use Rattle.webapi_routes.specs.declared.route.Route.{Route}
use Rattle.webapi_routes.specs.declared.route.Route.TheVariants.{Debuginfo, Executable, Source, Section, Metrics}
use Rattle.answer_core.specs.Given.{GivesRead, section_given, source_given}
use Rattle.answer_core.specs.Local.{IsLocal, LocalFacts, Sight}
use Rattle.answer_core.specs.Local.{file_found, section_found, source_found, nothing_found, fault_found, no_memory_found}
use Rattle.answer_core.proofs.LocalLemmas.{hands_file, no_file}
use Rattle.answer_check.specs.Passing.{GivesPassed, Passes}
use Rattle.answer_check.specs.Section.{FileSectionFacts}
use Rattle.answer_check.specs.declared.passed.Passed.{Passed}
use Rattle.answer_check.specs.declared.passed.Passed.TheVariants as passing
use Rattle.federation.specs.AskAll.{TellsUpstream, all_heard}
use Rattle.federation.specs.Heard.{LinkHeard, LinkSaid, failed, memory, reply}
use Rattle.federation.specs.Replies.{LastReplyPasses, ReplyGives, ReplyPasses, class_asked}
use Rattle.federation.specs.Rows.{upstream_given}
use Rattle.conn_server.specs.Bodies.{found_here}
use Rattle.conn_server.specs.Cases.{IsPassed}
use Rattle.conn_server.specs.Lawful.{Carries}
use Rattle.conn_server.specs.Replies.{Shows, ShowsGiven}
use Rattle.conn_server.specs.Sent.{CanCarry}
use Rattle.conn_server.specs.declared.reason.Reason.{Reason}
use Rattle.conn_server.specs.declared.report.Asked.TheVariants as asked

-- no source is given where a section is asked
gives_no_source : (version : Versions) (id name : List ℕ) (class : Option Kind) (of : NameFacts) (reads : List Heard) (bytes : List ℕ)
    → GivesRead version (Section id name) class of reads (source_given bytes) → ⊥
gives_no_source version id name None of reads bytes gives = gives
gives_no_source version id name (Some class) of reads bytes gives = gives

-- a file that was found here was read of a version of its name, as far as it was
pub holds_local : (sight : Sight) (route : Route) (answer : LocalFacts) → IsLocal sight route answer
    → CanCarry sight.hand.version (found_here answer)
holds_local sight route (file_found from name path n) l =
    (hands_file sight.hand route sight.answers (file_found from name path n) l.0.all l.0.are).1
holds_local sight route _ l = tt

pub carries_local : (sight : Sight) (route : Route) (answer : LocalFacts) (why : Reason) (body : List ℕ) (file : Option (List ℕ))
    → IsLocal sight route answer → IsPassed answer → Shows why (found_here answer) body file → Carries (asked.Route route) body
carries_local sight route (nothing_found n) why body file l p s = absurd p
carries_local sight route (fault_found n) why body file l p s = absurd p
carries_local sight route no_memory_found why body file l p s = absurd p
carries_local sight (Debuginfo id) (file_found from name path n) why body file l p s =
    let passes = l.0.are.first.passes in
    passes.passes.is body (passes.gives.1.whole.has body s.0)
carries_local sight (Debuginfo id) (section_found from path n) why body file l p s = absurd l.0.are.first.passes.gives
carries_local sight (Debuginfo id) (source_found bytes path n) why body file l p s = absurd l.0.are.first.passes.gives
carries_local sight (Executable id) (file_found from name path n) why body file l p s =
    let passes = l.0.are.first.passes in
    passes.passes.is body (passes.gives.1.whole.has body s.0)
carries_local sight (Executable id) (section_found from path n) why body file l p s = absurd l.0.are.first.passes.gives
carries_local sight (Executable id) (source_found bytes path n) why body file l p s = absurd l.0.are.first.passes.gives
carries_local sight (Source id source) answer why body file l p s = tt
carries_local sight Metrics answer why body file l p s = tt
carries_local sight (Section id name) (file_found from opened path n) why body file l p s =
    let passes = l.0.are.first.passes in
    let one = l.0.are.first.one in
    absurd (no_file sight.hand.version id name one.class (stamped_name one.path passes.stamp) opened passes.reads from passes.gives)
carries_local sight (Section id name) (source_found bytes path n) why body file l p s =
    let passes = l.0.are.first.passes in
    let one = l.0.are.first.one in
    absurd (gives_no_source sight.hand.version id name one.class (stamped_name one.path passes.stamp) passes.reads bytes passes.gives)
carries_local sight (Section id name) (section_found from path n) why body file l p s =
    let passes = l.0.are.first.passes in
    let one = l.0.are.first.one in
    by_class one.class (stamped_name one.path passes.stamp) passes.reads passes.passes passes.gives
  where
    by_class : (class : Option Kind) (of : NameFacts) (reads : List Heard)
        → IsOfReads of.stamp.size reads (Passes (Section id name) class)
        → GivesRead sight.hand.version (Section id name) class of reads (section_given from) → Carries (asked.Route (Section id name)) body
    by_class None of reads passes gives = absurd gives
    by_class (Some class) of reads passes gives = (
      passes.bytes,
      record {
        class = class;
        certified = (passes.is passes.bytes passes.has).0;
        section = subst (λ (named : List ℕ). IsSectionAnswer passes.bytes named (Some body)) gives.named
            (s.0 passes.bytes (gives.file.whole.agrees passes.bytes passes.has));
      },
    )

-- an answer of a link that passed
by_said : (route question : Route) (said : LinkSaid) (passed : Passed) (body : List ℕ) → ReplyPasses route question said
    → ReplyGives route question said passed → ShowsGiven passed body → Carries (asked.Route route) body
by_said route question failed passed body p g s = absurd p
by_said route question memory passed body p g s = absurd p
by_said (Debuginfo id) question (reply status bytes) (passing.File file) body p g s =
    subst (λ (b : List ℕ). IsCertified kind.Debuginfo id b) (sym (s ∙ ap (λ (f : CertifiedFacts). f.bytes) g)) p.1
by_said (Debuginfo id) question (reply status bytes) (passing.Section section) body p g s = absurd g
by_said (Debuginfo id) question (reply status bytes) (passing.Source source) body p g s = absurd g
by_said (Executable id) question (reply status bytes) (passing.File file) body p g s =
    subst (λ (b : List ℕ). IsCertified kind.Executable id b) (sym (s ∙ ap (λ (f : CertifiedFacts). f.bytes) g)) p.1
by_said (Executable id) question (reply status bytes) (passing.Section section) body p g s = absurd g
by_said (Executable id) question (reply status bytes) (passing.Source source) body p g s = absurd g
by_said (Source id path) question (reply status bytes) passed body p g s = tt
by_said Metrics question (reply status bytes) passed body p g s = tt
by_said (Section id name) question (reply status bytes) passed body p g s = by_class (class_asked question) passed p.1 g s
  where
    by_class : (class : Option Kind) (passed : Passed) → Passes (Section id name) class bytes
        → GivesPassed (Section id name) class bytes passed → ShowsGiven passed body → Carries (asked.Route (Section id name)) body
    by_class None passed p g s = absurd p
    by_class (Some class) (passing.File file) p g s = absurd g
    by_class (Some class) (passing.Source source) p g s = absurd g
    by_class (Some class) (passing.Section section) p g s = (
      bytes,
      record {
        class = class;
        certified = p.0;
        section = subst (λ (x : FileSectionFacts). IsSectionAnswer x.file.bytes x.name (Some body)) g s;
      },
    )

-- what was told of the links, as the last answer that passed
last_of : (route : Route) (hops : ℕ) (parts : List (List LinkHeard)) (passed : Passed)
    → TellsUpstream route hops parts (upstream_given passed) → LastReplyPasses route (all_heard parts) passed
last_of route hops parts (passing.File file) tells = tells
last_of route hops parts (passing.Section section) tells = tells
last_of route hops parts (passing.Source source) tells = tells

pub carries_upstream : (route : Route) (hops : ℕ) (parts : List (List LinkHeard)) (passed : Passed) (body : List ℕ)
    → TellsUpstream route hops parts (upstream_given passed) → ShowsGiven passed body → Carries (asked.Route route) body
carries_upstream route hops parts passed body tells shows =
    let l = last_of route hops parts passed tells in
    by_said route l.last.route l.last.said passed body l.passes l.gives shows
