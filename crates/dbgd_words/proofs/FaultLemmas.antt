-- A command without subcommands is refused for one reason at most: by the shape of what `clap` says of a parse.
use Rattle.std.proofs.Common.{◌≡◌, ◌⊎◌, ◌≤◌, ◌+◌, ℕ, zero, suc, Bool, true, false, List, [], ◌∷◌, length, refl, sym, ◌∙◌, ap, subst, arith, inl, inr, Result, Ok, Err, IfOk}
use Rattle.std.specs.Prelude.{◌&&◌, ◌||◌, ◌==◌, Option, Some, None, cond, is_some, not, nat_lt, min, drop, encode_utf8, slice_get}
use Rattle.std.specs.Option.{option_map_or}
use Rattle.std.specs.List.{list_any}
use Rattle.std.specs.Str.{bytes_eq, chars}
use Rattle.clap.specs.Facts.{explicit_source, parser_of_value, unwrap_or_range}
use Rattle.clap.specs.Lexer.{long_of, short_of}
use Rattle.clap.specs.Matches.{count_text}
use Rattle.clap.specs.Takes.{is_given}
use Rattle.clap.specs.ValueTests.{accepts}
use Rattle.clap.specs.Faults.{action_fault, bundle_fault, bundle_step_fault, built_fault, check_fault, count_fault, default_fault, defaults_fault, entered_fault, flag_word_fault, flags_fault, level_fault, long_fault, option_fault, other_fault, positional_fault, react_fault, set_fault, settle_fault, short_fault, step_fault, stray_fault, turn_fault, use_fault, values_fault, walk_fault, word_fault}
use Rattle.clap.specs.Kinds.{IsAmong, Kinds, or_else, range_kinds, request_kinds, value_kinds, values_kinds}
use Rattle.clap.specs.Simple.{Shape, argument_words, built, entered}
use Rattle.clap.specs.Walk.{Held, Row, Rule, Step, Text, Waiting, Walk, action_of, arg_by_id, arg_by_index, arg_by_long, arg_by_short, attached_value, count_of, finished, has_row, idle, is_empty, is_pending, most_values, nothing_held, reacted, settled, subcommand_met, takes_several, takes_values, value, values_or_missing, walk, walk_from, walked, with_default, word_met}
use Rattle.clap.specs.declared.builder.action.ArgAction.{ArgAction}
use Rattle.clap.specs.declared.builder.action.ArgAction.TheVariants as action
use Rattle.clap.specs.declared.builder.value_parser.ValueParser.{ValueParser}
use Rattle.clap.specs.declared.error.kind.ErrorKind.{ErrorKind}
use Rattle.clap.specs.declared.error.kind.ErrorKind.TheVariants.{OutOfMemory}
use Rattle.dbgd_words.specs.Options.{find_app, find_faults, find_rows, query_app, query_faults, query_rows, scan_app, scan_faults, scan_rows, serve_app, serve_faults, serve_rows}
use Rattle.dbgd_words.specs.Words.{Line, find_line, find_said, query_line, query_said, refused_line, scan_line, scan_said, serve_line, serve_said}

-- there is one kind at most
pub record AtMostOne (kinds : Kinds) : Type 0 where
  pub few : length kinds ≤ 1

none : AtMostOne []
none = record { few = omega arith }

one : {kind : ErrorKind} → AtMostOne (kind ∷ [])
one = record { few = omega arith }

or_one : {first second : Kinds} → AtMostOne first → AtMostOne second → AtMostOne (or_else first second)
or_one {first = []} a b = b
or_one {first = kind ∷ kinds} a b = a

if_one : {left right : Kinds} (test : Bool) → AtMostOne left → AtMostOne right → AtMostOne (cond test left right)
if_one true a b = a
if_one false a b = b

maybe_one : {X : Type 0} (f : X → Kinds) (o : Option X) (other : Kinds) → ((x : X) → AtMostOne (f x)) → AtMostOne other
    → AtMostOne (option_map_or f o other)
maybe_one f None other each b = b
maybe_one f (Some x) other each b = each x

-- ---- one use of an argument

value_one : (ignore_case : Bool) (parser : ValueParser) (text : Text) → AtMostOne (value_kinds ignore_case parser text)
value_one ignore_case parser text = if_one (accepts ignore_case parser text) none one

values_one : (ignore_case : Bool) (parser : ValueParser) (texts : List Text) → AtMostOne (values_kinds ignore_case parser texts)
values_one ignore_case parser [] = none
values_one ignore_case parser (text ∷ texts) = or_one (value_one ignore_case parser text) (values_one ignore_case parser texts)

given_one : (a : Rule) (texts : List Text) → AtMostOne (values_fault a texts)
given_one a texts = values_one a.ignore_case (parser_of_value a.parser) texts

range_one : (least most n : ℕ) → AtMostOne (range_kinds least most n)
range_one least most n =
    if_one (nat_lt 0 least && n == 0) one
    (if_one (least == most) (if_one (least == n) none one) (if_one (nat_lt n least) one (if_one (nat_lt most n) one none)))

set_one : (again : Bool) (a : Rule) (values : List Text) (rows : List Row) → AtMostOne (set_fault again a values rows)
set_one again a values rows = or_one (if_one (has_row a.id rows && not again) one none) (given_one a values)

count_one : (a : Rule) (values : List Text) (rows : List Row) → AtMostOne (count_fault a values rows)
count_one a [] rows = value_one a.ignore_case (parser_of_value a.parser) (count_text (min (count_of a.id rows + 1) 255))
count_one a (v ∷ vs) rows = given_one a (v ∷ vs)

action_one : (x : ArgAction) (again : Bool) (a : Rule) (values : List Text) (rows : List Row) → AtMostOne (action_fault x again a values rows)
action_one action.Set again a values rows = set_one again a values rows
action_one action.SetTrue again a values rows = set_one again a values rows
action_one action.SetFalse again a values rows = set_one again a values rows
action_one action.Append again a values rows = given_one a values
action_one action.Count again a values rows = count_one a values rows
action_one action.Help again a values rows = one
action_one action.HelpShort again a values rows = one
action_one action.HelpLong again a values rows = one
action_one action.Version again a values rows = one

use_one : (again : Bool) (a : Rule) (values : List Text) (rows : List Row) → AtMostOne (use_fault again a values rows)
use_one again a values rows =
    or_one (range_one (unwrap_or_range a.range).start_inclusive (most_values a) (length values))
    (action_one (action_of a) again a (values_or_missing a values) rows)

-- ---- the walk

settle_one : (c : List Rule) (again : Bool) (h : Held) → AtMostOne (settle_fault c again h)
settle_one c again h =
    maybe_one (λ p. option_map_or (λ a. use_fault again a p.1 h.rows) (arg_by_id c p.0) []) h.pending []
    (λ p. maybe_one (λ a. use_fault again a p.1 h.rows) (arg_by_id c p.0) [] (λ a. use_one again a p.1 h.rows) none) none

react_one : (c : List Rule) (again : Bool) (a : Rule) (values : List Text) (h : Held) → AtMostOne (react_fault c again a values h)
react_one c again a values h = or_one (settle_one c again h) (use_one again a values (settled c h).rows)

option_one : (c : List Rule) (again : Bool) (a : Rule) (text : Option Text) (h : Held) → AtMostOne (option_fault c again a text h)
option_one c again a (Some v) h = react_one c again a (v ∷ []) h
option_one c again a None h = settle_one c again h

long_one : (c : List Rule) (again : Bool) (found : Option Rule) (text : Option Text) (h : Held) → AtMostOne (long_fault c again found text h)
long_one c again None text h = one
long_one c again (Some a) text h =
    if_one (takes_values a) (option_one c again a text h) (if_one (is_some text) one (react_one c again a [] h))

short_one : (c : List Rule) (again : Bool) (found : Option Rule) (rest : Text) (h : Held) (next : Held → Kinds)
    → ((held : Held) → AtMostOne (next held)) → AtMostOne (short_fault c again found rest h next)
short_one c again None rest h next each = one
short_one c again (Some a) rest h next each =
    if_one (takes_values a) (option_one c again a (attached_value rest) h)
    (or_one (react_one c again a [] h) (each (reacted c a [] h)))

bundle_one : (c : List Rule) (again : Bool) (first : Option ℕ) (flags : Text) (skip : ℕ) (h : Held) (next : Text → ℕ → Held → Kinds)
    → ((text : Text) (n : ℕ) (held : Held) → AtMostOne (next text n held)) → AtMostOne (bundle_step_fault c again first flags skip h next)
bundle_one c again None flags skip h next each = none
bundle_one c again (Some x) flags zero h next each =
    let rest = drop (length (encode_utf8 x)) flags in
    short_one c again (arg_by_short c x) rest h (next rest 0) (each rest 0)
bundle_one c again (Some x) flags (suc skip) h next each = each (drop (length (encode_utf8 x)) flags) skip h

flags_one : (c : List Rule) (again : Bool) (k : ℕ) (flags : Text) (skip : ℕ) (h : Held) → AtMostOne (flags_fault c again k flags skip h)
unfolding flags_fault
flags_one c again zero flags skip h = none
flags_one c again (suc k) flags skip h =
    bundle_one c again (slice_get (chars flags) 0) flags skip h (flags_fault c again k) (flags_one c again k)

flag_word_one : (c : List Rule) (again : Bool) (long : Option (Text × Option Text)) (word : Text) (h : Held) → AtMostOne (flag_word_fault c again long word h)
flag_word_one c again (Some p) word h = long_one c again (arg_by_long c p.0) p.1 h
flag_word_one c again None word h =
    maybe_one (λ flags. bundle_fault c again flags h) (short_of word) []
    (λ flags. flags_one c again (length flags) flags h.skip (record h { skip = 0 })) none

-- no subcommand is met
none_met : (waiting : Waiting) (word : Text) → subcommand_met [] waiting word ≡ None
none_met idle word = refl
none_met _ word = refl

word_one : (s : Shape) (trailing : Bool) (waiting : Waiting) (word : Text) (h : Held) → AtMostOne (word_fault s [] trailing waiting word h)
word_one s trailing waiting word h =
    if_one trailing none
    (subst (λ (met : Option Text). AtMostOne (other_fault s met word h)) (sym (none_met waiting word))
    (if_one (bytes_eq word (45 ∷ 45 ∷ [])) none (flag_word_one s.rules s.args_override_self (long_of word) word h)))

positional_one : (c : List Rule) (again : Bool) (a : Rule) (h : Held) → AtMostOne (positional_fault c again a h)
positional_one c again a h = if_one (is_pending a h.pending && takes_several a) none (settle_one c again h)

stray_one : (s : Shape) → s.is_leaf ≡ true → AtMostOne (stray_fault s)
stray_one s leaf = rw leaf one

step_one : (s : Shape) → s.is_leaf ≡ true → (position : ℕ) (h : Held) (step : Step) → AtMostOne (step_fault s position h step)
step_one s leaf position h value =
    maybe_one (λ a. positional_fault s.rules s.args_override_self a h) (arg_by_index s.rules position) (stray_fault s)
    (λ a. positional_one s.rules s.args_override_self a h) (stray_one s leaf)
step_one s leaf position h _ = none

turn_one : (s : Shape) → s.is_leaf ≡ true → (w : Walk) (word : Text) → AtMostOne (turn_fault s [] w word)
turn_one s leaf w word =
    let met = word_met s.rules [] w.is_trailing w.waiting w.position word w.held in
    if_one (is_some w.stopped) none
    (or_one (word_one s w.is_trailing w.waiting word w.held) (step_one s leaf w.position met.0 met.1))

walk_one : (s : Shape) → s.is_leaf ≡ true → (w : Walk) (words : List Text) → AtMostOne (walk_fault s [] w words)
unfolding walk_fault
walk_one s leaf w [] = none
walk_one s leaf w (word ∷ rest) = or_one (turn_one s leaf w word) (walk_one s leaf (walked s.rules [] w word) rest)

-- ---- after the walk

request_one : (x : ArgAction) → AtMostOne (request_kinds x)
request_one action.Set = none
request_one action.SetTrue = none
request_one action.SetFalse = none
request_one action.Append = none
request_one action.Count = none
request_one action.Help = one
request_one action.HelpShort = one
request_one action.HelpLong = one
request_one action.Version = one

default_one : (rows : List Row) (a : Rule) → AtMostOne (default_fault rows a)
default_one rows a =
    if_one (has_row a.id rows || is_empty a.defaults) none (or_one (request_one (action_of a)) (given_one a a.defaults))

defaults_one : (rows : List Row) (rules : List Rule) → AtMostOne (defaults_fault rows rules)
unfolding defaults_fault
defaults_one rows [] = none
defaults_one rows (a ∷ rest) = or_one (default_one rows a) (defaults_one (with_default rows a) rest)

check_one : (s : Shape) (rows : List Row) (sub : Bool) → AtMostOne (check_fault s rows sub)
check_one s rows sub =
    if_one (not sub && (s.arg_required_else_help && not (list_any (λ r. explicit_source r.source) rows))) one
    (if_one (not sub && s.subcommand_required) one
    (if_one (not (s.subcommand_negates_reqs && sub) && list_any (λ a. a.required && not (is_given a.id rows)) s.rules) one none))

level_one : (s : Shape) → s.is_leaf ≡ true → (h : Held) (words : List Text) (sub : Bool) (below : Kinds) → AtMostOne below
    → AtMostOne (level_fault s [] h words sub below)
level_one s leaf h words sub below b =
    let end = (walk s.rules [] h words).held in
    or_one (walk_one s leaf (walk_from h) words)
    (or_one b
    (or_one (settle_one s.rules s.args_override_self end)
    (or_one (defaults_one (settled s.rules end).rows s.rules) (check_one s (finished s.rules end) sub))))

entered_one : (top : Shape) (stop : Option (Text × List Text)) → AtMostOne (entered_fault (record { top = top; subs = [] }) stop)
entered_one top None = none
entered_one top (Some p) = none

-- of a built command
pub built_one : (top : Shape) → top.is_leaf ≡ true → (h : Held) (words : List Text)
    → AtMostOne (built_fault (record { top = top; subs = [] }) h words)
built_one top leaf h words =
    let stop = (walk top.rules [] h words).stopped in
    level_one top leaf h words (is_some (entered (record { top = top; subs = [] }) stop))
    (entered_fault (record { top = top; subs = [] }) stop) (entered_one top stop)

-- the kind of an error is the one kind there is
pub only_kind : (kinds : Kinds) (kind wanting : ErrorKind) → AtMostOne kinds → (kind ≡ wanting → ⊥)
    → (kind ≡ wanting) ⊎ IsAmong kind kinds → kinds ≡ kind ∷ []
only_kind [] kind wanting few fits (inl e) = absurd (fits e)
only_kind [] kind wanting few fits (inr among) = absurd among
only_kind (first ∷ []) kind wanting few fits (inl e) = absurd (fits e)
only_kind (first ∷ []) kind wanting few fits (inr (inl e)) = ap (λ k. k ∷ []) (sym e)
only_kind (first ∷ []) kind wanting few fits (inr (inr among)) = absurd among
only_kind (first ∷ second ∷ rest) kind wanting few fits h = let bad = few.few in absurd (omega (arith, bad))

query_one : (words : List (List ℕ)) → AtMostOne (query_faults words)
unfolding query_faults
query_one words = built_one (built query_app).top refl nothing_held (argument_words query_app words)

scan_one : (words : List (List ℕ)) → AtMostOne (scan_faults words)
unfolding scan_faults
scan_one words = built_one (built scan_app).top refl nothing_held (argument_words scan_app words)

serve_one : (words : List (List ℕ)) → AtMostOne (serve_faults words)
unfolding serve_faults
serve_one words = built_one (built serve_app).top refl nothing_held (argument_words serve_app words)

find_one : (words : List (List ℕ)) → AtMostOne (find_faults words)
unfolding find_faults
find_one words = built_one (built find_app).top refl nothing_held (argument_words find_app words)

-- what is asked by a line that is refused, by the one kind that there is
pub query_refused : {L E : Type 0} (asked : L → Line) (words : List (List ℕ)) (kind : ErrorKind) (answer : Result L E)
    → (kind ≡ OutOfMemory) ⊎ IsAmong kind (query_faults words) → IfOk answer (λ line. kind ≡ OutOfMemory → ⊥)
    → IfOk answer (λ line. asked line ≡ refused_line kind) → IfOk answer (λ line. asked line ≡ query_line words)
query_refused asked words kind (Ok line) has real same =
    same ∙ ap (λ kinds. query_said kinds (query_rows words)) (sym (only_kind (query_faults words) kind OutOfMemory (query_one words) real has))
query_refused asked words kind (Err why) has real same = tt

pub scan_refused : {L E : Type 0} (asked : L → Line) (words : List (List ℕ)) (kind : ErrorKind) (answer : Result L E)
    → (kind ≡ OutOfMemory) ⊎ IsAmong kind (scan_faults words) → IfOk answer (λ line. kind ≡ OutOfMemory → ⊥)
    → IfOk answer (λ line. asked line ≡ refused_line kind) → IfOk answer (λ line. asked line ≡ scan_line words)
scan_refused asked words kind (Ok line) has real same =
    same ∙ ap (λ kinds. scan_said kinds (scan_rows words)) (sym (only_kind (scan_faults words) kind OutOfMemory (scan_one words) real has))
scan_refused asked words kind (Err why) has real same = tt

pub serve_refused : {L E : Type 0} (asked : L → Line) (words : List (List ℕ)) (kind : ErrorKind) (answer : Result L E)
    → (kind ≡ OutOfMemory) ⊎ IsAmong kind (serve_faults words) → IfOk answer (λ line. kind ≡ OutOfMemory → ⊥)
    → IfOk answer (λ line. asked line ≡ refused_line kind) → IfOk answer (λ line. asked line ≡ serve_line words)
serve_refused asked words kind (Ok line) has real same =
    same ∙ ap (λ kinds. serve_said kinds (serve_rows words)) (sym (only_kind (serve_faults words) kind OutOfMemory (serve_one words) real has))
serve_refused asked words kind (Err why) has real same = tt

pub find_refused : {L E : Type 0} (asked : L → Line) (words : List (List ℕ)) (kind : ErrorKind) (answer : Result L E)
    → (kind ≡ OutOfMemory) ⊎ IsAmong kind (find_faults words) → IfOk answer (λ line. kind ≡ OutOfMemory → ⊥)
    → IfOk answer (λ line. asked line ≡ refused_line kind) → IfOk answer (λ line. asked line ≡ find_line words)
find_refused asked words kind (Ok line) has real same =
    same ∙ ap (λ kinds. find_said kinds (find_rows words)) (sym (only_kind (find_faults words) kind OutOfMemory (find_one words) real has))
find_refused asked words kind (Err why) has real same = tt
