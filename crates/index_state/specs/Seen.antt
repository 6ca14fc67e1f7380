-- How the rows' names stand to a listing (this project's rule), where both are gone through by path.
use Rattle.std.specs.Prelude.{ℕ, ◌+◌, ◌-◌, List, count_by, cond, filter, Option, is_none}
use Rattle.row_types.specs.Ascends.{is_before}
use Rattle.row_types.specs.Name.{NameFacts, stamp_at}
use Rattle.row_types.specs.Stamp.{StampFacts}
use Rattle.index_state.specs.Plan.{has_stamp, is_other}
use Rattle.index_state.specs.declared.answer.Plan.{Plan}
use Rattle.index_state.specs.declared.seen.Seen.{Seen}

-- the names whose paths stand behind the path
abbrev pub behind : List ℕ → List NameFacts → List NameFacts
behind path names = filter (λ name. is_before path name.path) names

-- the names whose path isn't listed; those whose path is listed with another stamp; those that are listed
abbrev pub seen_of : List NameFacts → List NameFacts → Seen
seen_of listing names = record {
  unlisted = count_by (λ name. is_none (stamp_at listing name.path)) names;
  changed = count_by (λ name. is_other (stamp_at listing name.path) name.stamp) names;
  listed = count_by (λ name. has_stamp (stamp_at listing name.path) name.stamp) names;
}

-- one more name, of this stamp, whose path is listed with that one
abbrev pub seen_more : Option StampFacts → StampFacts → Seen → Seen
seen_more found stamp seen = record {
  unlisted = seen.unlisted + cond (is_none found) 1 0;
  changed = seen.changed + cond (is_other found stamp) 1 0;
  listed = seen.listed + cond (has_stamp found stamp) 1 0;
}

-- how many names were counted
abbrev pub seen_in_all : Seen → ℕ
seen_in_all seen = seen.unlisted + seen.changed + seen.listed

-- what a pass has to do over so many listed names
abbrev pub plan_by : ℕ → Seen → Plan
plan_by files seen = record {
  files = files;
  add = files - (seen.changed + seen.listed);
  replace = seen.changed;
  drop = seen.unlisted;
  keep = seen.listed;
}
