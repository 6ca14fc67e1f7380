-- The list of questions that a tree in memory keeps (this project's rule).
use Rattle.std.specs.Prelude.{◌≡◌, false}
use Rattle.std.specs.String.{string_bytes}
use Rattle.tree_trait.specs.Dir.{dir_facts}
use Rattle.tree_trait.specs.Heard.{Heard, load, stat, read_dir, open_file, read_at, wants_memory}
use Rattle.tree_trait.specs.Load.{load_facts}
use Rattle.tree_trait.specs.Open.{open_facts, room_filled, room_failed}
use Rattle.tree_trait.specs.declared.heard.HeardCall.{HeardCall}
use Rattle.tree_trait.specs.declared.heard.HeardCall.TheVariants.{Load, Stat, ReadDir, Open, Filled, Unread}

-- a kept question as plain data
abbrev pub heard_facts : {W : Type 0} → HeardCall W → Heard
heard_facts (Load path limit answer) = load (string_bytes path) limit (load_facts answer)
heard_facts (Stat path answer) = stat (string_bytes path) answer
heard_facts (ReadDir path answer) = read_dir (string_bytes path) (dir_facts answer)
heard_facts (Open path limit answer) = open_file (string_bytes path) limit (open_facts answer)
heard_facts (Filled path stamp at bytes) =
    read_at (record { path = string_bytes path; stamp = stamp }) at (room_filled bytes.items)
heard_facts (Unread path stamp at len) =
    read_at (record { path = string_bytes path; stamp = stamp }) at (room_failed len)

-- what is kept of a call for which memory was not refused
pub record IsListedAs (asked kept : Heard) : Type 0 where
  pub same : kept ≡ asked
  pub answered : wants_memory asked ≡ false
