-- A folder as a cache (this project's rule; the errors are those of POSIX, XBD 2.3, by std's names).
use Rattle.std.specs.Prelude.{ℕ, ◌≤◌, length, List, [], ◌∷◌, ◌++◌, codes, decimal, Option, None, Some, Result, Ok, Err, if◌then◌else◌}
use Rattle.std.specs.IoError.{error_kind}
use Rattle.std.specs.declared.io.Error.{Error}
use Rattle.std.specs.declared.io.ErrorKind.{ErrorKind}
use Rattle.std.specs.declared.io.ErrorKind.TheVariants as kind
use Rattle.std.specs.declared.fs.attrs.Metadata.{Metadata}
use Rattle.find_client.specs.Cache.{CacheSaid, ShownCache, held}
use Rattle.find_client.specs.declared.cache.TheConstants.{VALUE_LIMIT}
use Rattle.tree_trait.specs.Entry.{is_entry_name}
use Rattle.dbgd_edges.specs.Errors.{read_fault}
use Rattle.dbgd_edges.specs.declared.keep_fault.KeepFault.{KeepFault}
use Rattle.dbgd_edges.specs.declared.keep_fault.KeepFault.TheVariants as keep
use Rattle.dbgd_edges.specs.declared.read_fault.ReadFault.{ReadFault}
use Rattle.dbgd_edges.specs.declared.read_fault.ReadFault.TheVariants as fault

-- what a folder shows: its count of faults alone
abbrev pub shown_folder : ℕ → ShownCache
shown_folder faults = record { content = None; asked = None; faults = faults }

-- what is given isn't larger than a value may be
abbrev pub IsWithinLimit : CacheSaid → Type 0
IsWithinLimit (held bytes) = length bytes ≤ VALUE_LIMIT
IsWithinLimit any_other = Unit {0}

-- the path of an entry, which stands in the folder itself; None: the folder has no name, or it is no entry's name
abbrev pub entry_path : List ℕ → List ℕ → Option (List ℕ)
entry_path [] name = None
entry_path (first ∷ rest) name = if is_entry_name name then Some ((first ∷ rest) ++ (codes "/" ++ name)) else None

-- the path of a file that becomes an entry: a dot, the entry's name, the process' number and one that counts
abbrev pub path_beside : List ℕ → List ℕ → ℕ → ℕ → List ℕ
path_beside folder name process number =
    folder ++ (codes "/." ++ (name ++ (codes "." ++ (decimal process ++ (codes "-" ++ decimal number)))))

-- an error of this kind at the look at an entry's place, and so read elsewhere: nothing stands there only where its name isn't found
abbrev pub unseen_by : ErrorKind → ReadFault → Result (Option Metadata) ReadFault
unseen_by kind.NotFound elsewhere = Ok None
unseen_by kind.NotADirectory elsewhere = Err fault.System
unseen_by any_other elsewhere = Err elsewhere

-- an error of the look at an entry's place
abbrev pub unseen : Error → Result (Option Metadata) ReadFault
unseen error = unseen_by (error_kind error) (read_fault error)

-- why a file that was seen wasn't read: one that is gone has changed, and is looked for again
abbrev pub lost : ReadFault → ReadFault
lost fault.Gone = fault.Changed
lost why = why

-- an error of this kind, of a call that keeps an entry
abbrev pub keep_fault_by : ErrorKind → KeepFault
keep_fault_by kind.OutOfMemory = keep.OutOfMemory
keep_fault_by any_other = keep.Refused

-- an error of a call that keeps an entry
abbrev pub keep_fault : Error → KeepFault
keep_fault error = keep_fault_by (error_kind error)
