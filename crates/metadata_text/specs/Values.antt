-- The values of the JSON library that the text is written of (this crate's bookkeeping, which no public clause cites).
use Rattle.std.specs.Prelude.{Bool, List, codes}
use Rattle.serde_json.specs.Data.{Data, array, boolean, member, no_members, object, string}
use Rattle.serde_json.specs.View.{items_of}
use Rattle.metadata_text.specs.Text.{FoundFacts, class_text}

-- the object of a file
abbrev pub file_data : FoundFacts → Data
file_data f =
    object (member (codes "buildid") (string f.build_id)
    (member (codes "file") (string f.file) (member (codes "type") (string (class_text f.class)) no_members)))

-- the object of the whole
abbrev pub answer_data : Bool → List Data → Data
answer_data complete files =
    object (member (codes "complete") (boolean complete) (member (codes "results") (array (items_of files)) no_members))
