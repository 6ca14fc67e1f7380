-- The files of the sample world (this project's example).
use Rattle.std.specs.Prelude.{◌≡◌, ℕ, ℤ, pos, List, [], ◌∷◌, ◌++◌, length, codes}
use Rattle.row_types.specs.Stamp.{StampFacts}
use Rattle.sample_files.specs.Samples.{both_classes, big_endian_debug, eight_aligned_notes, dwarf_five}
use Rattle.sample_files.specs.Samples.{executable, debug_companion}
use Rattle.tree_trait.specs.Found.{FoundFacts}
use Rattle.sample_world.specs.declared.sample.Sample.{Sample}
use Rattle.sample_world.specs.declared.sample.Sample.TheVariants.{Empty, FirstLibrary, SecondLibrary, Program}
use Rattle.sample_world.specs.declared.sample.Sample.TheVariants.{Script, Tool, Notes, OtherMachine}
use Rattle.sample_world.specs.declared.sample.Sample.TheVariants.{ToolDebug, Readme, Header, Source, Before}
use Rattle.sample_world.specs.declared.sample.Sample.TheVariants.{After}

-- a file's path
abbrev pub sample_path : Sample → List ℕ
sample_path Empty = codes "/srv/bin/empty"
sample_path FirstLibrary = codes "/srv/bin/libx.so"
sample_path SecondLibrary = codes "/srv/bin/liby.so"
sample_path Program = codes "/srv/bin/prog"
sample_path Script = codes "/srv/bin/run.sh"
sample_path Tool = codes "/srv/bin/tool"
sample_path Notes = codes "/srv/debug/notes.txt"
sample_path OtherMachine = codes "/srv/debug/ppc.debug"
sample_path ToolDebug = codes "/srv/debug/tool.debug"
sample_path Readme = codes "/w/README"
sample_path Header = codes "/w/src/inc/util.h"
sample_path Source = codes "/w/src/main.c"
sample_path _ = codes "/srv/a"

-- a line of text
abbrev pub text_line : List ℕ → List ℕ
text_line text = text ++ 10 ∷ []

-- a file's bytes
abbrev pub sample_bytes : Sample → List ℕ
sample_bytes FirstLibrary = both_classes
sample_bytes SecondLibrary = eight_aligned_notes
sample_bytes Program = dwarf_five
sample_bytes Script = text_line (codes "#!/bin/sh")
sample_bytes Tool = executable
sample_bytes OtherMachine = big_endian_debug
sample_bytes ToolDebug = debug_companion
sample_bytes Source = text_line (codes "int main(void){return 0;}")
sample_bytes Before = text_line (codes "hello")
sample_bytes After = text_line (codes "hello!")
sample_bytes _ = []

-- when a file changed last, in seconds since the start of 1970
abbrev pub sample_secs : Sample → ℤ
sample_secs After = pos 101
sample_secs _ = pos 100

-- a file's stamp
abbrev pub sample_stamp : Sample → StampFacts
sample_stamp sample = record { size = length (sample_bytes sample); secs = sample_secs sample; nanos = 0 }

-- a file as a tree finds it
abbrev pub sample_found : Sample → FoundFacts
sample_found sample = record {
  path = sample_path sample;
  stamp = sample_stamp sample;
  bytes = sample_bytes sample;
}

-- the file of this path and stamp with these bytes is one of the samples
pub record IsSample (path : List ℕ) (stamp : StampFacts) (bytes : List ℕ) : Type 0 where
  pub sample : Sample
  pub placed : path ≡ sample_path sample
  pub stamped : stamp ≡ sample_stamp sample
  pub filled : bytes ≡ sample_bytes sample
