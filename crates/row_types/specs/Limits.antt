-- The numbers of rows, pinned (this project's rule): code and definitions share the constants.
use Rattle.std.specs.Prelude.{◌≡◌, ◌^◌}
use Rattle.row_types.specs.declared.build_id.TheConstants.{SHORTEST_ID, LONGEST_ID}
use Rattle.row_types.specs.declared.limits.TheConstants.{EDITION, FILE_LIMIT, PATH_LIMIT, READ_LIMIT, SEPARATOR}

-- an id has 2 to 64 bytes
pub record ArePinnedIdLengths : Type 0 where
  pub shortest : SHORTEST_ID ≡ 2
  pub longest : LONGEST_ID ≡ 64

-- a path has at most 4096 bytes, and slashes between its pieces
pub record ArePinnedPathLimits : Type 0 where
  pub longest : PATH_LIMIT ≡ 4096
  pub slash : SEPARATOR ≡ 47

-- rows are of edition 2, and of files that have at most 64 GiB, of which at most 1 GiB is read into memory
pub record ArePinnedRowLimits : Type 0 where
  pub edition : EDITION ≡ 2
  pub largest : FILE_LIMIT ≡ 2 ^ 36
  pub read : READ_LIMIT ≡ 2 ^ 30
