-- The numbers of row bytes, pinned (this project's rule): code and definitions share the constants, and std's words
-- for a number's bytes.
use Rattle.std.specs.Prelude.{◌≡◌, ℕ, length}
use Rattle.row_codec.specs.RowBytes.{eight_bytes, four_bytes}
use Rattle.row_codec.specs.declared.codes.TheConstants.{PLAIN_TAG, ELF_TAG, EXEC_FLAG, DEBUG_FLAG, NOT_ELF, BAD_ELF, NO_SECTIONS, CORE, NO_BUILD_ID, TOO_LARGE}

-- the tags of readings, and the flags of identities
pub record ArePinnedTags : Type 0 where
  pub plain : PLAIN_TAG ≡ 0
  pub elf : ELF_TAG ≡ 1
  pub exec : EXEC_FLAG ≡ 1
  pub debug : DEBUG_FLAG ≡ 2

-- the reasons why a file has no identity
pub record ArePinnedReasons : Type 0 where
  pub not_elf : NOT_ELF ≡ 1
  pub bad_elf : BAD_ELF ≡ 2
  pub no_sections : NO_SECTIONS ≡ 3
  pub core : CORE ≡ 4
  pub no_build_id : NO_BUILD_ID ≡ 5
  pub too_large : TOO_LARGE ≡ 6

-- how many bytes a number takes
pub record ArePinnedSizes : Type 0 where
  pub four : (number : ℕ) → length (four_bytes number) ≡ 4
  pub eight : (number : ℕ) → length (eight_bytes number) ≡ 8
