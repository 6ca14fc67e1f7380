-- What the calls that read row bytes answer (this project's rule).
use Rattle.std.specs.Borrow.{Bor}
use Rattle.std.specs.Prelude.{◌≡◌, ℕ, ◌⊎◌, List, Result, Ok, Err, IsOk}
use Rattle.row_codec.specs.Read.{HasPathInFront, path_at, row_of_bytes, text_in_front}
use Rattle.row_codec.specs.declared.fault.CodecFault.{CodecFault}
use Rattle.row_codec.specs.declared.fault.CodecFault.TheVariants.{OutOfMemory}

-- what was read stood in front, and the bytes behind it are left; or the fault is that of the bytes
abbrev pub ReadsFront : {X : Type 0} → Result (X × List ℕ) CodecFault → List ℕ → Result X CodecFault → Type 0
ReadsFront front left (Ok part) = front ≡ Ok (part, left)
ReadsFront front left (Err fault) = front ≡ Err fault

-- the same of bytes that are lent
abbrev pub ReadsLentFront : Result (List ℕ × List ℕ) CodecFault → List ℕ → Result (Bor (List ℕ)) CodecFault → Type 0
ReadsLentFront front left (Ok part) = front ≡ Ok (part.now, left)
ReadsLentFront front left (Err fault) = front ≡ Err fault

-- the same, or there was not enough memory
abbrev pub ReadsIfRoom : {X : Type 0} → Result (X × List ℕ) CodecFault → List ℕ → Result X CodecFault → Type 0
ReadsIfRoom front left (Ok part) = front ≡ Ok (part, left)
ReadsIfRoom front left (Err fault) = (front ≡ Err fault) ⊎ (fault ≡ OutOfMemory)

-- the same of a path, which needs memory where its text is there
abbrev pub ReadsPath : List ℕ → List ℕ → Result (List ℕ) CodecFault → Type 0
ReadsPath bytes left (Ok path) = path_at bytes ≡ Ok (path, left)
ReadsPath bytes left (Err fault) = (path_at bytes ≡ Err fault) ⊎ ((fault ≡ OutOfMemory) × IsOk (text_in_front bytes))

-- why bytes were not read: by their first fault; or there was not enough memory, where a text had been reached
abbrev pub RefusesRowBytes : List ℕ → CodecFault → Type 0
RefusesRowBytes bytes fault = (row_of_bytes bytes ≡ Err fault) ⊎ ((fault ≡ OutOfMemory) × HasPathInFront bytes)
