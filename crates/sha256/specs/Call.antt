-- What the public call answers: the digest, or its one refusal.
use Rattle.std.specs.Prelude.{ℕ, Bool, true, false, List, length, replicate, nat_le, Result, Ok, Err, if◌then◌else◌}
use Rattle.compression.specs.Fips.{sha256}
use Rattle.sha256.specs.declared.TooLong.{TooLong}

-- the longest message or key that is hashed, in bytes
abbrev pub length_limit : ℕ
length_limit = 1048576

abbrev pub within : List ℕ → Bool
within m = nat_le (length m) length_limit

-- the number of the refusal
abbrev pub refusal_of : TooLong → ℕ
refusal_of e = 1

-- the digest, if all is within the limit
abbrev pub digest_of : List ℕ → Result (List ℕ) TooLong
digest_of m = if within m then Ok (sha256 m) else Err (record {})

-- what is given to C if all is within the limit: 0 and the bytes; else refusal 1 and zeros
abbrev pub refusal_if : Bool → ℕ
refusal_if true = 0
refusal_if false = 1

abbrev pub bytes_if : Bool → List ℕ → List ℕ
bytes_if true bytes = bytes
bytes_if false bytes = replicate 32 0
