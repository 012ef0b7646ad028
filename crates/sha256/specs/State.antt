-- What a hash state stands for.
use Rattle.std.specs.Prelude.{◌≡◌, ℕ, ◌-◌, ◌*◌, ◌/◌, ◌%◌, ◌^◌, List, ◌++◌, length, drop, replicate}
use Rattle.compression.specs.Fips.{H₀, hashed}
use Rattle.sha256.specs.declared.state.Sha256.{Sha256}
use Rattle.compression.specs.declared.words.Words.{Words}

-- s is what a part comes to from the hash value before it: its whole blocks hashed, the bytes after them held with zeros behind
-- them, and the count of bytes that is given
pub record Held (before : Words) (part : List ℕ) (count : ℕ) (s : Sha256) : Type 0 where
  pub words : s.words ≡ hashed before part (length part / 64)
  pub pending : s.block ≡ drop (64 * (length part / 64)) part ++ replicate (64 - length part % 64) 0
  pub counted : s.length ≡ count

-- the state s stands for the message m; of its length SHA-256 needs 64 bits
abbrev pub Stands : Sha256 → List ℕ → Type 0
Stands s m = Held H₀ m (length m % 2 ^ 64) s
