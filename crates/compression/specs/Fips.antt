-- SHA-256 as FIPS 180-4 defines it, in its order and letters, with its section numbers.
-- A word is a number below 2 ^ 32, a byte a number below 256, a message a list of bytes.
use Rattle.std.specs.Prelude.{ℕ, zero, suc, ◌+◌, ◌-◌, ◌*◌, ◌/◌, ◌%◌, ◌^◌, List, [], ◌∷◌, ◌++◌, length, take, drop, replicate, bit_and, bit_or, bit_xor, slice_index, slice_index_or}
use Rattle.compression.specs.declared.words.Words.{Words}

infixl 60 ◌⊞◌
infixl 58 ◌&◌
infixr 56 ◌⊕◌
-- 2.2.2: + on words, modulo 2 ^ 32
abbrev pub ◌⊞◌ : ℕ → ℕ → ℕ
x ⊞ y = (x + y) % 2 ^ 32

-- 2.2.2: ∧, ⊕ and ¬ on words
abbrev pub ◌&◌ : ℕ → ℕ → ℕ
x & y = bit_and x y

abbrev pub ◌⊕◌ : ℕ → ℕ → ℕ
x ⊕ y = bit_xor x y

abbrev pub complement : ℕ → ℕ
complement x = 2 ^ 32 - 1 - x

-- 3.2: SHR and ROTR; a shift to the left discards what leaves the word
abbrev pub shr : ℕ → ℕ → ℕ
shr n x = x / 2 ^ n

unfoldable pub rotr : ℕ → ℕ → ℕ
rotr n x = bit_or (shr n x) (x * 2 ^ (32 - n) % 2 ^ 32)

-- 4.1.2: the six functions
unfoldable pub Ch : ℕ → ℕ → ℕ → ℕ
Ch x y z = (x & y) ⊕ (complement x & z)

unfoldable pub Maj : ℕ → ℕ → ℕ → ℕ
Maj x y z = (x & y) ⊕ (x & z) ⊕ (y & z)

unfoldable pub Σ₀ : ℕ → ℕ
Σ₀ x = rotr 2 x ⊕ rotr 13 x ⊕ rotr 22 x

unfoldable pub Σ₁ : ℕ → ℕ
Σ₁ x = rotr 6 x ⊕ rotr 11 x ⊕ rotr 25 x

unfoldable pub σ₀ : ℕ → ℕ
σ₀ x = rotr 7 x ⊕ rotr 18 x ⊕ shr 3 x

unfoldable pub σ₁ : ℕ → ℕ
σ₁ x = rotr 17 x ⊕ rotr 19 x ⊕ shr 10 x

-- 4.2.2: the constants
unfoldable pub K : List ℕ
K =
    0x428a2f98 ∷ 0x71374491 ∷ 0xb5c0fbcf ∷ 0xe9b5dba5 ∷ 0x3956c25b ∷ 0x59f111f1 ∷ 0x923f82a4 ∷ 0xab1c5ed5 ∷
    0xd807aa98 ∷ 0x12835b01 ∷ 0x243185be ∷ 0x550c7dc3 ∷ 0x72be5d74 ∷ 0x80deb1fe ∷ 0x9bdc06a7 ∷ 0xc19bf174 ∷
    0xe49b69c1 ∷ 0xefbe4786 ∷ 0x0fc19dc6 ∷ 0x240ca1cc ∷ 0x2de92c6f ∷ 0x4a7484aa ∷ 0x5cb0a9dc ∷ 0x76f988da ∷
    0x983e5152 ∷ 0xa831c66d ∷ 0xb00327c8 ∷ 0xbf597fc7 ∷ 0xc6e00bf3 ∷ 0xd5a79147 ∷ 0x06ca6351 ∷ 0x14292967 ∷
    0x27b70a85 ∷ 0x2e1b2138 ∷ 0x4d2c6dfc ∷ 0x53380d13 ∷ 0x650a7354 ∷ 0x766a0abb ∷ 0x81c2c92e ∷ 0x92722c85 ∷
    0xa2bfe8a1 ∷ 0xa81a664b ∷ 0xc24b8b70 ∷ 0xc76c51a3 ∷ 0xd192e819 ∷ 0xd6990624 ∷ 0xf40e3585 ∷ 0x106aa070 ∷
    0x19a4c116 ∷ 0x1e376c08 ∷ 0x2748774c ∷ 0x34b0bcb5 ∷ 0x391c0cb3 ∷ 0x4ed8aa4a ∷ 0x5b9cca4f ∷ 0x682e6ff3 ∷
    0x748f82ee ∷ 0x78a5636f ∷ 0x84c87814 ∷ 0x8cc70208 ∷ 0x90befffa ∷ 0xa4506ceb ∷ 0xbef9a3f7 ∷ 0xc67178f2 ∷ []

-- the w bytes of n modulo 256 ^ w, the most significant first
abbrev pub big_endian : ℕ → ℕ → List ℕ
big_endian zero n = []
big_endian (suc w) n = big_endian w (n / 256) ++ (n % 256 ∷ [])

-- 5.1.1: a one bit, zero bits up to 448 modulo 512, and the length in 64 bits; in bytes, 128, zeros up to 56 modulo 64, and 8 bytes
unfoldable pub zero_bytes : ℕ → ℕ
zero_bytes n = (119 - n % 64) % 64

unfoldable pub pad : List ℕ → List ℕ
pad m = m ++ (128 ∷ replicate (zero_bytes (length m)) 0) ++ big_endian 8 (8 * length m)

-- 5.2.1: block i of a message, and word j of a block
unfoldable pub block : List ℕ → ℕ → List ℕ
block m i = take 64 (drop (64 * i) m)

abbrev pub word : List ℕ → ℕ → ℕ
word b j =
    slice_index b (4 * j) * 2 ^ 24 + slice_index b (4 * j + 1) * 2 ^ 16 + slice_index b (4 * j + 2) * 2 ^ 8 + slice_index b (4 * j + 3)

-- 5.3.3: the eight starting words
unfoldable pub H₀ : Words
H₀ =
    record {
      a = 0x6a09e667;
      b = 0xbb67ae85;
      c = 0x3c6ef372;
      d = 0xa54ff53a;
      e = 0x510e527f;
      f = 0x9b05688c;
      g = 0x1f83d9ab;
      h = 0x5be0cd19;
    }

-- 6.2.2, step 1: the first n words of a block
abbrev pub words : List ℕ → ℕ → List ℕ
words b zero = []
words b (suc j) = words b j ++ (word b j ∷ [])

-- 6.2.2, step 1: the first 16 + n words of the message schedule; after 16, word t follows from the words t - 2, t - 7, t - 15 and t - 16
unfoldable pub schedule : List ℕ → ℕ → List ℕ
schedule b zero = words b 16
schedule b (suc n) =
    let w = schedule b n in
    w ++ ((σ₁ (slice_index w (14 + n)) ⊞ slice_index_or w (9 + n) 0 ⊞ σ₀ (slice_index w (1 + n)) ⊞ slice_index_or w n 0) ∷ [])

unfoldable pub W : List ℕ → ℕ → ℕ
W b t = slice_index (schedule b 48) t

-- 6.2.2, step 3: one round on the working variables a to h
unfoldable pub T₁ : Words → ℕ → ℕ → ℕ
T₁ s k w = s.h ⊞ Σ₁ s.e ⊞ Ch s.e s.f s.g ⊞ k ⊞ w

unfoldable pub T₂ : Words → ℕ
T₂ s = Σ₀ s.a ⊞ Maj s.a s.b s.c

unfoldable pub round : Words → ℕ → ℕ → Words
round s k w =
    record {
      a = T₁ s k w ⊞ T₂ s;
      b = s.a;
      c = s.b;
      d = s.c;
      e = s.d ⊞ T₁ s k w;
      f = s.e;
      g = s.f;
      h = s.g;
    }

-- 6.2.2, step 3: the rounds 0 to n - 1, with the constants k and the schedule w
unfoldable pub rounds : (ℕ → ℕ) → (ℕ → ℕ) → ℕ → Words → Words
rounds k w zero s = s
rounds k w (suc t) s = round (rounds k w t s) (k t) (w t)

-- 6.2.2, step 4: the sums, word by word
abbrev pub added : Words → Words → Words
added s v =
    record {
      a = s.a ⊞ v.a;
      b = s.b ⊞ v.b;
      c = s.c ⊞ v.c;
      d = s.d ⊞ v.d;
      e = s.e ⊞ v.e;
      f = s.f ⊞ v.f;
      g = s.g ⊞ v.g;
      h = s.h ⊞ v.h;
    }

-- 6.2.2: the next intermediate hash value, from one and a block
unfoldable pub compress : Words → List ℕ → Words
compress s b = added (rounds (λ t. slice_index K t) (W b) 64 s) s

-- 6.2.2: the intermediate hash value after n blocks of m, from the one before them
unfoldable pub hashed : Words → List ℕ → ℕ → Words
hashed s m zero = s
hashed s m (suc i) = compress (hashed s m i) (block m i)

-- 6.2.2: the bytes of a hash value
abbrev pub digest : Words → List ℕ
digest s =
    big_endian 4 s.a ++ big_endian 4 s.b ++ big_endian 4 s.c ++ big_endian 4 s.d ++
    big_endian 4 s.e ++ big_endian 4 s.f ++ big_endian 4 s.g ++ big_endian 4 s.h

-- 6.2: the message digest
unfoldable pub sha256 : List ℕ → List ℕ
sha256 m = digest (hashed H₀ (pad m) (length (pad m) / 64))
