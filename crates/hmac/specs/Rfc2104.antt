-- HMAC as RFC 2104 defines it, section 2, over SHA-256: H is sha256. Then section 5: outputs that are cut.
use Rattle.std.specs.Prelude.{Bool, true, false, List, ◌++◌, map, ℕ, ◌-◌, leb, length, take, replicate}
use Rattle.std.specs.Int.Bits.{bit_xor}
use Rattle.compression.specs.Fips.{sha256}

-- the byte lengths of H's blocks and of its outputs, and the bytes that ipad and opad repeat
abbrev pub B : ℕ
B = 64

abbrev pub L : ℕ
L = 32

abbrev pub ipad : ℕ
ipad = 0x36

abbrev pub opad : ℕ
opad = 0x5c

-- a key longer than B bytes is hashed first
abbrev pub choose : Bool → List ℕ → List ℕ → List ℕ
choose true a b = a
choose false a b = b

unfoldable pub shortened : List ℕ → List ℕ
shortened key = choose (leb (length key) B) key (sha256 key)

-- (1): zeros are appended to the key, up to B bytes
unfoldable pub padded : List ℕ → List ℕ
padded key = shortened key ++ replicate (B - length (shortened key)) 0

-- (2) and (5): the B byte string, XOR the byte p repeated B times
unfoldable pub masked : ℕ → List ℕ → List ℕ
masked p key = map (λ k. bit_xor k p) (padded key)

-- (3), (4), (6) and (7): H (K XOR opad, H (K XOR ipad, text))
unfoldable pub hmac : List ℕ → List ℕ → List ℕ
hmac key text = sha256 (masked opad key ++ sha256 (masked ipad key ++ text))

-- section 5: the leftmost bytes of an output
abbrev pub truncated : ℕ → List ℕ → List ℕ
truncated t output = take t output

-- an output cut to t bytes in the place of a whole one: zeros behind them, up to L
unfoldable pub cut : ℕ → List ℕ → List ℕ
cut t output = truncated t output ++ replicate (L - t) 0

-- the tag of a text, of as many bytes as are wanted
unfoldable pub tagged : List ℕ → List ℕ → ℕ → List ℕ
tagged key text wanted = cut wanted (hmac key text)
