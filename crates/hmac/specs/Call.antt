-- What the public call answers: the tag of the length wanted, or refusal 1 or 26.
use Rattle.std.specs.Prelude.{Bool, true, false, List, ℕ, leb, Result, Ok, Err, if◌then◌else◌}
use Rattle.sha256.specs.Call.{within}
use Rattle.hmac.specs.Rfc2104.{tagged}
use Rattle.hmac.specs.declared.TagError.{TagError}
use Rattle.hmac.specs.declared.TagError.TheVariants.{TooLong, BadTagLength}

abbrev pub both : Bool → Bool → Bool
both true b = b
both false b = false

-- key and message are within the limit
abbrev pub both_within : List ℕ → List ℕ → Bool
both_within key m = both (within key) (within m)

-- a tag has 16 to 32 bytes: half an output at least, as section 5 of RFC 2104 recommends
abbrev pub shortest : ℕ
shortest = 16

abbrev pub longest : ℕ
longest = 32

abbrev pub may_be_wanted : ℕ → Bool
may_be_wanted wanted = both (leb shortest wanted) (leb wanted longest)

-- the number of a refusal
abbrev pub refusal_of : TagError → ℕ
refusal_of TooLong = 1
refusal_of BadTagLength = 26

-- what refuses, by whether key and message are within the limit and whether the length may be wanted: 1 first, then 26
abbrev pub refusal_if : Bool → Bool → ℕ
refusal_if false may = 1
refusal_if true false = 26
refusal_if true true = 0

-- refused by 1 first, then by 26, else the tag
abbrev pub tag_under : List ℕ → List ℕ → ℕ → Result (List ℕ) TagError
tag_under key m wanted =
    if both_within key m
    then if may_be_wanted wanted then Ok (tagged key m wanted) else Err BadTagLength
    else Err TooLong
