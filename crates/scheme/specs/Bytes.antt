-- Bytes are lists of numbers. How they are read and written.
use Rattle.std.specs.Prelude.{Bool, true, false, ◌&&◌, List, [], ◌∷◌, ◌++◌, ℕ, zero, suc, ◌+◌, ◌*◌, ◌/◌, ◌%◌, eqb, length, take, drop}

-- counts are unsigned and little-endian: the w bytes of n, and the number that bytes give
unfoldable pub le : ℕ → ℕ → List ℕ
le zero n = []
le (suc w) n = n % 256 ∷ le w (n / 256)

unfoldable pub num : List ℕ → ℕ
num [] = 0
num (b ∷ bs) = b + 256 * num bs

-- the n bytes from a on
abbrev pub part : List ℕ → ℕ → ℕ → List ℕ
part xs a n = take n (drop a xs)

-- the list with ys written at a: the one way in which memory changes
unfoldable pub splice : List ℕ → ℕ → List ℕ → List ℕ
splice xs a ys = take a xs ++ ys ++ drop (a + length ys) xs

-- all bytes are zero; two lists are the same
unfoldable pub all_zero : List ℕ → Bool
all_zero [] = true
all_zero (b ∷ bs) = let rest = all_zero bs in eqb b 0 && rest

unfoldable pub same_bytes : List ℕ → List ℕ → Bool
same_bytes [] [] = true
same_bytes [] (y ∷ ys) = false
same_bytes (x ∷ xs) [] = false
same_bytes (x ∷ xs) (y ∷ ys) = let rest = same_bytes xs ys in eqb x y && rest

-- several lists one behind the other
unfoldable pub joined : List (List ℕ) → List ℕ
joined [] = []
joined (it ∷ items) = it ++ joined items
