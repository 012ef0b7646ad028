-- Laws of the operations of FIPS 180-4 on words. An identity of ∧ and ⊕ that holds for bits holds for numbers (`by_bits`);
-- a rotation by n exchanges the n low digits of a word with the digits above them (`rotr_turn`). Assumes nothing.
use Rattle.std.proofs.Common.{◌≡◌, ℕ, zero, suc, ◌+◌, ◌-◌, ◌*◌, ◌/◌, ◌%◌, ◌^◌, ◌<◌, ◌≤◌, List, [], ◌∷◌, sym, refl, ap, ◌∙◌, ap₂, le_refl, lt_of_le_of_lt, add-zero, add_assoc, mod-lt, mod-eq_of_lt, mul_assoc, add-mul, add_comm, arith, pow_pos, pow-add, shr-shr, shr_lt}
use native.Mathlib.Nat.{mul-mod_left, mul-add-div_right, mul-add-mod_self_right}
use lib.Bits.{bit_or, and_comm, and_mask, and_mod, and_shr, or_lt, or_shifted_r, xor_add_and, xor_block, xor_lt, xor_mod, xor_shr}
use lib.Pow.{mod-pow-add, shl-shr, shr_le}
use Rattle.std.specs.Int.{w32, rotate_right}
use Rattle.std.specs.Int.Bits.{xor_assoc}
use Rattle.compression.specs.Fips.{◌&◌, ◌⊕◌, rotr, Ch, Maj}

-- ---- identities that hold bit by bit

-- an expression over three numbers a, b and c
pub data Formula : Type 0 where
  A B C : Formula
  and xor : Formula → Formula → Formula

abbrev pub value : Formula → ℕ → ℕ → ℕ → ℕ
value A a b c = a
value B a b c = b
value C a b c = c
value (and s t) a b c = value s a b c & value t a b c
value (xor s t) a b c = value s a b c ⊕ value t a b c

-- the values at bits
abbrev pub table : Formula → List ℕ
table t =
    value t 0 0 0 ∷ value t 0 0 1 ∷ value t 0 1 0 ∷ value t 0 1 1 ∷ value t 1 0 0 ∷ value t 1 0 1 ∷ value t 1 1 0 ∷ value t 1 1 1 ∷ []

-- the digits of the value are the values at the digits
value_half : (t : Formula) (a b c : ℕ) → value t a b c / 2 ≡ value t (a / 2) (b / 2) (c / 2)
value_half A a b c = refl
value_half B a b c = refl
value_half C a b c = refl
value_half (and s t) a b c = and_shr (value s a b c) (value t a b c) 1 ∙ ap₂ ◌&◌ (value_half s a b c) (value_half t a b c)
value_half (xor s t) a b c = xor_shr (value s a b c) (value t a b c) 1 ∙ ap₂ ◌⊕◌ (value_half s a b c) (value_half t a b c)

value_odd : (t : Formula) (a b c : ℕ) → value t a b c % 2 ≡ value t (a % 2) (b % 2) (c % 2)
value_odd A a b c = refl
value_odd B a b c = refl
value_odd C a b c = refl
value_odd (and s t) a b c = and_mod (value s a b c) (value t a b c) 1 ∙ ap₂ ◌&◌ (value_odd s a b c) (value_odd t a b c)
value_odd (xor s t) a b c = xor_mod (value s a b c) (value t a b c) 1 ∙ ap₂ ◌⊕◌ (value_odd s a b c) (value_odd t a b c)

odd_cases : (P : ℕ → Type 0) → P 0 → P 1 → (a : ℕ) → P (a % 2)
odd_cases P even odd a = pick (a % 2) (omega arith)
  where
    pick : (d : ℕ) → d < 2 → P d
    pick zero h = even
    pick (suc zero) h = odd
    pick (suc (suc d)) h = absurd (omega arith)

module _ (s t : Formula) (same : table s ≡ table t) where
  Same : ℕ → ℕ → ℕ → Type 0
  Same a b c = value s a b c ≡ value t a b c

  same_odd : (a b c : ℕ) → Same (a % 2) (b % 2) (c % 2)
  unfolding Same
  same_odd a b c =
      odd_cases (λ x. Same x (b % 2) (c % 2))
      (odd_cases (λ y. Same 0 y (c % 2)) (odd_cases (Same 0 0) (cc) (cc) c) (odd_cases (Same 0 1) (cc) (cc) c) b)
      (odd_cases (λ y. Same 1 y (c % 2)) (odd_cases (Same 1 0) (cc) (cc) c) (odd_cases (Same 1 1) (cc) (cc) c) b)
      a

  -- n bounds the digits to go
  same_below : (n a b c : ℕ) → a + b + c ≤ n → Same a b c
  unfolding Same
  same_below zero zero zero zero h = cc
  same_below zero (suc a) b c h = absurd (omega arith)
  same_below zero zero (suc b) c h = absurd (omega arith)
  same_below zero zero zero (suc c) h = absurd (omega arith)
  same_below (suc n) a b c h =
      let halves = same_below n (a / 2) (b / 2) (c / 2) (omega arith) in
      omega (arith, halves, same_odd a b c, value_half s a b c, value_half t a b c, value_odd s a b c, value_odd t a b c)

  pub by_bits : (a b c : ℕ) → value s a b c ≡ value t a b c
  unfolding Same
  by_bits a b c = same_below (a + b + c) a b c (le_refl (a + b + c))

pub xor_and : (a b c : ℕ) → (a ⊕ b) & c ≡ (a & c) ⊕ (b & c)
xor_and = by_bits (and (xor A B) C) (xor (and A C) (and B C)) refl

pub maj_form : (x y z : ℕ) → ((x ⊕ y) & (y ⊕ z)) ⊕ y ≡ Maj x y z
unfolding Maj
maj_form = by_bits (xor (and (xor A B) (xor B C)) B) (xor (and A B) (xor (and A C) (and B C))) refl

-- all k digits set
ones_and : (k : ℕ) {x : ℕ} → x < 2 ^ k → (2 ^ k - 1) & x ≡ x
ones_and k {x} h = and_comm (2 ^ k - 1) x ∙ and_mask x k ∙ mod-eq_of_lt h

ones_xor : (k : ℕ) {x : ℕ} → x < 2 ^ k → 2 ^ k - 1 - x ≡ (2 ^ k - 1) ⊕ x
ones_xor k {x} h = omega (arith, xor_add_and (2 ^ k - 1) x, ones_and k h)

pub complement_and : (k : ℕ) {x z : ℕ} → x < 2 ^ k → z < 2 ^ k → (2 ^ k - 1 - x) & z ≡ z ⊕ (x & z)
complement_and k {x} {z} hx hz =
    ap (λ (y : ℕ). y & z) (ones_xor k hx) ∙ xor_and (2 ^ k - 1) x z ∙ ap (λ (y : ℕ). y ⊕ (x & z)) (ones_and k hz)

pub ch_form : (x y z : ℕ) → x < 2 ^ 32 → z < 2 ^ 32 → z ⊕ (x & (y ⊕ z)) ≡ Ch x y z
unfolding Ch
ch_form x y z hx hz =
    by_bits (xor C (and A (xor B C))) (xor (and A B) (xor C (and A C))) refl x y z
    ∙ ap (λ (w : ℕ). (x & y) ⊕ w) (sym (complement_and 32 hx hz))

-- ---- rotations

-- what a word shifted to the left keeps
shl_mod : (n j x : ℕ) → x * 2 ^ j % 2 ^ (n + j) ≡ x % 2 ^ n * 2 ^ j
shl_mod n j x =
    mod-pow-add (x * 2 ^ j) n j
    ∙ ap₂ (λ (h l : ℕ). h % 2 ^ n * 2 ^ j + l) (shl-shr x j) (mul-mod_left x (2 ^ j))
    ∙ add-zero (x % 2 ^ n * 2 ^ j)

-- a word of j + n digits, its n low digits exchanged with the j above them
turn : ℕ → ℕ → ℕ → ℕ
turn j n x = x % 2 ^ n * 2 ^ j + x / 2 ^ n

turn_xor : (j n : ℕ) {x y : ℕ} → x < 2 ^ (j + n) → y < 2 ^ (j + n) → turn j n (x ⊕ y) ≡ turn j n x ⊕ turn j n y
unfolding turn
turn_xor j n {x} {y} hx hy =
    ap₂ (λ (l h : ℕ). l * 2 ^ j + h) (xor_mod x y n) (xor_shr x y n)
    ∙ sym (xor_block j (x % 2 ^ n) (y % 2 ^ n) (x / 2 ^ n) (y / 2 ^ n) (shr_lt j n hx) (shr_lt j n hy))

turn_turn : (j n m x : ℕ) → turn (m + j) n (turn (j + n) m x) ≡ turn j (n + m) x
unfolding turn
turn_turn j n m x =
    rw (
      pow-add 2 j n,
      ← mul_assoc (x % 2 ^ m) (2 ^ j) (2 ^ n),
      mul-add-mod_self_right,
      mul-add-div_right (pow_pos n),
      shr-shr x m n,
      add_comm m n,
      mod-pow-add x n m,
      pow-add 2 m j,
      add-mul,
      mul_assoc,
      add_assoc,
    )

rotr_turn : (j n : ℕ) {x : ℕ} → j + n ≡ 32 → x < 2 ^ 32 → rotr n x ≡ turn j n x
unfolding rotr turn
rotr_turn j n {x} e h =
    let left : 32 - n ≡ j = omega arith in
    let width : 32 ≡ n + j = omega arith in
    ap₂ (λ (i w : ℕ). bit_or (x / 2 ^ n) (x * 2 ^ i % 2 ^ w)) left width
    ∙ ap (bit_or (x / 2 ^ n)) (shl_mod n j x)
    ∙ or_shifted_r (x % 2 ^ n) j (x / 2 ^ n) (shr_lt j n (rw e h))

pub rotr_lt : (n : ℕ) {x : ℕ} → x < 2 ^ 32 → rotr n x < 2 ^ 32
unfolding rotr
rotr_lt n {x} h = or_lt 32 (x / 2 ^ n) (x * 2 ^ (32 - n) % 2 ^ 32) (lt_of_le_of_lt (shr_le x n) h) (mod-lt (x * 2 ^ (32 - n)) (pow_pos 32))

pub rotr_xor : (n : ℕ) {x y : ℕ} → n ≤ 32 → x < 2 ^ 32 → y < 2 ^ 32 → rotr n (x ⊕ y) ≡ rotr n x ⊕ rotr n y
rotr_xor n {x} {y} h hx hy =
    let e : 32 - n + n ≡ 32 = omega arith in
    rotr_turn (32 - n) n e (xor_lt 32 x y hx hy)
    ∙ turn_xor (32 - n) n (rw e hx) (rw e hy)
    ∙ sym (ap₂ ◌⊕◌ (rotr_turn (32 - n) n e hx) (rotr_turn (32 - n) n e hy))

pub rotr_rotr : (n m : ℕ) {x : ℕ} → n + m ≤ 32 → x < 2 ^ 32 → rotr n (rotr m x) ≡ rotr (n + m) x
rotr_rotr n m {x} h hx =
    let j = 32 - (n + m) in
    rotr_turn (m + j) n (omega arith) (rotr_lt m hx)
    ∙ ap (turn (m + j) n) (rotr_turn (j + n) m (omega arith) hx)
    ∙ turn_turn j n m x
    ∙ sym (rotr_turn j (n + m) (omega arith) hx)

-- a rotation inside a rotated sum
pub rotr_nested : (n m : ℕ) {x y : ℕ} → n + m ≤ 32 → x < 2 ^ 32 → y < 2 ^ 32 → rotr n (x ⊕ rotr m y) ≡ rotr n x ⊕ rotr (n + m) y
rotr_nested n m {x} {y} h hx hy = rotr_xor n (omega arith) hx (rotr_lt m hy) ∙ ap (λ (w : ℕ). rotr n x ⊕ w) (rotr_rotr n m h hy)

-- std's rotation by less than the whole word is the standard's
pub rotate_rotr : (n x : ℕ) → 0 < n → n < 32 → rotate_right w32 x n ≡ rotr n x
unfolding rotr
rotate_rotr n x some few =
    let amount : n % 32 ≡ n = omega arith in
    let other : (32 - n % 32) % 32 ≡ 32 - n = omega arith in
    ap₂ (λ (i j : ℕ). bit_or (x / 2 ^ i) (x * 2 ^ j % 2 ^ 32)) amount other

-- the form that the sigmas are computed in
pub two_rotations : (n m x : ℕ) {y z : ℕ} → 0 < n → 0 < m → n + m < 32 → x < 2 ^ 32 → y ≡ rotate_right w32 x m → z ≡ rotate_right w32 (x ⊕ y) n
    → z ≡ rotr n x ⊕ rotr (n + m) x
two_rotations n m x some more h hx inner outer =
    outer ∙ rotate_rotr n _ some (omega arith)
    ∙ ap (λ (w : ℕ). rotr n (x ⊕ w)) (inner ∙ rotate_rotr m x more (omega arith))
    ∙ rotr_nested n m (omega arith) hx hx

-- a third term behind them
pub and_third : (x y : ℕ) {r w v : ℕ} → r ≡ x ⊕ y → w ≡ v → r ⊕ w ≡ x ⊕ y ⊕ v
and_third x y {v = v} two third = ap₂ ◌⊕◌ two third ∙ xor_assoc x y v
