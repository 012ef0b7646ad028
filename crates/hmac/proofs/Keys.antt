-- Laws of a list that is mapped from its front on, and of the padded key.
use mathlib.Core.Path.{◌≡◌, refl, sym, ◌∙◌, ap, subst}
use mathlib.Core.Bool.{Bool, true, false}
use mathlib.Core.List.{List, ◌++◌, map, map-append}
use Prim.Native.Nat.{ℕ, suc, ◌+◌, ◌-◌, ◌<◌, ◌≤◌}
use native.Mathlib.Numerals.{add-one}
use native.Mathlib.Omega.{arith}
use borrow.Author.Tests.{le-leb, lt-leb, leb-true}
use lib.Dec.{leb, lit≤}
use lib.Bits.{bit_xor}
use lib.ListN.{length, get_or, take, drop, set, replicate, length-append, length-map, length-replicate}
use lib.Seq.{drop-cons, take-suc, length-take-le, append_snoc, set_at, get_or_at, take_all}
use Rattle.compression.specs.Fips.{sha256}
use Rattle.sha256.specs.State.{Stands}
use Rattle.sha256.specs.declared.state.Sha256.{Sha256}
use Rattle.hmac.specs.Rfc2104.{choose, shortened, padded, masked}

-- the first i entries mapped, the others as they were
abbrev pub mapped : (ℕ → ℕ) → List ℕ → ℕ → List ℕ
mapped f l i = map f (take i l) ++ drop i l

module _ (f : ℕ → ℕ) (l : List ℕ) (i : ℕ) (within : i < length l) where
  front : length (map f (take i l)) ≡ i
  front = length-map (take i l) f ∙ length-take-le i l (omega arith)

  mapped_at : get_or (mapped f l i) i 0 ≡ get_or l i 0
  mapped_at = rw (drop-cons l i 0 within) (get_or_at (map f (take i l)) (get_or l i 0) (drop (suc i) l) 0 i front)

  mapped_set : set (mapped f l i) i (f (get_or l i 0)) ≡ mapped f l (suc i)
  mapped_set =
      rw (drop-cons l i 0 within)
      (set_at (map f (take i l)) (get_or l i 0) (drop (suc i) l) (f (get_or l i 0)) i front ∙
      sym (rw (take-suc l i 0 within, map-append) (append_snoc (map f (take i l)) (f (get_or l i 0)) (drop (suc i) l))))

  -- one entry more
  pub mapped_more : {b : List ℕ} → b ≡ mapped f l i → set b i (f (get_or b i 0)) ≡ mapped f l (i + 1)
  mapped_more so_far = rw so_far (rw (mapped_at, add-one) mapped_set)

-- a short key with zeros behind it is the padded key
pub padded_block : (key short block : List ℕ) → shortened key ≡ short → length short ≤ 64
    → block ≡ take 64 short ++ replicate (64 - length short) 0 → block ≡ padded key
unfolding padded
padded_block key short block chosen fits laid =
    laid ∙ ap (λ xs. xs ++ replicate (64 - length short) 0) (take_all 64 short fits) ∙
    ap (λ s. s ++ replicate (64 - length s) 0) (sym chosen)

pub key_taken : (key : List ℕ) → length key ≤ 64 → shortened key ≡ key
unfolding shortened
key_taken key h = rw (le-leb (length key) 64 h)

pub key_hashed : (key : List ℕ) → 64 < length key → shortened key ≡ sha256 key
unfolding shortened
key_hashed key h = rw (lt-leb (length key) 64 h)

-- a masked key is one block
chosen_fits : (b : Bool) (key : List ℕ) → leb (length key) 64 ≡ b → length (choose b key (sha256 key)) ≤ 64
unfolding sha256
chosen_fits true key e = leb-true _ _ e
chosen_fits false key e = lit≤ tt

shortened_fits : (key : List ℕ) → length (shortened key) ≤ 64
unfolding shortened
shortened_fits key = chosen_fits (leb (length key) 64) key refl

pub masked_length : (p : ℕ) (key : List ℕ) → length (masked p key) ≡ 64
unfolding masked padded
masked_length p key =
    let zeros : List ℕ = replicate (64 - length (shortened key)) 0 in
    length-map (shortened key ++ zeros) (λ k. bit_xor k p) ∙
    omega (arith, shortened_fits key, length-append (shortened key) zeros, length-replicate {A = ℕ} (64 - length (shortened key)) 0)

-- a state that has absorbed the masked block stands for it, and for it with what follows
module _ {b : List ℕ} (p : ℕ) (key block : List ℕ) (laid : block ≡ padded key) (mapping : b ≡ map (λ k. bit_xor k p) block) where
  masked_block : b ≡ masked p key
  unfolding masked
  masked_block = mapping ∙ ap (map (λ k. bit_xor k p)) laid

  pub absorbed : {s : Sha256} → Stands s b → Stands s (masked p key)
  absorbed {s} = subst (Stands s) masked_block

  pub absorbed_with : {s : Sha256} (m : List ℕ) → Stands s (b ++ m) → Stands s (masked p key ++ m)
  absorbed_with {s} m = subst (λ l. Stands s (l ++ m)) masked_block
