-- Half-used chunks, told by the items alone (FORMAT.md, 2 and 10): some but not all keys of such a chunk have sealed an item, and no restart follows
-- its last one.
use Rattle.std.specs.Prelude.{◌≡◌, true, cond, ◌⊎◌, ◌↔◌, List, [], ◌∷◌, ℕ, suc, ◌-◌, ◌<◌, eqb, length, get_or}
use Rattle.scheme.specs.Store.{restart_kind, ratchet}
use Rattle.scheme.specs.Items.{kind_of, chunk_field, offset_field, number_field}
use Rattle.scheme.specs.Due.{key_place, own_place}
use Rattle.claims.specs.Account.{Fed, Account, carried, NoneHalfUsed, HalfUsed}
use Rattle.claims.specs.Claim.{last_chunk, own_item}
use Rattle.claims.specs.Back.{half_count}

-- how many items carry chunk x
unfoldable pub items_carrying : List (List ℕ) → ℕ → ℕ
items_carrying [] x = 0
items_carrying (it ∷ items) x = let rest = items_carrying items x in cond (eqb (chunk_field it).0 x) (suc rest) rest

-- the item behind one of chunk x is a restart
pub record Followed (items : List (List ℕ)) (x : ℕ) : Type 0 where
  pub k : ℕ
  pub within : suc k < length items
  pub chunk : (chunk_field (get_or items k [])).0 ≡ x
  pub restart : kind_of (get_or items (suc k) []) ≡ restart_kind

abbrev pub HalfUsedChunk : Fed → Account → ℕ → Type 0
HalfUsedChunk f a x = (0 < items_carrying a.items x) × (items_carrying a.items x < ratchet f.store) × (Followed a.items x → ⊥)

pub record ByItems (f : Fed) (a : Account) : Type 0 where
  -- no chunk is half used just where each chunk that an item carries has an item for each of its keys, or a restart behind it
  pub none : NoneHalfUsed a ↔ ((x : ℕ) → carried a x ≡ true → (items_carrying a.items x ≡ ratchet f.store) ⊎ Followed a.items x)
  -- where one is, it is the last burned one, and no other
  pub half : HalfUsed a → HalfUsedChunk f a (last_chunk f a)
  pub only : (x : ℕ) → HalfUsedChunk f a x → HalfUsed a × (x ≡ last_chunk f a)
  -- the number that its restart is to hold is how many items carry it, which is the last item's offset and one
  pub number : HalfUsed a → half_count a ≡ items_carrying a.items (last_chunk f a)
  pub last : HalfUsed a → own_place (own_item a (length a.items - 1)) ≡ key_place (last_chunk f a) (half_count a - 1)
  -- where none is, the last item is under the last key of its chunk
  pub used : NoneHalfUsed a → 0 < length a.items → suc (offset_field (own_item a (length a.items - 1))).0 ≡ ratchet f.store
  -- each restart among the items is of the chunk behind another, and holds the number of items that carry that one
  pub restarts : (k : ℕ) → k < length a.items → kind_of (own_item a k) ≡ restart_kind
      → (x : ℕ) × (own_place (own_item a k) ≡ key_place (suc x) 0) × (number_field (own_item a k) ≡ items_carrying a.items x)
