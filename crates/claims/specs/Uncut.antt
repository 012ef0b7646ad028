-- Histories without cuts (FORMAT.md, 10): the items stand in the order of their numbers, and an append answers the number of its item. Restarts are then
-- all refused, wherever they stand.
use Rattle.std.specs.Prelude.{◌≡◌, List, [], ◌∷◌, length}
use Rattle.scheme.specs.Store.{ratchet}
use Rattle.scheme.specs.Items.{item_number}
use Rattle.scheme.specs.Due.{InOrder}
use Rattle.claims.specs.Account.{Call, Open, Append, Close, Restart, Cut, Fed, started, account_from}

-- none of the calls is a cut
unfoldable pub Uncut : List Call → Type 0
Uncut [] = Unit {0}
Uncut (Open lengths seal_length ∷ calls) = Uncut calls
Uncut (Append phase bytes ∷ calls) = Uncut calls
Uncut (Close ∷ calls) = Uncut calls
Uncut (Restart number ∷ calls) = Uncut calls
Uncut (Cut ∷ calls) = ⊥

-- so are the items, and so is the number that the next append answers
pub record Straight (f : Fed) (calls : List Call) : Type 0 where
  pub order : InOrder (ratchet f.store) (account_from f (started f) calls).items
  pub next : item_number (ratchet f.store) (account_from f (started f) calls).c (account_from f (started f) calls).r ≡ length (account_from f (started f) calls).items
