-- A store written with any set, or in kind 1, of whose chunks none is all zeros, begins histories.
use mathlib.Core.Path.{◌≡◌, sym, ap₂, ◌∙◌}
use mathlib.Core.List.{List}
use Prim.Native.Nat.{ℕ, ◌*◌}
use native.Mathlib.Omega.{arith}
use lib.ListN.{length}
use Rattle.scheme.specs.Store.{bad_logs}
use Rattle.scheme.specs.Written.{common_store, own_set_store, StoreWith}
use Rattle.scheme.proofs.Tests.{not_differ}
use Rattle.scheme.proofs.Acceptance.Stores.{key_store, unused_is}
use Rattle.scheme.proofs.Written.{every_set, common_set}
use Rattle.claims.specs.Claim.{Starts}
use Rattle.claims.specs.Sets.{NoneZero, EveryStart, CommonStart}

-- so does any store with these fields and chunks
written_starts : (st id : List ℕ) (p c n header tag limit capacity : ℕ) (chunks logs seal : List ℕ) → StoreWith st id p c n header tag limit capacity chunks
    → NoneZero c chunks → length logs ≡ capacity * p → Starts (record { store = st; logs = logs; seal = seal })
unfolding bad_logs
written_starts st id p c n header tag limit capacity chunks logs seal it keys long =
    record {
      store = (key_store st).1 it.store;
      logs = (not_differ _ _).1 (long ∙ sym (ap₂ ◌*◌ it.log_capacity it.phases));
      unused = (unused_is st it.store).1 (λ x below burned. keys x (omega (arith, it.chunk_count)) (sym (it.chunk x) ∙ burned));
    }

pub every_start : EveryStart
every_start id p c n tag limit capacity chunks logs seal may set =
    written_starts (own_set_store id p c n tag limit capacity chunks) id p c n 27 tag limit capacity chunks logs seal (every_set id p c n tag limit capacity chunks may set)

pub common_start : CommonStart
common_start id p c n chunks logs seal may =
    written_starts (common_store id p c n chunks) id p c n 18 32 512 8192 chunks logs seal (common_set id p c n chunks may)
