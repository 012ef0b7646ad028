-- What a seized device yields: by its store and state as the account says them.
use mathlib.Core.Path.{◌≡◌, refl, sym, ap, subst, ◌∙◌}
use mathlib.Core.Bool.{Bool, true, false, cond, true≢false}
use mathlib.Core.Logic.{by_cases}
use mathlib.Core.List.{List}
use Prim.Native.Nat.{ℕ, zero, suc, ◌<◌}
use native.Mathlib.Decide.{dec_lt}
use native.Mathlib.Omega.{arith}
use borrow.Author.Tests.{ne_eqb, lt-ltb}
use Rattle.scheme.specs.Store.{chunk_count, chunk}
use Rattle.scheme.specs.Items.{chunk_number, ratchet_offset}
use Rattle.scheme.specs.Due.{key_place}
use Rattle.scheme.specs.declared.KeyPlace.{KeyPlace}
use Rattle.scheme.specs.Keys.{next_key, key_after, key_at}
use Rattle.scheme.specs.State.{zero_state}
use Rattle.scheme.specs.declared.State.{State}
use Rattle.scheme.proofs.Headers.{same_ratchet_message}
use Rattle.scheme.proofs.Burning.{zeroed_later}
use Rattle.claims.specs.Account.{Call, Fed, Account, started, carried, account_from, due_key}
use Rattle.claims.specs.Run.{History}
use Rattle.claims.specs.Left.{held, state_left, store_left}
use Rattle.claims.specs.Claim.{Starts, Held, unburned, held_key, stepped_on}
use Rattle.claims.specs.Seized.{Yields, stored, kept, derived, Seized, SeizedAfter, Unyielded}
use Rattle.claims.proofs.Good.{Good, front}
use Rattle.claims.proofs.Histories.{good, device_left}
use Rattle.claims.proofs.Steps.Begun.{Begun, begun}
use Rattle.claims.proofs.Steps.Device.{device_of, left_fields, state_held}
use Rattle.claims.proofs.Steps.StoreLeft.{store_left_lem, burned_left}

module _ (f : Fed) (begun : Begun f) (a : Account) (g : Good f a) where
  -- a chunk that is not carried is as it was
  chunk_left : (x : ℕ) → carried a x ≡ false → chunk (store_left f a) x ≡ chunk f.store x
  chunk_left x free =
      ap (λ (st : List ℕ). chunk st x) (store_left_lem f a g.laid begun.store)
      ∙ zeroed_later f.store begun.store (front a) g.laid.spent x
      (by_cases (dec_lt x (front a)) (λ low. absurd (true≢false (sym (g.laid.burned x ∙ lt-ltb x (front a) low) ∙ free))) (λ late. omega (arith, late)))

  next_same : (key : List ℕ) (r : ℕ) → next_key (store_left f a) key (ratchet_offset r) ≡ next_key f.store key (ratchet_offset r)
  unfolding next_key
  next_same key r = rw (same_ratchet_message (store_left f a) f.store (left_fields f begun a g.laid) (ratchet_offset r))

  -- a state with an offset above 0 is not lost, and holds the key that is due
  not_lost : 0 < (state_left f a).offset.0 → a.lost ≡ false
  not_lost above = go a.lost above
    where
      go : (t : Bool) → 0 < (cond t zero_state (held f a)).offset.0 → t ≡ false
      go true h = absurd (omega (arith, h))
      go false h = refl

  held_due : 0 < a.r.0 → (held f a).key ≡ due_key f a
  held_due inner = rw (ne_eqb a.r.0 0 (λ z. omega (arith, inner, z)))

  only : {place : KeyPlace} {key : List ℕ} → Yields (device_of f a) place key → Held f a place × (key ≡ key_at f.store place.chunk place.offset)
  unfolding key_after
  only (stored {x = x} low free) =
      let inside : x < chunk_count f.store = omega (arith, low, (left_fields f begun a g.laid).chunk_count) in
      let uncarried = sym (burned_left f a g.laid begun.store begun.unused x inside) ∙ free in
      (unburned inside uncarried, chunk_left x uncarried)
  only (kept above) =
      let is = state_held f a (not_lost above) in
      let inner : 0 < a.r.0 = subst (λ (s : State). 0 < s.offset.0) is above in
      subst (λ (s : State). Held f a (record { chunk = s.chunk; offset = s.offset }) × (s.key ≡ key_at f.store s.chunk s.offset)) (sym is)
      (held_key inner, held_due inner)
  only (derived {place = place} {key = key} from) =
      let before = only from in (
        stepped_on before.0,
        next_same key (suc place.offset.0) ∙ ap (λ (k : List ℕ). next_key f.store k (ratchet_offset (suc place.offset.0))) before.1,
      )

  -- stepping on from a key that it yields
  further : (place : KeyPlace) → Yields (device_of f a) place (key_at f.store place.chunk place.offset)
      → Yields (device_of f a) (key_place place.chunk.0 (suc place.offset.0)) (key_at f.store place.chunk (ratchet_offset (suc place.offset.0)))
  unfolding key_after
  further place yields = subst (Yields (device_of f a) (key_place place.chunk.0 (suc place.offset.0))) (next_same _ (suc place.offset.0)) (derived yields)

  chunks : (x r : ℕ) → x < chunk_count f.store → carried a x ≡ false → Yields (device_of f a) (key_place x r) (key_at f.store (chunk_number x) (ratchet_offset r))
  unfolding key_after
  chunks x zero inside free =
      subst (Yields (device_of f a) (key_place x 0)) (chunk_left x free)
      (stored {d = device_of f a} {x = x} (omega (arith, inside, (left_fields f begun a g.laid).chunk_count)) (burned_left f a g.laid begun.store begun.unused x inside ∙ free))
  chunks x (suc r) inside free = further (key_place x r) (chunks x r inside free)

  all : a.lost ≡ false → {place : KeyPlace} → Held f a place → Yields (device_of f a) place (key_at f.store place.chunk place.offset)
  all there (unburned {x = x} inside free) = chunks x 0 inside free
  all there (held_key inner) =
      let is = state_held f a there in
      let yields = kept {d = device_of f a} (subst (λ (s : State). 0 < s.offset.0) (sym is) inner) in
      subst (Yields (device_of f a) (key_place a.c.0 a.r.0)) (held_due inner)
      (subst (λ (s : State). Yields (device_of f a) (record { chunk = s.chunk; offset = s.offset }) s.key) is yields)
  all there (stepped_on {place = place} held) = further place (all there held)

pub seized : (f : Fed) → Starts f → (calls : List Call) → History f calls → SeizedAfter f calls
seized f starts calls history =
    let a = account_from f (started f) calls in
    let g = good f starts calls history in
    let start = begun f starts in
    subst (Seized f a) (sym (device_left f starts calls history))
    (record {
      only = λ place key yields. only f start a g yields;
      all = λ there place held. all f start a g there held;
      chunks = chunks f start a g;
    })

pub unyielded : (f : Fed) → Starts f → (calls : List Call) → History f calls → Unyielded f calls
unyielded f starts calls history n device logs seal forged key yields = forged.unheld ((seized f starts calls history).only _ key yields).0
