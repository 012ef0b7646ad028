-- Calls, the account of a history, and what a history is (FORMAT.md, 10). Nothing here cites what the sealer does.
use Rattle.std.specs.Prelude.{◌≡◌, Bool, true, false, not, ◌||◌, cond, ◌⊎◌, List, [], ◌∷◌, ◌++◌, ℕ, zero, suc, ◌-◌, ◌<◌, eqb, ltb, length, get_or, set, replicate}
use Rattle.scheme.specs.Bytes.{joined}
use Rattle.scheme.specs.Rules.{Rule, ◌⇒◌, refusal_by, any_true, all_true, outside, some_from, row}
use Rattle.scheme.specs.Store.{data_limit, log_capacity, phases, chunk_count, ratchet, bad_store, bad_logs, bad_lengths}
use Rattle.scheme.specs.Items.{entry_head, filler_head, restart_head, entry_length, restart_length, item_message, item_number, chunk_field}
use Rattle.scheme.specs.Keys.{key_at, tag_of}
use Rattle.scheme.specs.declared.ChunkNumber.{ChunkNumber}
use Rattle.scheme.specs.declared.RatchetOffset.{RatchetOffset}

-- a call and what it was given: an open its log lengths and seal length, an append its phase and data, a close nothing, a restart its number; or a
-- cut, in which power is lost between two calls
pub data Call : Type 0 where
  Open : List ℕ → ℕ → Call
  Append : ℕ → List ℕ → Call
  Close : Call
  Restart : ℕ → Call
  Cut : Call

-- what a call answers: the number of its refusal, 0 with none, and its count, 0 where it is refused or has none; a cut answers nothing, written 0, 0
pub record Answer : Type 0 where
  pub refusal : ℕ
  pub count : ℕ

-- what the account is fed besides the calls (FORMAT.md, 10, account): the unused store, and both memories as at the start
pub record Fed : Type 0 where
  pub store : List ℕ
  pub logs : List ℕ
  pub seal : List ℕ

-- what the account holds: a chunk number, an offset, the items, a log for each phase, whether a refused open or a cut has lost the state, as it
-- does when there is an item, and of a cut chunk that waits for its restart how many items it has, 0 with none
pub record Account : Type 0 where
  pub c : ChunkNumber
  pub r : RatchetOffset
  pub items : List (List ℕ)
  pub logs : List (List ℕ)
  pub lost : Bool
  pub waiting : ℕ

-- 0 and empty at first
unfoldable pub started : Fed → Account
started f =
    record { c = record { 0 = 0 }; r = record { 0 = 0 }; items = []; logs = replicate (phases f.store) []; lost = false; waiting = 0 }

-- the log of phase p; the lengths reached are those of the logs and of all items together
abbrev pub log_of : Account → ℕ → List ℕ
log_of a p = get_or a.logs (p - 1) []

unfoldable pub lengths_of : List (List ℕ) → List ℕ
lengths_of [] = []
lengths_of (l ∷ ls) = length l ∷ lengths_of ls

abbrev pub lengths_reached : Account → List ℕ
lengths_reached a = lengths_of a.logs

abbrev pub seal_reached : Account → ℕ
seal_reached a = length (joined a.items)

-- an item carries the number of a chunk; the chunks so carried are those that the controller has burned
unfoldable pub carried_by : List (List ℕ) → ℕ → Bool
carried_by [] x = false
carried_by (it ∷ items) x = let rest = carried_by items x in cond (eqb (chunk_field it).0 x) true rest

abbrev pub carried : Account → ℕ → Bool
carried a x = carried_by a.items x

-- stepping on: 1 is added to r; if that makes the ratchet, r is 0 and c one more
unfoldable pub step_on : Fed → Account → Account
step_on f a =
    let r = suc a.r.0 in
    cond (eqb r (ratchet f.store))
    (record { c = record { 0 = suc a.c.0 }; r = record { 0 = 0 }; items = a.items; logs = a.logs; lost = a.lost; waiting = a.waiting })
    (record { c = a.c; r = record { 0 = r }; items = a.items; logs = a.logs; lost = a.lost; waiting = a.waiting })

-- the key that is due, from the unused store
abbrev pub due_key : Fed → Account → List ℕ
due_key f a = key_at f.store a.c a.r

-- the items that append, close and restart add
abbrev pub head_due : Account → ℕ → List ℕ → List ℕ
head_due a phase bytes = entry_head phase (length (log_of a phase)) (length bytes) a.c a.r

unfoldable pub entry_due : Fed → Account → ℕ → List ℕ → List ℕ
entry_due f a phase bytes =
    let head = head_due a phase bytes in
    head ++ tag_of f.store (due_key f a) (item_message f.store head bytes)

unfoldable pub filler_due : Fed → Account → List ℕ
filler_due f a =
    let head = filler_head a.c a.r in
    head ++ tag_of f.store (due_key f a) (item_message f.store head [])

-- at offset 0, where alone a restart is not refused
unfoldable pub restart_due : Fed → Account → ℕ → List ℕ
restart_due f a number =
    let head = restart_head a.c number in
    head ++ tag_of f.store (due_key f a) (item_message f.store head [])

-- an item is added; behind it no cut chunk waits: in a history none but a restart is added where one does (`Allowed`)
abbrev pub with_item : Account → List ℕ → Account
with_item a it = record { c = a.c; r = a.r; items = a.items ++ (it ∷ []); logs = a.logs; lost = a.lost; waiting = 0 }

abbrev pub with_data : Account → ℕ → List ℕ → Account
with_data a p bytes =
    record { c = a.c; r = a.r; items = a.items; logs = set a.logs (p - 1) (log_of a p ++ bytes); lost = a.lost; waiting = a.waiting }

abbrev pub with_lost : Account → Bool → Account
with_lost a lost = record { c = a.c; r = a.r; items = a.items; logs = a.logs; lost = lost; waiting = a.waiting }

-- append: the entry item is added, its data go behind the log, and the account steps on
unfoldable pub account_append : Fed → Account → ℕ → List ℕ → Account
account_append f a phase bytes = step_on f (with_data (with_item a (entry_due f a phase bytes)) phase bytes)

-- close: while r is above 0, a filler is added and the account steps on; at most as often as the ratchet says
unfoldable pub account_close : ℕ → Fed → Account → Account
account_close zero f a = a
account_close (suc n) f a =
    let more = account_close n f (step_on f (with_item a (filler_due f a))) in
    cond (ltb 0 a.r.0) more a

abbrev pub after_close : Fed → Account → Account
after_close f a = account_close (ratchet f.store) f a

-- restart: its item is added, and the account steps on
unfoldable pub account_restart : Fed → Account → ℕ → Account
account_restart f a number = step_on f (with_item a (restart_due f a number))

-- the state is lost where there is an item
abbrev pub losing : Account → Account
losing a = with_lost a (a.lost || ltb 0 (length a.items))

-- a cut: of a half-used chunk r items wait, r is 0 and c one more; and the state is lost
unfoldable pub after_cut : Account → Account
after_cut a =
    let b = losing a in
    cond (ltb 0 a.r.0)
    (record { c = record { 0 = suc a.c.0 }; r = record { 0 = 0 }; items = b.items; logs = b.logs; lost = b.lost; waiting = a.r.0 })
    b

-- the refusals, by the rules that each call checks (FORMAT.md, 9), in order, read on what the account holds and is fed
unfoldable pub account_open_rules : Fed → Account → List ℕ → ℕ → List Rule
account_open_rules f a lengths seal_length =
    let count = chunk_count f.store in
    let front = row (carried a) 0 count in
    (bad_store f.store ⇒ 2) ∷
    (bad_logs f.store f.logs ⇒ 3) ∷
    (some_from (carried a) front (count - front) ⇒ 4) ∷
    (bad_lengths f.store lengths ⇒ 5) ∷
    (ltb (length f.seal) seal_length ⇒ 6) ∷
    []

unfoldable pub account_append_rules : Fed → Account → ℕ → List ℕ → List Rule
account_append_rules f a phase bytes =
    (bad_store f.store ⇒ 2) ∷
    (bad_logs f.store f.logs ⇒ 3) ∷
    (a.lost ⇒ 6) ∷
    (outside 1 (phases f.store) phase ⇒ 7) ∷
    (outside 1 (data_limit f.store) (length bytes) ⇒ 8) ∷
    (ltb (log_capacity f.store - length (log_of a phase)) (length bytes) ⇒ 9) ∷
    (ltb (length f.seal - seal_reached a) (entry_length f.store) ⇒ 10) ∷
    (all_true (eqb a.r.0 0 ∷ eqb a.c.0 (chunk_count f.store) ∷ []) ⇒ 11) ∷
    []

unfoldable pub account_close_rules : Fed → Account → List Rule
account_close_rules f a =
    (bad_store f.store ⇒ 2) ∷
    (bad_logs f.store f.logs ⇒ 3) ∷
    (a.lost ⇒ 6) ∷
    (ltb (length f.seal - seal_reached a) (seal_reached (after_close f a) - seal_reached a) ⇒ 10) ∷
    []

unfoldable pub account_restart_rules : Fed → Account → ℕ → List Rule
account_restart_rules f a number =
    (bad_store f.store ⇒ 2) ∷
    (bad_logs f.store f.logs ⇒ 3) ∷
    (a.lost ⇒ 6) ∷
    (any_true (outside 1 (ratchet f.store - 1) number ∷ not (eqb a.r.0 0) ∷ not (some_from (carried a) 0 (chunk_count f.store)) ∷ []) ⇒ 27) ∷
    (ltb (length f.seal - seal_reached a) (restart_length f.store) ⇒ 10) ∷
    (all_true (eqb a.r.0 0 ∷ eqb a.c.0 (chunk_count f.store) ∷ []) ⇒ 11) ∷
    []

unfoldable pub account_refusal : Fed → Account → Call → ℕ
account_refusal f a (Open lengths seal_length) = refusal_by (account_open_rules f a lengths seal_length)
account_refusal f a (Append phase bytes) = refusal_by (account_append_rules f a phase bytes)
account_refusal f a Close = refusal_by (account_close_rules f a)
account_refusal f a (Restart number) = refusal_by (account_restart_rules f a number)
account_refusal f a Cut = 0

-- the account after a call that is not refused, and its count
unfoldable pub account_done : Fed → Account → Call → Account
account_done f a (Open lengths seal_length) = with_lost a false
account_done f a (Append phase bytes) = account_append f a phase bytes
account_done f a Close = after_close f a
account_done f a (Restart number) = account_restart f a number
account_done f a Cut = after_cut a

unfoldable pub account_count : Fed → Account → Call → ℕ
account_count f a (Open lengths seal_length) = 0
account_count f a (Append phase bytes) = item_number (ratchet f.store) a.c a.r
account_count f a Close = length (after_close f a).items - length a.items
account_count f a (Restart number) = item_number (ratchet f.store) a.c a.r
account_count f a Cut = 0

-- the account after a refused call: nothing changes, but for a refused open with items standing, which loses the state
unfoldable pub account_refused : Account → Call → Account
account_refused a (Open lengths seal_length) = losing a
account_refused a (Append phase bytes) = a
account_refused a Close = a
account_refused a (Restart number) = a
account_refused a Cut = a

unfoldable pub account_step : Fed → Account → Call → Account
account_step f a call =
    let done = account_done f a call in
    cond (eqb (account_refusal f a call) 0) done (account_refused a call)

unfoldable pub account_answer : Fed → Account → Call → Answer
account_answer f a call =
    let refusal = account_refusal f a call in
    let count = account_count f a call in
    record { refusal = refusal; count = cond (eqb refusal 0) count 0 }

-- no chunk is half used; one is
abbrev pub NoneHalfUsed : Account → Type 0
NoneHalfUsed a = (a.r.0 ≡ 0) × (a.waiting ≡ 0)

abbrev pub HalfUsed : Account → Type 0
HalfUsed a = (0 < a.r.0) ⊎ (0 < a.waiting)

-- the account of a list of calls, and its answers
unfoldable pub account_from : Fed → Account → List Call → Account
account_from f a [] = a
account_from f a (call ∷ calls) = account_from f (account_step f a call) calls

unfoldable pub answers_from : Fed → Account → List Call → List Answer
answers_from f a [] = []
answers_from f a (call ∷ calls) = account_answer f a call ∷ answers_from f (account_step f a call) calls

-- what a history allows of a call with this refusal, 0 with none, where the account stands (FORMAT.md, 10, history): a refused call, a cut and a close
-- come anywhere; an open does its work while no chunk is half used, or where a cut left one so, with the lengths reached; while a cut chunk waits no
-- call writes an item but a restart with its number, and no other restart does at all. A close writes none then, r being 0
unfoldable pub AllowedBy : ℕ → Account → Call → Type 0
AllowedBy refusal a (Open lengths seal_length) = refusal ≡ 0 → (a.r.0 ≡ 0) × (lengths ≡ lengths_reached a) × (seal_length ≡ seal_reached a)
AllowedBy refusal a (Append phase bytes) = refusal ≡ 0 → a.waiting ≡ 0
AllowedBy refusal a Close = Unit {0}
AllowedBy refusal a (Restart number) = refusal ≡ 0 → (0 < a.waiting) × (number ≡ a.waiting)
AllowedBy refusal a Cut = Unit {0}

-- by the account's own refusals; a history goes by those of the calls (`History`), and is one by the other where it is by the one (`ByAccount`)
abbrev pub Allowed : Fed → Account → Call → Type 0
Allowed f a call = AllowedBy (account_refusal f a call) a call

unfoldable pub HistoryFrom : Fed → Account → List Call → Type 0
HistoryFrom f a [] = Unit {0}
HistoryFrom f a (call ∷ calls) = Allowed f a call × HistoryFrom f (account_step f a call) calls
