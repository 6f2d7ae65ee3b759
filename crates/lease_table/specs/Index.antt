use Rattle.std.specs.Prelude.{ℕ, ◌+◌, ◌<◌, ◌≤◌, ◌==◌, Bool, ◌&&◌, ◌||◌, nat_lt, nat_le, List, find, All, IfSome, IsTrue, IsFalse}
use Rattle.std.specs.List.{list_any}
use Rattle.std.specs.BinaryHeap.{IsHeap, heap_items, heap_len, heap_capacity}
use Rattle.std.specs.declared.cmp.Ordering.{Ordering}
use Rattle.std.specs.declared.cmp.Reverse.{Reverse}
use Rattle.rows_model.specs.declared.keys.QKey.{QKey}
use Rattle.rows_model.specs.Key.{same_key}
use Rattle.lease_table.specs.declared.records.Quar.{Quar}
use Rattle.lease_table.specs.declared.index.Term.{Term}
use Rattle.lease_table.specs.declared.index.Found.{Found}
use Rattle.lease_table.specs.declared.index.Index.{Index}
use Rattle.lease_table.specs.contracts.index.TermOrd.TheImpl as term_order
use Rattle.lease_table.specs.contracts.index.FoundOrd.TheImpl as found_order
use Rattle.lease_table.specs.Leases.{has_token}
use Rattle.lease_table.specs.Expiry.{key_before}

-- The term of a quarantine on a key.
abbrev pub term_of : QKey → Quar → Term
term_of key quar = record { deadline = quar.deadline; key = key; token = quar.token }

-- The order of terms: by deadline, then by key, then by token.
abbrev pub term_cmp : Term → Term → Ordering
term_cmp = (term_order.ghosts).cmp

-- The order of what is found: by key, then by token.
abbrev pub found_cmp : Found → Found → Ordering
found_cmp = (found_order.ghosts).cmp

-- The same two turned round, since a heap has its greatest in front.
abbrev pub later_back : Reverse Term → Reverse Term → Ordering
later_back a b = term_cmp b.0 a.0

abbrev pub found_back : Reverse Found → Reverse Found → Ordering
found_back a b = found_cmp b.0 a.0

-- Whether two keys and two tokens are the same.
abbrev pub is_same : QKey → ℕ → QKey → ℕ → Bool
is_same key token other_key other_token = same_key key other_key && (other_token == token)

-- Whether a term lists a quarantine: its key and its token are the quarantine's, and its deadline is no later.
abbrev pub is_later : QKey → ℕ → ℕ → Reverse Term → Bool
is_later key token deadline term = is_same key token term.0.key term.0.token && nat_le term.0.deadline deadline

-- Whether what is found has this key and this token.
abbrev pub is_found : QKey → ℕ → Reverse Found → Bool
is_found key token found = is_same key token found.0.key found.0.token

-- Whether a quarantine of this key, this token and this deadline is listed in one of two lists.
abbrev pub listed_in : QKey → ℕ → ℕ → List (Reverse Term) → List (Reverse Found) → Bool
listed_in key token deadline later found =
    list_any (is_later key token deadline) later || list_any (is_found key token) found

-- Whether it is listed in the index.
abbrev pub is_listed : QKey → ℕ → ℕ → Index → Bool
is_listed key token deadline index = listed_in key token deadline (heap_items index.later) (heap_items index.found)

-- Of these quarantines on a key each is listed.
abbrev pub ListsOn : QKey → List Quar → Index → Type 0
ListsOn key quars index =
    (token : ℕ) → IfSome (find (has_token token) quars) (λ quar. IsTrue (is_listed key token quar.deadline index))

-- Each quarantine that stands is listed, by what stands on each key.
abbrev pub ListsEach : (QKey → List Quar) → Index → Type 0
ListsEach standing index = (key : QKey) → ListsOn key (standing key) index

-- Both lists are heaps, and each has room for what is in both, so that what is in one may be moved to the other.
pub record IsSound (index : Index) : Type 0 where
  pub later_heap : IsHeap later_back (heap_items index.later)
  pub found_heap : IsHeap found_back (heap_items index.found)
  pub later_room : heap_len index.later + heap_len index.found ≤ heap_capacity index.later
  pub found_room : heap_len index.later + heap_len index.found ≤ heap_capacity index.found

-- There is room for one more in each.
pub record HasRoom (index : Index) : Type 0 where
  pub later_more : heap_len index.later + heap_len index.found < heap_capacity index.later
  pub found_more : heap_len index.later + heap_len index.found < heap_capacity index.found

-- What was listed still is.
pub record KeepsEach (old new : Index) : Type 0 where
  pub each : (key : QKey) (token deadline : ℕ) → IsTrue (is_listed key token deadline old) → IsTrue (is_listed key token deadline new)

-- What was listed still is, but for this key and this token.
pub record KeepsOthers (key : QKey) (token : ℕ) (old new : Index) : Type 0 where
  pub each : (other : QKey) (its : ℕ) (deadline : ℕ) → IsFalse (is_same other its key token)
      → IsTrue (is_listed other its deadline old) → IsTrue (is_listed other its deadline new)

-- The deadline of each term that isn't found yet lies ahead.
abbrev pub AllAhead : ℕ → Index → Type 0
AllAhead now index = All (λ term. now < term.0.deadline) (heap_items index.later)

-- Whether what is found comes before another: by key, then by token.
abbrev pub found_before : Found → Found → Bool
found_before a b = key_before a.key b.key || (same_key a.key b.key && nat_lt a.token b.token)
