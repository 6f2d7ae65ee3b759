-- Each kind of step keeps what a shard holds tied to its past.
use Rattle.std.proofs.Common.{◌≡◌, ◌<◌, ◌+◌, ℕ, true, not, cond, List, [], ◌∷◌, ◌++◌, map, filter, Option, Some, None, is_some, refl, sym, ap}
use Rattle.std.proofs.Common.{subst, ◌∙◌, inl, inr, arith, ltb, length}
use Rattle.std.specs.List.{All, count_by}
use Rattle.std.specs.Prelude.{ℤ}
use Rattle.std.proofs.lemmas.Bool.{cases_Bool, cond_both}
use Rattle.std.proofs.lemmas.List.Elements.{All-append, All-cons, All-filter, All-nil, All-weaker}
use Rattle.std.proofs.lemmas.List.Sums.{sum_by-cons}
use Rattle.rows_model.specs.declared.keys.QKey.{QKey}
use Rattle.rows_model.specs.declared.keys.Sid.{Sid}
use Rattle.rows_model.specs.Key.{same_key}
use Rattle.rows_model.proofs.SameKey.{same_key-true, same_key-swap}
use Rattle.lease_table.specs.declared.records.Lease.{Lease}
use Rattle.lease_table.specs.declared.records.Quar.{Quar}
use Rattle.lease_table.specs.declared.records.ReadLease.{ReadLease}
use Rattle.lease_table.specs.Leases as leases
use Rattle.lease_table.specs.Leases.{Leaves, has_token, raised, renewed}
use Rattle.lease_table.specs.declared.records.Mode.{Mode}
use Rattle.entry_table.specs.Entries.{Item, Table, IsSound, lookup, without, keys, promoted}
use Rattle.entry_table.proofs.EntriesLemmas.{keys-cons, lookup-without, lookup-promoted, promoted-absent, promoted-found, IsSound-without, IsSound-promoted}
use Rattle.key_shard.specs.declared.steps.Blocker.{Blocker}
use Rattle.key_shard.specs.declared.steps.Ended.{Ended}
use Rattle.key_shard.specs.declared.steps.Ended.TheVariants as ended
use Rattle.key_shard.specs.declared.steps.Step.{Step}
use Rattle.key_shard.specs.declared.steps.Step.TheVariants.{Hit, Lease as StepLease, Again, Own, Stored, Void, Granted, Held, Refused, Released, Gone, Raised, Shared, Renewed}
use Rattle.key_shard.specs.Past.{Terms, standing, recorded, entry, entry_ended, order, evicts, is_evicted, last_key, draws}
use Rattle.key_shard.specs.Answers.{Answers}
use Rattle.key_shard.specs.Kept.{Ties, Puts, Ends, PutsNone, IsQuiet, makes_room}
use Rattle.key_shard.proofs.OrderLemmas.{order-hit, order-missed, order-put, entry-ended, order-ended}
use Rattle.key_shard.proofs.PutLemmas.{keys-without_key}
use Rattle.key_shard.proofs.RaiseLemmas.{All-mapped, raised-same, renewed-same}

-- the tokens are below a later number too
below-later : (next : ℕ) (quars : List Quar) → All (λ quar. quar.token < next) quars → All (λ quar. quar.token < next + 1) quars
below-later next quars h = All-weaker (λ quar. quar.token < next) (λ quar. quar.token < next + 1) (λ quar lt. omega arith) quars h

-- what a change on one key leaves on each
pub quars-after : (key : QKey) (reader : Option ReadLease) (standing : List Quar) (old new : List Lease)
    → Leaves key reader standing old new → (k : QKey) → leases.quars k new ≡ cond (same_key k key) standing (leases.quars k old)
quars-after key reader standing old new h k =
    elim (cases_Bool (same_key key k)) [
      | inl same ↦ ap (λ x. leases.quars x new) (sym (same_key-true key k same))
          ∙ h.on_quars ∙ sym (ap (λ b. cond b standing (leases.quars k old)) (same_key-swap k key ∙ same))
      | inr apart ↦ (h.elsewhere k apart).same_quars ∙ sym (ap (λ b. cond b standing (leases.quars k old)) (same_key-swap k key ∙ apart))
    ]

pub reads-after : (key : QKey) (reader : Option ReadLease) (standing : List Quar) (old new : List Lease)
    → Leaves key reader standing old new → (k : QKey) → leases.recorded k new ≡ cond (same_key k key) reader (leases.recorded k old)
reads-after key reader standing old new h k =
    elim (cases_Bool (same_key key k)) [
      | inl same ↦ ap (λ x. leases.recorded x new) (sym (same_key-true key k same))
          ∙ h.on_reader ∙ sym (ap (λ b. cond b reader (leases.recorded k old)) (same_key-swap k key ∙ same))
      | inr apart ↦ (h.elsewhere k apart).same_reader ∙ sym (ap (λ b. cond b reader (leases.recorded k old)) (same_key-swap k key ∙ apart))
    ]

-- a choice of the same of both
one_choice : {X : Type 0} (f : QKey → X) (key k : QKey) → cond (same_key k key) (f key) (f k) ≡ f k
one_choice f key k =
    elim (cases_Bool (same_key k key)) [
      | inl same ↦ ap (λ b. cond b (f key) (f k)) same ∙ sym (ap f (same_key-true k key same))
      | inr apart ↦ ap (λ b. cond b (f key) (f k)) apart
    ]

-- the quarantines stay where a change keeps those of its key
pub quars-kept : {terms : Terms} {past : List Step} {list : List Item} {table : List Lease} {next : ℕ} → Ties terms past list table next
    → (key : QKey) (reader : Option ReadLease) (new : List Lease)
    → Leaves key reader (leases.quars key table) table new → (k : QKey) → leases.quars k new ≡ standing k past
quars-kept {table = table} h key reader new leaves k =
    quars-after key reader (leases.quars key table) table new leaves k ∙ one_choice (λ x. leases.quars x table) key k ∙ h.quars k

pub reads-set : {terms : Terms} {past : List Step} {list : List Item} {table : List Lease} {next : ℕ} → Ties terms past list table next
    → (key : QKey) (reader : Option ReadLease) (quars : List Quar) (new : List Lease)
    → Leaves key reader quars table new → (k : QKey) → leases.recorded k new ≡ cond (same_key k key) reader (recorded k past)
reads-set {table = table} h key reader quars new leaves k =
    reads-after key reader quars table new leaves k ∙ ap (cond (same_key k key) reader) (h.reads k)

pub Ties-quiet : (terms : Terms) (past : List Step) (list : List Item) (table : List Lease) (next : ℕ) (step : Step)
    → IsQuiet step → Answers terms past step → Ties terms past list table next → Ties terms (step ∷ past) list table next
Ties-quiet terms past list table next (Hit key sid floor value stamp) quiet a h = absurd quiet
Ties-quiet terms past list table next (StepLease key sid floor now token deadline) quiet a h = absurd quiet
Ties-quiet terms past list table next (Again key sid floor now stands) quiet a h = absurd quiet
Ties-quiet terms past list table next (Stored key token now value stamp evicted) quiet a h = absurd quiet
Ties-quiet terms past list table next (Granted key sid mode shift now token deadline) quiet a h = absurd quiet
Ties-quiet terms past list table next (Released key sid token how) quiet a h = absurd quiet
Ties-quiet terms past list table next (Raised key sid token) quiet a h = absurd quiet
Ties-quiet terms past list table next (Renewed key sid token now deadline) quiet a h = absurd quiet
Ties-quiet terms past list table next (Shared key sid token holder) quiet a h =
    record {
      entries = h.entries;
      in_order = h.in_order;
      sound = h.sound;
      quars = h.quars;
      reads = h.reads;
      counted = omega (arith, h.counted);
      below = h.below;
      legal = (a, h.legal);
    }
Ties-quiet terms past list table next (Own key sid) quiet a h =
    record {
      entries = h.entries;
      in_order = h.in_order;
      sound = h.sound;
      quars = h.quars;
      reads = h.reads;
      counted = omega (arith, h.counted);
      below = h.below;
      legal = (a, h.legal);
    }
Ties-quiet terms past list table next (Void key token now) quiet a h = absurd quiet
Ties-quiet terms past list table next (Held key sid mode) quiet a h =
    record {
      entries = h.entries;
      in_order = h.in_order;
      sound = h.sound;
      quars = h.quars;
      reads = h.reads;
      counted = omega (arith, h.counted);
      below = h.below;
      legal = (a, h.legal);
    }
Ties-quiet terms past list table next (Refused key sid mode holder held) quiet a h =
    record {
      entries = h.entries;
      in_order = h.in_order;
      sound = h.sound;
      quars = h.quars;
      reads = h.reads;
      counted = omega (arith, h.counted);
      below = h.below;
      legal = (a, h.legal);
    }
Ties-quiet terms past list table next (Gone key sid token) quiet a h =
    record {
      entries = h.entries;
      in_order = h.in_order;
      sound = h.sound;
      quars = h.quars;
      reads = h.reads;
      counted = omega (arith, h.counted);
      below = h.below;
      legal = (a, h.legal);
    }

some-from : {X : Type 0} (o : Option X) (x : X) → o ≡ Some x → is_some o ≡ true
some-from o x e = ap is_some e

pub Ties-hit : (terms : Terms) (past : List Step) (list : List Item) (table : List Lease) (next : ℕ) (key : QKey) (sid : Sid) (floor : ℕ) (found : List ℕ × ℕ)
    → entry key past ≡ Some found → Answers terms past (Hit key sid floor found.0 found.1) → Ties terms past list table next
    → Ties terms (Hit key sid floor found.0 found.1 ∷ past) (promoted key (record { room = terms.room; list = list })).list table next
Ties-hit terms past list table next key sid floor found there a h =
    let t : Table = record { room = terms.room; list = list } in
    let here : lookup key list ≡ Some (found.0, found.1) = h.entries key ∙ there in
    record {
      entries = λ k. lookup-promoted key k t ∙ h.entries k;
      in_order = ap (λ (u : Table). keys u.list) (promoted-found key t found.0 found.1 here) ∙ keys-cons (key, found.0, found.1) (without key list)
          ∙ ap (λ ks. key ∷ ks) (keys-without_key key list ∙ ap (filter (λ other. not (same_key key other))) h.in_order)
          ∙ sym (order-hit past key sid floor found.0 found.1 (some-from (entry key past) found there));
      sound = subst (λ (u : Table). IsSound (record { room = terms.room; list = u.list }))
          (sym (promoted-found key t found.0 found.1 here)) (subst IsSound (promoted-found key t found.0 found.1 here) (IsSound-promoted key t h.sound));
      quars = h.quars;
      reads = h.reads;
      counted = omega (arith, h.counted);
      below = h.below;
      legal = (a, h.legal);
    }

-- the entries less that of a key
entries-less : {terms : Terms} {past : List Step} {list : List Item} {table : List Lease} {next : ℕ}
    → Ties terms past list table next → (key k : QKey) → lookup k (without key list) ≡ cond (same_key k key) None (entry k past)
entries-less {list = list} h key k =
    lookup-without key k list ∙ ap (λ b. cond b None (lookup k list)) (same_key-swap key k) ∙ ap (cond (same_key k key) None) (h.entries k)

order-less : {terms : Terms} {past : List Step} {list : List Item} {table : List Lease} {next : ℕ}
    → Ties terms past list table next → (key : QKey) → keys (without key list) ≡ filter (λ other. not (same_key key other)) (order past)
order-less {list = list} h key =
    keys-without_key key list ∙ ap (filter (λ other. not (same_key key other))) h.in_order

pub Ties-again : (terms : Terms) (past : List Step) (list : List Item) (table : List Lease) (next : ℕ) (key : QKey) (sid : Sid) (floor now : ℕ)
    (stands : Blocker) → Answers terms past (Again key sid floor now stands)
    → Ties terms past list table next → Ties terms (Again key sid floor now stands ∷ past) (without key list) table next
Ties-again terms past list table next key sid floor now stands a h = record {
  entries = entries-less h key;
  in_order = order-less h key ∙ sym (order-missed past key);
  sound = IsSound-without key terms.room list h.sound;
  quars = h.quars;
  reads = h.reads;
  counted = omega (arith, h.counted);
  below = h.below;
  legal = (a, h.legal);
}

pub Ties-lease : (terms : Terms) (past : List Step) (list : List Item) (table new : List Lease) (next : ℕ) (key : QKey) (sid : Sid)
    (floor now token deadline : ℕ) → Leaves key (Some (record { sid = sid; token = token; deadline = deadline })) (leases.quars key table) table new
    → Answers terms past (StepLease key sid floor now token deadline)
    → Ties terms past list table next → Ties terms (StepLease key sid floor now token deadline ∷ past) (without key list) new (next + 1)
Ties-lease terms past list table new next key sid floor now token deadline leaves a h =
    let reader : Option ReadLease = Some (record { sid = sid; token = token; deadline = deadline }) in
    let one_more : count_by draws (StepLease key sid floor now token deadline ∷ past) ≡ 1 + count_by draws past =
    sum_by-cons (λ step. cond (draws step) 1 0) (StepLease key sid floor now token deadline) past in
    record {
      entries = entries-less h key;
      in_order = order-less h key ∙ sym (order-missed past key);
      sound = IsSound-without key terms.room list h.sound;
      quars = quars-kept h key reader new leaves;
      reads = reads-set h key reader (leases.quars key table) new leaves;
      counted = omega (arith, h.counted, one_more);
      below = λ k. below-later next (standing k past) (h.below k);
      legal = (a, h.legal);
    }

-- which key makes room, as the past tells it
pub evicts-room : {terms : Terms} {past : List Step} {list : List Item} {table : List Lease} {next : ℕ}
    → Ties terms past list table next → (key : QKey) → makes_room terms.room key list ≡ evicts terms key past
evicts-room {terms = terms} {past = past} {list = list} h key =
    ap (λ o. cond (is_some o) None (cond (ltb (length (keys list)) terms.room) None (last_key (keys list)))) (h.entries key)
    ∙ ap (λ ks. cond (is_some (entry key past)) None (cond (ltb (length ks) terms.room) None (last_key ks))) h.in_order

entries-put : {terms : Terms} {past : List Step} {list : List Item} {table : List Lease} {next : ℕ} → Ties terms past list table next
    → (key : QKey) (value : List ℕ) (stamp : ℕ) (evicted : Option QKey) (new : Table)
    → Puts key value stamp evicted (record { room = terms.room; list = list }) new
    → (k : QKey) → lookup k new.list ≡ cond (same_key k key) (Some (value, stamp)) (cond (is_evicted k evicted) None (entry k past))
entries-put h key value stamp evicted new puts k =
    puts.entries k ∙ ap (λ o. cond (same_key k key) (Some (value, stamp)) (cond (is_evicted k evicted) None o)) (h.entries k)

orders-put : {terms : Terms} {past : List Step} {list : List Item} {table : List Lease} {next : ℕ} → Ties terms past list table next
    → (key : QKey) (value : List ℕ) (stamp : ℕ) (evicted : Option QKey) (new : Table)
    → Puts key value stamp evicted (record { room = terms.room; list = list }) new
    → keys new.list ≡ key ∷ filter (λ other. not (is_evicted other evicted)) (filter (λ other. not (same_key key other)) (order past))
orders-put h key value stamp evicted new puts =
    puts.in_order ∙ ap (λ ks. key ∷ filter (λ other. not (is_evicted other evicted)) (filter (λ other. not (same_key key other)) ks)) h.in_order

sound-put : (room : ℕ) (new : Table) → new.room ≡ room → IsSound new → IsSound (record { room = room; list = new.list })
sound-put room new e sound = subst (λ r. IsSound (record { room = r; list = new.list })) e sound

pub Ties-stored : (terms : Terms) (past : List Step) (list : List Item) (table new : List Lease) (next : ℕ) (key : QKey) (token now : ℕ) (value : List ℕ)
    (stamp : ℕ) (evicted : Option QKey) (put : Table) → Puts key value stamp evicted (record { room = terms.room; list = list }) put
    → Leaves key None (leases.quars key table) table new → Answers terms past (Stored key token now value stamp evicted)
    → Ties terms past list table next → Ties terms (Stored key token now value stamp evicted ∷ past) put.list new next
Ties-stored terms past list table new next key token now value stamp evicted put puts leaves a h = record {
  entries = entries-put h key value stamp evicted put puts;
  in_order = orders-put h key value stamp evicted put puts ∙ sym (order-put past key value stamp evicted);
  sound = sound-put terms.room put puts.same_room puts.sound;
  quars = quars-kept h key None new leaves;
  reads = reads-set h key None (leases.quars key table) new leaves;
  counted = omega (arith, h.counted);
  below = h.below;
  legal = (a, h.legal);
}

room-by : (o : Option (List ℕ × ℕ)) (key : QKey) (t : Table) → lookup key t.list ≡ o → (promoted key t).room ≡ t.room
room-by None key t e = ap (λ (u : Table). u.room) (promoted-absent key t e)
room-by (Some f) key t e = ap (λ (u : Table). u.room) (promoted-found key t f.0 f.1 e)

-- bringing an entry to the front leaves the room
pub room-promoted : (key : QKey) (t : Table) → (promoted key t).room ≡ t.room
room-promoted key t = room-by (lookup key t.list) key t refl

-- a change of the quarantines of one key, as the past tells it
quars-by : {terms : Terms} {past : List Step} {list : List Item} {table : List Lease} {next : ℕ} → Ties terms past list table next
    → (key : QKey) (reader : Option ReadLease) (change : List Quar → List Quar) (new : List Lease)
    → Leaves key reader (change (leases.quars key table)) table new
    → (k : QKey) → leases.quars k new ≡ cond (same_key k key) (change (standing k past)) (standing k past)
quars-by {past = past} {table = table} h key reader change new leaves k =
    quars-after key reader (change (leases.quars key table)) table new leaves k ∙ here ∙ ap (λ qs. cond (same_key k key) (change qs) qs) (h.quars k)
  where
    here : cond (same_key k key) (change (leases.quars key table)) (leases.quars k table)
        ≡ cond (same_key k key) (change (leases.quars k table)) (leases.quars k table)
    here =
        elim (cases_Bool (same_key k key)) [
          | inl same ↦ ap (λ x. cond (same_key k key) (change (leases.quars x table)) (leases.quars k table)) (sym (same_key-true k key same))
          | inr apart ↦ ap (λ b. cond b (change (leases.quars key table)) (leases.quars k table)) apart
              ∙ sym (ap (λ b. cond b (change (leases.quars k table)) (leases.quars k table)) apart)
        ]

below-one : (next : ℕ) (quars : List Quar) (quar : Quar) → quar.token ≡ next
    → All (λ q. q.token < next) quars → All (λ q. q.token < next + 1) (quars ++ quar ∷ [])
below-one next quars quar e h =
    let here : quar.token < next + 1 = omega arith in
    All-append (λ q. q.token < next + 1) quars (quar ∷ []) (below-later next quars h)
    (All-cons (λ q. q.token < next + 1) quar [] here (All-nil (λ q. q.token < next + 1)))

pub Ties-granted : (terms : Terms) (past : List Step) (list : List Item) (table new : List Lease) (next : ℕ) (key : QKey) (sid : Sid) (mode : Mode) (shift : ℤ)
    (now token deadline : ℕ) → token ≡ next
    → Leaves key None (leases.quars key table ++ record { sid = sid; mode = mode; token = token; deadline = deadline; shift = shift } ∷ []) table new
    → Answers terms past (Granted key sid mode shift now token deadline)
    → Ties terms past list table next → Ties terms (Granted key sid mode shift now token deadline ∷ past) list new (next + 1)
Ties-granted terms past list table new next key sid mode shift now token deadline drawn leaves a h =
    let quar : Quar = record { sid = sid; mode = mode; token = token; deadline = deadline; shift = shift } in
    let one_more : count_by draws (Granted key sid mode shift now token deadline ∷ past) ≡ 1 + count_by draws past =
    sum_by-cons (λ step. cond (draws step) 1 0) (Granted key sid mode shift now token deadline) past in
    record {
      entries = h.entries;
      in_order = h.in_order;
      sound = h.sound;
      quars = quars-by h key None (λ quars. quars ++ quar ∷ []) new leaves;
      reads = reads-set h key None (leases.quars key table ++ quar ∷ []) new leaves;
      counted = omega (arith, h.counted, one_more);
      below = λ k. cond_both (same_key k key) (standing k past ++ quar ∷ []) (standing k past)
          (All (λ q. q.token < next + 1)) (λ _. below-one next (standing k past) quar drawn (h.below k)) (λ _. below-later next (standing k past) (h.below k));
      legal = (a, h.legal);
    }

-- a change of one key's quarantines that leaves its lease to read
reads-stay : {terms : Terms} {past : List Step} {list : List Item} {table : List Lease} {next : ℕ} → Ties terms past list table next
    → (key : QKey) (quars : List Quar) (new : List Lease) → Leaves key (leases.recorded key table) quars table new
    → (k : QKey) → leases.recorded k new ≡ recorded k past
reads-stay {table = table} h key quars new leaves k =
    reads-after key (leases.recorded key table) quars table new leaves k ∙ one_choice (λ x. leases.recorded x table) key k ∙ h.reads k

-- what the quarantine of a token leaves
pub Ties-released : (terms : Terms) (past : List Step) (list : List Item) (table new : List Lease) (next : ℕ) (key : QKey) (sid : Sid) (token : ℕ) (how : Ended)
    (put : List Item) → ((k : QKey) → lookup k put ≡ entry k (Released key sid token how ∷ past)) → keys put ≡ order (Released key sid token how ∷ past)
    → IsSound (record { room = terms.room; list = put })
    → Leaves key (leases.recorded key table) (filter (λ quar. not (has_token token quar)) (leases.quars key table)) table new
    → Answers terms past (Released key sid token how) → Ties terms past list table next → Ties terms (Released key sid token how ∷ past) put new next
Ties-released terms past list table new next key sid token how put entries in_order sound leaves a h = record {
  entries = entries;
  in_order = in_order;
  sound = sound;
  quars = quars-by h key (leases.recorded key table) (filter (λ quar. not (has_token token quar))) new leaves;
  reads = reads-stay h key (filter (λ quar. not (has_token token quar)) (leases.quars key table)) new leaves;
  counted = omega (arith, h.counted);
  below = λ k. cond_both (same_key k key) (filter (λ quar. not (has_token token quar)) (standing k past)) (standing k past)
      (All (λ q. q.token < next)) (λ _. All-filter (λ quar. not (has_token token quar)) (λ q. q.token < next) (standing k past) (h.below k)) (λ _. h.below k);
  legal = (a, h.legal);
}

-- what a raise leaves, and a renewal
pub Ties-raised : (terms : Terms) (past : List Step) (list : List Item) (table new : List Lease) (next : ℕ) (key : QKey) (sid : Sid) (token : ℕ)
    → Leaves key (leases.recorded key table) (map (raised token) (leases.quars key table)) table new
    → Answers terms past (Raised key sid token) → Ties terms past list table next → Ties terms (Raised key sid token ∷ past) list new next
Ties-raised terms past list table new next key sid token leaves a h = record {
  entries = h.entries;
  in_order = h.in_order;
  sound = h.sound;
  quars = quars-by h key (leases.recorded key table) (map (raised token)) new leaves;
  reads = reads-stay h key (map (raised token) (leases.quars key table)) new leaves;
  counted = omega (arith, h.counted);
  below = λ k. cond_both (same_key k key) (map (raised token) (standing k past)) (standing k past) (All (λ q. q.token < next))
      (λ _. All-mapped (λ q. q.token < next) (λ q. q.token < next) (raised token)
      (λ q low. subst (λ n. n < next) (sym (raised-same (λ r. r.token) token q refl)) low) (standing k past) (h.below k)) (λ _. h.below k);
  legal = (a, h.legal);
}

pub Ties-renewed : (terms : Terms) (past : List Step) (list : List Item) (table new : List Lease) (next : ℕ) (key : QKey) (sid : Sid)
    (token now deadline : ℕ) → Leaves key (leases.recorded key table) (map (renewed token deadline) (leases.quars key table)) table new
    → Answers terms past (Renewed key sid token now deadline)
    → Ties terms past list table next → Ties terms (Renewed key sid token now deadline ∷ past) list new next
Ties-renewed terms past list table new next key sid token now deadline leaves a h = record {
  entries = h.entries;
  in_order = h.in_order;
  sound = h.sound;
  quars = quars-by h key (leases.recorded key table) (map (renewed token deadline)) new leaves;
  reads = reads-stay h key (map (renewed token deadline) (leases.quars key table)) new leaves;
  counted = omega (arith, h.counted);
  below = λ k. cond_both (same_key k key) (map (renewed token deadline) (standing k past)) (standing k past) (All (λ q. q.token < next))
      (λ _. All-mapped (λ q. q.token < next) (λ q. q.token < next) (renewed token deadline)
      (λ q low. subst (λ n. n < next) (sym (renewed-same (λ r. r.token) token deadline q refl)) low) (standing k past) (h.below k)) (λ _. h.below k);
  legal = (a, h.legal);
}

pub Ties-put : (terms : Terms) (past : List Step) (list : List Item) (table new : List Lease) (next : ℕ) (key : QKey) (sid : Sid) (token : ℕ) (value : List ℕ)
    (stamp : ℕ) (evicted : Option QKey) (put : Table) → Puts key value stamp evicted (record { room = terms.room; list = list }) put
    → Leaves key (leases.recorded key table) (filter (λ quar. not (has_token token quar)) (leases.quars key table)) table new
    → Answers terms past (Released key sid token (ended.Put value stamp evicted))
    → Ties terms past list table next → Ties terms (Released key sid token (ended.Put value stamp evicted) ∷ past) put.list new next
Ties-put terms past list table new next key sid token value stamp evicted put puts leaves a h =
    Ties-released terms past list table new next key sid token (ended.Put value stamp evicted) put.list (entries-put h key value stamp evicted put puts)
    (orders-put h key value stamp evicted put puts ∙ sym (order-put past key value stamp evicted))
    (sound-put terms.room put puts.same_room puts.sound) leaves a h

pub Ties-ended : (terms : Terms) (past : List Step) (list : List Item) (table new : List Lease) (next : ℕ) (key : QKey) (sid : Sid) (token : ℕ) (how : Ended)
    (put : Table) → PutsNone how → Ends key how (record { room = terms.room; list = list }) put
    → Leaves key (leases.recorded key table) (filter (λ quar. not (has_token token quar)) (leases.quars key table)) table new
    → Answers terms past (Released key sid token how) → Ties terms past list table next → Ties terms (Released key sid token how ∷ past) put.list new next
Ties-ended terms past list table new next key sid token how put none ends leaves a h =
    let entries : (k : QKey) → lookup k put.list ≡ cond (same_key k key) (entry_ended how (entry k past)) (entry k past) =
    λ k. ends.entries k ∙ ap (λ o. cond (same_key k key) (entry_ended how o) o) (h.entries k) in
    let in_order : keys put.list ≡ cond (is_some (entry_ended how (entry key past))) (order past) (filter (λ other. not (same_key key other)) (order past)) =
    ends.in_order ∙ ap (λ o. cond (is_some (entry_ended how o)) (keys list) (filter (λ other. not (same_key key other)) (keys list))) (h.entries key)
    ∙ ap (λ ks. cond (is_some (entry_ended how (entry key past))) ks (filter (λ other. not (same_key key other)) ks)) h.in_order in
    Ties-released terms past list table new next key sid token how put.list (λ k. entries k ∙ sym (entry-ended past key k sid token how none)) (in_order
    ∙ sym (order-ended past key sid token how none)) (sound-put terms.room put ends.same_room ends.sound) leaves a h
