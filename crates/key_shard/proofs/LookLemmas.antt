-- What a get finds, by the row of the grid and the entry.
use Rattle.std.proofs.Common.{◌≡◌, ◌<◌, ◌≤◌, ◌+◌, ◌&&◌, ℕ, Bool, true, false, not, cond, List, [], ◌∷◌, map, find, filter, Option, Some, None}
use Rattle.std.proofs.Common.{option_map, nat_le, refl, sym, ap, ◌∙◌, arith}
use Rattle.std.specs.List.{list_all, list_any}
use Rattle.rows_model.specs.declared.keys.QKey.{QKey}
use Rattle.rows_model.specs.declared.keys.Sid.{Sid}
use Rattle.case_tables.specs.Compatibility.{Way, Holding, way_number, is_any, is_invalidate, is_refresh, others_row, row_from, row_of, read_verdict, verdict, read}
use Rattle.case_tables.specs.declared.grids.Verdict.{Verdict}
use Rattle.case_tables.specs.declared.grids.Verdict.TheVariants as verdicts
use Rattle.lease_table.specs.declared.records.Lease.{Lease}
use Rattle.lease_table.specs.declared.records.Quar.{Quar}
use Rattle.lease_table.specs.Leases as leases
use Rattle.lease_table.specs.Leases.{way_of, is_of, is_unexpired, holding_of}
use Rattle.lease_table.proofs.ListLemmas.{find-none, filter-not-all}
use Rattle.entry_table.specs.Entries.{Item}
use Rattle.key_shard.specs.declared.steps.Blocker.TheVariants.{I, Q}
use Rattle.key_shard.specs.declared.steps.Step.{Step}
use Rattle.key_shard.specs.declared.steps.Step.TheVariants.{Hit, Again, Own}
use Rattle.key_shard.specs.declared.lookups.Look.TheVariants as looks
use Rattle.key_shard.specs.Past.{Terms, standing, recorded, own_of, others_of, seen_by, entry}
use Rattle.key_shard.specs.Answers.{stands_of, miss_by, miss_step, found_step, get_by, get_step}
use Rattle.key_shard.specs.Kept.{Ties, IsLook, is_fresh}

-- the table of leases shows what the past does
pub holding-seen : {terms : Terms} {past : List Step} {list : List Item} {table : List Lease} {next : ℕ}
    → Ties terms past list table next → (key : QKey) (who : Sid) (now : ℕ) → leases.holding key who now table ≡ seen_by key who now past
holding-seen {past = past} {table = table} h key who now =
    ap (holding_of who now (leases.recorded key table)) (h.quars key) ∙ ap (λ reader. holding_of who now reader (standing key past)) (h.reads key)

-- the rows where the asker holds none
three : (a b : Bool) → (2 ≤ cond a 2 (cond b 3 4)) × (cond a 2 (cond b 3 4) < 5)
three true b = (omega arith, omega arith)
three false true = (omega arith, omega arith)
three false false = (omega arith, omega arith)

others-row : (w : Way) (ws : List Way) (reading : Bool) → (2 ≤ others_row (w ∷ ws) reading) × (others_row (w ∷ ws) reading < 5)
others-row w ws reading = three (list_all is_invalidate (w ∷ ws)) (list_any is_refresh (w ∷ ws))

others-below : (others : List Way) (reading : Bool) → others_row others reading < 5
others-below [] true = omega arith
others-below [] false = omega arith
others-below (w ∷ ws) reading = (others-row w ws reading).1

own-row : (terms : Terms) (past : List Step) (key : QKey) (who : Sid) (floor now : ℕ) (own : Option Quar) (others : List Way) (reading : Bool)
    → 5 ≤ row_from (option_map (λ quar. way_of quar.mode) own) others reading → get_by terms past key who floor now own ≡ Own key who
own-row terms past key who floor now (Some q) others reading h = refl
own-row terms past key who floor now None others reading h =
    let below : others_row others reading < 5 = others-below others reading in absurd (omega arith)

-- the rows where the asker holds one
own-high : (b : Bool) (n : ℕ) → 5 ≤ cond b 8 (5 + n)
own-high true n = omega arith
own-high false n = omega arith

none-own : (own : Option Quar) (others : List Way) (reading : Bool) → row_from (option_map (λ quar. way_of quar.mode) own) others reading < 5 → own ≡ None
none-own (Some q) others reading h =
    let high = own-high (is_invalidate (way_of q.mode) && is_any others) (way_number (way_of q.mode)) in absurd (omega (arith, high))
none-own None others reading h = refl

-- where the asker holds none: nothing stands, a lease to read, or quarantines
row-free : (others : List Way) (reading : Bool) → others_row others reading ≡ 0
    → read_verdict (record { own = None; others = others; reading = reading }) ≡ verdicts.Give
row-free [] true h = absurd (omega arith)
row-free [] false h = refl
row-free (w ∷ ws) reading h = let some = others-row w ws reading in absurd (omega (arith, some.0))

row-reads : (others : List Way) (reading : Bool) → others_row others reading ≡ 1
    → (read_verdict (record { own = None; others = others; reading = reading }) ≡ verdicts.Wait) × (others ≡ [])
row-reads [] true h = (refl, refl)
row-reads [] false h = absurd (omega arith)
row-reads (w ∷ ws) reading h = let some = others-row w ws reading in absurd (omega (arith, some.0))

row-quars : (others : List Way) (reading : Bool) → 2 ≤ others_row others reading
    → (read_verdict (record { own = None; others = others; reading = reading }) ≡ verdicts.Wait) × (others ≡ [] → ⊥)
row-quars [] true h = absurd (omega arith)
row-quars [] false h = absurd (omega arith)
row-quars (w ∷ ws) reading h = (refl, λ e. cc)

map-empty : {X Y : Type 0} (f : X → Y) (xs : List X) → map f xs ≡ [] → xs ≡ []
map-empty f [] e = refl
map-empty f (x ∷ xs) e = cc

-- no other's quarantine and none of one's own is none at all
none-stands : (who : Sid) (quars : List Quar) → find (is_of who) quars ≡ None
    → map (λ quar. way_of quar.mode) (filter (λ quar. not (is_of who quar)) quars) ≡ [] → quars ≡ []
none-stands who quars none others =
    sym (filter-not-all (is_of who) quars (find-none (is_of who) quars none))
    ∙ map-empty (λ quar. way_of quar.mode) (filter (λ quar. not (is_of who quar)) quars) others

some-stands : (quars : List Quar) → (quars ≡ [] → ⊥) → stands_of quars ≡ Q
some-stands [] h = absurd (h refl)
some-stands (q ∷ qs) h = refl

-- an entry that is fresh is hit, and any other missed
found-fresh : (terms : Terms) (past : List Step) (key : QKey) (who : Sid) (floor now : ℕ) (o : Option (List ℕ × ℕ))
    → is_fresh floor o ≡ true → (found : List ℕ × ℕ) × (o ≡ Some found) × (found_step terms past key who floor now o ≡ Hit key who floor found.0 found.1)
found-fresh terms past key who floor now None h = cc
found-fresh terms past key who floor now (Some f) h = (f, refl, ap (λ b. cond b (Hit key who floor f.0 f.1) (miss_step terms past key who floor now)) h)

found-missed : (terms : Terms) (past : List Step) (key : QKey) (who : Sid) (floor now : ℕ) (o : Option (List ℕ × ℕ))
    → is_fresh floor o ≡ false → found_step terms past key who floor now o ≡ miss_step terms past key who floor now
found-missed terms past key who floor now None h = refl
found-missed terms past key who floor now (Some f) h = ap (λ b. cond b (Hit key who floor f.0 f.1) (miss_step terms past key who floor now)) h

-- the verdict on a request to read where the asker holds none
seen-free : (key : QKey) (who : Sid) (now : ℕ) (past : List Step) → own_of key who past ≡ None → seen_by key who now past
    ≡ record { own = None; others = map (λ quar. way_of quar.mode) (others_of key who past); reading = is_unexpired now (recorded key past) }
seen-free key who now past none =
    let f : Option Quar → Holding = λ own. record {
      own = option_map (λ quar. way_of quar.mode) own;
      others = map (λ quar. way_of quar.mode) (others_of key who past);
      reading = is_unexpired now (recorded key past);
    } in
    ap f none

pub look-Own : (terms : Terms) (past : List Step) (key : QKey) (who : Sid) (floor now row : ℕ)
    → row ≡ row_of (seen_by key who now past) → 5 ≤ row → IsLook terms past key who floor now looks.Own
look-Own terms past key who floor now row e own =
    own-row terms past key who floor now (own_of key who past) (map (λ quar. way_of quar.mode) (others_of key who past))
    (is_unexpired now (recorded key past)) (omega (arith, own, e))

is-none : (past : List Step) (key : QKey) (who : Sid) (now row : ℕ) → row ≡ row_of (seen_by key who now past) → row < 5 → own_of key who past ≡ None
is-none past key who now row e free =
    none-own (own_of key who past) (map (λ quar. way_of quar.mode) (others_of key who past)) (is_unexpired now (recorded key past)) (omega (arith, free, e))

pub look-Found : (terms : Terms) (past : List Step) (key : QKey) (who : Sid) (floor now row : ℕ)
    → row ≡ row_of (seen_by key who now past) → row < 5 → is_fresh floor (entry key past) ≡ true → IsLook terms past key who floor now looks.Found
look-Found terms past key who floor now row e free fresh =
    let none = is-none past key who now row e free in
    let hit = found-fresh terms past key who floor now (entry key past) fresh in
    (hit.0, hit.1, ap (get_by terms past key who floor now) none ∙ hit.2)

-- a get that misses, by the verdict
missed-by : (terms : Terms) (past : List Step) (key : QKey) (who : Sid) (floor now : ℕ) (v : Verdict) → own_of key who past ≡ None
    → is_fresh floor (entry key past) ≡ false → verdict (seen_by key who now past) read ≡ v
    → get_step terms past key who floor now ≡ miss_by terms past key who floor now v
missed-by terms past key who floor now v none missed e =
    ap (get_by terms past key who floor now) none ∙ found-missed terms past key who floor now (entry key past) missed
    ∙ ap (miss_by terms past key who floor now) e

row-none : (past : List Step) (key : QKey) (who : Sid) (now : ℕ) → own_of key who past ≡ None
    → row_of (seen_by key who now past) ≡ others_row (map (λ quar. way_of quar.mode) (others_of key who past)) (is_unexpired now (recorded key past))
row-none past key who now none = ap row_of (seen-free key who now past none)

pub look-Free : (terms : Terms) (past : List Step) (key : QKey) (who : Sid) (floor now row : ℕ)
    → row ≡ row_of (seen_by key who now past) → row ≡ 0 → is_fresh floor (entry key past) ≡ false → IsLook terms past key who floor now looks.Free
look-Free terms past key who floor now row e zero missed =
    let none = is-none past key who now row e (omega arith) in
    let given : verdict (seen_by key who now past) read ≡ verdicts.Give = ap read_verdict (seen-free key who now past none)
    ∙ row-free (map (λ quar. way_of quar.mode) (others_of key who past))
    (is_unexpired now (recorded key past)) (sym (row-none past key who now none) ∙ sym e ∙ zero) in
    (given, missed-by terms past key who floor now verdicts.Give none missed given)

pub look-Reads : (terms : Terms) (past : List Step) (key : QKey) (who : Sid) (floor now row : ℕ)
    → row ≡ row_of (seen_by key who now past) → row ≡ 1 → is_fresh floor (entry key past) ≡ false → IsLook terms past key who floor now (looks.Waits I)
look-Reads terms past key who floor now row e one missed =
    let none = is-none past key who now row e (omega arith) in
    let reads = row-reads (map (λ quar. way_of quar.mode) (others_of key who past))
    (is_unexpired now (recorded key past)) (sym (row-none past key who now none) ∙ sym e ∙ one) in
    let waits : verdict (seen_by key who now past) read ≡ verdicts.Wait = ap read_verdict (seen-free key who now past none) ∙ reads.0 in
    missed-by terms past key who floor now verdicts.Wait none missed waits
    ∙ ap (λ quars. Again key who floor now (stands_of quars)) (none-stands who (standing key past) none reads.1)

pub look-Quars : (terms : Terms) (past : List Step) (key : QKey) (who : Sid) (floor now row : ℕ)
    → row ≡ row_of (seen_by key who now past) → 2 ≤ row → row < 5
    → is_fresh floor (entry key past) ≡ false → IsLook terms past key who floor now (looks.Waits Q)
look-Quars terms past key who floor now row e some free missed =
    let none = is-none past key who now row e free in
    let by_row = row-none past key who now none in
    let quars = row-quars (map (λ quar. way_of quar.mode) (others_of key who past)) (is_unexpired now (recorded key past)) (omega (arith, by_row, e, some)) in
    let waits : verdict (seen_by key who now past) read ≡ verdicts.Wait = ap read_verdict (seen-free key who now past none) ∙ quars.0 in
    missed-by terms past key who floor now verdicts.Wait none missed waits
    ∙ ap (Again key who floor now)
    (some-stands (standing key past) (λ nothing. quars.1 (ap (λ qs. map (λ quar. way_of quar.mode) (filter (λ quar. not (is_of who quar)) qs)) nothing)))

-- a hit is one at any time
module _ (terms : Terms) (past : List Step) (key : QKey) (who : Sid) (floor n m : ℕ) (value : List ℕ) (stamp : ℕ) where
  abbrev hit : Step
  hit = Hit key who floor value stamp

  by-verdict : (v : Verdict) → miss_by terms past key who floor n v ≡ hit → miss_step terms past key who floor m ≡ hit
  by-verdict verdicts.Give e = cc
  by-verdict verdicts.Wait e = cc
  by-verdict verdicts.Own e = cc
  by-verdict verdicts.Void e = cc
  by-verdict verdicts.Join e = cc
  by-verdict verdicts.Same e = cc
  by-verdict verdicts.Refuse e = cc
  by-verdict verdicts.Raise e = cc
  by-verdict verdicts.Gone e = cc

  by-found : (o : Option (List ℕ × ℕ)) → found_step terms past key who floor n o ≡ hit → found_step terms past key who floor m o ≡ hit
  by-found None e = by-verdict (verdict (seen_by key who n past) read) e
  by-found (Some f) e = by-fresh (nat_le floor f.1) e
    where
      by-fresh : (b : Bool) → cond b (Hit key who floor f.0 f.1) (miss_step terms past key who floor n) ≡ hit
          → cond b (Hit key who floor f.0 f.1) (miss_step terms past key who floor m) ≡ hit
      by-fresh true k = k
      by-fresh false k = by-verdict (verdict (seen_by key who n past) read) k

  by-own : (own : Option Quar) → get_by terms past key who floor n own ≡ hit → get_by terms past key who floor m own ≡ hit
  by-own (Some q) e = cc
  by-own None e = by-found (entry key past) e

  pub hit-at-any-time : get_step terms past key who floor n ≡ hit → get_step terms past key who floor m ≡ hit
  hit-at-any-time e = by-own (own_of key who past) e
