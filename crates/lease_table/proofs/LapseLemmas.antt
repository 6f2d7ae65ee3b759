-- That each lease to read has its entry, as leases come and go, and what the first entry says.
use Rattle.std.proofs.Common.{◌≡◌, ℕ, ◌<◌, ◌≤◌, Bool, true, false, not, cond, Option, Some, None, List, [], ◌∷◌, refl, sym, ap, ◌∙◌, arith, IfSome, subst}
use Rattle.std.specs.Prelude.{◌==◌, ◌&&◌, ◌||◌}
use Rattle.std.specs.List.{list_any}
use Rattle.std.specs.BTreeMap.{BTreeMap, IsOrdered}
use Rattle.std.proofs.lemmas.Bool.{eqb-true, eq-eqb, and_parts, and_from, false≢true}
use Rattle.rows_model.specs.declared.keys.QKey.{QKey}
use Rattle.rows_model.specs.Key.{same_key}
use Rattle.rows_model.proofs.SameKey.{same_key-true}
use Rattle.lease_table.specs.declared.lapses.Lapses.{Lapses}
use Rattle.lease_table.specs.declared.records.KeyLeases.{KeyLeases}
use Rattle.lease_table.specs.declared.records.KeyLeases.TheVariants.{Read, Quarantines}
use Rattle.lease_table.specs.declared.records.Lapse.{Lapse}
use Rattle.lease_table.specs.declared.records.Quar.{Quar}
use Rattle.lease_table.specs.declared.records.ReadLease.{ReadLease}
use Rattle.lease_table.specs.Lapses.{lapse_of, is_lapse, is_reader, has_lapse, is_told_by, reader_in, AreListed, HasLapsed, NoneLapsed, NoneLapsedBefore}
use Rattle.lease_table.specs.Leases.{first, reads, recorded}
use Rattle.lease_table.specs.Standing.{key_cmp, records, leases_on, reads_of, PutsOn, Stays}
use Rattle.lease_table.proofs.MapLemmas.{records-at, leases_on-same_key}

abbrev Map : Type 0
Map = BTreeMap QKey KeyLeases

-- ---- tests

and_no : (b : Bool) → (b && false) ≡ false
and_no true = refl
and_no false = refl

or_no : (b : Bool) → (b || false) ≡ b
or_no true = refl
or_no false = refl

off : (b : Bool) → cond b false b ≡ false
off true = refl
off false = refl

-- the entry of a lease is another key's nowhere, and on its key it is told by deadline and token
is_lapse-apart : (key : QKey) (lease : ReadLease) (q : Lapse) → same_key key q.key ≡ false → is_lapse (lapse_of key lease) q ≡ false
is_lapse-apart key lease q apart =
    ap (λ b. (lease.deadline == q.deadline) && (b && (lease.token == q.token))) apart ∙ and_no (lease.deadline == q.deadline)

is_lapse-here : (key : QKey) (lease : ReadLease) (q : Lapse) → same_key key q.key ≡ true → is_lapse (lapse_of key lease) q ≡ is_told_by q lease
is_lapse-here key lease q same = ap (λ b. (lease.deadline == q.deadline) && (b && (lease.token == q.token))) same

is_lapse-true : (a b : Lapse) → is_lapse a b ≡ true → a ≡ b
is_lapse-true a b e =
    let parts = and_parts (a.deadline == b.deadline) (same_key a.key b.key && (a.token == b.token)) e in
    let rest = and_parts (same_key a.key b.key) (a.token == b.token) parts.1 in
    let deadlines = eqb-true a.deadline b.deadline parts.0 in
    let keys = same_key-true a.key b.key rest.0 in
    let tokens = eqb-true a.token b.token rest.1 in
    λ i. record { deadline = deadlines i; key = keys i; token = tokens i }

is_reader-apart : (key : QKey) (reader : Option ReadLease) (q : Lapse) → same_key key q.key ≡ false → is_reader key reader q ≡ false
is_reader-apart key None q apart = refl
is_reader-apart key (Some lease) q apart = is_lapse-apart key lease q apart

is_reader-here : (key : QKey) (there : Option KeyLeases) (q : Lapse) → same_key key q.key ≡ true
    → is_reader key (first (reads_of there)) q ≡ list_any (is_told_by q) (reads_of there)
is_reader-here key None q same = refl
is_reader-here key (Some (Read lease)) q same = is_lapse-here key lease q same ∙ sym (or_no (is_told_by q lease))
is_reader-here key (Some (Quarantines quars)) q same = refl

-- ---- changes

-- what is recorded to read stays on each key
pub reads-stay : (old new : Map) → IsOrdered key_cmp old → Stays old new → (key : QKey) → reads_of (leases_on key new) ≡ reads_of (leases_on key old)
reads-stay old new ordered stays key =
    sym (records-at key new stays.in_order).reads_there ∙ ap (reads key) stays.same_records ∙ (records-at key old ordered).reads_there

pub reads-kept : (key : QKey) (standing : List Quar) (old new : Map) → PutsOn key standing (reads_of (leases_on key old)) old new
    → (k : QKey) → reads_of (leases_on k new) ≡ reads_of (leases_on k old)
reads-kept key standing old new puts k = by (same_key key k) refl
  where
    by : (b : Bool) → same_key key k ≡ b → reads_of (leases_on k new) ≡ reads_of (leases_on k old)
    by true same =
        ap reads_of (sym (leases_on-same_key key k new same)) ∙ puts.reads_there ∙ ap reads_of (leases_on-same_key key k old same)
    by false apart = ap reads_of (puts.elsewhere k apart)

pub AreListed-same : (old new : Map) (lapses next : Lapses) → AreListed old lapses → ((q : Lapse) → has_lapse q next ≡ has_lapse q lapses)
    → ((key : QKey) → reads_of (leases_on key new) ≡ reads_of (leases_on key old)) → AreListed new next
AreListed-same old new lapses next listed same stay =
    λ q. same q ∙ listed q ∙ ap (list_any (is_told_by q)) (sym (stay q.key))

module _ (key : QKey) (old : Map) (was : Option ReadLease) (lapses : Lapses) (listed : AreListed old lapses)
    (is : was ≡ first (reads_of (leases_on key old))) where
  -- the entry of what is recorded on the key is there, and no other of this key
  was-listed : (q : Lapse) → same_key key q.key ≡ true → is_reader key was q ≡ has_lapse q lapses
  was-listed q same =
      ap (λ o. is_reader key o q) is ∙ is_reader-here key (leases_on key old) q same
      ∙ ap (λ there. list_any (is_told_by q) (reads_of there)) (leases_on-same_key key q.key old same) ∙ sym (listed q)

  -- other keys have what they had
  listed-apart : (standing : List Quar) (readers : List ReadLease) (new : Map) → PutsOn key standing readers old new → (q : Lapse)
      → same_key key q.key ≡ false → has_lapse q lapses ≡ list_any (is_told_by q) (reads_of (leases_on q.key new))
  listed-apart standing readers new puts q apart =
      listed q ∙ ap (λ there. list_any (is_told_by q) (reads_of there)) (sym (puts.elsewhere q.key apart))

  -- the key has what was put there
  told-here : (standing : List Quar) (readers : List ReadLease) (new : Map) → PutsOn key standing readers old new → (q : Lapse)
      → same_key key q.key ≡ true → list_any (is_told_by q) readers ≡ list_any (is_told_by q) (reads_of (leases_on q.key new))
  told-here standing readers new puts q same =
      ap (list_any (is_told_by q)) (sym puts.reads_there ∙ ap reads_of (leases_on-same_key key q.key new same))

  -- the lease to read ends
  pub AreListed-ended : (standing : List Quar) (new : Map) (next : Lapses) → PutsOn key standing [] old new
      → ((q : Lapse) → has_lapse q next ≡ cond (is_reader key was q) false (has_lapse q lapses)) → AreListed new next
  AreListed-ended standing new next puts after = λ q. by q (same_key key q.key) refl
    where
      by : (q : Lapse) (b : Bool) → same_key key q.key ≡ b → has_lapse q next ≡ list_any (is_told_by q) (reads_of (leases_on q.key new))
      by q true same =
          after q ∙ ap (λ b. cond b false (has_lapse q lapses)) (was-listed q same) ∙ off (has_lapse q lapses) ∙ told-here standing [] new puts q same
      by q false apart =
          after q ∙ ap (λ b. cond b false (has_lapse q lapses)) (is_reader-apart key was q apart) ∙ listed-apart standing [] new puts q apart

  -- a lease to read is recorded whose entry was put in, and that of the one before was taken out
  pub AreListed-added : (read : ReadLease) (new : Map) (more next : Lapses) → PutsOn key [] (read ∷ []) old new
      → has_lapse (lapse_of key read) lapses ≡ false
      → ((q : Lapse) → has_lapse q more ≡ cond (is_lapse (lapse_of key read) q) true (has_lapse q lapses))
      → ((q : Lapse) → has_lapse q next ≡ cond (is_reader key was q) false (has_lapse q more)) → AreListed new next
  AreListed-added read new more next puts fresh added after = λ q. by q (same_key key q.key) refl
    where
      finish : (h t : Bool) → (t ≡ true → h ≡ false) → cond h false (cond t true h) ≡ (t || false)
      finish true true told = absurd (false≢true (sym (told refl)))
      finish true false told = refl
      finish false true told = refl
      finish false false told = refl

      unlisted : (q : Lapse) → same_key key q.key ≡ true → is_told_by q read ≡ true → has_lapse q lapses ≡ false
      unlisted q same told =
          ap (λ l. has_lapse l lapses) (sym (is_lapse-true (lapse_of key read) q (is_lapse-here key read q same ∙ told))) ∙ fresh

      by : (q : Lapse) (b : Bool) → same_key key q.key ≡ b → has_lapse q next ≡ list_any (is_told_by q) (reads_of (leases_on q.key new))
      by q true same =
          after q ∙ ap (cond (is_reader key was q) false) (added q)
          ∙ ap (λ b. cond b false (cond (is_lapse (lapse_of key read) q) true (has_lapse q lapses))) (was-listed q same)
          ∙ ap (λ t. cond (has_lapse q lapses) false (cond t true (has_lapse q lapses))) (is_lapse-here key read q same)
          ∙ finish (has_lapse q lapses) (is_told_by q read) (unlisted q same)
          ∙ told-here [] (read ∷ []) new puts q same
      by q false apart =
          after q ∙ ap (cond (is_reader key was q) false) (added q)
          ∙ ap (λ b. cond b false (cond (is_lapse (lapse_of key read) q) true (has_lapse q lapses))) (is_reader-apart key was q apart)
          ∙ ap (λ t. cond t true (has_lapse q lapses)) (is_lapse-apart key read q apart)
          ∙ listed-apart [] (read ∷ []) new puts q apart

  -- a lease to read is recorded whose entry was there: it is that of the one before
  pub AreListed-again : (read : ReadLease) (new : Map) (more : Lapses) → PutsOn key [] (read ∷ []) old new
      → has_lapse (lapse_of key read) lapses ≡ true
      → ((q : Lapse) → has_lapse q more ≡ cond (is_lapse (lapse_of key read) q) true (has_lapse q lapses)) → AreListed new more
  AreListed-again read new more puts there added = λ q. by q (same_key key q.key) refl
    where
      same_told : (q : Lapse) (o : Option KeyLeases) → list_any (is_told_by (lapse_of key read)) (reads_of o) ≡ true
          → list_any (is_told_by q) (reads_of o) ≡ is_told_by q read
      same_told q None e = absurd (false≢true e)
      same_told q (Some (Quarantines quars)) e = absurd (false≢true e)
      same_told q (Some (Read lease)) e =
          let parts = and_parts (lease.deadline == read.deadline) (lease.token == read.token)
          (sym (or_no (is_told_by (lapse_of key read) lease)) ∙ e) in
          let deadlines = eqb-true lease.deadline read.deadline parts.0 in
          let tokens = eqb-true lease.token read.token parts.1 in
          or_no (is_told_by q lease) ∙ (λ i. (deadlines i == q.deadline) && (tokens i == q.token))

      finish : (t : Bool) → cond t true t ≡ (t || false)
      finish true = refl
      finish false = refl

      by : (q : Lapse) (b : Bool) → same_key key q.key ≡ b → has_lapse q more ≡ list_any (is_told_by q) (reads_of (leases_on q.key new))
      by q true same =
          let told = listed q ∙ ap (λ o. list_any (is_told_by q) (reads_of o)) (sym (leases_on-same_key key q.key old same))
          ∙ same_told q (leases_on key old) (sym (listed (lapse_of key read)) ∙ there) in
          added q ∙ ap (λ t. cond t true (has_lapse q lapses)) (is_lapse-here key read q same)
          ∙ ap (cond (is_told_by q read) true) told ∙ finish (is_told_by q read) ∙ told-here [] (read ∷ []) new puts q same
      by q false apart =
          added q ∙ ap (λ t. cond t true (has_lapse q lapses)) (is_lapse-apart key read q apart) ∙ listed-apart [] (read ∷ []) new puts q apart

-- an entry is taken out again that was put in
pub has_lapse-back : (lapse : Lapse) (lapses more next : Lapses) → has_lapse lapse lapses ≡ false
    → ((q : Lapse) → has_lapse q more ≡ cond (is_lapse lapse q) true (has_lapse q lapses))
    → ((q : Lapse) → has_lapse q next ≡ cond (is_lapse lapse q) false (has_lapse q more)) → (q : Lapse) → has_lapse q next ≡ has_lapse q lapses
has_lapse-back lapse lapses more next fresh added after q =
    after q ∙ ap (cond (is_lapse lapse q) false) (added q) ∙ by (is_lapse lapse q) refl
  where
    by : (b : Bool) → is_lapse lapse q ≡ b → cond b false (cond b true (has_lapse q lapses)) ≡ has_lapse q lapses
    by true same = sym fresh ∙ ap (λ l. has_lapse l lapses) (is_lapse-true lapse q same)
    by false apart = refl

-- an entry is put in that was there
pub has_lapse-again : (lapse : Lapse) (lapses more : Lapses) → has_lapse lapse lapses ≡ true
    → ((q : Lapse) → has_lapse q more ≡ cond (is_lapse lapse q) true (has_lapse q lapses)) → (q : Lapse) → has_lapse q more ≡ has_lapse q lapses
has_lapse-again lapse lapses more there added q = added q ∙ by (is_lapse lapse q) refl
  where
    by : (b : Bool) → is_lapse lapse q ≡ b → cond b true (has_lapse q lapses) ≡ has_lapse q lapses
    by true same = sym there ∙ ap (λ l. has_lapse l lapses) (is_lapse-true lapse q same)
    by false apart = refl

-- what a test says that answered another's contrary
pub not-back : (b : Bool) (added : Bool) → added ≡ not b → added ≡ true → b ≡ false
not-back true added e is = absurd (false≢true (sym e ∙ is))
not-back false added e is = refl

pub not-there : (b : Bool) (added : Bool) → added ≡ not b → added ≡ false → b ≡ true
not-there true added e is = refl
not-there false added e is = absurd (false≢true (sym is ∙ e))

-- ---- what is told of the entries

-- the lease of an entry
lease-of : (q : Lapse) (there : Option KeyLeases) → list_any (is_told_by q) (reads_of there) ≡ true
    → (lease : ReadLease) × (first (reads_of there) ≡ Some lease) × (lease.token ≡ q.token) × (lease.deadline ≡ q.deadline)
lease-of q None e = absurd (false≢true e)
lease-of q (Some (Quarantines quars)) e = absurd (false≢true e)
lease-of q (Some (Read lease)) e =
    let parts = and_parts (lease.deadline == q.deadline) (lease.token == q.token) (sym (or_no (is_told_by q lease)) ∙ e) in
    (lease, refl, eqb-true lease.token q.token parts.1, eqb-true lease.deadline q.deadline parts.0)

if_some : {X : Type 0} (P Q : X → Type 0) (o : Option X) → ((x : X) → P x → Q x) → IfSome o P → IfSome o Q
if_some P Q None f h = tt
if_some P Q (Some x) f h = f x h

module _ (leases : Map) (lapses : Lapses) (ordered : IsOrdered key_cmp leases) (listed : AreListed leases lapses) where
  reader-is : (key : QKey) → recorded key (records leases.entries) ≡ first (reads_of (leases_on key leases))
  reader-is key = ap first (records-at key leases ordered).reads_there

  -- the lease of an entry whose deadline has come is recorded and has lapsed
  pub has-lapsed : (now : ℕ) (lapse : Lapse) → has_lapse lapse lapses ≡ true → lapse.deadline ≤ now
      → HasLapsed now (reader_in (records leases.entries)) lapse
  has-lapsed now lapse has come =
      let it = lease-of lapse (leases_on lapse.key leases) (sym (listed lapse) ∙ has) in
      record { lease = it.0; is_recorded = reader-is lapse.key ∙ it.1; its_token = it.2; its_deadline = it.3; has_come = come }

  -- each lease that is recorded has its entry
  each-listed : (key : QKey) → IfSome (recorded key (records leases.entries)) (λ lease. has_lapse (lapse_of key lease) lapses ≡ true)
  each-listed key =
      subst (λ o. IfSome o (λ lease. has_lapse (lapse_of key lease) lapses ≡ true)) (sym (reader-is key)) (by (leases_on key leases) refl)
    where
      by : (there : Option KeyLeases) → leases_on key leases ≡ there → IfSome (first (reads_of there)) (λ lease. has_lapse (lapse_of key lease) lapses ≡ true)
      by None is = tt
      by (Some (Quarantines quars)) is = tt
      by (Some (Read lease)) is =
          listed (lapse_of key lease) ∙ ap (λ there. list_any (is_told_by (lapse_of key lease)) (reads_of there)) is
          ∙ or_no (is_told_by (lapse_of key lease) lease)
          ∙ and_from (lease.deadline == lease.deadline) (lease.token == lease.token)
          (eq-eqb lease.deadline lease.deadline refl) (eq-eqb lease.token lease.token refl)

  module _ (least : ℕ) (below : (other : Lapse) → has_lapse other lapses ≡ true → least ≤ other.deadline) where
    pub none-before : (key : QKey) → IfSome (recorded key (records leases.entries)) (λ lease. least ≤ lease.deadline)
    none-before key =
        if_some (λ lease. has_lapse (lapse_of key lease) lapses ≡ true) (λ lease. least ≤ lease.deadline) (recorded key (records leases.entries))
        (λ lease has. below (lapse_of key lease) has) (each-listed key)

    pub none-lapsed : (now : ℕ) → now < least → NoneLapsed now (reader_in (records leases.entries))
    none-lapsed now early key =
        if_some (λ lease. has_lapse (lapse_of key lease) lapses ≡ true) (λ lease. now < lease.deadline) (recorded key (records leases.entries))
        (λ lease has. let later = below (lapse_of key lease) has in omega (arith, early, later)) (each-listed key)

  pub none-at-all : ((other : Lapse) → has_lapse other lapses ≡ false) → (now : ℕ) → NoneLapsed now (reader_in (records leases.entries))
  none-at-all none now key =
      if_some (λ lease. has_lapse (lapse_of key lease) lapses ≡ true) (λ lease. now < lease.deadline) (recorded key (records leases.entries))
      (λ lease has. absurd (false≢true (sym (none (lapse_of key lease)) ∙ has))) (each-listed key)
