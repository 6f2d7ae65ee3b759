-- What a void set leaves of the leases to read: no lease comes of it, and at no time from its own on is any change seen.
use Rattle.std.proofs.Common.{◌≡◌, ℕ, ◌≤◌, Bool, true, false, cond, List, ◌∷◌, map, option_map, Option, Some, None, refl, sym, ap, ◌∙◌, arith}
use Rattle.std.specs.Prelude.{◌==◌, ◌&&◌, nat_le}
use Rattle.std.proofs.lemmas.Bool.{le-ltb, leb-true, and_parts}
use Rattle.rows_model.specs.declared.keys.QKey.{QKey}
use Rattle.rows_model.specs.declared.keys.Sid.{Sid}
use Rattle.rows_model.specs.Key.{same_key}
use Rattle.lease_table.specs.declared.records.ReadLease.{ReadLease}
use Rattle.lease_table.specs.Lapses.{is_lapsed, unlapsed}
use Rattle.lease_table.specs.Leases.{way_of, own_in, others_in, is_current, is_unexpired}
use Rattle.key_shard.specs.declared.steps.Step.{Step}
use Rattle.key_shard.specs.declared.steps.Step.TheVariants.{Void}
use Rattle.key_shard.specs.Past.{standing, recorded, seen_by}
use Rattle.key_shard.proofs.LapseLemmas.{not-current}

unlapsed-was : (b : Bool) (reader : Option ReadLease) (lease : ReadLease) → cond b None reader ≡ Some lease → reader ≡ Some lease
unlapsed-was true reader lease e = absurd cc
unlapsed-was false reader lease e = e

unlapsed-none : (b : Bool) (reader : Option ReadLease) → reader ≡ None → cond b None reader ≡ None
unlapsed-none true reader none = refl
unlapsed-none false reader none = none

-- a lease that is recorded behind a void set was recorded before it
pub void-was : (key on : QKey) (token now : ℕ) (past : List Step) (lease : ReadLease)
    → recorded key (Void on token now ∷ past) ≡ Some lease → recorded key past ≡ Some lease
void-was key on token now past lease = by (same_key key on)
  where
    by : (b : Bool) → cond b (unlapsed token now (recorded key past)) (recorded key past) ≡ Some lease → recorded key past ≡ Some lease
    by true e = unlapsed-was (is_lapsed token now (recorded key past)) (recorded key past) lease e
    by false e = e

-- and where none was, none is
pub void-none : (key on : QKey) (token now : ℕ) (past : List Step) → recorded key past ≡ None → recorded key (Void on token now ∷ past) ≡ None
void-none key on token now past none = by (same_key key on)
  where
    by : (b : Bool) → cond b (unlapsed token now (recorded key past)) (recorded key past) ≡ None
    by true = unlapsed-none (is_lapsed token now (recorded key past)) (recorded key past) none
    by false = none

-- ---- at no time from its own on is any change seen

late : (token now later : ℕ) (lease : ReadLease) → now ≤ later → is_lapsed token now (Some lease) ≡ true → lease.deadline ≤ later
late token now later lease after e =
    let come = leb-true lease.deadline now (and_parts (lease.token == token) (nat_le lease.deadline now) e).1 in omega (arith, after, come)

unlapsed-unexpired : (token now later : ℕ) (reader : Option ReadLease) → now ≤ later → is_unexpired later (unlapsed token now reader) ≡ is_unexpired later reader
unlapsed-unexpired token now later None after = refl
unlapsed-unexpired token now later (Some lease) after = by (is_lapsed token now (Some lease)) refl
  where
    by : (b : Bool) → is_lapsed token now (Some lease) ≡ b → is_unexpired later (cond b None (Some lease)) ≡ is_unexpired later (Some lease)
    by true e = sym (le-ltb later lease.deadline (late token now later lease after e))
    by false e = refl

unlapsed-current : (token now its later : ℕ) (reader : Option ReadLease) → now ≤ later
    → is_current its later (unlapsed token now reader) ≡ is_current its later reader
unlapsed-current token now its later None after = refl
unlapsed-current token now its later (Some lease) after = by (is_lapsed token now (Some lease)) refl
  where
    by : (b : Bool) → is_lapsed token now (Some lease) ≡ b → is_current its later (cond b None (Some lease)) ≡ is_current its later (Some lease)
    by true e = sym (not-current its later lease (late token now later lease after e))
    by false e = refl

pub void-current : (key on : QKey) (token now its later : ℕ) (past : List Step) → now ≤ later
    → is_current its later (recorded key (Void on token now ∷ past)) ≡ is_current its later (recorded key past)
void-current key on token now its later past after = by (same_key key on)
  where
    by : (b : Bool) → is_current its later (cond b (unlapsed token now (recorded key past)) (recorded key past)) ≡ is_current its later (recorded key past)
    by true = unlapsed-current token now its later (recorded key past) after
    by false = refl

pub void-seen : (key on : QKey) (who : Sid) (token now later : ℕ) (past : List Step) → now ≤ later
    → seen_by key who later (Void on token now ∷ past) ≡ seen_by key who later past
void-seen key on who token now later past after =
    λ i. record {
      own = option_map (λ quar. way_of quar.mode) (own_in who (standing key past));
      others = map (λ quar. way_of quar.mode) (others_in who (standing key past));
      reading = by (same_key key on) i;
    }
  where
    by : (b : Bool) → is_unexpired later (cond b (unlapsed token now (recorded key past)) (recorded key past)) ≡ is_unexpired later (recorded key past)
    by true = unlapsed-unexpired token now later (recorded key past) after
    by false = refl
