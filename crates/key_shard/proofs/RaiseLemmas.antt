-- What raising and renewing a quarantine leave of those that stand.
use Rattle.std.proofs.Common.{◌≡◌, ◌||◌, ℕ, Bool, true, false, cond, List, [], ◌∷◌, Option, Some, None, map, find, option_map, refl, sym, ap, ◌∙◌}
use Rattle.std.specs.List.{All, AllByRecursion, list_any}
use Rattle.std.proofs.lemmas.List.Elements.{All-from_recursion, recursion_from_All}
use Rattle.rows_model.specs.declared.keys.QKey.{QKey}
use Rattle.rows_model.specs.declared.keys.Sid.{Sid}
use Rattle.rows_model.specs.Key.{same_key}
use Rattle.lease_table.specs.declared.records.Mode.TheVariants.{Refresh}
use Rattle.lease_table.specs.declared.records.Quar.{Quar}
use Rattle.lease_table.specs.Leases.{has_token, raised, renewed}
use Rattle.key_shard.specs.declared.steps.Step.{Step}
use Rattle.key_shard.specs.declared.steps.Step.TheVariants.{Raised, Renewed}
use Rattle.key_shard.specs.Past.{standing, quar_of}

-- a quarantine to refresh in the place of this one, and one with another deadline
abbrev pub lifted : Quar → Quar
lifted quar = record { sid = quar.sid; mode = Refresh; token = quar.token; deadline = quar.deadline; shift = quar.shift }

abbrev pub prolonged : ℕ → Quar → Quar
prolonged deadline quar = record { sid = quar.sid; mode = quar.mode; token = quar.token; deadline = deadline; shift = quar.shift }

-- a choice between two that are one to a function is that one to it
chosen-same : {Y : Type 0} (f : Quar → Y) (one two : Quar) (b : Bool) → f one ≡ f two → f (cond b one two) ≡ f two
chosen-same f one two true e = e
chosen-same f one two false e = refl

-- what is told of a quarantine but its mode is as it was before a raise
pub raised-same : {Y : Type 0} (f : Quar → Y) (token : ℕ) (quar : Quar) → f (lifted quar) ≡ f quar → f (raised token quar) ≡ f quar
raised-same f token quar e = chosen-same f (lifted quar) quar (has_token token quar) e

-- and but its deadline before a renewal
pub renewed-same : {Y : Type 0} (f : Quar → Y) (token deadline : ℕ) (quar : Quar) → f (prolonged deadline quar) ≡ f quar
    → f (renewed token deadline quar) ≡ f quar
renewed-same f token deadline quar e = chosen-same f (prolonged deadline quar) quar (has_token token quar) e

-- so a change of each that a test doesn't see is none to the test
find-mapped-step : (p : Quar → Bool) (f : Quar → Quar) (quar : Quar) (quars : List Quar) (b c : Bool) → c ≡ b
    → find p (map f quars) ≡ option_map f (find p quars) → cond c (Some (f quar)) (find p (map f quars)) ≡ option_map f (cond b (Some quar) (find p quars))
find-mapped-step p f quar quars true true e rest = refl
find-mapped-step p f quar quars true false e rest = cc
find-mapped-step p f quar quars false true e rest = cc
find-mapped-step p f quar quars false false e rest = rest

pub find-mapped : (p : Quar → Bool) (f : Quar → Quar) → ((quar : Quar) → p (f quar) ≡ p quar) → (quars : List Quar)
    → find p (map f quars) ≡ option_map f (find p quars)
find-mapped p f same [] = refl
find-mapped p f same (quar ∷ quars) =
    find-mapped-step p f quar quars (p quar) (p (f quar)) (same quar) (find-mapped p f same quars)

pub any-mapped : (p : Quar → Bool) (f : Quar → Quar) → ((quar : Quar) → p (f quar) ≡ p quar) → (quars : List Quar)
    → list_any p (map f quars) ≡ list_any p quars
any-mapped p f same [] = refl
any-mapped p f same (quar ∷ quars) =
    ap (λ b. b || list_any p (map f quars)) (same quar) ∙ ap (λ b. p quar || b) (any-mapped p f same quars)

-- what is found behind a map
from-mapped : (f : Quar → Quar) (o : Option Quar) (quar : Quar) → option_map f o ≡ Some quar → (old : Quar) × (o ≡ Some old) × (f old ≡ quar)
from-mapped f None quar e = cc
from-mapped f (Some old) quar e = (old, refl, cc)

-- a quarantine that stands after a raise stood before it, by its token, and is the same but for its mode
pub quar-raised : (past : List Step) (on : QKey) (sid : Sid) (raised_token : ℕ) (key : QKey) (token : ℕ) (quar : Quar)
    → quar_of key token (Raised on sid raised_token ∷ past) ≡ Some quar
    → (old : Quar) × (quar_of key token past ≡ Some old) × (cond (same_key key on) (raised raised_token old) old ≡ quar)
quar-raised past on sid raised_token key token quar = by (same_key key on)
  where
    by : (b : Bool) → find (has_token token) (cond b (map (raised raised_token) (standing key past)) (standing key past)) ≡ Some quar
        → (old : Quar) × (quar_of key token past ≡ Some old) × (cond b (raised raised_token old) old ≡ quar)
    by true e =
        from-mapped (raised raised_token) (quar_of key token past) quar (sym (find-mapped (has_token token) (raised raised_token)
        (λ q. raised-same (has_token token) raised_token q refl) (standing key past)) ∙ e)
    by false e = (quar, e, refl)

-- and after a renewal but for its deadline
pub quar-renewed : (past : List Step) (on : QKey) (sid : Sid) (renewed_token now deadline : ℕ) (key : QKey) (token : ℕ) (quar : Quar)
    → quar_of key token (Renewed on sid renewed_token now deadline ∷ past) ≡ Some quar
    → (old : Quar) × (quar_of key token past ≡ Some old) × (cond (same_key key on) (renewed renewed_token deadline old) old ≡ quar)
quar-renewed past on sid renewed_token now deadline key token quar = by (same_key key on)
  where
    by : (b : Bool) → find (has_token token) (cond b (map (renewed renewed_token deadline) (standing key past)) (standing key past)) ≡ Some quar
        → (old : Quar) × (quar_of key token past ≡ Some old) × (cond b (renewed renewed_token deadline old) old ≡ quar)
    by true e =
        from-mapped (renewed renewed_token deadline) (quar_of key token past) quar (sym (find-mapped (has_token token) (renewed renewed_token deadline)
        (λ q. renewed-same (has_token token) renewed_token deadline q refl) (standing key past)) ∙ e)
    by false e = (quar, e, refl)

-- a quarantine of a past with a raise or a renewal more has the session that it had
pub raised-sid : (token : ℕ) (b : Bool) (old quar : Quar) → cond b (raised token old) old ≡ quar → old.sid ≡ quar.sid
raised-sid token true old quar e = sym (raised-same (λ q. q.sid) token old refl) ∙ ap (λ q. q.sid) e
raised-sid token false old quar e = ap (λ q. q.sid) e

pub renewed-sid : (token deadline : ℕ) (b : Bool) (old quar : Quar) → cond b (renewed token deadline old) old ≡ quar → old.sid ≡ quar.sid
renewed-sid token deadline true old quar e = sym (renewed-same (λ q. q.sid) token deadline old refl) ∙ ap (λ q. q.sid) e
renewed-sid token deadline false old quar e = ap (λ q. q.sid) e

pub renewed-mode : (token deadline : ℕ) (b : Bool) (old quar : Quar) → cond b (renewed token deadline old) old ≡ quar → old.mode ≡ quar.mode
renewed-mode token deadline true old quar e = sym (renewed-same (λ q. q.mode) token deadline old refl) ∙ ap (λ q. q.mode) e
renewed-mode token deadline false old quar e = ap (λ q. q.mode) e

pub renewed-shift : (token deadline : ℕ) (b : Bool) (old quar : Quar) → cond b (renewed token deadline old) old ≡ quar → old.shift ≡ quar.shift
renewed-shift token deadline true old quar e = sym (renewed-same (λ q. q.shift) token deadline old refl) ∙ ap (λ q. q.shift) e
renewed-shift token deadline false old quar e = ap (λ q. q.shift) e

-- what holds of each holds of each behind a map, where the map makes one of the other
pub every-mapped : (P Q : Quar → Type 0) (f : Quar → Quar) → ((quar : Quar) → P quar → Q (f quar)) → (quars : List Quar)
    → AllByRecursion P quars → AllByRecursion Q (map f quars)
every-mapped P Q f more [] h = tt
every-mapped P Q f more (quar ∷ quars) h = (more quar h.0, every-mapped P Q f more quars h.1)

pub All-mapped : (P Q : Quar → Type 0) (f : Quar → Quar) → ((quar : Quar) → P quar → Q (f quar)) → (quars : List Quar) → All P quars → All Q (map f quars)
All-mapped P Q f more quars h =
    All-from_recursion Q (map f quars) (every-mapped P Q f more quars (recursion_from_All P quars h))

-- the quarantine of the raised token is to refresh, and each other is as it was
pub raised-here : (token : ℕ) (quar : Quar) → has_token token quar ≡ true → raised token quar ≡ lifted quar
raised-here token quar e = ap (λ b. cond b (lifted quar) quar) e

pub raised-apart : (token : ℕ) (quar : Quar) → has_token token quar ≡ false → raised token quar ≡ quar
raised-apart token quar e = ap (λ b. cond b (lifted quar) quar) e
