-- A session that writes: when it is open, what stands for it, and whose a quarantine is that it has.
use Rattle.std.proofs.Common.{ℕ, ◌≡◌, ◌==◌, Bool, true, false, not, cond, ◌&&◌, ◌||◌, List, [], ◌∷◌, find, count_by, Some, None}
use Rattle.std.proofs.Common.{slice_get, refl, sym, ap, subst, ◌∙◌, inl, inr, ◌⊎◌, arith}
use Rattle.std.specs.List.{list_any}
use Rattle.std.proofs.lemmas.Bool.{false≢true}
use Rattle.std.proofs.lemmas.Option.{slice_get_within}
use Rattle.rows_model.specs.declared.keys.QKey.{QKey}
use Rattle.rows_model.specs.declared.keys.Sid.{Sid}
use Rattle.rows_model.specs.Key.{same_key}
use Rattle.rows_model.proofs.SameKey.{same_key-true}
use Rattle.rows_model.specs.Placement.{shard_of}
use Rattle.lease_table.specs.declared.records.Mode.TheVariants.{Refresh, Delta}
use Rattle.lease_table.specs.declared.records.Quar.{Quar}
use Rattle.lease_table.specs.Leases.{is_of}
use Rattle.key_shard.specs.Permit.{Permit}
use Rattle.key_shard.specs.declared.steps.Step.{Step}
use Rattle.key_shard.specs.Past.{standing, own_of, quar_of}
use Rattle.key_shard.specs.Answers.{IsOf}
use Rattle.key_shard.proofs.PermitLemmas.{is_of_permit}
use Rattle.sql_keeper.specs.Commits.{covers, is_covered}
use Rattle.sql_keeper.specs.Fresh.{quarantines}
use Rattle.session_client.specs.declared.plans.Plan.{Plan}
use Rattle.session_client.specs.declared.plans.Shape.{Shape}
use Rattle.session_client.specs.declared.replies.Reply.{Reply}
use Rattle.session_client.specs.Plans.{writes, mode_of, mode_on, shift_in, changes_of}
use Rattle.session_client.specs.Wants.{granted, is_had, released, Writing, writing_of}
use Rattle.core_history.specs.Events.{Event, steps_of, heard_by, has_committed, was_ended}
use Rattle.core_history.specs.Machine.{World, terms_of, plan_at, is_writer, is_open}
use Rattle.core_history.specs.Facts.{stands_for}
use Rattle.core_history.proofs.ListLemmas.{and_elim, not_both, not_true, any-weaker, place_of, count-some, some-count}
use Rattle.core_history.proofs.KeyLemmas.{granted_standing, was-quar}
use Rattle.core_history.proofs.EventLemmas.{closed, ever}
use Rattle.core_history.proofs.SessionLemmas.{Writer}
use Rattle.core_history.proofs.PlannedLemmas.{IsPlanned, planned-quar}
use Rattle.core_history.proofs.InnerLemmas.{Inner, IsSession}

-- the session of this number has a plan that writes, is a writer, and stays one of its plan where what it is told keeps it a writer
pub record IsWriter (shape : Shape) (world : World) (n : ℕ) (plan : Plan) : Type 0 where
  pub at : plan_at n world.plans ≡ Some plan
  pub may : writes plan ≡ true
  pub writer : Writer shape world.past n (heard_by n world.past) (writing_of plan)
  pub stays : (event : Event) (reply : Reply) → Writer shape (event ∷ world.past) n (reply ∷ heard_by n world.past) (writing_of plan)
      → IsSession shape (event ∷ world.past) n (reply ∷ heard_by n world.past) (plan_at n world.plans)

-- no quarantine of the session stands on the key that it asks for next
none_asked : (shape : Shape) (world : World) (who : Sid) (writing : Writing) (key : QKey) → Inner shape world
    → Writer shape world.past who.number (heard_by who.number world.past) writing
    → slice_get writing.keys (count_by is_had (heard_by who.number world.past)) ≡ Some key
    → list_any (is_of who) (standing key (steps_of (shard_of key shape.shards) world.past)) ≡ true → ⊥
none_asked shape world who writing key inner w at stands =
    let home = shard_of key shape.shards in
    let steps = steps_of home world.past in
    let heard = heard_by who.number world.past in
    let given = count-some (quarantines key who) steps (granted_standing key who steps stands) in
    let counts = inner.counts key who in
    let found = place_of (covers who key) (ever heard) (some-count (covers who key) (ever heard) (omega (arith, given, counts))) in
    let same = same_key-true key found.1.key (and_elim (same_key key found.1.key) (found.1.sid.number == who.number) found.3).0 in
    let placed = (w.placed found.0 found.1 found.2).at_key in
    let i : found.0 ≡ count_by is_had heard = w.once found.0 (count_by is_had heard) key (placed ∙ ap (λ k. Some k) (sym same)) at in
    let within = slice_get_within (ever heard) found.0 found.1 found.2 in
    let had = w.had in
    absurd (omega (arith, i, within, had))

no_own : (key : QKey) (who : Sid) (past : List Step) → list_any (is_of who) (standing key past) ≡ false → own_of key who past ≡ None
no_own key who past = by (standing key past)
  where
    by : (xs : List Quar) → list_any (is_of who) xs ≡ false → find (is_of who) xs ≡ None
    by [] e = refl
    by (x ∷ xs) e = here (is_of who x) e (by xs)
      where
        here : (b : Bool) → (b || list_any (is_of who) xs) ≡ false → (list_any (is_of who) xs ≡ false → find (is_of who) xs ≡ None)
            → cond b (Some x) (find (is_of who) xs) ≡ None
        here true e rest = absurd (not_both refl e)
        here false e rest = rest e

-- so it holds none there
pub asked-free : (shape : Shape) (world : World) (who : Sid) (writing : Writing) (key : QKey) → Inner shape world
    → Writer shape world.past who.number (heard_by who.number world.past) writing
    → slice_get writing.keys (count_by is_had (heard_by who.number world.past)) ≡ Some key
    → own_of key who (steps_of (shard_of key shape.shards) world.past) ≡ None
asked-free shape world who writing key inner w at =
    let steps = steps_of (shard_of key shape.shards) world.past in
    no_own key who steps (not_true (list_any (is_of who) (standing key steps)) (none_asked shape world who writing key inner w at))

-- an open session hasn't committed
pub open-uncommitted : (world : World) (who : Sid) → is_open world who ≡ true → has_committed who.number world.past ≡ false
open-uncommitted world who is_so = by (has_committed who.number world.past) (and_elim _ _ (and_elim _ _ is_so).0).1
  where
    by : (b : Bool) → not b ≡ true → b ≡ false
    by true e = absurd (false≢true e)
    by false e = refl

-- an open session isn't closed
pub open-closed : (world : World) (who : Sid) → is_open world who ≡ true → closed who.number world.past ≡ false
open-closed world who is_so =
    let parts = and_elim _ _ is_so in
    let first = and_elim _ _ parts.0 in
    by (has_committed who.number world.past) (was_ended who.number world.past) first.1 parts.1
  where
    by : (a b : Bool) → not a ≡ true → not b ≡ true → (a || b) ≡ false
    by true b x y = absurd (false≢true x)
    by false true x y = absurd (false≢true y)
    by false false x y = refl

-- nor is a closed one open
pub closed-shut : (world : World) (who : Sid) → closed who.number world.past ≡ true → is_open world who ≡ false
closed-shut world who shut = not_true (is_open world who) (λ is_so. not_both shut (open-closed world who is_so))

-- a writer that isn't open is closed
pub shut-closed : (world : World) (who : Sid) (plan : Plan) → plan_at who.number world.plans ≡ Some plan
    → writes plan ≡ true → is_open world who ≡ false → closed who.number world.past ≡ true
shut-closed world who plan at may shut =
    by (has_committed who.number world.past) (was_ended who.number world.past)
    (ap (λ b. b && not (has_committed who.number world.past) && not (was_ended who.number world.past)) (sym (ap is_writer at ∙ may)) ∙ shut)
  where
    by : (a b : Bool) → (not a && not b) ≡ false → (a || b) ≡ true
    by true b e = refl
    by false true e = refl
    by false false e = absurd (false≢true (sym e))

-- before a session is closed, a quarantine of its stands on each key that a grant covers
pub granted-stands : (shape : Shape) (past : List Event) (who : Sid) (heard : List Reply) (writing : Writing) → Writer shape past who.number heard writing
    → closed who.number past ≡ false → (key : QKey) → is_covered who (granted heard) key ≡ true
    → stands_for who (standing key (steps_of (shard_of key shape.shards) past)) ≡ true
granted-stands shape past who heard writing w still key covered =
    let found = place_of (covers who key) (granted heard) covered in
    let grant = found.1 in
    let same = same_key-true key grant.key (and_elim (same_key key grant.key) (grant.sid.number == who.number) found.3).0 in
    let kept : released heard ≡ 0 = by w.shut in
    let stood = w.stood found.0 grant found.2 (omega (arith, kept)) in
    let P : QKey → Type 0 = λ k. stands_for who (standing k (steps_of (shard_of k shape.shards) past)) ≡ true in
    let quars = standing grant.key (steps_of (shard_of grant.key shape.shards) past) in
    let own : (quar : Quar) → is_of_permit grant quar ≡ true → (quar.sid.number == who.number) ≡ true =
    λ quar h. subst (λ n. (quar.sid.number == n) ≡ true) stood.own (and_elim _ _ (and_elim _ _ h).0).0 in
    subst P (sym same) (any-weaker (is_of_permit grant) (λ quar. quar.sid.number == who.number) quars own (stood.stands still))
  where
    by : (released heard ≡ 0) ⊎ (closed who.number past ≡ true) → released heard ≡ 0
    by (inl e) = e
    by (inr shut) = absurd (not_both shut still)

-- a quarantine that stands under the token of a grant is that of the grant, as the session's plan has it
pub record IsMine (n : ℕ) (plan : Plan) (grant : Permit) (quar : Quar) : Type 0 where
  pub of : IsOf grant quar
  pub own : quar.sid.number ≡ n
  pub in_mode : (grant.mode ≡ mode_on (mode_of plan) grant.key) ⊎ (grant.mode ≡ Refresh)
  pub by : grant.mode ≡ Delta → quar.shift ≡ shift_in Delta grant.key (changes_of plan)

-- one number has one plan
pub some_plan : {a b : Plan} → Some a ≡ Some b → a ≡ b
some_plan e = cc

pub stands-mine : (shape : Shape) (world : World) (who : Sid) (plan : Plan) (i : ℕ) (grant : Permit) (quar : Quar)
    → Inner shape world → IsWriter shape world who.number plan
    → slice_get (granted (heard_by who.number world.past)) i ≡ Some grant
    → quar_of grant.key grant.token (steps_of (shard_of grant.key shape.shards) world.past) ≡ Some quar → IsMine who.number plan grant quar
stands-mine shape world who plan i grant quar inner w at found =
    let home = shard_of grant.key shape.shards in
    let steps = steps_of home world.past in
    let fits = w.writer.fits i grant at in
    let same : quar.sid ≡ grant.sid = was-quar (terms_of shape home) steps grant quar (inner.legal home) (w.writer.was i grant at) found in
    let own : quar.sid.number ≡ who.number = ap (λ (s : Sid). s.number) same ∙ fits.own in
    let planned : IsPlanned world.plans grant.key quar = planned-quar world.plans grant.key grant.token steps quar (inner.planned home) found in
    let one : planned.plan ≡ plan = some_plan (sym planned.at ∙ ap (λ n. plan_at n world.plans) own ∙ w.at) in
    let mode : quar.mode ≡ grant.mode = w.writer.suits i grant at quar found in
    record {
      of = record { sid = same; mode = mode };
      own = own;
      in_mode = fits.in_mode;
      by = λ delta. planned.by (mode ∙ delta) ∙ ap (λ p. shift_in Delta grant.key (changes_of p)) one;
    }
