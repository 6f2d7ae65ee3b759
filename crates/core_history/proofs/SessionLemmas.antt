-- What a session was told, and which of its quarantines stand.
use Rattle.std.proofs.Common.{append-nil, ℕ, ℤ, ◌≡◌, ◌<◌, ◌≤◌, ◌+◌, ◌==◌, ◌&&◌, ◌||◌, Bool, true, false, not, cond, find, List, [], ◌∷◌, ◌++◌, length}
use Rattle.std.proofs.Common.{filter, count_by, Some, None, slice_get, refl, sym, ap, subst, ◌∙◌, inl, inr, ◌⊎◌, arith}
use Rattle.std.specs.List.{AllByRecursion, list_any}
use Rattle.std.proofs.lemmas.Bool.{eq-eqb, eqb-true, false≢true}
use Rattle.rows_model.specs.declared.keys.QKey.{QKey}
use Rattle.rows_model.specs.declared.keys.Sid.{Sid}
use Rattle.rows_model.specs.Key.{same_key}
use Rattle.rows_model.proofs.SameKey.{same_key-true, same_key-refl}
use Rattle.rows_model.specs.Placement.{shard_of}
use Rattle.case_tables.specs.Compatibility.{same_way}
use Rattle.lease_table.specs.declared.records.Mode.{Mode}
use Rattle.lease_table.specs.declared.records.Mode.TheVariants.{Invalidate, Refresh, Delta}
use Rattle.lease_table.specs.declared.records.Quar.{Quar}
use Rattle.lease_table.specs.Leases.{has_token, way_of}
use Rattle.key_shard.specs.declared.replies.QAnswer.TheVariants as quarantine
use Rattle.key_shard.specs.Permit.{Permit, same_permit}
use Rattle.key_shard.specs.declared.steps.Ended.{Ended}
use Rattle.key_shard.specs.declared.steps.Step.{Step}
use Rattle.key_shard.specs.declared.steps.Step.TheVariants as step
use Rattle.key_shard.specs.Past.{Terms, standing, entry, grants, quar_of, next_token}
use Rattle.key_shard.specs.Shards.{without_permit, out_after}
use Rattle.key_shard.proofs.LegalLemmas.{AllOfOwnToken}
use Rattle.key_shard.proofs.OutLemmas.{same_permit-true}
use Rattle.key_shard.proofs.PermitLemmas.{is_of_permit, find_permit}
use Rattle.expiry_sweeper.specs.declared.replies.SweepReply.{SweepReply}
use Rattle.expiry_sweeper.specs.declared.replies.SweepWanted.{SweepWanted}
use Rattle.key_freshness.specs.Known.{StandsAt}
use Rattle.sql_keeper.specs.declared.stores.Commit.{Commit}
use Rattle.session_client.specs.declared.plans.Shape.{Shape}
use Rattle.session_client.specs.declared.replies.Reply.{Reply}
use Rattle.session_client.specs.declared.replies.Reply.TheVariants as Reply
use Rattle.session_client.specs.declared.replies.Wanted.{Wanted}
use Rattle.session_client.specs.Plans.{mode_on}
use Rattle.session_client.specs.Wants.{Given, given, given_in, given_by, granted_by, is_turn, turned, grants_in, granted, is_had, is_commit}
use Rattle.session_client.specs.Wants.{is_release, released, was_committed, number_of, Writing, write_wants}
use Rattle.session_client.specs.declared.replies.Wanted.TheVariants as wanted
use Rattle.session_client.proofs.WantCases.{is_asking, is_ending, AreOnce, given-granted}
use Rattle.core_history.specs.Events.{Event, Stepped, Called, Ticked, Swept, steps_in, steps_of, commits_in, log_of}
use Rattle.core_history.specs.Machine.{terms_of, out_by, out_of}
use Rattle.core_history.specs.Facts.{Found, found_at, leases, grants_as}
use Rattle.core_history.proofs.ListLemmas.{choose, or_inl, and_intro, and_elim, not_both, not_true, any-filter, any-front, any-back}
use Rattle.core_history.proofs.ListLemmas.{count-cons, zero_if, slice-front}
use Rattle.core_history.proofs.KeyLemmas.{IsQuietStep, quiet-stands, quiet-out, stays-apart, DrawsNext, next-append, news_as, StandsIn, quar-kept}
use Rattle.core_history.proofs.EventLemmas.{closed, closed-more, still-open, unmade-steps, ever}
use Rattle.sql_keeper.specs.Commits.{is_covered}

-- a grant is the session's, it is out, it was given, and its quarantine stands while the session isn't closed
pub record Stood (shape : Shape) (past : List Event) (n : ℕ) (grant : Permit) : Type 0 where
  pub own : grant.sid.number ≡ n
  pub out : list_any (same_permit grant) (out_of shape (shard_of grant.key shape.shards) past) ≡ true
  pub was : list_any (grants grant) (steps_of (shard_of grant.key shape.shards) past) ≡ true
  pub stands : closed n past ≡ false → list_any (is_of_permit grant) (standing grant.key (steps_of (shard_of grant.key shape.shards) past)) ≡ true

-- an event that leaves the session's grants
abbrev pub Keeps : Shape → Event → List Event → ℕ → Type 0
Keeps shape event past n = (grant : Permit) → grant.sid.number ≡ n → Stood shape past n grant → Stood shape (event ∷ past) n grant

-- the request releases no grant
abbrev pub ReleasesNone : Wanted → Type 0
ReleasesNone request = (terms : Terms) (s : Step) (out : List Permit) → out_by terms request s out ≡ out_after terms s out

-- the request releases this grant
abbrev pub ReturnsGrant : Permit → Wanted → Type 0
ReturnsGrant gone request = (terms : Terms) (s : Step) (out : List Permit) → out_by terms request s out ≡ without_permit gone out

-- a step on the shard of this number leaves each quarantine that stands there for a session that isn't closed
abbrev pub LeavesOpen : Shape → List Event → ℕ → Step → Type 0
LeavesOpen shape past place s =
    (grant : Permit) → place ≡ shard_of grant.key shape.shards → closed grant.sid.number past ≡ false
    → list_any (is_of_permit grant) (standing grant.key (steps_of place past)) ≡ true
    → list_any (is_of_permit grant) (standing grant.key (s ∷ steps_of place past)) ≡ true

-- a step gives no lease and grants no quarantine of a key under a token that was drawn before
abbrev pub IsLateDraw : Shape → List Event → Step → Type 0
IsLateDraw shape past s =
    (key : QKey) (token : ℕ) → token < next_token (terms_of shape (shard_of key shape.shards)) (steps_of (shard_of key shape.shards) past)
    → (leases key token s ≡ false) × (news_as key token s ≡ false)

-- nor does an event
abbrev pub DrawsLate : Shape → List Event → Event → Type 0
DrawsLate shape past (Stepped place who request s reply) = IsLateDraw shape past s
DrawsLate shape past (Called who request reply) = Unit {0}
DrawsLate shape past (Ticked now) = Unit {0}
DrawsLate shape past (Swept place request None reply) = Unit {0}
DrawsLate shape past (Swept place request (Some s) reply) = IsLateDraw shape past s

-- a grant is the session's, in the mode that the session has for its key, or was raised from it
pub record Fits (n : ℕ) (writing : Writing) (grant : Permit) : Type 0 where
  pub own : grant.sid.number ≡ n
  pub in_mode : (grant.mode ≡ mode_on writing.mode grant.key) ⊎ (grant.mode ≡ Refresh)

-- a grant that the session was ever given is the session's, on the key at its own place
pub record Placed (n : ℕ) (writing : Writing) (i : ℕ) (grant : Permit) : Type 0 where
  pub at_key : slice_get writing.keys i ≡ Some grant.key
  pub own : grant.sid.number ≡ n

-- a quarantine that stands under the token of a grant has its mode
abbrev pub Suits : Shape → List Event → Permit → Type 0
Suits shape past grant =
    (quar : Quar) → quar_of grant.key grant.token (steps_of (shard_of grant.key shape.shards) past) ≡ Some quar → quar.mode ≡ grant.mode

-- the session goes on: it has not begun to end, and it isn't done
abbrev pub is_going : List Reply → Bool
is_going [] = true
is_going (Reply.Nothing ∷ heard) = false
is_going (reply ∷ heard) = not (is_ending (reply ∷ heard))

-- a session that wants something and hasn't begun to end goes on
pub going-on : (writing : Writing) (heard : List Reply) (request : Wanted) → write_wants writing false heard ≡ request → (request ≡ wanted.Nothing → ⊥)
    → is_ending heard ≡ false → is_going heard ≡ true
going-on writing [] request e some going = refl
going-on writing (Reply.Nothing ∷ heard) request e some going = absurd (some (sym e))
going-on writing (reply ∷ heard) request e some going = ap not going

-- the session was told last of a raise
abbrev pub is_raised : Reply → Bool
is_raised (Reply.Raise answer) = true
is_raised (Reply.RaiseBack grant) = true
is_raised other = false

abbrev pub raises_last : List Reply → Bool
raises_last [] = false
raises_last (reply ∷ heard) = is_raised reply

pub asking-going : (heard : List Reply) → is_asking heard ≡ true → is_going heard ≡ true
asking-going [] e = refl
asking-going (Reply.Quar answer ∷ heard) e = refl
asking-going (other ∷ heard) e = absurd (false≢true e)

-- the step raises no quarantine
abbrev pub RaisesNone : Step → Type 0
RaisesNone (step.Raised on sid token) = ⊥
RaisesNone other = Unit {0}

-- an event leaves what the session's quarantines found, and their modes
abbrev pub Finds : Shape → Event → List Event → ℕ → Type 0
Finds shape event past n =
    (grant : Permit) → grant.sid.number ≡ n → list_any (grants grant) (steps_of (shard_of grant.key shape.shards) past) ≡ true
    → grant.token < next_token (terms_of shape (shard_of grant.key shape.shards)) (steps_of (shard_of grant.key shape.shards) past)
    → (found_at grant.key grant.token (event ∷ past) ≡ found_at grant.key grant.token past)
    × ((quar : Quar) → quar_of grant.key grant.token (steps_of (shard_of grant.key shape.shards) (event ∷ past)) ≡ Some quar
    → StandsIn grant.key grant.token (steps_of (shard_of grant.key shape.shards) past) quar)

-- the number of a session's commit is that of its place in the log, from 1
pub record IsNumber (log : List Commit) (n number : ℕ) : Type 0 where
  pub place : ℕ
  pub commit : Commit
  pub is : number ≡ place + 1
  pub at : StandsAt log place commit
  pub own : commit.sid.number ≡ n

-- the old value that came along with a grant to refresh is what the quarantine found
pub record IsOld (past : List Event) (one : Given) : Type 0 where
  pub found : Found
  pub at : found_at one.permit.key one.permit.token past ≡ Some found
  pub old : one.permit.mode ≡ Refresh → one.old ≡ found.entry

-- the token of a grant was drawn at the shard of its key
abbrev pub IsDrawn : Shape → List Event → Permit → Type 0
IsDrawn shape past grant = grant.token < next_token (terms_of shape (shard_of grant.key shape.shards)) (steps_of (shard_of grant.key shape.shards) past)

-- a session that writes was given its grants in the order of its keys. Each that it hasn't released or spent stands.
-- It releases none before it is closed
pub record Writer (shape : Shape) (past : List Event) (n : ℕ) (heard : List Reply) (writing : Writing) : Type 0 where
  pub once : AreOnce writing.keys
  pub placed : (i : ℕ) (grant : Permit) → slice_get (ever heard) i ≡ Some grant → Placed n writing i grant
  pub had : count_by is_had heard ≡ length (ever heard)
  pub asked : is_asking heard ≡ true → granted heard ≡ ever heard
  pub fits : (i : ℕ) (grant : Permit) → slice_get (granted heard) i ≡ Some grant → Fits n writing grant
  pub apart : (i j : ℕ) (a b : Permit) → slice_get (granted heard) i ≡ Some a → slice_get (granted heard) j ≡ Some b → a.key ≡ b.key → i ≡ j
  -- before it is closed it has spent none
  pub unspent : closed n past ≡ false → (key : QKey) (who : Sid) → who.number ≡ n → is_covered who (ever heard) key ≡ true
      → is_covered who (granted heard) key ≡ true
  pub was : (i : ℕ) (grant : Permit) → slice_get (granted heard) i ≡ Some grant
      → list_any (grants grant) (steps_of (shard_of grant.key shape.shards) past) ≡ true
  pub suits : (i : ℕ) (grant : Permit) → slice_get (granted heard) i ≡ Some grant → Suits shape past grant
  pub drawn : (i : ℕ) (grant : Permit) → slice_get (granted heard) i ≡ Some grant → IsDrawn shape past grant
  pub stood : (i : ℕ) (grant : Permit) → slice_get (granted heard) i ≡ Some grant → released heard ≤ i → Stood shape past n grant
  pub shut : (released heard ≡ 0) ⊎ (closed n past ≡ true)
  pub ending : is_ending heard ≡ true → closed n past ≡ true
  pub going : is_going heard ≡ true → (was_committed heard ≡ false) × (released heard ≡ 0)
  -- those whose turn hasn't come are not raised, and a session that raises has them to invalidate
  pub unraised : (i : ℕ) (grant : Permit) → slice_get (granted heard) i ≡ Some grant → turned heard ≤ i → grant.mode ≡ mode_on writing.mode grant.key
  pub raising : raises_last heard ≡ true → writing.mode ≡ Invalidate
  pub numbered : (number : ℕ) → number_of heard ≡ Some number → IsNumber (log_of past) n number
  pub olds : (i : ℕ) (one : Given) → slice_get (given heard) i ≡ Some one → IsOld past one

pub maybe-step : (P : List Step → Type 0) (b : Bool) (s : Step) (steps : List Step)
    → (b ≡ true → P (s ∷ steps)) → (b ≡ false → P steps) → P (cond b (s ∷ []) [] ++ steps)
maybe-step P true s steps p q = p refl
maybe-step P false s steps p q = q refl

was-more : (shape : Shape) (event : Event) (past : List Event) (n : ℕ) (grant : Permit) → Stood shape past n grant
    → list_any (grants grant) (steps_of (shard_of grant.key shape.shards) (event ∷ past)) ≡ true
was-more shape event past n grant h =
    any-back (grants grant) (steps_in (shard_of grant.key shape.shards) event) (steps_of (shard_of grant.key shape.shards) past) h.was

-- which steps leave what stands for sessions that aren't closed
pub leaves-quiet : (shape : Shape) (past : List Event) (place : ℕ) (s : Step) → IsQuietStep s → LeavesOpen shape past place s
leaves-quiet shape past place s quiet grant home still stands =
    ap (list_any (is_of_permit grant)) (quiet-stands s quiet grant.key (steps_of place past)) ∙ stands

pub leaves-granted : (shape : Shape) (past : List Event) (place : ℕ) (on : QKey) (by : Sid) (mode : Mode) (shift : ℤ) (now token deadline : ℕ)
    → LeavesOpen shape past place (step.Granted on by mode shift now token deadline)
leaves-granted shape past place on by mode shift now token deadline grant home still stands =
    let xs = standing grant.key (steps_of place past) in
    let quar : Quar = record { sid = by; mode = mode; token = token; deadline = deadline; shift = shift } in
    choose (λ l. list_any (is_of_permit grant) l ≡ true) (same_key grant.key on)
    (xs ++ quar ∷ []) xs (λ _. any-front (is_of_permit grant) xs (quar ∷ []) stands) (λ _. stands)

pub leaves-ended : (shape : Shape) (past : List Event) (place : ℕ) (on : QKey) (sid : Sid) (token : ℕ) (how : Ended) (quar : Quar)
    → AllOfOwnToken (standing on (steps_of place past)) → quar_of on token (steps_of place past) ≡ Some quar → closed quar.sid.number past ≡ true
    → LeavesOpen shape past place (step.Released on sid token how)
leaves-ended shape past place on sid token how quar distinct found shut grant home still stands =
    let steps = steps_of place past in
    let xs = standing grant.key steps in
    choose (λ l. list_any (is_of_permit grant) l ≡ true) (same_key grant.key on) (filter (λ q. not (has_token token q)) xs) xs
    (λ same. let at : grant.key ≡ on = same_key-true grant.key on same in
    stays-apart grant token quar xs (subst (λ k. AllOfOwnToken (standing k steps)) (sym at) distinct) stands (ap (λ k. quar_of k token steps) at ∙ found)
    (λ one. not_both (subst (λ n. closed n past ≡ true) one shut) still))
    (λ _. stands)

-- a step on a shard leaves a grant of a session where it leaves what stands and what is out
pub stood-stepped : (shape : Shape) (place : ℕ) (who : Sid) (request : Wanted) (s : Step) (reply : Reply) (past : List Event) (n : ℕ) (grant : Permit)
    → (place ≡ shard_of grant.key shape.shards → closed n past ≡ false → list_any (is_of_permit grant) (standing grant.key (steps_of place past)) ≡ true
    → list_any (is_of_permit grant) (standing grant.key (s ∷ steps_of place past)) ≡ true)
    → ((terms : Terms) (out : List Permit) → list_any (same_permit grant) out ≡ true → list_any (same_permit grant) (out_by terms request s out) ≡ true)
    → Stood shape past n grant → Stood shape (Stepped place who request s reply ∷ past) n grant
stood-stepped shape place who request s reply past n grant stays out h =
    let home = shard_of grant.key shape.shards in
    let event = Stepped place who request s reply in
    let IsThere : List Step → Type 0 = λ l. list_any (is_of_permit grant) (standing grant.key l) ≡ true in
    record {
      own = h.own;
      out = choose (λ l. list_any (same_permit grant) l ≡ true) (place == home)
          (out_by (terms_of shape home) request s (out_of shape home past)) (out_of shape home past)
          (λ _. out (terms_of shape home) (out_of shape home past) h.out) (λ _. h.out);
      was = was-more shape event past n grant h;
      stands = λ still.
          let before = still-open n event past still in
          maybe-step IsThere (place == home) s (steps_of home past)
          (λ here. let at : place ≡ home = eqb-true place home here in
          subst (λ p. IsThere (s ∷ steps_of p past)) at (stays at before (subst (λ p. IsThere (steps_of p past)) (sym at) (h.stands before))))
          (λ _. h.stands before);
    }

-- what leaves all that stands for sessions that aren't closed leaves a grant's
open-stays : (shape : Shape) (place : ℕ) (s : Step) (past : List Event) (n : ℕ) (grant : Permit) → LeavesOpen shape past place s → Stood shape past n grant
    → place ≡ shard_of grant.key shape.shards → closed n past ≡ false → list_any (is_of_permit grant) (standing grant.key (steps_of place past)) ≡ true
    → list_any (is_of_permit grant) (standing grant.key (s ∷ steps_of place past)) ≡ true
open-stays shape place s past n grant leaves h at still stands =
    leaves grant at (subst (λ m. closed m past ≡ false) (sym h.own) still) stands

pub stood-quiet : (shape : Shape) (place : ℕ) (who : Sid) (request : Wanted) (s : Step) (reply : Reply) (past : List Event)
    → IsQuietStep s → ReleasesNone request → (n : ℕ) (grant : Permit)
    → Stood shape past n grant → Stood shape (Stepped place who request s reply ∷ past) n grant
stood-quiet shape place who request s reply past quiet none n grant h =
    stood-stepped shape place who request s reply past n grant (open-stays shape place s past n grant (leaves-quiet shape past place s quiet) h)
    (λ terms out is. ap (list_any (same_permit grant)) (none terms s out ∙ quiet-out s quiet terms out) ∙ is) h

pub stood-granted : (shape : Shape) (place : ℕ) (who : Sid) (request : Wanted)
    (on : QKey) (by : Sid) (mode : Mode) (shift : ℤ) (now token deadline : ℕ) (reply : Reply) (past : List Event) → ReleasesNone request
    → (n : ℕ) (grant : Permit) → Stood shape past n grant
    → Stood shape (Stepped place who request (step.Granted on by mode shift now token deadline) reply ∷ past) n grant
stood-granted shape place who request on by mode shift now token deadline reply past none n grant h =
    let s = step.Granted on by mode shift now token deadline in
    stood-stepped shape place who request s reply past n grant
    (open-stays shape place s past n grant (leaves-granted shape past place on by mode shift now token deadline) h)
    (λ terms out is. ap (list_any (same_permit grant)) (none terms s out) ∙ any-front (same_permit grant) out _ is) h

-- a grant that is given stands
same_way-refl : (mode : Mode) → same_way (way_of mode) (way_of mode) ≡ true
same_way-refl Invalidate = refl
same_way-refl Refresh = refl
same_way-refl Delta = refl

pub same_permit-refl : (grant : Permit) → same_permit grant grant ≡ true
same_permit-refl grant =
    and_intro _ _ (and_intro _ _ (and_intro _ _ (and_intro _ _ (eq-eqb grant.shard grant.shard refl) (same_key-refl grant.key))
    (eq-eqb grant.sid.number grant.sid.number refl)) (same_way-refl grant.mode)) (eq-eqb grant.token grant.token refl)

any_one : {X : Type 0} (p : X → Bool) (x : X) → p x ≡ true → list_any p (x ∷ []) ≡ true
any_one p x e = or_inl (p x) false e

pub stood-new : (shape : Shape) (who : Sid) (request : Wanted) (on : QKey) (mode : Mode) (shift : ℤ) (now token deadline : ℕ) (reply : Reply) (past : List Event)
    → ReleasesNone request
    → Stood shape (Stepped (shard_of on shape.shards) who request (step.Granted on who mode shift now token deadline) reply ∷ past) who.number
    (record { shard = shard_of on shape.shards; key = on; sid = who; mode = mode; token = token })
stood-new shape who request on mode shift now token deadline reply past none =
    let home = shard_of on shape.shards in
    let steps = steps_of home past in
    let s = step.Granted on who mode shift now token deadline in
    let quar : Quar = record { sid = who; mode = mode; token = token; deadline = deadline; shift = shift } in
    let made : Permit = record { shard = home; key = on; sid = who; mode = mode; token = token } in
    let out = out_of shape home past in
    let xs = standing on steps in
    let here : (home == home) ≡ true = eq-eqb home home refl in
    let IsThere : List Quar → Type 0 = λ l. list_any (is_of_permit made) l ≡ true in
    let Out : List Permit → Type 0 = λ l. list_any (same_permit made) l ≡ true in
    record {
      own = refl;
      out = choose Out (home == home) (out_by (terms_of shape home) request s out) out
          (λ _. subst Out (sym (none (terms_of shape home) s out))
          (any-back (same_permit made) out (made ∷ []) (any_one (same_permit made) made (same_permit-refl made)))) (λ other. absurd (not_both here other));
      was = maybe-step (λ l. list_any (grants made) l ≡ true) (home == home) s steps
          (λ _. or_inl (grants made s) (list_any (grants made) steps)
          (and_intro _ _ (and_intro _ _ (same_key-refl on) (eq-eqb who.number who.number refl)) (eq-eqb token token refl)))
          (λ other. absurd (not_both here other));
      stands = λ _. maybe-step (λ l. IsThere (standing on l)) (home == home) s steps
          (λ _. choose IsThere (same_key on on) (xs ++ quar ∷ []) xs
          (λ _. any-back (is_of_permit made) xs (quar ∷ []) (any_one (is_of_permit made) quar
          (and_intro _ _ (and_intro _ _ (eq-eqb who.number who.number refl) (same_way-refl mode)) (eq-eqb token token refl))))
          (λ other. absurd (not_both (same_key-refl on) other)))
          (λ other. absurd (not_both here other));
    }

-- the end of one grant leaves each other that is out
pub without-other : (grant gone : Permit) (out : List Permit) → (gone ≡ grant → ⊥)
    → list_any (same_permit grant) out ≡ true → list_any (same_permit grant) (without_permit gone out) ≡ true
without-other grant gone out other h =
    any-filter (same_permit grant) (λ x. not (same_permit gone x)) out (each out) h
  where
    each : (l : List Permit) → AllByRecursion (λ x. same_permit grant x ≡ true → not (same_permit gone x) ≡ true) l
    each [] = tt
    each (x ∷ l) =
        ((λ mine. ap not (not_true (same_permit gone x) (λ theirs. other (sym (same_permit-true gone x theirs) ∙ same_permit-true grant x mine)))), each l)

pub out-other : (grant gone : Permit) (request : Wanted) (s : Step) → ReturnsGrant gone request → (gone ≡ grant → ⊥)
    → (terms : Terms) (out : List Permit) → list_any (same_permit grant) out ≡ true → list_any (same_permit grant) (out_by terms request s out) ≡ true
out-other grant gone request s returns other terms out is =
    subst (λ l. list_any (same_permit grant) l ≡ true) (sym (returns terms s out)) (without-other grant gone out other is)

-- the release of one grant leaves each other one, where its step leaves what stands for sessions that aren't closed
pub stood-returned : (shape : Shape) (place : ℕ) (who : Sid) (request : Wanted) (s : Step) (reply : Reply) (past : List Event) (gone : Permit)
    → ReturnsGrant gone request → LeavesOpen shape past place s
    → (n : ℕ) (grant : Permit) → (gone ≡ grant → ⊥) → Stood shape past n grant → Stood shape (Stepped place who request s reply ∷ past) n grant
stood-returned shape place who request s reply past gone returns leaves n grant other h =
    stood-stepped shape place who request s reply past n grant (open-stays shape place s past n grant leaves h) (out-other grant gone request s returns other) h

pub stood-called : (shape : Shape) (who : Sid) (request : Wanted) (reply : Reply) (past : List Event) (n : ℕ) (grant : Permit) → Stood shape past n grant
    → Stood shape (Called who request reply ∷ past) n grant
stood-called shape who request reply past n grant h =
    record { own = h.own; out = h.out; was = h.was; stands = λ still. h.stands (still-open n (Called who request reply) past still) }

pub stood-ticked : (shape : Shape) (now : ℕ) (past : List Event) (n : ℕ) (grant : Permit) → Stood shape past n grant → Stood shape (Ticked now ∷ past) n grant
stood-ticked shape now past n grant h =
    record { own = h.own; out = h.out; was = h.was; stands = λ still. h.stands (still-open n (Ticked now) past still) }

pub stood-unmade : (shape : Shape) (place : ℕ) (request : SweepWanted) (reply : SweepReply) (past : List Event) (n : ℕ) (grant : Permit)
    → Stood shape past n grant → Stood shape (Swept place request None reply ∷ past) n grant
stood-unmade shape place request reply past n grant h =
    let home = shard_of grant.key shape.shards in
    let event = Swept place request None reply in
    record {
      own = h.own;
      out = h.out;
      was = was-more shape event past n grant h;
      stands = λ still. ap (λ l. list_any (is_of_permit grant) (standing grant.key l)) (unmade-steps home place request reply past)
          ∙ h.stands (still-open n event past still);
    }

pub stood-swept : (shape : Shape) (place : ℕ) (request : SweepWanted) (s : Step) (reply : SweepReply) (past : List Event)
    → LeavesOpen shape past place s → (n : ℕ) (grant : Permit) → Stood shape past n grant
    → Stood shape (Swept place request (Some s) reply ∷ past) n grant
stood-swept shape place request s reply past leaves n grant h =
    let home = shard_of grant.key shape.shards in
    let event = Swept place request (Some s) reply in
    let IsThere : List Step → Type 0 = λ l. list_any (is_of_permit grant) (standing grant.key l) ≡ true in
    record {
      own = h.own;
      out = h.out;
      was = was-more shape event past n grant h;
      stands = λ still.
          let before = still-open n event past still in
          maybe-step IsThere (place == home) s (steps_of home past)
          (λ here. let at : place ≡ home = eqb-true place home here in
          subst (λ p. IsThere (s ∷ steps_of p past)) at
          (open-stays shape place s past n grant leaves h at before (subst (λ p. IsThere (steps_of p past)) (sym at) (h.stands before))))
          (λ _. h.stands before);
    }

pub shut-more : (n : ℕ) (event : Event) (past : List Event) (heard : List Reply)
    → (released heard ≡ 0) ⊎ (closed n past ≡ true) → (released heard ≡ 0) ⊎ (closed n (event ∷ past) ≡ true)
shut-more n event past heard (inl e) = inl e
shut-more n event past heard (inr e) = inr (closed-more n event past e)

-- a step that draws the next token of its shard draws late
late-next : (shape : Shape) (past : List Event) (home given : ℕ) (on key : QKey) (token : ℕ)
    → given ≡ next_token (terms_of shape home) (steps_of home past) → shard_of on shape.shards ≡ home
    → token < next_token (terms_of shape (shard_of key shape.shards)) (steps_of (shard_of key shape.shards) past)
    → (same_key key on && (given == token)) ≡ false
late-next shape past home given on key token drawn at low =
    not_true (same_key key on && (given == token)) (λ gives.
    let parts = and_elim (same_key key on) (given == token) gives in
    let N : ℕ → ℕ = λ p. next_token (terms_of shape p) (steps_of p past) in
    let is : given ≡ token = eqb-true given token parts.1 in
    let here : shard_of key shape.shards ≡ home = ap (λ k. shard_of k shape.shards) (same_key-true key on parts.0) ∙ at in
    let same : N (shard_of key shape.shards) ≡ N home = ap N here in
    absurd (omega (arith, low, drawn, is, same)))

pub late-draw : (shape : Shape) (past : List Event) (home : ℕ) (s : Step)
    → DrawsNext (terms_of shape home) (next_token (terms_of shape home) (steps_of home past)) s → IsLateDraw shape past s
late-draw shape past home (step.Granted on sid mode shift now given deadline) drawn key token low =
    (refl, late-next shape past home given on key token drawn.0 drawn.1 low)
late-draw shape past home (step.Lease on sid floor now given deadline) drawn key token low =
    (late-next shape past home given on key token drawn.0 drawn.1 low, refl)
late-draw shape past home other drawn key token low = (refl, refl)

-- a quarantine that stands after a step which neither grants nor raises it stood in its mode
stands-apart : (shape : Shape) (place : ℕ) (s : Step) (past : List Event) (grant : Permit) → grants_as grant.key grant.token s ≡ false → (quar : Quar)
    → quar_of grant.key grant.token (cond (place == shard_of grant.key shape.shards) (s ∷ []) [] ++ steps_of (shard_of grant.key shape.shards) past) ≡ Some quar
    → StandsIn grant.key grant.token (steps_of (shard_of grant.key shape.shards) past) quar
stands-apart shape place s past grant none quar =
    let steps = steps_of (shard_of grant.key shape.shards) past in
    maybe-step (λ l. quar_of grant.key grant.token l ≡ Some quar → StandsIn grant.key grant.token steps quar)
    (place == shard_of grant.key shape.shards) s steps (λ _ e. quar-kept s grant.key grant.token steps quar none e) (λ _ e. (quar, e, refl))

-- a step that raises none and grants none anew grants and raises none
pub found_none : (s : Step) → RaisesNone s → (key : QKey) (token : ℕ) → news_as key token s ≡ false → grants_as key token s ≡ false
found_none (step.Granted on sid mode shift now token deadline) calm key t none = none
found_none (step.Raised on sid token) calm key t none = absurd calm
found_none other calm key t none = refl

-- a step that grants none of them, and raises none, leaves what they found and their modes
pub finds-apart : (shape : Shape) (place : ℕ) (who : Sid) (request : Wanted) (s : Step) (reply : Reply) (past : List Event) (grant : Permit)
    → grants_as grant.key grant.token s ≡ false
    → (found_at grant.key grant.token (Stepped place who request s reply ∷ past) ≡ found_at grant.key grant.token past)
    × ((quar : Quar) → quar_of grant.key grant.token (steps_of (shard_of grant.key shape.shards) (Stepped place who request s reply ∷ past)) ≡ Some quar
    → StandsIn grant.key grant.token (steps_of (shard_of grant.key shape.shards) past) quar)
finds-apart shape place who request s reply past grant none = (
  ap (λ b. cond b (Some (record { commits = length (log_of past); entry = entry grant.key (steps_of place past) })) (found_at grant.key grant.token past)) none,
  stands-apart shape place s past grant none,
)

pub finds-stepped : (shape : Shape) (place : ℕ) (who : Sid) (request : Wanted) (s : Step) (reply : Reply) (past : List Event) (n : ℕ)
    → RaisesNone s → IsLateDraw shape past s → Finds shape (Stepped place who request s reply) past n
finds-stepped shape place who request s reply past n calm late grant own was low =
    finds-apart shape place who request s reply past grant (found_none s calm grant.key grant.token (late grant.key grant.token low).1)

pub finds-none : (shape : Shape) (place : ℕ) (who : Sid) (request : Wanted) (s : Step) (reply : Reply) (past : List Event) (n : ℕ)
    → ((key : QKey) (token : ℕ) → grants_as key token s ≡ false) → Finds shape (Stepped place who request s reply) past n
finds-none shape place who request s reply past n none grant own was low =
    finds-apart shape place who request s reply past grant (none grant.key grant.token)

pub finds-called : (shape : Shape) (who : Sid) (request : Wanted) (reply : Reply) (past : List Event) (n : ℕ) → Finds shape (Called who request reply) past n
finds-called shape who request reply past n grant own was low = (refl, λ quar e. (quar, e, refl))

pub finds-ticked : (shape : Shape) (now : ℕ) (past : List Event) (n : ℕ) → Finds shape (Ticked now) past n
finds-ticked shape now past n grant own was low = (refl, λ quar e. (quar, e, refl))

pub finds-unmade : (shape : Shape) (place : ℕ) (request : SweepWanted) (reply : SweepReply) (past : List Event) (n : ℕ)
    → Finds shape (Swept place request None reply) past n
finds-unmade shape place request reply past n grant own was low = (
  refl,
  λ quar e. (quar, sym (ap (λ l. quar_of grant.key grant.token l) (unmade-steps (shard_of grant.key shape.shards) place request reply past)) ∙ e, refl),
)

pub finds-swept : (shape : Shape) (place : ℕ) (request : SweepWanted) (s : Step) (reply : SweepReply) (past : List Event) (n : ℕ)
    → ((key : QKey) (token : ℕ) → grants_as key token s ≡ false) → Finds shape (Swept place request (Some s) reply) past n
finds-swept shape place request s reply past n none grant own was low =
    (refl, stands-apart shape place s past grant (none grant.key grant.token))

-- a token that was drawn stays so, and so does the number of a commit, and an old value
pub drawn-more : (shape : Shape) (event : Event) (past : List Event) (grant : Permit) → IsDrawn shape past grant → IsDrawn shape (event ∷ past) grant
drawn-more shape event past grant low =
    let home = shard_of grant.key shape.shards in
    let more = next-append (terms_of shape home) (steps_in home event) (steps_of home past) in
    omega (arith, low, more)

pub number-more : (event : Event) (past : List Event) (n number : ℕ) → IsNumber (log_of past) n number → IsNumber (log_of (event ∷ past)) n number
number-more event past n number h =
    record { place = h.place; commit = h.commit; is = h.is; at = slice-front (log_of past) (commits_in event) h.place h.commit h.at; own = h.own }

pub old-more : (event : Event) (past : List Event) (one : Given)
    → found_at one.permit.key one.permit.token (event ∷ past) ≡ found_at one.permit.key one.permit.token past → IsOld past one → IsOld (event ∷ past) one
old-more event past one same h = record { found = h.found; at = same ∙ h.at; old = h.old }

-- so is each that the session was given
pub olds-more : (shape : Shape) (event : Event) (past : List Event) (n : ℕ) (heard : List Reply) (writing : Writing)
    → Finds shape event past n → Writer shape past n heard writing
    → (i : ℕ) (one : Given) → slice_get (given heard) i ≡ Some one → IsOld (event ∷ past) one
olds-more shape event past n heard writing finds w i one e =
    let at = given-granted heard i one e in
    old-more event past one (finds one.permit (w.fits i one.permit at).own (w.was i one.permit at) (w.drawn i one.permit at)).0 (w.olds i one e)

-- a quarantine that stands under the token of a grant has the grant's mode, whether or not the session is closed
pub suits-more : (shape : Shape) (event : Event) (past : List Event) (n : ℕ) (heard : List Reply) (writing : Writing)
    → Finds shape event past n → Writer shape past n heard writing
    → (i : ℕ) (grant : Permit) → slice_get (granted heard) i ≡ Some grant → Suits shape (event ∷ past) grant
suits-more shape event past n heard writing finds w i grant at quar e =
    let old = (finds grant (w.fits i grant at).own (w.was i grant at) (w.drawn i grant at)).1 quar e in
    sym old.2 ∙ w.suits i grant at old.0 old.1

pub granted-more : (shape : Shape) (event : Event) (past : List Event) (grant : Permit)
    → list_any (grants grant) (steps_of (shard_of grant.key shape.shards) past) ≡ true
    → list_any (grants grant) (steps_of (shard_of grant.key shape.shards) (event ∷ past)) ≡ true
granted-more shape event past grant h =
    any-back (grants grant) (steps_in (shard_of grant.key shape.shards) event) (steps_of (shard_of grant.key shape.shards) past) h

-- a writer stays one after an event
pub writer-more : (shape : Shape) (event : Event) (past : List Event) (n : ℕ) (heard : List Reply) (writing : Writing)
    → Finds shape event past n → Keeps shape event past n
    → Writer shape past n heard writing → Writer shape (event ∷ past) n heard writing
writer-more shape event past n heard writing finds keeps w = record {
  once = w.once;
  placed = w.placed;
  had = w.had;
  asked = w.asked;
  fits = w.fits;
  apart = w.apart;
  unspent = λ still. w.unspent (still-open n event past still);
  unraised = w.unraised;
  raising = w.raising;
  was = λ i grant e. granted-more shape event past grant (w.was i grant e);
  suits = suits-more shape event past n heard writing finds w;
  drawn = λ i grant e. drawn-more shape event past grant (w.drawn i grant e);
  stood = λ i grant e not_yet. keeps grant (w.fits i grant e).own (w.stood i grant e not_yet);
  shut = shut-more n event past heard w.shut;
  ending = λ e. closed-more n event past (w.ending e);
  going = w.going;
  numbered = λ number e. number-more event past n number (w.numbered number e);
  olds = olds-more shape event past n heard writing finds w;
}

no-given : (reply : Reply) → grants_in reply ≡ [] → given_in reply ≡ []
no-given (Reply.Quar (quarantine.Granted grant old)) e = cc
no-given other e = refl

-- the quarantine that is found under the token of a grant that stands has its mode
pub found-mode : (grant : Permit) (quars : List Quar) (quar : Quar) → AllOfOwnToken quars → list_any (is_of_permit grant) quars ≡ true
    → find (has_token grant.token) quars ≡ Some quar → quar.mode ≡ grant.mode
found-mode grant quars quar distinct stands e =
    let it = find_permit grant quars distinct stands in
    ap (λ (q : Quar). q.mode) (some_quar (sym e ∙ it.1)) ∙ it.2.mode
  where
    some_quar : {a b : Quar} → Some a ≡ Some b → a ≡ b
    some_quar e = cc

-- a grant that is given stands behind those that stood
pub stands-granted : (on : QKey) (who : Sid) (mode : Mode) (token place : ℕ) (shift : ℤ) (deadline : ℕ) (xs : List Quar)
    → list_any (is_of_permit (record { shard = place; key = on; sid = who; mode = mode; token = token }))
    (cond (same_key on on) (xs ++ record { sid = who; mode = mode; token = token; deadline = deadline; shift = shift } ∷ []) xs) ≡ true
stands-granted on who mode token place shift deadline xs =
    let made : Permit = record { shard = place; key = on; sid = who; mode = mode; token = token } in
    let quar : Quar = record { sid = who; mode = mode; token = token; deadline = deadline; shift = shift } in
    choose (λ l. list_any (is_of_permit made) l ≡ true) (same_key on on) (xs ++ quar ∷ []) xs
    (λ _. any-back (is_of_permit made) xs (quar ∷ []) (any_one (is_of_permit made) quar
    (and_intro _ _ (and_intro _ _ (eq-eqb who.number who.number refl) (same_way-refl mode)) (eq-eqb token token refl))))
    (λ other. absurd (not_both (same_key-refl on) other))

-- a reply brings no grant, and leaves those that the session has
pub record Brings (reply : Reply) : Type 0 where
  pub none : grants_in reply ≡ []
  pub kept : (place : ℕ) (grants : List Permit) → granted_by reply place grants ≡ grants
  pub left : (place : ℕ) (ones : List Given) → given_by reply place ones ≡ ones

-- a writer that is told a reply which brings no grant stays one, where each grant that isn't released stands, and its end and its number are right
pub writer-heard : (shape : Shape) (event : Event) (past : List Event) (n : ℕ) (reply : Reply) (heard : List Reply) (writing : Writing)
    → Brings reply → is_had reply ≡ false → Finds shape event past n
    → ((i : ℕ) (grant : Permit) → slice_get (granted heard) i ≡ Some grant → released (reply ∷ heard) ≤ i → Stood shape (event ∷ past) n grant)
    → (released (reply ∷ heard) ≡ 0) ⊎ (closed n (event ∷ past) ≡ true)
    → (is_ending (reply ∷ heard) ≡ true → closed n (event ∷ past) ≡ true)
    → ((number : ℕ) → number_of (reply ∷ heard) ≡ Some number → IsNumber (log_of (event ∷ past)) n number)
    → (is_going (reply ∷ heard) ≡ true → (was_committed (reply ∷ heard) ≡ false) × (released (reply ∷ heard) ≡ 0))
    → (is_raised reply ≡ true → writing.mode ≡ Invalidate)
    → Writer shape past n heard writing → Writer shape (event ∷ past) n (reply ∷ heard) writing
writer-heard shape event past n reply heard writing brings none finds stood shut ending numbered going raising w =
    let same : granted (reply ∷ heard) ≡ granted heard = ap (λ l. granted_by reply (turned heard) (granted heard) ++ l) brings.none
    ∙ append-nil (granted_by reply (turned heard) (granted heard)) ∙ brings.kept (turned heard) (granted heard) in
    let all : given (reply ∷ heard) ≡ given heard = ap (λ l. given_by reply (turned heard) (given heard) ++ l) (no-given reply brings.none)
    ∙ append-nil (given_by reply (turned heard) (given heard)) ∙ brings.left (turned heard) (given heard) in
    let evers : ever (reply ∷ heard) ≡ ever heard = ap (λ l. ever heard ++ l) brings.none ∙ append-nil (ever heard) in
    let a = count-cons is_had reply heard in
    let b = zero_if (is_had reply) none in
    let had = w.had in
    let len = ap length evers in
    let old : (i : ℕ) (grant : Permit) → slice_get (granted (reply ∷ heard)) i ≡ Some grant
    → slice_get (granted heard) i ≡ Some grant = λ i grant e. sym (ap (λ l. slice_get l i) same) ∙ e in
    record {
      once = w.once;
      placed = λ i grant e. w.placed i grant (sym (ap (λ l. slice_get l i) evers) ∙ e);
      had = omega (arith, a, b, had, len);
      asked = λ asks. absurd (not_both asks none);
      fits = λ i grant e. w.fits i grant (old i grant e);
      apart = λ i j one two at_one at_two. w.apart i j one two (old i one at_one) (old j two at_two);
      unspent = λ still key who own covered.
          ap (λ l. is_covered who l key) same ∙ w.unspent (still-open n event past still) key who own (sym (ap (λ l. is_covered who l key) evers) ∙ covered);
      was = λ i grant e. granted-more shape event past grant (w.was i grant (old i grant e));
      suits = λ i grant e. suits-more shape event past n heard writing finds w i grant (old i grant e);
      drawn = λ i grant e. drawn-more shape event past grant (w.drawn i grant (old i grant e));
      stood = λ i grant e not_yet. stood i grant (old i grant e) not_yet;
      shut = shut;
      ending = ending;
      going = going;
      unraised = λ i grant e late. let d = count-cons is_turn reply heard in w.unraised i grant (old i grant e) (omega (arith, late, d));
      raising = raising;
      numbered = numbered;
      olds = λ i one e. olds-more shape event past n heard writing finds w i one (sym (ap (λ l. slice_get l i) all) ∙ e);
    }

-- a reply that brings no grant, and is none of a release or a commit
pub record Mild (reply : Reply) : Type 0 where
  pub brings : Brings reply
  pub calm : is_raised reply ≡ false
  pub had : is_had reply ≡ false
  pub release : is_release reply ≡ false
  pub commit : is_commit reply ≡ false

no-number : (reply : Reply) (heard : List Reply) → is_commit reply ≡ false → number_of (reply ∷ heard) ≡ number_of heard
no-number (Reply.Committed number txn grants) heard e = cc
no-number other heard e = refl

pub writer-mild : (shape : Shape) (event : Event) (past : List Event) (n : ℕ) (reply : Reply) (heard : List Reply) (writing : Writing)
    → Mild reply → Finds shape event past n → Keeps shape event past n
    → (is_ending (reply ∷ heard) ≡ true → closed n (event ∷ past) ≡ true) → (is_going (reply ∷ heard) ≡ true → is_going heard ≡ true)
    → Writer shape past n heard writing → Writer shape (event ∷ past) n (reply ∷ heard) writing
writer-mild shape event past n reply heard writing mild finds keeps ending goes w =
    let c = count-cons is_release reply heard in
    let d = zero_if (is_release reply) mild.release in
    let rel : released (reply ∷ heard) ≡ released heard = omega (arith, c, d) in
    writer-heard shape event past n reply heard writing mild.brings mild.had finds
    (λ i grant at not_yet. keeps grant (w.fits i grant at).own (w.stood i grant at (omega (arith, not_yet, rel))))
    (subst (λ r. (r ≡ 0) ⊎ (closed n (event ∷ past) ≡ true)) (sym rel) (shut-more n event past heard w.shut)) ending
    (λ number e. number-more event past n number (w.numbered number (sym (no-number reply heard mild.commit) ∙ e)))
    (λ on. (ap (λ b. b || was_committed heard) mild.commit ∙ (w.going (goes on)).0, rel ∙ (w.going (goes on)).1))
    (λ on. absurd (not_both on mild.calm)) w
