-- How the shards of a core follow an event.
use Rattle.std.proofs.Common.{ℕ, zero, suc, ◌+◌, ◌-◌, ◌^◌, ◌≡◌, ◌≢◌, ◌<◌, ◌≤◌, ◌==◌, ◌&&◌, Bool, true, false, cond, List, [], ◌∷◌, ◌++◌}
use Rattle.std.proofs.Common.{length, reverse, Option, Some, None, option_to_list, slice_get, get_or, set, refl, sym, ap, subst, ◌∙◌, inl, inr}
use Rattle.std.proofs.Common.{⊎_elim, ◌⊎◌, length-append, arith, eq-eqb}
use Rattle.std.proofs.lemmas.Bool.{eqb-true, cases_Bool, cases_lt, false≢true}
use Rattle.std.proofs.lemmas.List.{reverse-reverse, reverse-append}
use Rattle.std.proofs.lemmas.List.Sums.{count_by-le-length}
use Rattle.std.proofs.lemmas.Option.{slice_get_read, slice_get_within}
use Rattle.std.proofs.Math.ListN.{length-set}
use Rattle.rows_model.specs.declared.keys.QKey.{QKey}
use Rattle.rows_model.specs.declared.keys.Sid.{Sid}
use Rattle.rows_model.specs.Placement.{shard_of}
use Rattle.rows_model.proofs.PlacementLemmas.{shard_below}
use Rattle.lease_table.specs.declared.records.Quar.{Quar}
use Rattle.key_shard.specs.declared.steps.Ended.TheVariants.{Drop}
use Rattle.key_shard.specs.declared.steps.Step.{Step}
use Rattle.key_shard.specs.declared.steps.Step.TheVariants.{Released}
use Rattle.key_shard.specs.Past.{Terms, draws, quar_of, next_token}
use Rattle.key_shard.specs.Answers.{IsAtHome, sweep_step}
use Rattle.key_shard.specs.Shards.{ShardView, past_of, swept}
use Rattle.key_shard.proofs.SweepLemmas.{sweep_by}
use Rattle.expiry_sweeper.specs.declared.replies.SweepReply.{SweepReply}
use Rattle.expiry_sweeper.specs.declared.replies.SweepWanted.{SweepWanted}
use Rattle.session_client.specs.declared.plans.Shape.{Shape}
use Rattle.session_client.specs.declared.replies.Reply.{Reply}
use Rattle.session_client.specs.declared.replies.Wanted.{Wanted}
use Rattle.core_history.specs.Events.{Event, Stepped, Called, Ticked, Swept, steps_of, steps_in}
use Rattle.core_history.specs.Machine.{shown_on, terms_of, out_of, out_by}
use Rattle.core_history.specs.Cores.{HasShards, HasHomes, KeepAll, shard_after}

-- the place that is written, and another one
pub slice_get-set_same : {X : Type 0} (xs : List X) (place : ℕ) (x : X) → place < length xs → slice_get (set xs place x) place ≡ Some x
slice_get-set_same [] place x h = absurd (omega arith)
slice_get-set_same (y ∷ xs) zero x h = refl
slice_get-set_same (y ∷ xs) (suc place) x h = slice_get-set_same xs place x (omega arith)

pub slice_get-set_other : {X : Type 0} (xs : List X) (place other : ℕ) (x : X) → place ≢ other → slice_get (set xs place x) other ≡ slice_get xs other
slice_get-set_other [] place other x h = refl
slice_get-set_other (y ∷ xs) zero zero x h = absurd (h refl)
slice_get-set_other (y ∷ xs) zero (suc other) x h = refl
slice_get-set_other (y ∷ xs) (suc place) zero x h = refl
slice_get-set_other (y ∷ xs) (suc place) (suc other) x h = slice_get-set_other xs place other x (λ e. h (ap suc e))

-- a shard after the step of a request
abbrev pub grown : ShardView → Wanted → Step → ShardView
grown shard request made =
    record { terms = shard.terms; history = shard.history ++ made ∷ []; out = out_by shard.terms request made shard.out }

-- the shards after an event that changes one of them alone
pub shards_after : (shape : Shape) (past : List Event) (event : Event) (home : ℕ) (new : ShardView) (shards : List ShardView) → HasShards shards shape past
    → home < shape.shards → new ≡ shard_after shape (event ∷ past) home
    → ((place : ℕ) → (home == place) ≡ false → shard_after shape (event ∷ past) place ≡ shard_after shape past place)
    → HasShards (set shards home new) shape (event ∷ past)
shards_after shape past event home new shards has within here others =
    record {
      fit = has.fit;
      count = length-set shards home new ∙ has.count;
      each = λ place below. by place below (cases_Bool (home == place));
    }
  where
    by : (place : ℕ) → place < shape.shards → ((home == place) ≡ true) ⊎ ((home == place) ≡ false)
        → slice_get (set shards home new) place ≡ Some (shard_after shape (event ∷ past) place)
    by place below (inl same) =
        let P : ℕ → Type 0 = λ n. slice_get (set shards home new) n ≡ Some (shard_after shape (event ∷ past) n) in
        let inside : home < length shards = omega (arith, has.count) in
        subst P (eqb-true home place same) (slice_get-set_same shards home new inside ∙ ap (λ (v : ShardView). Some v) here)
    by place below (inr apart) =
        let differ : home ≢ place = λ e. false≢true (sym apart ∙ eq-eqb home place e) in
        slice_get-set_other shards home place new differ ∙ has.each place below ∙ ap (λ (v : ShardView). Some v) (sym (others place apart))

-- an event that makes no step and moves no grant leaves the shards
pub shards_same : (shards : List ShardView) (shape : Shape) (past : List Event) (event : Event) → HasShards shards shape past
    → ((place : ℕ) → shard_after shape (event ∷ past) place ≡ shard_after shape past place) → HasShards shards shape (event ∷ past)
shards_same shards shape past event has same =
    record { fit = has.fit; count = has.count; each = λ place below. has.each place below ∙ ap (λ (v : ShardView). Some v) (sym (same place)) }

-- a step behind the others, the latest first
turned : (steps : List Step) (made : Step) → reverse steps ++ made ∷ [] ≡ reverse (made ∷ steps)
turned steps made = sym (reverse-append (made ∷ []) steps)

-- a shard that made a step, and the others, stand after its event
pub shards_after_step : (shape : Shape) (past : List Event) (who : Sid) (request : Wanted) (made : Step) (reply : Reply) (home : ℕ) (shards : List ShardView)
    → HasShards shards shape past → home < shape.shards →
    HasShards (set shards home (grown (shard_after shape past home) request made)) shape (Stepped home who request made reply ∷ past)
shards_after_step shape past who request made reply home shards has within =
    shards_after shape past (Stepped home who request made reply) home (grown (shard_after shape past home) request made) shards has within
    (ap H (turned (steps_of home past) made) ∙ ap (after home) (sym (eq-eqb home home refl)))
    (λ place apart. ap (after place) apart)
  where
    H : List Step → ShardView
    H history = record { terms = terms_of shape home; history = history; out = out_by (terms_of shape home) request made (out_of shape home past) }

    after : ℕ → Bool → ShardView
    after place b =
        record {
          terms = terms_of shape place;
          history = reverse (cond b (made ∷ []) [] ++ steps_of place past);
          out = cond b (out_by (terms_of shape place) request made (out_of shape place past)) (out_of shape place past);
        }

-- a step of the sweeper's that makes none on a shard leaves the shards
pub shards_looked : (shards : List ShardView) (shape : Shape) (past : List Event) (place : ℕ) (request : SweepWanted) (reply : SweepReply)
    → HasShards shards shape past → HasShards shards shape (Swept place request None reply ∷ past)
shards_looked shards shape past place request reply has =
    shards_same shards shape past (Swept place request None reply) has
    (λ at. ap (λ (steps : List Step). record { terms = terms_of shape at; history = reverse steps; out = out_of shape at past })
    (none (place == at) (steps_of at past)))
  where
    none : (b : Bool) (steps : List Step) → cond b [] [] ++ steps ≡ steps
    none true steps = refl
    none false steps = refl

-- a shard that was swept, and the others, stand after that
pub shards_swept : (shape : Shape) (past : List Event) (request : SweepWanted) (key : QKey) (token : ℕ) (reply : SweepReply) (home : ℕ) (shards : List ShardView)
    → HasShards shards shape past → home < shape.shards →
    HasShards (set shards home (swept (shard_after shape past home) (sweep_step (steps_of home past) key token))) shape
    (Swept home request (sweep_step (steps_of home past) key token) reply ∷ past)
shards_swept shape past request key token reply home shards has within =
    shards_after shape past (Swept home request (sweep_step (steps_of home past) key token) reply) home
    (swept (shard_after shape past home) (sweep_step (steps_of home past) key token)) shards has within
    (by (quar_of key token (steps_of home past)) ∙ ap (after home (sweep_step (steps_of home past) key token)) (sym (eq-eqb home home refl)))
    (λ place apart. ap (after place (sweep_step (steps_of home past) key token)) apart)
  where
    after : ℕ → Option Step → Bool → ShardView
    after place made b =
        record {
          terms = terms_of shape place;
          history = reverse (cond b (option_to_list made) [] ++ steps_of place past);
          out = out_of shape place past;
        }

    by : (found : Option Quar) → swept (shard_after shape past home) (sweep_by key token found) ≡ after home (sweep_by key token found) true
    by None = refl
    by (Some quar) =
        ap (λ (history : List Step). record { terms = terms_of shape home; history = history; out = out_of shape home past })
        (turned (steps_of home past) (Released key quar.sid token Drop))

-- an event at the store leaves the shards, and so does a tick
pub shards_called : (shards : List ShardView) (shape : Shape) (past : List Event) (who : Sid) (request : Wanted) (reply : Reply) → HasShards shards shape past
    → HasShards shards shape (Called who request reply ∷ past)
shards_called shards shape past who request reply has = shards_same shards shape past (Called who request reply) has (λ place. refl)

pub shards_ticked : (shards : List ShardView) (shape : Shape) (past : List Event) (now : ℕ) → HasShards shards shape past
    → HasShards shards shape (Ticked now ∷ past)
shards_ticked shards shape past now has = shards_same shards shape past (Ticked now) has (λ place. refl)

length-steps_in : (place : ℕ) (event : Event) → length (steps_in place event) ≤ 1
length-steps_in place (Stepped shard who request step reply) = one (shard == place) step
  where
    one : (b : Bool) (s : Step) → length (cond b (s ∷ []) []) ≤ 1
    one true s = omega arith
    one false s = omega arith
length-steps_in place (Called who request reply) = omega arith
length-steps_in place (Ticked now) = omega arith
length-steps_in place (Swept shard request made reply) = some (shard == place) made
  where
    some : (b : Bool) (made : Option Step) → length (cond b (option_to_list made) []) ≤ 1
    some true None = omega arith
    some true (Some s) = omega arith
    some false made = omega arith

length-steps_of : (place : ℕ) (past : List Event) → length (steps_of place past) ≤ length past
length-steps_of place [] = omega arith
length-steps_of place (event ∷ past) =
    omega (arith, length-append (steps_in place event) (steps_of place past), length-steps_in place event, length-steps_of place past)

some_is : (a b : ShardView) → Some a ≡ Some b → a ≡ b
some_is a b e = cc

-- the shards after these events are whole
pub whole_shards : (shards : List ShardView) (shape : Shape) (past : List Event) → HasShards shards shape past → KeepAll shards
whole_shards shards shape past has place shard found =
    let below : place < shape.shards = omega (arith, has.count, slice_get_within shards place shard found) in
    ap (λ (v : ShardView). v.terms.rolls) (some_is shard (shard_after shape past place) (sym found ∙ has.each place below))

-- after fewer than 2^32 events each key's shard is there, with tokens left
pub homes_of : (shards : List ShardView) (shape : Shape) (past : List Event) → HasShards shards shape past → length past < 2 ^ 32 → HasHomes shards
homes_of shards shape past has few key =
    let home = shard_of key (length shards) in
    let some : 1 ≤ length shards = omega (arith, has.count, has.fit.some_shards) in
    let below : home < shape.shards = subst (λ (n : ℕ). home < n) has.count (shard_below key (length shards) some) in
    let is : slice_get shards home ≡ Some (shard_after shape past home) = has.each home below in
    record {
      some = some;
      few = omega (arith, has.count, has.fit.few_shards);
      at_home = λ shard found. let same = some_is _ _ (sym is ∙ found) in let P : ShardView → Type 0 = λ v. IsAtHome v.terms key in
          subst P same (ap (λ (n : ℕ). shard_of key n) (sym has.count));
      unspent = λ shard found. let same = some_is _ _ (sym is ∙ found) in let P : ShardView → Type 0 = λ v. next_token v.terms (past_of v) < 2 ^ 64 - 1 in
          subst P same (rw reverse-reverse (omega (arith, count_by-le-length draws (steps_of home past), length-steps_of home past)));
    }

-- the shard that is read at the place of a key's shard
pub home_read : (key : QKey) (shards : List ShardView) {place : ℕ} {shard : ShardView} → place ≡ shard_of key (length shards) → place < length shards
    → shard ≡ get_or shards place shard → slice_get shards (shard_of key (length shards)) ≡ Some shard
home_read key shards {place} {shard} at within read =
    ap (λ (n : ℕ). slice_get shards n) (sym at) ∙ slice_get_read shards (length shards) place shard refl within read

-- the shard at a key's place is the one of that number
pub record IsShardOf (shape : Shape) (past : List Event) (key : QKey) (place : ℕ) (shard : ShardView) : Type 0 where
  pub here : place ≡ shard_of key shape.shards
  pub within : shard_of key shape.shards < shape.shards
  pub same : shard ≡ shard_after shape past (shard_of key shape.shards)

pub shard_found : (shape : Shape) (past : List Event) (key : QKey) (shards : List ShardView) (place : ℕ) (shard : ShardView) → HasShards shards shape past
    → place ≡ shard_of key (length shards) → slice_get shards (shard_of key (length shards)) ≡ Some shard → IsShardOf shape past key place shard
shard_found shape past key shards place shard has at found =
    let here : place ≡ shard_of key shape.shards = at ∙ ap (λ (n : ℕ). shard_of key n) has.count in
    let within = shard_below key shape.shards has.fit.some_shards in
    let there : slice_get shards (shard_of key shape.shards) ≡ Some shard = ap (λ (n : ℕ). slice_get shards (shard_of key n)) (sym has.count) ∙ found in
    record { here = here; within = within; same = some_is shard _ (sym there ∙ has.each (shard_of key shape.shards) within) }

-- what follows the shard's own past follows the steps on it
pub step_is : (shape : Shape) (past : List Event) (key : QKey) (place : ℕ) (shard : ShardView) (f : Terms → List Step → Step)
    → IsShardOf shape past key place shard
    → f shard.terms (past_of shard) ≡ f (terms_of shape (shard_of key shape.shards)) (steps_of (shard_of key shape.shards) past)
step_is shape past key place shard f is =
    ap (λ (v : ShardView). f v.terms (past_of v)) is.same
    ∙ ap (λ (steps : List Step). f (terms_of shape (shard_of key shape.shards)) steps) (reverse-reverse (steps_of (shard_of key shape.shards) past))

-- the shards after a request on one of them
pub shards_made : (shape : Shape) (past : List Event) (who : Sid)
    (request : Wanted) (key : QKey) (f : Terms → List Step → Step) (shows : Terms → List Step → Step
    → Reply) (shards : List ShardView) (place : ℕ) (shard new : ShardView)
    → HasShards shards shape past → IsShardOf shape past key place shard → new ≡ grown shard request (f shard.terms (past_of shard)) →
    HasShards (set shards place new) shape (shown_on shape past who request key f shows ∷ past)
shards_made shape past who request key f shows shards place shard new has is grew =
    let home = shard_of key shape.shards in
    let made = f (terms_of shape home) (steps_of home past) in
    let after : new ≡ grown (shard_after shape past home) request made =
    grew ∙ ap (λ (s : Step). grown shard request s) (step_is shape past key place shard f is) ∙ ap (λ (v : ShardView). grown v request made) is.same in
    let P : ℕ → Type 0 = λ n. HasShards (set shards n new) shape (shown_on shape past who request key f shows ∷ past) in
    let Q : ShardView → Type 0 = λ v. HasShards (set shards home v) shape (shown_on shape past who request key f shows ∷ past) in
    subst P (sym is.here) (subst Q (sym after) (shards_after_step shape past who request made _ home shards has is.within))

-- one more element leaves those that are there
pub slice_get_push : {X : Type 0} (xs : List X) (x : X) (place : ℕ) → place < length xs → slice_get (xs ++ x ∷ []) place ≡ slice_get xs place
slice_get_push [] x place h = absurd (omega arith)
slice_get_push (y ∷ xs) x zero h = refl
slice_get_push (y ∷ xs) x (suc place) h = slice_get_push xs x place (omega arith)

pub slice_get_pushed : {X : Type 0} (xs : List X) (x : X) → slice_get (xs ++ x ∷ []) (length xs) ≡ Some x
slice_get_pushed [] x = refl
slice_get_pushed (y ∷ xs) x = slice_get_pushed xs x

-- what is at each place below the length, and at the new one
pub each_pushed : {X : Type 0} (at : ℕ → X) (xs : List X) (x : X) (n : ℕ) → length xs ≡ n → x ≡ at n
    → ((place : ℕ) → place < n → slice_get xs place ≡ Some (at place)) → (place : ℕ) → place < n + 1 → slice_get (xs ++ x ∷ []) place ≡ Some (at place)
each_pushed {X} at xs x n count is each place below =
    ⊎_elim (λ h. slice_get_push xs x place (omega (arith, count)) ∙ each place h)
    (λ h. let last : place ≡ length xs = omega (arith, count) in
    ap (slice_get (xs ++ x ∷ [])) last ∙ slice_get_pushed xs x ∙ ap (λ (v : X). Some v) (is ∙ ap at (omega (arith, count))))
    (cases_lt place n)
