-- A request that was made on the shard of its key is the machine's event.
use Rattle.std.proofs.Common.{ℕ, zero, suc, ◌≡◌, ◌<◌, ◌-◌, ◌^◌, ◌==◌, ◌&&◌, ◌⊎◌, pos, Bool, true, false, List, [], ◌∷◌, Some, None, Result, Ok, Err}
use Rattle.std.proofs.Common.{length, get_or, slice_get, refl, sym, ap, subst, set, inl, inr, arith, ◌∙◌}
use Rattle.std.proofs.lemmas.Bool.{eqb-true, false≢true}
use Rattle.std.proofs.lemmas.List.{reverse-reverse}
use Rattle.std.proofs.lemmas.Option.{slice_get_read}
use Rattle.std.specs.Prelude.{MatchBool}
use Rattle.rows_model.specs.declared.keys.QKey.{QKey}
use Rattle.rows_model.specs.declared.keys.Sid.{Sid}
use Rattle.rows_model.specs.declared.refusals.Memory.{Memory}
use Rattle.rows_model.specs.Placement.{shard_of}
use Rattle.lease_table.specs.declared.records.Mode.TheVariants.{Invalidate, Refresh, Delta}
use Rattle.key_shard.specs.Permit.{Permit}
use Rattle.key_shard.specs.declared.steps.Step.{Step}
use Rattle.key_shard.specs.declared.steps.Step.TheVariants as step
use Rattle.key_shard.specs.declared.replies.Got.{Got}
use Rattle.key_shard.specs.declared.replies.SetAnswer.{SetAnswer}
use Rattle.key_shard.specs.declared.replies.QAnswer.{QAnswer}
use Rattle.key_shard.specs.declared.replies.Rel.{Rel}
use Rattle.key_shard.specs.declared.replies.Raising.{Raising}
use Rattle.key_shard.specs.declared.replies.Renewal.{Renewal}
use Rattle.key_shard.specs.declared.replies.How.TheVariants as how
use Rattle.key_shard.specs.Past.{Terms, draws, next_token}
use Rattle.key_shard.specs.Answers.{get_step, set_step, quarantine_step, release_step, replace_step, raise_step, renew_step}
use Rattle.key_shard.specs.Replies.{ShowsGot, ShowsSet, ShowsQuarantine, ShowsRelease, ShowsRaise, ShowsRenewal}
use Rattle.key_shard.specs.Shards.{ShardView, past_of, is_out, stepped, returned, after_raise}
use Rattle.session_client.specs.declared.plans.Shape.{Shape}
use Rattle.session_client.specs.declared.replies.Fault.TheVariants as faults
use Rattle.session_client.specs.declared.replies.Reply.{Reply}
use Rattle.session_client.specs.declared.replies.Reply.TheVariants as Reply
use Rattle.session_client.specs.declared.replies.Wanted.{Wanted}
use Rattle.session_client.specs.declared.replies.Wanted.TheVariants as wanted
use Rattle.executor.specs.OnShard.{TellsGot, TellsSet, TellsQuarantine, TellsRelease, TellsPut, TellsRaise, TellsRenewal, MakesOnShard}
use Rattle.executor.specs.Requests.{key_of}
use Rattle.core_history.specs.Cores.{HasShards, HasHome}
use Rattle.core_history.specs.Events.{Event, steps_of, now_of, reply_in}
use Rattle.core_history.specs.Machine.{World, Failed, event_of, shown_on, stepped_on, terms_of, step_reply, put_step, raise_answer, renewal_answer}
use Rattle.core_history.specs.Machine.{raise_shown, renewal_shown}
use Rattle.core_history.specs.Requests.{MakesStep, IsOutWhereReleased, GoesOn, tells_memory}
use Rattle.core_history.proofs.ShardsLemmas.{IsShardOf, grown, shards_made, shard_found, home_read}

-- what is told is what the step shows
tells_got : (terms : Terms) (past : List Step) (s : Step) (answer : Got) → ShowsGot s answer → Reply.Got answer ≡ step_reply terms past s
tells_got terms past (step.Hit key sid floor value stamp) answer h = ap Reply.Got h
tells_got terms past (step.Lease key sid floor now token deadline) answer h = ap Reply.Got h
tells_got terms past (step.Again key sid floor now standing) answer h = ap Reply.Got h
tells_got terms past (step.Own key sid) answer h = ap Reply.Got h
tells_got terms past other answer h = absurd h

tells_set : (terms : Terms) (past : List Step) (s : Step) (answer : SetAnswer) → ShowsSet s answer → Reply.Set answer ≡ step_reply terms past s
tells_set terms past (step.Stored key token now value stamp evicted) answer h = ap Reply.Set h
tells_set terms past (step.Void key token now) answer h = ap Reply.Set h
tells_set terms past other answer h = absurd h

tells_quarantine : (terms : Terms) (past : List Step) (s : Step) (answer : QAnswer)
    → ShowsQuarantine terms past s answer → Reply.Quar answer ≡ step_reply terms past s
tells_quarantine terms past (step.Granted key sid mode shift now token deadline) answer h = ap Reply.Quar h
tells_quarantine terms past (step.Held key sid mode) answer h = ap Reply.Quar h
tells_quarantine terms past (step.Refused key sid mode holder held) answer h = ap Reply.Quar h
tells_quarantine terms past other answer h = absurd h

tells_release : (terms : Terms) (past : List Step) (s : Step) (answer : Rel) → ShowsRelease s answer → Reply.Rel answer ≡ step_reply terms past s
tells_release terms past (step.Released key sid token how) answer h = ap Reply.Rel h
tells_release terms past (step.Gone key sid token) answer h = ap Reply.Rel h
tells_release terms past other answer h = absurd h

tells_raise : (past : List Step) (grant : Permit) (s : Step) (answer : Raising) → ShowsRaise past grant s answer → answer ≡ raise_answer grant past s
tells_raise past grant (step.Raised key sid token) answer h = h
tells_raise past grant (step.Shared key sid token holder) answer h = h
tells_raise past grant (step.Gone key sid token) answer h = h
tells_raise past grant other answer h = absurd h

tells_renewal : (s : Step) (answer : Renewal) → ShowsRenewal s answer → answer ≡ renewal_answer s
tells_renewal (step.Renewed key sid token now deadline) answer h = h
tells_renewal (step.Gone key sid token) answer h = h
tells_renewal other answer h = absurd h

-- what follows a shard's own past is what follows the steps on it
shown_is : (shape : Shape) (past : List Event) (key : QKey) (place : ℕ) (shard : ShardView) (g : Terms → List Step → Reply)
    → IsShardOf shape past key place shard
    → g shard.terms (past_of shard) ≡ g (terms_of shape (shard_of key shape.shards)) (steps_of (shard_of key shape.shards) past)
shown_is shape past key place shard g is =
    ap (λ (v : ShardView). g v.terms (past_of v)) is.same
    ∙ ap (λ (steps : List Step). g (terms_of shape (shard_of key shape.shards)) steps) (reverse-reverse (steps_of (shard_of key shape.shards) past))

-- the shard of the key made the step, and told what is shown of it
shown_made : (shape : Shape) (world : World) (who : Sid) (request : Wanted)
    (key : QKey) (f : Terms → List Step → Step) (shows : Terms → List Step → Step → Reply)
    (shards : List ShardView) (place : ℕ) (shard new : ShardView) (reply : Reply) →
    event_of shape world who request Failed ≡ shown_on shape world.past who request key f shows
    → HasShards shards shape world.past → IsShardOf shape world.past key place shard →
    new ≡ grown shard request (f shard.terms (past_of shard)) → reply ≡ shows shard.terms (past_of shard) (f shard.terms (past_of shard))
    → MakesStep shape world who request (set shards place new) (Ok reply)
shown_made shape world who request key f shows shards place shard new reply event has is grew tells =
    let g : Terms → List Step → Reply = λ terms steps. shows terms steps (f terms steps) in
    let P : Event → Type 0 = λ e. HasShards (set shards place new) shape (e ∷ world.past) in (
      tells ∙ shown_is shape world.past key place shard g is
          ∙ ap reply_in (sym event),
      subst P (sym event) (shards_made shape world.past who request key f shows shards place shard new has is grew),
    )

step_made : (shape : Shape) (world : World) (who : Sid) (request : Wanted)
    (key : QKey) (f : Terms → List Step → Step) (shards : List ShardView) (place : ℕ) (shard new : ShardView) (reply : Reply) →
    event_of shape world who request Failed ≡ stepped_on shape world.past who request key f
    → HasShards shards shape world.past → IsShardOf shape world.past key place shard →
    new ≡ grown shard request (f shard.terms (past_of shard)) → reply ≡ step_reply shard.terms (past_of shard) (f shard.terms (past_of shard))
    → MakesStep shape world who request (set shards place new) (Ok reply)
step_made shape world who request key f shards place shard new reply event has is grew tells =
    shown_made shape world who request key f step_reply shards place shard new reply event has is grew tells

-- so it is where the step goes by the time
timely : (shape : Shape) (world : World) (who : Sid) (request : Wanted) (key : QKey) (f : ℕ → Terms → List Step → Step)
    (now : ℕ) (shards : List ShardView) (place : ℕ) (shard new : ShardView) (reply : Reply) → now ≡ now_of world.past →
    event_of shape world who request Failed ≡ stepped_on shape world.past who request key (f (now_of world.past))
    → HasShards shards shape world.past → IsShardOf shape world.past key place shard →
    new ≡ grown shard request (f now shard.terms (past_of shard)) → reply ≡ step_reply shard.terms (past_of shard) (f now shard.terms (past_of shard))
    → MakesStep shape world who request (set shards place new) (Ok reply)
timely shape world who request key f now shards place shard new reply time event has is grew tells =
    step_made shape world who request key (f now) shards place shard new reply
    (event ∙ ap (λ (n : ℕ). stepped_on shape world.past who request key (f n)) (sym time)) has is grew tells

-- What came of a request on a shard: it was made, and the shard is the one after that; or memory ran out, and the shard is as before.
abbrev Became : {A : Type 0} → (A → Reply) → (A → Type 0) → ShardView → ShardView → ShardView → Reply → Type 0
Became {A} variant shows old next new reply =
    ((answer : A) × (reply ≡ variant answer) × (tells_memory reply ≡ false) × (new ≡ next) × shows answer)
    ⊎ ((tells_memory reply ≡ true) × (new ≡ old))

-- there is a token left
unspent : (draw : Bool) (next : ℕ) → next < 2 ^ 64 - 1 → (draw && (next == 2 ^ 64 - 1)) ≡ true → ⊥
unspent true next below e = let last : next ≡ 2 ^ 64 - 1 = eqb-true next (2 ^ 64 - 1) e in omega (arith, last)
unspent false next below e = false≢true e

-- the part that is so of a grant that is out
of_out : {X : Type 0} (Y : Type 0) (b : Bool) → b ≡ true → MatchBool b X Y → X
of_out Y true e h = h
of_out Y false e h = absurd (false≢true e)

got_became : (old new : ShardView) (s : Step) (reply : Reply) → next_token old.terms (past_of old) < 2 ^ 64 - 1 → TellsGot old s new reply
    → Became Reply.Got (ShowsGot s) old (stepped old s) new reply
got_became old new s (Reply.Got got) below h = inl (got, refl, refl, h.0, h.1)
got_became old new s (Reply.Fault faults.Memory) below h = inr (refl, h.0)
got_became old new s (Reply.Fault faults.Spent) below h = absurd (unspent (draws s) (next_token old.terms (past_of old)) below h.1)
got_became old new s (Reply.Fault faults.Keep) below h = absurd h.1
got_became old new s other below h = absurd h

quarantine_became : (old new : ShardView) (s : Step) (reply : Reply) → next_token old.terms (past_of old) < 2 ^ 64 - 1 → TellsQuarantine old s new reply
    → Became Reply.Quar (ShowsQuarantine old.terms (past_of old) s) old (stepped old s) new reply
quarantine_became old new s (Reply.Quar answer) below h = inl (answer, refl, refl, h.0, h.1)
quarantine_became old new s (Reply.Fault faults.Memory) below h = inr (refl, h.0)
quarantine_became old new s (Reply.Fault faults.Spent) below h = absurd (unspent (draws s) (next_token old.terms (past_of old)) below h.1)
quarantine_became old new s (Reply.Fault faults.Keep) below h = absurd h.1
quarantine_became old new s other below h = absurd h

set_became : (old new : ShardView) (s : Step) (reply : Reply) → TellsSet old s new reply → Became Reply.Set (ShowsSet s) old (stepped old s) new reply
set_became old new s (Reply.Set answer) h = inl (answer, refl, refl, h.0, h.1)
set_became old new s (Reply.Fault faults.Memory) h = inr (refl, h.0)
set_became old new s (Reply.Fault faults.Spent) h = absurd cc
set_became old new s (Reply.Fault faults.Keep) h = absurd cc
set_became old new s other h = absurd h

release_became : (old new : ShardView) (grant : Permit) (s : Step) (reply : Reply) → is_out old grant ≡ true → TellsRelease old grant s new reply
    → Became Reply.Rel (ShowsRelease s) old (returned old grant s) new reply
release_became old new grant s (Reply.Rel answer) out h = let made = of_out _ (is_out old grant) out h in inl (answer, refl, refl, made.0, made.1)
release_became old new grant s other out h = absurd h

put_became : (old new : ShardView) (grant : Permit) (s : Step) (reply : Reply) → is_out old grant ≡ true → TellsPut old grant s new reply
    → Became Reply.Rel (ShowsRelease s) old (returned old grant s) new reply
put_became old new grant s (Reply.Rel answer) out h = let made = of_out _ (is_out old grant) out h in inl (answer, refl, refl, made.0, made.1)
put_became old new grant s (Reply.SarBack back) out h = inr (refl, h.0)
put_became old new grant s other out h = absurd h

raise_became : (old new : ShardView) (grant : Permit) (s : Step) (reply : Reply) → is_out old grant ≡ true → TellsRaise old grant s new reply
    → Became Reply.Raise (ShowsRaise (past_of old) grant s) old (after_raise old grant s) new reply
raise_became old new grant s (Reply.Raise answer) out h = let made = of_out _ (is_out old grant) out h in inl (answer, refl, refl, made.0, made.1)
raise_became old new grant s (Reply.RaiseBack back) out h = inr (refl, h.0)
raise_became old new grant s other out h = absurd h

-- what is told of a renewal of this grant
abbrev renewed_as : Permit → Renewal → Reply
renewed_as grant answer = Reply.Renew grant (Some answer)

renewal_became : (old new : ShardView) (grant : Permit) (s : Step) (reply : Reply) → is_out old grant ≡ true → TellsRenewal old grant s new reply
    → Became (renewed_as grant) (ShowsRenewal s) old (stepped old s) new reply
renewal_became old new grant s (Reply.Renew back (Some answer)) out h =
    let made = of_out _ (is_out old grant) out h.1 in
    inl (answer, ap (λ (p : Permit). Reply.Renew p (Some answer)) h.0, refl, made.0, made.1)
renewal_became old new grant s (Reply.Renew back None) out h = inr (refl, h.1)
renewal_became old new grant s other out h = absurd h

-- a list stays where a place is written with what it has
set_same : {X : Type 0} (xs : List X) (place : ℕ) (x : X) → slice_get xs place ≡ Some x → set xs place x ≡ xs
set_same [] place x is = refl
set_same {X} (y ∷ xs) zero x is = ap (λ (z : X). z ∷ xs) cc
set_same {X} (y ∷ xs) (suc place) x is = ap (λ (l : List X). y ∷ l) (set_same xs place x is)

-- the turn is the event where the request was made, and leaves the shards where memory ran out
made_by : {A : Type 0} (variant : A → Reply) (shows : A → Type 0) (shape : Shape) (world : World) (who : Sid) (request : Wanted) (shards : List ShardView)
    (place : ℕ) (shard next new : ShardView) (reply : Reply) (result : Result Reply Memory) → HasShards shards shape world.past
    → slice_get shards place ≡ Some shard → ((answer : A) → shows answer → MakesStep shape world who request (set shards place next) (Ok (variant answer)))
    → Became variant shows shard next new reply → GoesOn reply result → MakesStep shape world who request (set shards place new) result
made_by variant shows shape world who request shards place shard next new reply (Ok kept) has there made (inl h) goes =
    let P : Reply → Type 0 = λ r. MakesStep shape world who request (set shards place new) (Ok r) in
    let Q : ShardView → Type 0 = λ v. MakesStep shape world who request (set shards place v) (Ok (variant h.0)) in
    subst P (sym (goes.0 ∙ h.1)) (subst Q (sym h.3) (made h.0 h.4))
made_by variant shows shape world who request shards place shard next new reply (Err memory) has there made (inl h) goes =
    absurd (false≢true (sym h.2 ∙ goes))
made_by variant shows shape world who request shards place shard next new reply (Ok kept) has there made (inr h) goes =
    absurd (false≢true (sym goes.1 ∙ h.0))
made_by variant shows shape world who request shards place shard next new reply (Err memory) has there made (inr h) goes =
    let P : List ShardView → Type 0 = λ xs. HasShards xs shape world.past in
    let Q : ShardView → Type 0 = λ v. HasShards (set shards place v) shape world.past in
    subst Q (sym h.1) (subst P (sym (set_same shards place shard there)) has)

-- The shard at this place is that of the request's key, and has a token left.
pub record IsAsked (shards : List ShardView) (request : Wanted) (place : ℕ) (shard : ShardView) : Type 0 where
  pub at : (key : QKey) → key_of request ≡ Some key → place ≡ shard_of key (length shards)
  pub found : (key : QKey) → key_of request ≡ Some key → slice_get shards (shard_of key (length shards)) ≡ Some shard
  pub there : slice_get shards place ≡ Some shard
  pub left : next_token shard.terms (past_of shard) < 2 ^ 64 - 1

-- so it is of the shard that is read at the place of the request's key
pub asked_at : (shards : List ShardView) (request : Wanted) (key : QKey) (place : ℕ) (shard : ShardView) → key_of request ≡ Some key
    → HasHome shards key → place ≡ shard_of key (length shards) → place < length shards → shard ≡ get_or shards place shard
    → IsAsked shards request place shard
asked_at shards request key place shard on home here within read =
    let found = home_read key shards here within read in
    let F : QKey → Type 0 = λ k. slice_get shards (shard_of k (length shards)) ≡ Some shard in
    record {
      at = λ other e. here ∙ ap (λ (k : QKey). shard_of k (length shards)) (same (sym on ∙ e));
      found = λ other e. subst F (same (sym on ∙ e)) found;
      there = slice_get_read shards (length shards) place shard refl within read;
      left = home.unspent shard found;
    }
  where
    same : {a b : QKey} → Some a ≡ Some b → a ≡ b
    same e = cc

raise_grown : (shard : ShardView) (grant : Permit) (s : Step) → after_raise shard grant s ≡ grown shard (wanted.Raise grant) s
raise_grown shard grant (step.Gone key sid token) = refl
raise_grown shard grant other = refl

-- what the executor made of a shard is the event of the request
pub request_made : (shape : Shape) (world : World) (who : Sid) (request : Wanted) (now : ℕ) (shards : List ShardView) (place : ℕ)
    (shard new : ShardView) (reply : Reply) (result : Result Reply Memory) → IsAsked shards request place shard → IsOutWhereReleased shards request
    → now ≡ now_of world.past → HasShards shards shape world.past → MakesOnShard shard who request now new reply → GoesOn reply result
    → MakesStep shape world who request (set shards place new) result
request_made shape world who request now shards place shard new reply result asked out time has makes goes =
    by request asked out makes
  where
    past : List Step
    past = past_of shard

    home : (request : Wanted) (key : QKey) → IsAsked shards request place shard → key_of request ≡ Some key → IsShardOf shape world.past key place shard
    home request key asked e = shard_found shape world.past key shards place shard has (asked.at key e) (asked.found key e)

    by : (request : Wanted) → IsAsked shards request place shard → IsOutWhereReleased shards request → MakesOnShard shard who request now new reply
        → MakesStep shape world who request (set shards place new) result
    by (wanted.Get key floor) asked out makes =
        let w = wanted.Get key floor in
        let is = home w key asked refl in
        let f : ℕ → Terms → List Step → Step = λ n terms steps. get_step terms steps key who floor n in
        let s = f now shard.terms past in
        made_by Reply.Got (ShowsGot s) shape world who w shards place shard (stepped shard s) new reply result has asked.there
        (λ answer shows. timely shape world who w key f now shards place shard (stepped shard s) (Reply.Got answer) time refl has is
        refl (tells_got shard.terms past s answer shows)) (got_became shard new s reply asked.left makes) goes
    by (wanted.Set key token value stamp) asked out makes =
        let w = wanted.Set key token value stamp in
        let is = home w key asked refl in
        let f : ℕ → Terms → List Step → Step = λ n terms steps. set_step terms steps key token value stamp n in
        let s = f now shard.terms past in
        made_by Reply.Set (ShowsSet s) shape world who w shards place shard (stepped shard s) new reply result has asked.there
        (λ answer shows. timely shape world who w key f now shards place shard (stepped shard s) (Reply.Set answer) time refl has is
        refl (tells_set shard.terms past s answer shows)) (set_became shard new s reply makes) goes
    by (wanted.QaReg key) asked out makes =
        let w = wanted.QaReg key in
        let is = home w key asked refl in
        let f : ℕ → Terms → List Step → Step = λ n terms steps. quarantine_step terms steps key who Invalidate (pos 0) n in
        let s = f now shard.terms past in
        made_by Reply.Quar (ShowsQuarantine shard.terms past s) shape world who w shards place shard (stepped shard s) new reply result has asked.there
        (λ answer shows. timely shape world who w key f now shards place shard (stepped shard s) (Reply.Quar answer) time refl has is
        refl (tells_quarantine shard.terms past s answer shows)) (quarantine_became shard new s reply asked.left makes) goes
    by (wanted.QaRead key) asked out makes =
        let w = wanted.QaRead key in
        let is = home w key asked refl in
        let f : ℕ → Terms → List Step → Step = λ n terms steps. quarantine_step terms steps key who Refresh (pos 0) n in
        let s = f now shard.terms past in
        made_by Reply.Quar (ShowsQuarantine shard.terms past s) shape world who w shards place shard (stepped shard s) new reply result has asked.there
        (λ answer shows. timely shape world who w key f now shards place shard (stepped shard s) (Reply.Quar answer) time refl has is
        refl (tells_quarantine shard.terms past s answer shows)) (quarantine_became shard new s reply asked.left makes) goes
    by (wanted.Delta key more) asked out makes =
        let w = wanted.Delta key more in
        let is = home w key asked refl in
        let f : ℕ → Terms → List Step → Step = λ n terms steps. quarantine_step terms steps key who Delta more n in
        let s = f now shard.terms past in
        made_by Reply.Quar (ShowsQuarantine shard.terms past s) shape world who w shards place shard (stepped shard s) new reply result has asked.there
        (λ answer shows. timely shape world who w key f now shards place shard (stepped shard s) (Reply.Quar answer) time refl has is
        refl (tells_quarantine shard.terms past s answer shows)) (quarantine_became shard new s reply asked.left makes) goes
    by (wanted.Dar grant) asked out makes =
        let w = wanted.Dar grant in
        let s = release_step past grant how.Drop in
        made_by Reply.Rel (ShowsRelease s) shape world who w shards place shard (returned shard grant s) new reply result has asked.there
        (λ answer shows. step_made shape world who w grant.key (λ terms steps. release_step steps grant how.Drop) shards place shard (returned shard grant s)
        (Reply.Rel answer) refl has (home w grant.key asked refl) refl (tells_release shard.terms past s answer shows))
        (release_became shard new grant s reply (out shard (asked.found grant.key refl)) makes) goes
    by (wanted.Abort grant) asked out makes =
        let w = wanted.Abort grant in
        let s = release_step past grant how.Keep in
        made_by Reply.Rel (ShowsRelease s) shape world who w shards place shard (returned shard grant s) new reply result has asked.there
        (λ answer shows. step_made shape world who w grant.key (λ terms steps. release_step steps grant how.Keep) shards place shard (returned shard grant s)
        (Reply.Rel answer) refl has (home w grant.key asked refl) refl (tells_release shard.terms past s answer shows))
        (release_became shard new grant s reply (out shard (asked.found grant.key refl)) makes) goes
    by (wanted.Apply grant stamp) asked out makes =
        let w = wanted.Apply grant stamp in
        let s = release_step past grant (how.Shift stamp) in
        made_by Reply.Rel (ShowsRelease s) shape world who w shards place shard (returned shard grant s) new reply result has asked.there
        (λ answer shows. step_made shape world who w grant.key (λ terms steps. release_step steps grant (how.Shift stamp)) shards place shard
        (returned shard grant s) (Reply.Rel answer) refl has (home w grant.key asked refl) refl (tells_release shard.terms past s answer shows))
        (release_became shard new grant s reply (out shard (asked.found grant.key refl)) makes) goes
    by (wanted.Sar grant None stamp) asked out makes =
        let w = wanted.Sar grant None stamp in
        let s = release_step past grant how.Drop in
        made_by Reply.Rel (ShowsRelease s) shape world who w shards place shard (returned shard grant s) new reply result has asked.there
        (λ answer shows. step_made shape world who w grant.key (λ terms steps. put_step terms steps grant None stamp) shards place shard
        (returned shard grant s) (Reply.Rel answer) refl has (home w grant.key asked refl) refl (tells_release shard.terms past s answer shows))
        (release_became shard new grant s reply (out shard (asked.found grant.key refl)) makes) goes
    by (wanted.Sar grant (Some value) stamp) asked out makes =
        let w = wanted.Sar grant (Some value) stamp in
        let s = replace_step shard.terms past grant value stamp in
        made_by Reply.Rel (ShowsRelease s) shape world who w shards place shard (returned shard grant s) new reply result has asked.there
        (λ answer shows. step_made shape world who w grant.key (λ terms steps. put_step terms steps grant (Some value) stamp) shards place shard
        (returned shard grant s) (Reply.Rel answer) refl has (home w grant.key asked refl) refl (tells_release shard.terms past s answer shows))
        (put_became shard new grant s reply (out shard (asked.found grant.key refl)) makes) goes
    by (wanted.Raise grant) asked out makes =
        let w = wanted.Raise grant in
        let s = raise_step past grant in
        made_by Reply.Raise (ShowsRaise past grant s) shape world who w shards place shard (after_raise shard grant s) new reply result has asked.there
        (λ answer shows. shown_made shape world who w grant.key (λ terms steps. raise_step steps grant) (raise_shown grant) shards place shard
        (after_raise shard grant s) (Reply.Raise answer) refl has (home w grant.key asked refl) (raise_grown shard grant s)
        (ap Reply.Raise (tells_raise past grant s answer shows)))
        (raise_became shard new grant s reply (out shard (asked.found grant.key refl)) makes) goes
    by (wanted.Renew grant) asked out makes =
        let w = wanted.Renew grant in
        let f : ℕ → Terms → List Step → Step = λ n terms steps. renew_step terms steps grant n in
        let s = f now shard.terms past in
        made_by (renewed_as grant) (ShowsRenewal s) shape world who w shards place shard (stepped shard s) new reply result has asked.there
        (λ answer shows. shown_made shape world who w grant.key (f now) (renewal_shown grant) shards place shard (stepped shard s) (renewed_as grant answer)
        (ap (λ (n : ℕ). shown_on shape world.past who w grant.key (f n) (renewal_shown grant)) (sym time)) has (home w grant.key asked refl) refl
        (ap (renewed_as grant) (tells_renewal s answer shows)))
        (renewal_became shard new grant s reply (out shard (asked.found grant.key refl)) makes) goes
    by other asked out makes = absurd makes
