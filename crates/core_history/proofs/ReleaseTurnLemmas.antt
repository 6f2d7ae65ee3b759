-- A turn in which a writer releases a grant keeps the facts.
use Rattle.std.proofs.Common.{ℕ, ◌≡◌, Bool, true, false, cond, List, ◌∷◌, Option, Some, None, slice_get, refl, sym, ap, subst, ◌∙◌, inl, inr, ◌⊎◌, arith}
use Rattle.std.specs.List.{list_any}
use Rattle.rows_model.specs.declared.keys.QKey.{QKey}
use Rattle.rows_model.specs.declared.keys.Sid.{Sid}
use Rattle.rows_model.specs.declared.changes.Change.{Change}
use Rattle.rows_model.specs.Placement.{shard_of}
use Rattle.rows_model.specs.Delta.{is_count}
use Rattle.rows_model.specs.Refresh.{refreshed}
use Rattle.lease_table.specs.declared.records.Mode.{Mode}
use Rattle.lease_table.specs.declared.records.Mode.TheVariants.{Invalidate, Refresh, Delta}
use Rattle.lease_table.specs.declared.records.Quar.{Quar}
use Rattle.key_shard.specs.Permit.{Permit}
use Rattle.key_shard.specs.declared.replies.How.{How}
use Rattle.key_shard.specs.declared.replies.How.TheVariants as hows
use Rattle.key_shard.specs.declared.replies.Rel.{Rel}
use Rattle.key_shard.specs.declared.replies.Rel.TheVariants as rel
use Rattle.key_shard.specs.declared.steps.Ended.{Ended}
use Rattle.key_shard.specs.declared.steps.Ended.TheVariants as ended
use Rattle.key_shard.specs.declared.steps.Step.{Step}
use Rattle.key_shard.specs.declared.steps.Step.TheVariants as step
use Rattle.key_shard.specs.Past.{Terms, evicted_by, evicts, quar_of, grants}
use Rattle.key_shard.specs.Answers.{Answers, Release, Replace, FitsMode, OwesRelease, OwesReplace, release_step, replace_step, ended_as}
use Rattle.key_shard.specs.LegalStands.{StandsWell}
use Rattle.key_shard.proofs.CaseLemmas.{release_cases, replace_cases}
use Rattle.key_shard.proofs.LegalLemmas.{distinct, own_token}
use Rattle.sql_keeper.specs.Fresh.{quarantines}
use Rattle.key_freshness.specs.Known.{IsAmong}
use Rattle.session_client.specs.declared.plans.Plan.{Plan}
use Rattle.session_client.specs.declared.plans.Shape.{Shape}
use Rattle.session_client.specs.declared.replies.Reply.TheVariants as Reply
use Rattle.session_client.specs.declared.replies.Wanted.{Wanted}
use Rattle.session_client.specs.declared.replies.Wanted.TheVariants as wanted
use Rattle.session_client.specs.Plans.{changes_of, mode_of, mode_on, shift_in}
use Rattle.session_client.specs.Wants.{Given, given, released, number_of, new_value, writing_of}
use Rattle.session_client.proofs.WantCases.{given-granted, none-uncommitted}
use Rattle.core_history.specs.Events.{Event, Stepped, steps_of, heard_by, log_of, ended_of, has_committed}
use Rattle.core_history.specs.Machine.{World, Said, terms_of, plan_at, step_reply, put_step}
use Rattle.core_history.specs.Facts.{grants_as}
use Rattle.core_history.proofs.GoodEvents.{IsGoodStep, IsGoodEvent, WritesOwn}
use Rattle.core_history.proofs.EventLemmas.{closed, closed-more, closed-over, ended-among, committed-heard, uncommitted-more, late-stepped}
use Rattle.core_history.proofs.EventLemmas.{counted-mild, IsKnown}
use Rattle.core_history.proofs.SessionLemmas.{finds-none, ReturnsGrant, LeavesOpen, leaves-quiet, leaves-ended, stood-returned, IsNumber}
use Rattle.core_history.proofs.WriterLemmas.{writer-released}
use Rattle.core_history.proofs.PlannedLemmas.{GrantsPlanned}
use Rattle.core_history.proofs.InnerLemmas.{Inner, with_event, stepped-inner, stands_well}
use Rattle.core_history.proofs.ReadTurnLemmas.{After}
use Rattle.core_history.proofs.WritingLemmas.{IsWriter, IsMine, some_plan, stands-mine}

-- the request releases the next grant that the session was given, and the session is closed
pub record IsDueNext (shape : Shape) (world : World) (n : ℕ) (request : Wanted) (one : Given) : Type 0 where
  pub returns : ReturnsGrant one.permit request
  pub at : slice_get (given (heard_by n world.past)) (released (heard_by n world.past)) ≡ Some one
  pub shut : closed n world.past ≡ true

-- the past of the shard of a grant
abbrev steps_for : Shape → World → Permit → List Step
steps_for shape world grant = steps_of (shard_of grant.key shape.shards) world.past

-- the event of a release whose step this is, and what becomes of it
abbrev released_event : Shape → World → Sid → Wanted → Permit → Step → Event
released_event shape world who request grant s =
    Stepped (shard_of grant.key shape.shards) who request s (step_reply (terms_of shape (shard_of grant.key shape.shards)) (steps_for shape world grant) s)

abbrev Becomes : Shape → World → Sid → Wanted → Permit → Step → Type 0
Becomes shape world who request grant s =
    Inner shape (with_event world (released_event shape world who request grant s))
    × IsGoodEvent shape world.past (released_event shape world who request grant s)

-- a release that grants nothing, and leaves what stands for sessions that aren't closed
returned-inner : (shape : Shape) (world : World) (who : Sid) (plan : Plan) (request : Wanted) (one : Given) (s : Step) (answer : Rel)
    → Inner shape world → IsWriter shape world who.number plan
    → IsDueNext shape world who.number request one → Answers (terms_of shape (shard_of one.permit.key shape.shards)) (steps_for shape world one.permit) s
    → IsKnown (Stepped (shard_of one.permit.key shape.shards) who request s (Reply.Rel answer) ∷ world.past) s → GrantsPlanned world.plans s
    → ((key : QKey) (by : Sid) → quarantines key by s ≡ false) → ((key : QKey) (token : ℕ) → grants_as key token s ≡ false)
    → LeavesOpen shape world.past (shard_of one.permit.key shape.shards) s
    → Inner shape (with_event world (Stepped (shard_of one.permit.key shape.shards) who request s (Reply.Rel answer)))
returned-inner shape world who plan request one s answer inner w due answers known planned none calm leaves =
    let past = world.past in
    let grant = one.permit in
    let home = shard_of grant.key shape.shards in
    let heard = heard_by who.number past in
    let event = Stepped home who request s (Reply.Rel answer) in
    let at = given-granted heard (released heard) one due.at in
    let mine = (w.writer.fits (released heard) grant at).own in
    stepped-inner shape world home who request s (Reply.Rel answer) inner answers known planned refl
    (counted-mild shape.shards home who request s (Reply.Rel answer) none refl)
    (λ n other. finds-none shape home who request s (Reply.Rel answer) past n calm)
    (λ n other g own. stood-returned shape home who request s (Reply.Rel answer) past grant due.returns leaves n g
    (λ same. other (sym mine ∙ ap (λ (p : Permit). p.sid.number) same ∙ own)))
    (w.stays event (Reply.Rel answer)
    (writer-released shape past home who request s answer grant heard (writing_of plan) due.returns calm at due.shut w.writer))

-- the quarantine is gone
gone-turn : (shape : Shape) (world : World) (who : Sid) (plan : Plan) (request : Wanted) (one : Given)
    → Inner shape world → IsWriter shape world who.number plan
    → IsDueNext shape world who.number request one
    → Answers (terms_of shape (shard_of one.permit.key shape.shards))
    (steps_for shape world one.permit) (step.Gone one.permit.key one.permit.sid one.permit.token)
    → Becomes shape world who request one.permit (step.Gone one.permit.key one.permit.sid one.permit.token)
gone-turn shape world who plan request one inner w due answers =
    let s = step.Gone one.permit.key one.permit.sid one.permit.token in (
      returned-inner shape world who plan request one s rel.Gone inner w due answers tt tt
          (λ k v. refl) (λ k t. refl) (leaves-quiet shape world.past (shard_of one.permit.key shape.shards) s tt),
      record { home = refl; good = tt; own = tt; no_commit = refl; no_end = refl },
    )

-- the quarantine ends
ended-turn : (shape : Shape) (world : World) (who : Sid) (plan : Plan) (request : Wanted) (one : Given) (quar : Quar) (how : Ended)
    → Inner shape world → IsWriter shape world who.number plan
    → IsDueNext shape world who.number request one → quar_of one.permit.key one.permit.token (steps_for shape world one.permit) ≡ Some quar
    → quar.sid.number ≡ who.number
    → Answers (terms_of shape (shard_of one.permit.key shape.shards))
    (steps_for shape world one.permit) (step.Released one.permit.key quar.sid one.permit.token how)
    → (how ≡ ended.Keep → has_committed who.number world.past ≡ false)
    → IsGoodStep world.past (steps_for shape world one.permit) who (step.Released one.permit.key quar.sid one.permit.token how)
    → Becomes shape world who request one.permit (step.Released one.permit.key quar.sid one.permit.token how)
ended-turn shape world who plan request one quar how inner w due found mine answers kept good =
    let past = world.past in
    let key = one.permit.key in
    let token = one.permit.token in
    let home = shard_of key shape.shards in
    let terms = terms_of shape home in
    let steps = steps_of home past in
    let s = step.Released key quar.sid token how in
    let reply = Reply.Rel (rel.Released (evicted_by how)) in
    let event = Stepped home who request s reply in
    let well : StandsWell terms steps key = stands_well shape world inner key in
    let C : ℕ → Type 0 = λ n. (closed n (event ∷ past) ≡ true) × (how ≡ ended.Keep → has_committed n (event ∷ past) ≡ false) in
    let shut : closed quar.sid.number past ≡ true = subst (λ n. closed n past ≡ true) (sym mine) due.shut in (
      returned-inner shape world who plan request one s (rel.Released (evicted_by how)) inner w due answers
          (subst C (sym mine) (
            closed-more who.number event past due.shut,
            λ k. uncommitted-more who.number event past (late-stepped home who request s reply past refl who.number due.shut) (kept k),
          ))
          tt (λ k v. refl) (λ k t. refl) (leaves-ended shape past home key quar.sid token how quar (distinct terms steps key well) found shut),
      record { home = refl; good = good; own = λ by stands. sym (own_token terms steps key by token quar well stands found); no_commit = refl; no_end = refl },
    )

-- the grant that is due next, where its quarantine stands, and that it was granted
due-mine : (shape : Shape) (world : World) (who : Sid) (plan : Plan) (request : Wanted) (one : Given) (quar : Quar)
    → Inner shape world → IsWriter shape world who.number plan
    → IsDueNext shape world who.number request one → quar_of one.permit.key one.permit.token (steps_for shape world one.permit) ≡ Some quar
    → IsMine who.number plan one.permit quar
due-mine shape world who plan request one quar inner w due found =
    let heard = heard_by who.number world.past in
    stands-mine shape world who plan (released heard) one.permit quar inner w (given-granted heard (released heard) one due.at) found

due-was : (shape : Shape) (world : World) (who : Sid) (plan : Plan) (request : Wanted) (one : Given) → IsWriter shape world who.number plan
    → IsDueNext shape world who.number request one → list_any (grants one.permit) (steps_for shape world one.permit) ≡ true
due-was shape world who plan request one w due =
    let heard = heard_by who.number world.past in
    (w.writer.stood (released heard) one.permit (given-granted heard (released heard) one due.at) (omega arith)).was

-- a release that keeps, drops or shifts the value
release-turn : (shape : Shape) (world : World) (who : Sid) (plan : Plan) (request : Wanted) (one : Given) (how : How)
    → Inner shape world → IsWriter shape world who.number plan
    → IsDueNext shape world who.number request one → FitsMode one.permit.mode how
    → ((quar : Quar) → ended_as quar how ≡ ended.Keep → has_committed who.number world.past ≡ false)
    → ((quar : Quar) → quar_of one.permit.key one.permit.token (steps_for shape world one.permit) ≡ Some quar → IsMine who.number plan one.permit quar
    → IsGoodStep world.past (steps_for shape world one.permit) who (step.Released one.permit.key quar.sid one.permit.token (ended_as quar how)))
    → Becomes shape world who request one.permit (release_step (steps_for shape world one.permit) one.permit how)
release-turn shape world who plan request one how inner w due fits kept good =
    release_cases P steps grant how
    (λ quar found is.
    let m = due-mine shape world who plan request one quar inner w due found in
    let M : Mode → Type 0 = λ mode. FitsMode mode how in
    ended-turn shape world who plan request one quar (ended_as quar how) inner w due found m.own
    (record {
      request = Release grant how;
      at_home = refl;
      owed = subst (OwesRelease steps grant how) (sym found) (m.of, subst M (sym m.of.mode) fits);
      answer = is;
    })
    (kept quar) (good quar found m))
    (λ none is.
    gone-turn shape world who plan request one inner w due
    (record {
      request = Release grant how;
      at_home = refl;
      owed = subst (OwesRelease steps grant how) (sym none) (due-was shape world who plan request one w due);
      answer = is;
    }))
    refl
  where
    grant : Permit
    grant = one.permit

    steps : List Step
    steps = steps_for shape world one.permit

    P : Step → Type 0
    P s = s ≡ release_step steps grant how → Becomes shape world who request grant s

-- a release with a new value
replace-turn : (shape : Shape) (world : World) (who : Sid) (plan : Plan) (request : Wanted) (one : Given) (value : List ℕ) (stamp : ℕ)
    → Inner shape world → IsWriter shape world who.number plan
    → IsDueNext shape world who.number request one → one.permit.mode ≡ Refresh
    → ((quar : Quar) → quar_of one.permit.key one.permit.token (steps_for shape world one.permit) ≡ Some quar → IsMine who.number plan one.permit quar
    → IsGoodStep world.past (steps_for shape world one.permit) who
    (step.Released one.permit.key quar.sid one.permit.token
    (ended.Put value stamp (evicts (terms_of shape (shard_of one.permit.key shape.shards)) one.permit.key (steps_for shape world one.permit)))))
    → Becomes shape world who request one.permit
    (replace_step (terms_of shape (shard_of one.permit.key shape.shards)) (steps_for shape world one.permit) one.permit value stamp)
replace-turn shape world who plan request one value stamp inner w due fits good =
    replace_cases P terms steps grant value stamp
    (λ quar found is.
    let m = due-mine shape world who plan request one quar inner w due found in
    ended-turn shape world who plan request one quar (ended.Put value stamp (evicts terms grant.key steps)) inner w due found m.own
    (record { request = Replace grant value stamp; at_home = refl; owed = subst (OwesReplace steps grant) (sym found) (m.of, m.of.mode ∙ fits); answer = is })
    (λ e. cc) (good quar found m))
    (λ none is.
    gone-turn shape world who plan request one inner w due
    (record {
      request = Replace grant value stamp;
      at_home = refl;
      owed = subst (OwesReplace steps grant) (sym none) (due-was shape world who plan request one w due);
      answer = is;
    }))
    refl
  where
    grant : Permit
    grant = one.permit

    terms : Terms
    terms = terms_of shape (shard_of one.permit.key shape.shards)

    steps : List Step
    steps = steps_for shape world one.permit

    P : Step → Type 0
    P s = s ≡ replace_step terms steps grant value stamp → Becomes shape world who request grant s

-- the value is kept by a session that hasn't committed
pub abort-turn : (shape : Shape) (world : World) (who : Sid) (said : Said) (plan : Plan) (one : Given)
    → Inner shape world → IsWriter shape world who.number plan
    → IsDueNext shape world who.number (wanted.Abort one.permit) one
    → number_of (heard_by who.number world.past) ≡ None → After shape world who said (wanted.Abort one.permit)
abort-turn shape world who said plan one inner w due none =
    let never : has_committed who.number world.past ≡ false = committed-heard who.number world.past ∙ none-uncommitted (heard_by who.number world.past) none in
    release-turn shape world who plan (wanted.Abort one.permit) one hows.Keep inner w due tt (λ quar e. never)
    (λ quar found m. subst (λ n. IsAmong n (ended_of world.past)) (sym m.own) (ended-among who.number world.past due.shut never))

-- the value is dropped, whatever the session asked for
dropped-turn : (shape : Shape) (world : World) (who : Sid) (plan : Plan) (request : Wanted) (one : Given)
    → Inner shape world → IsWriter shape world who.number plan
    → IsDueNext shape world who.number request one
    → Becomes shape world who request one.permit (release_step (steps_for shape world one.permit) one.permit hows.Drop)
dropped-turn shape world who plan request one inner w due =
    release-turn shape world who plan request one hows.Drop inner w due tt (λ quar e. cc)
    (λ quar found m. closed-over quar.sid.number world.past (subst (λ n. closed n world.past ≡ true) (sym m.own) due.shut))

pub dar-turn : (shape : Shape) (world : World) (who : Sid) (said : Said) (plan : Plan) (one : Given) → Inner shape world → IsWriter shape world who.number plan
    → IsDueNext shape world who.number (wanted.Dar one.permit) one → After shape world who said (wanted.Dar one.permit)
dar-turn shape world who said plan one inner w due = dropped-turn shape world who plan (wanted.Dar one.permit) one inner w due

-- a key that is quarantined for a delta is a count
delta-counts : (mode : Mode) (key : QKey) → mode_on mode key ≡ Delta → is_count key ≡ true
delta-counts Invalidate key e = cc
delta-counts Refresh key e = cc
delta-counts Delta key e = by (is_count key) refl
  where
    by : (b : Bool) → is_count key ≡ b → b ≡ true
    by true is = refl
    by false is = let clash : Invalidate ≡ Delta = sym (ap (λ b. cond b Delta Invalidate) is) ∙ e in cc

-- a delta isn't raised
unraised : {mode planned : Mode} → (mode ≡ planned) ⊎ (mode ≡ Refresh) → mode ≡ Delta → planned ≡ Delta
unraised (inl same) delta = sym same ∙ delta
unraised (inr refresh) delta = let clash : Refresh ≡ Delta = sym refresh ∙ delta in cc

-- the session's commit is the one of its number, and has the changes of its plan
own-changes : (shape : Shape) (world : World) (n number : ℕ) (plan : Plan)
    → Inner shape world → IsWriter shape world n plan → (own : IsNumber (log_of world.past) n number) → own.commit.txn ≡ changes_of plan
own-changes shape world n number plan inner w own =
    let logged = inner.logged own.place own.commit own.at in
    let one : logged.plan ≡ plan = some_plan (sym logged.at ∙ ap (λ m. plan_at m world.plans) own.own ∙ w.at) in
    logged.changes ∙ ap changes_of one

-- so the session writes under its quarantine with that number
writes-own : (shape : Shape) (world : World) (n number : ℕ) (plan : Plan) (grant : Permit) (quar : Quar) (mode : Mode)
    → quar_of grant.key grant.token (steps_for shape world grant) ≡ Some quar
    → IsMine n plan grant quar → grant.mode ≡ mode → IsNumber (log_of world.past) n number
    → WritesOwn world.past (steps_for shape world grant) grant.key quar.sid grant.token mode number
writes-own shape world n number plan grant quar mode found m in_mode own = record {
  quar = quar;
  stands = found;
  mine = refl;
  in_mode = m.of.mode ∙ in_mode;
  place = own.place;
  commit = own.commit;
  logged = own.at;
  own = own.own ∙ sym m.own;
  stamp_is = own.is;
}

-- the value is shifted by what the session's commit adds to it
pub apply-turn : (shape : Shape) (world : World) (who : Sid) (said : Said) (plan : Plan) (one : Given) (number : ℕ)
    → Inner shape world → IsWriter shape world who.number plan
    → IsDueNext shape world who.number (wanted.Apply one.permit number) one → number_of (heard_by who.number world.past) ≡ Some number → one.permit.mode ≡ Delta
    → After shape world who said (wanted.Apply one.permit number)
unfolding writes-own
apply-turn shape world who said plan one number inner w due same delta =
    let own = w.writer.numbered number same in
    let grant = one.permit in
    release-turn shape world who plan (wanted.Apply grant number) one (hows.Shift number) inner w due delta (λ quar e. cc)
    (λ quar found m. record {
      writes = writes-own shape world who.number number plan grant quar Delta found m delta own;
      counts = delta-counts (mode_of plan) grant.key (unraised m.in_mode delta);
      by_is = m.by delta
          ∙ ap (λ txn. shift_in Delta grant.key txn) (sym (own-changes shape world who.number number plan inner w own));
    })

-- a new value is the old one refreshed
new-is : (key : QKey) (txn : List Change) (found : Option (List ℕ × ℕ)) (value : List ℕ) → new_value key txn found ≡ Some value
    → (old : List ℕ × ℕ) × (found ≡ Some old) × (refreshed key old.0 txn ≡ Some value)
new-is key txn None value e = cc
new-is key txn (Some old) value e = (old, refl, e)

-- the new value is put, or the old one dropped where there is no new one
pub sar-turn : (shape : Shape) (world : World) (who : Sid) (said : Said) (plan : Plan) (one : Given) (number : ℕ)
    → Inner shape world → IsWriter shape world who.number plan
    → IsDueNext shape world who.number (wanted.Sar one.permit (new_value one.permit.key (changes_of plan) one.old) number) one
    → number_of (heard_by who.number world.past) ≡ Some number → one.permit.mode ≡ Refresh
    → After shape world who said (wanted.Sar one.permit (new_value one.permit.key (changes_of plan) one.old) number)
unfolding writes-own
sar-turn shape world who said plan one number inner w due same refresh = by (new_value grant.key (changes_of plan) one.old) refl
  where
    grant : Permit
    grant = one.permit

    request : Wanted
    request = wanted.Sar grant (new_value grant.key (changes_of plan) one.old) number

    by : (new : Option (List ℕ)) → new_value grant.key (changes_of plan) one.old ≡ new
        → Becomes shape world who request grant (put_step (terms_of shape (shard_of grant.key shape.shards)) (steps_for shape world grant) grant new number)
    by None e = dropped-turn shape world who plan request one inner w due
    by (Some value) e =
        let own = w.writer.numbered number same in
        let kept = w.writer.olds (released (heard_by who.number world.past)) one due.at in
        let new = new-is grant.key (changes_of plan) one.old value e in
        let R : List Change → Type 0 = λ txn. refreshed grant.key new.0.0 txn ≡ Some value in
        replace-turn shape world who plan request one value number inner w due refresh
        (λ quar found m. record {
          writes = writes-own shape world who.number number plan grant quar Refresh found m refresh own;
          found = kept.found;
          at_grant = kept.at;
          old = new.0;
          found_is = sym (kept.old refresh) ∙ new.1;
          new_is = subst R (sym (own-changes shape world who.number number plan inner w own)) new.2;
        })
