-- A turn in which a writer asks for a quarantine keeps the facts.
use Rattle.std.proofs.Common.{ℕ, ◌≡◌, ◌≢◌, true, false, List, [], ◌∷◌, map, count_by, Option, Some, None, slice_get, refl, sym, ap, subst, ◌∙◌, inl, inr}
use Rattle.std.specs.Prelude.{ℤ}
use Rattle.std.specs.List.{AllByRecursion, list_all}
use Rattle.std.proofs.lemmas.Bool.{false≢true, eq-eqb}
use Rattle.rows_model.specs.declared.keys.QKey.{QKey}
use Rattle.rows_model.specs.declared.keys.Sid.{Sid}
use Rattle.rows_model.proofs.SameKey.{same_key-refl}
use Rattle.rows_model.specs.Placement.{shard_of}
use Rattle.case_tables.specs.Compatibility.{is_invalidate}
use Rattle.lease_table.specs.declared.records.Mode.{Mode}
use Rattle.lease_table.specs.declared.records.Mode.TheVariants.{Invalidate, Refresh, Delta}
use Rattle.lease_table.specs.declared.records.Quar.{Quar}
use Rattle.lease_table.specs.Leases.{way_of}
use Rattle.key_shard.specs.Permit.{Permit}
use Rattle.key_shard.specs.declared.replies.QAnswer.TheVariants as quarantine
use Rattle.key_shard.specs.declared.steps.Step.{Step}
use Rattle.key_shard.specs.declared.steps.Step.TheVariants as step
use Rattle.key_shard.specs.Past.{Terms, standing, entry, own_of, next_token, deadline_at}
use Rattle.key_shard.specs.Answers.{Answers, Quarantine, FitsShift, granted_step, quarantine_step}
use Rattle.key_shard.specs.Replies.{old_value}
use Rattle.key_shard.proofs.CaseLemmas.{MayJoin, verdict_cases}
use Rattle.sql_keeper.specs.Commits.{covers, is_covered}
use Rattle.session_client.specs.declared.plans.Plan.{Plan}
use Rattle.session_client.specs.declared.plans.Shape.{Shape}
use Rattle.session_client.specs.declared.replies.Reply.{Reply}
use Rattle.session_client.specs.declared.replies.Reply.TheVariants as Reply
use Rattle.session_client.specs.declared.replies.Wanted.{Wanted}
use Rattle.session_client.specs.Plans.{mode_of, mode_on, shift_in, keys_of, changes_of}
use Rattle.session_client.specs.Wants.{is_had, writing_of}
use Rattle.session_client.proofs.WantCases.{is_asking}
use Rattle.core_history.specs.Events.{Event, Stepped, steps_of, heard_by, now_of}
use Rattle.core_history.specs.Machine.{World, terms_of, step_reply, quarantined_on}
use Rattle.core_history.proofs.ListLemmas.{or_inl, and_elim, and_intro, not_both, any-back}
use Rattle.core_history.proofs.GoodEvents.{IsGoodEvent}
use Rattle.core_history.proofs.EventLemmas.{logged-committed, committed-heard, counted-granted, heard-mine, ever}
use Rattle.key_shard.proofs.LegalLemmas.{legal_stands_well, distinct}
use Rattle.core_history.proofs.SessionLemmas.{stood-quiet, stood-granted, finds-stepped, asking-going, ReleasesNone, writer-mild}
use Rattle.core_history.proofs.WriterLemmas.{writer-granted}
use Rattle.core_history.proofs.InnerLemmas.{Inner, with_event, stepped-inner, quiet-inner, draws-late}
use Rattle.core_history.proofs.WritingLemmas.{IsWriter, asked-free}

-- a quarantine that isn't to invalidate is granted where nothing stands, and one that is beside others of its kind alone
mode_is : (mode : Mode) → is_invalidate (way_of mode) ≡ true → mode ≡ Invalidate
mode_is Invalidate e = refl
mode_is Refresh e = absurd (false≢true e)
mode_is Delta e = absurd (false≢true e)

joins_alone : (mode : Mode) (quars : List Quar) → MayJoin mode quars → mode ≢ Invalidate → quars ≡ []
joins_alone mode quars (inl none) other = none
joins_alone mode quars (inr all) other =
    absurd (other (mode_is mode (and_elim (is_invalidate (way_of mode)) (list_all is_invalidate (map (λ quar. way_of quar.mode) quars)) all).0))

each_invalidates : (quars : List Quar) → list_all is_invalidate (map (λ quar. way_of quar.mode) quars) ≡ true
    → AllByRecursion (λ quar. quar.mode ≡ Invalidate) quars
each_invalidates [] all = tt
each_invalidates (quar ∷ quars) all =
    let parts = and_elim (is_invalidate (way_of quar.mode)) (list_all is_invalidate (map (λ q. way_of q.mode) quars)) all in
    (mode_is quar.mode parts.0, each_invalidates quars parts.1)

joins_others : (mode : Mode) (quars : List Quar) → MayJoin mode quars → AllByRecursion (λ quar. quar.mode ≡ Invalidate) quars
joins_others mode quars (inl none) = subst (AllByRecursion (λ quar. quar.mode ≡ Invalidate)) (sym none) tt
joins_others mode quars (inr all) =
    each_invalidates quars (and_elim (is_invalidate (way_of mode)) (list_all is_invalidate (map (λ quar. way_of quar.mode) quars)) all).1

-- what a writer asks for next, in the mode and with the shift that its plan has for the key
pub record IsAsked (shape : Shape) (world : World) (n : ℕ) (plan : Plan) (request : Wanted) (key : QKey) (mode : Mode) (shift : ℤ) : Type 0 where
  pub none : ReleasesNone request
  pub at : slice_get (keys_of plan) (count_by is_had (heard_by n world.past)) ≡ Some key
  pub asks : is_asking (heard_by n world.past) ≡ true
  pub in_mode : mode ≡ mode_on (mode_of plan) key
  pub by : shift ≡ shift_in mode key (changes_of plan)
  pub fits : FitsShift mode shift

-- it is granted or refused
pub ask-turn : (shape : Shape) (world : World) (who : Sid) (plan : Plan) (request : Wanted) (key : QKey) (mode : Mode) (shift : ℤ)
    → Inner shape world → IsWriter shape world who.number plan
    → IsAsked shape world who.number plan request key mode shift
    → Inner shape (with_event world (quarantined_on shape world who request key mode shift))
    × IsGoodEvent shape world.past (quarantined_on shape world who request key mode shift)
ask-turn shape world who plan request key mode shift inner w asked =
    verdict_cases P terms steps key who mode shift now
    (λ none join is. (granted_inner is, granted_good join))
    (λ quar own is. absurd (some_none own free))
    (λ quar holds is. (refused_inner quar is, record { home = refl; good = tt; own = tt; no_commit = refl; no_end = refl }))
    refl
  where
    past : List Event
    past = world.past

    home : ℕ
    home = shard_of key shape.shards

    terms : Terms
    terms = terms_of shape home

    steps : List Step
    steps = steps_of home past

    heard : List Reply
    heard = heard_by who.number past

    now : ℕ
    now = now_of past

    free : own_of key who steps ≡ None
    free = asked-free shape world who (writing_of plan) key inner w.writer asked.at

    some_none : {quar : Quar} {o : Option Quar} → o ≡ Some quar → o ≡ None → ⊥
    some_none e none = let same : Some _ ≡ None = sym e ∙ none in cc

    Event-of : Step → Event
    Event-of x = Stepped home who request x (step_reply terms steps x)

    P : Step → Type 0
    P x = x ≡ quarantine_step terms steps key who mode shift now → Inner shape (with_event world (Event-of x)) × IsGoodEvent shape past (Event-of x)

    granted_good : MayJoin mode (standing key steps) → IsGoodEvent shape past (Event-of (granted_step terms steps key who mode shift now))
    granted_good join = record {
      home = refl;
      good = record {
        alone = joins_alone mode (standing key steps) join;
        joins = joins_others mode (standing key steps) join;
        before = λ logged. not_both (logged-committed who.number past logged) (committed-heard who.number past
            ∙ (w.writer.going (asking-going heard asked.asks)).0);
      };
      own = tt;
      no_commit = refl;
      no_end = refl;
    }

    granted_inner : granted_step terms steps key who mode shift now ≡ quarantine_step terms steps key who mode shift now
        → Inner shape (with_event world (Event-of (granted_step terms steps key who mode shift now)))
    granted_inner is =
        let token = next_token terms steps in
        let deadline = deadline_at terms now in
        let s = step.Granted key who mode shift now token deadline in
        let old = old_value mode (entry key steps) in
        let grant : Permit = record { shard = home; key = key; sid = who; mode = mode; token = token } in
        let reply = Reply.Quar (quarantine.Granted grant old) in
        let event = Stepped home who request s reply in
        let covered : covers who key grant ≡ true = and_intro _ _ (same_key-refl key) (eq-eqb who.number who.number refl) in
        let answers : Answers terms steps s = record { request = Quarantine key who mode shift now; at_home = refl; owed = asked.fits; answer = is } in
        let apart = distinct terms (s ∷ steps) key (legal_stands_well terms (s ∷ steps) (answers, inner.legal home) key) in
        stepped-inner shape world home who request s reply inner answers
        (subst (λ l. is_covered who (ever l) key ≡ true) (sym (heard-mine who reply heard))
        (any-back (covers who key) (ever heard) (grant ∷ []) (or_inl (covers who key grant) false covered)))
        (record { plan = plan; at = w.at; may = w.may; by = λ e. asked.by ∙ ap (λ m. shift_in m key (changes_of plan)) e })
        refl (counted-granted shape.shards key who request mode shift now token deadline home old)
        (λ n other. finds-stepped shape home who request s reply past n tt (draws-late shape past home s answers))
        (λ n other g own. stood-granted shape home who request key who mode shift now token deadline reply past asked.none n g)
        (w.stays event reply (writer-granted shape past who request key mode shift now heard
        (writing_of plan) asked.none asked.at asked.in_mode asked.asks apart w.writer))

    refused_inner : (quar : Quar) → step.Refused key who mode quar.sid quar.mode ≡ quarantine_step terms steps key who mode shift now
        → Inner shape (with_event world (Event-of (step.Refused key who mode quar.sid quar.mode)))
    refused_inner quar is =
        let s = step.Refused key who mode quar.sid quar.mode in
        let reply = Reply.Quar (quarantine.Refused quar.sid quar.mode) in
        let event = Stepped home who request s reply in
        let answers : Answers terms steps s = record { request = Quarantine key who mode shift now; at_home = refl; owed = asked.fits; answer = is } in
        quiet-inner shape world home who request s reply inner answers tt asked.none refl refl
        (w.stays event reply (writer-mild shape event past who.number reply heard
        (writing_of plan) (record {
          brings = record { none = refl; kept = λ p g. refl; left = λ p g. refl };
          calm = refl;
          had = refl;
          release = refl;
          commit = refl;
        })
        (finds-stepped shape home who request s reply past who.number tt (draws-late shape past home s answers))
        (λ g own. stood-quiet shape home who request s reply past tt asked.none who.number g) (λ e. absurd (false≢true e))
        (λ _. asking-going heard asked.asks) w.writer))
