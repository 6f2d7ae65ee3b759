-- A turn in which a writer raises or renews a quarantine keeps the facts.
use Rattle.std.proofs.Common.{ℕ, ◌≡◌, Bool, true, false, cond, List, ◌∷◌, map, find, Option, Some, None, is_some, slice_get, refl, sym, ap, subst}
use Rattle.std.proofs.Common.{◌∙◌, inl, inr, arith}
use Rattle.std.specs.List.{list_any}
use Rattle.std.proofs.lemmas.Bool.{false≢true, eq-eqb}
use Rattle.rows_model.specs.declared.keys.Sid.{Sid}
use Rattle.rows_model.specs.Key.{same_key}
use Rattle.rows_model.specs.Placement.{shard_of}
use Rattle.case_tables.specs.declared.grids.Verdict.TheVariants as verdicts
use Rattle.lease_table.specs.declared.records.Mode.TheVariants.{Invalidate}
use Rattle.lease_table.specs.declared.records.Quar.{Quar}
use Rattle.lease_table.specs.Leases.{has_token, first, others_in, raise_in, renewed}
use Rattle.key_shard.specs.Permit.{Permit}
use Rattle.key_shard.specs.LegalStands.{StandsWell}
use Rattle.key_shard.specs.declared.replies.Raising.TheVariants as raising
use Rattle.key_shard.specs.declared.replies.Renewal.TheVariants as renewal
use Rattle.key_shard.specs.declared.steps.Step.{Step}
use Rattle.key_shard.specs.declared.steps.Step.TheVariants as step
use Rattle.key_shard.specs.Past.{Terms, standing, entry, quar_of, grants, deadline_at}
use Rattle.key_shard.specs.Answers.{Answers, IsOf, Raise, Renew, OwesRaise, OwesRenew, raise_by, raise_step, shared_step, renew_step}
use Rattle.key_shard.proofs.CaseLemmas.{raise_cases, renew_cases}
use Rattle.key_shard.proofs.LegalLemmas.{distinct}
use Rattle.key_shard.proofs.OutRaises.{raise-none, raise-beside}
use Rattle.key_shard.proofs.PermitLemmas.{is_of_permit, find_permit}
use Rattle.key_shard.proofs.RaiseLemmas.{any-mapped, renewed-same}
use Rattle.key_freshness.specs.Known.{IsLogged}
use Rattle.session_client.specs.declared.plans.Plan.{Plan}
use Rattle.session_client.specs.declared.plans.Shape.{Shape}
use Rattle.session_client.specs.declared.replies.Reply.{Reply}
use Rattle.session_client.specs.declared.replies.Reply.TheVariants as Reply
use Rattle.session_client.specs.declared.replies.Wanted.{Wanted}
use Rattle.session_client.specs.declared.replies.Wanted.TheVariants as wanted
use Rattle.session_client.specs.Plans.{mode_of, mode_on}
use Rattle.session_client.specs.Wants.{granted, is_release, turned, writing_of, write_wants}
use Rattle.core_history.specs.Events.{Event, Stepped, steps_of, heard_by, log_of, now_of, has_committed}
use Rattle.core_history.specs.Machine.{World, Said, terms_of, raise_shown, renewal_shown}
use Rattle.core_history.proofs.ListLemmas.{choose, count-cons, not_both}
use Rattle.core_history.proofs.GoodEvents.{IsGoodEvent}
use Rattle.core_history.proofs.EventLemmas.{closed, counted-mild, logged-committed, committed-heard}
use Rattle.core_history.proofs.KeyLemmas.{was-quar}
use Rattle.core_history.proofs.SessionLemmas.{Stood, is_going, finds-apart, finds-none, stood-stepped, without-other, number-more, writer-heard, writer-mild}
use Rattle.core_history.proofs.InnerLemmas.{Inner, with_event, stepped-inner, quiet-inner, stands_well}
use Rattle.core_history.proofs.ReadTurnLemmas.{After}
use Rattle.core_history.proofs.WritingLemmas.{IsWriter}
use Rattle.core_history.proofs.RaisedLemmas.{OnlyOne, only-raised, raises-mode, raise-head}
use Rattle.core_history.proofs.RaisedWriters.{AreOne, lifted_grant, raised-lifted, raises-apart, stood-apart, writer-raised, writer-spent}

-- where another's quarantine is told as gone, there is none
not-shared : (grant : Permit) (o : Option Quar) → is_some o ≡ true → step.Gone grant.key grant.sid grant.token ≡ shared_step grant o → ⊥
not-shared grant (Some other) some e = cc
not-shared grant None some e = absurd (false≢true some)

module _ (shape : Shape) (world : World) (who : Sid) (plan : Plan) (grant : Permit) (inner : Inner shape world) (w : IsWriter shape world who.number plan)
    (at : slice_get (granted (heard_by who.number world.past)) (turned (heard_by who.number world.past)) ≡ Some grant)
    (going : is_going (heard_by who.number world.past) ≡ true) where
  abbrev past : List Event
  past = world.past

  abbrev heard : List Reply
  heard = heard_by who.number world.past

  abbrev home : ℕ
  home = shard_of grant.key shape.shards

  abbrev terms : Terms
  terms = terms_of shape (shard_of grant.key shape.shards)

  abbrev steps : List Step
  steps = steps_of (shard_of grant.key shape.shards) world.past

  own : grant.sid.number ≡ who.number
  own = (w.writer.fits (turned heard) grant at).own

  was : list_any (grants grant) steps ≡ true
  was = w.writer.was (turned heard) grant at

  of : (quar : Quar) → quar_of grant.key grant.token steps ≡ Some quar → IsOf grant quar
  of quar e = record { sid = was-quar terms steps grant quar (inner.legal home) was e; mode = w.writer.suits (turned heard) grant at quar e }

  well : StandsWell terms steps grant.key
  well = stands_well shape world inner grant.key

  ready : Stood shape past who.number grant
  ready = let none = (w.writer.going going).1 in w.writer.stood (turned heard) grant at (omega (arith, none))

  -- a renewal
  abbrev Renews : Step → Event
  Renews x = Stepped home who (wanted.Renew grant) x (renewal_shown grant terms steps x)

  renewed-keeps : (now deadline : ℕ) (reply : Reply) (n : ℕ) (g : Permit) → Stood shape past n g
      → Stood shape (Stepped home who (wanted.Renew grant) (step.Renewed grant.key grant.sid grant.token now deadline) reply ∷ past) n g
  renewed-keeps now deadline reply n g h =
      stood-stepped shape home who (wanted.Renew grant) (step.Renewed grant.key grant.sid grant.token now deadline) reply past n g
      (λ there still stands.
      let xs = standing g.key (steps_of home past) in
      choose (λ l. list_any (is_of_permit g) l ≡ true) (same_key g.key grant.key) (map (renewed grant.token deadline) xs) xs
      (λ _. any-mapped (is_of_permit g) (renewed grant.token deadline) (λ q. renewed-same (is_of_permit g) grant.token deadline q refl) xs ∙ stands)
      (λ _. stands))
      (λ terms out is. is) h

  renewed-turn : (now deadline : ℕ) → Answers terms steps (step.Renewed grant.key grant.sid grant.token now deadline)
      → Inner shape (with_event world (Renews (step.Renewed grant.key grant.sid grant.token now deadline)))
      × IsGoodEvent shape past (Renews (step.Renewed grant.key grant.sid grant.token now deadline))
  renewed-turn now deadline answers =
      let request = wanted.Renew grant in
      let s = step.Renewed grant.key grant.sid grant.token now deadline in
      let reply = Reply.Renew grant (Some (renewal.Renewed deadline)) in
      let event = Stepped home who request s reply in (
        stepped-inner shape world home who request s reply inner answers tt tt refl
            (counted-mild shape.shards home who request s reply (λ k v. refl) refl)
            (λ n other. finds-none shape home who request s reply past n (λ k t. refl))
            (λ n other g mine. renewed-keeps now deadline reply n g)
            (w.stays event reply (writer-mild shape event past who.number reply heard (writing_of plan)
            (record { brings = record { none = refl; kept = λ p g. refl; left = λ p g. refl }; calm = refl; had = refl; release = refl; commit = refl })
            (finds-none shape home who request s reply past who.number (λ k t. refl)) (λ g mine. renewed-keeps now deadline reply who.number g)
            (λ e. absurd (false≢true e)) (λ _. going) w.writer)),
        record { home = refl; good = tt; own = tt; no_commit = refl; no_end = refl },
      )

  gone-keeps : (reply : Reply) (n : ℕ) (g : Permit) → Stood shape past n g
      → Stood shape (Stepped home who (wanted.Renew grant) (step.Gone grant.key grant.sid grant.token) reply ∷ past) n g
  gone-keeps reply n g h =
      stood-stepped shape home who (wanted.Renew grant) (step.Gone grant.key grant.sid grant.token) reply past n g
      (λ there still stands. stands) (λ terms out is. is) h

  unrenewed-turn : Answers terms steps (step.Gone grant.key grant.sid grant.token)
      → Inner shape (with_event world (Renews (step.Gone grant.key grant.sid grant.token)))
      × IsGoodEvent shape past (Renews (step.Gone grant.key grant.sid grant.token))
  unrenewed-turn answers =
      let request = wanted.Renew grant in
      let s = step.Gone grant.key grant.sid grant.token in
      let reply = Reply.Renew grant (Some renewal.Gone) in
      let event = Stepped home who request s reply in (
        quiet-inner shape world home who request s reply inner answers tt (λ t x out. refl) refl refl
            (w.stays event reply (writer-mild shape event past who.number reply heard (writing_of plan)
            (record { brings = record { none = refl; kept = λ p g. refl; left = λ p g. refl }; calm = refl; had = refl; release = refl; commit = refl })
            (finds-none shape home who request s reply past who.number (λ k t. refl)) (λ g mine. gone-keeps reply who.number g)
            (λ e. absurd (false≢true e)) (λ _. going) w.writer)),
        record { home = refl; good = tt; own = tt; no_commit = refl; no_end = refl },
      )

  owed-renewal : (o : Option Quar) → quar_of grant.key grant.token steps ≡ o → OwesRenew steps grant o
  owed-renewal None e = was
  owed-renewal (Some quar) e = of quar e

  pub renew-turn : (said : Said) → After shape world who said (wanted.Renew grant)
  renew-turn said =
      renew_cases (λ s. s ≡ renew_step terms steps grant (now_of past) → Inner shape (with_event world (Renews s)) × IsGoodEvent shape past (Renews s))
      terms steps grant (now_of past)
      (λ quar found is. renewed-turn (now_of past) (deadline_at terms (now_of past))
      (record { request = Renew grant (now_of past); at_home = refl; owed = owed-renewal (quar_of grant.key grant.token steps) refl; answer = is }))
      (λ none is. unrenewed-turn
      (record { request = Renew grant (now_of past); at_home = refl; owed = owed-renewal (quar_of grant.key grant.token steps) refl; answer = is }))
      refl

  -- a raise
  module _ (wants : write_wants (writing_of plan) false (heard_by who.number world.past) ≡ wanted.Raise grant) where
    abbrev Raises : Step → Event
    Raises x = Stepped home who (wanted.Raise grant) x (raise_shown grant terms steps x)

    in_mode : mode_of plan ≡ Invalidate
    in_mode =
        elim (raise-head (writing_of plan) heard grant going wants) [
          | inl last ↦ w.writer.raising last
          | inr next ↦ raises-mode plan next
        ]

    invalid : grant.mode ≡ Invalidate
    invalid = w.writer.unraised (turned heard) grant at (omega arith) ∙ ap (λ m. mode_on m grant.key) in_mode

    owed-raise : (o : Option Quar) → quar_of grant.key grant.token steps ≡ o → OwesRaise steps grant o
    owed-raise None e = was
    owed-raise (Some quar) e = (of quar e, (of quar e).mode ∙ invalid)

    -- the quarantine that is raised is alone, and so no other session's
    module _ (raises : raise_in grant.sid grant.token (standing grant.key steps) ≡ verdicts.Raise) where
      one : OnlyOne grant.sid grant.token (standing grant.key steps)
      one = only-raised grant.sid grant.token (standing grant.key steps) well.beside raises

      found : quar_of grant.key grant.token steps ≡ Some one.quar
      found = ap (find (has_token grant.token)) one.only ∙ ap (λ b. cond b (Some one.quar) None) (eq-eqb one.quar.token grant.token one.its)

      differ : (n : ℕ) → (who.number ≡ n → ⊥) → (g : Permit) → g.sid.number ≡ n
          → list_any (grants g) (steps_of (shard_of g.key shape.shards) past) ≡ true → AreOne grant g → ⊥
      differ n other g mine given same =
          let there : quar_of g.key g.token steps ≡ Some one.quar =
          subst (λ k. quar_of k g.token steps ≡ Some one.quar) (sym same.0) (subst (λ t. quar_of grant.key t steps ≡ Some one.quar) (sym same.1) found) in
          let theirs = was-quar terms steps g one.quar (inner.legal home)
          (subst (λ k. list_any (grants g) (steps_of (shard_of k shape.shards) past) ≡ true) same.0 given) there in
          other (sym own ∙ ap (λ (x : Sid). x.number) (sym one.own ∙ theirs) ∙ mine)

      before : IsLogged (log_of past) grant.sid.number → ⊥
      before logged =
          not_both (logged-committed grant.sid.number past logged)
          (subst (λ n. has_committed n past ≡ false) (sym own) (committed-heard who.number past ∙ (w.writer.going going).0))

      raised-turn : Answers terms steps (step.Raised grant.key grant.sid grant.token)
          → Inner shape (with_event world (Raises (step.Raised grant.key grant.sid grant.token)))
          × IsGoodEvent shape past (Raises (step.Raised grant.key grant.sid grant.token))
      raised-turn answers = subst T (sym (raised-lifted grant)) (made, good)
        where
          s : Step
          s = step.Raised grant.key grant.sid grant.token

          request : Wanted
          request = wanted.Raise grant

          reply : Permit → Reply
          reply g = Reply.Raise (raising.Raised g (entry grant.key steps))

          T : Permit → Type 0
          T g = Inner shape (with_event world (Stepped home who request s (reply g))) × IsGoodEvent shape past (Stepped home who request s (reply g))

          up : Reply
          up = reply (lifted_grant grant)

          good : IsGoodEvent shape past (Stepped home who request s up)
          good = record {
            home = refl;
            good = record { quar = one.quar; only = one.only; own = one.own; its = one.its; before = before };
            own = tt;
            no_commit = refl;
            no_end = refl;
          }

          made : Inner shape (with_event world (Stepped home who request s up))
          made =
              stepped-inner shape world home who request s up inner answers tt tt refl
              (counted-mild shape.shards home who request s up (λ k v. refl) refl)
              (λ n other g mine given low. finds-apart shape home who request s up past g (raises-apart grant g (differ n other g mine given)))
              (λ n other g mine h. stood-apart shape who grant up past n g (differ n other g mine h.was) h)
              (w.stays (Stepped home who request s up) up
              (writer-raised shape past who grant heard (writing_of plan) w.writer at going in_mode))

    shared-turn : (other : Quar) → Answers terms steps (step.Shared grant.key grant.sid grant.token other.sid)
        → Inner shape (with_event world (Raises (step.Shared grant.key grant.sid grant.token other.sid)))
        × IsGoodEvent shape past (Raises (step.Shared grant.key grant.sid grant.token other.sid))
    shared-turn other answers =
        let request = wanted.Raise grant in
        let s = step.Shared grant.key grant.sid grant.token other.sid in
        let reply = Reply.Raise (raising.Shared grant other.sid) in
        let event = Stepped home who request s reply in
        let keeps : (n : ℕ) (g : Permit) → Stood shape past n g → Stood shape (event ∷ past) n g = λ n g h.
        stood-stepped shape home who request s reply past n g (λ there still stands. stands) (λ terms out is. is) h in
        let c = count-cons is_release reply heard in
        let none = (w.writer.going going).1 in (
          stepped-inner shape world home who request s reply inner answers tt tt refl
              (counted-mild shape.shards home who request s reply (λ k v. refl) refl)
              (λ n apart. finds-none shape home who request s reply past n (λ k t. refl))
              (λ n apart g mine. keeps n g)
              (w.stays event reply (writer-heard shape event past who.number reply heard (writing_of plan)
              (record { none = refl; kept = λ p g. refl; left = λ p g. refl }) refl
              (finds-none shape home who request s reply past who.number (λ k t. refl))
              (λ i g there late. keeps who.number g (w.writer.stood i g there (omega (arith, late, c))))
              (inl (omega (arith, c, none))) (λ e. absurd (false≢true e))
              (λ number e. number-more event past who.number number (w.writer.numbered number e))
              (λ _. ((w.writer.going going).0, omega (arith, c, none))) (λ _. in_mode) w.writer)),
          record { home = refl; good = tt; own = tt; no_commit = refl; no_end = refl },
        )

    -- the quarantine is gone, and so the session is closed
    gone-closed : quar_of grant.key grant.token steps ≡ None → closed who.number past ≡ true
    gone-closed none = by (closed who.number past) refl
      where
        by : (b : Bool) → closed who.number past ≡ b → closed who.number past ≡ true
        by true e = e
        by false e =
            let it = find_permit grant (standing grant.key steps) (distinct terms steps grant.key well) (ready.stands e) in
            let clash : Some it.0 ≡ None = sym it.1 ∙ none in
            absurd cc

    spent-turn : closed who.number past ≡ true → Answers terms steps (step.Gone grant.key grant.sid grant.token)
        → Inner shape (with_event world (Raises (step.Gone grant.key grant.sid grant.token)))
        × IsGoodEvent shape past (Raises (step.Gone grant.key grant.sid grant.token))
    spent-turn shut answers =
        let request = wanted.Raise grant in
        let s = step.Gone grant.key grant.sid grant.token in
        let reply = Reply.Raise raising.Gone in
        let event = Stepped home who request s reply in (
          stepped-inner shape world home who request s reply inner answers tt tt refl
              (counted-mild shape.shards home who request s reply (λ k v. refl) refl)
              (λ n other. finds-none shape home who request s reply past n (λ k t. refl))
              (λ n other g mine h. stood-stepped shape home who request s reply past n g (λ there still stands. stands)
              (λ terms out is. without-other g grant out (λ same. other (sym own ∙ ap (λ (p : Permit). p.sid.number) same ∙ mine)) is) h)
              (w.stays event reply (writer-spent shape past who grant heard (writing_of plan) w.writer at going in_mode shut)),
          record { home = refl; good = tt; own = tt; no_commit = refl; no_end = refl },
        )

    gone-none : step.Gone grant.key grant.sid grant.token ≡ raise_step steps grant → quar_of grant.key grant.token steps ≡ None
    gone-none is =
        let quars = standing grant.key steps in
        let others = first (others_in grant.sid quars) in
        raise-none terms steps grant well of invalid
        (λ e. let clash : step.Gone grant.key grant.sid grant.token ≡ step.Raised grant.key grant.sid grant.token = is ∙ ap (raise_by grant others) e in cc)
        (λ e. not-shared grant others (raise-beside grant.sid grant.token quars e) (is ∙ ap (raise_by grant others) e))

    pub raise-turn : (said : Said) → After shape world who said (wanted.Raise grant)
    raise-turn said =
        raise_cases (λ s. s ≡ raise_step steps grant → Inner shape (with_event world (Raises s)) × IsGoodEvent shape past (Raises s))
        steps grant
        (λ raises is. raised-turn raises
        (record { request = Raise grant; at_home = refl; owed = owed-raise (quar_of grant.key grant.token steps) refl; answer = is }))
        (λ other named is. shared-turn other
        (record { request = Raise grant; at_home = refl; owed = owed-raise (quar_of grant.key grant.token steps) refl; answer = is }))
        (λ is. spent-turn (gone-closed (gone-none is))
        (record { request = Raise grant; at_home = refl; owed = owed-raise (quar_of grant.key grant.token steps) refl; answer = is }))
        refl
