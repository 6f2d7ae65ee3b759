-- A quarantine that isn't to invalidate has its key for itself: each good step keeps that, and what its session writes then is held.
use Rattle.std.proofs.Common.{ℕ, ◌≡◌, ◌≢◌, ◌+◌, ◌≤◌, ◌==◌, ◌&&◌, Bool, true, false, not, cond, List, [], ◌∷◌, ◌++◌, length, map, filter, find}
use Rattle.std.proofs.Common.{Option, Some, None, refl, sym, ap, subst, ◌∙◌, ◌⊎◌, inl, inr, ⊎_elim, ◌<◌, eq-eqb, eqb-true, arith}
use Rattle.std.specs.List.{AllByRecursion}
use Rattle.std.proofs.lemmas.Bool.{false≢true}
use Rattle.rows_model.specs.declared.keys.QKey.{QKey}
use Rattle.rows_model.specs.declared.keys.Sid.{Sid}
use Rattle.rows_model.specs.Key.{same_key}
use Rattle.rows_model.proofs.SameKey.{same_key-true}
use Rattle.lease_table.specs.declared.records.Mode.{Mode}
use Rattle.lease_table.specs.declared.records.Mode.TheVariants.{Invalidate, Refresh, Delta}
use Rattle.lease_table.specs.declared.records.Quar.{Quar}
use Rattle.lease_table.specs.declared.records.ReadLease.{ReadLease}
use Rattle.lease_table.specs.Leases.{has_token, raised, renewed}
use Rattle.key_shard.proofs.VoidLemmas.{void-none}
use Rattle.key_shard.proofs.RaiseLemmas.{lifted, raised-here, renewed-same, every-mapped}
use Rattle.key_shard.specs.declared.steps.Ended.{Ended as Ends}
use Rattle.key_shard.specs.declared.steps.Ended.TheVariants as ended
use Rattle.key_shard.specs.declared.steps.Step.{Step}
use Rattle.key_shard.specs.declared.steps.Step.TheVariants as step
use Rattle.key_shard.specs.Past.{standing, recorded, entry, entry_ended, is_evicted, evicted_by}
use Rattle.sql_keeper.specs.declared.stores.Commit.{Commit}
use Rattle.key_freshness.specs.Marks.{Mark, Granted, Ended, Leased, Wrote, Has, key_of, marks_of, writes_by}
use Rattle.key_freshness.specs.Known.{Known, IsLogged, IsOver, IsMore, IsRuled}
use Rattle.key_freshness.specs.Moments.{IsMoment, IsSince}
use Rattle.key_freshness.specs.Held.{IsHeld, IsEntryHeld, IsTied, stands_as}
use Rattle.key_freshness.specs.Laws.{IsOwn}
use Rattle.key_freshness.proofs.GrantMarks.{none_in, one_in, no_grant}
use Rattle.key_freshness.proofs.KnownLemmas.{more-refl, more-trans, more-stood}
use Rattle.key_freshness.proofs.MomentSteps.{moment-of, since-refl, since-append}
use Rattle.key_freshness.proofs.WriteLemmas.{put_is_held}
use Rattle.core_history.specs.Events.{Event, log_of, known_of}
use Rattle.core_history.specs.Facts.{Found, found_at, grants_as}
use Rattle.core_history.proofs.GoodEvents.{IsGoodGrant, IsGoodRaise, WritesOwn, SetsAnswer, IsGoodStep}
use Rattle.core_history.proofs.ListLemmas.{every-append, every-filter, and_elim, or_elim}

-- what a quarantine found when it was granted, which was a moment of its session alone, is the entry now or the entry is gone
pub record IsAlone (key : QKey) (quar : Quar) (past : List Event) (marks : List Mark) (known : Known) (now : Option (List ℕ × ℕ)) : Type 0 where
  pub found : Found
  pub granted : found_at key quar.token past ≡ Some found
  pub then_marks : List Mark
  pub then_known : Known
  pub count : found.commits ≡ length then_known.log
  pub moment : IsMoment key (Some quar.sid.number) then_marks then_known
  pub since : IsSince (Some quar.sid.number) then_marks marks
  pub more : IsMore then_known known
  pub held : IsEntryHeld key then_marks then_known found.entry
  pub before : IsLogged then_known.log quar.sid.number → ⊥
  pub same : (now ≡ found.entry) ⊎ (now ≡ None)

-- all of these are to invalidate
abbrev pub AllInvalidate : List Quar → Type 0
AllInvalidate quars = AllByRecursion (λ quar. quar.mode ≡ Invalidate) quars

-- one quarantine stands, and has the key for itself
pub record HasAlone (key : QKey) (quars : List Quar) (past : List Event) (marks : List Mark) (known : Known) (now : Option (List ℕ × ℕ)) : Type 0 where
  pub quar : Quar
  pub only : quars ≡ quar ∷ []
  pub alone : IsAlone key quar past marks known now

-- all quarantines that stand are to invalidate, or there is one, which has the key for itself
abbrev pub AreAlone : QKey → List Quar → List Event → List Mark → Known → Option (List ℕ × ℕ) → Type 0
AreAlone key quars past marks known now = AllInvalidate quars ⊎ HasAlone key quars past marks known now

-- where a quarantine stands no lease to read is recorded
abbrev pub HasNoReader : QKey → List Step → Type 0
HasNoReader key past = (standing key past ≡ []) ⊎ (recorded key past ≡ None)

-- the entry stays or goes
abbrev pub StaysOrGoes : Option (List ℕ × ℕ) → Option (List ℕ × ℕ) → Type 0
StaysOrGoes now later = (later ≡ now) ⊎ (later ≡ None)

-- more events and marks, of which none grants on the key, and an entry that stays or goes
pub alone-moved : (key : QKey) (quars : List Quar) (past after : List Event) (more marks : List Mark) (known : Known) (now later : Option (List ℕ × ℕ))
    → ((token : ℕ) → found_at key token after ≡ found_at key token past) → ((who token : ℕ) → Has (Granted who token) more → ⊥) → StaysOrGoes now later
    → AreAlone key quars past marks known now → AreAlone key quars after (more ++ marks) known later
alone-moved key quars past after more marks known now later found none stays (inl all) = inl all
alone-moved key quars past after more marks known now later found none stays (inr one) =
    let was = one.alone in
    inr (record {
      quar = one.quar;
      only = one.only;
      alone = record {
        found = was.found;
        granted = found one.quar.token ∙ was.granted;
        then_marks = was.then_marks;
        then_known = was.then_known;
        count = was.count;
        moment = was.moment;
        since = since-append (Some one.quar.sid.number) was.then_marks marks more (λ who token h. absurd (none who token h)) was.since;
        more = was.more;
        held = was.held;
        before = was.before;
        same = ⊎_elim (λ e. ⊎_elim (λ f. inl (e ∙ f)) (λ f. inr (e ∙ f)) was.same) (λ e. inr e) stays;
      };
    })

-- more is known
pub alone-more : (key : QKey) (quars : List Quar) (past : List Event) (marks : List Mark) (known new : Known) (now : Option (List ℕ × ℕ)) → IsMore known new
    → AreAlone key quars past marks known now → AreAlone key quars past marks new now
alone-more key quars past marks known new now grows (inl all) = inl all
alone-more key quars past marks known new now grows (inr one) =
    let was = one.alone in
    inr (record {
      quar = one.quar;
      only = one.only;
      alone = record {
        found = was.found;
        granted = was.granted;
        then_marks = was.then_marks;
        then_known = was.then_known;
        count = was.count;
        moment = was.moment;
        since = was.since;
        more = more-trans was.more grows;
        held = was.held;
        before = was.before;
        same = was.same;
      };
    })

-- another past that tells the same of what was found
pub alone-after : (key : QKey) (quars : List Quar) (past after : List Event) (marks : List Mark) (known : Known) (now : Option (List ℕ × ℕ))
    → ((token : ℕ) → found_at key token after ≡ found_at key token past) → AreAlone key quars past marks known now → AreAlone key quars after marks known now
alone-after key quars past after marks known now found alone = alone-moved key quars past after [] marks known now now found (λ who token h. h) (inl refl) alone

-- another of the same token and session has the key for itself likewise
alone-of : (key : QKey) (one new : Quar) (past : List Event) (marks : List Mark) (known : Known) (now : Option (List ℕ × ℕ))
    → new.token ≡ one.token → new.sid ≡ one.sid → IsAlone key one past marks known now → IsAlone key new past marks known now
alone-of key one new past marks known now token own was = record {
  found = was.found;
  granted = subst (λ t. found_at key t past ≡ Some was.found) (sym token) was.granted;
  then_marks = was.then_marks;
  then_known = was.then_known;
  count = was.count;
  moment = subst (λ (w : Sid). IsMoment key (Some w.number) was.then_marks was.then_known) (sym own) was.moment;
  since = subst (λ (w : Sid). IsSince (Some w.number) was.then_marks marks) (sym own) was.since;
  more = was.more;
  held = was.held;
  before = subst (λ (w : Sid). IsLogged was.then_known.log w.number → ⊥) (sym own) was.before;
  same = was.same;
}

-- of one quarantine alone, each that stands is of its session
mine_alone : (quar : Quar) (who token : ℕ) → stands_as who token (quar ∷ []) ≡ true → who ≡ quar.sid.number
mine_alone quar who token h =
    ⊎_elim (λ e. sym (eqb-true quar.sid.number who (and_elim (quar.sid.number == who) (quar.token == token) e).0))
    (λ e. absurd (false≢true e)) (or_elim ((quar.sid.number == who) && (quar.token == token)) false h)

-- a step that grants a quarantine, or raises it, is on its key
pub grants-on : (key : QKey) (token : ℕ) (s : Step) → grants_as key token s ≡ true → key ≡ key_of s
grants-on key token (step.Granted on sid mode shift now given deadline) e = same_key-true key on (and_elim (same_key key on) (given == token) e).0
grants-on key token (step.Hit on sid floor value stamp) e = absurd (false≢true e)
grants-on key token (step.Lease on sid floor now t deadline) e = absurd (false≢true e)
grants-on key token (step.Again on sid floor now stands) e = absurd (false≢true e)
grants-on key token (step.Own on sid) e = absurd (false≢true e)
grants-on key token (step.Stored on t now value stamp evicted) e = absurd (false≢true e)
grants-on key token (step.Void on t now) e = absurd (false≢true e)
grants-on key token (step.Held on sid mode) e = absurd (false≢true e)
grants-on key token (step.Refused on sid mode holder held) e = absurd (false≢true e)
grants-on key token (step.Released on sid t how) e = absurd (false≢true e)
grants-on key token (step.Gone on sid t) e = absurd (false≢true e)
grants-on key token (step.Raised on sid given) e = same_key-true key on (and_elim (same_key key on) (given == token) e).0
grants-on key token (step.Shared on sid t holder) e = absurd (false≢true e)
grants-on key token (step.Renewed on sid t now deadline) e = absurd (false≢true e)

goes : (b : Bool) (found : Option (List ℕ × ℕ)) → StaysOrGoes found (cond b None found)
goes true found = inr refl
goes false found = inl refl

-- a mode is to invalidate or isn't
pub invalidates : (mode : Mode) → (mode ≡ Invalidate) ⊎ (mode ≢ Invalidate)
invalidates Invalidate = inl refl
invalidates Refresh = inr (λ e. cc)
invalidates Delta = inr (λ e. cc)

-- what is found in a list of one is that one
found-one : (p : Quar → Bool) (x y : Quar) → find p (x ∷ []) ≡ Some y → (x ≡ y) × (p x ≡ true)
found-one p x y e = by (p x) refl e
  where
    by : (b : Bool) → p x ≡ b → cond b (Some x) None ≡ Some y → (x ≡ y) × (p x ≡ true)
    by true is e = (cc, is)
    by false is e = absurd cc

found-all : (P : Quar → Type 0) (p : Quar → Bool) (xs : List Quar) (y : Quar) → AllByRecursion P xs → find p xs ≡ Some y → P y
found-all P p [] y all e = absurd cc
found-all P p (x ∷ xs) y all e = by (p x) (λ h. found-all P p xs y all.1 h) e
  where
    same : {X : Type 0} {a b : X} → Some a ≡ Some b → a ≡ b
    same e = cc

    by : (b : Bool) → (find p xs ≡ Some y → P y) → cond b (Some x) (find p xs) ≡ Some y → P y
    by true rest e = subst P (same e) all.0
    by false rest e = rest e

-- a session writes under the quarantine that has the key for itself
pub record WritesAlone (events : List Event) (on : QKey) (sid : Sid)
    (token place : ℕ) (commit : Commit) (marks : List Mark) (now : Option (List ℕ × ℕ)) (quars : List Quar) : Type 0 where
  pub quar : Quar
  pub only : quars ≡ quar ∷ []
  pub who : quar.sid.number ≡ sid.number
  pub token_is : quar.token ≡ token
  pub alone : IsAlone on quar events marks (known_of events) now
  pub own : IsOwn alone.then_known (known_of events) quar.sid.number place commit

pub writes_alone : (events : List Event) (steps : List Step) (on : QKey) (sid : Sid) (token : ℕ) (mode : Mode) (stamp : ℕ) → mode ≢ Invalidate
    → (writes : WritesOwn events steps on sid token mode stamp) → AreAlone on (standing on steps) events (marks_of on steps) (known_of events) (entry on steps)
    → WritesAlone events on sid token writes.place writes.commit (marks_of on steps) (entry on steps) (standing on steps)
writes_alone events steps on sid token mode stamp other writes (inl all) =
    absurd (other (sym writes.in_mode ∙ found-all (λ quar. quar.mode ≡ Invalidate) (has_token token) (standing on steps) writes.quar all writes.stands))
writes_alone events steps on sid token mode stamp other writes (inr one) =
    let it = found-one (has_token token) one.quar writes.quar (ap (find (has_token token)) (sym one.only) ∙ writes.stands) in
    let mine : one.quar.sid.number ≡ sid.number = ap (λ (q : Quar). q.sid.number) it.0 ∙ ap (λ (w : Sid). w.number) writes.mine in
    record {
      quar = one.quar;
      only = one.only;
      who = mine;
      token_is = eqb-true one.quar.token token it.1;
      alone = one.alone;
      own = record {
        at = writes.logged;
        mine = writes.own ∙ sym mine;
        late = not_less writes.place (length one.alone.then_known.log) (λ lt. one.alone.before (record {
          place = writes.place;
          commit = writes.commit;
          at = more-stood one.alone.more writes.place writes.commit writes.logged lt;
          own = writes.own ∙ sym mine;
        }));
      };
    }
  where
    not_less : (a b : ℕ) → (a < b → ⊥) → b ≤ a
    not_less a b fails = omega (arith, fails)

-- what a session writes so is held
pub writes_held : (events : List Event) (steps : List Step) (on : QKey) (sid : Sid) (token : ℕ) (mode : Mode) (stamp : ℕ) → mode ≢ Invalidate
    → WritesOwn events steps on sid token mode stamp → IsRuled on (marks_of on steps) (known_of events)
    → AreAlone on (standing on steps) events (marks_of on steps) (known_of events) (entry on steps)
    → IsOver (known_of events) sid.number × IsHeld on (Wrote stamp ∷ Ended sid.number token ∷ marks_of on steps) (known_of events) stamp
writes_held events steps on sid token mode stamp other writes ruled alone =
    let it = writes_alone events steps on sid token mode stamp other writes alone in
    let marks = marks_of on steps in
    let held = put_is_held on it.quar.sid.number token writes.place writes.commit it.alone.then_marks marks it.alone.then_known
    (known_of events) it.alone.moment it.alone.since it.alone.more ruled it.own in
    let H : ℕ → Type 0 = λ n. IsHeld on (Wrote (writes.place + 1) ∷ Ended n token ∷ marks) (known_of events) (writes.place + 1) in
    let S : ℕ → Type 0 = λ n. IsHeld on (Wrote n ∷ Ended sid.number token ∷ marks) (known_of events) n in
    (inl (record { place = writes.place; commit = writes.commit; at = writes.logged; own = writes.own }), subst S (sym writes.stamp_is) (subst H it.who held))

-- a step keeps what stands apart from readers
gone_reader : (b : Bool) (quars : List Quar) (lease : Option ReadLease) → (quars ≡ []) ⊎ (lease ≡ None) → (quars ≡ []) ⊎ (cond b None lease ≡ None)
gone_reader true quars lease apart = inr refl
gone_reader false quars lease apart = apart

granted_reader : (b : Bool) (quars more : List Quar) (lease : Option ReadLease)
    → (quars ≡ []) ⊎ (lease ≡ None) → (cond b more quars ≡ []) ⊎ (cond b None lease ≡ None)
granted_reader true quars more lease apart = inr refl
granted_reader false quars more lease apart = apart

released_reader : (b : Bool) (p : Quar → Bool) (quars : List Quar) (lease : Option ReadLease)
    → (quars ≡ []) ⊎ (lease ≡ None) → (cond b (filter p quars) quars ≡ []) ⊎ (lease ≡ None)
released_reader true p quars lease (inl e) = inl (ap (filter p) e)
released_reader false p quars lease (inl e) = inl e
released_reader b p quars lease (inr e) = inr e

mapped_reader : (b : Bool) (f : Quar → Quar) (quars : List Quar) (lease : Option ReadLease)
    → (quars ≡ []) ⊎ (lease ≡ None) → (cond b (map f quars) quars ≡ []) ⊎ (lease ≡ None)
mapped_reader true f quars lease (inl e) = inl (ap (map f) e)
mapped_reader false f quars lease (inl e) = inl e
mapped_reader b f quars lease (inr e) = inr e

leased_reader : (b : Bool) (quars : List Quar) (new lease : Option ReadLease)
    → (b ≡ true → quars ≡ []) → (quars ≡ []) ⊎ (lease ≡ None) → (quars ≡ []) ⊎ (cond b new lease ≡ None)
leased_reader true quars new lease free apart = inl (free refl)
leased_reader false quars new lease free apart = apart

pub apart_step : (events : List Event) (steps : List Step) (who : Sid) (s : Step) (key : QKey) → IsGoodStep events steps who s → HasNoReader key steps
    → HasNoReader key (s ∷ steps)
apart_step events steps who (step.Lease on sid floor now token deadline) key good apart =
    leased_reader (same_key key on) (standing key steps) (Some (record { sid = sid; token = token; deadline = deadline })) (recorded key steps)
    (λ same. subst (λ k. standing k steps ≡ []) (sym (same_key-true key on same)) good) apart
apart_step events steps who (step.Granted on sid mode shift now token deadline) key good apart =
    granted_reader (same_key key on) (standing key steps) (standing key steps
    ++ record { sid = sid; mode = mode; token = token; deadline = deadline; shift = shift } ∷ []) (recorded key steps) apart
apart_step events steps who (step.Stored on token now value stamp evicted) key good apart =
    gone_reader (same_key key on) (standing key steps) (recorded key steps) apart
apart_step events steps who (step.Released on sid token how) key good apart =
    released_reader (same_key key on) (λ quar. not (has_token token quar)) (standing key steps) (recorded key steps) apart
apart_step events steps who (step.Hit on sid floor value stamp) key good apart = apart
apart_step events steps who (step.Again on sid floor now stands) key good apart = apart
apart_step events steps who (step.Own on sid) key good apart = apart
apart_step events steps who (step.Void on token now) key good apart =
    ⊎_elim (λ none. inl none) (λ none. inr (void-none key on token now steps none)) apart
apart_step events steps who (step.Held on sid mode) key good apart = apart
apart_step events steps who (step.Refused on sid mode holder held) key good apart = apart
apart_step events steps who (step.Gone on sid token) key good apart = apart
apart_step events steps who (step.Raised on sid token) key good apart =
    mapped_reader (same_key key on) (raised token) (standing key steps) (recorded key steps) apart
apart_step events steps who (step.Shared on sid token holder) key good apart = apart
apart_step events steps who (step.Renewed on sid token now deadline) key good apart =
    mapped_reader (same_key key on) (renewed token deadline) (standing key steps) (recorded key steps) apart

module _ (events after : List Event) (steps : List Step) where
  -- what is known of the key before a step
  pub record IsBefore (key : QKey) : Type 0 where
    pub ruled : IsRuled key (marks_of key steps) (known_of events)
    pub tied : IsTied (marks_of key steps) None (standing key steps) (entry key steps)
    pub held : IsEntryHeld key (marks_of key steps) (known_of events) (entry key steps)
    pub apart : HasNoReader key steps
    pub alone : AreAlone key (standing key steps) events (marks_of key steps) (known_of events) (entry key steps)

  -- the quarantines that stand on a key, and what holds of them after these
  abbrev Alone : QKey → List Quar → List Mark → Option (List ℕ × ℕ) → Type 0
  Alone key quars more now = AreAlone key quars after (more ++ marks_of key steps) (known_of events) now

  -- the past tells the same of what was found on the key
  abbrev FindsSame : QKey → Type 0
  FindsSame key = (token : ℕ) → found_at key token after ≡ found_at key token events

  mild : (key : QKey) (more : List Mark) (later : Option (List ℕ × ℕ)) → IsBefore key → FindsSame key → ((who token : ℕ) → Has (Granted who token) more → ⊥)
      → StaysOrGoes (entry key steps) later → Alone key (standing key steps) more later
  mild key more later is finds none stays =
      alone-moved key (standing key steps) events after more (marks_of key steps) (known_of events) (entry key steps) later finds none stays is.alone

  -- a quarantine is granted on the key
  granted_here : (on : QKey) (sid : Sid) (mode : Mode) (new : Quar) → IsBefore on → new.sid ≡ sid → new.mode ≡ mode → IsGoodGrant events steps on sid mode
      → found_at on new.token after ≡ Some (record { commits = length (log_of events); entry = entry on steps })
      → Alone on (standing on steps ++ new ∷ []) (Granted new.sid.number new.token ∷ []) (entry on steps)
  granted_here on sid mode new is whose in_mode good finds =
      ⊎_elim
      (λ same. inl (every-append (λ quar. quar.mode ≡ Invalidate) (standing on steps) (new ∷ []) good.joins (in_mode ∙ same, tt)))
      (λ other.
      let none = good.alone other in
      inr (record {
        quar = new;
        only = ap (λ l. l ++ new ∷ []) none;
        alone = record {
          found = record { commits = length (log_of events); entry = entry on steps };
          granted = finds;
          then_marks = marks_of on steps;
          then_known = known_of events;
          count = refl;
          moment = moment-of on (Some new.sid.number) (marks_of on steps) (known_of events) None [] (entry on steps) is.ruled
              (subst (λ l. IsTied (marks_of on steps) None l (entry on steps)) none is.tied) (λ who token h. absurd (false≢true h));
          since = since-append (Some new.sid.number) (marks_of on steps) (marks_of on steps) (Granted new.sid.number new.token ∷ [])
              (λ who token h. ⊎_elim (λ e. sym (same_who e)) (λ f. absurd f) h) (since-refl (Some new.sid.number) (marks_of on steps));
          more = more-refl (known_of events);
          held = is.held;
          before = λ logged. good.before (subst (λ (w : Sid). IsLogged (log_of events) w.number) whose logged);
          same = inl refl;
        };
      }))
      (invalidates mode)
    where
      same_who : {a c s t : ℕ} → Granted a s ≡ Granted c t → a ≡ c
      same_who e = cc

  granted_on : (key on : QKey) (sid : Sid) (mode : Mode) (new : Quar) (b : Bool) → same_key key on ≡ b → IsBefore key → new.sid ≡ sid → new.mode ≡ mode
      → IsGoodGrant events steps on sid mode
      → ((token : ℕ) → (same_key key on && (new.token == token)) ≡ false → found_at key token after ≡ found_at key token events)
      → ((token : ℕ) → (same_key key on && (new.token == token)) ≡ true
      → found_at key token after ≡ Some (record { commits = length (log_of events); entry = entry key steps }))
      → Alone key (cond b (standing key steps ++ new ∷ []) (standing key steps)) (cond b (Granted new.sid.number new.token ∷ []) []) (entry key steps)
  granted_on key on sid mode new true same is whose in_mode good finds gives =
      granted_here key sid mode new is whose in_mode (subst (λ k. IsGoodGrant events steps k sid mode) (sym (same_key-true key on same)) good)
      (gives new.token (ap (λ b. b && (new.token == new.token)) same ∙ eq-eqb new.token new.token refl))
  granted_on key on sid mode new false same is whose in_mode good finds gives =
      mild key [] (entry key steps) is (λ token. finds token (ap (λ b. b && (new.token == token)) same)) (λ who token h. h) (inl refl)

  -- a quarantine that stands alone on the key is raised: it begins anew what it has found
  raised_here : (on : QKey) (sid : Sid) (token : ℕ) → IsBefore on → IsGoodRaise events steps on sid token
      → found_at on token after ≡ Some (record { commits = length (log_of events); entry = entry on steps })
      → Alone on (map (raised token) (standing on steps)) [] (entry on steps)
  raised_here on sid token is good finds =
      let quar = good.quar in
      inr (record {
        quar = lifted quar;
        only = ap (map (raised token)) good.only ∙ ap (λ q. q ∷ []) (raised-here token quar (eq-eqb quar.token token good.its));
        alone = record {
          found = record { commits = length (log_of events); entry = entry on steps };
          granted = subst (λ t. found_at on t after ≡ Some (record { commits = length (log_of events); entry = entry on steps })) (sym good.its) finds;
          then_marks = marks_of on steps;
          then_known = known_of events;
          count = refl;
          moment = moment-of on (Some quar.sid.number) (marks_of on steps) (known_of events) None (quar ∷ []) (entry on steps) is.ruled
              (subst (λ l. IsTied (marks_of on steps) None l (entry on steps)) good.only is.tied) (λ by t h. mine_alone quar by t h);
          since = since-refl (Some quar.sid.number) (marks_of on steps);
          more = more-refl (known_of events);
          held = is.held;
          before = λ logged. good.before (subst (λ (w : Sid). IsLogged (log_of events) w.number) good.own logged);
          same = inl refl;
        };
      })

  raised_on : (key on : QKey) (sid : Sid) (token : ℕ) (b : Bool) → same_key key on ≡ b → IsBefore key → IsGoodRaise events steps on sid token
      → ((t : ℕ) → (same_key key on && (token == t)) ≡ false → found_at key t after ≡ found_at key t events)
      → ((t : ℕ) → (same_key key on && (token == t)) ≡ true
      → found_at key t after ≡ Some (record { commits = length (log_of events); entry = entry key steps }))
      → Alone key (cond b (map (raised token) (standing key steps)) (standing key steps)) (cond b [] []) (entry key steps)
  raised_on key on sid token true same is good finds gives =
      raised_here key sid token is (subst (λ k. IsGoodRaise events steps k sid token) (sym (same_key-true key on same)) good)
      (gives token (ap (λ b. b && (token == token)) same ∙ eq-eqb token token refl))
  raised_on key on sid token false same is good finds gives =
      mild key [] (entry key steps) is (λ t. finds t (ap (λ b. b && (token == t)) same)) (λ by t h. h) (inl refl)

  -- the quarantines of the key have other deadlines
  renewed_here : (key : QKey) (token deadline : ℕ) → Alone key (standing key steps) [] (entry key steps)
      → Alone key (map (renewed token deadline) (standing key steps)) [] (entry key steps)
  renewed_here key token deadline (inl all) =
      inl (every-mapped (λ quar. quar.mode ≡ Invalidate) (λ quar. quar.mode ≡ Invalidate) (renewed token deadline)
      (λ quar h. renewed-same (λ q. q.mode) token deadline quar refl ∙ h) (standing key steps) all)
  renewed_here key token deadline (inr one) =
      inr (record {
        quar = renewed token deadline one.quar;
        only = ap (map (renewed token deadline)) one.only;
        alone = alone-of key one.quar (renewed token deadline one.quar) after (marks_of key steps) (known_of events) (entry key steps)
            (renewed-same (λ q. q.token) token deadline one.quar refl) (renewed-same (λ q. q.sid) token deadline one.quar refl) one.alone;
      })

  renewed_on : (key : QKey) (token deadline : ℕ) (b : Bool) → IsBefore key → FindsSame key
      → Alone key (cond b (map (renewed token deadline) (standing key steps)) (standing key steps)) (cond b [] []) (entry key steps)
  renewed_on key token deadline true is finds =
      renewed_here key token deadline (mild key [] (entry key steps) is finds (λ by t h. h) (inl refl))
  renewed_on key token deadline false is finds = mild key [] (entry key steps) is finds (λ by t h. h) (inl refl)

  -- a value is stored where no quarantine stands that has the key for itself
  stored_on : (key on : QKey) (who : Sid) (token : ℕ) (value : List ℕ) (stamp : ℕ) (gone b : Bool) → same_key key on ≡ b → IsBefore key
      → SetsAnswer events steps who on token value stamp → FindsSame key
      → Alone key (standing key steps) (cond b (Wrote stamp ∷ []) []) (cond b (Some (value, stamp)) (cond gone None (entry key steps)))
  stored_on key on who token value stamp gone true same is sets finds = by is.alone
    where
      none_some : (lease : ReadLease) → Some lease ≡ None → standing key steps ≡ []
      none_some lease e = cc

      reads : recorded key steps ≡ Some sets.lease
      reads = ap (λ k. recorded k steps) (same_key-true key on same) ∙ sets.is_recorded

      free : standing key steps ≡ []
      free = ⊎_elim (λ e. e) (λ none. none_some sets.lease (sym reads ∙ none)) is.apart

      by : AreAlone key (standing key steps) events (marks_of key steps) (known_of events) (entry key steps)
          → Alone key (standing key steps) (Wrote stamp ∷ []) (Some (value, stamp))
      by (inl all) = inl all
      by (inr one) = inl (subst AllInvalidate (sym free) tt)
  stored_on key on who token value stamp gone false same is sets finds =
      mild key [] (cond gone None (entry key steps)) is finds (λ by at h. h) (goes gone (entry key steps))

  -- what a quarantine may end with: with a new value where it was to refresh or a delta
  abbrev Writes : QKey → Sid → ℕ → Ends → Type 0
  Writes on sid token ended.Keep = Unit {0}
  Writes on sid token ended.Drop = Unit {0}
  Writes on sid token (ended.Put value stamp evicted) = WritesOwn events steps on sid token Refresh stamp
  Writes on sid token (ended.Shift by stamp) = WritesOwn events steps on sid token Delta stamp

  -- the quarantine of the token was alone, and is gone
  written_here : (key : QKey) (sid : Sid) (token : ℕ) (mode : Mode) (stamp : ℕ) (more : List Mark) (later : Option (List ℕ × ℕ))
      → mode ≢ Invalidate → IsBefore key
      → WritesOwn events steps key sid token mode stamp → Alone key (filter (λ quar. not (has_token token quar)) (standing key steps)) more later
  written_here key sid token mode stamp more later other is writes =
      let it = writes_alone events steps key sid token mode stamp other writes is.alone in
      let left : filter (λ quar. not (has_token token quar)) (it.quar ∷ []) ≡ [] =
      ap (λ b. cond (not b) (it.quar ∷ []) []) (eq-eqb it.quar.token token it.token_is) in
      inl (subst AllInvalidate (sym (ap (filter (λ quar. not (has_token token quar))) it.only ∙ left)) tt)

  -- the quarantine of a token ends, and the entry stays or goes
  ended_here : (key : QKey) (token : ℕ) (more : List Mark) (later : Option (List ℕ × ℕ))
      → IsBefore key → FindsSame key → ((who t : ℕ) → Has (Granted who t) more → ⊥)
      → StaysOrGoes (entry key steps) later → Alone key (filter (λ quar. not (has_token token quar)) (standing key steps)) more later
  ended_here key token more later is finds none stays = by (mild key more later is finds none stays)
    where
      left : (quar : Quar) (b : Bool) → IsAlone key quar after (more ++ marks_of key steps) (known_of events) later
          → Alone key (cond (not b) (quar ∷ []) []) more later
      left quar true alone = inl tt
      left quar false alone = inr (record { quar = quar; only = refl; alone = alone })

      by : Alone key (standing key steps) more later → Alone key (filter (λ quar. not (has_token token quar)) (standing key steps)) more later
      by (inl all) = inl (every-filter (λ quar. quar.mode ≡ Invalidate) (λ quar. not (has_token token quar)) (standing key steps) all)
      by (inr one) =
          subst (λ l. Alone key (filter (λ quar. not (has_token token quar)) l) more later) (sym one.only) (left one.quar (one.quar.token == token) one.alone)

  released_here : (key : QKey) (sid : Sid) (token : ℕ) (how : Ends) → IsBefore key → Writes key sid token how → FindsSame key
      → Alone key (filter (λ quar. not (has_token token quar)) (standing key steps))
      (writes_by how ++ Ended sid.number token ∷ []) (entry_ended how (entry key steps))
  released_here key sid token ended.Keep is writes finds =
      ended_here key token (Ended sid.number token ∷ []) (entry key steps) is finds (λ who t h. no_grant who t sid.number token ended.Keep h) (inl refl)
  released_here key sid token ended.Drop is writes finds =
      ended_here key token (Ended sid.number token ∷ []) None is finds (λ who t h. no_grant who t sid.number token ended.Drop h) (inr refl)
  released_here key sid token (ended.Put value stamp evicted) is writes finds =
      written_here key sid token Refresh stamp (Wrote stamp ∷ Ended sid.number token ∷ []) (Some (value, stamp)) (λ e. cc) is writes
  released_here key sid token (ended.Shift by stamp) is writes finds =
      written_here key sid token Delta stamp (Wrote stamp ∷ Ended sid.number token
      ∷ []) (entry_ended (ended.Shift by stamp) (entry key steps)) (λ e. cc) is writes

  released_on : (key on : QKey) (sid : Sid) (token : ℕ) (how : Ends) (gone b : Bool)
      → same_key key on ≡ b → IsBefore key → Writes on sid token how → FindsSame key
      → Alone key (cond b (filter (λ quar. not (has_token token quar)) (standing key steps)) (standing key steps))
      (cond b (writes_by how ++ Ended sid.number token ∷ []) [])
      (cond b (entry_ended how (entry key steps)) (cond gone None (entry key steps)))
  released_on key on sid token how gone true same is writes finds =
      released_here key sid token how is (subst (λ k. Writes k sid token how) (sym (same_key-true key on same)) writes) finds
  released_on key on sid token how gone false same is writes finds =
      mild key [] (cond gone None (entry key steps)) is finds (λ by at h. h) (goes gone (entry key steps))

  writes_of : (who : Sid) (on : QKey) (sid : Sid) (token : ℕ) (how : Ends)
      → IsGoodStep events steps who (step.Released on sid token how) → Writes on sid token how
  writes_of who on sid token ended.Keep good = tt
  writes_of who on sid token ended.Drop good = tt
  writes_of who on sid token (ended.Put value stamp evicted) good = good.writes
  writes_of who on sid token (ended.Shift by stamp) good = good.writes

  -- each good step keeps what has its key for itself
  pub alone_step : (who : Sid) (s : Step) (key : QKey) → IsGoodStep events steps who s → IsBefore key
      → ((token : ℕ) → grants_as key token s ≡ false → found_at key token after ≡ found_at key token events)
      → ((token : ℕ) → grants_as key token s ≡ true → found_at key token after ≡ Some (record { commits = length (log_of events); entry = entry key steps }))
      → AreAlone key (standing key (s ∷ steps)) after (marks_of key (s ∷ steps)) (known_of events) (entry key (s ∷ steps))
  alone_step who (step.Granted on sid mode shift now token deadline) key good is finds gives =
      granted_on key on sid mode (record { sid = sid; mode = mode; token = token; deadline = deadline; shift = shift })
      (same_key key on) refl is refl refl good finds gives
  alone_step who (step.Stored on token now value stamp evicted) key good is finds gives =
      stored_on key on who token value stamp (is_evicted key evicted) (same_key key on) refl is good (λ t. finds t refl)
  alone_step who (step.Released on sid token how) key good is finds gives =
      released_on key on sid token how (is_evicted key (evicted_by how)) (same_key key on) refl is (writes_of who on sid token how good) (λ t. finds t refl)
  alone_step who (step.Lease on sid floor now token deadline) key good is finds gives =
      mild key (cond (same_key key on) (Leased token ∷ []) []) (cond (same_key key on) None (entry key steps)) is (λ t. finds t refl)
      (λ by t h. one_in (Granted by t) (Leased token) (same_key key on) (λ e. absurd cc) h) (goes (same_key key on) (entry key steps))
  alone_step who (step.Again on sid floor now stands) key good is finds gives =
      mild key (cond (same_key key on) [] []) (cond (same_key key on) None (entry key steps)) is (λ t. finds t refl)
      (λ by t h. none_in (Granted by t) (same_key key on) h) (goes (same_key key on) (entry key steps))
  alone_step who (step.Hit on sid floor value stamp) key good is finds gives =
      mild key (cond (same_key key on) [] []) (entry key steps) is (λ t. finds t refl) (λ by t h. none_in (Granted by t) (same_key key on) h) (inl refl)
  alone_step who (step.Own on sid) key good is finds gives =
      mild key (cond (same_key key on) [] []) (entry key steps) is (λ t. finds t refl) (λ by t h. none_in (Granted by t) (same_key key on) h) (inl refl)
  alone_step who (step.Void on token now) key good is finds gives =
      mild key (cond (same_key key on) [] []) (entry key steps) is (λ t. finds t refl) (λ by t h. none_in (Granted by t) (same_key key on) h) (inl refl)
  alone_step who (step.Held on sid mode) key good is finds gives =
      mild key (cond (same_key key on) [] []) (entry key steps) is (λ t. finds t refl) (λ by t h. none_in (Granted by t) (same_key key on) h) (inl refl)
  alone_step who (step.Refused on sid mode holder held) key good is finds gives =
      mild key (cond (same_key key on) [] []) (entry key steps) is (λ t. finds t refl) (λ by t h. none_in (Granted by t) (same_key key on) h) (inl refl)
  alone_step who (step.Gone on sid token) key good is finds gives =
      mild key (cond (same_key key on) [] []) (entry key steps) is (λ t. finds t refl) (λ by t h. none_in (Granted by t) (same_key key on) h) (inl refl)
  alone_step who (step.Raised on sid token) key good is finds gives =
      raised_on key on sid token (same_key key on) refl is good finds gives
  alone_step who (step.Shared on sid token holder) key good is finds gives =
      mild key (cond (same_key key on) [] []) (entry key steps) is (λ t. finds t refl) (λ by t h. none_in (Granted by t) (same_key key on) h) (inl refl)
  alone_step who (step.Renewed on sid token now deadline) key good is finds gives =
      renewed_on key token deadline (same_key key on) is (λ t. finds t refl)
