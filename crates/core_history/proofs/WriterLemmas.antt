-- What the grants of a writer are after each reply.
use Rattle.std.proofs.Common.{ℕ, ℤ, ◌≡◌, ◌<◌, ◌+◌, ◌==◌, true, cond, List, [], ◌∷◌, ◌++◌, length, length-append, count_by, false, Some}
use Rattle.std.proofs.Common.{slice_get, refl, sym, ap, subst, ◌∙◌, inl, inr, ◌⊎◌, arith}
use Rattle.std.proofs.lemmas.Bool.{false≢true, eq-eqb}
use Rattle.rows_model.specs.declared.keys.QKey.{QKey}
use Rattle.rows_model.specs.declared.keys.Sid.{Sid}
use Rattle.rows_model.specs.declared.changes.Change.{Change}
use Rattle.rows_model.specs.Key.{same_key}
use Rattle.rows_model.proofs.SameKey.{same_key-refl}
use Rattle.rows_model.specs.Placement.{shard_of}
use Rattle.lease_table.specs.declared.records.Mode.{Mode}
use Rattle.key_shard.specs.Permit.{Permit}
use Rattle.key_shard.specs.declared.steps.Step.{Step}
use Rattle.key_shard.specs.declared.steps.Step.TheVariants as step
use Rattle.key_shard.specs.declared.replies.QAnswer.TheVariants as quarantine
use Rattle.key_shard.specs.declared.replies.Rel.{Rel}
use Rattle.key_shard.specs.Past.{draws, standing, quar_of, entry, next_token, deadline_at, grants}
use Rattle.key_shard.specs.Answers.{granted_step}
use Rattle.key_shard.proofs.LegalLemmas.{AllOfOwnToken}
use Rattle.key_shard.proofs.PermitLemmas.{is_of_permit}
use Rattle.std.specs.List.{list_any}
use Rattle.std.proofs.lemmas.Option.{slice_get_within}
use Rattle.sql_keeper.specs.Commits.{is_covered}
use Rattle.key_shard.specs.Replies.{old_value}
use Rattle.sql_keeper.specs.declared.stores.Commit.{Commit}
use Rattle.session_client.specs.Grants.{GrantsView}
use Rattle.session_client.specs.declared.plans.Shape.{Shape}
use Rattle.session_client.specs.declared.replies.Reply.{Reply}
use Rattle.session_client.specs.declared.replies.Reply.TheVariants as Reply
use Rattle.session_client.specs.declared.replies.Wanted.{Wanted}
use Rattle.session_client.specs.Plans.{mode_on}
use Rattle.session_client.specs.Wants.{Writing, given, granted, is_had, is_release, is_turn, released}
use Rattle.session_client.proofs.WantCases.{is_asking}
use Rattle.core_history.specs.Events.{Event, Stepped, Called, steps_of, log_of, has_committed, was_ended}
use Rattle.core_history.specs.Machine.{terms_of, stepped_on}
use Rattle.core_history.specs.Facts.{found_at, grants_as}
use Rattle.core_history.proofs.ListLemmas.{or_inl, and_intro, not_both, any-at, push-place, slice-last, count-cons}
use Rattle.core_history.proofs.EventLemmas.{closed, closed-more, ever}
use Rattle.core_history.proofs.SessionLemmas.{Stood, Fits, Placed, Suits, found-mode, stands-granted, Writer, Keeps, Finds, IsDrawn, IsOld}
use Rattle.core_history.proofs.SessionLemmas.{ReleasesNone, ReturnsGrant, IsLateDraw}
use Rattle.core_history.proofs.SessionLemmas.{asking-going, finds-stepped, finds-none, finds-called}
use Rattle.core_history.proofs.SessionLemmas.{maybe-step, late-draw, number-more, writer-more, writer-heard, stood-stepped}
use Rattle.core_history.proofs.SessionLemmas.{stood-granted, stood-new, stood-called, out-other}

-- the event of a quarantine that is granted
abbrev pub granted_event : Shape → List Event → Sid → Wanted → QKey → Mode → ℤ → ℕ → Event
granted_event shape past who request key mode shift now =
    stepped_on shape past who request key (λ terms steps. granted_step terms steps key who mode shift now)

-- the grant that it gives, and what it tells
abbrev pub granted_permit : Shape → List Event → Sid → QKey → Mode → Permit
granted_permit shape past who key mode =
    let home = shard_of key shape.shards in
    record { shard = home; key = key; sid = who; mode = mode; token = next_token (terms_of shape home) (steps_of home past) }

abbrev pub granted_reply : Shape → List Event → Sid → QKey → Mode → Reply
granted_reply shape past who key mode =
    Reply.Quar (quarantine.Granted (granted_permit shape past who key mode) (old_value mode (entry key (steps_of (shard_of key shape.shards) past))))

-- a quarantine that the session asked for is granted
pub writer-granted : (shape : Shape) (past : List Event) (who : Sid)
    (request : Wanted) (key : QKey) (mode : Mode) (shift : ℤ) (now : ℕ) (heard : List Reply) (writing : Writing)
    → ReleasesNone request → slice_get writing.keys (count_by is_had heard) ≡ Some key → mode ≡ mode_on writing.mode key → is_asking heard ≡ true
    → AllOfOwnToken (standing key (granted_step (terms_of shape (shard_of key shape.shards)) (steps_of (shard_of key shape.shards) past) key who mode shift now
    ∷ steps_of (shard_of key shape.shards) past))
    → Writer shape past who.number heard writing
    → Writer shape (granted_event shape past who request key mode shift now ∷ past) who.number (granted_reply shape past who key mode ∷ heard) writing
writer-granted shape past who request key mode shift now heard writing none at in_mode asks distinct w =
    let n = who.number in
    let home = shard_of key shape.shards in
    let terms = terms_of shape home in
    let steps = steps_of home past in
    let token = next_token terms steps in
    let deadline = deadline_at terms now in
    let s = step.Granted key who mode shift now token deadline in
    let grant = granted_permit shape past who key mode in
    let old = old_value mode (entry key steps) in
    let reply = granted_reply shape past who key mode in
    let event = Stepped home who request s reply in
    let late : IsLateDraw shape past s = late-draw shape past home s (refl, refl) in
    let keeps : Keeps shape event past n = λ g _ h. stood-granted shape home who request key who mode shift now token deadline reply past none n g h in
    let finds : Finds shape event past n = finds-stepped shape home who request s reply past n tt late in
    let more = writer-more shape event past n heard writing finds keeps w in
    let new = stood-new shape who request key mode shift now token deadline reply past none in
    let here_stands : list_any (is_of_permit grant) (standing key (s ∷ steps)) ≡ true = stands-granted key who mode token home shift deadline
    (standing key steps) in
    let fresh : (i : ℕ) (g : Permit) → slice_get (granted heard) i ≡ Some g → g.key ≡ key → ⊥ = λ i g e same.
    let here = ap (λ l. slice_get l i) (sym (w.asked asks)) ∙ e in
    let is = w.once i (count_by is_had heard) key ((w.placed i g here).at_key ∙ ap (λ k. Some k) same) at in
    let within = slice_get_within (ever heard) i g here in
    let count = w.had in
    omega (arith, is, within, count) in
    let a = count-cons is_had reply heard in
    let c = count-cons is_release reply heard in
    let rel : released (reply ∷ heard) ≡ released heard = omega (arith, c) in
    let had = w.had in
    let len = length-append (ever heard) (grant ∷ []) in
    let here : (home == home) ≡ true = eq-eqb home home refl in
    let drawn : IsDrawn shape (event ∷ past) grant = maybe-step (λ l. token < next_token terms l) (home == home) s steps
    (λ _. let one = count-cons draws s steps in omega (arith, one)) (λ other. absurd (not_both here other)) in
    record {
      once = w.once;
      placed = λ i g e. elim (push-place (ever heard) grant i g e) [
        | inl before ↦ w.placed i g before
        | inr last ↦ subst (Placed n writing i) last.1 (record { at_key = ap (slice_get writing.keys) (last.0 ∙ sym had) ∙ at; own = refl })
      ];
      asked = λ _. ap (λ l. l ++ grant ∷ []) (w.asked asks);
      fits = λ i g e. elim (push-place (granted heard) grant i g e) [
        | inl before ↦ w.fits i g before
        | inr last ↦ subst (Fits n writing) last.1 (record { own = refl; in_mode = inl in_mode })
      ];
      apart = λ i j one two at_one at_two same. elim (push-place (granted heard) grant i one at_one) [
        | inl before ↦ elim (push-place (granted heard) grant j two at_two) [
          | inl also ↦ w.apart i j one two before also same
          | inr last ↦ absurd (fresh i one before (same ∙ sym (ap (λ (p : Permit). p.key) last.1)))
        ]
        | inr last ↦ elim (push-place (granted heard) grant j two at_two) [
          | inl before ↦ absurd (fresh j two before (sym same ∙ sym (ap (λ (p : Permit). p.key) last.1)))
          | inr also ↦ last.0 ∙ sym also.0
        ]
      ];
      unspent = λ still k by own covered. ap (λ l. is_covered by (l ++ grant ∷ []) k) (w.asked asks) ∙ covered;
      was = λ i g e. elim (push-place (granted heard) grant i g e) [
        | inl before ↦ more.was i g before
        | inr last ↦ subst (λ (p : Permit). list_any (grants p) (steps_of (shard_of p.key shape.shards) (event ∷ past)) ≡ true) last.1 new.was
      ];
      suits = λ i g e. elim (push-place (granted heard) grant i g e) [
        | inl before ↦ more.suits i g before
        | inr last ↦ subst (Suits shape (event ∷ past)) last.1 (λ quar. maybe-step (λ l. quar_of key token l ≡ Some quar
            → quar.mode ≡ mode) (home == home) s steps
            (λ _ e. found-mode grant (standing key (s ∷ steps)) quar distinct here_stands e)
            (λ other. absurd (not_both here other)))
      ];
      had = omega (arith, a, had, len);
      drawn = λ i g e. elim (push-place (granted heard) grant i g e) [
        | inl before ↦ more.drawn i g before
        | inr last ↦ subst (IsDrawn shape (event ∷ past)) last.1 drawn
      ];
      stood = λ i g e not_yet. elim (push-place (granted heard) grant i g e) [
        | inl before ↦ more.stood i g before (omega (arith, not_yet, rel))
        | inr last ↦ subst (Stood shape (event ∷ past) n) last.1 new
      ];
      shut = subst (λ r. (r ≡ 0) ⊎ (closed n (event ∷ past) ≡ true)) (sym rel) more.shut;
      ending = λ e. absurd (false≢true e);
      going = λ _. let goes = w.going (asking-going heard asks) in (goes.0, rel ∙ goes.1);
      unraised = λ i g e late. elim (push-place (granted heard) grant i g e) [
        | inl before ↦ let d = count-cons is_turn reply heard in w.unraised i g before (omega (arith, late, d))
        | inr last ↦ subst (λ (p : Permit). p.mode ≡ mode_on writing.mode p.key) last.1 in_mode
      ];
      raising = λ on. absurd (false≢true on);
      numbered = more.numbered;
      olds = λ i one e. elim (push-place (given heard) (record { permit = grant; old = old }) i one e) [
        | inl before ↦ more.olds i one before
        | inr last ↦ subst (IsOld (event ∷ past)) last.1 (record {
          found = record { commits = length (log_of past); entry = entry key steps };
          at = ap (λ b. cond b (Some (record { commits = length (log_of past); entry = entry key steps })) (found_at key token past))
              (and_intro (same_key key key) (token == token) (same_key-refl key) (eq-eqb token token refl));
          old = λ refreshes. ap (λ m. old_value m (entry key steps)) refreshes;
        })
      ];
    }

-- a grant is released by a session that is closed, and ends or is gone
pub writer-released : (shape : Shape) (past : List Event) (place : ℕ)
    (who : Sid) (request : Wanted) (s : Step) (rel : Rel) (gone : Permit) (heard : List Reply) (writing : Writing)
    → ReturnsGrant gone request → ((key : QKey) (token : ℕ) → grants_as key token s ≡ false) → slice_get (granted heard) (released heard) ≡ Some gone
    → closed who.number past ≡ true
    → Writer shape past who.number heard writing → Writer shape (Stepped place who request s (Reply.Rel rel) ∷ past) who.number (Reply.Rel rel ∷ heard) writing
writer-released shape past place who request s rel gone heard writing returns none at shut w =
    let n = who.number in
    let reply = Reply.Rel rel in
    let event = Stepped place who request s reply in
    let c = count-cons is_release reply heard in
    writer-heard shape event past n reply heard writing (record { none = refl; kept = λ p g. refl; left = λ p g. refl }) refl
    (finds-none shape place who request s reply past n none)
    (λ i g here not_yet.
    let other : gone ≡ g → ⊥ = λ one. let place_is : i ≡ released heard =
    w.apart i (released heard) g gone here at (ap (λ (p : Permit). p.key) (sym one)) in omega (arith, not_yet, c, place_is) in
    stood-stepped shape place who request s reply past n g (λ _ still _. absurd (not_both shut still))
    (out-other g gone request s returns other) (w.stood i g here (omega (arith, not_yet, c))))
    (inr (closed-more n event past shut)) (λ _. closed-more n event past shut) (λ number e. number-more event past n number (w.numbered number e))
    (λ on. absurd (false≢true on)) (λ on. absurd (false≢true on)) w

-- the session is told that it has committed
pub writer-committed : (shape : Shape) (past : List Event) (who : Sid)
    (request : Wanted) (txn : List Change) (lent : GrantsView) (heard : List Reply) (writing : Writing)
    → Writer shape past who.number heard writing
    → Writer shape (Called who request (Reply.Committed (length (log_of past) + 1) txn lent)
    ∷ past) who.number (Reply.Committed (length (log_of past) + 1) txn lent ∷ heard) writing
writer-committed shape past who request txn lent heard writing w =
    let n = who.number in
    let number = length (log_of past) + 1 in
    let reply = Reply.Committed number txn lent in
    let event = Called who request reply in
    let commit : Commit = record { sid = who; txn = txn } in
    let c = count-cons is_release reply heard in
    let last = slice-last (log_of past) commit in
    let shut : closed n (event ∷ past) ≡ true = or_inl (has_committed n (event ∷ past)) (was_ended n (event ∷ past))
    (any-at (λ (c : Commit). c.sid.number == n) (log_of past ++ commit ∷ []) (length (log_of past)) commit last (eq-eqb n n refl)) in
    writer-heard shape event past n reply heard writing (record { none = refl; kept = λ p g. refl; left = λ p g. refl }) refl
    (finds-called shape who request reply past n)
    (λ i g at not_yet. stood-called shape who request reply past n g (w.stood i g at (omega (arith, not_yet, c)))) (inr shut) (λ _. shut)
    (λ m e. let is : number ≡ m = some_same e in record { place = length (log_of past); commit = commit; is = sym is; at = last; own = refl })
    (λ on. absurd (false≢true on)) (λ on. absurd (false≢true on)) w
  where
    some_same : {m k : ℕ} → Some m ≡ Some k → m ≡ k
    some_same e = cc
