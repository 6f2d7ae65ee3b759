-- What the grants of a writer are after a raise.
use Rattle.std.proofs.Common.{ℕ, ◌≡◌, ◌≢◌, ◌+◌, ◌==◌, ◌&&◌, Bool, true, false, cond, List, [], ◌∷◌, length, map, set, find, append-nil, Some}
use Rattle.std.proofs.Common.{slice_get, refl, sym, ap, subst, ◌∙◌, inl, inr, ◌⊎◌, arith}
use Rattle.std.specs.Prelude.{Option}
use Rattle.std.specs.List.{list_any, remove}
use Rattle.std.proofs.lemmas.Bool.{false≢true, eq-eqb, eqb-true}
use Rattle.rows_model.specs.declared.keys.Sid.{Sid}
use Rattle.rows_model.specs.Key.{same_key}
use Rattle.rows_model.proofs.SameKey.{same_key-true, same_key-refl}
use Rattle.rows_model.specs.Placement.{shard_of}
use Rattle.lease_table.specs.declared.records.Mode.TheVariants.{Invalidate, Refresh}
use Rattle.lease_table.specs.declared.records.Quar.{Quar}
use Rattle.lease_table.specs.Leases.{has_token, raised}
use Rattle.key_shard.specs.Permit.{Permit, same_permit}
use Rattle.key_shard.specs.declared.steps.Step.{Step}
use Rattle.key_shard.specs.declared.steps.Step.TheVariants as step
use Rattle.key_shard.specs.declared.replies.Raising.TheVariants as raising
use Rattle.key_shard.specs.Past.{standing, quar_of, entry, grants}
use Rattle.key_shard.specs.Shards.{raised_permit}
use Rattle.key_shard.proofs.OutLemmas.{same_permit-true}
use Rattle.key_shard.proofs.PermitLemmas.{is_of_permit}
use Rattle.key_shard.proofs.RaiseLemmas.{lifted, raised-here, raised-apart, quar-raised}
use Rattle.sql_keeper.specs.Commits.{covers, is_covered}
use Rattle.session_client.specs.declared.plans.Shape.{Shape}
use Rattle.session_client.specs.declared.replies.Reply.{Reply}
use Rattle.session_client.specs.declared.replies.Reply.TheVariants as Reply
use Rattle.session_client.specs.declared.replies.Wanted.TheVariants as wanted
use Rattle.session_client.specs.Wants.{Writing, given, granted, is_had, is_release, is_turn, released, turned}
use Rattle.session_client.proofs.WantCases.{given-granted}
use Rattle.core_history.specs.Events.{Event, Stepped, steps_of, log_of}
use Rattle.core_history.specs.Machine.{terms_of, out_of, out_by}
use Rattle.core_history.specs.Facts.{Found, found_at, grants_as}
use Rattle.core_history.proofs.ListLemmas.{choose, and_intro, and_elim, not_both, not_true, any-weaker, count-cons}
use Rattle.core_history.proofs.EventLemmas.{closed, closed-more, ever}
use Rattle.core_history.proofs.SessionLemmas.{Stood, Suits, Fits, IsOld, IsDrawn, Writer, Finds, maybe-step, is_going, same_permit-refl}
use Rattle.core_history.proofs.SessionLemmas.{without-other, stood-stepped}
use Rattle.core_history.proofs.SessionLemmas.{finds-apart, finds-none, drawn-more, number-more, old-more, granted-more, shut-more, suits-more, olds-more}
use Rattle.core_history.proofs.TurnLists.{WasAt, set-place, remove-place, was-other, was-one, any-set, any-changed}

-- the grant as it is once it is raised
abbrev pub lifted_grant : Permit → Permit
lifted_grant grant = record { shard = grant.shard; key = grant.key; sid = grant.sid; mode = Refresh; token = grant.token }

pub raised-lifted : (grant : Permit) → raised_permit grant.key grant.token grant ≡ lifted_grant grant
raised-lifted grant =
    ap (λ b. cond b (lifted_grant grant) grant)
    (and_intro (same_key grant.key grant.key) (grant.token == grant.token) (same_key-refl grant.key) (eq-eqb grant.token grant.token refl))

-- two grants are of one quarantine
abbrev pub AreOne : Permit → Permit → Type 0
AreOne grant other = (other.key ≡ grant.key) × (other.token ≡ grant.token)

-- the step that raises one grant's quarantine doesn't raise another's
pub raises-apart : (grant other : Permit) → (AreOne grant other → ⊥) → grants_as other.key other.token (step.Raised grant.key grant.sid grant.token) ≡ false
raises-apart grant other differ =
    not_true (same_key other.key grant.key && (grant.token == other.token)) (λ is.
    let parts = and_elim (same_key other.key grant.key) (grant.token == other.token) is in
    differ (same_key-true other.key grant.key parts.0, sym (eqb-true grant.token other.token parts.1)))

permit-apart : (grant other : Permit) → (AreOne grant other → ⊥) → raised_permit grant.key grant.token other ≡ other
permit-apart grant other differ =
    ap (λ b. cond b (lifted_grant other) other)
    (not_true (same_key grant.key other.key && (other.token == grant.token)) (λ is.
    let parts = and_elim (same_key grant.key other.key) (other.token == grant.token) is in
    differ (sym (same_key-true grant.key other.key parts.0), eqb-true other.token grant.token parts.1)))

-- so another grant stands as before
pub stood-apart : (shape : Shape) (who : Sid) (grant : Permit) (reply : Reply) (past : List Event) (n : ℕ) (other : Permit) → (AreOne grant other → ⊥)
    → Stood shape past n other
    → Stood shape (Stepped (shard_of grant.key shape.shards) who (wanted.Raise grant) (step.Raised grant.key grant.sid grant.token) reply ∷ past) n other
stood-apart shape who grant reply past n other differ h =
    let home = shard_of grant.key shape.shards in
    let s = step.Raised grant.key grant.sid grant.token in
    stood-stepped shape home who (wanted.Raise grant) s reply past n other
    (λ at still stands.
    choose (λ l. list_any (is_of_permit other) l ≡ true) (same_key other.key grant.key)
    (map (raised grant.token) (standing other.key (steps_of home past))) (standing other.key (steps_of home past))
    (λ same. any-changed (is_of_permit other) (is_of_permit other) (raised grant.token) (standing other.key (steps_of home past))
    (λ quar is.
    let token : quar.token ≡ other.token = eqb-true quar.token other.token (and_elim _ _ is).1 in
    let apart : has_token grant.token quar ≡ false = not_true (has_token grant.token quar) (λ one.
    differ (same_key-true other.key grant.key same, sym token ∙ eqb-true quar.token grant.token one)) in
    subst (λ q. is_of_permit other q ≡ true) (sym (raised-apart grant.token quar apart)) is)
    stands)
    (λ _. stands))
    (λ terms out is. any-changed (same_permit other) (same_permit other) (raised_permit grant.key grant.token) out
    (λ x mine.
    let one : x ≡ other = same_permit-true other x mine in
    let kept : raised_permit grant.key grant.token x ≡ x = ap (raised_permit grant.key grant.token) one ∙ permit-apart grant other differ ∙ sym one in
    subst (λ y. same_permit other y ≡ true) (sym kept) mine) is)
    h

-- the raised one stands as its new grant says
lifted-stands : (grant : Permit) (quar : Quar) → is_of_permit grant quar ≡ true → is_of_permit (lifted_grant grant) (raised grant.token quar) ≡ true
lifted-stands grant quar is =
    let last = and_elim _ _ is in
    let first = and_elim _ _ last.0 in
    subst (λ q. is_of_permit (lifted_grant grant) q ≡ true) (sym (raised-here grant.token quar last.1))
    (and_intro _ _ (and_intro _ _ first.0 refl) last.1)

same-grants : (grant : Permit) (s : Step) → grants grant s ≡ true → grants (lifted_grant grant) s ≡ true
same-grants grant (step.Granted on sid mode shift now token deadline) h = h
same-grants grant other h = absurd (false≢true h)

stood-lifted : (shape : Shape) (who : Sid) (grant : Permit) (reply : Reply) (past : List Event) (n : ℕ) → Stood shape past n grant
    → Stood shape (Stepped (shard_of grant.key shape.shards) who (wanted.Raise grant) (step.Raised grant.key grant.sid grant.token) reply ∷ past) n
    (lifted_grant grant)
stood-lifted shape who grant reply past n h =
    let home = shard_of grant.key shape.shards in
    let s = step.Raised grant.key grant.sid grant.token in
    let steps = steps_of home past in
    let event = Stepped home who (wanted.Raise grant) s reply in
    let here : (home == home) ≡ true = eq-eqb home home refl in
    let up = lifted_grant grant in
    let out = out_of shape home past in
    record {
      own = h.own;
      out = choose (λ l. list_any (same_permit up) l ≡ true) (home == home) (out_by (terms_of shape home) (wanted.Raise grant) s out) out
          (λ _. any-changed (same_permit grant) (same_permit up) (raised_permit grant.key grant.token) out
          (λ x mine. subst (λ y. same_permit up y ≡ true) (sym (ap (raised_permit grant.key grant.token) (same_permit-true grant x mine) ∙ raised-lifted grant))
          (same_permit-refl up)) h.out)
          (λ other. absurd (not_both here other));
      was = any-weaker (grants grant) (grants up) (steps_of home (event ∷ past)) (same-grants grant) (granted-more shape event past grant h.was);
      stands = λ still. maybe-step (λ l. list_any (is_of_permit up) (standing grant.key l) ≡ true) (home == home) s steps
          (λ _. choose (λ l. list_any (is_of_permit up) l ≡ true) (same_key grant.key grant.key) (map (raised grant.token) (standing grant.key steps))
          (standing grant.key steps)
          (λ _. any-changed (is_of_permit grant) (is_of_permit up) (raised grant.token) (standing grant.key steps) (lifted-stands grant)
          (h.stands (still-before event past n still)))
          (λ other. absurd (not_both (same_key-refl grant.key) other)))
          (λ other. absurd (not_both here other));
    }
  where
    still-before : (event : Event) (past : List Event) (n : ℕ) → closed n (event ∷ past) ≡ false → closed n past ≡ false
    still-before event past n still = not_true (closed n past) (λ shut. not_both (closed-more n event past shut) still)

-- a quarantine that stands under its token afterwards is to refresh
suits-lifted : (shape : Shape) (who : Sid) (grant : Permit) (reply : Reply) (past : List Event)
    → Suits shape (Stepped (shard_of grant.key shape.shards) who (wanted.Raise grant) (step.Raised grant.key grant.sid grant.token) reply ∷ past)
    (lifted_grant grant)
suits-lifted shape who grant reply past quar =
    let home = shard_of grant.key shape.shards in
    let s = step.Raised grant.key grant.sid grant.token in
    let steps = steps_of home past in
    maybe-step (λ l. quar_of grant.key grant.token l ≡ Some quar → quar.mode ≡ Refresh) (home == home) s steps
    (λ _ e.
    let was = quar-raised steps grant.key grant.sid grant.token grant.key grant.token quar e in
    let its = found-token grant.token (standing grant.key steps) was.0 was.1 in
    let now : lifted was.0 ≡ quar = sym (raised-here grant.token was.0 its)
    ∙ sym (ap (λ b. cond b (raised grant.token was.0) was.0) (same_key-refl grant.key)) ∙ was.2 in
    sym (ap (λ (q : Quar). q.mode) now))
    (λ other. absurd (not_both (eq-eqb home home refl) other))
  where
    found-token : (token : ℕ) (quars : List Quar) (q : Quar) → find (has_token token) quars ≡ Some q → has_token token q ≡ true
    found-token token [] q e = absurd cc
    found-token token (one ∷ quars) q e = by (has_token token one) refl (found-token token quars q) e
      where
        by : (b : Bool) → has_token token one ≡ b → (find (has_token token) quars ≡ Some q → has_token token q ≡ true)
            → cond b (Some one) (find (has_token token) quars) ≡ Some q → has_token token q ≡ true
        by true is rest h = let same : one ≡ q = cc in subst (λ x. has_token token x ≡ true) same is
        by false is rest h = rest h

-- what a session is told of a raise
abbrev pub raised_reply : Permit → Option (List ℕ × ℕ) → Reply
raised_reply grant old = Reply.Raise (raising.Raised (lifted_grant grant) old)

module _ (shape : Shape) (past : List Event) (who : Sid) (grant : Permit) (heard : List Reply) (writing : Writing)
    (w : Writer shape past who.number heard writing) (at : slice_get (granted heard) (turned heard) ≡ Some grant) (going : is_going heard ≡ true)
    (in_mode : writing.mode ≡ Invalidate) where
  abbrev home : ℕ
  home = shard_of grant.key shape.shards

  abbrev old : Option (List ℕ × ℕ)
  old = entry grant.key (steps_of home past)

  abbrev its_reply : Reply
  its_reply = raised_reply grant old

  abbrev s : Step
  s = step.Raised grant.key grant.sid grant.token

  abbrev event : Event
  event = Stepped home who (wanted.Raise grant) s its_reply

  news : granted (its_reply ∷ heard) ≡ set (granted heard) (turned heard) (lifted_grant grant)
  news = append-nil (set (granted heard) (turned heard) (lifted_grant grant))

  gives : given (its_reply ∷ heard) ≡ set (given heard) (turned heard) (record { permit = lifted_grant grant; old = old })
  gives = append-nil (set (given heard) (turned heard) (record { permit = lifted_grant grant; old = old }))

  evers : ever (its_reply ∷ heard) ≡ ever heard
  evers = append-nil (ever heard)

  -- the raised one, or another
  which : (i : ℕ) (g : Permit) → slice_get (granted (its_reply ∷ heard)) i ≡ Some g
      → ((i ≡ turned heard) × (lifted_grant grant ≡ g)) ⊎ ((i ≢ turned heard) × (slice_get (granted heard) i ≡ Some g))
  which i g e = set-place (granted heard) (turned heard) i (lifted_grant grant) g (sym (ap (λ l. slice_get l i) news) ∙ e)

  differs : (i : ℕ) (g : Permit) → i ≢ turned heard → slice_get (granted heard) i ≡ Some g → AreOne grant g → ⊥
  differs i g other e one = other (w.apart i (turned heard) g grant e at one.0)

  fresh : released (its_reply ∷ heard) ≡ released heard
  fresh = let c = count-cons is_release its_reply heard in omega (arith, c)

  moved : turned (its_reply ∷ heard) ≡ turned heard + 1
  moved = let c = count-cons is_turn its_reply heard in omega (arith, c)

  kept : (i : ℕ) (g : Permit) → i ≢ turned heard → slice_get (granted heard) i ≡ Some g → Suits shape (event ∷ past) g
  kept i g other e quar stands =
      let was = (finds-apart shape home who (wanted.Raise grant) s its_reply past g (raises-apart grant g (differs i g other e))).1 quar stands in
      sym was.2 ∙ w.suits i g e was.0 was.1

  found-same : (i : ℕ) (g : Permit) → i ≢ turned heard → slice_get (granted heard) i ≡ Some g
      → found_at g.key g.token (event ∷ past) ≡ found_at g.key g.token past
  found-same i g other e = (finds-apart shape home who (wanted.Raise grant) s its_reply past g (raises-apart grant g (differs i g other e))).0

  abbrev now_found : Found
  now_found = record { commits = length (log_of past); entry = entry grant.key (steps_of home past) }

  pub writer-raised : Writer shape (event ∷ past) who.number (its_reply ∷ heard) writing
  writer-raised =
      let n = who.number in
      let free = w.going going in
      let none = free.1 in
      let ready = w.stood (turned heard) grant at (omega (arith, none)) in
      record {
        once = w.once;
        placed = λ i g e. w.placed i g (sym (ap (λ l. slice_get l i) evers) ∙ e);
        had = let a = count-cons is_had its_reply heard in let had = w.had in let len = ap length evers in omega (arith, a, had, len);
        asked = λ asks. absurd (false≢true asks);
        fits = λ i g e. elim (which i g e) [
          | inl here ↦ subst (Fits n writing) here.1 (record { own = (w.fits (turned heard) grant at).own; in_mode = inr refl })
          | inr there ↦ w.fits i g there.1
        ];
        apart = λ i j one two at_one at_two same. elim (which i one at_one) [
          | inl here ↦ elim (which j two at_two) [
            | inl also ↦ here.0 ∙ sym also.0
            | inr there ↦ here.0 ∙ w.apart (turned heard) j grant two at there.1 (ap (λ (p : Permit). p.key) here.1 ∙ same)
          ]
          | inr there ↦ elim (which j two at_two) [
            | inl here ↦ w.apart i (turned heard) one grant there.1 at (same ∙ sym (ap (λ (p : Permit). p.key) here.1)) ∙ sym here.0
            | inr also ↦ w.apart i j one two there.1 also.1 same
          ]
        ];
        unspent = λ still key by own covered.
            ap (λ l. is_covered by l key) news
            ∙ any-set (covers by key) (granted heard) (turned heard) (lifted_grant grant) grant at (λ h. h)
            (w.unspent (not_true (closed n past) (λ shut. not_both (closed-more n event past shut) still)) key by own
            (sym (ap (λ l. is_covered by l key) evers) ∙ covered));
        was = λ i g e. elim (which i g e) [
          | inl here ↦ subst (λ (p : Permit). list_any (grants p) (steps_of (shard_of p.key shape.shards) (event ∷ past)) ≡ true) here.1
              (stood-lifted shape who grant its_reply past n ready).was
          | inr there ↦ granted-more shape event past g (w.was i g there.1)
        ];
        suits = λ i g e. elim (which i g e) [
          | inl here ↦ subst (Suits shape (event ∷ past)) here.1 (suits-lifted shape who grant its_reply past)
          | inr there ↦ kept i g there.0 there.1
        ];
        drawn = λ i g e. elim (which i g e) [
          | inl here ↦ subst (IsDrawn shape (event ∷ past)) here.1 (drawn-more shape event past grant (w.drawn (turned heard) grant at))
          | inr there ↦ drawn-more shape event past g (w.drawn i g there.1)
        ];
        stood = λ i g e late. elim (which i g e) [
          | inl here ↦ subst (Stood shape (event ∷ past) n) here.1 (stood-lifted shape who grant its_reply past n ready)
          | inr there ↦ stood-apart shape who grant its_reply past n g (differs i g there.0 there.1) (w.stood i g there.1 (omega (arith, late, fresh)))
        ];
        shut = subst (λ r. (r ≡ 0) ⊎ (closed n (event ∷ past) ≡ true)) (sym fresh) (shut-more n event past heard w.shut);
        ending = λ e. absurd (false≢true e);
        going = λ _. (free.0, fresh ∙ none);
        unraised = λ i g e late. elim (which i g e) [
          | inl here ↦ let is = here.0 in absurd (omega (arith, late, moved, is))
          | inr there ↦ w.unraised i g there.1 (omega (arith, late, moved))
        ];
        raising = λ _. in_mode;
        numbered = λ number e. number-more event past n number (w.numbered number e);
        olds = λ i one e. elim (set-place (given heard) (turned heard) i (record {
          permit = lifted_grant grant;
          old = old;
        }) one (sym (ap (λ l. slice_get l i) gives) ∙ e)) [
          | inl here ↦ subst (IsOld (event ∷ past)) here.1 (record {
            found = now_found;
            at = ap (λ b. cond b (Some now_found) (found_at grant.key grant.token past))
                (and_intro (same_key grant.key grant.key) (grant.token == grant.token) (same_key-refl grant.key) (eq-eqb grant.token grant.token refl));
            old = λ _. refl;
          })
          | inr there ↦
              let before = given-granted heard i one there.1 in
              old-more event past one (found-same i one.permit there.0 before) (w.olds i one there.1)
        ];
      }

-- a grant whose quarantine is gone is spent, by a session that is closed
pub writer-spent : (shape : Shape) (past : List Event) (who : Sid) (grant : Permit) (heard : List Reply) (writing : Writing)
    → Writer shape past who.number heard writing → slice_get (granted heard) (turned heard) ≡ Some grant → is_going heard ≡ true → writing.mode ≡ Invalidate
    → closed who.number past ≡ true
    → Writer shape (Stepped (shard_of grant.key shape.shards) who (wanted.Raise grant) (step.Gone grant.key grant.sid grant.token)
    (Reply.Raise raising.Gone) ∷ past)
    who.number (Reply.Raise raising.Gone ∷ heard) writing
writer-spent shape past who grant heard writing w at going in_mode closed_now =
    let n = who.number in
    let home = shard_of grant.key shape.shards in
    let s = step.Gone grant.key grant.sid grant.token in
    let reply = Reply.Raise raising.Gone in
    let event = Stepped home who (wanted.Raise grant) s reply in
    let finds : Finds shape event past n = finds-none shape home who (wanted.Raise grant) s reply past n (λ k t. refl) in
    let news : granted (reply ∷ heard) ≡ remove (granted heard) (turned heard) = append-nil (remove (granted heard) (turned heard)) in
    let gives : given (reply ∷ heard) ≡ remove (given heard) (turned heard) = append-nil (remove (given heard) (turned heard)) in
    let evers : ever (reply ∷ heard) ≡ ever heard = append-nil (ever heard) in
    let which : (i : ℕ) (g : Permit) → slice_get (granted (reply ∷ heard)) i ≡ Some g → WasAt (granted heard) (turned heard) i g = λ i g e.
    remove-place (granted heard) (turned heard) i g (sym (ap (λ l. slice_get l i) news) ∙ e) in
    let free = w.going going in
    let c = count-cons is_release reply heard in
    let fresh : released (reply ∷ heard) ≡ released heard = omega (arith, c) in
    let d = count-cons is_turn reply heard in
    let still_turned : turned (reply ∷ heard) ≡ turned heard = omega (arith, d) in
    record {
      once = w.once;
      placed = λ i g e. w.placed i g (sym (ap (λ l. slice_get l i) evers) ∙ e);
      had = let a = count-cons is_had reply heard in let had = w.had in let len = ap length evers in omega (arith, a, had, len);
      asked = λ asks. absurd (false≢true asks);
      fits = λ i g e. let was = which i g e in w.fits was.place g was.at;
      apart = λ i j one two at_one at_two same.
          let a = which i one at_one in
          let b = which j two at_two in
          was-one (granted heard) (turned heard) i j one two a b (w.apart a.place b.place one two a.at b.at same);
      unspent = λ still key by own covered. absurd (not_both (closed-more n event past closed_now) still);
      was = λ i g e. let was = which i g e in granted-more shape event past g (w.was was.place g was.at);
      suits = λ i g e. let was = which i g e in suits-more shape event past n heard writing finds w was.place g was.at;
      drawn = λ i g e. let was = which i g e in drawn-more shape event past g (w.drawn was.place g was.at);
      stood = λ i g e late.
          let was = which i g e in
          let other = was-other (granted heard) (turned heard) i g was in
          let low = other.1 in
          stood-stepped shape home who (wanted.Raise grant) s reply past n g (λ _ _ stands. stands)
          (λ terms out is. without-other g grant out (λ same. other.0 (w.apart was.place (turned heard) g grant was.at at (ap (λ (p : Permit). p.key)
          (sym same)))) is)
          (w.stood was.place g was.at (omega (arith, late, fresh, low)));
      shut = subst (λ r. (r ≡ 0) ⊎ (closed n (event ∷ past) ≡ true)) (sym fresh) (shut-more n event past heard w.shut);
      ending = λ e. absurd (false≢true e);
      going = λ _. (free.0, fresh ∙ free.1);
      unraised = λ i g e late.
          let was = which i g e in
          let low = (was-other (granted heard) (turned heard) i g was).1 in
          w.unraised was.place g was.at (omega (arith, late, still_turned, low));
      raising = λ _. in_mode;
      numbered = λ number e. number-more event past n number (w.numbered number e);
      olds = λ i one e.
          let was = remove-place (given heard) (turned heard) i one (sym (ap (λ l. slice_get l i) gives) ∙ e) in
          olds-more shape event past n heard writing finds w was.place one was.at;
    }
