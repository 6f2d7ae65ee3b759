-- What a desk was told of its own writes is seen behind the calls: each commit at its place, and each release.
use Rattle.std.proofs.Common.{ℕ, ◌≡◌, ◌+◌, ◌⊎◌, ◌==◌, Bool, true, false, List, [], ◌∷◌, ◌++◌, length, filter, slice_get, Option, Some, None, Result, Ok, Err, refl, sym, ap, subst, ◌∙◌, inl, inr, ⊎_elim, arith}
use Rattle.std.specs.List.{list_any}
use Rattle.std.proofs.lemmas.Bool.{and_from, eq-eqb, or_left}
use Rattle.rows_model.specs.declared.changes.Change.{Change}
use Rattle.rows_model.specs.declared.keys.QKey.{QKey}
use Rattle.rows_model.specs.declared.keys.Sid.{Sid}
use Rattle.rows_model.specs.Changes.{touches}
use Rattle.rows_model.specs.Delta.{is_count}
use Rattle.rows_model.specs.Key.{same_key}
use Rattle.rows_model.specs.Placement.{shard_of}
use Rattle.rows_model.specs.Rows.{Tables}
use Rattle.rows_model.proofs.SameKey.{same_key-refl}
use Rattle.key_shard.specs.declared.replies.How.TheVariants as hows
use Rattle.key_shard.specs.declared.replies.Rel.{Rel}
use Rattle.key_shard.specs.declared.replies.Rel.TheVariants as rel
use Rattle.key_shard.specs.declared.steps.Step.{Step}
use Rattle.key_shard.specs.Past.{Terms}
use Rattle.key_shard.specs.Permit.{Permit}
use Rattle.sql_keeper.specs.declared.faults.CommitFault.TheVariants as causes
use Rattle.sql_keeper.specs.declared.stores.Commit.{Commit}
use Rattle.session_client.specs.Desks.{Exchange, Asked, Began}
use Rattle.session_client.specs.Grants.{GrantsView}
use Rattle.session_client.specs.declared.replies.Reply.{Reply as AReply}
use Rattle.session_client.specs.declared.replies.Reply.TheVariants as Reply
use Rattle.session_client.specs.declared.replies.Wanted.{Wanted}
use Rattle.session_client.specs.declared.replies.Wanted.TheVariants as wanted
use Rattle.log_word.specs.declared.events.Short.{Short}
use Rattle.log_word.specs.declared.seen.Seen.{Seen}
use Rattle.log_word.specs.Lists.{steps_of}
use Rattle.log_word.specs.Steps.{is_release, IsBeginning}
use Rattle.log_word.proofs.ViewLemmas.{beginning_same, beginning_trans}
use Rattle.key_freshness.proofs.KnownLemmas.{more-stands}
use Rattle.bound_hub.specs.Gets.{IsLastStep}
use Rattle.bound_hub.specs.Knowns.{commits_of}
use Rattle.bound_hub.specs.Stores.{ShowsCommit}
use Rattle.bound_hub.specs.StepShorts.{release_short, replace_short}
use Rattle.bound_hub.proofs.RuledLemmas.{more_is_known}
use Rattle.desk_book.specs.Apart.{is_held}
use Rattle.desk_book.specs.Books.{Book}
use Rattle.desk_book.specs.Made.{made_in}
use Rattle.desk_book.specs.declared.forms.Form.{Form}
use Rattle.desk_book.specs.declared.forms.Form.TheVariants as form
use Rattle.desk_book.specs.declared.made.Made.{Made}
use Rattle.desk_book.specs.declared.made.Made.TheVariants as made
use Rattle.bound_desk.specs.Shown.{ShowsDrop}
use Rattle.bound_desk.specs.Told.{AreShown, IsAnswered, IsEndDrop, IsMadeAs, IsMadeBy, IsShownAs}
use Rattle.callers.specs.Desks.{releases, AnyCall, HoldsOwn, IsServedFresh, HandsIn, IsRunning, ToldCommit, ToldRelease}
use Rattle.callers.proofs.DeskLemmas.{still_among}

stands_last : (log : List Commit) (last : Commit) → slice_get (log ++ last ∷ []) (length log) ≡ Some last
stands_last [] last = refl
stands_last (first ∷ log) last = stands_last log last

-- a commit is made as it is asked for, or is told not to be
commit_made : (found : Form) (who : Sid) (txn : List Change) (grants : GrantsView)
    → (made_in found who (wanted.Commit txn grants) ≡ made.One (wanted.Commit txn grants))
    ⊎ (made_in found who (wanted.Commit txn grants) ≡ made.Answered (Reply.NotCommitted causes.Ended txn grants))
commit_made form.NotCommitted who txn grants = inr refl
commit_made other who txn grants = inl refl

not_both : (number : ℕ) (txn changes : List Change) (back grants : GrantsView) → Reply.Committed number changes back ≡ Reply.NotCommitted causes.Ended txn grants → ⊥
not_both number txn changes back grants e = cc

not_gone : (evicted : Option QKey) → rel.Released evicted ≡ rel.Gone → ⊥
not_gone evicted e = cc

no_begin : (writes : Bool) (one who : Sid) (request : Wanted) (reply : AReply) → Began writes one ≡ Asked who request reply → ⊥
no_begin writes one who request reply e = cc

not_back : (grant : Permit) (evicted : Option QKey) → Reply.Rel (rel.Released evicted) ≡ Reply.SarBack grant → ⊥
not_back grant evicted e = cc

same_rel : (one other : Rel) → Reply.Rel one ≡ Reply.Rel other → one ≡ other
same_rel one other e = cc

-- The commit stands among those that are seen, at the place before its number.
abbrev IsPlacedIn : Sid → ℕ → List Change → Seen → Type 0
IsPlacedIn who number txn after =
    (place : ℕ) × (number ≡ place + 1) × (slice_get (commits_of after.events) place ≡ Some (record { sid = who; txn = txn }))

module _ (opening : Tables) (cap : ℕ) (terms : ℕ → Terms) (before : ℕ → List Step) (shards : ℕ) where
  -- A call, where it was a request, was answered so.
  abbrev AnsweredBy : Book → Book → Seen → Seen → Exchange → Type 0
  AnsweredBy since book old new (Asked who request reply) = IsAnswered opening cap terms before shards who request reply since book old new
  AnsweredBy since book old new (Began writes who) = Unit {0}

  commit_shown : (who : Sid) (txn changes : List Change) (grants back : GrantsView) (number : ℕ) (since book : Book) (old new : Seen) (way : Result Made Wanted)
      → IsMadeBy since who (wanted.Commit txn grants) way
      → IsShownAs opening cap terms before shards who (wanted.Commit txn grants) (Reply.Committed number changes back) way since book old new
      → ShowsCommit opening cap who txn (filter (is_held since) grants.items) new number
  commit_shown who txn changes grants back number since book old new (Ok one) by_book shown =
      let As : Made → Type 0 = λ m. IsShownAs opening cap terms before shards who (wanted.Commit txn grants) (Reply.Committed number changes back) (Ok m) since book old new in
      ⊎_elim
      (λ made_so.
      let made_as : IsMadeAs opening cap terms before shards who (wanted.Commit txn grants) (Reply.Committed number changes back) since book old new =
      subst As (by_book.2 ∙ made_so) shown in
      made_as.at_store)
      (λ told.
      let answered : (Reply.Committed number changes back ≡ Reply.NotCommitted causes.Ended txn grants) × (book ≡ since) = subst As (by_book.2 ∙ told) shown in
      absurd (not_both number txn changes back grants answered.0))
      (commit_made by_book.0 who txn grants)
  commit_shown who txn changes grants back number since book old new (Err came) by_book shown = absurd by_book.0

  placed_in : (who : Sid) (number : ℕ) (txn : List Change) (permits : List Permit) (new after : Seen) → ShowsCommit opening cap who txn permits new number
      → IsBeginning new after → IsPlacedIn who number txn after
  placed_in who number txn permits new after shows begins =
      let log = commits_of shows.earlier in
      let mine : Commit = record { sid = who; txn = txn } in (
        length log,
        shows.number_is,
        more-stands (more_is_known new after begins) (length log) mine
            (subst (λ e. slice_get (commits_of e) (length log) ≡ Some mine) (sym shows.last) (stands_last log mine)),
      )

  -- a commit that was told stands at its place
  own_commit : (who : Sid) (number : ℕ) (txn : List Change) (after : Seen) (calls : List Exchange) (book : Book) (seen : Seen)
      → AreShown opening cap terms before shards calls book seen → IsBeginning seen after → AnyCall (ToldCommit who number txn) calls → IsPlacedIn who number txn after
  own_commit who number txn after [] book seen h begins told = absurd told
  own_commit who number txn after (Began writes one ∷ calls) book seen h begins told =
      ⊎_elim
      (λ here. absurd (no_begin writes one who _ _ here.is))
      (λ there. own_commit who number txn after calls h.1 h.2 h.4 (beginning_trans h.2 seen after h.3 begins) there)
      told
  own_commit who number txn after (Asked one request reply ∷ calls) book seen h begins told =
      let goes = beginning_trans h.2 seen after h.3 begins in
      ⊎_elim
      (λ here.
      let answered = subst (AnsweredBy h.0 book h.1 h.2) here.is h.4 in
      placed_in who number txn (filter (is_held h.0) here.grants.items) h.2 after
      (commit_shown who txn here.changes here.grants here.back number h.0 book h.1 h.2 answered.way answered.by_book answered.shown) goes)
      (λ there. own_commit who number txn after calls h.0 h.1 h.5 (beginning_trans h.1 h.2 after h.4.begins goes) there)
      told

  -- The session's release of the key is seen.
  abbrev IsReleaseSeen : QKey → Sid → Seen → Type 0
  IsReleaseSeen key who seen = list_any (releases key who.number) (steps_of (shard_of key shards) seen.steps) ≡ true

  last_released : (grant : Permit) (step : Short) (new : Seen) → is_release step.kind ≡ true → step.key ≡ grant.key → step.sid ≡ grant.sid
      → IsLastStep (shard_of grant.key shards) step new → IsReleaseSeen grant.key grant.sid new
  last_released grant step new kind on mine last =
      let p = releases grant.key grant.sid.number in
      subst (λ l. list_any p l ≡ true) (sym last.1)
      (or_left (p step) (list_any p last.0)
      (and_from (is_release step.kind) _ kind
      (and_from (same_key grant.key step.key) (step.sid.number == grant.sid.number)
      (subst (λ k. same_key grant.key k ≡ true) (sym on) (same_key-refl grant.key))
      (eq-eqb step.sid.number grant.sid.number (ap (λ (s : Sid). s.number) mine)))))

  dropped_seen : (grant : Permit) (evicted : Option QKey) (new : Seen) → ShowsDrop shards grant (rel.Released evicted) new → IsReleaseSeen grant.key grant.sid new
  dropped_seen grant evicted new h =
      let last = h (not_gone evicted) in
      last_released grant (release_short grant.key grant.sid grant.token hows.Drop (rel.Released evicted) last.0) new refl refl refl last.1

  ended_seen : (who session : Sid) (grant : Permit) (evicted : Option QKey) (since book : Book) (old new : Seen)
      → IsEndDrop shards who session grant false (Reply.Rel (rel.Released evicted)) since book old new → IsReleaseSeen grant.key grant.sid new
  ended_seen who session grant evicted since book old new h =
      dropped_seen grant evicted new
      (subst (λ a. ShowsDrop shards grant a new) (sym (same_rel (rel.Released evicted) h.answer h.told)) h.dropped)

  made_release : (found : Form) (asking : Sid) (grant : Permit) (request : Wanted) (evicted : Option QKey) (since book : Book) (old new : Seen) → HandsIn grant request
      → IsShownAs opening cap terms before shards asking request (Reply.Rel (rel.Released evicted)) (Ok (made_in found asking request)) since book old new
      → IsReleaseSeen grant.key grant.sid new
  made_release (form.EndDrop session) asking grant (wanted.Dar one) evicted since book old new is shown =
      subst (λ (g : Permit). IsReleaseSeen g.key g.sid new) is (ended_seen asking session one evicted since book old new shown)
  made_release found asking grant (wanted.Dar one) evicted since book old new is shown =
      subst (λ (g : Permit). IsReleaseSeen g.key g.sid new) is (dropped_seen one evicted new shown.on_shard)
  made_release (form.EndDrop session) asking grant (wanted.Sar one None stamp) evicted since book old new is shown =
      subst (λ (g : Permit). IsReleaseSeen g.key g.sid new) is (ended_seen asking session one evicted since book old new shown)
  made_release found asking grant (wanted.Sar one None stamp) evicted since book old new is shown =
      subst (λ (g : Permit). IsReleaseSeen g.key g.sid new) is (dropped_seen one evicted new shown.on_shard)
  made_release (form.EndDrop session) asking grant (wanted.Sar one (Some value) stamp) evicted since book old new is shown =
      subst (λ (g : Permit). IsReleaseSeen g.key g.sid new) is.0 (ended_seen asking session one evicted since book old new shown)
  made_release form.NoValue asking grant (wanted.Sar one (Some value) stamp) evicted since book old new is shown =
      subst (λ (g : Permit). IsReleaseSeen g.key g.sid new) is.0 (dropped_seen one evicted new shown.on_shard)
  made_release found asking grant (wanted.Sar one (Some value) stamp) evicted since book old new is shown =
      let last = shown.on_shard (ap (λ (g : Permit). g.mode) is.0 ∙ is.1) (not_gone evicted) in
      subst (λ (g : Permit). IsReleaseSeen g.key g.sid new) is.0
      (last_released one (replace_short one.key one.sid one.token stamp (rel.Released evicted) last.0) new refl refl refl last.1)
  made_release (form.EndDrop session) asking grant (wanted.Apply one stamp) evicted since book old new is shown =
      subst (λ (g : Permit). IsReleaseSeen g.key g.sid new) is.0 (ended_seen asking session one evicted since book old new shown)
  made_release form.DropOnly asking grant (wanted.Apply one stamp) evicted since book old new is shown =
      subst (λ (g : Permit). IsReleaseSeen g.key g.sid new) is.0 (dropped_seen one evicted new shown.on_shard)
  made_release found asking grant (wanted.Apply one stamp) evicted since book old new is shown =
      let last = shown.on_shard (ap (λ (g : Permit). g.mode) is.0 ∙ is.1) (subst (λ (g : Permit). is_count g.key ≡ true) (sym is.0) is.2) (not_gone evicted) in
      subst (λ (g : Permit). IsReleaseSeen g.key g.sid new) is.0
      (last_released one (release_short one.key one.sid one.token (hows.Shift stamp) (rel.Released evicted) last.0) new refl refl refl last.1)
  made_release found asking grant other evicted since book old new is shown = absurd is

  release_by : (asking : Sid) (grant : Permit) (request : Wanted) (evicted : Option QKey) (since book : Book) (old new : Seen) (way : Result Made Wanted) → HandsIn grant request
      → IsMadeBy since asking request way → IsShownAs opening cap terms before shards asking request (Reply.Rel (rel.Released evicted)) way since book old new
      → IsReleaseSeen grant.key grant.sid new
  release_by asking grant request evicted since book old new (Ok one) is by_book shown =
      made_release by_book.0 asking grant request evicted since book old new is
      (subst (λ m. IsShownAs opening cap terms before shards asking request (Reply.Rel (rel.Released evicted)) (Ok m) since book old new) by_book.2 shown)
  release_by asking grant (wanted.Sar one (Some value) stamp) evicted since book old new (Err back) is by_book shown = absurd (not_back one evicted shown.0)
  release_by asking grant request evicted since book old new (Err back) is by_book shown = absurd by_book.0

  -- a release that was told is seen
  own_release : (key : QKey) (who : Sid) (after : Seen) (calls : List Exchange) (book : Book) (seen : Seen)
      → AreShown opening cap terms before shards calls book seen → IsBeginning seen after → AnyCall (ToldRelease key who) calls → IsReleaseSeen key who after
  own_release key who after [] book seen h begins told = absurd told
  own_release key who after (Began writes one ∷ calls) book seen h begins told =
      ⊎_elim
      (λ here. absurd (no_begin writes one here.asking here.request _ here.is))
      (λ there. own_release key who after calls h.1 h.2 h.4 (beginning_trans h.2 seen after h.3 begins) there)
      told
  own_release key who after (Asked one request reply ∷ calls) book seen h begins told =
      let goes = beginning_trans h.2 seen after h.3 begins in
      ⊎_elim
      (λ here.
      let answered = subst (AnsweredBy h.0 book h.1 h.2) here.is h.4 in
      let released = release_by here.asking here.grant here.request here.evicted h.0 book h.1 h.2 answered.way here.releases_it answered.by_book answered.shown in
      let mine = subst (λ (s : Sid). IsReleaseSeen here.grant.key s h.2) here.of_session released in
      let on_key = subst (λ (k : QKey). IsReleaseSeen k who h.2) here.on mine in
      still_among (releases key who.number) (steps_of (shard_of key shards) h.2.steps) (steps_of (shard_of key shards) after.steps) (goes.steps (shard_of key shards)) on_key)
      (λ there. own_release key who after calls h.0 h.1 h.5 (beginning_trans h.1 h.2 after h.4.begins goes) there)
      told

  -- so a fresh hit holds what was told before
  pub holds_own : (calls : List Exchange) (book : Book) (seen after : Seen) (key : QKey) (floor : ℕ) (value : List ℕ) (stamp : ℕ)
      → AreShown opening cap terms before shards calls book seen → IsBeginning seen after → IsServedFresh IsRunning opening shards seen after key floor value stamp
      → IsRunning after → HoldsOwn calls key stamp
  holds_own calls book seen after key floor value stamp h begins fresh run = λ who number txn committed released touched.
      let placed = own_commit who number txn after calls book seen h begins committed in
      let seen_release = own_release key who seen calls book seen h (beginning_same seen) released in
      let less = fresh.current run placed.0 (record { sid = who; txn = txn }) placed.2 touched seen_release in
      let number_is = placed.1 in
      omega (arith, less, number_is)
