use Rattle.std.proofs.Common.{rules, Some, ◌≡◌, Bool, true, Ok, Err, List, inr, [], ◌∷◌, ◌++◌, refl, sym, ap, subst, ◌∙◌}
use Rattle.std.proofs.lemmas.Bool.{false≢true}
use Rattle.rows_model.specs.declared.keys.Sid.{Sid}
use Rattle.expiry_sweeper.specs.Follows.{shards_of}
use Rattle.session_client.specs.Desks.{Exchange, Asked, IsFirst}
use Rattle.desk_book.specs.Books.{BookView}
use Rattle.desk_book.specs.declared.made.Made.TheVariants as made
use Rattle.bound_desk.specs.Told.{back_reply, AreShown, IsAnswered, IsMadeAs}
use Rattle.log_word.specs.Events.{is_over}
use Rattle.log_word.specs.Steps.{IsBeginning}
use Rattle.log_word.proofs.ViewLemmas.{beginning_same, beginning_trans}
use Rattle.desk_book.specs.Books.{first_book}
use Rattle.bound_desk.specs.declared.desks.BoundDesk.TheInside.{Inside}
use Rattle.bound_desk.specs.Records.{ShowsFirst, IsFreshBook, IsRecordSeen}
use Rattle.key_shard.specs.declared.replies.Rel.TheVariants as Rel
use Rattle.session_client.specs.Belongs.{Belongs}
use Rattle.bound_desk.specs.Bound.{BoundDeskView}
use Rattle.bound_desk.specs.Safe.{drop_reply, is_raise, IsSafelyMade, MadeBelongs}
use Rattle.bound_desk.proofs.RecordLemmas.{asked_since, first_has_key, not_back, not_dropped, not_told, one_is, record_as_asked, shows_where_fresh}
use Rattle.bound_desk.proofs.ToldLemmas.{closed_by, ended_alone, ended_and_dropped, made_at_store, made_of_nothing, made_on_shard, shown_with_reply}
use Rattle.bound_desk.proofs.desks.BoundDeskDesk.call.Goals.{in-Ok-One+in-Some, in-Ok-One+in-None, in-Ok-One+in-None-2, in-Ok-EndDrop+then-is_over, in-Ok-EndDrop+else-is_over, in-Ok-Answered, in-Err}
use Rattle.bound_desk.proofs.desks.BoundDeskDesk.call.Goals.{in-Nothing, in_default-matches}
use Rattle.bound_desk.proofs.desks.BoundDeskDesk.call.Goals as goal

pub drop_value-answer-requires-clause-over : goal.drop_value-answer-requires-clause-over
drop_value-answer-requires-clause-over g c =
    let drops = c.in-Ok-EndDrop in
    let own = subst (IsSafelyMade c.self.inside.notes.book.book c.args.who) drops.field-0-is drops.ensures.safe in
    inr (subst (λ (s : Sid). is_over s.number c.close-is_over.new.self.seen.events ≡ true) own (c.close-is_over.ensures.over c.if-is_over.true))

pub invariant_of-self : goal.invariant_of-self
invariant_of-self g c =
    let who = c.args.who in
    let request = c.args.request in
    let reply = c.match-made.reply in
    let old = c.self.inside in
    let opening = g.H.HubName.opening in
    let cap = g.H.HubName.cap in
    let terms = g.H.HubName.terms in
    let before = g.H.BoundName.before in
    let shards = g.H.BoundName.word.shards in
    let now = c.asked-self-inside.result in
    let is = c.asked-self-inside.ensures who request (c.and-asked.ensures ∙ ap (λ l. l ++ (who, request) ∷ []) c.new.ensures) in
    let asks = c.made.ensures.first in
    let kept = old.notes.book.book in
    let Fits : (s : Inside g.row.K.Denot g.row.H.Denot g.row.C.Denot g.row.G.Denot g.row.R.Denot) → Type 0 = λ s.
    (shards_of s.sweeper ≡ s.hub.now) × IsRecordSeen terms before shards s.worker now s.notes.seen × IsFreshBook now s.notes.book.book
    × AreShown opening cap terms before shards now s.notes.book.book s.notes.seen in
    let fits : (s : Inside g.row.K.Denot g.row.H.Denot g.row.C.Denot g.row.G.Denot g.row.R.Denot) → c.match-made.self-inside ≡ s
    → shards_of s.sweeper ≡ s.hub.now → s.worker ≡ old.worker → s.calls ≡ old.calls → IsBeginning old.notes.seen s.notes.seen
    → ((writes : Bool) → old.notes.book.book ≡ first_book who writes → IsFirst writes request → ShowsFirst terms before shards who reply s.notes.seen)
    → IsAnswered opening cap terms before shards who request reply old.notes.book.book s.notes.book.book old.notes.seen s.notes.seen
    → Fits c.match-made.self-inside =
    λ s at sweep worker calls goes shows answered.
    let here : now ≡ Asked who request reply ∷ old.calls =
    is ∙ ap (λ (x : Inside g.row.K.Denot g.row.H.Denot g.row.C.Denot g.row.G.Denot g.row.R.Denot). Asked who request reply ∷ x.calls) at ∙ ap (λ (l : List Exchange). Asked who request reply ∷ l) calls in
    subst Fits (sym at) (
      sweep,
      subst (λ n. IsRecordSeen terms before shards n now s.notes.seen) (sym worker)
          (record_as_asked terms before shards old.worker old.calls now old.notes.seen s.notes.seen who request reply here goes
          (shows_where_fresh terms before shards old.calls old.notes.book.book s.notes.seen who request reply c.self.invariant.2 shows) c.self.invariant.1),
      asked_since now old.calls who request reply s.notes.book.book here,
      shown_with_reply opening cap terms before shards who request reply old.calls now old.notes.book.book s.notes.book.book old.notes.seen s.notes.seen here answered
          c.self.invariant.3,
    ) in
    elim c.match-made.branch [
      | in-Ok-One+in-Some w ↦
          let shows : (writes : Bool) → old.notes.book.book ≡ first_book who writes → IsFirst writes request
          → ShowsFirst terms before shards who reply w.on_shard-reply.new.self.seen =
          λ writes fresh first.
          subst (λ r. ShowsFirst terms before shards who r w.on_shard-reply.new.self.seen) (sym w.reply-is)
          (w.on_shard-reply.ensures.first writes
          (subst (IsFirst writes) (one_is request w.in-Ok-One.request c.made.result (asks writes fresh first) (w.in-Ok-One.is ∙ ap (λ m. Ok m) w.in-Ok-One.field-0-is)) first)) in
          fits _ w.self-inside-is c.self.invariant.0 refl refl w.on_shard-reply.ensures.seen shows
          (record {
            proper = c.requires;
            belongs = subst (Belongs who request) (sym w.reply-is)
                (subst (MadeBelongs who request) w.in-Ok-One.field-0-is w.in-Ok-One.ensures.belongs w.on_shard-reply.result w.on_shard-reply.ensures.belongs);
            begins = w.on_shard-reply.ensures.seen;
            way = Ok (made.One w.in-Ok-One.request);
            by_book = (w.in-Ok-One.ensures.form.0, w.in-Ok-One.ensures.form.1, sym w.in-Ok-One.field-0-is ∙ w.in-Ok-One.ensures.form.2);
            shown = subst (λ r. IsMadeAs opening cap terms before shards who w.in-Ok-One.request r kept w.on_shard-reply.new.self.book.book old.notes.seen w.on_shard-reply.new.self.seen) (sym w.reply-is)
                (made_on_shard opening cap terms before shards w.in-Some.key who w.in-Ok-One.request w.on_shard-reply.result kept w.on_shard-reply.new.self.book.book old.notes.seen
                w.on_shard-reply.new.self.seen (sym w.key_of.ensures.key ∙ w.in-Some.is) w.on_shard-reply.ensures.shows w.on_shard-reply.ensures.fault w.on_shard-reply.ensures.book);
          })
      | in-Ok-One+in-None w ↦
          fits _ w.self-inside-is c.self.invariant.0 refl refl (beginning_same old.notes.seen)
          (λ writes fresh first. absurd (first_has_key writes w.in-Ok-One.request
          (subst (IsFirst writes) (one_is request w.in-Ok-One.request c.made.result (asks writes fresh first) (w.in-Ok-One.is ∙ ap (λ m. Ok m) w.in-Ok-One.field-0-is)) first)
          (sym w.key_of.ensures.key ∙ w.in-None.is)))
          (record {
            proper = c.requires;
            belongs = search rules;
            begins = beginning_same old.notes.seen;
            way = Ok (made.One w.in-Ok-One.request);
            by_book = (w.in-Ok-One.ensures.form.0, w.in-Ok-One.ensures.form.1, sym w.in-Ok-One.field-0-is ∙ w.in-Ok-One.ensures.form.2);
            shown = elim w.match-matches.branch [
              | in-Nothing none ↦
                  subst (λ q. IsMadeAs opening cap terms before shards who q reply kept kept old.notes.seen old.notes.seen) (sym none.in-Nothing.is)
                  (made_of_nothing opening cap terms before shards who reply kept old.notes.seen old.notes.seen)
              | in_default-matches other ↦ absurd (false≢true (sym other.matches-is ∙ w.if-matches.true))
            ];
          })
      | in-Ok-One+in-None-2 w ↦
          fits _ w.self-inside-is c.self.invariant.0 refl refl w.at_store.ensures.seen
          (λ writes fresh first. absurd (first_has_key writes w.in-Ok-One.request
          (subst (IsFirst writes) (one_is request w.in-Ok-One.request c.made.result (asks writes fresh first) (w.in-Ok-One.is ∙ ap (λ m. Ok m) w.in-Ok-One.field-0-is)) first)
          (sym w.key_of.ensures.key ∙ w.in-None.is)))
          (record {
            proper = c.requires;
            belongs = subst (Belongs who request) (sym w.reply-is)
                (subst (MadeBelongs who request) w.in-Ok-One.field-0-is w.in-Ok-One.ensures.belongs w.at_store.result w.at_store.ensures.belongs);
            begins = w.at_store.ensures.seen;
            way = Ok (made.One w.in-Ok-One.request);
            by_book = (w.in-Ok-One.ensures.form.0, w.in-Ok-One.ensures.form.1, sym w.in-Ok-One.field-0-is ∙ w.in-Ok-One.ensures.form.2);
            shown = subst (λ r. IsMadeAs opening cap terms before shards who w.in-Ok-One.request r kept w.at_store.new.self.book.book old.notes.seen w.at_store.new.self.seen) (sym w.reply-is)
                (made_at_store opening cap terms before shards who w.in-Ok-One.request w.at_store.result kept w.at_store.new.self.book.book old.notes.seen w.at_store.new.self.seen
                (sym w.key_of.ensures.key ∙ w.in-None.is) w.at_store.ensures.shows w.at_store.ensures.book);
          })
      | in-Ok-EndDrop+then-is_over w ↦
          fits _ w.self-inside-is c.self.invariant.0 refl refl
          (beginning_trans old.notes.seen w.close-is_over.new.self.seen w.drop_value-answer.new.self.seen w.close-is_over.ensures.seen w.drop_value-answer.ensures.seen)
          (λ writes fresh first. absurd (not_dropped _ _ request w.in-Ok-EndDrop.field-0 c.made.result w.in-Ok-EndDrop.is w.in-Ok-EndDrop.field-0-is (asks writes fresh first)))
          (record {
            proper = c.requires;
            belongs = subst (Belongs who request)
                (sym (w.reply-is ∙ w.dropped.ensures ∙ ap (λ r. drop_reply r w.drop_value-answer.result) c.is_raise-raises.ensures))
                (subst (MadeBelongs who request) w.in-Ok-EndDrop.field-0-is w.in-Ok-EndDrop.ensures.belongs w.drop_value-answer.result);
            begins = beginning_trans old.notes.seen w.close-is_over.new.self.seen w.drop_value-answer.new.self.seen w.close-is_over.ensures.seen w.drop_value-answer.ensures.seen;
            way = Ok (made.EndDrop w.in-Ok-EndDrop.session w.in-Ok-EndDrop.grant);
            by_book = (w.in-Ok-EndDrop.ensures.form.0, w.in-Ok-EndDrop.ensures.form.1, sym w.in-Ok-EndDrop.field-0-is ∙ w.in-Ok-EndDrop.ensures.form.2);
            shown = ended_and_dropped opening cap terms before shards who w.in-Ok-EndDrop.session w.in-Ok-EndDrop.grant (is_raise request) reply w.drop_value-answer.result
                w.close-is_over.ensures.shows.0 kept w.close-is_over.new.self.book.book w.drop_value-answer.new.self.book.book old.notes.seen w.close-is_over.new.self.seen
                w.drop_value-answer.new.self.seen w.close-is_over.ensures.seen w.drop_value-answer.ensures.seen w.close-is_over.ensures.shows.1
                (w.reply-is ∙ w.dropped.ensures ∙ ap (λ r. drop_reply r w.drop_value-answer.result) c.is_raise-raises.ensures) w.drop_value-answer.ensures.last
                (ap (λ (b : BookView). b.book) w.close-is_over.ensures.book) w.drop_value-answer.ensures.book;
          })
      | in-Ok-EndDrop+else-is_over w ↦
          fits _ w.self-inside-is c.self.invariant.0 refl refl w.close-is_over.ensures.seen
          (λ writes fresh first. absurd (not_dropped _ _ request w.in-Ok-EndDrop.field-0 c.made.result w.in-Ok-EndDrop.is w.in-Ok-EndDrop.field-0-is (asks writes fresh first)))
          (record {
            proper = c.requires;
            belongs = subst (Belongs who request)
                (sym (w.reply-is ∙ w.dropped-else-is_over.ensures ∙ ap (λ r. drop_reply r Rel.Gone) c.is_raise-raises.ensures))
                (subst (MadeBelongs who request) w.in-Ok-EndDrop.field-0-is w.in-Ok-EndDrop.ensures.belongs Rel.Gone);
            begins = w.close-is_over.ensures.seen;
            way = Ok (made.EndDrop w.in-Ok-EndDrop.session w.in-Ok-EndDrop.grant);
            by_book = (w.in-Ok-EndDrop.ensures.form.0, w.in-Ok-EndDrop.ensures.form.1, sym w.in-Ok-EndDrop.field-0-is ∙ w.in-Ok-EndDrop.ensures.form.2);
            shown = ended_alone opening cap terms before shards who w.in-Ok-EndDrop.session w.in-Ok-EndDrop.grant (is_raise request) reply w.close-is_over.ensures.shows.0 kept
                w.close-is_over.new.self.book.book old.notes.seen w.close-is_over.new.self.seen w.close-is_over.ensures.seen w.close-is_over.ensures.shows.1
                (closed_by w.close-is_over.ensures.shows.0 w.close-is_over.result w.close-is_over.ensures.shows.2 w.if-is_over.false)
                (w.reply-is ∙ w.dropped-else-is_over.ensures ∙ ap (λ r. drop_reply r Rel.Gone) c.is_raise-raises.ensures)
                (ap (λ (b : BookView). b.book) w.close-is_over.ensures.book);
          })
      | in-Ok-Answered w ↦
          fits _ w.self-inside-is c.self.invariant.0 refl refl (beginning_same old.notes.seen)
          (λ writes fresh first. absurd (not_told _ request w.in-Ok-Answered.field-0 c.made.result w.in-Ok-Answered.is w.in-Ok-Answered.field-0-is (asks writes fresh first)))
          (record {
            proper = c.requires;
            belongs = subst (Belongs who request) (sym w.reply-is) (subst (MadeBelongs who request) w.in-Ok-Answered.field-0-is w.in-Ok-Answered.ensures.belongs);
            begins = beginning_same old.notes.seen;
            way = Ok (made.Answered w.in-Ok-Answered.reply);
            by_book = (w.in-Ok-Answered.ensures.form.0, w.in-Ok-Answered.ensures.form.1, sym w.in-Ok-Answered.field-0-is ∙ w.in-Ok-Answered.ensures.form.2);
            shown = (w.reply-is, refl);
          })
      | in-Err w ↦
          fits _ w.self-inside-is c.self.invariant.0 refl refl (beginning_same old.notes.seen)
          (λ writes fresh first. absurd (not_back w.in-Err.request request c.made.result w.in-Err.is (asks writes fresh first)))
          (record {
            proper = c.requires;
            belongs = subst (Belongs who request) (sym w.reply-is) (subst (λ q. Belongs who q w.back-reply.result) w.in-Err.ensures.back (w.back-reply.ensures.belongs who));
            begins = beginning_same old.notes.seen;
            way = Err w.in-Err.request;
            by_book = (w.in-Err.ensures.memory, w.in-Err.ensures.back);
            shown = (w.reply-is ∙ w.back-reply.ensures.reply ∙ ap back_reply w.in-Err.ensures.back, refl);
          })
    ]

pub returns : goal.returns
returns g c =
    let who = c.args.who in
    let request = c.args.request in
    let reply = c.match-made.reply in
    let old = c.self.inside in
    let is = c.asked-self-inside.ensures who request (c.and-asked.ensures ∙ ap (λ l. l ++ (who, request) ∷ []) c.new.ensures) in
    let kept : c.match-made.self-inside.calls ≡ old.calls = elim c.match-made.branch [
      | in-Ok-One+in-Some w ↦ ap (λ (x : Inside g.row.K.Denot g.row.H.Denot g.row.C.Denot g.row.G.Denot g.row.R.Denot). x.calls) w.self-inside-is
      | in-Ok-One+in-None w ↦ ap (λ (x : Inside g.row.K.Denot g.row.H.Denot g.row.C.Denot g.row.G.Denot g.row.R.Denot). x.calls) w.self-inside-is
      | in-Ok-One+in-None-2 w ↦ ap (λ (x : Inside g.row.K.Denot g.row.H.Denot g.row.C.Denot g.row.G.Denot g.row.R.Denot). x.calls) w.self-inside-is
      | in-Ok-EndDrop+then-is_over w ↦ ap (λ (x : Inside g.row.K.Denot g.row.H.Denot g.row.C.Denot g.row.G.Denot g.row.R.Denot). x.calls) w.self-inside-is
      | in-Ok-EndDrop+else-is_over w ↦ ap (λ (x : Inside g.row.K.Denot g.row.H.Denot g.row.C.Denot g.row.G.Denot g.row.R.Denot). x.calls) w.self-inside-is
      | in-Ok-Answered w ↦ ap (λ (x : Inside g.row.K.Denot g.row.H.Denot g.row.C.Denot g.row.G.Denot g.row.R.Denot). x.calls) w.self-inside-is
      | in-Err w ↦ ap (λ (x : Inside g.row.K.Denot g.row.H.Denot g.row.C.Denot g.row.G.Denot g.row.R.Denot). x.calls) w.self-inside-is
    ] in
    let same : c.match-made.self-inside.worker ≡ old.worker = elim c.match-made.branch [
      | in-Ok-One+in-Some w ↦ ap (λ (x : Inside g.row.K.Denot g.row.H.Denot g.row.C.Denot g.row.G.Denot g.row.R.Denot). x.worker) w.self-inside-is
      | in-Ok-One+in-None w ↦ ap (λ (x : Inside g.row.K.Denot g.row.H.Denot g.row.C.Denot g.row.G.Denot g.row.R.Denot). x.worker) w.self-inside-is
      | in-Ok-One+in-None-2 w ↦ ap (λ (x : Inside g.row.K.Denot g.row.H.Denot g.row.C.Denot g.row.G.Denot g.row.R.Denot). x.worker) w.self-inside-is
      | in-Ok-EndDrop+then-is_over w ↦ ap (λ (x : Inside g.row.K.Denot g.row.H.Denot g.row.C.Denot g.row.G.Denot g.row.R.Denot). x.worker) w.self-inside-is
      | in-Ok-EndDrop+else-is_over w ↦ ap (λ (x : Inside g.row.K.Denot g.row.H.Denot g.row.C.Denot g.row.G.Denot g.row.R.Denot). x.worker) w.self-inside-is
      | in-Ok-Answered w ↦ ap (λ (x : Inside g.row.K.Denot g.row.H.Denot g.row.C.Denot g.row.G.Denot g.row.R.Denot). x.worker) w.self-inside-is
      | in-Err w ↦ ap (λ (x : Inside g.row.K.Denot g.row.H.Denot g.row.C.Denot g.row.G.Denot g.row.R.Denot). x.worker) w.self-inside-is
    ] in
    let belongs : Belongs who request reply = elim c.match-made.branch [
      | in-Ok-One+in-Some w ↦
          subst (Belongs who request) (sym w.reply-is)
          (subst (MadeBelongs who request) w.in-Ok-One.field-0-is w.in-Ok-One.ensures.belongs w.on_shard-reply.result w.on_shard-reply.ensures.belongs)
      | in-Ok-One+in-None w ↦ search rules
      | in-Ok-One+in-None-2 w ↦
          subst (Belongs who request) (sym w.reply-is)
          (subst (MadeBelongs who request) w.in-Ok-One.field-0-is w.in-Ok-One.ensures.belongs w.at_store.result w.at_store.ensures.belongs)
      | in-Ok-EndDrop+then-is_over w ↦
          subst (Belongs who request)
          (sym (w.reply-is ∙ w.dropped.ensures ∙ ap (λ r. drop_reply r w.drop_value-answer.result) c.is_raise-raises.ensures))
          (subst (MadeBelongs who request) w.in-Ok-EndDrop.field-0-is w.in-Ok-EndDrop.ensures.belongs w.drop_value-answer.result)
      | in-Ok-EndDrop+else-is_over w ↦
          subst (Belongs who request)
          (sym (w.reply-is ∙ w.dropped-else-is_over.ensures ∙ ap (λ r. drop_reply r Rel.Gone) c.is_raise-raises.ensures))
          (subst (MadeBelongs who request) w.in-Ok-EndDrop.field-0-is w.in-Ok-EndDrop.ensures.belongs Rel.Gone)
      | in-Ok-Answered w ↦ search rules
      | in-Err w ↦ search rules
    ] in
    record {
      belongs = belongs;
      begun = refl;
      recorded = ap (λ l. Some l) (is ∙ ap (λ (l : List Exchange). Asked who request reply ∷ l) (kept ∙ ap (λ (v : BoundDeskView). v.calls) c.self.view_is));
      tends = search rules;
      worker = ap (λ n. Some n) (same ∙ ap (λ (v : BoundDeskView). v.worker) c.self.view_is);
      first = search rules;
      seen_kept = search rules;
      seen_begun = search rules;
      spent = search rules;
      spent_kept = search rules;
    }
