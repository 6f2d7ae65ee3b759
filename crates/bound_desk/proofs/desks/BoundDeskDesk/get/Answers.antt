use Rattle.std.proofs.Common.{rules, Bool, Some, ◌≡◌, Ok, Result, List, ◌∷◌, refl, sym, ap, subst, ◌∙◌}
use Rattle.expiry_sweeper.specs.Follows.{shards_of}
use Rattle.key_shard.specs.declared.replies.Got.{Got}
use Rattle.session_client.specs.declared.replies.Fault.{Fault}
use Rattle.session_client.specs.declared.replies.Wanted.{Wanted}
use Rattle.session_client.specs.declared.replies.Wanted.TheVariants as wanted
use Rattle.session_client.specs.Belongs.{Belongs, get_reply}
use Rattle.session_client.specs.Desks.{Exchange, Asked, IsFirst}
use Rattle.log_word.specs.declared.seen.Seen.{Seen}
use Rattle.log_word.specs.Steps.{IsBeginning}
use Rattle.log_word.proofs.ViewLemmas.{beginning_trans}
use Rattle.desk_book.specs.Books.{Book, BookView, first_book}
use Rattle.bound_desk.specs.declared.desks.BoundDesk.TheInside.{Inside}
use Rattle.bound_desk.specs.Bound.{BoundDeskView}
use Rattle.bound_desk.specs.Faults.{ShowsFault}
use Rattle.bound_desk.specs.Records.{ShowsFirst, IsFreshBook, IsRecordSeen}
use Rattle.bound_desk.specs.Shown.{ShowsReply}
use Rattle.bound_desk.specs.Told.{book_after, AreShown, IsAnswered}
use Rattle.bound_desk.proofs.RecordLemmas.{asked_since, record_as_asked, shows_where_fresh}
use Rattle.bound_desk.proofs.ToldLemmas.{get_is_answered, shown_with_reply}
use Rattle.bound_desk.proofs.desks.BoundDeskDesk.get.Goals.{in-Some, in-None}
use Rattle.bound_desk.proofs.desks.BoundDeskDesk.get.Goals as goal

pub invariant_of-self : goal.invariant_of-self
invariant_of-self g c =
    let who = c.args.who in
    let key = c.args.key in
    let floor = c.args.floor in
    let request : Wanted = wanted.Get key floor in
    let answer = c.match-reply_to_hit.answer in
    let reply = get_reply answer in
    let old = c.self.inside in
    let opening = g.H.HubName.opening in
    let cap = g.H.HubName.cap in
    let terms = g.H.HubName.terms in
    let before = g.H.BoundName.before in
    let shards = g.H.BoundName.word.shards in
    let now = c.looked-self-inside.result in
    let is = c.looked-self-inside.ensures in
    let Fits : (s : Inside g.row.K.Denot g.row.H.Denot g.row.C.Denot g.row.G.Denot g.row.R.Denot) → Type 0 = λ s.
    (shards_of s.sweeper ≡ s.hub.now) × IsRecordSeen terms before shards s.worker now s.notes.seen × IsFreshBook now s.notes.book.book
    × AreShown opening cap terms before shards now s.notes.book.book s.notes.seen in
    let fits : (s : Inside g.row.K.Denot g.row.H.Denot g.row.C.Denot g.row.G.Denot g.row.R.Denot) → c.match-reply_to_hit.self-inside ≡ s
    → shards_of s.sweeper ≡ s.hub.now → s.worker ≡ old.worker → s.calls ≡ old.calls → IsBeginning old.notes.seen s.notes.seen
    → ((writes : Bool) → old.notes.book.book ≡ first_book who writes → IsFirst writes request → ShowsFirst terms before shards who reply s.notes.seen)
    → IsAnswered opening cap terms before shards who request reply old.notes.book.book s.notes.book.book old.notes.seen s.notes.seen
    → Fits c.match-reply_to_hit.self-inside =
    λ s at sweep worker calls goes shows answered.
    let here : now ≡ Asked who request reply ∷ old.calls =
    is ∙ ap (λ (x : Inside g.row.K.Denot g.row.H.Denot g.row.C.Denot g.row.G.Denot g.row.R.Denot). Asked who request reply ∷ x.calls) at ∙ ap (λ (l : List Exchange). Asked who request reply ∷ l) calls in
    subst Fits (sym at) (
      sweep,
      subst (λ n. IsRecordSeen terms before shards n now s.notes.seen) (sym worker)
          (record_as_asked terms before shards old.worker old.calls now old.notes.seen s.notes.seen who request reply here goes
          (shows_where_fresh terms before shards old.calls old.notes.book.book s.notes.seen who request reply c.self.invariant.2 shows) c.self.invariant.1),
      asked_since now old.calls who request reply s.notes.book.book here,
      shown_with_reply opening cap terms before shards who request reply old.calls now old.notes.book.book s.notes.book.book old.notes.seen s.notes.seen here answered
          c.self.invariant.3,
    ) in
    let answers : (told : Result Got Fault) (book : Book) (seen : Seen) → answer ≡ told → Belongs who request (get_reply told) → IsBeginning old.notes.seen seen
    → ShowsReply opening before shards who request (get_reply told) seen → ShowsFault terms before shards request (get_reply told) seen
    → book ≡ book_after who request (get_reply told) old.notes.book.book
    → IsAnswered opening cap terms before shards who request reply old.notes.book.book book old.notes.seen seen =
    λ told book seen same belongs begins shows refused noted.
    subst (λ r. IsAnswered opening cap terms before shards who request (get_reply r) old.notes.book.book book old.notes.seen seen) (sym same)
    (get_is_answered opening cap terms before shards who key floor (get_reply told) old.notes.book.book book old.notes.seen seen belongs begins shows refused noted) in
    elim c.match-reply_to_hit.branch [
      | in-Some w ↦
          fits _ w.self-inside-is c.self.invariant.0 refl refl c.reply_to_hit.ensures.seen
          (λ writes fresh first. subst (λ r. ShowsFirst terms before shards who (get_reply r) c.reply_to_hit.new.self.seen) (sym w.answer-is) w.in-Some.ensures.first)
          (answers (Ok w.in-Some.got) c.reply_to_hit.new.self.book.book c.reply_to_hit.new.self.seen w.answer-is w.in-Some.ensures.belongs c.reply_to_hit.ensures.seen
          w.in-Some.ensures.shows tt w.in-Some.ensures.book)
      | in-None w ↦
          let got = w.reply_to_get-answer in
          fits _ w.self-inside-is (w.turn_to_due.ensures ∙ c.self.invariant.0) refl refl
          (beginning_trans old.notes.seen c.reply_to_hit.new.self.seen got.new.self.seen c.reply_to_hit.ensures.seen got.ensures.seen)
          (λ writes fresh first. subst (λ r. ShowsFirst terms before shards who (get_reply r) got.new.self.seen) (sym w.answer-is) got.ensures.first)
          (answers got.result got.new.self.book.book got.new.self.seen w.answer-is got.ensures.belongs
          (beginning_trans old.notes.seen c.reply_to_hit.new.self.seen got.new.self.seen c.reply_to_hit.ensures.seen got.ensures.seen) got.ensures.shows got.ensures.fault
          (got.ensures.book ∙ ap (λ (b : BookView). book_after who request (get_reply got.result) b.book) w.in-None.ensures.none))
    ]

pub returns : goal.returns
returns g c =
    let who = c.args.who in
    let key = c.args.key in
    let floor = c.args.floor in
    let request : Wanted = wanted.Get key floor in
    let answer = c.match-reply_to_hit.answer in
    let old = c.self.inside in
    let is = c.looked-self-inside.ensures in
    let kept : c.match-reply_to_hit.self-inside.calls ≡ old.calls = elim c.match-reply_to_hit.branch [
      | in-Some w ↦ ap (λ (x : Inside g.row.K.Denot g.row.H.Denot g.row.C.Denot g.row.G.Denot g.row.R.Denot). x.calls) w.self-inside-is
      | in-None w ↦ ap (λ (x : Inside g.row.K.Denot g.row.H.Denot g.row.C.Denot g.row.G.Denot g.row.R.Denot). x.calls) w.self-inside-is
    ] in
    let same : c.match-reply_to_hit.self-inside.worker ≡ old.worker = elim c.match-reply_to_hit.branch [
      | in-Some w ↦ ap (λ (x : Inside g.row.K.Denot g.row.H.Denot g.row.C.Denot g.row.G.Denot g.row.R.Denot). x.worker) w.self-inside-is
      | in-None w ↦ ap (λ (x : Inside g.row.K.Denot g.row.H.Denot g.row.C.Denot g.row.G.Denot g.row.R.Denot). x.worker) w.self-inside-is
    ] in
    let belongs : Belongs who request (get_reply answer) = elim c.match-reply_to_hit.branch [
      | in-Some w ↦ subst (λ r. Belongs who request (get_reply r)) (sym w.answer-is) w.in-Some.ensures.belongs
      | in-None w ↦ subst (λ r. Belongs who request (get_reply r)) (sym w.answer-is) w.reply_to_get-answer.ensures.belongs
    ] in
    record {
      belongs = belongs;
      begun = refl;
      recorded = ap (λ l. Some l) (is ∙ ap (λ (l : List Exchange). Asked who request (get_reply answer) ∷ l) (kept ∙ ap (λ (v : BoundDeskView). v.calls) c.self.view_is));
      tends = search rules;
      worker = ap (λ n. Some n) (same ∙ ap (λ (v : BoundDeskView). v.worker) c.self.view_is);
      first = search rules;
      seen_kept = search rules;
      seen_begun = search rules;
      spent = search rules;
      spent_kept = search rules;
    }
