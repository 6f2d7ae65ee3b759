use Rattle.std.proofs.Common.{ℕ, Option, ◌≡◌, ◌≤◌, ◌-◌, ◌^◌, [], length, refl, sym, ap, subst, ◌∙◌, arith}
use Rattle.std.specs.Prelude.{◌≢◌, false, IsSome}
use Rattle.std.specs.Option.{ForSome}
use Rattle.rows_model.specs.Rows.{Tables}
use Rattle.std.proofs.lemmas.List.{length-map}
use Rattle.key_shard.specs.Shards.{kept_of}
use Rattle.sql_keeper.specs.Faults.{Counts}
use Rattle.sql_keeper.specs.Log.{no_cap}
use Rattle.sql_keeper.specs.Stores.{Ledger, rows_of}
use Rattle.top_run.specs.Runs.{CountsWhere, moment, IsOpened, kept_in, is_read_fault, is_write_fault, is_door_fault, is_keep_fault}
use Rattle.top_run.specs.Begins.{beginning_of, files_seen}
use Rattle.top_run.specs.Serves.{serve_shape, serve_rolls, Course, beginning_in}
use Rattle.door_workers.specs.Attending.{seen_at}
use Rattle.top_run.proofs.KeepLemmas.{opened_since}
use Rattle.top_run.specs.declared.runs.Status.{Status}
use Rattle.top_run.specs.declared.runs.Status.TheVariants as status
use Rattle.top_run.specs.Saves.{EndsSaved}
use Rattle.top_run.proofs.AnewLemmas.{new_store}
use Rattle.top_run.proofs.BeginLemmas.{begins_still}
use Rattle.top_run.proofs.SaveLemmas.{attended_saved, by_end, called_more, called_rows, ends_as, rooms_of, rose_since, saves_at, still_named}
use Rattle.top_run.proofs.WarmStartLemmas.{make_serving}
use Rattle.top_run.proofs.WorkLemmas.{last_of, left_of, is_kept, numbered_of}
use Rattle.top_run.proofs.ServeLemmas.{served_ended, no_usage, no_read}
use Rattle.top_run.proofs.serves.serve_store.Goals as goal

pub serve_over_hub-store-requires-clause-parts : goal.serve_over_hub-store-requires-clause-parts
serve_over_hub-store-requires-clause-parts g c =
    λ κs outlives. rw c.renamed.ensures
    (make_serving c.args.server.now.spec.now c.args.store c.args.ready _ _ g.H.HubName.terms g.H.HubName.opening _ _ _ _ g.H.BoundName.word g.H.BoundName.before
    g.H.BoundName.begun g.H.BoundName.failed c.requires.serve.few_shards c.requires.ready c.requires.named)

pub serve_over_hub-store-requires-clause-new : goal.serve_over_hub-store-requires-clause-new
serve_over_hub-store-requires-clause-new g c =
    λ κs outlives. rw c.renamed.ensures
    (new_store (serve_shape c.args.server.now.spec.now) serve_rolls c.args.store _ _ _ _ _ _ _ _ _ _ _ _ _ _ c.requires.anew c.requires.named)

pub returns-clause-ended : goal.returns-clause-ended
returns-clause-ended g c = λ unread rows start held first starts opens begun.
    let ran = c.serve_over_hub-store.result.store in
    let store = c.saved-status.new.store in
    let shards = c.serve_over_hub-store.result.shards.items in
    let served = c.serve_over_hub-store.result.served in
    let spec = c.args.server.now.spec.now in
    let shape = serve_shape spec in
    let tells = seen_at g.D.Door.bound g.D.Door.lines g.D.Door.faults g.D.Door.ended g.D.Door.closed in
    let before = moment unread (g.W.Sink.taken c.args.sink.now) (g.W.Sink.faults c.args.sink.now) rows start in
    let after = moment unread (g.W.Sink.taken c.serve_over_hub-store.new.sink) (g.W.Sink.faults c.serve_over_hub-store.new.sink) store.known_rows store.faults in
    let was_named = c.serve_over_hub-store.ensures.store in
    let named = still_named _ _ _ _ ran store (is_keep_fault c.saved-status.result) c.saved-status.ensures.ledger c.saved-status.ensures.tells
    c.saved-status.ensures.keeper_never_falls was_named in
    let before_now : IsSome store.known_rows → IsSome c.args.store.known_rows = λ some.
    subst (λ (r : Option Tables). IsSome r) c.requires.named.told_is (named.known_before some) in
    let opened = subst (λ (opening : Tables). IsOpened held shape opening store.known_rows) (c.requires.named.opening_is ∙ sym named.opening_is)
    (opened_since held shape c.args.store.ledger.opening c.args.store.known_rows store.known_rows before_now opens) in
    let many : length (kept_in shards) ≡ shape.shards =
    length-map shards kept_of ∙ c.serve_over_hub-store.ensures.as_many ∙ c.requires.ready.as_many in
    let last = last_of g.H.HubName.terms shape shards c.requires.named.terms_are c.serve_over_hub-store.ensures.all c.serve_over_hub-store.ensures.legal in
    let capped : store.ledger.cap ≡ no_cap = named.cap_is ∙ c.requires.named.cap_is ∙ c.requires.anew.cap_is in
    let kept = is_kept shape serve_rolls held before after store (kept_in shards) g.H.HubName.start refl refl (c.requires.named.start_is ∙ starts)
    c.ended_hub.ensures.short (omega (arith, capped)) c.ended_hub.ensures.told c.ended_hub.ensures.since
    last many opened (λ whole some. absurd cc) (λ whole. absurd cc) in
    let never_fell : start ≤ ran.faults = was_named.never_fell start (c.requires.named.start_is ∙ starts) in
    let few : ran.ledger.failed ≤ 2 ^ 64 - 1 = omega (arith, c.failed.ensures.count, c.failed.type_inv) in
    let more : ran.ledger.failed ≤ store.ledger.failed =
    subst (λ (l : Ledger). ran.ledger.failed ≤ l.failed) (sym c.saved-status.ensures.ledger) (called_more (is_keep_fault c.saved-status.result) ran.ledger few) in
    let at_first : g.H.BoundName.failed ≤ ran.ledger.failed = c.serve_over_hub-store.ensures.never_fewer in
    let named_failed = c.requires.named.failed_is in
    let course : Course = record {
      held = held;
      before = before;
      after = after;
      door_before = tells c.args.door.now;
      door_after = tells c.serve_over_hub-store.new.door;
      files_before = first;
      files_after = files_seen g.F.CacheFile c.saved-status.new.file;
      left = left_of store (kept_in shards);
      earlier = [];
      ends = served.ends.items;
      written = served.written;
    } in
    rw (
      c.ended_hub.ensures.status,
      c.ended_hub.ensures.opening,
      c.ended_hub.ensures.log,
      c.ended_hub.ensures.histories,
      c.ended_hub.ensures.ends,
      c.ended_hub.ensures.earlier,
      c.new.ensures.items,
      c.ended_hub.ensures.written,
      c.ended_hub.ensures.rows,
      c.ended_hub.ensures.faults,
    )
    (served_ended c.saved-status.result spec course
    (λ is. rose_since start ran.faults store.faults never_fell
    (subst (λ (e : Status). Counts (is_keep_fault e) ran.faults store.faults) is c.saved-status.ensures.counts).0)
    (record {
      begun = c.args.ready.begun;
      begins = c.requires.ready.begins;
      begins_as =
          begins_still spec.warm spec.shards (beginning_of first (files_seen g.F.CacheFile c.args.file.now) c.args.store)
          (beginning_in course store.ledger.opening store.ledger.failed) c.args.ready.begun
          (record {
            files = refl;
            opening = named.opening_is ∙ sym c.requires.named.opening_is;
            tells = before_now;
            fell_never = begun.never_falls;
            files_on = c.saved-status.ensures.file_never_falls;
            store_on = omega (arith, named_failed, at_first, more);
          })
          begun.begins_as;
      fail_only_told = λ fine unfaulted. c.saved-status.ensures.no_file_fault unfaulted ∙ begun.fail_only_told fine;
      opening = store.ledger.opening;
      failed = store.ledger.failed;
      kept = kept;
      attended =
          attended_saved spec c.args.ready.begun served.status c.saved-status.result _ _ _ _ _ _ c.requires.ready.begins
          (ends_as spec.warm served.status c.saved-status.result _ _ _ _ _ c.saved-status.ensures.saves) c.serve_over_hub-store.ensures.served.attended;
    }))

pub returns-clause-writes : goal.returns-clause-writes
returns-clause-writes g c =
    let served = c.serve_over_hub-store.result.served in
    rw c.ended_hub.ensures.status
    (by_end (λ (e : Status). CountsWhere g.W.Sink.faults (is_write_fault e) c.args.sink.now c.serve_over_hub-store.new.sink) c.args.server.now.spec.now.warm
    served.status c.saved-status.result (ends_as c.args.server.now.spec.now.warm served.status c.saved-status.result _ _ _ _ _ c.saved-status.ensures.saves)
    (λ done. done) (λ done. done) (λ done. done) c.serve_over_hub-store.ensures.served.writes)

pub returns-clause-doors : goal.returns-clause-doors
returns-clause-doors g c =
    let served = c.serve_over_hub-store.result.served in
    rw c.ended_hub.ensures.status
    (by_end (λ (e : Status). CountsWhere g.D.Door.faults (is_door_fault e) c.args.door.now c.serve_over_hub-store.new.door) c.args.server.now.spec.now.warm
    served.status c.saved-status.result (ends_as c.args.server.now.spec.now.warm served.status c.saved-status.result _ _ _ _ _ c.saved-status.ensures.saves)
    (λ done. done) (λ done. done) (λ done. done) c.serve_over_hub-store.ensures.served.doors)

pub returns-clause-command : goal.returns-clause-command
returns-clause-command g c =
    let served = c.serve_over_hub-store.result.served in
    let attended = c.serve_over_hub-store.ensures.served.attended in
    rw c.ended_hub.ensures.status
    (by_end (λ (e : Status). e ≢ status.Usage) c.args.server.now.spec.now.warm
    served.status c.saved-status.result (ends_as c.args.server.now.spec.now.warm served.status c.saved-status.result _ _ _ _ _ c.saved-status.ensures.saves)
    (λ done is. cc) (λ done is. cc) (λ done is. cc) (no_usage c.args.ready.begun served.status _ attended.printed attended.is_text))

pub returns-clause-no_read_fault : goal.returns-clause-no_read_fault
returns-clause-no_read_fault g c =
    let served = c.serve_over_hub-store.result.served in
    let attended = c.serve_over_hub-store.ensures.served.attended in
    rw c.ended_hub.ensures.status
    (by_end (λ (e : Status). is_read_fault e ≡ false) c.args.server.now.spec.now.warm
    served.status c.saved-status.result (ends_as c.args.server.now.spec.now.warm served.status c.saved-status.result _ _ _ _ _ c.saved-status.ensures.saves)
    (λ done. refl) (λ done. refl) (λ done. refl) (no_read c.args.ready.begun served.status _ attended.printed attended.is_text))

pub returns-clause-keeper_never_falls : goal.returns-clause-keeper_never_falls
returns-clause-keeper_never_falls g c =
    let ran = c.serve_over_hub-store.result.store in
    let store = c.saved-status.new.store in
    let named = still_named _ _ _ _ ran store (is_keep_fault c.saved-status.result) c.saved-status.ensures.ledger c.saved-status.ensures.tells
    c.saved-status.ensures.keeper_never_falls c.serve_over_hub-store.ensures.store in
    rw c.ended_hub.ensures.faults
    (subst (λ (count : Option ℕ). ForSome count (λ start. start ≤ store.faults)) c.requires.named.start_is named.never_fell)

pub returns-clause-lines : goal.returns-clause-lines
returns-clause-lines g c = λ fresh. rw c.ended_hub.ensures.ends (c.serve_over_hub-store.ensures.lines fresh)

pub returns-clause-saves : goal.returns-clause-saves
returns-clause-saves g c =
    let ran = c.serve_over_hub-store.result.store in
    let store = c.saved-status.new.store in
    let shards = c.serve_over_hub-store.result.shards.items in
    let served = c.serve_over_hub-store.result.served in
    let spec = c.args.server.now.spec.now in
    let same : rows_of store.ledger ≡ rows_of ran.ledger =
    ap rows_of c.saved-status.ensures.ledger ∙ called_rows (is_keep_fault c.saved-status.result) ran.ledger in
    rw (
      c.ended_hub.ensures.status,
      c.ended_hub.ensures.opening,
      c.ended_hub.ensures.log,
      c.ended_hub.ensures.histories,
      c.ended_hub.ensures.rows,
    )
    (saves_at spec g.H.HubName.terms store shards c.requires.named.terms_are c.serve_over_hub-store.ensures.all
    (c.serve_over_hub-store.ensures.as_many ∙ c.requires.ready.as_many) c.serve_over_hub-store.ensures.legal
    spec.warm served.status c.saved-status.result _ _
    (subst (λ (rows : Tables). EndsSaved spec.warm served.status c.saved-status.result store.known_rows rows shards (g.F.CacheFile.text_at c.args.file.now) (g.F.CacheFile.text_at c.saved-status.new.file))
    (sym same) (rw c.as_slice.ensures.value at c.saved-status.ensures.saves)))

pub returns-clause-file_fault : goal.returns-clause-file_fault
returns-clause-file_fault g c = rw c.ended_hub.ensures.status c.saved-status.ensures.file_fault

pub saved-status-requires-clause-numbered : goal.saved-status-requires-clause-numbered
saved-status-requires-clause-numbered g c =
    let shards = c.serve_over_hub-store.result.shards.items in
    let many = c.serve_over_hub-store.ensures.as_many ∙ c.requires.ready.as_many in
    rw c.as_slice.ensures.value (numbered_of g.H.HubName.terms shards c.serve_over_hub-store.ensures.all (omega (arith, many, c.requires.serve.few_shards)))

pub saved-status-requires-clause-few : goal.saved-status-requires-clause-few
saved-status-requires-clause-few g c =
    let many = c.serve_over_hub-store.ensures.as_many ∙ c.requires.ready.as_many in
    rw c.as_slice.ensures.value (omega (arith, many, c.requires.serve.few_shards))

pub saved-status-requires-clause-roomy : goal.saved-status-requires-clause-roomy
saved-status-requires-clause-roomy g c =
    rw c.as_slice.ensures.value
    (rooms_of (serve_shape c.args.server.now.spec.now) serve_rolls g.H.HubName.terms c.serve_over_hub-store.result.shards.items c.requires.named.terms_are
    c.serve_over_hub-store.ensures.all (omega arith))

pub saved-status-requires-clause-unsaved : goal.saved-status-requires-clause-unsaved
saved-status-requires-clause-unsaved g c = c.serve_over_hub-store.ensures.served.unsaved

pub saved-status-requires-clause-unfailed : goal.saved-status-requires-clause-unfailed
saved-status-requires-clause-unfailed g c = c.serve_over_hub-store.ensures.served.unfailed
