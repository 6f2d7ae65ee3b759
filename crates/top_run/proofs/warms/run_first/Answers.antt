use Rattle.std.proofs.Common.{false, arith, ◌≡◌, [], ◌∷◌, List, None, length, map, refl, sym, ap, subst, ◌∙◌, inl}
use Rattle.std.specs.Prelude.{IsSome, Option, Vec}
use Rattle.std.specs.Global.{Global}
use Rattle.std.specs.List.{AllByRecursion}
use Rattle.std.proofs.lemmas.List.{length-map}
use Rattle.std.proofs.lemmas.Result.{IfOk-weaker}
use Rattle.rows_model.specs.Rows.{Tables}
use Rattle.key_shard.specs.Shards.{ShardView}
use Rattle.sql_keeper.specs.Fresh.{Fresh}
use Rattle.session_client.specs.declared.plans.Plan.{Plan}
use Rattle.core_history.specs.Machine.{log_cap}
use Rattle.bound_hub.proofs.NewLemmas.{opened_is_new}
use Rattle.run_audit.specs.Findings.{histories_in, AreWhole}
use Rattle.top_run.specs.Ready.{AsksFirst}
use Rattle.top_run.specs.Runs.{moment, IsOpened}
use Rattle.top_run.specs.Serves.{Course}
use Rattle.top_run.specs.Works.{HaveRun, work_shape, hub_terms}
use Rattle.top_run.specs.Warms.{nothing_left}
use Rattle.top_run.specs.Warming.{AreRight, LoadsOnly, left_by}
use Rattle.top_run.proofs.KeepLemmas.{opened_since}
use Rattle.top_run.proofs.ReadyLemmas.{make_hub}
use Rattle.top_run.proofs.SessionLemmas.{load_asks}
use Rattle.top_run.proofs.WarmEnds.{all_alike, stopped_first}
use Rattle.top_run.proofs.WarmLemmas.{ran_whole, since_none, unused_legal}
use Rattle.top_run.proofs.WorkLemmas.{is_kept, legal_of, numbered_of, whole_of, cap_kept, cap_most}
use Rattle.top_run.proofs.warms.run_first.Goals as goal

pub run_plans-store-requires-clause-parts : goal.run_plans-store-requires-clause-parts
run_plans-store-requires-clause-parts g c =
    λ κs outlives. make_hub (work_shape c.args.warming.now.spec.now) false g.H.HubName.terms g.H.HubName.opening g.H.BoundName.before _ _ _ g.H.BoundName.word
    g.H.BoundName.begun g.H.BoundName.failed c.args.ready.parts c.requires.named.terms_are c.requires.ready.parts c.requires.work.few_shards c.requires.parts

pub run_plans-store-requires-clause-new : goal.run_plans-store-requires-clause-new
run_plans-store-requires-clause-new g c =
    λ κs outlives. rw c.named.ensures
    (opened_is_new c.args.store g.H.BoundName.begun g.H.BoundName.failed log_cap c.requires.new c.requires.parts.none_begun c.requires.parts.none_failed)

pub run_plans-store-requires-clause-loads_before : goal.run_plans-store-requires-clause-loads_before
run_plans-store-requires-clause-loads_before g c =
    λ κs outlives place. subst (AllByRecursion LoadsOnly) (sym (c.requires.parts.none_before place)) tt

pub run_plans-store-requires-clause-legal : goal.run_plans-store-requires-clause-legal
run_plans-store-requires-clause-legal g c = λ κs outlives. unused_legal c.args.ready.parts.hub.shards.items c.requires.ready.parts.new

pub run_plans-store-requires-clause-ask : goal.run_plans-store-requires-clause-ask
run_plans-store-requires-clause-ask g c =
    λ κs outlives.
    let are_load = ap (λ (lists : List (Vec Plan Global)). map (λ list. list.items) lists) c.as_slice.ensures.value ∙ c.requires.ready.are_load in
    subst (AllByRecursion (AllByRecursion AsksFirst)) (sym are_load) (load_asks c.args.warming.now.spec.now c.requires.work)

pub summed_up-made-requires-clause-numbered : goal.summed_up-made-requires-clause-numbered
summed_up-made-requires-clause-numbered g c =
    let shards = c.run_plans-store.result.shards.items in
    let many = c.run_plans-store.ensures.as_many ∙ c.requires.ready.parts.as_many in
    rw c.as_slice-2.ensures.value (numbered_of g.H.HubName.terms shards c.run_plans-store.ensures.all (omega (arith, many, c.requires.work.few_shards)))

pub summed_up-made-requires-clause-whole : goal.summed_up-made-requires-clause-whole
summed_up-made-requires-clause-whole g c =
    subst AreWhole (sym c.as_slice-2.ensures.value)
    (whole_of g.H.HubName.terms (work_shape c.args.warming.now.spec.now) c.run_plans-store.result.shards.items c.requires.named.terms_are c.run_plans-store.ensures.all)

pub summed_up-made-requires-clause-ran : goal.summed_up-made-requires-clause-ran
summed_up-made-requires-clause-ran g c =
    let are_load = ap (λ (lists : List (Vec Plan Global)). map (λ list. list.items) lists) c.as_slice.ensures.value ∙ c.requires.ready.are_load in
    rw c.as_slice-2.ensures.value
    (IfOk-weaker c.run_plans-store.result.transcripts _ _
    (λ transcripts ran.
    subst (λ (plans : List (List Plan)). HaveRun plans (histories_in c.run_plans-store.result.shards.items) transcripts.items) are_load
    (ran_whole _ _ _ _ (since_none g.H.BoundName.before c.run_plans-store.result.shards.items c.requires.parts.none_before) ran))
    c.run_plans-store.ensures.ran)

pub dump_first-requires-clause-run : goal.dump_first-requires-clause-run
dump_first-requires-clause-run g c κs within =
    let store = c.run_plans-store.result.store in
    let shards = c.run_plans-store.result.shards.items in
    let named = c.run_plans-store.ensures.store in
    record {
      all = all_alike g.H.HubName.terms (hub_terms (work_shape c.args.warming.now.spec.now) false) shards c.requires.named.terms_are c.run_plans-store.ensures.all;
      as_many = c.run_plans-store.ensures.as_many ∙ c.requires.ready.parts.as_many;
      legal = c.run_plans-store.ensures.legal;
      cap_is = named.cap_is ∙ c.requires.named.cap_is;
      fresh = λ some. subst (λ (opening : Tables). Fresh opening store.ledger.log (histories_in shards)) (sym named.opening_is) (c.run_plans-store.ensures.fresh some);
      covered = c.run_plans-store.ensures.covered;
      right = λ some. subst (λ (opening : Tables). AreRight opening store.ledger.log shards) (sym named.opening_is) (c.run_plans-store.ensures.right some);
    }

pub dump_first-requires-clause-never_fell : goal.dump_first-requires-clause-never_fell
dump_first-requires-clause-never_fell g c κs within = c.run_plans-store.ensures.store.never_fell

pub dump_first-requires-clause-rooms : goal.dump_first-requires-clause-rooms
dump_first-requires-clause-rooms g c κs within =
    let many = c.run_plans-store.ensures.as_many ∙ c.requires.ready.parts.as_many in
    record {
      no_histories = c.requires.ready.parts.none;
      for_histories = omega (arith, many, c.requires.ready.parts.room);
      none_earlier = c.requires.none_earlier;
      for_one = c.requires.for_one;
    }

pub ended_first-requires-clause-whole : goal.ended_first-requires-clause-whole
ended_first-requires-clause-whole g c =
    whole_of g.H.HubName.terms (work_shape c.args.warming.now.spec.now) c.run_plans-store.result.shards.items c.requires.named.terms_are c.run_plans-store.ensures.all

pub ended_first-requires-clause-rooms : goal.ended_first-requires-clause-rooms
ended_first-requires-clause-rooms g c =
    let many = c.run_plans-store.ensures.as_many ∙ c.requires.ready.parts.as_many in
    record {
      no_histories = c.requires.ready.parts.none;
      for_histories = omega (arith, many, c.requires.ready.parts.room);
      none_earlier = c.requires.none_earlier;
      for_one = c.requires.for_one;
    }

pub returns-in-Ok-clause-ended : goal.returns-in-Ok-clause-ended
returns-in-Ok-clause-ended g c = λ unread door files rows held opens.
    let store = c.run_plans-store.result.store in
    let shards = c.run_plans-store.result.shards.items in
    let spec = c.args.warming.now.spec.now in
    let named = c.run_plans-store.ensures.store in
    let made = (rw (c.opening.ensures, c.log.ensures.items (cap_kept _ (c.run_plans-store.ensures.store.cap_is ∙ c.requires.named.cap_is)), c.as_slice-2.ensures.value) at c.summed_up-made.ensures.summary) in
    let summed = rw c.in-Ok.is at (c.tell-printed.ensures.told spec store.ledger.opening store.ledger.log (histories_in shards) made) in
    let before_now : IsSome store.known_rows → IsSome c.args.store.known_rows = λ some.
    subst (λ (r : Option Tables). IsSome r) c.requires.named.told_is (named.known_before some) in
    let opened = subst (λ (opening : Tables). IsOpened held (work_shape spec) opening store.known_rows) (c.requires.named.opening_is ∙ sym named.opening_is)
    (opened_since held (work_shape spec) c.args.store.ledger.opening c.args.store.known_rows store.known_rows before_now opens) in
    c.dump_first.ensures.ended unread door files rows c.args.store.faults held (g.W.Sink.taken c.args.sink.now) (g.W.Sink.faults c.args.sink.now) _ summed.text
    c.requires.named.start_is opened summed.is_summary summed.prints

pub returns-clause-ended : goal.returns-clause-ended
returns-clause-ended g c = λ unread door files rows held opens.
    let store = c.run_plans-store.result.store in
    let shards = c.run_plans-store.result.shards.items in
    let spec = c.args.warming.now.spec.now in
    let made = (rw (c.opening.ensures, c.log.ensures.items (cap_kept _ (c.run_plans-store.ensures.store.cap_is ∙ c.requires.named.cap_is)), c.as_slice-2.ensures.value) at c.summed_up-made.ensures.summary) in
    let halted = rw c.in-Err.is at (c.tell-printed.ensures.halted spec store.ledger.opening store.ledger.log (histories_in shards) made) in
    let before = moment unread (g.W.Sink.taken c.args.sink.now) (g.W.Sink.faults c.args.sink.now) rows c.args.store.faults in
    let after = moment unread (g.W.Sink.taken c.tell-printed.new.sink) (g.W.Sink.faults c.tell-printed.new.sink) store.known_rows store.faults in
    let named = c.run_plans-store.ensures.store in
    let before_now : IsSome store.known_rows → IsSome c.args.store.known_rows = λ some.
    subst (λ (r : Option Tables). IsSome r) c.requires.named.told_is (named.known_before some) in
    let opened = subst (λ (opening : Tables). IsOpened held (work_shape spec) opening store.known_rows) (c.requires.named.opening_is ∙ sym named.opening_is)
    (opened_since held (work_shape spec) c.args.store.ledger.opening c.args.store.known_rows store.known_rows before_now opens) in
    let many : length (histories_in shards) ≡ spec.shards =
    length-map shards (λ (s : ShardView). s.history) ∙ c.run_plans-store.ensures.as_many ∙ c.requires.ready.parts.as_many in
    let legal = legal_of g.H.HubName.terms (work_shape spec) shards c.requires.named.terms_are c.run_plans-store.ensures.all c.run_plans-store.ensures.legal in
    let kept = is_kept (work_shape spec) false held before after store (histories_in shards) g.H.HubName.start refl refl c.requires.named.start_is
    c.ended_first.ensures.short (cap_most _ (named.cap_is ∙ c.requires.named.cap_is)) c.ended_first.ensures.told c.ended_first.ensures.since
    legal many opened
    (λ whole some. subst (λ (opening : Tables). Fresh opening store.ledger.log (histories_in shards)) (sym named.opening_is) (c.run_plans-store.ensures.fresh some))
    (λ whole. c.run_plans-store.ensures.covered) in
    let course : Course = record {
      held = held;
      before = before;
      after = after;
      door_before = door;
      door_after = door;
      files_before = files;
      files_after = files;
      left = nothing_left;
      earlier = left_by store shards ∷ [];
      ends = [];
      written = c.tell-printed.new.written;
    } in
    rw (
      c.ended_first.ensures.status,
      c.stop_status.ensures,
      c.ended_first.ensures.opening,
      c.ended_first.ensures.log,
      c.ended_first.ensures.histories,
      c.ended_first.ensures.no_ends,
      c.ended_first.ensures.earlier,
      c.ended_first.ensures.written,
      c.ended_first.ensures.rows,
      c.ended_first.ensures.faults,
    )
    (inl (stopped_first spec course refl (left_by store shards) store.ledger.opening store.ledger.failed refl kept c.in-Err.stop halted))

pub returns-in-Ok-clause-keeper_never_falls : goal.returns-in-Ok-clause-keeper_never_falls
returns-in-Ok-clause-keeper_never_falls g c = c.dump_first.ensures.keeper_never_falls c.args.store.faults c.requires.named.start_is

pub returns-clause-keeper_never_falls : goal.returns-clause-keeper_never_falls
returns-clause-keeper_never_falls g c =
    rw c.ended_first.ensures.faults (c.run_plans-store.ensures.store.never_fell c.args.store.faults c.requires.named.start_is)
