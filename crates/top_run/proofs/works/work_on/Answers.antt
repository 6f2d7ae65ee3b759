use Rattle.std.proofs.Common.{false, arith, Bool, None, List, ◌≡◌, length, map, refl, sym, ap, subst, ◌∙◌}
use Rattle.run_audit.specs.Findings.{histories_in, AreWhole}
use Rattle.std.specs.Prelude.{nat_lt, Option, IsSome, Vec}
use Rattle.std.specs.Global.{Global}
use Rattle.std.specs.List.{AllByRecursion}
use Rattle.std.proofs.lemmas.Result.{IfOk-weaker}
use Rattle.std.proofs.lemmas.List.{length-map}
use Rattle.key_shard.specs.Shards.{ShardView}
use Rattle.rows_model.specs.Rows.{Tables}
use Rattle.sql_keeper.specs.Fresh.{Fresh}
use Rattle.top_run.specs.Runs.{moment, IsOpened, RoseWhere, is_read_fault, is_write_fault}
use Rattle.session_client.specs.declared.plans.Plan.{Plan}
use Rattle.top_run.specs.Works.{HaveRun, first_spent, work_shape}
use Rattle.top_run.specs.Ready.{AsksFirst}
use Rattle.top_run.proofs.KeepLemmas.{opened_since}
use Rattle.top_run.proofs.SessionLemmas.{load_asks}
use Rattle.top_run.proofs.WarmLemmas.{ran_whole, since_none, unused_legal}
use Rattle.top_run.specs.Warming.{LoadsOnly}
use Rattle.core_history.specs.Machine.{log_cap}
use Rattle.bound_hub.proofs.NewLemmas.{opened_is_new}
use Rattle.top_run.proofs.ReadyLemmas.{make_hub}
use Rattle.top_run.proofs.WorkLemmas.{numbered_of, whole_of, legal_of, left_of, is_kept, work_ended, no_usage, no_read, at_write_end, cap_kept, cap_most}
use Rattle.top_run.proofs.works.work_on.Goals as goal

pub run_plans-store-requires-clause-parts : goal.run_plans-store-requires-clause-parts
run_plans-store-requires-clause-parts g c =
    λ κs outlives. make_hub (work_shape c.args.spec.now) false g.H.HubName.terms g.H.HubName.opening g.H.BoundName.before _ _ _ g.H.BoundName.word
    g.H.BoundName.begun g.H.BoundName.failed c.args.ready.parts c.requires.named.terms_are c.requires.ready.parts c.requires.work.few_shards c.requires.parts

pub run_plans-store-requires-clause-new : goal.run_plans-store-requires-clause-new
run_plans-store-requires-clause-new g c =
    λ κs outlives. rw c.named.ensures
    (opened_is_new c.args.store g.H.BoundName.begun g.H.BoundName.failed log_cap c.requires.new c.requires.parts.none_begun c.requires.parts.none_failed)

pub summed_up-made-requires-clause-numbered : goal.summed_up-made-requires-clause-numbered
summed_up-made-requires-clause-numbered g c =
    let shards = c.run_plans-store.result.shards.items in
    let many = c.run_plans-store.ensures.as_many ∙ c.requires.ready.parts.as_many in
    rw c.as_slice-2.ensures.value (numbered_of g.H.HubName.terms shards c.run_plans-store.ensures.all (omega (arith, many, c.requires.work.few_shards)))

pub summed_up-made-requires-clause-whole : goal.summed_up-made-requires-clause-whole
summed_up-made-requires-clause-whole g c =
    subst AreWhole (sym c.as_slice-2.ensures.value)
    (whole_of g.H.HubName.terms (work_shape c.args.spec.now) c.run_plans-store.result.shards.items c.requires.named.terms_are c.run_plans-store.ensures.all)

pub summed_up-made-requires-clause-ran : goal.summed_up-made-requires-clause-ran
summed_up-made-requires-clause-ran g c =
    let are_load = ap (λ (lists : List (Vec Plan Global)). map (λ list. list.items) lists) c.as_slice.ensures.value ∙ c.requires.ready.are_load in
    rw c.as_slice-2.ensures.value
    (IfOk-weaker c.run_plans-store.result.transcripts _ _
    (λ transcripts ran.
    subst (λ (plans : List (List Plan)). HaveRun plans (histories_in c.run_plans-store.result.shards.items) transcripts.items) are_load
    (ran_whole _ _ _ _ (since_none g.H.BoundName.before c.run_plans-store.result.shards.items c.requires.parts.none_before) ran))
    c.run_plans-store.ensures.ran)

pub run_plans-store-requires-clause-loads_before : goal.run_plans-store-requires-clause-loads_before
run_plans-store-requires-clause-loads_before g c =
    λ κs outlives place. subst (AllByRecursion LoadsOnly) (sym (c.requires.parts.none_before place)) tt

pub run_plans-store-requires-clause-legal : goal.run_plans-store-requires-clause-legal
run_plans-store-requires-clause-legal g c = λ κs outlives. unused_legal c.args.ready.parts.hub.shards.items c.requires.ready.parts.new

pub run_plans-store-requires-clause-ask : goal.run_plans-store-requires-clause-ask
run_plans-store-requires-clause-ask g c =
    λ κs outlives.
    let are_load = ap (λ (lists : List (Vec Plan Global)). map (λ list. list.items) lists) c.as_slice.ensures.value ∙ c.requires.ready.are_load in
    subst (AllByRecursion (AllByRecursion AsksFirst)) (sym are_load) (load_asks c.args.spec.now c.requires.work)

pub ended_work-requires-clause-whole : goal.ended_work-requires-clause-whole
ended_work-requires-clause-whole g c =
    whole_of g.H.HubName.terms (work_shape c.args.spec.now) c.run_plans-store.result.shards.items c.requires.named.terms_are c.run_plans-store.ensures.all

pub returns-clause-ended : goal.returns-clause-ended
returns-clause-ended g c = λ unread rows held opens.
    let store = c.run_plans-store.result.store in
    let shards = c.run_plans-store.result.shards.items in
    let spec = c.args.spec.now in
    let short = c.log.ensures.few in
    let made = (rw (c.opening.ensures, c.log.ensures.items (cap_kept _ (c.run_plans-store.ensures.store.cap_is ∙ c.requires.named.cap_is)), c.as_slice-2.ensures.value) at c.summed_up-made.ensures.summary) in
    let before = moment unread (g.W.Sink.taken c.args.sink.now) (g.W.Sink.faults c.args.sink.now) rows c.args.store.faults in
    let after = moment unread (g.W.Sink.taken c.tell-printed.new.sink) (g.W.Sink.faults c.tell-printed.new.sink) store.known_rows store.faults in
    let named = c.run_plans-store.ensures.store in
    let before_now : IsSome store.known_rows → IsSome c.args.store.known_rows = λ some.
    subst (λ (r : Option Tables). IsSome r) c.requires.named.told_is (named.known_before some) in
    let opened = subst (λ (opening : Tables). IsOpened held (work_shape spec) opening store.known_rows) (c.requires.named.opening_is ∙ sym named.opening_is)
    (opened_since held (work_shape spec) c.args.store.ledger.opening c.args.store.known_rows store.known_rows before_now opens) in
    let many : length (histories_in shards) ≡ spec.shards =
    length-map shards (λ (s : ShardView). s.history) ∙ c.run_plans-store.ensures.as_many ∙ c.requires.ready.parts.as_many in
    let legal = legal_of g.H.HubName.terms (work_shape spec) shards c.requires.named.terms_are c.run_plans-store.ensures.all c.run_plans-store.ensures.legal in
    let kept = is_kept (work_shape spec) false held before after store (histories_in shards) g.H.HubName.start refl refl c.requires.named.start_is
    short (cap_most _ (c.run_plans-store.ensures.store.cap_is ∙ c.requires.named.cap_is)) c.ended_work.ensures.told c.ended_work.ensures.since
    legal many opened
    (λ whole some. subst (λ (opening : Tables). Fresh opening store.ledger.log (histories_in shards)) (sym named.opening_is) (c.run_plans-store.ensures.fresh some))
    (λ whole. c.run_plans-store.ensures.covered) in
    rw (
      c.ended_work.ensures.status,
      c.ended_work.ensures.opening,
      c.ended_work.ensures.log,
      c.ended_work.ensures.histories,
      c.ended_work.ensures.written,
      c.ended_work.ensures.rows,
      c.ended_work.ensures.faults,
    )
    (work_ended spec held before after (left_of store (histories_in shards)) c.tell-printed.new.written store.ledger.opening store.ledger.failed kept c.tell-printed.result
    (c.tell-printed.ensures.told spec store.ledger.opening store.ledger.log (histories_in shards) made)
    (c.tell-printed.ensures.halted spec store.ledger.opening store.ledger.log (histories_in shards) made))

pub returns-clause-command : goal.returns-clause-command
returns-clause-command g c = λ is.
    no_usage (nat_lt 0 c.run_plans-store.result.store.ledger.failed)
    (first_spent (histories_in c.run_plans-store.result.shards.items)) c.tell-printed.result (sym c.ended_work.ensures.status ∙ is)

pub returns-clause-no_read_fault : goal.returns-clause-no_read_fault
returns-clause-no_read_fault g c =
    ap is_read_fault c.ended_work.ensures.status
    ∙ no_read (nat_lt 0 c.run_plans-store.result.store.ledger.failed) (first_spent (histories_in c.run_plans-store.result.shards.items)) c.tell-printed.result

pub returns-clause-writes : goal.returns-clause-writes
returns-clause-writes g c =
    let is = ap is_write_fault c.ended_work.ensures.status
    ∙ at_write_end (nat_lt 0 c.run_plans-store.result.store.ledger.failed)
    (first_spent (histories_in c.run_plans-store.result.shards.items)) c.tell-printed.result in (
      subst (λ (b : Bool). RoseWhere g.W.Sink.faults b c.args.sink.now c.tell-printed.new.sink) (sym is) c.tell-printed.ensures.counts,
      c.tell-printed.ensures.never_falls,
    )

pub returns-clause-keeper_never_falls : goal.returns-clause-keeper_never_falls
returns-clause-keeper_never_falls g c =
    rw c.ended_work.ensures.faults (c.run_plans-store.ensures.store.never_fell c.args.store.faults c.requires.named.start_is)
