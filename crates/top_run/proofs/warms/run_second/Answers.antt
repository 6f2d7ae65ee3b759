use Rattle.std.proofs.Common.{false, arith, ℕ, ◌≡◌, ◌≤◌, List, [], Some, None, length, map, refl, sym, ap, subst, ◌∙◌, inr}
use Rattle.std.specs.Prelude.{IfOk, IsSome, Option, Vec, nat_lt}
use Rattle.std.specs.Global.{Global}
use Rattle.std.specs.List.{AllByRecursion}
use Rattle.std.specs.Option.{ForSome, option_or}
use Rattle.std.proofs.lemmas.List.{length-map}
use Rattle.std.proofs.lemmas.Result.{IfOk-weaker}
use Rattle.rows_model.specs.Rows.{Tables}
use Rattle.key_shard.specs.declared.steps.Step.{Step}
use Rattle.key_shard.specs.Past.{Terms}
use Rattle.key_shard.specs.Shards.{ShardView}
use Rattle.sql_keeper.specs.Fresh.{Fresh}
use Rattle.sql_keeper.specs.Log.{rows_after}
use Rattle.run_audit.specs.Findings.{histories_in, AreWhole}
use Rattle.run_inputs.specs.declared.loads.WorkSpec.{WorkSpec}
use Rattle.run_inputs.specs.Loads.{load}
use Rattle.session_client.specs.declared.plans.Plan.{Plan}
use Rattle.top_run.specs.declared.runs.Status.{Status}
use Rattle.top_run.specs.Ready.{AsksFirst}
use Rattle.top_run.specs.Runs.{moment}
use Rattle.top_run.specs.Serves.{Course, phase_left}
use Rattle.top_run.specs.Works.{HaveRun, HaveSessions, IsSummary, end_status, first_spent, hub_terms, work_shape}
use Rattle.top_run.specs.Warms.{HasGoneOn, HaveTakenOver, IsLeftBy, WarmEnded, front_of, next_load}
use Rattle.top_run.specs.Warming.{KeepsAnswers, left_in, since_in}
use Rattle.top_run.proofs.AnewLemmas.{legal_loaded, loads_named, new_store}
use Rattle.top_run.proofs.SecondLemmas.{behind_loaded, hits_valued, make_anew, taken_over}
use Rattle.top_run.proofs.SessionLemmas.{load_asks}
use Rattle.top_run.proofs.WarmEnds.{all_alike, ended_second, first_later, where_told}
use Rattle.top_run.proofs.WarmLemmas.{ran_all}
use Rattle.top_run.proofs.WorkLemmas.{left_of, legal_of, numbered_of, whole_of, cap_kept}
use Rattle.top_run.proofs.warms.run_second.Goals as goal

pub run_plans-store-requires-clause-new : goal.run_plans-store-requires-clause-new
run_plans-store-requires-clause-new g c =
    λ κs outlives. rw c.renamed.ensures (new_store (work_shape c.args.warming.now.spec.now) false c.args.half.store _ _ _ _ _ _ _ _ _ _ _ _ _ _ c.requires.anew c.requires.named)

pub run_plans-store-requires-clause-ask : goal.run_plans-store-requires-clause-ask
run_plans-store-requires-clause-ask g c =
    λ κs outlives.
    let are_load = ap (λ (lists : List (Vec Plan Global)). map (λ list. list.items) lists) c.as_slice.ensures.value ∙ c.requires.ready.are_load in
    subst (AllByRecursion (AllByRecursion AsksFirst)) (sym are_load) (load_asks c.args.warming.now.spec.now c.requires.work)

pub summed_up-made-requires-clause-whole : goal.summed_up-made-requires-clause-whole
summed_up-made-requires-clause-whole g c =
    subst AreWhole (sym c.as_slice-2.ensures.value)
    (whole_of g.H.HubName.terms (work_shape c.args.warming.now.spec.now) c.run_plans-store.result.shards.items c.requires.named.terms_are c.run_plans-store.ensures.all)

pub summed_up-made-requires-clause-ran : goal.summed_up-made-requires-clause-ran
summed_up-made-requires-clause-ran g c =
    let are_load = ap (λ (lists : List (Vec Plan Global)). map (λ list. list.items) lists) c.as_slice.ensures.value ∙ c.requires.ready.are_load in
    rw c.as_slice-2.ensures.value
    (IfOk-weaker c.run_plans-store.result.transcripts _ _
    (λ transcripts ran.
    subst (λ (plans : List (List Plan)). HaveRun plans (histories_in c.run_plans-store.result.shards.items) transcripts.items) are_load
    (ran_all g.H.BoundName.before c.run_plans-store.result.shards.items _ transcripts.items ran))
    c.run_plans-store.ensures.ran)

pub run_plans-store-requires-clause-parts : goal.run_plans-store-requires-clause-parts
run_plans-store-requires-clause-parts g c =
    λ κs outlives. rw c.renamed.ensures
    (make_anew c.args.warming.now.spec.now c.args.half.store.known_rows c.args.half.store.ledger.opening (left_in c.args.half.earlier.items) c.args.ready c.requires.ready
    g.H.BoundName.before c.requires.named.before_is c.args.half.store _ _ g.H.HubName.terms g.H.HubName.opening _ _ _ _ g.H.BoundName.word
    g.H.BoundName.begun g.H.BoundName.failed c.requires.work.few_shards refl refl c.requires.named)

pub run_plans-store-requires-clause-loads_before : goal.run_plans-store-requires-clause-loads_before
run_plans-store-requires-clause-loads_before g c =
    let ready = c.requires.ready in
    λ κs outlives. loads_named c.args.half.store.known_rows c.args.half.store.ledger.opening ready.dumps ready.olds c.args.ready.parts.hub.shards.items ready.loaded ready.many
    (hub_terms (work_shape c.args.warming.now.spec.now) false) ready.all g.H.BoundName.before c.requires.named.before_is

pub run_plans-store-requires-clause-legal : goal.run_plans-store-requires-clause-legal
run_plans-store-requires-clause-legal g c =
    let ready = c.requires.ready in
    λ κs outlives. legal_loaded c.args.half.store.known_rows c.args.half.store.ledger.opening ready.dumps ready.olds c.args.ready.parts.hub.shards.items ready.loaded ready.many
    (hub_terms (work_shape c.args.warming.now.spec.now) false) ready.all

pub run_plans-store-requires-clause-from_one : goal.run_plans-store-requires-clause-from_one
run_plans-store-requires-clause-from_one g c = λ κs outlives place. ap (λ (t : Terms). t.first) (c.requires.named.terms_are place)

pub summed_up-made-requires-clause-numbered : goal.summed_up-made-requires-clause-numbered
summed_up-made-requires-clause-numbered g c =
    let shards = c.run_plans-store.result.shards.items in
    let many = c.run_plans-store.ensures.as_many ∙ c.requires.ready.loaded.as_many ∙ c.requires.ready.as_many in
    rw c.as_slice-2.ensures.value (numbered_of g.H.HubName.terms shards c.run_plans-store.ensures.all (omega (arith, many, c.requires.work.few_shards)))

pub returns-clause-ended : goal.returns-clause-ended
returns-clause-ended g c = λ unread door files rows start held taken failed spec opening text starts next half first prints.
    let second = c.args.warming.now.spec.now in
    let given = c.args.half.store in
    let earlier = c.args.half.earlier.items in
    let firsts = left_in earlier in
    let ran = c.run_plans-store.result in
    let store = ran.store in
    let shards = ran.shards.items in
    let left = left_of store (histories_in shards) in
    let before = moment unread taken failed rows start in
    let after = moment unread (g.W.Sink.taken c.tell_behind-printed.new.sink) (g.W.Sink.faults c.tell_behind-printed.new.sink) store.known_rows store.faults in
    let course : Course = record {
      held = held;
      before = before;
      after = after;
      door_before = door;
      door_after = door;
      files_before = files;
      files_after = files;
      left = left;
      earlier = map phase_left earlier;
      ends = [];
      written = c.tell_behind-printed.new.written;
    } in
    let run = c.run_plans-store.ensures in
    let named = c.requires.named in
    let anew = rows_after opening firsts.log in
    let named_now : g.H.HubName.opening ≡ given.ledger.opening = sym named.opening_is in
    let opening_now : store.ledger.opening ≡ anew = run.store.opening_is ∙ named_now ∙ half.opening_is in
    let before_now : IsSome store.known_rows → IsSome given.known_rows = λ some.
    subst (λ (r : Option Tables). IsSome r) named.told_is (run.store.known_before some) in
    let fresh : IsSome store.known_rows → Fresh given.ledger.opening store.ledger.log (histories_in shards) = λ some.
    subst (λ (t : Tables). Fresh t store.ledger.log (histories_in shards)) named_now (run.fresh some) in
    let keeps : IsSome store.known_rows → KeepsAnswers given.ledger.opening store.ledger.log = λ some.
    subst (λ (t : Tables). KeepsAnswers t store.ledger.log) named_now (run.keeps some) in
    let many : length shards ≡ second.shards = run.as_many ∙ c.requires.ready.loaded.as_many ∙ c.requires.ready.as_many in
    let all = all_alike g.H.HubName.terms (hub_terms (work_shape second) false) shards named.terms_are run.all in
    let by_spec : IsLeftBy second store.known_rows anew left = record {
      opening_is = ap (λ (t : Tables). Some t) opening_now;
      short = subst (λ (n : ℕ). length store.ledger.log ≤ n) (run.store.cap_is ∙ named.cap_is ∙ c.requires.anew.cap_is) c.ended_hub.ensures.short;
      as_many = length-map shards (λ (s : ShardView). s.history) ∙ many;
      legal = legal_of g.H.HubName.terms (work_shape second) shards named.terms_are run.all run.legal;
      fresh = λ some. subst (λ (t : Tables). Fresh t store.ledger.log (histories_in shards)) half.opening_is (fresh some);
      covered = run.covered;
    } in
    let gone : HasGoneOn spec course = record {
      first = firsts;
      opening = opening;
      text = text;
      is_first = first_later spec held given.known_rows store.known_rows (map phase_left earlier) firsts opening text before_now first;
      left = subst (λ (s : WorkSpec). IsLeftBy s store.known_rows anew left) (sym next) by_spec;
      rows_are = subst (λ (t : Tables). ForSome store.known_rows (λ known. known ≡ rows_after t store.ledger.log)) opening_now c.ended_hub.ensures.told;
      taken_over = subst (λ (s : WorkSpec). HaveTakenOver (work_shape s) firsts.log firsts.histories (histories_in shards)) (sym next)
          (taken_over second given.known_rows given.ledger.opening firsts c.args.ready c.requires.ready g.H.BoundName.before named.before_is shards all many run.goes_on);
      hits = λ some.
          hits_valued second given.known_rows given.ledger.opening firsts c.args.ready c.requires.ready g.H.BoundName.before named.before_is shards all many
          store.ledger.log (before_now some) (keeps some) (fresh some);
      failed = store.ledger.failed;
      since = c.ended_hub.ensures.since start (named.start_is ∙ starts);
    } in
    let made = (rw (c.opening.ensures, c.log.ensures.items (cap_kept _ (run.store.cap_is ∙ named.cap_is ∙ c.requires.anew.cap_is)), c.as_slice-2.ensures.value) at c.summed_up-made.ensures.summary) in
    let made_so = subst (λ (s : WorkSpec). IfOk c.summed_up-made.result
    (λ one. IsSummary s anew store.ledger.log (histories_in shards) one.finding one.text.items)) (sym next)
    (subst (λ (t : Tables). IfOk c.summed_up-made.result
    (λ one. IsSummary second t store.ledger.log (histories_in shards) one.finding one.text.items)) opening_now made) in
    let behind = behind_loaded second given.known_rows given.ledger.opening firsts c.args.ready c.requires.ready g.H.BoundName.before named.before_is shards all many
    (first.left.as_many ∙ ap (λ (s : WorkSpec). s.shards) next) in
    let plans = ap (λ (lists : List (Vec Plan Global)). map (λ list. list.items) lists) c.as_slice.ensures.value ∙ c.requires.ready.are_load
    ∙ ap load (sym next) in
    let own = where_told ran.transcripts c.summed_up-made.result c.tell_behind-printed.result _ c.summed_up-made.ensures.memory c.tell_behind-printed.ensures.unmade run.ran
    (λ transcripts have unspent.
    subst (λ (steps : List (List Step)). HaveSessions (load (next_load spec)) steps) behind
    (subst (λ (ps : List (List Plan)). HaveSessions ps (since_in g.H.BoundName.before shards)) plans (have.sessions unspent))) in
    let spent_now = c.or-spent.ensures ∙ ap (λ (o : Option ℕ). option_or o c.first_spent.result) half.spent_is
    ∙ ap (λ (o : Option ℕ). option_or (first_spent firsts.histories) o) (rw c.as_slice-3.ensures.value at c.first_spent.ensures) in
    let status_now = c.end_status-status.ensures
    ∙ ap (λ (n : ℕ). end_status (nat_lt 0 n) c.or-spent.result c.tell_behind-printed.result) c.failed.ensures.count
    ∙ ap (λ (o : Option ℕ). end_status (nat_lt 0 store.ledger.failed) o c.tell_behind-printed.result) spent_now in
    rw (
      c.ended_hub.ensures.status,
      c.ended_hub.ensures.opening,
      c.ended_hub.ensures.log,
      c.ended_hub.ensures.whole (whole_of g.H.HubName.terms (work_shape second) shards named.terms_are run.all),
      c.ended_hub.ensures.ends,
      c.new.ensures.items,
      c.ended_hub.ensures.earlier,
      c.ended_hub.ensures.written,
      c.ended_hub.ensures.rows,
      c.ended_hub.ensures.faults,
    )
    (subst (λ (ended : Status). WarmEnded ended spec course) (sym status_now)
    (inr (inr (ended_second spec course gone c.tell_behind-printed.result
    (c.tell_behind-printed.ensures.told (next_load spec) anew store.ledger.log (histories_in shards) taken (front_of text firsts) made_so prints)
    (c.tell_behind-printed.ensures.halted (next_load spec) anew store.ledger.log (histories_in shards) taken (front_of text firsts) made_so prints) own))))

pub returns-clause-keeper_never_falls : goal.returns-clause-keeper_never_falls
returns-clause-keeper_never_falls g c =
    rw c.ended_hub.ensures.faults
    (subst (λ (count : Option ℕ). ForSome count (λ start. start ≤ c.run_plans-store.result.store.faults)) c.requires.named.start_is c.run_plans-store.ensures.store.never_fell)
