use Rattle.std.proofs.Common.{arith, ℕ, ◌≡◌, ◌≤◌, List, [], Option, map, refl, sym, subst, inl, inr}
use Rattle.std.specs.Option.{ForSome}
use Rattle.run_inputs.specs.declared.loads.WorkSpec.{WorkSpec}
use Rattle.run_inputs.specs.Loads.{IsWork}
use Rattle.rows_model.specs.Rows.{Tables}
use Rattle.shard_dump.specs.declared.rows.DumpRow.{DumpRow}
use Rattle.core_history.specs.Machine.{log_cap}
use Rattle.top_run.specs.declared.runs.Status.TheVariants as status
use Rattle.top_run.specs.Runs.{moment}
use Rattle.top_run.specs.Serves.{Course, phase_left}
use Rattle.top_run.specs.Warms.{IsFirst, dump_lines, dumps_in, nothing_left}
use Rattle.top_run.specs.Warming.{AreToLoad, IsReadyAnew, left_in}
use Rattle.top_run.proofs.SecondLemmas.{anew_still, can_load_all, half_still, next_to_load, next_works, rows_are_left}
use Rattle.top_run.proofs.WarmEnds.{stopped_between}
use Rattle.top_run.proofs.warms.load_second.Goals as goal

pub loaded-requires-clause-can : goal.loaded-requires-clause-can
loaded-requires-clause-can g c =
    let half = c.args.half in
    let left = left_in half.earlier.items in
    can_load_all c.next_load-spec.result left half.store.known_rows half.store.ledger.opening c.args.dumps.items c.in-Ok.unloaded.parts
    (subst (λ (s : WorkSpec). AreToLoad s left half.store.known_rows half.store.ledger.opening c.args.dumps.items) (sym c.next_load-spec.ensures)
    (next_to_load c.args.warming.now.spec.now left half.store.known_rows half.store.ledger.opening c.args.dumps.items c.requires.to_load))
    c.in-Ok.ensures.parts

pub loaded-requires-clause-log : goal.loaded-requires-clause-log
loaded-requires-clause-log g c = c.requires.anew.no_log

pub loaded-requires-clause-work : goal.loaded-requires-clause-work
loaded-requires-clause-work g c = subst IsWork (sym c.next_load-spec.ensures) (next_works c.args.warming.now.spec.now c.requires.work)

pub run_second-requires-clause-work : goal.run_second-requires-clause-work
run_second-requires-clause-work g c κs within = subst IsWork (sym c.next_load-spec.ensures) (next_works c.args.warming.now.spec.now c.requires.work)

pub run_second-requires-clause-anew : goal.run_second-requires-clause-anew
run_second-requires-clause-anew g c κs within = anew_still log_cap c.args.half.store c.loaded.new.store c.loaded.ensures.keeps_on c.requires.anew

pub run_second-requires-clause-never_fell : goal.run_second-requires-clause-never_fell
run_second-requires-clause-never_fell g c κs within =
    subst (λ (n : ℕ). ForSome g.N.Start.count (λ start. start ≤ n)) (sym c.loaded.ensures.keeps_on.faults_are) c.requires.never_fell

pub run_second-requires-clause-ready : goal.run_second-requires-clause-ready
run_second-requires-clause-ready g c κs within =
    let half = c.args.half in
    let left = left_in half.earlier.items in
    subst (λ (rows : List (List DumpRow)). IsReadyAnew c.next_load-spec.result c.loaded.new.store.known_rows c.loaded.new.store.ledger.opening rows c.in-Ok-loaded.ready)
    (rows_are_left c.args.warming.now.spec.now left half.store.known_rows half.store.ledger.opening c.args.dumps.items c.requires.to_load) c.in-Ok-loaded.ensures.ready

pub run_second-requires-clause-named : goal.run_second-requires-clause-named
run_second-requires-clause-named g c κs within = record {
  terms_are = λ place. refl;
  opening_is = refl;
  cap_is = refl;
  told_is = refl;
  start_is = refl;
  ledger = (refl, refl);
  word_is = refl;
  before_is = λ place. refl;
  begun_is = refl;
  failed_is = refl;
  few_failed = omega (arith, c.failed.ensures.count, c.failed.type_inv);
}

pub returns-in_default-clause-ended : goal.returns-in_default-clause-ended
returns-in_default-clause-ended g c = λ unread door files rows start held taken failed opening text starts half first prints.
    let given = c.args.half in
    let left = left_in given.earlier.items in
    let spec = c.args.warming.now.spec.now in
    let before = moment unread taken failed rows start in
    let after = moment unread (g.W.Sink.taken c.args.sink.now) (g.W.Sink.faults c.args.sink.now) given.store.known_rows given.store.faults in
    let course : Course = record {
      held = held;
      before = before;
      after = after;
      door_before = door;
      door_after = door;
      files_before = files;
      files_after = files;
      left = nothing_left;
      earlier = map phase_left given.earlier.items;
      ends = [];
      written = c.args.written;
    } in
    rw (
      c.ended_half.ensures.status,
      c.ended_half.ensures.opening,
      c.ended_half.ensures.log,
      c.ended_half.ensures.histories,
      c.ended_half.ensures.no_ends,
      c.ended_half.ensures.earlier,
      c.ended_half.ensures.written,
      c.ended_half.ensures.rows,
      c.ended_half.ensures.faults,
    )
    (inr (inl (stopped_between spec course refl status.Memory left opening text (dump_lines (dumps_in left)) given.store.ledger.failed first
    (subst (λ (t : Tables). ForSome given.store.known_rows (λ known. known ≡ t)) half.opening_is half.anew.told_is)
    (c.ended_half.ensures.since start starts) (inl refl) prints)))

pub returns-in-Err-clause-ended : goal.returns-in-Err-clause-ended
returns-in-Err-clause-ended g c = λ unread door files rows start held taken failed opening text starts half first prints.
    let given = c.args.half in
    let left = left_in given.earlier.items in
    let spec = c.args.warming.now.spec.now in
    let store = c.loaded.new.store in
    let before = moment unread taken failed rows start in
    let after = moment unread (g.W.Sink.taken c.args.sink.now) (g.W.Sink.faults c.args.sink.now) store.known_rows store.faults in
    let keeps = c.loaded.ensures.keeps_on in
    let now = half_still opening given.store store given.earlier.items given.spent keeps half in
    let course : Course = record {
      held = held;
      before = before;
      after = after;
      door_before = door;
      door_after = door;
      files_before = files;
      files_after = files;
      left = nothing_left;
      earlier = map phase_left given.earlier.items;
      ends = [];
      written = c.args.written;
    } in
    rw (
      c.ended_half-in-Err.ensures.status,
      c.ended_half-in-Err.ensures.opening,
      c.ended_half-in-Err.ensures.log,
      c.ended_half-in-Err.ensures.histories,
      c.ended_half-in-Err.ensures.no_ends,
      c.ended_half-in-Err.ensures.earlier,
      c.ended_half-in-Err.ensures.written,
      c.ended_half-in-Err.ensures.rows,
      c.ended_half-in-Err.ensures.faults,
    )
    (inr (inl (stopped_between spec course refl status.Memory left opening text (dump_lines (dumps_in left)) store.ledger.failed
    (subst (λ (r : Option Tables). IsFirst spec held r (map phase_left given.earlier.items) left opening text) (sym keeps.told_is) first)
    (subst (λ (t : Tables). ForSome store.known_rows (λ known. known ≡ t)) now.opening_is now.anew.told_is)
    (c.ended_half-in-Err.ensures.since start starts) (inl refl) prints)))

pub returns-in-Ok-loaded-clause-ended : goal.returns-in-Ok-loaded-clause-ended
returns-in-Ok-loaded-clause-ended g c = λ unread door files rows start held taken failed opening text starts half first prints.
    let given = c.args.half in
    let left = left_in given.earlier.items in
    let spec = c.args.warming.now.spec.now in
    let store = c.loaded.new.store in
    let keeps = c.loaded.ensures.keeps_on in
    c.run_second.ensures.ended unread door files rows start held taken failed spec opening text starts (sym c.next_load-spec.ensures)
    (half_still opening given.store store given.earlier.items given.spent keeps half)
    (subst (λ (r : Option Tables). IsFirst spec held r (map phase_left given.earlier.items) left opening text) (sym keeps.told_is) first) prints

pub returns-in_default-clause-keeper_never_falls : goal.returns-in_default-clause-keeper_never_falls
returns-in_default-clause-keeper_never_falls g c = rw c.ended_half.ensures.faults c.requires.never_fell

pub returns-in-Err-clause-keeper_never_falls : goal.returns-in-Err-clause-keeper_never_falls
returns-in-Err-clause-keeper_never_falls g c =
    rw c.ended_half-in-Err.ensures.faults
    (subst (λ (n : ℕ). ForSome g.N.Start.count (λ start. start ≤ n)) (sym c.loaded.ensures.keeps_on.faults_are) c.requires.never_fell)
