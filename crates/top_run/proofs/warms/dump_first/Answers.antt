use Rattle.std.proofs.Common.{false, arith, ◌≡◌, List, [], ◌∷◌, ◌++◌, Option, None, map, refl, sym, ap, subst, ◌∙◌, inl, inr, ℕ}
use Rattle.std.specs.Prelude.{IsSome}
use Rattle.std.proofs.lemmas.List.{append-nil}
use Rattle.rows_model.specs.Rows.{Tables}
use Rattle.shard_dump.specs.declared.rows.Dump.{Dump}
use Rattle.sql_keeper.specs.Log.{rows_after}
use Rattle.top_run.specs.declared.runs.Status.TheVariants as status
use Rattle.top_run.specs.Runs.{Left, Prints, moment}
use Rattle.top_run.specs.Serves.{Course, phase_left}
use Rattle.top_run.specs.Works.{hub_terms, work_shape}
use Rattle.top_run.specs.Warms.{IsFirst, IsLinesPart, dump_lines, dumps_in, nothing_left}
use Rattle.top_run.specs.Warming.{AreToLoad, left_by, left_in, stop_status}
use Rattle.top_run.proofs.SecondLemmas.{dumps_are_in}
use Rattle.top_run.proofs.WarmEnds.{is_first_of, stopped_between}
use Rattle.top_run.proofs.WarmingLemmas.{all_bytes, to_load_all}
use Rattle.top_run.proofs.WorkLemmas.{numbered_of, cap_kept}
use Rattle.top_run.proofs.warms.dump_first.Goals as goal

pub dumps_of-requires-clause-numbered : goal.dumps_of-requires-clause-numbered
dumps_of-requires-clause-numbered g c =
    let spec = c.args.warming.now.spec.now in
    let many = c.requires.run.as_many in
    rw c.as_slice.ensures.value
    (numbered_of (hub_terms (work_shape spec) false) c.args.first.shards.items c.requires.run.all (omega (arith, many, c.requires.work.few_shards)))

pub tell_dumps-requires : goal.tell_dumps-requires
tell_dumps-requires g c = rw c.as_slice-2.ensures.value (all_bytes c.log.result.now c.as_slice.result.now c.in-Ok.dumps.items c.in-Ok.ensures)

pub load_second-requires-clause-to_load : goal.load_second-requires-clause-to_load
load_second-requires-clause-to_load g c κs within =
    let spec = c.args.warming.now.spec.now in
    let store = c.args.first.store in
    let shards = c.args.first.shards.items in
    let half = c.in-Ok-made_anew.half in
    let made = c.in-Ok-made_anew.ensures in
    subst (λ (left : Left). AreToLoad spec left half.store.known_rows half.store.ledger.opening c.in-Ok.dumps.items) (sym made.left)
    (to_load_all spec store shards c.in-Ok.dumps.items half.store.known_rows half.store.ledger.opening c.requires.run
    (rw (c.log.ensures.items (cap_kept _ c.requires.run.cap_is), c.as_slice.ensures.value) at c.in-Ok.ensures)
    (λ some. subst (λ (rows : Option Tables). IsSome rows) made.keeper.0 some)
    (made.half.opening_is ∙ ap (λ (left : Left). rows_after store.ledger.opening left.log) made.left))

pub returns-in-Err-clause-ended : goal.returns-in-Err-clause-ended
returns-in-Err-clause-ended g c = λ unread door files rows start held taken failed found text starts opens summary prints.
    let spec = c.args.warming.now.spec.now in
    let store = c.args.first.store in
    let shards = c.args.first.shards.items in
    let before = moment unread taken failed rows start in
    let after = moment unread (g.W.Sink.taken c.args.sink.now) (g.W.Sink.faults c.args.sink.now) store.known_rows store.faults in
    let course : Course = record {
      held = held;
      before = before;
      after = after;
      door_before = door;
      door_after = door;
      files_before = files;
      files_after = files;
      left = nothing_left;
      earlier = left_by store shards ∷ [];
      ends = [];
      written = c.args.written;
    } in
    let first = is_first_of spec held store shards found text c.requires.run opens summary c.ended_first.ensures.short in
    rw (
      c.ended_first.ensures.status,
      c.ended_first.ensures.opening,
      c.ended_first.ensures.log,
      c.ended_first.ensures.histories,
      c.ended_first.ensures.no_ends,
      c.ended_first.ensures.earlier,
      c.ended_first.ensures.written,
      c.ended_first.ensures.rows,
      c.ended_first.ensures.faults,
    )
    (inr (inl (stopped_between spec course refl status.Memory (left_by store shards) store.ledger.opening text [] store.ledger.failed first c.ended_first.ensures.told
    (c.ended_first.ensures.since start starts) (inr refl)
    (subst (λ (bytes : List ℕ). Prints taken (g.W.Sink.taken c.args.sink.now) bytes c.args.written) (sym (append-nil text)) prints))))

pub returns-in-Err-tell_dumps-clause-ended : goal.returns-in-Err-tell_dumps-clause-ended
returns-in-Err-tell_dumps-clause-ended g c = λ unread door files rows start held taken failed found text starts opens summary prints.
    let spec = c.args.warming.now.spec.now in
    let store = c.args.first.store in
    let shards = c.args.first.shards.items in
    let ended = c.ended_first-in-Err-tell_dumps.ensures in
    let before = moment unread taken failed rows start in
    let after = moment unread (g.W.Sink.taken c.tell_dumps.new.sink) (g.W.Sink.faults c.tell_dumps.new.sink) store.known_rows store.faults in
    let course : Course = record {
      held = held;
      before = before;
      after = after;
      door_before = door;
      door_after = door;
      files_before = files;
      files_after = files;
      left = nothing_left;
      earlier = left_by store shards ∷ [];
      ends = [];
      written = c.tell_dumps.new.written;
    } in
    let first = is_first_of spec held store shards found text c.requires.run opens summary ended.short in
    let lines : dump_lines (map (λ dumped. dumped.dump) c.in-Ok.dumps.items) ≡ dump_lines (dumps_in (left_by store shards)) =
    ap (λ (dumps : List Dump). dump_lines dumps) (dumps_are_in spec store shards c.in-Ok.dumps.items c.requires.run.all
    (rw (c.log.ensures.items (cap_kept _ c.requires.run.cap_is), c.as_slice.ensures.value) at c.in-Ok.ensures)) in
    let cut = rw c.as_slice-2.ensures.value at c.in-Err-tell_dumps.ensures.some taken text prints in
    rw (
      ended.status,
      c.stop_status.ensures,
      ended.opening,
      ended.log,
      ended.histories,
      ended.no_ends,
      ended.earlier,
      ended.written,
      ended.rows,
      ended.faults,
    )
    (inr (inl (stopped_between spec course refl (stop_status c.in-Err-tell_dumps.stop) (left_by store shards) store.ledger.opening text cut.0 store.ledger.failed first
    ended.told (ended.since start starts) (subst (λ (all : List ℕ). IsLinesPart (stop_status c.in-Err-tell_dumps.stop) all cut.0) lines cut.1) cut.2)))

pub returns-in-Ok-made_anew-clause-ended : goal.returns-in-Ok-made_anew-clause-ended
returns-in-Ok-made_anew-clause-ended g c = λ unread door files rows start held taken failed found text starts opens summary prints.
    let spec = c.args.warming.now.spec.now in
    let store = c.args.first.store in
    let shards = c.args.first.shards.items in
    let half = c.in-Ok-made_anew.half in
    let made = c.in-Ok-made_anew.ensures in
    let left = left_by store shards in
    let short = c.log.ensures.few in
    let first = is_first_of spec held store shards found text c.requires.run opens summary short in
    let only : map phase_left half.earlier.items ≡ left ∷ [] = made.half.only ∙ ap (λ (l : Left). l ∷ []) made.left in
    let lines : dump_lines (map (λ dumped. dumped.dump) c.in-Ok.dumps.items) ≡ dump_lines (dumps_in (left_in half.earlier.items)) =
    ap (λ (dumps : List Dump). dump_lines dumps) (dumps_are_in spec store shards c.in-Ok.dumps.items c.requires.run.all
    (rw (c.log.ensures.items (cap_kept _ c.requires.run.cap_is), c.as_slice.ensures.value) at c.in-Ok.ensures) ∙ ap (λ (l : Left). dumps_in l) (sym made.left)) in
    c.load_second.ensures.ended unread door files rows start held taken failed store.ledger.opening text starts made.half
    (subst (λ (r : Option Tables). IsFirst spec held r (map phase_left half.earlier.items) (left_in half.earlier.items) store.ledger.opening text) (sym made.keeper.0)
    (subst (λ (l : Left). IsFirst spec held store.known_rows (map phase_left half.earlier.items) l store.ledger.opening text) (sym made.left)
    (subst (λ (all : List Left). IsFirst spec held store.known_rows all left store.ledger.opening text) (sym only) first)))
    (subst (λ (all : List ℕ). Prints taken (g.W.Sink.taken c.tell_dumps.new.sink) (text ++ all) c.tell_dumps.new.written) lines
    (rw c.as_slice-2.ensures.value at c.in-Ok-tell_dumps.ensures.all taken text prints))

pub returns-in-Err-made_anew-clause-ended : goal.returns-in-Err-made_anew-clause-ended
returns-in-Err-made_anew-clause-ended g c = λ unread door files rows start held taken failed found text starts opens summary prints.
    let spec = c.args.warming.now.spec.now in
    let store = c.args.first.store in
    let shards = c.args.first.shards.items in
    let ended = c.ended_first-in-Err-made_anew.ensures in
    let same = c.in-Err-made_anew.ensures.err in
    let before = moment unread taken failed rows start in
    let after = moment unread (g.W.Sink.taken c.tell_dumps.new.sink) (g.W.Sink.faults c.tell_dumps.new.sink) store.known_rows store.faults in
    let course : Course = record {
      held = held;
      before = before;
      after = after;
      door_before = door;
      door_after = door;
      files_before = files;
      files_after = files;
      left = nothing_left;
      earlier = left_by store shards ∷ [];
      ends = [];
      written = c.tell_dumps.new.written;
    } in
    let first = is_first_of spec held store shards found text c.requires.run opens summary (rw same at ended.short) in
    let lines : dump_lines (map (λ dumped. dumped.dump) c.in-Ok.dumps.items) ≡ dump_lines (dumps_in (left_by store shards)) =
    ap (λ (dumps : List Dump). dump_lines dumps) (dumps_are_in spec store shards c.in-Ok.dumps.items c.requires.run.all
    (rw (c.log.ensures.items (cap_kept _ c.requires.run.cap_is), c.as_slice.ensures.value) at c.in-Ok.ensures)) in
    rw (
      ended.status,
      ended.opening,
      ended.log,
      ended.histories,
      ended.no_ends,
      ended.earlier,
      ended.written,
      ended.rows,
      ended.faults,
      same,
    )
    (inr (inl (stopped_between spec course refl status.Memory (left_by store shards) store.ledger.opening text (dump_lines (dumps_in (left_by store shards)))
    store.ledger.failed first (rw same at ended.told) (rw same at ended.since start starts) (inl refl)
    (subst (λ (all : List ℕ). Prints taken (g.W.Sink.taken c.tell_dumps.new.sink) (text ++ all) c.tell_dumps.new.written) lines
    (rw c.as_slice-2.ensures.value at c.in-Ok-tell_dumps.ensures.all taken text prints)))))
