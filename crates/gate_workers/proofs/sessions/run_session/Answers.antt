use Rattle.std.proofs.Common.{◌≡◌, ◌∙◌, ap}
use Rattle.session_client.specs.Desks.{Began, one_more, with_member}
use Rattle.session_client.specs.Plans.{writes}
use Rattle.gate_workers.specs.Notes.{AddsStop, HasEnded}
use Rattle.gate_workers.specs.Rows.{desk_view}
use Rattle.gate_workers.proofs.WorkLemmas.{runs_to_end, leaves, on_err_by, stops_at_once, stops_before, stops_unbegun}
use Rattle.gate_workers.proofs.sessions.run_session.Goals as goal

pub returns-in_err-copy-clause-stop : goal.returns-in_err-copy-clause-stop
returns-in_err-copy-clause-stop g c =
    let view = desk_view g.D.Desk.record_of g.D.Desk.tends g.D.Desk.worker c.args.desk.now in
    on_err_by c.from_residual.result (AddsStop c.args.plan.now view view) (stops_before c.args.plan.now view)

pub returns-in_err-notes-clause-stop : goal.returns-in_err-notes-clause-stop
returns-in_err-notes-clause-stop g c =
    let view = desk_view g.D.Desk.record_of g.D.Desk.tends g.D.Desk.worker c.args.desk.now in
    on_err_by c.from_residual-in_err-notes.result (AddsStop c.args.plan.now view view) (stops_before c.args.plan.now view)

pub returns-in_err-sid-clause-stop : goal.returns-in_err-sid-clause-stop
returns-in_err-sid-clause-stop g c =
    let old = desk_view g.D.Desk.record_of g.D.Desk.tends g.D.Desk.worker c.args.desk.now in
    let new = desk_view g.D.Desk.record_of g.D.Desk.tends g.D.Desk.worker c.begin.new.self in
    on_err_by c.from_residual-in_err-sid.result (AddsStop c.args.plan.now old new)
    (stops_unbegun c.args.plan.now (g.D.Desk.record_of c.args.desk.now) (g.D.Desk.record_of c.begin.new.self)
    (g.D.Desk.tends c.args.desk.now) (g.D.Desk.tends c.begin.new.self) (g.D.Desk.worker c.args.desk.now) (g.D.Desk.worker c.begin.new.self)
    c.in_err-sid.ensures.err_recorded c.begin.ensures.tends c.begin.ensures.worker)

pub returns-in_default-clause-stop : goal.returns-in_default-clause-stop
returns-in_default-clause-stop g c =
    let who = c.in_ok-sid.sid in
    let plan = c.args.plan.now in
    let before = g.D.Desk.record_of c.args.desk.now in
    let now = g.D.Desk.record_of c.begin.new.self in
    let begun : now ≡ with_member (Began (writes plan) who) before = cc (c.in_ok-sid.ensures.recorded, c.writes.ensures) in
    stops_at_once plan who c.call.result before now (g.D.Desk.record_of c.call.new.self) (g.D.Desk.tends c.args.desk.now)
    (g.D.Desk.tends c.call.new.self) (g.D.Desk.worker c.args.desk.now) (g.D.Desk.worker c.call.new.self) begun c.call.ensures.recorded c.call.ensures.belongs
    (c.call.ensures.tends ∙ c.begin.ensures.tends) (c.call.ensures.worker ∙ c.begin.ensures.worker)

pub returns : goal.returns
returns g c =
    let before = g.D.Desk.record_of c.args.desk.now in
    let count = g.D.Desk.tends c.args.desk.now in
    let driven = g.D.Desk.record_of c.drive-outcome.new.desk in
    let ended : HasEnded c.in_ok-sid.sid c.args.plan.now c.drive-outcome.result before driven c.drive-outcome.new.notes =
    runs_to_end c.in_ok-sid.sid c.args.plan.now c.in_ok-copy.copy c.writes.result c.in-Ok.session before (g.D.Desk.record_of c.begin.new.self)
    driven c.in_ok-notes.notes c.drive-outcome.new.notes c.drive-outcome.result c.in-Ok.ensures.plan c.in_ok-copy.ensures
    c.in-Ok.ensures.sid c.in-Ok.ensures.follows c.in_ok-sid.ensures.recorded c.writes.ensures c.in_ok-notes.ensures c.drive-outcome.ensures.ended in
    let tended : g.D.Desk.tends c.tend.new.self ≡ one_more count =
    c.tend.ensures.tended ∙ ap one_more (c.drive-outcome.ensures.tends ∙ c.begin.ensures.tends) in
    let l = leaves c.in_ok-sid.sid c.args.plan.now c.drive-outcome.result before driven (g.D.Desk.record_of c.tend.new.self)
    count (g.D.Desk.tends c.tend.new.self) (g.D.Desk.worker c.args.desk.now) (g.D.Desk.worker c.tend.new.self) c.drive-outcome.new.notes c.of.result ended c.of.ensures
    c.tend.ensures.recorded tended (c.tend.ensures.worker ∙ c.drive-outcome.ensures.worker ∙ c.begin.ensures.worker) in
    record { row = l.row; stop = l.stop }
