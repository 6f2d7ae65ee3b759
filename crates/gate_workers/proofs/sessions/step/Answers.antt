use Rattle.std.proofs.Common.{◌≡◌, subst}
use Rattle.rows_model.specs.declared.keys.Sid.{Sid}
use Rattle.session_client.specs.Belongs.{Belongs}
use Rattle.gate_workers.specs.declared.marks.Mark.{Mark}
use Rattle.gate_workers.specs.Marks.{mark_of}
use Rattle.gate_workers.specs.Notes.{IsNoted}
use Rattle.gate_workers.proofs.SessionLemmas.{goes_on, still_going}
use Rattle.gate_workers.proofs.sessions.step.Goals as goal

pub hear-requires : goal.hear-requires
hear-requires g c =
    let f = c.requires.going in
    (c.wants-wanted.ensures.awaits f.0 f.1 c.call-reply.result f.2).1
    (subst (λ (who : Sid). Belongs who c.wants-wanted.result c.call-reply.result) c.sid-sid.ensures c.call-reply.ensures.belongs)

pub returns-clause-goes_on : goal.returns-clause-goes_on
returns-clause-goes_on g c =
    λ who plan before u.
    let noted : Mark = record { asked = c.of-asked.result; response = c.of.result } in
    let same : noted ≡ mark_of c.wants-wanted.result c.call-reply.result = cc in
    goes_on who plan c.args.session.now c.wants-wanted.new.self c.hear.new.self before (g.D.Desk.record_of c.args.desk.now)
    (g.D.Desk.record_of c.call-reply.new.self) c.args.notes.now c.note.new.self c.wants-wanted.result c.call-reply.result c.hear.result
    (record {
      plan_then = c.wants-wanted.ensures.plan;
      sid_then = c.wants-wanted.ensures.sid;
      wanted = c.wants-wanted.ensures.wanted;
      waits_for = c.wants-wanted.ensures.follows;
      belongs = subst (λ (who : Sid). Belongs who c.wants-wanted.result c.call-reply.result) c.sid-sid.ensures c.call-reply.ensures.belongs;
      recorded = cc (c.call-reply.ensures.recorded);
      noted = subst (λ (mark : Mark). IsNoted mark c.args.notes.now c.note.new.self) same c.note.ensures;
      plan_now = c.hear.ensures.plan;
      sid_now = c.hear.ensures.sid;
      has_heard = c.hear.ensures.follows;
      memory = c.hear.ensures.memory;
    })
    c.requires.wanting
    u

pub returns-clause-going : goal.returns-clause-going
returns-clause-going g c =
    let f = c.requires.going in
    still_going c.hear.new.self f.0 f.1 c.call-reply.result c.hear.result (c.hear.ensures.follows f.0 f.1 (c.wants-wanted.ensures.follows f.0 f.1 f.2))
