use Rattle.std.proofs.Common.{Bool, sym, ap, subst, ◌∙◌}
use Rattle.session_client.specs.Desks.{Asked, with_member}
use Rattle.session_client.specs.declared.replies.Reply.{Reply}
use Rattle.session_client.specs.declared.replies.Wanted.TheVariants as wanted
use Rattle.conn_server.proofs.ClosingLemmas.{StartsBy, ended, gives_up, is_withdrawn}
use Rattle.conn_server.proofs.clients.Client.give_up.Goals as goal
use Rattle.conn_server.proofs.clients.Client.give_up.Goals.{in-Committed, in-Open}

pub returns-clause-leaves : goal.returns-clause-leaves
returns-clause-leaves g c =
    let before = g.D.Desk.record_of c.args.desk.now in
    let mid = g.D.Desk.record_of c.match-present.desk in
    let stage = c.in-Some.present.stage in
    let who = c.in-Some.present.sid in
    let starts : StartsBy c.match-present.committed stage who before mid =
    elim c.match-present.branch [
      | in-Committed w ↦ subst (λ (b : Bool). StartsBy b stage who before mid) (sym w.committed-is)
          (w.in-Committed.number, w.in-Committed.is, ap g.D.Desk.record_of w.desk-is)
      | in-Open w ↦ let end = ended who w.call.result w.call.ensures.belongs in
          subst (λ (b : Bool). StartsBy b stage who before mid) (sym w.committed-is) (
            end.was,
            is_withdrawn stage w.in-Open.is,
            ap g.D.Desk.record_of w.desk-is ∙ w.call.ensures.recorded ∙ ap (λ (h : Reply). with_member (Asked who wanted.End h) before) end.is,
          )
    ] in
    rw (← c.self.view_is, c.in-Some.is)
    (gives_up c.match-present.committed stage who c.self.inside.grants.items before mid (g.D.Desk.record_of c.release_all.new.desk)
    c.release_all.result starts c.release_all.ensures.releases)

pub returns-clause-untended : goal.returns-clause-untended
returns-clause-untended g c =
    c.release_all.ensures.untended
    ∙ elim c.match-present.branch [
      | in-Committed w ↦ ap g.D.Desk.tends w.desk-is
      | in-Open w ↦ ap g.D.Desk.tends w.desk-is ∙ w.call.ensures.tends
    ]
