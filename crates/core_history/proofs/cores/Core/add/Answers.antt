use Rattle.std.proofs.Common.{◌≡◌, ℕ, ◌+◌, List, [], ◌∷◌, ◌++◌, length, sym, ap, subst, ◌∙◌}
use Rattle.std.proofs.lemmas.List.{length-map}
use Rattle.rows_model.specs.declared.keys.Sid.{Sid}
use Rattle.sql_keeper.specs.Stores.{with_session}
use Rattle.session_client.specs.Follows.{plan_of}
use Rattle.session_client.specs.declared.plans.Plan.{Plan}
use Rattle.session_client.specs.declared.sessions.Session.{Session}
use Rattle.core_history.specs.Cores.{CoreView, IsAt}
use Rattle.core_history.proofs.BeginLemmas.{core_begun}
use Rattle.core_history.proofs.cores.Core.add.Goals as goal

pub returns-in-Ok-clause-begins : goal.returns-in-Ok-clause-begins
returns-in-Ok-clause-begins g c origin moves before =
    let at = subst (λ (v : CoreView). IsAt v origin moves) (sym c.self.view_is) before in
    let old = c.self.inside.sessions in
    let session = c.in_ok-session.session in
    let count : c.len.result ≡ length old.items = c.len.ensures ∙ old.ok.0 in
    let number = ap (λ (s : Sid). s.number) c.in_ok-session.ensures.sid ∙ ap (λ (n : ℕ). n + 1) count in
    let added : c.push_reserved.new.self.items ≡ old.items ++ session ∷ [] =
    c.push_reserved.ensures.items ∙ ap (λ (l : List Session). l ++ session ∷ []) c.in_ok-reserve.ensures.items in
    let plans : length old.items ≡ length _ = sym (length-map old.items plan_of) ∙ ap (λ (l : List Plan). length l) at.sessions.plans in
    let ledger = c.in-Ok.ensures.ledger in (
      ap (λ (n : ℕ). n + 1) (count ∙ plans),
      core_begun _ c.begin.new.self _ origin moves c.args.plan session at c.requires
          c.in_ok-session.ensures.plan number c.in_ok-session.ensures.ready c.in_ok-session.ensures.follows
          added (ledger ∙ ap (λ b. with_session b c.self.inside.store.ledger) c.writes-writes.ensures)
          c.in-Ok.ensures.keeper.0 c.in-Ok.ensures.keeper.1,
    )
