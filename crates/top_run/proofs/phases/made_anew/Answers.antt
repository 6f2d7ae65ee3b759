use Rattle.std.proofs.Common.{ap, refl, ◌∙◌}
use Rattle.sql_keeper.specs.Sessions.{is_open}
use Rattle.sql_keeper.specs.Stores.{Ledger}
use Rattle.top_run.proofs.WarmingLemmas.{rebased_closed, told_anew}
use Rattle.top_run.proofs.phases.made_anew.Goals as goal

pub returns-in-Ok-clause-half : goal.returns-in-Ok-clause-half
returns-in-Ok-clause-half g c =
    let old = c.args.first.store.ledger in
    let is = c.in-Ok.ensures.ledger in
    let left = c.with_phase.ensures in
    record {
      only = rw left refl;
      anew = record {
        no_log = ap (λ (l : Ledger). l.log) is;
        cap_is = ap (λ (l : Ledger). l.cap) is ∙ c.requires.cap;
        none_open = λ who. ap (λ (l : Ledger). is_open who l.sessions) is ∙ rebased_closed old who;
        told_is = told_anew c.args.first.store c.in-Ok.store is c.in-Ok.ensures.keeper.0 c.log.ensures.told;
      };
      opening_is = ap (λ (l : Ledger). l.opening) is ∙ rw (left, c.in-Ok.ensures.log) refl;
      spent_is = (rw c.as_slice.ensures.value at c.first_spent-spent.ensures) ∙ rw left refl;
    }

pub returns-in-Ok-clause-left : goal.returns-in-Ok-clause-left
returns-in-Ok-clause-left g c = rw (c.with_phase.ensures, c.in-Ok.ensures.opening, c.in-Ok.ensures.log) refl
