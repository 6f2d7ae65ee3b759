use Rattle.std.proofs.Common.{◌≡◌, IfSome, IfNone, subst}
use Rattle.lease_table.specs.Lapses.{reader_in, HasLapsed, NoneLapsed, NoneLapsedBefore}
use Rattle.key_shard.specs.Kept.{steps_of}
use Rattle.key_shard.specs.Past.{recorded}
use Rattle.key_shard.proofs.bodies.Body.first_lapsed.Goals as goal

pub returns-clause-lapsed : goal.returns-clause-lapsed
returns-clause-lapsed c =
    let same : reader_in c.args.self.now.leases ≡ (λ key. recorded key (steps_of c.args.self.now)) = λ i key. c.requires.ties.reads key i in
    subst (λ reading. IfSome c.first_lapsed.result (HasLapsed c.args.now reading)) same c.first_lapsed.ensures.lapsed

pub returns-clause-least : goal.returns-clause-least
returns-clause-least c =
    let same : reader_in c.args.self.now.leases ≡ (λ key. recorded key (steps_of c.args.self.now)) = λ i key. c.requires.ties.reads key i in
    subst (λ reading. IfSome c.first_lapsed.result (NoneLapsedBefore reading)) same c.first_lapsed.ensures.least

pub returns-clause-none : goal.returns-clause-none
returns-clause-none c =
    let same : reader_in c.args.self.now.leases ≡ (λ key. recorded key (steps_of c.args.self.now)) = λ i key. c.requires.ties.reads key i in
    subst (λ reading. IfNone c.first_lapsed.result (NoneLapsed c.args.now reading)) same c.first_lapsed.ensures.none
