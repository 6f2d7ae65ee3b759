use Rattle.lease_table.specs.Expiry.{quars_in}
use Rattle.key_shard.specs.Kept.{steps_of, terms_of}
use Rattle.key_shard.proofs.DueLemmas.{first_due-found}
use Rattle.key_shard.proofs.bodies.Body.expired.Goals as goal

pub returns-clause-first : goal.returns-clause-first
returns-clause-first c =
    let body = c.args.self.now in
    first_due-found (terms_of body) (steps_of body) c.args.now
    (quars_in body.leases) c.expired.result c.requires.ties.legal c.requires.ties.quars c.expired.ensures.due c.expired.ensures.least c.expired.ensures.none
