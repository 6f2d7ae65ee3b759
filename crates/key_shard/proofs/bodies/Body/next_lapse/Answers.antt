use Rattle.std.proofs.Common.{◌≡◌, ℕ, ◌<◌, subst}
use Rattle.lease_table.specs.Lapses.{reader_in, NoneLapsed}
use Rattle.key_shard.specs.Kept.{steps_of}
use Rattle.key_shard.specs.Past.{recorded}
use Rattle.key_shard.proofs.bodies.Body.next_lapse.Goals as goal

pub returns : goal.returns
returns c =
    let same : reader_in c.args.self.now.leases ≡ (λ key. recorded key (steps_of c.args.self.now)) = λ i key. c.requires.ties.reads key i in
    subst (λ reading. (now : ℕ) → now < c.next_lapse.result → NoneLapsed now reading) same c.next_lapse.ensures
