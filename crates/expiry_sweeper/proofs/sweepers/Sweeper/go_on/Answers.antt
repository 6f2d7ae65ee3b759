use Rattle.std.proofs.Common.{◌≡◌, ◌+◌, ◌≤◌, ◌∙◌, refl, arith}
use Rattle.std.proofs.lemmas.Bool.{cond_above, cond_below}
use Rattle.expiry_sweeper.proofs.SweepLemmas.{next_of, follows_none_found}
use Rattle.expiry_sweeper.proofs.sweepers.Sweeper.go_on.Goals as goal
use Rattle.expiry_sweeper.proofs.sweepers.Sweeper.go_on.Goals.{then-next-self, else-next-self}

pub returns-clause-follows : goal.returns-clause-follows
returns-clause-follows c replies follows =
    let old = c.args.self.now in
    let next : c.if-next-self.self ≡ next_of old =
    elim c.if-next-self.branch [
      | then-next-self w ↦ w.self-is ∙ cond_below (old.shard + 1) old.shards (old.shard + 1) 0 w.if-next-self.true
      | else-next-self w ↦ let last : old.shards ≤ old.shard + 1 =
          omega (arith, w.if-next-self.false) in cond_above (old.shard + 1) old.shards (old.shard + 1) 0 c.if-next-self.self last w.self-is
    ] in
    follows_none_found old _ old.shard replies c.requires refl next refl follows
