use Rattle.std.proofs.Common.{sym, ◌∙◌}
use Rattle.key_shard.specs.Permit.{same_permit}
use Rattle.key_shard.specs.Kept.{permit_of}
use Rattle.key_shard.proofs.OutLemmas.{any-map}
use Rattle.key_shard.proofs.bodies.Body.is_out.Goals as goal

pub returns : goal.returns
returns c =
    c.has.ensures ∙ sym (any-map (same_permit c.args.grant.now) (permit_of c.args.self.now.no) c.args.self.now.out)
