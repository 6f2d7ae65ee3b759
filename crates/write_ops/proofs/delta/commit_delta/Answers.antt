use Rattle.std.proofs.Common.{refl, sym, ap}
use Rattle.std.specs.Option.{option_and_then}
use Rattle.key_shard.specs.declared.replies.How.TheVariants as hows
use Rattle.key_shard.specs.Past.{entry, entry_shifted}
use Rattle.key_shard.specs.Shards.{past_of}
use Rattle.write_ops.specs.Releases.{shifted_entry}
use Rattle.write_ops.proofs.ReleaseLemmas.{leaves-entry}
use Rattle.write_ops.proofs.delta.commit_delta.Goals as goal

pub returns-clause-leaves : goal.returns-clause-leaves
returns-clause-leaves c out =
    let past = past_of c.args.shard.now in
    let stamp = c.args.stamp in
    leaves-entry c.args.shard.now c.release.new.self c.args.grant (hows.Shift stamp) (shifted_entry stamp c.args.grant past) c.release.result (λ quar. refl)
    (λ quar stands. ap (option_and_then (λ quar. entry_shifted quar.shift stamp (entry c.args.grant.key past))) (sym stands))
    (c.release.ensures.out out) (c.release.ensures.shows out)
