use Rattle.std.proofs.Common.{Some, None, length, refl, sym, ◌∙◌}
use Rattle.std.proofs.lemmas.Option.{slice_get_read}
use Rattle.core_history.proofs.SweptLemmas.{scan_reply_is}
use Rattle.core_history.proofs.sweeps.scan.Goals as goal

pub returns-in-Some-clause-told : goal.returns-in-Some-clause-told
returns-in-Some-clause-told c shape world has time =
    let shards = c.args.shards.now.items in
    let found = slice_get_read shards (length shards) c.args.shard c.index_mut.result.now refl c.requires c.index_mut.ensures.value in
    scan_reply_is shape world c.args.shard c.args.now shards c.index_mut.result.now (Some c.in-Some.due) has c.requires found time (sym c.in-Some.is
    ∙ c.expired.ensures.first)

pub returns-in-None-clause-told : goal.returns-in-None-clause-told
returns-in-None-clause-told c shape world has time =
    let shards = c.args.shards.now.items in
    let found = slice_get_read shards (length shards) c.args.shard c.index_mut.result.now refl c.requires c.index_mut.ensures.value in
    scan_reply_is shape world c.args.shard c.args.now shards c.index_mut.result.now None has c.requires found time (sym c.in-None.is ∙ c.expired.ensures.first)
