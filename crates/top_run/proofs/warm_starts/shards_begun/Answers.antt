use Rattle.top_run.specs.Serves.{serve_rolls, serve_shape}
use Rattle.top_run.specs.Works.{hub_terms}
use Rattle.top_run.proofs.WarmStartLemmas.{to_serve_still}
use Rattle.top_run.proofs.warm_starts.shards_begun.Goals as goal

pub returns-in-Err-clause-shards : goal.returns-in-Err-clause-shards
returns-in-Err-clause-shards g c =
    to_serve_still (hub_terms (serve_shape c.args.spec.now) serve_rolls) c.args.store.now c.shards_from.new.store c.args.new.items
    c.shards_from.ensures.asks_on c.requires.new
