use Rattle.key_shard.specs.Kept.{terms_of, steps_of}
use Rattle.key_shard.proofs.LapseLemmas.{void-answers}
use Rattle.key_shard.proofs.bodies.Body.end_lapsed.Goals as goal

pub void-requires-clause-answers : goal.void-requires-clause-answers
void-requires-clause-answers c =
    void-answers (terms_of c.args.self.now) (steps_of c.args.self.now) c.args.now c.args.lapse c.requires.kept.ties.legal c.requires.lapsed
