use Rattle.std.proofs.Common.{◌≡◌, true, sym, ap, ◌∙◌, None, Some}
use Rattle.key_shard.specs.Answers.{Release, release_by}
use Rattle.key_shard.specs.Shards.{is_out}
use Rattle.key_shard.specs.Kept.{shown}
use Rattle.key_shard.proofs.OutLemmas.{out-granted, owes-release, stands-found}
use Rattle.key_shard.proofs.bodies.Body.release.Goals as goal

pub end-requires-clause-answers : goal.end-requires-clause-answers
end-requires-clause-answers c =
    let out : is_out (shown c.args.self.now) c.args.grant ≡ true = sym c.is_out.ensures ∙ c.if-not-is_out.false in
    let granted = out-granted c.args.self.now c.args.grant c.requires.kept out in
    let stands = stands-found c.requires.kept.ties c.args.grant.key c.args.grant.token c.key.result c.token.result
    (Some c.in-Some.quar) c.key.ensures c.token.ensures c.in-Some.ensures in
    record {
      request = Release c.args.grant c.args.how;
      at_home = granted.1;
      owed = owes-release c.args.self.now c.args.grant c.args.how (Some c.in-Some.quar) c.requires.kept out c.requires.fits stands;
      answer = sym (ap (release_by c.args.grant c.args.how) stands);
    }

pub gone-requires-clause-answers : goal.gone-requires-clause-answers
gone-requires-clause-answers c =
    let out : is_out (shown c.args.self.now) c.args.grant ≡ true = sym c.is_out.ensures ∙ c.if-not-is_out.false in
    let granted = out-granted c.args.self.now c.args.grant c.requires.kept out in
    let stands =
    stands-found c.requires.kept.ties c.args.grant.key c.args.grant.token c.key.result c.token.result None c.key.ensures c.token.ensures c.in-None.ensures in
    record {
      request = Release c.args.grant c.args.how;
      at_home = granted.1;
      owed = owes-release c.args.self.now c.args.grant c.args.how None c.requires.kept out c.requires.fits stands;
      answer = sym (ap (release_by c.args.grant c.args.how) stands);
    }
