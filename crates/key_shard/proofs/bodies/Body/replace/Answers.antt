use Rattle.std.proofs.Common.{◌≡◌, true, sym, ap, ◌∙◌, None, Some}
use Rattle.key_shard.specs.Answers.{Replace, replace_by}
use Rattle.key_shard.specs.Shards.{is_out}
use Rattle.key_shard.specs.Kept.{shown, steps_of, terms_of}
use Rattle.key_shard.proofs.OutLemmas.{out-granted, owes-replace, stands-found}
use Rattle.key_shard.proofs.bodies.Body.replace.Goals as goal

pub put-requires-clause-answers : goal.put-requires-clause-answers
put-requires-clause-answers c =
    let old = c.args.self.now in
    let out : is_out (shown old) c.args.grant ≡ true = sym c.is_out.ensures ∙ c.if-not-is_out.false in
    let granted = out-granted old c.args.grant c.requires.kept out in
    let stands = stands-found c.requires.kept.ties c.args.grant.key c.args.grant.token c.key.result c.token.result
    (Some c.in-Some.quar) c.key.ensures c.token.ensures c.in-Some.ensures in
    record {
      request = Replace c.args.grant c.args.value c.args.stamp;
      at_home = granted.1;
      owed = owes-replace old c.args.grant (Some c.in-Some.quar) c.requires.kept out c.requires.refresh stands;
      answer = sym (ap (replace_by (terms_of old) (steps_of old) c.args.grant c.args.value c.args.stamp) stands);
    }

pub gone-requires-clause-answers : goal.gone-requires-clause-answers
gone-requires-clause-answers c =
    let old = c.args.self.now in
    let out : is_out (shown old) c.args.grant ≡ true = sym c.is_out.ensures ∙ c.if-not-is_out.false in
    let granted = out-granted old c.args.grant c.requires.kept out in
    let stands =
    stands-found c.requires.kept.ties c.args.grant.key c.args.grant.token c.key.result c.token.result None c.key.ensures c.token.ensures c.in-None.ensures in
    record {
      request = Replace c.args.grant c.args.value c.args.stamp;
      at_home = granted.1;
      owed = owes-replace old c.args.grant None c.requires.kept out c.requires.refresh stands;
      answer = sym (ap (replace_by (terms_of old) (steps_of old) c.args.grant c.args.value c.args.stamp) stands);
    }
