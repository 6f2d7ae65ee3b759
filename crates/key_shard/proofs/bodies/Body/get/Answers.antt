use Rattle.std.proofs.Common.{ℕ, ◌≡◌, List, Some, sym, ap, ◌∙◌}
use Rattle.key_shard.specs.declared.steps.Step.{Step}
use Rattle.key_shard.specs.declared.steps.Step.TheVariants.{Hit}
use Rattle.key_shard.specs.Answers.{Get}
use Rattle.key_shard.proofs.bodies.Body.get.Goals as goal

pub own-requires-clause-answers : goal.own-requires-clause-answers
own-requires-clause-answers c =
    record { request = Get c.args.key c.args.who c.args.floor c.args.now; at_home = c.requires.home; owed = tt; answer = sym c.in-Own.ensures }

pub hit-requires-clause-answers : goal.hit-requires-clause-answers
hit-requires-clause-answers c =
    let look = c.in-Found.ensures in
    let old = c.args.self.now in
    let value : List ℕ = c.unwrap-stamp.result.0.now in
    let stamp : ℕ = c.unwrap-stamp.result.1 in
    let peeked = rw c.unwrap-stamp.ensures at c.peek-found.ensures.value in
    let there : Some (value, stamp) ≡ Some look.0 = peeked ∙ c.requires.kept.ties.entries c.args.key ∙ look.1 in
    let same : (value, stamp) ≡ look.0 = cc in
    let hit : List ℕ × ℕ → Step = λ found. Hit c.args.key c.args.who c.args.floor found.0 found.1 in
    record {
      request = Get c.args.key c.args.who c.args.floor c.args.now;
      at_home = c.requires.home;
      owed = tt;
      answer = ap (λ v. hit (v, stamp)) c.in_ok-value-in-Found.ensures ∙ ap hit same ∙ sym look.2;
    }

pub again-requires-clause-answers : goal.again-requires-clause-answers
again-requires-clause-answers c =
    record {
      request = Get c.args.key c.args.who c.args.floor c.args.now;
      at_home = c.requires.home;
      owed = tt;
      answer = sym c.in-Waits.ensures;
    }

pub lease-requires-clause-answers : goal.lease-requires-clause-answers
lease-requires-clause-answers c =
    record {
      request = Get c.args.key c.args.who c.args.floor c.args.now;
      at_home = c.requires.home;
      owed = tt;
      answer = sym c.in-Free.ensures.1;
    }
