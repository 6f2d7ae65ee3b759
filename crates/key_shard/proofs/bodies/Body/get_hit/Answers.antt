use Rattle.std.proofs.Common.{ℕ, ◌≡◌, List, Some, sym, ap, subst, ◌∙◌}
use Rattle.key_shard.specs.declared.steps.Step.{Step}
use Rattle.key_shard.specs.declared.steps.Step.TheVariants.{Hit}
use Rattle.key_shard.specs.Answers.{Get}
use Rattle.key_shard.specs.declared.replies.Got.{Got}
use Rattle.key_shard.specs.declared.replies.Got.TheVariants as got
use Rattle.key_shard.specs.Replies.{ShowsGot}
use Rattle.key_shard.specs.Kept.{terms_of, steps_of}
use Rattle.key_shard.proofs.LookLemmas.{hit-at-any-time}
use Rattle.key_shard.proofs.bodies.Body.get_hit.Goals as goal

pub hit-requires-clause-answers : goal.hit-requires-clause-answers
hit-requires-clause-answers c =
    let look = c.in-Found.ensures in
    let value : List ℕ = c.unwrap-stamp.result.0.now in
    let stamp : ℕ = c.unwrap-stamp.result.1 in
    let peeked = rw c.unwrap-stamp.ensures at c.peek-found.ensures.value in
    let there : Some (value, stamp) ≡ Some look.0 = peeked ∙ c.requires.kept.ties.entries c.args.key ∙ look.1 in
    let same : (value, stamp) ≡ look.0 = cc in
    let hit : List ℕ × ℕ → Step = λ found. Hit c.args.key c.args.who c.args.floor found.0 found.1 in
    record {
      request = Get c.args.key c.args.who c.args.floor 0;
      at_home = c.requires.home;
      owed = tt;
      answer = ap (λ v. hit (v, stamp)) c.in_ok-value-in-Found.ensures ∙ ap hit same ∙ sym look.2;
    }

pub returns-in_ok-hit-in-Found-clause-shows : goal.returns-in_ok-hit-in-Found-clause-shows
returns-in_ok-hit-in-Found-clause-shows c now =
    let old = c.args.self.now in
    let look = c.in-Found.ensures in
    let value : List ℕ = c.unwrap-stamp.result.0.now in
    let stamp : ℕ = c.unwrap-stamp.result.1 in
    let peeked = rw c.unwrap-stamp.ensures at c.peek-found.ensures.value in
    let there : Some (value, stamp) ≡ Some look.0 = peeked ∙ c.requires.kept.ties.entries c.args.key ∙ look.1 in
    let same : (value, stamp) ≡ look.0 = cc in
    let hit : List ℕ × ℕ → Got = λ found. got.Hit found.0 found.1 in
    subst (λ step. ShowsGot step c.in_ok-hit-in-Found.field-0)
    (sym (hit-at-any-time (terms_of old) (steps_of old) c.args.key c.args.who c.args.floor 0 now look.0.0 look.0.1 look.2))
    (c.in_ok-hit-in-Found.ensures.shows ∙ ap (λ v. hit (v, stamp)) c.in_ok-value-in-Found.ensures ∙ ap hit same)
