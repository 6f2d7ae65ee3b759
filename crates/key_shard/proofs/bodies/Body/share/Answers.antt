use Rattle.std.proofs.Common.{◌≡◌, Some, IsSome, refl, sym, ap, subst, ◌∙◌}
use Rattle.lease_table.specs.Leases.{first, others_in}
use Rattle.key_shard.specs.declared.replies.Raising.TheVariants as raising
use Rattle.key_shard.specs.Past.{standing}
use Rattle.key_shard.specs.Answers.{Answers, shared_step}
use Rattle.key_shard.specs.Replies.{ShowsRaise}
use Rattle.key_shard.specs.Shards.{stepped}
use Rattle.key_shard.specs.Kept.{shown, terms_of, steps_of}
use Rattle.key_shard.proofs.OutRaises.{other-found, shared-named}
use Rattle.key_shard.proofs.bodies.Body.share.Goals as goal

pub unwrap-requires : goal.unwrap-requires
unwrap-requires c =
    subst IsSome (sym (other-found c.requires.kept.ties c.args.grant.key c.key-key.result c.args.grant.sid c.sid-sid.result c.other.result
    c.key-key.ensures c.sid-sid.ensures c.other.ensures)) c.requires.beside

pub note-requires-clause-answers : goal.note-requires-clause-answers
note-requires-clause-answers c =
    subst (Answers (terms_of c.args.self.now) (steps_of c.args.self.now)) (shared-named c.requires.kept.ties c.args.grant c.key-key.result
    c.sid-sid.result c.token-token.result c.other.result c.unwrap.result c.key-key.ensures c.sid-sid.ensures c.token-token.ensures c.other.ensures
    c.unwrap.ensures) c.requires.answers

pub returns-in-Ok-clause-step : goal.returns-in-Ok-clause-step
returns-in-Ok-clause-step c =
    c.in-Ok.ensures.ok ∙ ap (stepped (shown c.args.self.now)) (sym (shared-named c.requires.kept.ties c.args.grant c.key-key.result
    c.sid-sid.result c.token-token.result c.other.result c.unwrap.result c.key-key.ensures c.sid-sid.ensures c.token-token.ensures c.other.ensures
    c.unwrap.ensures))

pub returns-in-Ok-clause-shows : goal.returns-in-Ok-clause-shows
returns-in-Ok-clause-shows c =
    let judged_so = other-found c.requires.kept.ties c.args.grant.key c.key-key.result c.args.grant.sid c.sid-sid.result c.other.result
    c.key-key.ensures c.sid-sid.ensures c.other.ensures in
    let one : first (others_in c.args.grant.sid (standing c.args.grant.key (steps_of c.args.self.now))) ≡ Some c.unwrap.result =
    sym judged_so ∙ c.unwrap.ensures in
    subst (λ o. ShowsRaise (steps_of c.args.self.now) c.args.grant (shared_step c.args.grant o) (raising.Shared c.args.grant c.unwrap.result.sid))
    (sym one) refl
