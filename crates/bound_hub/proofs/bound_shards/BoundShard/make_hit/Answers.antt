use Rattle.std.proofs.Common.{◌≡◌, IfSome, sym, ap, subst, ◌∙◌}
use Rattle.rows_model.specs.Placement.{shard_of}
use Rattle.key_shard.specs.Answers.{get_step}
use Rattle.key_shard.specs.Replies.{ShowsGot}
use Rattle.key_shard.specs.Shards.{ShardView, past_of, stepped}
use Rattle.shard_lock.specs.Names.{IsNamed, IsTokenOf}
use Rattle.log_word.specs.declared.events.Short.{Short}
use Rattle.log_word.specs.Steps.{IsBorneOut}
use Rattle.log_word.specs.Views.{with_step}
use Rattle.bound_hub.specs.Ties.{BoundShardView}
use Rattle.bound_hub.specs.Gets.{IsGotHeld}
use Rattle.bound_hub.proofs.GotTies.{got_is_borne_out, hit_is_there, bound_with_got, got_is_held}
use Rattle.bound_hub.proofs.bound_shards.BoundShard.make_hit.Goals as goal

pub has_entry-has-requires : goal.has_entry-has-requires
has_entry-has-requires g c =
    let shard = c.self.inside.shard in
    let key = c.args.key in
    let step = get_step shard.terms (past_of shard) key c.args.who c.args.floor 0 in
    let ensured = c.in-Ok-Some.ensures in
    let shows = subst (λ o. IfSome o (ShowsGot (get_step shard.terms (past_of shard) c.args.key c.args.who c.args.floor 0))) c.in-Ok-Some.field-0-is (ensured.shows 0) in
    let made = subst (λ o. IfSome o (λ got. c.get_hit.new.self ≡ stepped shard (get_step shard.terms (past_of shard) c.args.key c.args.who c.args.floor 0)))
    c.in-Ok-Some.field-0-is (ensured.step 0) in
    let home = subst (λ (v : BoundShardView). shard_of key v.shard.terms.count ≡ v.shard.terms.no) (sym c.self.view_is) c.requires.home in
    record {
      hit = λ value stamp is.
          hit_is_there g.H.BoundName.word g.H.HubName.opening g.H.BoundName.before shard c.self.inside.pass c.self.invariant.2
          c.args.key c.args.who c.args.floor 0 c.in-Ok-Some.got home shows c.get_hit.new.self made value stamp is;
    }

pub tell-note-requires-clause-borne_out : goal.tell-note-requires-clause-borne_out
tell-note-requires-clause-borne_out g c =
    let shard = c.self.inside.shard in
    let pass = c.self.inside.pass in
    let key = c.args.key in
    let ensured = c.in-Ok-Some.ensures in
    let shows = subst (λ o. IfSome o (ShowsGot (get_step shard.terms (past_of shard) c.args.key c.args.who c.args.floor 0))) c.in-Ok-Some.field-0-is (ensured.shows 0) in
    let made = subst (λ o. IfSome o (λ got. c.get_hit.new.self ≡ stepped shard (get_step shard.terms (past_of shard) c.args.key c.args.who c.args.floor 0)))
    c.in-Ok-Some.field-0-is (ensured.step 0) in
    let answer = c.in-Ok-Some.got in
    let step = get_step shard.terms (past_of shard) key c.args.who c.args.floor 0 in
    let home = subst (λ (v : BoundShardView). shard_of key v.shard.terms.count ≡ v.shard.terms.no) (sym c.self.view_is) c.requires.home in
    let bound = c.self.invariant.2 in
    subst (IsBorneOut pass.seen.events) (sym c.got_short-short.ensures)
    (got_is_borne_out g.H.BoundName.word g.H.HubName.opening g.H.BoundName.before shard pass bound key c.args.who c.args.floor 0 answer home shows c.has_entry-has.result)

pub invariant_of-self-2 : goal.invariant_of-self-2
invariant_of-self-2 g c =
    let shard = c.self.inside.shard in
    let pass = c.self.inside.pass in
    let key = c.args.key in
    let ensured = c.in-Ok-Some.ensures in
    let shows = subst (λ o. IfSome o (ShowsGot (get_step shard.terms (past_of shard) c.args.key c.args.who c.args.floor 0))) c.in-Ok-Some.field-0-is (ensured.shows 0) in
    let made = subst (λ o. IfSome o (λ got. c.get_hit.new.self ≡ stepped shard (get_step shard.terms (past_of shard) c.args.key c.args.who c.args.floor 0)))
    c.in-Ok-Some.field-0-is (ensured.step 0) in
    let answer = c.in-Ok-Some.got in
    let step = get_step shard.terms (past_of shard) key c.args.who c.args.floor 0 in
    let home = subst (λ (v : BoundShardView). shard_of key v.shard.terms.count ≡ v.shard.terms.no) (sym c.self.view_is) c.requires.home in
    let bound = c.self.invariant.2 in
    let has = c.has_entry-has.ensures in
    let seen = c.tell-note.ensures.seen ∙ ap (λ (x : Short). with_step pass.shard x pass.seen) c.got_short-short.ensures in (
      subst (λ (v : ShardView). IsNamed g.H.HubName.terms v) (sym made) c.self.invariant.0,
      subst (λ (v : ShardView). IsTokenOf v.terms.no c.self.inside.token.parts c.self.inside.token.amount) (sym made) c.self.invariant.1,
      bound_with_got g.H.BoundName.word g.H.HubName.opening g.H.BoundName.before shard pass bound key c.args.who c.args.floor 0 answer home
          shows c.sound.ensures c.get_hit.new.self c.tell-note.new.self c.has_entry-has.result made has c.tell-note.ensures.word c.tell-note.ensures.shard seen,
    )

pub returns-clause-held : goal.returns-clause-held
returns-clause-held g c =
    let shard = c.self.inside.shard in
    let pass = c.self.inside.pass in
    let key = c.args.key in
    let ensured = c.in-Ok-Some.ensures in
    let shows = subst (λ o. IfSome o (ShowsGot (get_step shard.terms (past_of shard) c.args.key c.args.who c.args.floor 0))) c.in-Ok-Some.field-0-is (ensured.shows 0) in
    let made = subst (λ o. IfSome o (λ got. c.get_hit.new.self ≡ stepped shard (get_step shard.terms (past_of shard) c.args.key c.args.who c.args.floor 0)))
    c.in-Ok-Some.field-0-is (ensured.step 0) in
    let answer = c.in-Ok-Some.got in
    let step = get_step shard.terms (past_of shard) key c.args.who c.args.floor 0 in
    let home = subst (λ (v : BoundShardView). shard_of key v.shard.terms.count ≡ v.shard.terms.no) (sym c.self.view_is) c.requires.home in
    let bound = c.self.invariant.2 in
    let has = c.has_entry-has.ensures in
    let seen = c.tell-note.ensures.seen ∙ ap (λ (x : Short). with_step pass.shard x pass.seen) c.got_short-short.ensures in
    subst (λ (v : BoundShardView). IsGotHeld g.H.HubName.opening (g.H.BoundName.before v.shard.terms.no) v.shard.terms.no c.tell-note.new.self.seen key answer) c.self.view_is
    (got_is_held g.H.BoundName.word g.H.HubName.opening g.H.BoundName.before shard pass bound key c.args.who c.args.floor 0 answer home
    shows c.sound.ensures c.get_hit.new.self c.tell-note.new.self c.has_entry-has.result made has c.tell-note.ensures.word c.tell-note.ensures.shard seen)

pub returns-clause-step : goal.returns-clause-step
returns-clause-step g c now =
    let shard = c.self.inside.shard in
    let made = subst (λ o. IfSome o (λ got. c.get_hit.new.self ≡ stepped shard (get_step shard.terms (past_of shard) c.args.key c.args.who c.args.floor now)))
    c.in-Ok-Some.field-0-is (c.in-Ok-Some.ensures.step now) in
    subst (λ (v : BoundShardView). c.get_hit.new.self ≡ stepped v.shard (get_step v.shard.terms (past_of v.shard) c.args.key c.args.who c.args.floor now))
    c.self.view_is made
