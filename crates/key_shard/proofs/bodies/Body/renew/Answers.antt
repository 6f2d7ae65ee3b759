use Rattle.std.proofs.Common.{◌≡◌, true, Some, None, is_some, sym, ap, ◌∙◌}
use Rattle.key_shard.specs.Answers.{Renew, renew_by}
use Rattle.key_shard.specs.Kept.{shown, terms_of}
use Rattle.key_shard.specs.Shards.{is_out}
use Rattle.key_shard.proofs.OutLemmas.{out-granted, stands-found}
use Rattle.key_shard.proofs.OutRaises.{owes-renew}
use Rattle.key_shard.proofs.bodies.Body.renew.Goals as goal

pub prolong-requires-clause-answers : goal.prolong-requires-clause-answers
prolong-requires-clause-answers c =
    let body = c.args.self.now in
    let grant = c.args.grant.now in
    let out : is_out (shown body) grant ≡ true = sym c.is_out.ensures ∙ c.if-not-is_out.false in
    let granted = out-granted body grant c.requires out in
    let stands = stands-found c.requires.ties grant.key grant.token c.key.result c.token.result (Some c.in-Some.field-0)
    c.key.ensures c.token.ensures c.in-Some.ensures in
    record {
      request = Renew grant c.args.now;
      at_home = granted.1;
      owed = owes-renew body grant c.requires out;
      answer = sym (ap (renew_by (terms_of body) grant c.args.now) stands);
    }

pub prolong-requires-clause-stands : goal.prolong-requires-clause-stands
prolong-requires-clause-stands c =
    let grant = c.args.grant.now in
    ap is_some (stands-found c.requires.ties grant.key grant.token c.key.result c.token.result (Some c.in-Some.field-0)
    c.key.ensures c.token.ensures c.in-Some.ensures)

pub note_gone-requires-clause-answers : goal.note_gone-requires-clause-answers
note_gone-requires-clause-answers c =
    let body = c.args.self.now in
    let grant = c.args.grant.now in
    let out : is_out (shown body) grant ≡ true = sym c.is_out.ensures ∙ c.if-not-is_out.false in
    let granted = out-granted body grant c.requires out in
    let stands = stands-found c.requires.ties grant.key grant.token c.key.result c.token.result None
    c.key.ensures c.token.ensures c.in-None.ensures in
    record {
      request = Renew grant c.args.now;
      at_home = granted.1;
      owed = owes-renew body grant c.requires out;
      answer = sym (ap (renew_by (terms_of body) grant c.args.now) stands);
    }
