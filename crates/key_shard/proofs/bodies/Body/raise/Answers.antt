use Rattle.std.proofs.Common.{◌≡◌, true, sym, ◌∙◌}
use Rattle.case_tables.specs.declared.grids.Verdict.TheVariants as verdicts
use Rattle.key_shard.specs.Past.{standing}
use Rattle.key_shard.specs.Kept.{shown, terms_of, steps_of}
use Rattle.key_shard.specs.Shards.{is_out}
use Rattle.key_shard.proofs.GrantLemmas.{raise-gone}
use Rattle.key_shard.proofs.LegalLemmas.{legal_stands_well}
use Rattle.key_shard.proofs.OutLemmas.{out-stands}
use Rattle.key_shard.proofs.OutRaises.{raise-answers, raise-judged, raise-none, raise-found}
use Rattle.key_shard.proofs.bodies.Body.raise.Goals as goal

pub lift-requires-clause-answers : goal.lift-requires-clause-answers
lift-requires-clause-answers c =
    raise-judged c.args.self.now c.args.grant c.requires.kept (sym c.is_out.ensures ∙ c.if-not-is_out.false) c.requires.invalidate c.key.result
    c.sid.result c.token.result c.judge_raise.result verdicts.Raise c.key.ensures c.sid.ensures c.token.ensures c.judge_raise.ensures c.in-Raise.is

pub share-requires-clause-answers : goal.share-requires-clause-answers
share-requires-clause-answers c =
    raise-judged c.args.self.now c.args.grant c.requires.kept (sym c.is_out.ensures ∙ c.if-not-is_out.false) c.requires.invalidate c.key.result
    c.sid.result c.token.result c.judge_raise.result verdicts.Refuse c.key.ensures c.sid.ensures c.token.ensures c.judge_raise.ensures c.in-Refuse.is

pub gone-requires : goal.gone-requires
gone-requires c =
    let body = c.args.self.now in
    let grant = c.args.grant in
    let out : is_out (shown body) grant ≡ true = sym c.is_out.ensures ∙ c.if-not-is_out.false in
    let judged_so = raise-found c.requires.kept.ties grant.key c.key.result grant.sid c.sid.result grant.token c.token.result c.judge_raise.result
    c.key.ensures c.sid.ensures c.token.ensures c.judge_raise.ensures in
    let none = raise-none (terms_of body) (steps_of body) grant (legal_stands_well (terms_of body) (steps_of body) c.requires.kept.ties.legal grant.key)
    (out-stands body grant c.requires.kept out) c.requires.invalidate
    (λ r. c.in_default.not-Raise (sym judged_so ∙ r)) (λ r. c.in_default.not-Refuse (sym judged_so ∙ r)) in
    record {
      kept = c.requires.kept;
      out = out;
      none = none;
      answers = raise-answers body grant c.requires.kept out c.requires.invalidate _ (sym (raise-gone grant (standing grant.key (steps_of body)) none));
    }
