use Rattle.std.proofs.Common.{rules, ℕ, ◌≡◌, ◌<◌, ◌^◌, ◌++◌, ◌∷◌, length, length-append, arith, sym, ap, ◌∙◌}
use Rattle.std.proofs.lemmas.Result.{IfOk-weaker, IfErr-weaker}
use Rattle.cache_file.specs.Texts.{head_text, IsCacheText, IsFaultOf, IsNoCache}
use Rattle.cache_file.specs.Reading.{IsBody, IsNoBody}
use Rattle.cache_file.proofs.PartLemmas.{fault_more}
use Rattle.cache_file.proofs.LineLemmas.{no_line, other_line, no_body, one_cache, line_joined}
use Rattle.cache_file.proofs.reading.read_cache.Goals as goal

pub returns-in_default-clause-bad : goal.returns-in_default-clause-bad
returns-in_default-clause-bad c = no_line c.args.count c.args.text.now c.in_default.ensures.none

pub returns-then-ne-clause-bad : goal.returns-then-ne-clause-bad
returns-then-ne-clause-bad c =
    let small : c.args.count < 2 ^ 64 = omega (arith, c.ranges.count) in
    let other : c.in-Some.line.now ≡ c.in_ok-right.right.items → ⊥ = search rules in
    let right : c.in_ok-right.right.items ≡ head_text c.args.count c.in-Some.body.now =
    c.in_ok-right.ensures ∙ ap (λ (n : ℕ). head_text n c.in-Some.body.now) c.from.ensures in
    other_line c.args.count c.args.text.now c.in-Some.line.now c.in-Some.body.now small c.in-Some.ensures.found c.in-Some.ensures.first (λ same. other (same ∙ sym right))

pub returns-clause-found : goal.returns-clause-found
returns-clause-found c =
    let same : c.in-Some.line.now ≡ c.in_ok-right.right.items = search rules in
    let right : c.in_ok-right.right.items ≡ head_text c.args.count c.in-Some.body.now =
    c.in_ok-right.ensures ∙ ap (λ (n : ℕ). head_text n c.in-Some.body.now) c.from.ensures in
    IfOk-weaker c.dumps_in.result (λ dumps. IsBody c.args.count c.in-Some.body.now dumps.items) (λ dumps. IsCacheText c.args.count c.args.text.now dumps.items)
    (λ dumps h. line_joined c.args.count c.args.text.now c.in-Some.line.now c.in-Some.body.now dumps.items c.in-Some.ensures.found (same ∙ right) h) c.dumps_in.ensures.found

pub returns-clause-only : goal.returns-clause-only
returns-clause-only c dumps h =
    let small : c.args.count < 2 ^ 64 = omega (arith, c.ranges.count) in
    let whole : length c.args.text.now ≡ length (c.in-Some.line.now ++ 10 ∷ c.in-Some.body.now) = ap length c.in-Some.ensures.found in
    let parts = length-append c.in-Some.line.now (10 ∷ c.in-Some.body.now) in
    let short : length c.in-Some.body.now < 2 ^ 64 = omega (arith, whole, parts) in
    IfOk-weaker c.dumps_in.result (λ read. IsBody c.args.count c.in-Some.body.now read.items) (λ read. read.items ≡ dumps)
    (λ read k. one_cache c.args.count c.args.text.now c.in-Some.line.now c.in-Some.body.now read.items dumps small short c.in-Some.ensures.found c.in-Some.ensures.first k h)
    c.dumps_in.ensures.found

pub returns-clause-bad : goal.returns-clause-bad
returns-clause-bad c =
    let small : c.args.count < 2 ^ 64 = omega (arith, c.ranges.count) in
    IfErr-weaker c.dumps_in.result (IsFaultOf (IsNoBody c.args.count c.in-Some.body.now)) (IsFaultOf (IsNoCache c.args.count c.args.text.now))
    (λ fault h. fault_more (IsNoBody c.args.count c.in-Some.body.now) (IsNoCache c.args.count c.args.text.now) fault
    (no_body c.args.count c.args.text.now c.in-Some.line.now c.in-Some.body.now small c.in-Some.ensures.found c.in-Some.ensures.first) h)
    c.dumps_in.ensures.none
