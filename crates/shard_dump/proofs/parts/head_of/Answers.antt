use Rattle.std.proofs.Common.{◌≡◌, ap, sym, ◌∙◌, ◌++◌, ◌∷◌, decimal, ℕ, subst, arith}
use Rattle.shard_dump.specs.Texts.{IsHead, HasNoHead}
use Rattle.shard_dump.proofs.TextLemmas.{if_none}
use Rattle.shard_dump.proofs.ReadLemmas.{shard_behind, count_behind, rows_behind, head_joined, same_head}
use Rattle.shard_dump.proofs.parts.head_of.Goals as goal

pub returns-in_err-count-clause-none : goal.returns-in_err-count-clause-none
returns-in_err-count-clause-none c =
    if_none _ (HasNoHead c.args.text.now)
    (λ head rest right e.
    let first = shard_behind head c.in_ok-shard.shard c.args.text.now c.in_ok-rest.rest.now c.in_ok-shard.rest.now rest right
    c.in_ok-rest.ensures.found e c.in_ok-shard.ensures.small c.in_ok-shard.ensures.found in
    c.in_err-count.ensures.none head.count _ (omega (arith, right.few_shards)) first.1)

pub returns-in_err-rows-clause-none : goal.returns-in_err-rows-clause-none
returns-in_err-rows-clause-none c =
    if_none _ (HasNoHead c.args.text.now)
    (λ head rest right e.
    let first = shard_behind head c.in_ok-shard.shard c.args.text.now c.in_ok-rest.rest.now c.in_ok-shard.rest.now rest right
    c.in_ok-rest.ensures.found e c.in_ok-shard.ensures.small c.in_ok-shard.ensures.found in
    let second = count_behind head c.in_ok-count.count c.in_ok-shard.rest.now c.in_ok-count.rest.now rest right first.1
    c.in_ok-count.ensures.small c.in_ok-count.ensures.found in
    c.in_err-rows.ensures.none head.rows _ (omega (arith, right.few_rows)) second.1)

pub returns-in_err-of-clause-none : goal.returns-in_err-of-clause-none
returns-in_err-of-clause-none c =
    if_none _ (HasNoHead c.args.text.now)
    (λ head rest right e.
    let first = shard_behind head c.in_ok-shard.shard c.args.text.now c.in_ok-rest.rest.now c.in_ok-shard.rest.now rest right
    c.in_ok-rest.ensures.found e c.in_ok-shard.ensures.small c.in_ok-shard.ensures.found in
    let second = count_behind head c.in_ok-count.count c.in_ok-shard.rest.now c.in_ok-count.rest.now rest right first.1
    c.in_ok-count.ensures.small c.in_ok-count.ensures.found in
    let third = rows_behind head c.in_ok-rows.rows c.in_ok-count.rest.now c.in_ok-rows.rest.now rest right second.1
    c.in_ok-rows.ensures.small c.in_ok-rows.ensures.found in
    c.in_err-of.ensures.none (subst IsHead (same_head head c.in_ok-shard.shard c.in_ok-count.count c.in_ok-rows.rows first.0 second.0 third.0) right))

pub returns-clause-found : goal.returns-clause-found
returns-clause-found c =
    head_joined c.in_ok-of.field-0 c.args.text.now c.in_ok-rest.rest.now c.in_ok-shard.rest.now c.in_ok-count.rest.now c.in_ok-rows.rest.now
    c.in_ok-rest.ensures.found
    (c.in_ok-shard.ensures.found ∙ ap (λ (n : ℕ). decimal n ++ 32 ∷ c.in_ok-shard.rest.now) (sym c.in_ok-of.ensures.shard))
    (c.in_ok-count.ensures.found ∙ ap (λ (n : ℕ). decimal n ++ 32 ∷ c.in_ok-count.rest.now) (sym c.in_ok-of.ensures.count))
    (c.in_ok-rows.ensures.found ∙ ap (λ (n : ℕ). decimal n ++ 10 ∷ c.in_ok-rows.rest.now) (sym c.in_ok-of.ensures.rows))
