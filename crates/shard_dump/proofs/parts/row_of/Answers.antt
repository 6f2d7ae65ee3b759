use Rattle.std.proofs.Common.{◌≡◌, ◌≢◌, ap, sym, ◌∙◌, ◌++◌, ◌∷◌, ℕ, arith, subst}
use Rattle.std.specs.Prelude.{All}
use Rattle.rows_model.specs.declared.keys.QKey.{QKey}
use Rattle.rows_model.specs.Placement.{shard_of}
use Rattle.shard_dump.specs.Texts.{HasNoRow}
use Rattle.shard_dump.proofs.TextLemmas.{if_none, key_cut, bytes_cut, has_it, row_regrouped}
use Rattle.shard_dump.proofs.ReadLemmas.{key_parsed, key_is_text}
use Rattle.shard_dump.proofs.parts.row_of.Goals as goal

pub returns-in_err-word-clause-none : goal.returns-in_err-word-clause-none
returns-in_err-word-clause-none c =
    if_none _ (HasNoRow c.args.head c.args.text.now) (λ row rest right e. has_it 32 _ _ (subst (All (λ (b : ℕ). b ≢ 32)) (e ∙ row_regrouped row rest) c.in_err-word.ensures.none))

pub returns-in_err-key-clause-none : goal.returns-in_err-key-clause-none
returns-in_err-key-clause-none c =
    if_none _ (HasNoRow c.args.head c.args.text.now)
    (λ row rest right e.
    let key = key_cut c.args.head row c.args.text.now c.in_ok-word.word.now c.in_ok-word.rest.now rest right
    c.in_ok-word.ensures.found c.in_ok-word.ensures.first e in
    c.in_err-key.ensures.none row.key (key_is_text c.args.head row c.in_ok-word.word.now right key.0))

pub returns-then-shard_number-head-clause-none : goal.returns-then-shard_number-head-clause-none
returns-then-shard_number-head-clause-none c row rest right e =
    let key = key_cut c.args.head row c.args.text.now c.in_ok-word.word.now c.in_ok-word.rest.now rest right
    c.in_ok-word.ensures.found c.in_ok-word.ensures.first e in
    let same = key_parsed c.args.head row c.in_ok-key.key c.in_ok-word.word.now right c.in_ok-key.ensures.found key.0 in
    c.if-shard_number-head.true (c.shard_number.ensures ∙ ap (λ (k : QKey). shard_of k c.args.head.count) same ∙ right.at_home)

pub returns-in_err-bytes-clause-none : goal.returns-in_err-bytes-clause-none
returns-in_err-bytes-clause-none c =
    if_none _ (HasNoRow c.args.head c.args.text.now)
    (λ row rest right e.
    let key = key_cut c.args.head row c.args.text.now c.in_ok-word.word.now c.in_ok-word.rest.now rest right
    c.in_ok-word.ensures.found c.in_ok-word.ensures.first e in
    c.in_err-bytes.ensures.none _ _ (omega (arith, right.short)) key.1)

pub returns-then-bytes-gt-MOST_BYTES-clause-none : goal.returns-then-bytes-gt-MOST_BYTES-clause-none
returns-then-bytes-gt-MOST_BYTES-clause-none c row rest right e =
    let key = key_cut c.args.head row c.args.text.now c.in_ok-word.word.now c.in_ok-word.rest.now rest right
    c.in_ok-word.ensures.found c.in_ok-word.ensures.first e in
    let bytes = bytes_cut c.args.head row c.in_ok-bytes.bytes c.in_ok-word.rest.now c.in_ok-bytes.rest.now rest right
    c.in_ok-bytes.ensures.small c.in_ok-bytes.ensures.found key.1 in
    absurd (omega (arith, right.short, bytes.0))

pub returns-in_err-value-clause-none : goal.returns-in_err-value-clause-none
returns-in_err-value-clause-none c =
    if_none _ (HasNoRow c.args.head c.args.text.now)
    (λ row rest right e.
    let key = key_cut c.args.head row c.args.text.now c.in_ok-word.word.now c.in_ok-word.rest.now rest right
    c.in_ok-word.ensures.found c.in_ok-word.ensures.first e in
    let bytes = bytes_cut c.args.head row c.in_ok-bytes.bytes c.in_ok-word.rest.now c.in_ok-bytes.rest.now rest right
    c.in_ok-bytes.ensures.small c.in_ok-bytes.ensures.found key.1 in
    c.in_err-value.ensures.none row.value rest (sym bytes.0) bytes.1)
