use Rattle.std.proofs.Common.{rules, ◌≡◌, ◌∷◌, [], List, reverse, subst, sym, ap, ◌∙◌}
use Rattle.std.proofs.lemmas.List.{reverse-append, reverse-reverse}
use Rattle.shard_dump.specs.declared.rows.DumpRow.{DumpRow}
use Rattle.shard_dump.proofs.LoadLemmas.{IsLoading, MayLoad, loading_starts, loading_more, loading_stops, may_load}
use Rattle.shard_dump.proofs.loads.load_rows.Goals as goal
use Rattle.shard_dump.proofs.loads.load_rows.Goals.{In-Some}

pub loop-row-init : goal.loop-row-init
loop-row-init c =
    let same : reverse c.reverse.new.self.items ≡ c.args.rows.items = ap (λ (rows : List DumpRow). reverse rows) c.reverse.ensures.items ∙ reverse-reverse c.args.rows.items in
    subst (λ (rest : List DumpRow). IsLoading c.args.who c.args.now c.args.rows.items rest c.args.shard.now c.args.shard.now) (sym same)
    (loading_starts c.args.who c.args.now c.args.rows.items c.args.shard.now c.requires.empty)

-- where loading is with a row in hand
in_hand : (c : In-Some) → IsLoading c.args.who c.args.now c.args.rows.items (c.in-Some.row ∷ reverse c.pop.new.self.items) c.args.shard.now c.loop-row.shard
in_hand c =
    let same : reverse c.loop-row.rows.items ≡ c.in-Some.row ∷ reverse c.pop.new.self.items =
    ap (λ (rows : List DumpRow). reverse rows) c.in-Some.ensures.items ∙ reverse-append c.pop.new.self.items (c.in-Some.row ∷ []) in
    subst (λ (rest : List DumpRow). IsLoading c.args.who c.args.now c.args.rows.items rest c.args.shard.now c.loop-row.shard) same c.loop-row.invariant

may : (c : In-Some) → MayLoad c.loop-row.shard c.in-Some.row
may c =
    may_load c.args.who c.args.now c.args.rows.items c.in-Some.row (reverse c.pop.new.self.items) c.args.shard.now c.loop-row.shard
    (in_hand c) c.requires.differ c.requires.home c.requires.few

pub load_row-requires-clause-home : goal.load_row-requires-clause-home
load_row-requires-clause-home c = (may (goal.at.load_row-requires-clause-home c).In-Some).home

pub load_row-requires-clause-blank : goal.load_row-requires-clause-blank
load_row-requires-clause-blank c = (may (goal.at.load_row-requires-clause-blank c).In-Some).blank

pub load_row-requires-clause-roomy : goal.load_row-requires-clause-roomy
load_row-requires-clause-roomy c = (may (goal.at.load_row-requires-clause-roomy c).In-Some).roomy

pub loop-row-preserved : goal.loop-row-preserved
loop-row-preserved c =
    loading_more c.args.who c.args.now c.args.rows.items c.in-Some.row (reverse c.pop.new.self.items) c.args.shard.now c.loop-row.shard c.load_row.new.shard
    (in_hand (goal.at.loop-row-preserved c).In-Some) c.requires.differ c.in_ok-load_row.ensures.ok c.in_ok-load_row.ensures.token

pub returns-in_err-load_row-clause-shard : goal.returns-in_err-load_row-clause-shard
returns-in_err-load_row-clause-shard c =
    let stops = loading_stops c.args.who c.args.now c.args.rows.items c.in-Some.row (reverse c.pop.new.self.items) c.args.shard.now c.loop-row.shard
    c.load_row.new.shard c.in_err-load_row.field-0.0 (in_hand (goal.at.returns-in_err-load_row-clause-shard c).In-Some) c.requires.differ c.requires.home
    c.requires.few c.in_err-load_row.ensures.err in
    search (rules, stops)
